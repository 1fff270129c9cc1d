-- An audit never waits, on any log and over any scratch table: it plays good logs alone, whose commit records read objects of
-- the directory, and it hosts them all, so it decides each commit record by itself.
use Prim.Native.Nat.{ℕ, zero, suc, ◌+◌, ◌<◌}
use mathlib.Core.Path.{◌≡◌, refl, ap, ◌∙◌}
use mathlib.Core.Bool.{Bool, true, false, cond}
use mathlib.Core.List.{List, [], ◌∷◌}
use mathlib.Core.Option.{Option, none, some}
use native.Mathlib.Omega.{arith}
use lib.Dec.{leb}
use lib.ListN.{length}
use Rattle.lists.specs.Tests.{clash}
use Rattle.lists.specs.Sets.{meets}
use Rattle.model.specs.Objects.{Shape, ids, everything}
use Rattle.model.specs.Entries.{Write, Condition, Effect, writes, aside, tries, inert, effect, Log, writes_of, header_objects}
use Rattle.model.specs.Rules.{lowest_bad}
use Rattle.model.specs.Table.{Cell, lookup, capacity, apply}
use Rattle.model.specs.Play.{Played, going, waits, lacks, commits_over, whole, alone, make, finish, act, step, and_then, play}
use Rattle.model.specs.Answers.{Refusal, refuse, refuse_at, first_of, bad_frame, frame_and_entries}
use Rattle.model.specs.Replica.{plainly, audit_play, lowest_false, audit_given, audit}
use Rattle.model.specs.Claims.{NeverWaits}
use Rattle.model.specs.Worked.{code}
use Rattle.laws.proofs.Refusals.{all_pass, refuse_at-none}
use Rattle.laws.proofs.Appends.{good-kept}
use Rattle.claims.proofs.Audits.{hosted-reads}

abbrev is_waiting : Played → Bool
is_waiting (going cs) = false
is_waiting (waits q cs) = true
is_waiting (lacks q cs) = false

-- ---- a step that decides alone

module _ (sh : Shape) (log : Log) (set : List ℕ) (room p : ℕ) (cs : List Cell) (hosts : (n : ℕ) (c : Condition) → effect (log.entry p) ≡ tries n c → alone sh set c ≡ true) where
  make-on : (ws : List Write) → is_waiting (make set room p ws cs) ≡ false
  make-on ws = go (leb (length (apply set (p + 1) ws cs)) room)
    where
      go : (b : Bool) → is_waiting (cond b (going (apply set (p + 1) ws cs)) (lacks p cs)) ≡ false
      go true = refl
      go false = refl

  finish-on : (ws : List Write) (b : Bool) → is_waiting (finish set room p ws cs (some b)) ≡ false
  finish-on ws true = make-on ws
  finish-on ws false = refl

  act-on : (e : Effect) → effect (log.entry p) ≡ e → is_waiting (act sh log set room p cs e) ≡ false
  act-on (writes ws) e = make-on ws
  act-on (aside n ws) e = refl
  act-on (tries n c) e = rw (hosts n c e) (finish-on (writes_of log n p) (commits_over (lookup cs) (whole log p).won c))
  act-on inert e = refl

  step-on : is_waiting (step sh log set room p cs) ≡ false
  unfolding step
  step-on = go (meets set (header_objects log p (log.entry p)))
    where
      go : (b : Bool) → is_waiting (cond b (act sh log set room p cs (effect (log.entry p))) (going cs)) ≡ false
      go true = act-on (effect (log.entry p)) refl
      go false = refl

play-on : (sh : Shape) (log : Log) (set : List ℕ) (room p : ℕ) (cs : List Cell) (m : ℕ)
    → ((q : ℕ) → q < p + m → (n : ℕ) (c : Condition) → effect (log.entry q) ≡ tries n c → alone sh set c ≡ true)
    → is_waiting (play sh log set room p cs m) ≡ false
unfolding play
play-on sh log set room p cs zero hosts = refl
play-on sh log set room p cs (suc m) hosts = go (play sh log set room p cs m) (play-on sh log set room p cs m (λ q l. hosts q (omega arith)))
  where
    go : (x : Played) → is_waiting x ≡ false → is_waiting (and_then x (step sh log set room (p + m))) ≡ false
    go (going u) e = step-on sh log set room (p + m) u (hosts (p + m) (omega arith))
    go (waits q u) e = e
    go (lacks q u) e = e

-- ---- the audit

-- its play of a good log does not wait
pub no-wait {ℓ} : {P : Type ℓ} (sh : Shape) (log : Log) (room : ℕ) → lowest_bad sh log ≡ none → (q : ℕ) (cs : List Cell) → audit_play sh log room log.tail ≡ waits q cs → P
no-wait sh log room good q cs e =
    clash (is_waiting (audit_play sh log room log.tail)) (ap is_waiting e)
    (play-on sh log (ids sh) room 0 [] log.tail (λ q l n c i. hosted-reads sh log log.tail (good-kept sh log good) q n c (omega arith) i))

abbrev number_in : Option Refusal → ℕ
number_in none = 0
number_in (some r) = r.number

-- the refusals of a faulty directory and a bad log are 15, 1 and 2
low : (f : Option ℕ) (b : Bool) (x : Option ℕ) → number_in (first_of (refuse_at 15 f ∷ refuse 1 b ∷ refuse_at 2 x ∷ [])) ≡ 12 → ⊥
low (some k) b x e = omega arith
low none true x e = omega arith
low none false none e = omega arith
low none false (some o) e = omega arith

pub never-waits : (sh : Shape) → NeverWaits sh
unfolding audit
never-waits sh log scratch h = go (first_of (frame_and_entries sh log)) (lowest_false sh log room) (audit_play sh log room log.tail) refl refl h
  where
    room : ℕ
    room = capacity scratch

    go : (x : Option Refusal) (f : Option ℕ) (p : Played) → first_of (frame_and_entries sh log) ≡ x → audit_play sh log room log.tail ≡ p
        → (audit_given (everything sh) log.tail scratch f p x).answer ≡ plainly 12 → ⊥
    go (some r) f p i k e = low sh.fault (bad_frame sh.layout log) (lowest_bad sh log) (ap number_in i ∙ ap code e)
    go none none (going cs) i k e = let n : ◌≡◌ {A = ℕ} 0 12 = ap code e in omega arith
    go none (some o) (going cs) i k e = let n : ◌≡◌ {A = ℕ} 11 12 = ap code e in omega arith
    go none f (lacks q cs) i k e = let n : ◌≡◌ {A = ℕ} 13 12 = ap code e in omega arith
    go none f (waits q cs) i k e = no-wait sh log room (refuse_at-none 2 (lowest_bad sh log) (all_pass (frame_and_entries sh log) i).1.1.0) q cs k
