-- Where a play waits: a step waits exactly where its entry is blocked, so a play stops at the first blocked entry, or before it
-- for lack of room. By cases of the entry, then by induction over the entries played.
use Prim.Native.Nat.{ℕ, zero, suc, ◌+◌, ◌-◌, ◌<◌, ◌≤◌}
use mathlib.Core.Path.{◌≡◌, refl, ap, sym}
use mathlib.Core.Bool.{Bool, true, false, cond, not, ◌&&◌}
use mathlib.Core.List.{List}
use mathlib.Core.Option.{Option, none, some}
use native.Mathlib.Omega.{arith}
use native.Mathlib.Nat.{add-suc}
use borrow.Author.Tests.{eqb-true, eqb-false, not-true}
use lib.Dec.{eqb, leb}
use lib.ListN.{length}
use Rattle.lists.specs.Tests.{ands, both, clash}
use Rattle.lists.specs.Sets.{meets}
use Rattle.model.specs.Objects.{Shape}
use Rattle.model.specs.Entries.{Write, Entry, plain, numbered, commit, decision, checkpoint, blank, effect, Log, writes_of, commit_in, commit_objects, if_some, is_none, decided, header_objects}
use Rattle.model.specs.Table.{Cell, lookup, apply}
use Rattle.model.specs.Play.{Played, going, waits, lacks, commits_over, whole, alone, waits_at, says_commit, make, finish, act, step, and_then, play}
use Rattle.model.specs.Replica.{plainly, left_by}
use Rattle.model.specs.Histories.{is_refused}
use Rattle.model.specs.Terms.{Blocked, Ended, there, waiting, no_room}
use Rattle.model.specs.Claims.{Waiting}
use Rattle.model.specs.Worked.{code}
use Rattle.claims.proofs.Names.{outside-words, words-outside}
use Rattle.claims.proofs.Terms.{concerns-words, words-concerns, undecided-words, words-undecided}

-- what a step at p says of whether the entry there is blocked
abbrev StepWait : ℕ → Bool → Played → Type 0
StepWait p b (going cs) = b ≡ false
StepWait p b (waits q cs) = (q ≡ p) × (b ≡ true)
StepWait p b (lacks q cs) = (q ≡ p) × (b ≡ false)

module _ (set : List ℕ) (room p : ℕ) (cs : List Cell) where
  make-wait : (ws : List Write) → StepWait p false (make set room p ws cs)
  make-wait ws = go (leb (length (apply set (p + 1) ws cs)) room)
    where
      go : (b : Bool) → StepWait p false (cond b (going (apply set (p + 1) ws cs)) (lacks p cs))
      go true = refl
      go false = (refl, refl)

  told : (ws : List Write) (b : Bool) → StepWait p false (finish set room p ws cs (some b))
  told ws true = make-wait ws
  told ws false = refl

  commit-wait : (ws : List Write) (m a s : Bool) (v : Option ℕ) → StepWait p (m && not a && is_none v) (cond m (finish set room p ws cs (cond a (some s) (says_commit v))) (going cs))
  commit-wait ws false a s v = refl
  commit-wait ws true true s v = told ws s
  commit-wait ws true false s none = (refl, refl)
  commit-wait ws true false s (some v) = told ws (eqb v 1)

  idle-wait : (m : Bool) → StepWait p false (cond m (going cs) (going cs))
  idle-wait true = refl
  idle-wait false = refl

-- whether a replica waits at p, if this is the entry there
abbrev waits_by : Shape → Log → List ℕ → ℕ → Entry → Bool
waits_by sh log set p e =
    if_some (commit_in (effect e)) false (λ c. meets set (header_objects log p e) && not (alone sh set c.condition) && is_none (decided log p log.tail))

-- ---- in words

module _ (sh : Shape) (log : Log) (set : List ℕ) where
  pub waits-words : (q : ℕ) → waits_at sh log set q ≡ true → Blocked sh log set q
  unfolding waits_at header_objects
  waits-words q h = go (log.entry q) refl h
    where
      go : (e : Entry) → log.entry q ≡ e → waits_by sh log set q e ≡ true → Blocked sh log set q
      go (commit n c) i k =
          let far : not (alone sh set c) ≡ true = search ands in
          record {
            number = n;
            condition = c;
            here = i;
            concerns = concerns-words log set n q (search ands);
            outside = outside-words sh set c (not-true (alone sh set c) far);
            undecided = undecided-words log q log.tail (search ands);
          }
      go (plain ws) i k = clash false k refl
      go (numbered n ws) i k = clash false k refl
      go (decision r) i k = clash false k refl
      go (checkpoint o cs) i k = clash false k refl
      go blank i k = clash false k refl

  pub words-waits : (q : ℕ) → Blocked sh log set q → waits_at sh log set q ≡ true
  unfolding waits_at header_objects
  words-waits q b =
      let far : alone sh set b.condition ≡ false = words-outside sh set b.condition b.outside in
      rw b.here (both (both (words-concerns log set b.number q b.concerns) (ap not far)) (words-undecided log q log.tail b.undecided))

-- ---- steps and plays

module _ (sh : Shape) (log : Log) (set : List ℕ) (room : ℕ) where
  abbrev pub blocked : ℕ → Bool
  blocked q = waits_at sh log set q

  entry-wait : (p : ℕ) (cs : List Cell) (e : Entry)
      → StepWait p (waits_by sh log set p e) (cond (meets set (header_objects log p e)) (act sh log set room p cs (effect e)) (going cs))
  unfolding header_objects
  entry-wait p cs (plain ws) = go (meets set (header_objects log p (plain ws)))
    where
      go : (m : Bool) → StepWait p false (cond m (make set room p ws cs) (going cs))
      go true = make-wait set room p cs ws
      go false = refl
  entry-wait p cs (numbered n ws) = idle-wait set room p cs (meets set (header_objects log p (numbered n ws)))
  entry-wait p cs (commit n c) =
      commit-wait set room p cs (writes_of log n p) (meets set (commit_objects log p n)) (alone sh set c) (commits_over (lookup cs) (whole log p).won c) (decided log p log.tail)
  entry-wait p cs (decision r) = idle-wait set room p cs (meets set (header_objects log p (decision r)))
  entry-wait p cs (checkpoint o xs) = idle-wait set room p cs (meets set (header_objects log p (checkpoint o xs)))
  entry-wait p cs blank = idle-wait set room p cs (meets set (header_objects log p blank))

  -- no record from p up to q is blocked
  abbrev pub Clear : ℕ → ℕ → Type 0
  Clear p q = (p ≤ q) × ((x : ℕ) → p ≤ x → x < q → blocked x ≡ false)

  abbrev pub PlayWait : ℕ → ℕ → Played → Type 0
  PlayWait p n (going cs) = Clear p (p + n)
  PlayWait p n (waits q cs) = (q < p + n) × (blocked q ≡ true) × Clear p q
  PlayWait p n (lacks q cs) = (q < p + n) × (blocked q ≡ false) × Clear p q

  one_more : (p q : ℕ) → Clear p q → blocked q ≡ false → Clear p (suc q)
  one_more p q c b = (omega (arith, c.0), λ x l h. go x l h (eqb x q) refl)
    where
      less : (x : ℕ) → x < suc q → (x ≡ q → ⊥) → x < q
      less x h d = omega arith

      go : (x : ℕ) → p ≤ x → x < suc q → (e : Bool) → eqb x q ≡ e → blocked x ≡ false
      go x l h true e = rw (eqb-true x q e) b
      go x l h false e = c.1 x l (less x h (eqb-false x q e))

  pub play-wait : (p : ℕ) (cs : List Cell) (n : ℕ) → PlayWait p n (play sh log set room p cs n)
  unfolding play step waits_at
  play-wait p cs zero = (omega arith, λ x l h. absurd (omega arith))
  play-wait p cs (suc n) = go (play sh log set room p cs n) (play-wait p cs n)
    where
      took : (x : Played) → StepWait (p + n) (blocked (p + n)) x → Clear p (p + n) → PlayWait p (suc n) x
      took (going u) w c = rw add-suc (one_more p (p + n) c w)
      took (waits q u) w c = (omega (arith, w.0), rw w.0 w.1, rw w.0 c)
      took (lacks q u) w c = (omega (arith, w.0), rw w.0 w.1, rw w.0 c)

      go : (x : Played) → PlayWait p n x → PlayWait p (suc n) (and_then x (step sh log set room (p + n)))
      go (going u) c = took (step sh log set room (p + n) u) (entry-wait (p + n) u (log.entry (p + n))) c
      go (waits q u) c = (omega (arith, c.0), c.1, c.2)
      go (lacks q u) c = (omega (arith, c.0), c.1, c.2)

  -- what a play to a stop leaves is as demanded
  pub play-waits : (fit : Type 0) → fit → (hosting p stop : ℕ) (table : List ℕ) (cs : List Cell) → p ≤ stop
      → Waiting sh fit log set p stop (left_by hosting stop table (play sh log set room p cs (stop - p)))
  play-waits fit f hosting p stop table cs l = go (play sh log set room p cs (stop - p)) (play-wait p cs (stop - p))
    where
      clear : (q : ℕ) → blocked q ≡ false → Blocked sh log set q → ⊥
      clear q e b = clash (blocked q) (words-waits sh log set q b) e

      go : (x : Played) → PlayWait p (stop - p) x → Waiting sh fit log set p stop (left_by hosting stop table x)
      go (going u) w = record {
        exactly = ((λ e. clash true refl (ap is_refused (sym e))), (λ h. absurd (omega (arith, h.1))));
        passes = λ f q a b k. clear q (w.1 q a (omega arith)) k;
        not_back = λ f. l;
      }
      go (waits q u) w = record {
        exactly = ((λ e. (f, omega (arith, w.0), waits-words sh log set q w.1)), (λ h. refl));
        passes = λ f x a b k. clear x (w.2.1 x a b) k;
        not_back = λ f. w.2.0;
      }
      go (lacks q u) w = record {
        exactly = ((λ e. thirteen e), (λ h. absurd (clear q w.1 h.2)));
        passes = λ f x a b k. clear x (w.2.1 x a b) k;
        not_back = λ f. w.2.0;
      }
        where
          thirteen : plainly 13 ≡ plainly 12 → fit × (q < stop) × Blocked sh log set q
          thirteen e = absurd (let n : 13 ≡ 12 = ap code e in omega arith)

  -- and it ends
  pub play-ends : (hosting p stop : ℕ) (table : List ℕ) (cs : List Cell) → p ≤ stop → Ended stop (left_by hosting stop table (play sh log set room p cs (stop - p)))
  play-ends hosting p stop table cs l = go (play sh log set room p cs (stop - p)) (play-wait p cs (stop - p))
    where
      go : (x : Played) → PlayWait p (stop - p) x → Ended stop (left_by hosting stop table x)
      go (going u) w = there refl refl
      go (waits q u) w = waiting refl (omega (arith, w.0))
      go (lacks q u) w = no_room refl (omega (arith, w.0))
