-- A play keeps its cells as the run has them: each step does to the cells of the set what the run does to all cells, where what
-- a decision record says of a commit record is the run's outcome. By induction over the entries played.
use Prim.Native.Nat.{ℕ, zero, suc, ◌+◌, ◌<◌, ◌^◌}
use mathlib.Core.Path.{◌≡◌, refl, ap, ap₂, sym, ◌∙◌}
use mathlib.Core.Bool.{Bool, true, false, cond, ◌&&◌, ◌||◌}
use mathlib.Core.List.{List, [], ◌∷◌, map}
use mathlib.Core.Option.{Option, none, some}
use native.Mathlib.Omega.{arith}
use native.Mathlib.Nat.{add-suc, add-zero}
use borrow.Author.Tests.{eqb-true, leb-false}
use lib.Dec.{eqb, leb}
use lib.ListN.{length}
use Rattle.lists.specs.Tests.{and_l, and_r, or_l, or_r, clash}
use Rattle.lists.specs.Sets.{all, is_empty, mem, meets, within, ascending_set, any-set}
use Rattle.model.specs.Objects.{Shape, ids}
use Rattle.model.specs.Entries.{Decision, Write, Read, Condition, Entry, plain, numbered, commit, decision, checkpoint, blank, Effect, writes, aside, tries, inert, effect, Log, written_objects, read_objects, named, writes_of, outcome_after, decided, header_objects}
use Rattle.model.specs.Slot.{ok_shape}
use Rattle.model.specs.Rules.{ok_write}
use Rattle.model.specs.Table.{Cell, Holds, lookup, apply, version_in}
use Rattle.model.specs.Play.{Played, going, waits, lacks, commits_over, whole, alone, says_commit, outcome, make, finish, act, step, and_then, play}
use Rattle.model.specs.Run.{current, commits_now, made_all}
use Rattle.model.specs.Histories.{cells_written}
use Rattle.claims.proofs.Cells.{Shown, nothing-shown, how-many, all-writes}
use Rattle.claims.proofs.Runs.{cells_after, run, run-start, aside_run, cells-run, commits_at, version-same}
use Rattle.claims.proofs.Whole.{names-tested, whole-won}

pub start-shown : (sh : Shape) (log : Log) (set : List ℕ) → Shown sh set [] (run log 0).cells
start-shown sh log set = rw (run-start log) (nothing-shown sh set)

-- ---- entries of no hosted object

none-applied : (set : List ℕ) (v : ℕ) (ws : List Write) (cs : List Cell) → meets set (written_objects ws) ≡ false → apply set v ws cs ≡ cs
unfolding apply
none-applied set v [] cs h = refl
none-applied set v (w ∷ ws) cs h =
    rw (or_l (mem w.object set) (meets set (written_objects ws)) h) (none-applied set v ws cs (or_r (mem w.object set) (meets set (written_objects ws)) h))

-- ---- the player's test of reads is the run's

pub reads_same : (sh : Shape) (set : List ℕ) (rs : List Read) (cs : List Cell) (cells : Holds) → Shown sh set cs cells
    → within set (map (λ (r : Read). r.object) rs) ≡ true → all (λ (r : Read). eqb (version_in (lookup cs r.object r.key)) r.version) rs ≡ current cells rs
reads_same sh set [] cs cells s h = refl
reads_same sh set (r ∷ rs) cs cells s h =
    let m : mem r.object set ≡ true = and_l (mem r.object set) (within set (map (λ (r : Read). r.object) rs)) h in
    ap₂ (λ (a b : Bool). a && b) (ap (λ x. eqb (version_in x) r.version) (s.reads r.object r.key m) ∙ version-same r.version (cells r.object r.key))
    (reads_same sh set rs cs cells s (and_r (mem r.object set) (within set (map (λ (r : Read). r.object) rs)) h))

-- and so is its test of the whole record, the named outcomes being the run's
pub commits-run : (sh : Shape) (log : Log) (set : List ℕ) (p : ℕ) (cs : List Cell) (c : Condition) → Shown sh set cs (run log p).cells → within set (read_objects c) ≡ true
    → commits_over (lookup cs) (whole log p).won c ≡ commits_now (run log p) c
unfolding commits_over
commits-run sh log set p cs c s h =
    ap₂ (λ (a b : Bool). a && b) (reads_same sh set c.reads cs (run log p).cells s h) (names-tested (whole log p).won (run log p).won (named c) (whole-won log p))

-- ---- what decision records say

-- each decision record below the tail says what the run decided
abbrev pub TrueBelow : Log → ℕ → Type 0
TrueBelow log tail = (d : ℕ) → d < tail → (r : Decision) → log.entry d ≡ decision r → eqb r.outcome 1 ≡ commits_at log r.offset

decided-true : (log : Log) (tail q v : ℕ) → TrueBelow log tail → decided log q tail ≡ some v → eqb v 1 ≡ commits_at log q
unfolding decided
decided-true log zero q v tr h = clash true refl cc
decided-true log (suc t) q v tr h = go (λ h'. decided-true log t q v (λ d l. tr d (omega arith)) h') (log.entry t) refl h
  where
    go : (decided log q t ≡ some v → eqb v 1 ≡ commits_at log q) → (e : Entry) → log.entry t ≡ e → outcome_after q e (decided log q t) ≡ some v → eqb v 1 ≡ commits_at log q
    go ih (plain ws) e h' = ih h'
    go ih (numbered n ws) e h' = ih h'
    go ih (commit n c) e h' = ih h'
    go ih (decision r) e h' = pick (eqb r.offset q) refl h'
      where
        pick : (x : Bool) → eqb r.offset q ≡ x → cond x (some r.outcome) (decided log q t) ≡ some v → eqb v 1 ≡ commits_at log q
        pick true x i = let a : r.outcome ≡ v = cc in rw (← a, ← eqb-true r.offset q x) (tr t (omega arith) r e)
        pick false x i = ih i
    go ih (checkpoint o cs) e h' = ih h'
    go ih blank e h' = ih h'

-- what a decision record says of the commit record at p is the run's outcome, where the replica does not decide it by itself
abbrev pub Trust : Shape → Log → List ℕ → ℕ → Type 0
Trust sh log set p = (n : ℕ) (c : Condition) → effect (log.entry p) ≡ tries n c → alone sh set c ≡ false
    → (b : Bool) → says_commit (decided log p log.tail) ≡ some b → b ≡ commits_now (run log p) c

pub trust : (sh : Shape) (log : Log) (set : List ℕ) (p : ℕ) → TrueBelow log log.tail → Trust sh log set p
trust sh log set p tr n c e w b h = go (decided log p log.tail) refl h
  where
    go : (x : Option ℕ) → decided log p log.tail ≡ x → says_commit x ≡ some b → b ≡ commits_now (run log p) c
    go none i j = clash true refl cc
    go (some v) i j = let k : eqb v 1 ≡ b = cc in sym k ∙ decided-true log log.tail p v tr i ∙ rw e

-- a replica's outcome of the commit record at p, where it has one, is the run's
pub outcome-true : (sh : Shape) (log : Log) (set : List ℕ) (p : ℕ) (cs : List Cell) (n : ℕ) (c : Condition) (b : Bool)
    → Trust sh log set p → Shown sh set cs (run log p).cells → effect (log.entry p) ≡ tries n c
    → outcome sh log set p cs c ≡ some b → b ≡ commits_now (run log p) c
outcome-true sh log set p cs n c b tr s e h = go (alone sh set c) refl h
  where
    go : (a : Bool) → alone sh set c ≡ a → cond a (some (commits_over (lookup cs) (whole log p).won c)) (says_commit (decided log p log.tail)) ≡ some b
        → b ≡ commits_now (run log p) c
    go true a i =
        let k : commits_over (lookup cs) (whole log p).won c ≡ b = cc in
        sym k ∙ commits-run sh log set p cs c s (and_l (within set (read_objects c)) (is_empty (named c) || within set (ids sh)) a)
    go false a i = tr n c e a b i

-- ---- a step

-- the writes that the entry at p can make obey the rules
pub record Placed (sh : Shape) (log : Log) (p : ℕ) : Type 0 where
  pub now : (ws : List Write) → effect (log.entry p) ≡ writes ws → all (ok_write sh) ws ≡ true
  pub late : (n : ℕ) → all (ok_write sh) (writes_of log n p) ≡ true

module _ (sh : Shape) (shape : ok_shape sh ≡ true) (log : Log) (set : List ℕ) (room : ℕ) where
  abbrev pub Inv : ℕ → List Cell → Type 0
  Inv p cs = Shown sh set cs (run log p).cells

  -- the invariant at the end of a play that was to reach n
  abbrev pub Ok : ℕ → Played → Type 0
  Ok n (going cs) = Inv n cs
  Ok n (waits q cs) = (q < n) × Inv q cs
  Ok n (lacks q cs) = (q < n) × Inv q cs × (room < cells_written sh.objects set (run log (suc q)).cells)

  module _ (p : ℕ) (low : p + 1 < 2 ^ 64) (cs : List Cell) (placed : Placed sh log p) (tr : Trust sh log set p) (inv : Inv p cs) where
    make-ok : (ws : List Write) → Inv (suc p) (apply set (p + 1) ws cs) → Ok (suc p) (make set room p ws cs)
    make-ok ws j = go (leb (length (apply set (p + 1) ws cs)) room) refl
      where
        go : (b : Bool) → leb (length (apply set (p + 1) ws cs)) room ≡ b → Ok (suc p) (cond b (going (apply set (p + 1) ws cs)) (lacks p cs))
        go true e = j
        go false e = (omega arith, inv, omega (arith, leb-false (length (apply set (p + 1) ws cs)) room e, how-many sh shape set (apply set (p + 1) ws cs) (run log (suc p)).cells j))

    -- the run's cells with writes made, over the set's cells with them made
    made : (ws : List Write) → all (ok_write sh) ws ≡ true → Shown sh set (apply set (p + 1) ws cs) (made_all (p + 1) ws (run log p).cells)
    made ws ok = all-writes sh shape set (p + 1) low ws cs (run log p).cells ok inv

    -- of which none is hosted
    passed : (ws : List Write) → all (ok_write sh) ws ≡ true → meets set (ascending_set (written_objects ws)) ≡ false → Shown sh set cs (made_all (p + 1) ws (run log p).cells)
    passed ws ok m = rw (none-applied set (p + 1) ws cs (sym (any-set (λ x. mem x set) (written_objects ws)) ∙ m)) at (made ws ok)

    after : (e : Effect) → effect (log.entry p) ≡ e → (cs' : List Cell) → Shown sh set cs' (cells_after (p + 1) (run log p) e) → Inv (suc p) cs'
    after e i cs' s = rw (cells-run log p, i) s

    plain_ok : (ws : List Write) → effect (log.entry p) ≡ writes ws → (m : Bool) → meets set (ascending_set (written_objects ws)) ≡ m → Ok (suc p) (cond m (make set room p ws cs) (going cs))
    plain_ok ws e true m = make-ok ws (after (writes ws) e _ (made ws (placed.now ws e)))
    plain_ok ws e false m = after (writes ws) e cs (passed ws (placed.now ws e) m)

    commit-after : (n : ℕ) (c : Condition) → effect (log.entry p) ≡ tries n c → (b : Bool) → b ≡ commits_now (run log p) c → (cs' : List Cell)
        → Shown sh set cs' (cond b (made_all (p + 1) (writes_of log n p) (run log p).cells) (run log p).cells) → Inv (suc p) cs'
    commit-after n c e b i cs' s = after (tries n c) e cs' (rw (← i, aside_run log n p) s)

    finish-ok : (n : ℕ) (c : Condition) → effect (log.entry p) ≡ tries n c → (v : Option Bool) → ((b : Bool) → v ≡ some b → b ≡ commits_now (run log p) c)
        → Ok (suc p) (finish set room p (writes_of log n p) cs v)
    finish-ok n c e none t = (omega arith, inv)
    finish-ok n c e (some true) t = make-ok (writes_of log n p) (commit-after n c e true (t true refl) _ (made (writes_of log n p) (placed.late n)))
    finish-ok n c e (some false) t = commit-after n c e false (t false refl) cs inv

    commit-ok : (n : ℕ) (c : Condition) → effect (log.entry p) ≡ tries n c → (m : Bool) → meets set (ascending_set (written_objects (writes_of log n p))) ≡ m
        → Ok (suc p) (cond m (finish set room p (writes_of log n p) cs (outcome sh log set p cs c)) (going cs))
    commit-ok n c e true m = finish-ok n c e (outcome sh log set p cs c) (λ b h. outcome-true sh log set p cs n c b tr inv e h)
    commit-ok n c e false m = commit-after n c e (commits_now (run log p) c) refl cs (go (commits_now (run log p) c))
      where
        go : (b : Bool) → Shown sh set cs (cond b (made_all (p + 1) (writes_of log n p) (run log p).cells) (run log p).cells)
        go true = passed (writes_of log n p) (placed.late n) m
        go false = inv

    idle : (m : Bool) → Inv (suc p) cs → Ok (suc p) (cond m (going cs) (going cs))
    idle true j = j
    idle false j = j

    entry-ok : (e : Entry) → effect (log.entry p) ≡ effect e → Ok (suc p) (cond (meets set (header_objects log p e)) (act sh log set room p cs (effect e)) (going cs))
    unfolding header_objects
    entry-ok (plain ws) e = plain_ok ws e (meets set (ascending_set (written_objects ws))) refl
    entry-ok (numbered n ws) e = idle (meets set (header_objects log p (numbered n ws))) (after (aside n ws) e cs inv)
    entry-ok (commit n c) e = commit-ok n c e (meets set (ascending_set (written_objects (writes_of log n p)))) refl
    entry-ok (decision r) e = idle (meets set (header_objects log p (decision r))) (after inert e cs inv)
    entry-ok (checkpoint o xs) e = idle (meets set (header_objects log p (checkpoint o xs))) (after inert e cs inv)
    entry-ok blank e = idle (meets set (header_objects log p blank)) (after inert e cs inv)

    step_ok : Ok (suc p) (step sh log set room p cs)
    unfolding step
    step_ok = entry-ok (log.entry p) refl

  pub play-ok : (p : ℕ) (cs : List Cell) → Inv p cs → (n : ℕ) → p + n < 2 ^ 64 → ((q : ℕ) → q < p + n → Trust sh log set q) → ((q : ℕ) → q < p + n → Placed sh log q)
      → Ok (p + n) (play sh log set room p cs n)
  unfolding play
  play-ok p cs i zero low tr pl = rw add-zero i
  play-ok p cs i (suc n) low tr pl = rw add-suc (go (play sh log set room p cs n) (play-ok p cs i n (omega arith) (λ q h. tr q (omega arith)) (λ q h. pl q (omega arith))))
    where
      go : (x : Played) → Ok (p + n) x → Ok (suc (p + n)) (and_then x (step sh log set room (p + n)))
      go (going u) h = step_ok (p + n) (omega arith) u (pl (p + n) (omega arith)) (tr (p + n) (omega arith)) h
      go (waits q u) h = (omega (arith, h.0), h.1)
      go (lacks q u) h = (omega (arith, h.0), h.1, h.2)
