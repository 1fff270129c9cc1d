-- A transaction aborts in the run exactly on a stale read or an unmet number, and the player's test fails exactly there: each of the two
-- fails for a read of another version than its cell's, and for a number that has not committed, and a list's test fails exactly where one of its elements does.
use Prim.Native.Nat.{ℕ}
use mathlib.Core.Path.{◌≡◌, refl, ap, ap₂, sym, ◌∙◌}
use mathlib.Core.Logic.{◌⊎◌, inl, inr, ◌↔◌}
use mathlib.Core.Bool.{Bool, true, false, cond, ◌&&◌, ◌||◌}
use mathlib.Core.List.{List, [], ◌∷◌, Memᴰ}
use lib.Dec.{eqb}
use borrow.Author.Tests.{eqb-true, eqb-false, eq-eqb, ne_eqb}
use Rattle.lists.specs.Sets.{all, mem, within}
use Rattle.lists.specs.Members.{all-false, false-all}
use Rattle.lists.specs.Tests.{and_l, and_r, and-false, or_case, clash}
use Rattle.model.specs.Entries.{Read, Condition, named}
use Rattle.model.specs.Table.{Holds, version_in}
use Rattle.model.specs.Play.{commits_over}
use Rattle.model.specs.Append.{condition_given}
use Rattle.model.specs.Run.{Run, has_version, current, commits_now, accept, made_all}
use Rattle.model.specs.Terms.{Stale, Unmet, Aborts, AbortsIn}
use Rattle.model.specs.Claims.{RunAborts}
use Rattle.claims.proofs.Runs.{version-same}
use Rattle.claims.proofs.Names.{named-words, words-named}

-- ---- stale reads, by any test that fails exactly for a read of another version

module _ (cells : Holds) (test : Read → Bool) (exact : (x : Read) → (test x ≡ false) ↔ (version_in (cells x.object x.key) ≡ x.version → ⊥)) where
  pub stale-fails : (c : Condition) → Stale cells c → all test c.reads ≡ false
  stale-fails c (x, m, h) = false-all test x c.reads m ((exact x).1 h)

  pub fails-stale : (c : Condition) → all test c.reads ≡ false → Stale cells c
  fails-stale c e = let (x, m, h) = all-false test c.reads e in (x, m, (exact x).0 h)

-- ---- the run

module _ (cells : Holds) where
  fresh : Read → Bool
  fresh x = has_version x.version (cells x.object x.key)

  fresh-exact : (x : Read) → (fresh x ≡ false) ↔ (version_in (cells x.object x.key) ≡ x.version → ⊥)
  unfolding fresh
  fresh-exact x =
      let same = version-same x.version (cells x.object x.key) in
      (λ e. eqb-false _ _ (same ∙ e), λ n. sym same ∙ ne_eqb _ _ n)

  current-all : (xs : List Read) → current cells xs ≡ all fresh xs
  unfolding fresh
  current-all [] = refl
  current-all (x ∷ xs) = ap (λ (t : Bool). has_version x.version (cells x.object x.key) && t) (current-all xs)

  pub stale-old : (c : Condition) → Stale cells c → current cells c.reads ≡ false
  stale-old c s = current-all c.reads ∙ stale-fails cells fresh fresh-exact c s

  pub old-stale : (c : Condition) → current cells c.reads ≡ false → Stale cells c
  old-stale c e = fails-stale cells fresh fresh-exact c (sym (current-all c.reads) ∙ e)

  -- a read of current reads has its cell's version
  pub current-at : (c : Condition) (x : Read) → current cells c.reads ≡ true → Memᴰ x c.reads → version_in (cells x.object x.key) ≡ x.version
  current-at c x h m = by (eqb (version_in (cells x.object x.key)) x.version) refl
    where
      by : (b : Bool) → eqb (version_in (cells x.object x.key)) x.version ≡ b → version_in (cells x.object x.key) ≡ x.version
      by true e = eqb-true _ _ e
      by false e = clash (current cells c.reads) h (stale-old c (x, m, eqb-false _ _ e))

-- ---- numbers named that have not committed, by any test

module _ (test : ℕ → Bool) (c : Condition) where
  unmet-fails : Unmet (λ m. test m ≡ true) c → all test (named c) ≡ false
  unmet-fails (m, n, h) = false-all test m (named c) (words-named c m n) (by (test m) refl)
    where
      by : (b : Bool) → test m ≡ b → b ≡ false
      by true e = absurd (h e)
      by false e = refl

  fails-unmet : all test (named c) ≡ false → Unmet (λ m. test m ≡ true) c
  fails-unmet e = let (m, i, f) = all-false test (named c) e in (m, named-words c m i, λ h. clash (test m) h f)

-- two tests of which one fails
module _ (P Q : Type 0) (a b : Bool) (p : P ↔ (a ≡ false)) (q : Q ↔ (b ≡ false)) where
  one-fails : P ⊎ Q → (a && b) ≡ false
  one-fails (inl x) = rw (p.0 x)
  one-fails (inr y) = rw (q.0 y) (and-false a)

  fails-one : (a && b) ≡ false → P ⊎ Q
  fails-one e = by a refl e
    where
      by : (x : Bool) → a ≡ x → (x && b) ≡ false → P ⊎ Q
      by true i j = inr (q.1 j)
      by false i j = inl (p.1 i)

-- ---- the run's test of a commit

module _ (s : Run) (c : Condition) where
  pub aborts-fails : AbortsIn s c → commits_now s c ≡ false
  aborts-fails x =
      one-fails (Stale s.cells c) (Unmet (λ m. s.won m ≡ true) c) (current s.cells c.reads) (all s.won (named c)) (stale-old s.cells c, old-stale s.cells c) (unmet-fails s.won c, fails-unmet s.won c) x

  pub fails-aborts : commits_now s c ≡ false → AbortsIn s c
  fails-aborts e =
      fails-one (Stale s.cells c) (Unmet (λ m. s.won m ≡ true) c) (current s.cells c.reads) (all s.won (named c)) (stale-old s.cells c, old-stale s.cells c) (unmet-fails s.won c, fails-unmet s.won c) e

  -- one that does not abort goes through
  pub goes_through : (AbortsIn s c → ⊥) → commits_now s c ≡ true
  goes_through h = by (commits_now s c) refl
    where
      by : (b : Bool) → commits_now s c ≡ b → b ≡ true
      by true e = refl
      by false e = absurd (h (fails-aborts e))

pub run-aborts : (count n : ℕ) (items : List ℕ) (a b : ℕ) (s : Run) → RunAborts count n items a b s
unfolding accept
run-aborts count n items a b s = record {
  exactly = (fails-aborts s c, aborts-fails s c);
  aborts = λ x. ap (λ (t : Bool). cond t (made_all count (s.aside n) s.cells) s.cells) (aborts-fails s c x);
  makes = λ h. ap (λ (t : Bool). cond t (made_all count (s.aside n) s.cells) s.cells) (goes_through s c h);
  wins = λ m. (won m, wins m);
}
  where
    c : Condition
    c = condition_given items a b

    won : (m : ℕ) → (s.won m || (eqb n m && commits_now s c)) ≡ true → (s.won m ≡ true) ⊎ ((n ≡ m) × (AbortsIn s c → ⊥))
    won m h =
        or_case (s.won m) (eqb n m && commits_now s c) h (λ e. inl e)
        (λ e. inr (eqb-true n m (and_l (eqb n m) (commits_now s c) e), λ x. clash (commits_now s c) (and_r (eqb n m) (commits_now s c) e) (aborts-fails s c x)))

    more : (x : Bool) → (x || true) ≡ true
    more true = refl
    more false = refl

    wins : (m : ℕ) → (s.won m ≡ true) ⊎ ((n ≡ m) × (AbortsIn s c → ⊥)) → (s.won m || (eqb n m && commits_now s c)) ≡ true
    wins m (inl e) = ap (λ (t : Bool). t || (eqb n m && commits_now s c)) e
    wins m (inr (e, h)) = ap₂ (λ (x y : Bool). s.won m || (x && y)) (eq-eqb n m e) (goes_through s c h) ∙ more (s.won m)

-- ---- the player's test

module _ (cells : Holds) (won : List ℕ) (c : Condition) where
  abbrev fresh-read : Read → Bool
  fresh-read x = eqb (version_in (cells x.object x.key)) x.version

  pub aborts-refuses : Aborts cells (λ m. mem m won ≡ true) c → commits_over cells won c ≡ false
  unfolding commits_over
  aborts-refuses x =
      one-fails (Stale cells c) (Unmet (λ m. mem m won ≡ true) c) (all fresh-read c.reads) (within won (named c)) (stale-fails cells fresh-read (λ x. (eqb-false _ _, ne_eqb _ _)) c, fails-stale cells fresh-read (λ x. (eqb-false _ _, ne_eqb _ _)) c)
      (unmet-fails (λ m. mem m won) c, fails-unmet (λ m. mem m won) c) x

  pub refuses-aborts : commits_over cells won c ≡ false → Aborts cells (λ m. mem m won ≡ true) c
  unfolding commits_over
  refuses-aborts e =
      fails-one (Stale cells c) (Unmet (λ m. mem m won ≡ true) c) (all fresh-read c.reads) (within won (named c)) (stale-fails cells fresh-read (λ x. (eqb-false _ _, ne_eqb _ _)) c, fails-stale cells fresh-read (λ x. (eqb-false _ _, ne_eqb _ _)) c)
      (unmet-fails (λ m. mem m won) c, fails-unmet (λ m. mem m won) c) e

  pub none-refuses : (Aborts cells (λ m. mem m won ≡ true) c → ⊥) → commits_over cells won c ≡ true
  none-refuses h = by (commits_over cells won c) refl
    where
      by : (b : Bool) → commits_over cells won c ≡ b → b ≡ true
      by true e = refl
      by false e = absurd (h (refuses-aborts e))
