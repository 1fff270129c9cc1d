-- What `all` over the numbers from one to another answers: it ends like a loop that looks for the first number that fails.
use Rattle.std.specs.Prelude.{◌≡◌, Bool, true, false, not, List, ℕ, ◌+◌, ◌-◌, ◌<◌, eqb, length, Option, MatchOption}
use Rattle.std.specs.Bool.{MatchBool}
use Rattle.std.specs.Fn.{Called}
use Rattle.std.specs.Iterator.{YieldsThen}
use Rattle.std.specs.declared.ops.Range.{Range}
use Rattle.std.specs.List.{range_with_len, FoldsTo, AllWithin, HoldsAt}
use Rattle.std.proofs.Common.{refl, ap, sym, subst, ◌∙◌, arith, get_or}
use Rattle.std.proofs.iter.Yields.{nat_range_steps}
use Rattle.std.proofs.lemmas.Bool.{eqb-true, eqb-false}
use Rattle.std.proofs.lemmas.Iterator.{cases_from_all, YieldsList-from_range}
use Rattle.std.proofs.lemmas.List.FromFn.{length-range_with_len, get_or-range_with_len}
use denote.Param.Members.{Mut}
use Rattle.lists.specs.Tests.{clash}
use Rattle.lists.specs.Sets.{all, ascending}
use Rattle.lists.specs.Rows.{values}
use Rattle.lists.specs.First.{first, first-le, first_below, first-at, Seeking, seeking-from}
use Rattle.lists.specs.Every.{failing, every-all, every-not}
use Rattle.lists.specs.Ascend.{unordered, ascend-all, ascend-not}

-- the loop found none of n, or one
abbrev pub Ended : (ℕ → Bool) → ℕ → Bool → Type 0
Ended f n r = MatchBool r (Seeking f n n) ((i : ℕ) × Seeking f n i × (i < n) × (f i ≡ true))

module _ (f : ℕ → Bool) where
  -- the first that fails, where one does
  first-fails : (n k : ℕ) → k < n → f k ≡ true → Ended f n false
  first-fails n k l e =
      let i = first f n in
      let m : i < n = go (eqb i n) refl in
      (i, seeking-from f n i (first-le f n) (first_below f n), m, first-at f n m)
    where
      go : (b : Bool) → eqb (first f n) n ≡ b → first f n < n
      go true q = let same = eqb-true (first f n) n q in clash (f k) e (first_below f n k (omega arith))
      go false q = let apart = eqb-false (first f n) n q in omega (arith, first-le f n)

-- a closure asked for each number in turn, until it says no
abbrev pub Ran : {F : Type 0} → Mut F (ℕ × Unit {0}) Bool → Range ℕ → Range ℕ → F → Bool → Type 0
Ran {F} g s u p r =
    (xs : List ℕ) × (o : Option ℕ) × (j : F) × YieldsThen nat_range_steps s xs o u × FoldsTo (λ p x q. Called g p (x, tt) true q) p xs j
    × MatchOption o (r ≡ true) (λ x. (r ≡ false) × ((h : F) × Called g j (x, tt) false h))

module _ {F : Type 0} {g : Mut F (ℕ × Unit {0}) Bool} {s u : Range ℕ} {p : F} {r : Bool} where
  -- it tells of a number, less a, that f does not hold
  all-ended : (f : ℕ → Bool) (a e : ℕ) → s ≡ record { start = a; end = e } → ((x : ℕ) (b : Bool) (q : F) → Called g p (x, tt) b q → (q ≡ p) × (f (x - a) ≡ not b)) → Ran g s u p r → Ended f (e - a) r
  all-ended f a e range asked ran =
      go r (cases_from_all u p r (λ x. f (x - a) ≡ false) (λ x. f (x - a) ≡ true) ran (YieldsList-from_range a e (e - a) range refl)
      (λ x q k. asked x true q k) (λ x q k. (asked x false q k).1))
    where
      xs : List ℕ
      xs = range_with_len a (e - a)

      size : length xs ≡ e - a
      size = length-range_with_len a (e - a)

      at : (k : ℕ) → k < e - a → get_or xs k 0 - a ≡ k
      at k l = omega (arith, get_or-range_with_len a (e - a) k 0 l)

      go : (r : Bool) → MatchBool r (AllWithin (λ x. f (x - a) ≡ false) xs 0 (length xs)) ((k : ℕ) × (k < length xs) × HoldsAt (λ x. f (x - a) ≡ true) xs k) → Ended f (e - a) r
      go true h = seeking-from f (e - a) (e - a) (omega arith) (λ k l. ap f (sym (at k l)) ∙ h k 0 (omega arith) (omega (arith, size)))
      go false h = let l : h.0 < e - a = omega (arith, size, h.1) in first-fails f (e - a) h.0 l (ap f (sym (at h.0 l)) ∙ h.2 0)

  -- it tells whether the value of a number passes
  pub all-values : {A : Type 0} (f : A → Bool) (h : ℕ → A) (n : ℕ) → s ≡ record { start = 0; end = n } → ((x : ℕ) (b : Bool) (q : F) → Called g p (x, tt) b q → (q ≡ p) × (b ≡ f (h x))) → Ran g s u p r
      → r ≡ all f (values h 0 n)
  all-values f h n range asked ran =
      let e : n - 0 ≡ n = omega arith in
      go r (subst (λ (m : ℕ). Ended (failing f h) m r) e (all-ended (failing f h) 0 n range
      (λ x b q k. let w = asked x b q k in let z : x - 0 ≡ x = omega arith in (w.0, ap (failing f h) z ∙ ap not (sym w.1))) ran))
    where
      go : (r : Bool) → Ended (failing f h) n r → r ≡ all f (values h 0 n)
      go true s = sym (every-all f h s (omega arith))
      go false s = sym (every-not f h s.1 s.2 s.3)

  -- it tells whether the value before that of a number is before it
  pub all-ascend : {A : Type 0} (before : A → A → Bool) (h : ℕ → A) (n : ℕ) → s ≡ record { start = 1; end = n }
      → ((x : ℕ) (b : Bool) (q : F) → Called g p (x, tt) b q → (q ≡ p) × (b ≡ before (h (x - 1)) (h (x - 1 + 1)))) → Ran g s u p r → r ≡ ascending before (values h 0 n)
  all-ascend before h n range asked ran =
      go r (all-ended (unordered before h) 1 n range (λ x b q k. let w = asked x b q k in (w.0, ap not (sym w.1))) ran)
    where
      go : (r : Bool) → Ended (unordered before h) (n - 1) r → r ≡ ascending before (values h 0 n)
      go true s = sym (ascend-all before h n s (omega arith))
      go false s = sym (ascend-not before h n s.1 s.2 s.3)
