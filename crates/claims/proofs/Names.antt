-- What a commit record names, in words: the list of its numbers has those and no others; the replica's test whether it decides alone, and the
-- rules of names, pass exactly where their words hold.
use Prim.Native.Nat.{ℕ, ◌<◌, ◌≤◌, ◌^◌}
use mathlib.Core.Path.{◌≡◌, refl, ap, ap₂, sym, ◌∙◌}
use mathlib.Core.Logic.{◌⊎◌, inl, inr}
use mathlib.Core.Bool.{Bool, true, false, cond, not, ◌&&◌, ◌||◌}
use mathlib.Core.List.Memᴰ
use mathlib.Core.List.{List, [], ◌∷◌, map, Memᴰ}
use native.Mathlib.Omega.{arith}
use borrow.Author.Tests.{eqb-true, eqb-false, eq-eqb, ne_eqb, ltb-true, lt-ltb, not-true}
use lib.Dec.{eqb, ltb}
use Rattle.lists.specs.Tests.{and_l, and_r, ands, and-false, both, or_l, or_r, or_case, clash}
use Rattle.lists.specs.Sets.{all, is_empty, mem, within}
use Rattle.lists.specs.Members.{in_all, all-false, false-all, in-any}
use Rattle.model.specs.Objects.{Shape, ids, is_object}
use Rattle.model.specs.Entries.{Read, Condition, read_objects, unless_zero, named}
use Rattle.model.specs.Rules.{fits, ok_names}
use Rattle.model.specs.Play.{alone}
use Rattle.model.specs.Terms.{Names, Outside, NamesAllowed}

-- ---- the numbers named

unless-in : (n m : ℕ) (ns : List ℕ) → Memᴰ m (unless_zero n ns) → ((m ≡ 0 → ⊥) × (n ≡ m)) ⊎ Memᴰ m ns
unless-in n m ns i = go (eqb n 0) refl i
  where
    go : (b : Bool) → eqb n 0 ≡ b → Memᴰ m (cond b ns (n ∷ ns)) → ((m ≡ 0 → ⊥) × (n ≡ m)) ⊎ Memᴰ m ns
    go true e j = inr j
    go false e j = by (Memᴰ.cases_cons j)
      where
        by : (m ≡ n) ⊎ Memᴰ m ns → ((m ≡ 0 → ⊥) × (n ≡ m)) ⊎ Memᴰ m ns
        by (inl q) = inl (λ z. eqb-false n 0 e (sym q ∙ z), sym q)
        by (inr k) = inr k

unless-head : (n m : ℕ) (ns : List ℕ) → (m ≡ 0 → ⊥) → n ≡ m → Memᴰ m (unless_zero n ns)
unless-head n m ns some e = go (eqb n 0) refl
  where
    go : (b : Bool) → eqb n 0 ≡ b → Memᴰ m (cond b ns (n ∷ ns))
    go true z = absurd (some (sym e ∙ eqb-true n 0 z))
    go false z = Memᴰ.head (sym e)

unless-tail : (n m : ℕ) (ns : List ℕ) → Memᴰ m ns → Memᴰ m (unless_zero n ns)
unless-tail n m ns i = go (eqb n 0)
  where
    go : (b : Bool) → Memᴰ m (cond b ns (n ∷ ns))
    go true = i
    go false = Memᴰ.tail i

module _ (c : Condition) where
  pub named-words : (m : ℕ) → Memᴰ m (named c) → Names c m
  unfolding named
  named-words m i = by (unless-in c.first m (unless_zero c.second []) i)
    where
      last : ((m ≡ 0 → ⊥) × (c.second ≡ m)) ⊎ Memᴰ m [] → Names c m
      last (inl (some, e)) = (some, inr e)
      last (inr k) = absurd (Memᴰ.not-nil k)

      by : ((m ≡ 0 → ⊥) × (c.first ≡ m)) ⊎ Memᴰ m (unless_zero c.second []) → Names c m
      by (inl (some, e)) = (some, inl e)
      by (inr k) = last (unless-in c.second m [] k)

  pub words-named : (m : ℕ) → Names c m → Memᴰ m (named c)
  unfolding named
  words-named m (some, inl e) = unless-head c.first m (unless_zero c.second []) some e
  words-named m (some, inr e) = unless-tail c.first m (unless_zero c.second []) (unless-head c.second m [] some e)

  -- none is named where both numbers are 0
  pub none_named : c.first ≡ 0 → c.second ≡ 0 → named c ≡ []
  unfolding named
  none_named e f = rw (e, f)

-- ---- who decides alone

both_false : (a b : Bool) → (a && b) ≡ false → (a ≡ false) ⊎ (b ≡ false)
both_false false b e = inl refl
both_false true b e = inr e

module _ (sh : Shape) (set : List ℕ) (c : Condition) where
  reads-hosted : within set (read_objects c) ≡ all (λ (x : Read). mem x.object set) c.reads
  reads-hosted = go c.reads
    where
      go : (xs : List Read) → within set (map (λ (x : Read). x.object) xs) ≡ all (λ (x : Read). mem x.object set) xs
      go [] = refl
      go (x ∷ xs) = ap (λ (b : Bool). mem x.object set && b) (go xs)

  some-named : (ns : List ℕ) → is_empty ns ≡ false → (m : ℕ) × Memᴰ m ns
  some-named [] e = clash true refl e
  some-named (n ∷ ns) e = (n, Memᴰ.head refl)

  named_some : (m : ℕ) (ns : List ℕ) → Memᴰ m ns → is_empty ns ≡ false
  named_some m [] i = absurd (Memᴰ.not-nil i)
  named_some m (n ∷ ns) i = refl

  pub outside-words : alone sh set c ≡ false → Outside sh set c
  unfolding is_object
  outside-words e = go (both_false (within set (read_objects c)) (is_empty (named c) || within set (ids sh)) e)
    where
      go : (within set (read_objects c) ≡ false) ⊎ ((is_empty (named c) || within set (ids sh)) ≡ false) → Outside sh set c
      go (inl r) = inl (all-false (λ (x : Read). mem x.object set) c.reads (sym reads-hosted ∙ r))
      go (inr r) =
          let (m, i) = some-named (named c) (or_l (is_empty (named c)) (within set (ids sh)) r) in
          let (o, j, h) = all-false (λ x. mem x set) (ids sh) (or_r (is_empty (named c)) (within set (ids sh)) r) in
          inr (m, named-words c m i, o, in-any (λ y. eqb y o) o (ids sh) j (eq-eqb o o refl), h)

  -- an object of the directory that is not in the set
  lacks-one : (o : ℕ) → mem o (ids sh) ≡ true → mem o set ≡ false → within set (ids sh) ≡ false
  lacks-one o i h = go (within set (ids sh)) refl
    where
      go : (b : Bool) → within set (ids sh) ≡ b → b ≡ false
      go true e = clash (mem o set) (by (ids sh) e i) h
        where
          by : (xs : List ℕ) → within set xs ≡ true → mem o xs ≡ true → mem o set ≡ true
          by [] e i = clash false i refl
          by (x ∷ xs) e i =
              or_case (eqb x o) (mem o xs) i (λ t. ap (λ (y : ℕ). mem y set) (sym (eqb-true x o t)) ∙ and_l (mem x set) (within set xs) e)
              (λ t. by xs (and_r (mem x set) (within set xs) e) t)
      go false e = refl

  pub words-outside : Outside sh set c → alone sh set c ≡ false
  unfolding is_object
  words-outside (inl (x, m, h)) =
      ap (λ (b : Bool). b && (is_empty (named c) || within set (ids sh))) (reads-hosted ∙ false-all (λ (x : Read). mem x.object set) x c.reads m h)
  words-outside (inr (m, n, o, i, h)) =
      ap₂ (λ (x y : Bool). within set (read_objects c) && (x || y)) (named_some m (named c) (words-named c m n)) (lacks-one o i h) ∙ and-false (within set (read_objects c))

  pub hosts-alone : ((x : Read) → Memᴰ x c.reads → mem x.object set ≡ true) → ((m : ℕ) → Names c m → (o : ℕ) → is_object sh o ≡ true → mem o set ≡ true) → alone sh set c ≡ true
  hosts-alone reads every = go (alone sh set c) refl
    where
      never : Outside sh set c → ⊥
      never (inl (x, m, h)) = clash (mem x.object set) (reads x m) h
      never (inr (m, n, o, i, h)) = clash (mem o set) (every m n o i) h

      go : (b : Bool) → alone sh set c ≡ b → b ≡ true
      go true e = refl
      go false e = absurd (never (outside-words e))

-- a set decides alone what reads its objects, if it is the whole directory
pub every-alone : (sh : Shape) (c : Condition) → within (ids sh) (read_objects c) ≡ true → alone sh (ids sh) c ≡ true
every-alone sh c h = both h (go (is_empty (named c)))
  where
    self : within (ids sh) (ids sh) ≡ true
    self = in_all (λ x. mem x (ids sh)) (ids sh) (λ x m. in-any (λ y. eqb y x) x (ids sh) m (eq-eqb x x refl))

    go : (b : Bool) → (b || within (ids sh) (ids sh)) ≡ true
    go true = refl
    go false = self

-- ---- which numbers may be named

module _ (n : ℕ) (c : Condition) where
  pub names-words : ok_names n c ≡ true → NamesAllowed n c
  unfolding ok_names
  names-words h =
      let a : fits 4 c.first ≡ true = search ands in
      let b : fits 4 c.second ≡ true = search ands in
      let r : cond (eqb c.first 0) (eqb c.second 0) (not (eqb c.first n) && (eqb c.second 0 || (ltb c.first c.second && not (eqb c.second n)))) ≡ true = search ands in
      go (eqb c.first 0) refl (ltb-true c.first (256 ^ 4) a) (ltb-true c.second (256 ^ 4) b) r
    where
      alike : (c.first ≡ n → ⊥) → ((n ≡ 0 → ⊥) → c.second ≡ n → ⊥) → Names c n → ⊥
      alike f g (some, inl e) = f e
      alike f g (some, inr e) = g some e

      go : (b : Bool) → eqb c.first 0 ≡ b → c.first < 2 ^ 32 → c.second < 2 ^ 32
          → cond b (eqb c.second 0) (not (eqb c.first n) && (eqb c.second 0 || (ltb c.first c.second && not (eqb c.second n)))) ≡ true → NamesAllowed n c
      go true e s t r =
          let z : c.first ≡ 0 = eqb-true c.first 0 e in
          let y : c.second ≡ 0 = eqb-true c.second 0 r in
          record { small = (s, t); ordered = inl y; others = λ (some, w). zeros z y some w }
        where
          zeros : c.first ≡ 0 → c.second ≡ 0 → (n ≡ 0 → ⊥) → (c.first ≡ n) ⊎ (c.second ≡ n) → ⊥
          zeros z y some (inl w) = some (sym w ∙ z)
          zeros z y some (inr w) = some (sym w ∙ y)
      go false e s t r =
          let other : c.first ≡ n → ⊥ = eqb-false c.first n (not-true (eqb c.first n) (and_l (not (eqb c.first n)) (eqb c.second 0 || (ltb c.first c.second && not (eqb c.second n))) r)) in
          let some_first : c.first ≡ 0 → ⊥ = eqb-false c.first 0 e in
          or_case (eqb c.second 0) (ltb c.first c.second && not (eqb c.second n)) (and_r (not (eqb c.first n)) (eqb c.second 0 || (ltb c.first c.second && not (eqb c.second n))) r)
          (λ y. record { small = (s, t); ordered = inl (eqb-true c.second 0 y); others = alike other (λ some w. some (sym w ∙ eqb-true c.second 0 y)) })
          (λ y.
          let less : c.first < c.second = ltb-true c.first c.second (and_l (ltb c.first c.second) (not (eqb c.second n)) y) in
          let own : c.second ≡ n → ⊥ = eqb-false c.second n (not-true (eqb c.second n) (and_r (ltb c.first c.second) (not (eqb c.second n)) y)) in
          record { small = (s, t); ordered = inr (omega arith, less); others = alike other (λ some w. own w) })

  pub words-names : NamesAllowed n c → ok_names n c ≡ true
  unfolding ok_names
  words-names a = both (both (lt-ltb c.first (256 ^ 4) a.small.0) (lt-ltb c.second (256 ^ 4) a.small.1)) (go (eqb c.first 0) refl (eqb c.second 0) refl a.ordered)
    where
      free : (c.first ≡ 0 → ⊥) → c.first ≡ n → ⊥
      free some e = a.others (λ z. some (e ∙ z), inl e)

      own : (c.second ≡ 0 → ⊥) → c.second ≡ n → ⊥
      own some e = a.others (λ z. some (e ∙ z), inr e)

      go : (b : Bool) → eqb c.first 0 ≡ b → (d : Bool) → eqb c.second 0 ≡ d → (c.second ≡ 0) ⊎ ((1 ≤ c.first) × (c.first < c.second))
          → cond b d (not (eqb c.first n) && (d || (ltb c.first c.second && not (eqb c.second n)))) ≡ true
      go true e true f o = refl
      go true e false f (inl z) = absurd (eqb-false c.second 0 f z)
      go true e false f (inr (l, m)) = absurd (omega (arith, eqb-true c.first 0 e))
      go false e true f o = both (ap not (ne_eqb c.first n (free (eqb-false c.first 0 e)))) refl
      go false e false f (inl z) = absurd (eqb-false c.second 0 f z)
      go false e false f (inr (l, m)) =
          both (ap not (ne_eqb c.first n (free (eqb-false c.first 0 e))))
          (both (lt-ltb c.first c.second m) (ap not (ne_eqb c.second n (own (eqb-false c.second 0 f)))))
