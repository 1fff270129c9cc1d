-- The order of cells, by object and then key, is strict and total. Shown of pairs of numbers, by what each test compares; the
-- rest is arithmetic.
use mathlib.Core.Path.{◌≡◌, refl, ap₂, sym, ◌∙◌}
use mathlib.Core.Bool.{Bool, true, false, ◌&&◌, ◌||◌}
use Prim.Native.Nat.{ℕ, ◌+◌, ◌*◌, ◌≤◌, ◌<◌}
use native.Mathlib.Omega.{arith}
use lib.Dec.{eqb, ltb}
use borrow.Author.Tests.{ltb-true, ltb-false, lt-ltb, le-ltb, eqb-true, eqb-false, eq-eqb, ne_eqb}
use Rattle.lists.specs.Tests.{and_l, and_r, both, clash}
use Rattle.model.specs.Table.{Cell, is_of, cell_before}

-- the order of pairs of numbers, as `cell_before` has it
abbrev pub lex_before : ℕ → ℕ → ℕ → ℕ → Bool
lex_before a b o k = ltb a o || (eqb a o && ltb b k)

-- ---- a test from what it compares

pub lex-less : (a b o k : ℕ) → a < o → lex_before a b o k ≡ true
lex-less a b o k l = rw (lt-ltb a o l)

pub lex-key : (a b o k : ℕ) → a ≡ o → b < k → lex_before a b o k ≡ true
lex-key a b o k e l = rw (le-ltb a o (omega arith), eq-eqb a o e) (lt-ltb b k l)

pub lex-more : (a b o k : ℕ) → o < a → lex_before a b o k ≡ false
lex-more a b o k l = rw (le-ltb a o (omega arith), ne_eqb a o (λ e. omega arith))

pub lex-key-more : (a b o k : ℕ) → a ≡ o → k ≤ b → lex_before a b o k ≡ false
lex-key-more a b o k e l = rw (le-ltb a o (omega arith), eq-eqb a o e) (le-ltb b k l)

-- ---- what a test says

pub lex-case {ℓ} : {P : Type ℓ} (a b o k : ℕ) → lex_before a b o k ≡ true → (a < o → P) → (a ≡ o → b < k → P) → P
lex-case {P} a b o k e f g = go (ltb a o) refl e
  where
    go : (t : Bool) → ltb a o ≡ t → (t || (eqb a o && ltb b k)) ≡ true → P
    go true p q = f (ltb-true a o p)
    go false p q = g (eqb-true a o (and_l (eqb a o) (ltb b k) q)) (ltb-true b k (and_r (eqb a o) (ltb b k) q))

pub lex-not {ℓ} : {P : Type ℓ} (a b o k : ℕ) → lex_before a b o k ≡ false → (o < a → P) → (a ≡ o → k ≤ b → P) → P
lex-not {P} a b o k e f g = go (ltb a o) (eqb a o) refl refl e
  where
    go : (t u : Bool) → ltb a o ≡ t → eqb a o ≡ u → (t || (u && ltb b k)) ≡ false → P
    go true u p s q = clash true refl q
    go false true p s q = g (eqb-true a o s) (ltb-false b k q)
    go false false p s q = f (let n = eqb-false a o s in let m : o ≤ a = ltb-false a o p in omega arith)

-- ---- pairs: a strict total order

pub lex-trans : (a b c d e f : ℕ) → lex_before a b c d ≡ true → lex_before c d e f ≡ true → lex_before a b e f ≡ true
lex-trans a b c d e f p q =
    lex-case a b c d p
    (λ l. lex-case c d e f q (λ m. lex-less a b e f (omega arith)) (λ m n. lex-less a b e f (omega arith)))
    (λ l u. lex-case c d e f q (λ m. lex-less a b e f (omega arith)) (λ m n. lex-key a b e f (omega arith) (omega arith)))

pub lex-asym : (a b c d : ℕ) → lex_before a b c d ≡ true → lex_before c d a b ≡ false
lex-asym a b c d p = lex-case a b c d p (λ l. lex-more c d a b l) (λ e l. lex-key-more c d a b (sym e) (omega arith))

pub lex-irr : (a b : ℕ) → lex_before a b a b ≡ false
lex-irr a b = lex-key-more a b a b refl (omega arith)

pub lex-total : (a b c d : ℕ) → lex_before a b c d ≡ false → (eqb a c && eqb b d) ≡ false → lex_before c d a b ≡ true
lex-total a b c d p n =
    lex-not a b c d p (λ l. lex-less c d a b l)
    (λ e l. go (eqb b d) refl e l)
  where
    go : (t : Bool) → eqb b d ≡ t → a ≡ c → d ≤ b → lex_before c d a b ≡ true
    go true s e l = clash (eqb a c && eqb b d) (both (eq-eqb a c e) s) n
    go false s e l = lex-key c d a b (sym e) (let m = eqb-false b d s in omega arith)

pub lex-differ : (a b c d : ℕ) → lex_before a b c d ≡ true → (eqb a c && eqb b d) ≡ false
lex-differ a b c d p =
    lex-case a b c d p (λ l. rw (ne_eqb a c (λ e. omega arith))) (λ e l. rw (eq-eqb a c e) (ne_eqb b d (λ f. omega arith)))

-- ---- pairs as one number, where keys are below 2 ^ 32

pub lex-rank : (a b c d : ℕ) → b < 4294967296 → d < 4294967296 → lex_before a b c d ≡ ltb (a * 4294967296 + b) (c * 4294967296 + d)
lex-rank a b c d l m = go (lex_before a b c d) refl
  where
    go : (t : Bool) → lex_before a b c d ≡ t → t ≡ ltb (a * 4294967296 + b) (c * 4294967296 + d)
    go true e = sym (lex-case a b c d e (λ u. lt-ltb (a * 4294967296 + b) (c * 4294967296 + d) (omega arith)) (λ u v. lt-ltb (a * 4294967296 + b) (c * 4294967296 + d) (omega arith)))
    go false e = sym (lex-not a b c d e (λ u. le-ltb (a * 4294967296 + b) (c * 4294967296 + d) (omega arith)) (λ u v. le-ltb (a * 4294967296 + b) (c * 4294967296 + d) (omega arith)))

pub same_rank : (a b c d : ℕ) → b < 4294967296 → d < 4294967296 → (eqb a c && eqb b d) ≡ eqb (a * 4294967296 + b) (c * 4294967296 + d)
same_rank a b c d l m = go (eqb a c) (eqb b d) refl refl
  where
    go : (t u : Bool) → eqb a c ≡ t → eqb b d ≡ u → (t && u) ≡ eqb (a * 4294967296 + b) (c * 4294967296 + d)
    go true true p q =
        let x = eqb-true a c p in
        let y = eqb-true b d q in
        sym (eq-eqb (a * 4294967296 + b) (c * 4294967296 + d) (omega arith))
    go true false p q =
        let y = eqb-false b d q in
        sym (ne_eqb (a * 4294967296 + b) (c * 4294967296 + d) (λ e. y (omega (arith, eqb-true a c p))))
    go false u p q =
        let x = eqb-false a c p in
        sym (ne_eqb (a * 4294967296 + b) (c * 4294967296 + d) (λ e. x (omega arith)))

-- ---- cells

pub is-of : (c : Cell) (o k : ℕ) → is_of o k c ≡ true → (c.object ≡ o) × (c.key ≡ k)
is-of c o k e = (eqb-true c.object o (and_l (eqb c.object o) (eqb c.key k) e), eqb-true c.key k (and_r (eqb c.object o) (eqb c.key k) e))

pub of-itself : (c : Cell) → is_of c.object c.key c ≡ true
of-itself c = both (eq-eqb c.object c.object refl) (eq-eqb c.key c.key refl)

-- the other way round
pub of-turned : (c d : Cell) → is_of c.object c.key d ≡ true → is_of d.object d.key c ≡ true
of-turned c d e =
    let s = is-of d c.object c.key e in
    both (eq-eqb c.object d.object (sym s.0)) (eq-eqb c.key d.key (sym s.1))

pub before-differ : (c d : Cell) → cell_before c d ≡ true → is_of d.object d.key c ≡ false
before-differ c d e = lex-differ c.object c.key d.object d.key e

pub before-asym : (c d : Cell) → cell_before c d ≡ true → cell_before d c ≡ false
before-asym c d e = lex-asym c.object c.key d.object d.key e

pub before-irr : (c : Cell) → cell_before c c ≡ false
before-irr c = lex-irr c.object c.key

pub before-trans : (c d e : Cell) → cell_before c d ≡ true → cell_before d e ≡ true → cell_before c e ≡ true
before-trans c d e p q = lex-trans c.object c.key d.object d.key e.object e.key p q

pub before-total : (c d : Cell) → cell_before c d ≡ false → is_of d.object d.key c ≡ false → cell_before d c ≡ true
before-total c d e f = lex-total c.object c.key d.object d.key e f

-- rows of one cell come before and after the same rows
pub same_left : (c d e : Cell) → is_of d.object d.key c ≡ true → cell_before c e ≡ cell_before d e
same_left c d e w = let s = is-of c d.object d.key w in ap₂ (λ (x y : ℕ). lex_before x y e.object e.key) s.0 s.1

pub same-right : (c d e : Cell) → is_of d.object d.key c ≡ true → cell_before e c ≡ cell_before e d
same-right c d e w = let s = is-of c d.object d.key w in ap₂ (λ (x y : ℕ). lex_before e.object e.key x y) s.0 s.1

-- n is before d, and e is not: n is before e
pub before-past : (n d e : Cell) → cell_before n d ≡ true → cell_before e d ≡ false → cell_before n e ≡ true
before-past n d e p q = go (is_of d.object d.key e) refl
  where
    go : (b : Bool) → is_of d.object d.key e ≡ b → cell_before n e ≡ true
    go true w = same-right e d n w ∙ p
    go false w = before-trans n d e p (before-total e d q w)
