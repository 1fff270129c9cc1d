-- Small laws of Boolean tests, by cases: what a true conjunction or a false disjunction says of its parts, and back.
use Rattle.std.specs.Prelude.{◌≡◌, refl, Bool, true, false, not, ◌&&◌, ◌||◌, ℕ, leb, ltb}
use Rattle.std.proofs.Common.{ap, ap₂, sym, arith, leb-true, leb-false, lt-ltb, le-ltb}
use Rattle.std.specs.Bool.{beq}

pub and_l : (a b : Bool) → (a && b) ≡ true → a ≡ true
and_l true b e = refl
and_l false b e = e

pub and_r : (a b : Bool) → (a && b) ≡ true → b ≡ true
and_r true b e = e
and_r false b e = cc

-- any part of a conjunction: `search ands`
pub ruleset ands = (and_l, and_r)

pub both : {a b : Bool} → a ≡ true → b ≡ true → (a && b) ≡ true
both p q = ap₂ (λ (x y : Bool). x && y) p q

pub or_l : (a b : Bool) → (a || b) ≡ false → a ≡ false
or_l true b e = e
or_l false b e = refl

pub or_r : (a b : Bool) → (a || b) ≡ false → b ≡ false
or_r true b e = cc
or_r false b e = e

-- any part of a disjunction that is false: `search ors`
pub ruleset ors = (or_l, or_r)

pub neither : {a b : Bool} → a ≡ false → b ≡ false → (a || b) ≡ false
neither p q = ap₂ (λ (x y : Bool). x || y) p q

pub or_case {ℓ} : {P : Type ℓ} (a b : Bool) → (a || b) ≡ true → (a ≡ true → P) → (b ≡ true → P) → P
or_case true b e f g = f refl
or_case false b e f g = g e

pub or-false : (b : Bool) → (b || false) ≡ b
or-false true = refl
or-false false = refl

pub and-true : (b : Bool) → (b && true) ≡ b
and-true true = refl
and-true false = refl

pub and-false : (b : Bool) → (b && false) ≡ false
and-false true = refl
and-false false = refl

-- a test and its opposite
pub leb-not : (a b : ℕ) → leb a b ≡ not (ltb b a)
leb-not a b = go (leb a b) refl
  where
    go : (t : Bool) → leb a b ≡ t → t ≡ not (ltb b a)
    go true e = sym (ap not (le-ltb b a (leb-true a b e)))
    go false e = sym (ap not (lt-ltb b a (leb-false a b e)))

pub beq-true : (a b : Bool) → beq a b ≡ true → a ≡ b
beq-true true true e = refl
beq-true true false e = sym e
beq-true false true e = e
beq-true false false e = refl

-- a test that is true and false
pub clash {ℓ} : {P : Type ℓ} (a : Bool) → a ≡ true → a ≡ false → P
clash a p q = absurd (let z : ◌≡◌ {A = ℕ} 0 1 = cc in omega arith)
