-- A key as digits: its head, then the bits of its rest, lowest first. A place of the tree is named by the digits that lead there: as many
-- as it is deep, and with what is left of the rest they are the key.
use Rattle.std.specs.Prelude.{◌≡◌, refl, List, [], ◌∷◌, ℕ, zero, suc, ◌+◌, ◌/◌, ◌%◌, ◌^◌, ◌<◌, length}
use Rattle.std.proofs.Common.{ap, sym, ◌∙◌, pow-suc, add-one, arith}
use Rattle.tree.specs.Form.{Form, Formed}

-- x halved n times, rounded down
unfoldable pub halves : ℕ → ℕ → ℕ
halves x zero = x
halves x (suc n) = halves x n / 2

pub halves-zero : (x : ℕ) → x ≡ halves x 0
unfolding halves
halves-zero x = refl

pub halves-more : (x n : ℕ) → halves x (n + 1) ≡ halves x n / 2
unfolding halves
halves-more x n = rw add-one

halves-front : (x n : ℕ) → halves x (suc n) ≡ halves (x / 2) n
unfolding halves
halves-front x zero = refl
halves-front x (suc n) = ap (λ (y : ℕ). y / 2) (halves-front x n)

-- n halvings leave nothing of a number of n bits
pub halves-none : (n x : ℕ) → x < 2 ^ n → halves x n ≡ 0
unfolding halves
halves-none zero x h = omega arith
halves-none (suc n) x h = halves-front x n ∙ halves-none n (x / 2) (omega (arith, pow-suc 2 n))

-- the digits of k above depth j, the lowest of them first
unfoldable pub digits : Form → ℕ → ℕ → List ℕ
digits f k zero = f.head k ∷ []
digits f k (suc j) = (halves (f.rest k) j % 2) ∷ digits f k j

digits-length : (f : Form) (k j : ℕ) → length (digits f k j) ≡ suc j
unfolding digits
digits-length f k zero = refl
digits-length f k (suc j) = ap suc (digits-length f k j)

-- their number is the depth
pub digits-depth : (f : Form) (k j l i : ℕ) → digits f k j ≡ digits f l i → j ≡ i
digits-depth f k j l i e = omega (arith, sym (digits-length f k j) ∙ ap length e ∙ digits-length f l i)

-- with what is left of the rest they are the key
pub digits-key : {f : Form} → Formed f → (k l j : ℕ) → digits f k j ≡ digits f l j → halves (f.rest k) j ≡ halves (f.rest l) j → k ≡ l
unfolding digits halves
digits-key {f} w k l zero e h =
    let r : f.head k ≡ f.head l = cc in
    w.apart k l r h
digits-key {f} w k l (suc j) e h =
    let r : halves (f.rest k) j % 2 ≡ halves (f.rest l) j % 2 = cc in
    let t : digits f k j ≡ digits f l j = cc in
    digits-key w k l j t (omega arith)
