-- Laws of `be_at` and `bytes_of`, stated once over the width.
use Rattle.std.specs.Prelude.{◌≡◌, refl, ℕ, zero, suc, ◌+◌, ◌*◌, ◌/◌, ◌%◌, ◌^◌, ◌≤◌, ◌<◌, List, [], ◌∷◌, ◌++◌, length, get_or, take, drop}
use Rattle.std.proofs.Common.{ap, ap₂, sym, ◌∙◌, ⊎_elim, append_assoc, add-zero, add-suc, add_assoc, mul-one, mul_assoc, pow-suc, mod-lt, mod-eq_of_lt, zero-add, le_of_suc-le-suc, eq-or-lt_of_le, arith, length-drop, get_or-append-add, length-take-le, get_or-take, get_or-drop, ext_get_or, one-add, lit<}
use Rattle.std.proofs.Math.Nat.{mod-one, pow-succ', one-le-pow}
use Rattle.std.proofs.Math.ListN.{get_or-append}
use Rattle.std.proofs.Math.Arith.{mod-mul}
use Rattle.lists.specs.Splice.{splice, get_or-below, get_or-above}

-- the n bytes of xs from place i as a number, most significant byte first
unfoldable pub be_at : ℕ → List ℕ → ℕ → ℕ
be_at zero xs i = 0
be_at (suc n) xs i = be_at n xs i * 256 + get_or xs (i + n) 0

-- the n bytes of v, most significant first
unfoldable pub bytes_of : ℕ → ℕ → List ℕ
bytes_of zero v = []
bytes_of (suc n) v = (v / 256 ^ n % 256) ∷ bytes_of n v

pub length-bytes_of : (n v : ℕ) → length (bytes_of n v) ≡ n
unfolding bytes_of
length-bytes_of zero v = refl
length-bytes_of (suc n) v = ap suc (length-bytes_of n v)

-- two stretches with the same bytes give the same number
pub be_at-same : (n : ℕ) (xs ys : List ℕ) (i j : ℕ) → ((k : ℕ) → k < n → get_or xs (i + k) 0 ≡ get_or ys (j + k) 0) → be_at n xs i ≡ be_at n ys j
unfolding be_at
be_at-same zero xs ys i j h = refl
be_at-same (suc n) xs ys i j h =
    ap₂ (λ (a b : ℕ). a * 256 + b) (be_at-same n xs ys i j (λ k hk. h k (omega arith))) (h n (omega arith))

-- a number of m + n bytes is one of m bytes and then one of n
pub be_at-add : (m n : ℕ) (xs : List ℕ) (i : ℕ) → be_at (m + n) xs i ≡ be_at m xs i * 256 ^ n + be_at n xs (i + m)
unfolding be_at
be_at-add m zero xs i = rw (add-zero, mul-one, add-zero)
be_at-add m (suc n) xs i =
    let ih : be_at (m + n) xs i ≡ be_at m xs i * 256 ^ n + be_at n xs (i + m) = be_at-add m n xs i in
    let p : be_at m xs i * 256 ^ suc n ≡ be_at m xs i * 256 ^ n * 256 = rw (pow-suc, mul_assoc) in
    let q : get_or xs (i + (m + n)) 0 ≡ get_or xs (i + m + n) 0 = rw add_assoc in
    rw add-suc (omega arith)

-- the number that the bytes of v make
pub be-bytes_of : (n v : ℕ) → be_at n (bytes_of n v) 0 ≡ v % 256 ^ n
unfolding be_at bytes_of
be-bytes_of zero v = sym (mod-one v)
be-bytes_of (suc n) v =
    let l : List ℕ = bytes_of (suc n) v in
    let a : be_at (1 + n) l 0 ≡ v / 256 ^ n % 256 * 256 ^ n + be_at n l 1 = be_at-add 1 n l 0 ∙ rw zero-add in
    let b : be_at n l 1 ≡ be_at n (bytes_of n v) 0 = be_at-same n _ _ 1 0 (λ k hk. rw (one-add, zero-add)) in
    let d : v % (256 * 256 ^ n) ≡ v / 256 ^ n % 256 * 256 ^ n + v % 256 ^ n = mod-mul v (lit< tt) (one-le-pow n 256 (lit< tt)) in
    let e : be_at n (bytes_of n v) 0 ≡ v % 256 ^ n = be-bytes_of n v in
    let f : be_at (1 + n) l 0 ≡ v % 256 ^ suc n = rw pow-succ' (omega arith) in
    ap (λ (m : ℕ). be_at m l 0) (sym (one-add n)) ∙ f

-- a load outside a stored stretch
pub load_below : (n : ℕ) (xs ys : List ℕ) (i j : ℕ) → i + length ys ≤ length xs → j + n ≤ i → be_at n (splice xs i ys) j ≡ be_at n xs j
load_below n xs ys i j h o = be_at-same n _ xs j j (λ k hk. get_or-below xs i ys h (j + k) (omega arith))

pub load-above : (n : ℕ) (xs ys : List ℕ) (i j : ℕ) → i + length ys ≤ length xs → i + length ys ≤ j → be_at n (splice xs i ys) j ≡ be_at n xs j
load-above n xs ys i j h o = be_at-same n _ xs j j (λ k hk. get_or-above xs i ys h (j + k) (omega arith))

-- a load in the left part of a concatenation, and of the number that stands last
pub be_at-left : (n : ℕ) (xs ys : List ℕ) (i : ℕ) → i + n ≤ length xs → be_at n (xs ++ ys) i ≡ be_at n xs i
be_at-left n xs ys i h = be_at-same n _ xs i i (λ k hk. get_or-append xs ys 0 (i + k) (omega arith))

pub be_at-last : (n v : ℕ) (p : List ℕ) (i : ℕ) → length p ≡ i → v < 256 ^ n → be_at n (p ++ bytes_of n v) i ≡ v
be_at-last n v p i e hv =
    be_at-same n _ (bytes_of n v) i 0 (λ k hk. rw (← e, zero-add) (get_or-append-add p (bytes_of n v) k 0))
    ∙ be-bytes_of n v ∙ mod-eq_of_lt hv

-- a load inside a part of a concatenation, and of a number that stands at a known place
pub be_at-part : (n : ℕ) (p ys q : List ℕ) (j : ℕ) → j + n ≤ length ys → be_at n (p ++ ys ++ q) (length p + j) ≡ be_at n ys j
be_at-part n p ys q j h =
    be_at-same n _ ys (length p + j) j
    (λ k hk. rw (append_assoc, add_assoc) (get_or-append-add p (ys ++ q) (j + k) 0 ∙ get_or-append ys q 0 (j + k) (omega arith)))

pub be_at-field : (n v : ℕ) (s p q : List ℕ) (i : ℕ) → s ≡ p ++ bytes_of n v ++ q → length p ≡ i → v < 256 ^ n → be_at n s i ≡ v
be_at-field n v s p q i e l h =
    ap₂ (be_at n) e (sym l ∙ sym (add-zero (length p)))
    ∙ be_at-part n p (bytes_of n v) q 0 (omega (arith, length-bytes_of n v))
    ∙ be-bytes_of n v ∙ mod-eq_of_lt h

-- ---- loads of bytes

pub bytes_of_lt : (n v k : ℕ) → get_or (bytes_of n v) k 0 < 256
unfolding bytes_of
bytes_of_lt zero v k = lit< tt
bytes_of_lt (suc n) v zero = mod-lt (v / 256 ^ n) (lit< tt)
bytes_of_lt (suc n) v (suc k) = bytes_of_lt n v k

-- n bytes make a number below 256 ^ n
pub be_at-lt : (n : ℕ) (xs : List ℕ) (i : ℕ) → ((k : ℕ) → k < n → get_or xs (i + k) 0 < 256) → be_at n xs i < 256 ^ n
unfolding be_at
be_at-lt zero xs i h = lit< tt
be_at-lt (suc n) xs i h =
    rw pow-suc (omega (arith, h n (omega arith), be_at-lt n xs i (λ k l. h k (omega arith))))

-- stretches of bytes that make the same number are the same
pub be_at-inj : (n : ℕ) (xs ys : List ℕ) (i j : ℕ) → ((k : ℕ) → k < n → get_or xs (i + k) 0 < 256) → ((k : ℕ) → k < n → get_or ys (j + k) 0 < 256)
    → be_at n xs i ≡ be_at n ys j → (k : ℕ) → k < n → get_or xs (i + k) 0 ≡ get_or ys (j + k) 0
unfolding be_at
be_at-inj zero xs ys i j a b e k h = absurd (omega arith)
be_at-inj (suc n) xs ys i j a b e k h =
    let f : be_at n xs i * 256 + get_or xs (i + n) 0 ≡ be_at n ys j * 256 + get_or ys (j + n) 0 = e in
    let last : get_or xs (i + n) 0 ≡ get_or ys (j + n) 0 = omega (arith, a n (omega arith), b n (omega arith)) in
    let rest : be_at n xs i ≡ be_at n ys j = omega arith in
    ⊎_elim (λ (q : k ≡ n). ap (λ (m : ℕ). get_or xs (i + m) 0) q ∙ last ∙ ap (λ (m : ℕ). get_or ys (j + m) 0) (sym q))
    (λ (l : k < n). be_at-inj n xs ys i j (λ m u. a m (omega arith)) (λ m u. b m (omega arith)) rest k l) (eq-or-lt_of_le (le_of_suc-le-suc h))

-- the bytes of a load
pub bytes_of-be_at : (n : ℕ) (xs : List ℕ) (i : ℕ) → ((k : ℕ) → k < n → get_or xs (i + k) 0 < 256) → i + n ≤ length xs → bytes_of n (be_at n xs i) ≡ take n (drop i xs)
bytes_of-be_at n xs i h l =
    let v = be_at n xs i in
    let size : length (bytes_of n v) ≡ n = length-bytes_of n v in
    let e : be_at n (bytes_of n v) 0 ≡ v = be-bytes_of n v ∙ mod-eq_of_lt (be_at-lt n xs i h) in
    ext_get_or 0 (bytes_of n v) (take n (drop i xs))
    (size ∙ sym (length-take-le n (drop i xs) (omega (arith, length-drop i xs))))
    (λ k u. ap (λ (m : ℕ). get_or (bytes_of n v) m 0) (sym (zero-add k))
    ∙ be_at-inj n (bytes_of n v) xs 0 i (λ m w. bytes_of_lt n v (0 + m)) h e k (omega arith)
    ∙ sym (get_or-take n (drop i xs) k 0 (omega arith) ∙ get_or-drop i xs k 0))
