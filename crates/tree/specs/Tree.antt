-- The latest index of each key: a digital search tree below each head, in one array of slots. The node of a key is the latest index that
-- has it, so what a search ends at is the answer. Beside the slots stand two functions of every key, there or not: how deep its way goes,
-- and what its slots hold. With them no proof needs the tree's shape, but only that a node on a way has the digits of the way (`own`).
use Rattle.std.specs.Prelude.{◌≡◌, refl, Bool, true, false, eqb, leb, length, get_or, replicate}
use Rattle.std.proofs.Math.Path.{ap, ap₂, sym}
use Rattle.std.proofs.Common.{subst, ◌∙◌, ⊎_elim, eq-or-lt_of_le, arith, eqb-true, eq-eqb, leb-true, leb-false}
use mathlib.Core.List.{List, [], ◌∷◌}
use Prim.Native.Nat.{ℕ, zero, suc, ◌+◌, ◌-◌, ◌*◌, ◌%◌, ◌≤◌, ◌<◌}
use Rattle.std.proofs.lemmas.List.{length-replicate, get_or-replicate}
use Rattle.lists.specs.Highest.{highest, highest-le, highest-at, highest-ge}
use Rattle.tree.specs.Form.{Form, Formed, heads-some, Bits, by_remainder, remainder-bits, word_end}
use Rattle.tree.specs.Digits.{halves, halves-none, digits, digits-depth, digits-key}

-- the keys of a list
abbrev pub key_in : List ℕ → ℕ → ℕ
key_in keys q = get_or keys q 0

-- the index q has the key k
abbrev pub of_key : (ℕ → ℕ) → ℕ → ℕ → Bool
of_key key k q = eqb (key q) k

-- the slot at depth j on the way of the key k, where `node` tells what the slots on the ways hold
unfoldable pub slot_of : Form → (ℕ → ℕ → ℕ) → ℕ → ℕ → ℕ
slot_of f node k zero = f.head k
slot_of f node k (suc j) = f.heads + 2 * (node k j - 1) + halves (f.rest k) j % 2

-- v is what the way of k goes past at depth j: the node of another key, whose own way has the same digits and ends there
pub record Passed (key : ℕ → ℕ) (f : Form) (p : ℕ) (depth : ℕ → ℕ) (k j v : ℕ) : Type 0 where
  pub low : 1 ≤ v
  pub high : v ≤ p
  pub some : f.first ≤ key (v - 1)
  pub other : key (v - 1) ≡ k → ⊥
  pub own : digits f (key (v - 1)) (depth (key (v - 1))) ≡ digits f k j

-- the slots have room for `most` indices, and tell of each key its latest index below p, plus 1
pub record Tree (key : ℕ → ℕ) (f : Form) (most p : ℕ) (slots : List ℕ) : Type 0 where
  pub formed : Formed f
  pub below : p ≤ most
  pub few : most < word_end
  pub room : f.heads + 2 * most ≤ length slots
  pub fits : (q : ℕ) → q < p → key q < f.end
  pub depth : ℕ → ℕ
  pub node : ℕ → ℕ → ℕ
  pub holds : (k j : ℕ) → j ≤ depth k → get_or slots (slot_of f node k j) 0 ≡ node k j
  pub passed : (k j : ℕ) → j < depth k → Passed key f p depth k j (node k j)
  pub ends : (k : ℕ) → f.first ≤ k → node k (depth k) ≡ highest (of_key key k) p

-- ---- the start

-- the heads are empty: the other slots may hold anything
pub tree-none : (key : ℕ → ℕ) {f : Form} (most : ℕ) (slots : List ℕ) → Formed f → most < word_end → f.heads + 2 * most ≤ length slots
    → ((b : ℕ) → b < f.heads → get_or slots b 0 ≡ 0) → Tree key f most 0 slots
unfolding highest slot_of
tree-none key {f} most slots w l r z = record {
  formed = w;
  below = omega arith;
  few = l;
  room = r;
  fits = λ q i. absurd (omega arith);
  depth = λ k. 0;
  node = λ k j. 0;
  holds = λ k j i. head k j i;
  passed = λ k j i. absurd (omega arith);
  ends = λ k i. refl;
}
  where
    head : (k j : ℕ) → j ≤ 0 → get_or slots (slot_of f (λ k j. 0) k j) 0 ≡ 0
    head k zero i = z (f.head k) (w.within k)
    head k (suc j) i = absurd (omega arith)

-- a fresh array
pub tree-zeros : (key : ℕ → ℕ) {f : Form} (most size : ℕ) → Formed f → most < word_end → f.heads + 2 * most ≤ size
    → Tree key f most 0 (replicate size 0)
tree-zeros key {f} most size w l r =
    tree-none key most (replicate size 0) w l (omega (arith, length-replicate {A = ℕ} size 0)) (λ b i. get_or-replicate size b 0 0 (omega arith))

-- ---- the ways

-- the slot at depth j on the way of k
abbrev pub way : {key : ℕ → ℕ} {f : Form} {most p : ℕ} {slots : List ℕ} → Tree key f most p slots → ℕ → ℕ → ℕ
way {key} {f} {most} {p} {slots} t k j = slot_of f t.node k j

module _ {key : ℕ → ℕ} {f : Form} {most p : ℕ} {slots : List ℕ} (t : Tree key f most p slots) where
  -- the slots on the ways are heads, or children of nodes below p
  pub slot-below : (k j : ℕ) → j ≤ t.depth k → way t k j < f.heads + 2 * p
  unfolding slot_of
  slot-below k zero l = omega (arith, t.formed.within k)
  slot-below k (suc j) l = let w = t.passed k j (omega arith) in omega (arith, w.low, w.high)

  -- a slot is reached by one row of digits only: it names the node above it, and that node has one key and one depth
  pub slot-own : (k j l i : ℕ) → j ≤ t.depth k → i ≤ t.depth l → way t k j ≡ way t l i → digits f k j ≡ digits f l i
  unfolding slot_of digits
  slot-own k zero l zero a b e = ap (λ (x : ℕ). x ∷ []) e
  slot-own k zero l (suc i) a b e = absurd (omega (arith, t.formed.within k))
  slot-own k (suc j) l zero a b e = absurd (omega (arith, t.formed.within l))
  slot-own k (suc j) l (suc i) a b e =
      let v = t.passed k j (omega arith) in
      let w = t.passed l i (omega arith) in
      let same : t.node k j ≡ t.node l i = omega (arith, v.low, w.low) in
      let bit : halves (f.rest k) j % 2 ≡ halves (f.rest l) i % 2 = omega (arith, v.low, w.low) in
      let above : digits f k j ≡ digits f l i =
      sym v.own ∙ ap (λ (x : ℕ). digits f (key (x - 1)) (t.depth (key (x - 1)))) same ∙ w.own in
      ap₂ (λ (x : ℕ) (r : List ℕ). x ∷ r) bit above

  -- what stands at the end of a key's way, if anything, has the key
  pub end-has : (k : ℕ) → f.first ≤ k → 1 ≤ t.node k (t.depth k) → key (t.node k (t.depth k) - 1) ≡ k
  end-has k s h =
      eqb-true (key (t.node k (t.depth k) - 1)) k
      (subst (λ (x : ℕ). of_key key k (x - 1) ≡ true) (sym (t.ends k s)) (highest-at (of_key key k) p (omega (arith, t.ends k s))))

  -- a key that some index below p has is there
  pub end-some : (q : ℕ) → q < p → f.first ≤ key q → 1 ≤ t.node (key q) (t.depth (key q))
  end-some q l s = omega (arith, t.ends (key q) s, highest-ge (of_key key (key q)) p q l (eq-eqb (key q) (key q) refl))

  -- what is met on the way of a key is a node below p
  pub node-high : (k j : ℕ) → f.first ≤ k → j ≤ t.depth k → t.node k j ≤ p
  node-high k j s l =
      ⊎_elim (λ (i : j ≡ t.depth k). omega (arith, ap (t.node k) i ∙ t.ends k s, highest-le (of_key key k) p)) (λ (i : j < t.depth k). (t.passed k j i).high) (eq-or-lt_of_le l)

  -- no way is deeper than the bits of the rests: at depth b all digits agree, so the node there would have the key itself
  pub depth_le : (b : ℕ) → Bits f b → (k : ℕ) → k < f.end → t.depth k ≤ b
  depth_le b bits k fit = go (leb (t.depth k) b) refl
    where
      spent : (x : ℕ) → x < f.end → halves (f.rest x) b ≡ 0
      spent x h = halves-none b (f.rest x) (bits x h)

      over : b < t.depth k → ⊥
      over l =
          let w = t.passed k b l in
          let i : t.node k b - 1 < p = omega (arith, w.low, w.high) in
          let own = key (t.node k b - 1) in
          let d : t.depth own ≡ b = digits-depth f own (t.depth own) k b w.own in
          let e : digits f own b ≡ digits f k b = ap (digits f own) (sym d) ∙ w.own in
          w.other (digits-key t.formed own k b e (spent own (t.fits (t.node k b - 1) i) ∙ sym (spent k fit)))

      go : (x : Bool) → leb (t.depth k) b ≡ x → t.depth k ≤ b
      go true e = leb-true (t.depth k) b e
      go false e = absurd (over (leb-false (t.depth k) b e))

-- ---- how deep the ways of 32-bit numbers are

module _ {key : ℕ → ℕ} {heads most p : ℕ} {slots : List ℕ} (t : Tree key (by_remainder heads) most p slots) where
  -- whatever the number of heads
  pub depth-32 : (k : ℕ) → k < word_end → t.depth k ≤ 32
  depth-32 = depth_le t 32 (remainder-bits heads 32 (heads-some t.formed) (omega (arith, heads-some t.formed)))

  -- a search looks at 17 nodes at most where there are 65,536 heads or more
  pub depth-16 : 65536 ≤ heads → (k : ℕ) → k < word_end → t.depth k ≤ 16
  depth-16 h = depth_le t 16 (remainder-bits heads 16 (heads-some t.formed) (omega arith))
