-- The search for a key: what a loop down its way knows, and the place where it ends. What stands there is the answer, or nothing.
use Rattle.std.specs.Prelude.{◌≡◌, refl, List, ℕ, ◌+◌, ◌-◌, ◌*◌, ◌/◌, ◌%◌, ◌≤◌, ◌<◌, length, get_or}
use Rattle.std.proofs.Math.Path.{ap, ap₂, sym}
use Rattle.std.proofs.Common.{subst, ◌∙◌, ⊎_elim, eq-or-lt_of_le, add-one, arith}
use Rattle.lists.specs.Highest.{highest, highest-le}
use Rattle.tree.specs.Form.{Form, Bits, by_remainder, word_end}
use Rattle.tree.specs.Digits.{halves, halves-zero, halves-more}
use Rattle.tree.specs.Tree.{of_key, slot_of, way, Tree, slot-below, end-has, node-high, depth_le, depth-32}

-- what a search for the key k asks
pub record Sought (key : ℕ → ℕ) (f : Form) (most p : ℕ) (slots : List ℕ) (k : ℕ) : Type 0 where
  pub tree : Tree key f most p slots
  pub some : f.first ≤ k

-- s is the slot where the way of the key k ends
pub record Place (key : ℕ → ℕ) (f : Form) (most p : ℕ) (slots : List ℕ) (k s : ℕ) : Type 0 where
  pub tree : Tree key f most p slots
  pub some : f.first ≤ k
  pub here : s ≡ way tree k (tree.depth k)

-- at depth d the way of the key k is at the slot s, and q is left of its rest
pub record Descending (key : ℕ → ℕ) (f : Form) (most p : ℕ) (slots : List ℕ) (k d q s : ℕ) : Type 0 where
  pub tree : Tree key f most p slots
  pub some : f.first ≤ k
  pub deep : d ≤ tree.depth k
  pub left : q ≡ halves (f.rest k) d
  pub here : s ≡ way tree k d

pub descending-start : {key : ℕ → ℕ} {f : Form} {most p : ℕ} {slots : List ℕ} {k : ℕ} → Sought key f most p slots k
    → Descending key f most p slots k 0 (f.rest k) (f.head k)
unfolding slot_of
descending-start {key} {f} {most} {p} {slots} {k} a =
    record { tree = a.tree; some = a.some; deep = omega arith; left = halves-zero (f.rest k); here = refl }

module _ {key : ℕ → ℕ} {f : Form} {most p : ℕ} {slots : List ℕ} {k d q s : ℕ} (w : Descending key f most p slots k d q s) where
  pub descending-room : s < length slots
  descending-room =
      let low : s < f.heads + 2 * p = subst (λ (x : ℕ). x < f.heads + 2 * p) (sym w.here) (slot-below w.tree k d w.deep) in
      omega (arith, w.tree.below, w.tree.room)

  met : get_or slots s 0 ≡ w.tree.node k d
  met = ap (λ (x : ℕ). get_or slots x 0) w.here ∙ w.tree.holds k d w.deep

  pub descending-few : (b : ℕ) → Bits f b → k < f.end → d ≤ b
  descending-few b bits fit = omega (arith, w.deep, depth_le w.tree b bits k fit)

  -- what is met there is a node below p
  pub descending-high : get_or slots s 0 ≤ p
  descending-high = omega (arith, met, node-high w.tree k d w.some w.deep)

  stop : (d < w.tree.depth k → ⊥) → Place key f most p slots k s
  stop over = record {
    tree = w.tree;
    some = w.some;
    here =
        w.here
        ∙ ap (way w.tree k) (⊎_elim (λ (i : d ≡ w.tree.depth k). i) (λ (i : d < w.tree.depth k). absurd (over i)) (eq-or-lt_of_le w.deep));
  }

  -- nothing is there
  pub descending-none : get_or slots s 0 ≡ 0 → Place key f most p slots k s
  descending-none z = stop (λ i. omega (arith, (w.tree.passed k d i).low, met))

  -- the key's own node
  pub descending-found : key (get_or slots s 0 - 1) ≡ k → Place key f most p slots k s
  descending-found e = stop (λ i. (w.tree.passed k d i).other (ap (λ (x : ℕ). key (x - 1)) (sym met) ∙ e))

  -- another key's
  module _ (there : 1 ≤ get_or slots s 0) where
    pub descending-below : f.heads + 2 * (get_or slots s 0 - 1) + q % 2 < length slots
    descending-below = omega (arith, descending-high, w.tree.below, w.tree.room)

    module _ (other : key (get_or slots s 0 - 1) ≡ k → ⊥) where
      on : d < w.tree.depth k
      on = ⊎_elim (λ (i : d ≡ w.tree.depth k). absurd (ended i)) (λ (i : d < w.tree.depth k). i) (eq-or-lt_of_le w.deep)
        where
          ended : d ≡ w.tree.depth k → ⊥
          ended i =
              let e : get_or slots s 0 ≡ w.tree.node k (w.tree.depth k) = met ∙ ap (w.tree.node k) i in
              other (ap (λ (x : ℕ). key (x - 1)) e ∙ end-has w.tree k w.some (omega arith))

      pub descending-next : Descending key f most p slots k (d + 1) (q / 2) (f.heads + 2 * (get_or slots s 0 - 1) + q % 2)
      unfolding slot_of
      descending-next = record {
        tree = w.tree;
        some = w.some;
        deep = omega (arith, on);
        left = ap (λ (x : ℕ). x / 2) w.left ∙ sym (halves-more (f.rest k) d);
        here =
            ap₂ (λ (x y : ℕ). f.heads + 2 * (x - 1) + y % 2) met w.left
            ∙ ap (way w.tree k) (sym (add-one d));
      }

-- among 32-bit numbers
pub descending-32 : {key : ℕ → ℕ} {heads most p : ℕ} {slots : List ℕ} {k d q s : ℕ} → Descending key (by_remainder heads) most p slots k d q s → k < word_end
    → d ≤ 32
descending-32 w fit = omega (arith, w.deep, depth-32 w.tree _ fit)

-- ---- the place

module _ {key : ℕ → ℕ} {f : Form} {most p : ℕ} {slots : List ℕ} {k s : ℕ} (w : Place key f most p slots k s) where
  -- what stands there is the answer
  pub place-answer : get_or slots s 0 ≡ highest (of_key key k) p
  place-answer =
      ap (λ (x : ℕ). get_or slots x 0) w.here ∙ w.tree.holds k (w.tree.depth k) (omega arith) ∙ w.tree.ends k w.some

  pub place-high : get_or slots s 0 ≤ p
  place-high = omega (arith, place-answer, highest-le (of_key key k) p)

  pub place-low : s < f.heads + 2 * p
  place-low = subst (λ (x : ℕ). x < f.heads + 2 * p) (sym w.here) (slot-below w.tree k (w.tree.depth k) (omega arith))

  pub place-room : s < length slots
  place-room = omega (arith, place-low, w.tree.below, w.tree.room)

-- the next index has a key, and s is its place
pub record Placed (key : ℕ → ℕ) (f : Form) (most p : ℕ) (slots : List ℕ) (s : ℕ) : Type 0 where
  pub place : Place key f most p slots (key p) s
  pub below : p < most
  pub fits : key p < f.end

pub placed : {key : ℕ → ℕ} {f : Form} {most p : ℕ} {slots : List ℕ} {k s : ℕ} → Place key f most p slots k s → k ≡ key p → p < most → k < f.end
    → Placed key f most p slots s
placed {key} {f} {most} {p} {slots} {k} {s} w e l i = record {
  place = subst (λ (x : ℕ). Place key f most p slots x s) e w;
  below = l;
  fits = omega arith;
}
