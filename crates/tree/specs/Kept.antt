-- What a tree does not depend on: the slots behind those of its indices, and the keys of later indices.
use Rattle.std.specs.Prelude.{◌≡◌, List, eqb, length, get_or, set}
use Rattle.std.proofs.Math.Path.{refl, ap}
use Rattle.std.proofs.Common.{sym, subst, ◌∙◌, arith, length-set, get_or-set_other}
use Rattle.std.proofs.Math.Bool.{cond}
use Prim.Native.Nat.{ℕ, zero, suc, ◌+◌, ◌-◌, ◌*◌, ◌≤◌, ◌<◌}
use Rattle.lists.specs.Highest.{highest}
use Rattle.tree.specs.Form.{Form}
use Rattle.tree.specs.Digits.{digits}
use Rattle.tree.specs.Tree.{of_key, way, Passed, Tree, slot-below}
use Rattle.tree.specs.Search.{Place}

-- slots that agree up to the children of the last index
pub tree-slots : {key : ℕ → ℕ} {f : Form} {most p : ℕ} {old new : List ℕ} → Tree key f most p old → f.heads + 2 * most ≤ length new
    → ((z : ℕ) → z < f.heads + 2 * p → get_or new z 0 ≡ get_or old z 0) → Tree key f most p new
tree-slots {key} {f} {most} {p} {old} {new} t r same = record {
  formed = t.formed;
  below = t.below;
  few = t.few;
  room = r;
  fits = t.fits;
  depth = t.depth;
  node = t.node;
  holds = λ k j h. same (way t k j) (slot-below t k j h) ∙ t.holds k j h;
  passed = t.passed;
  ends = t.ends;
}

-- a write behind the slots of all indices that there is room for
pub tree-behind : {key : ℕ → ℕ} {f : Form} {most p : ℕ} {slots : List ℕ} → Tree key f most p slots → (i v : ℕ) → f.heads + 2 * most ≤ i
    → Tree key f most p (set slots i v)
tree-behind {key} {f} {most} {p} {slots} t i v l =
    tree-slots t (omega (arith, length-set slots i v, t.room)) (λ z h. get_or-set_other slots i z v 0 (λ e. absurd (omega (arith, t.below))))

-- ---- keys that agree below p

module _ {key new : ℕ → ℕ} {p : ℕ} (same : (q : ℕ) → q < p → new q ≡ key q) where
  highest-keys : (k n : ℕ) → n ≤ p → highest (of_key key k) n ≡ highest (of_key new k) n
  unfolding highest
  highest-keys k zero l = refl
  highest-keys k (suc n) l =
      ap (λ (x : ℕ). cond (eqb x k) (suc n) (highest (of_key key k) n)) (sym (same n (omega arith)))
      ∙ ap (λ (x : ℕ). cond (eqb (new n) k) (suc n) x) (highest-keys k n (omega arith))

  passed-keys : {f : Form} {depth : ℕ → ℕ} {k j v : ℕ} → Passed key f p depth k j v → Passed new f p depth k j v
  passed-keys {f} {depth} {k} {j} {v} w = record {
    low = w.low;
    high = w.high;
    some = subst (λ (x : ℕ). f.first ≤ x) e w.some;
    other = λ i. w.other (e ∙ i);
    own = subst (λ (x : ℕ). digits f x (depth x) ≡ digits f k j) e w.own;
  }
    where
      e : key (v - 1) ≡ new (v - 1)
      e = sym (same (v - 1) (omega (arith, w.low, w.high)))

  pub tree-keys : {f : Form} {most : ℕ} {slots : List ℕ} → Tree key f most p slots → Tree new f most p slots
  tree-keys {f} {most} {slots} t = record {
    formed = t.formed;
    below = t.below;
    few = t.few;
    room = t.room;
    fits = λ q l. subst (λ (x : ℕ). x < f.end) (sym (same q l)) (t.fits q l);
    depth = t.depth;
    node = t.node;
    holds = t.holds;
    passed = λ k j l. passed-keys (t.passed k j l);
    ends = λ k s. t.ends k s ∙ highest-keys k p (omega arith);
  }

  pub place-keys : {f : Form} {most : ℕ} {slots : List ℕ} {k s : ℕ} → Place key f most p slots k s → Place new f most p slots k s
  unfolding tree-keys
  place-keys w = record { tree = tree-keys w.tree; some = w.some; here = w.here }
