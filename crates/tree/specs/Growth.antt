-- The tree with one index more. An index without a key changes nothing. Another takes the place of its key's node and that node's
-- children, or, where its key is new, the empty slot where the key's way ends. What a way holds then is told by whether it goes through
-- that slot, so each field of the new tree is shown by that test, without induction.
use Rattle.std.specs.Prelude.{◌≡◌, Bool, ◌&&◌, List, eqb, leb, length}
use Rattle.std.proofs.Math.Path.{refl, ap}
use Rattle.std.proofs.Common.{sym, subst, ◌∙◌, ⊎_elim, eq-or-lt_of_le}
use Rattle.std.proofs.Math.Bool.{true, false, cond, not}
use Prim.Native.Nat.{ℕ, zero, suc, ◌+◌, ◌-◌, ◌*◌, ◌%◌, ◌≤◌, ◌<◌}
use native.Mathlib.Omega.{arith}
use Rattle.std.proofs.Math.ListN.{get_or}
use borrow.Author.Tests.{eqb-true, eqb-false, eq-eqb, ne_eqb, le-leb, lt-leb}
use Rattle.lists.specs.Highest.{highest, highest-yes, highest-no}
use Rattle.tree.specs.Form.{Form}
use Rattle.tree.specs.Digits.{halves, digits, digits-depth}
use Rattle.tree.specs.Tree.{of_key, slot_of, way, Passed, Tree, slot-below, slot-own, end-has, end-some}

-- keys that fit below p, and at p
fits_more : (key : ℕ → ℕ) (end p : ℕ) → ((q : ℕ) → q < p → key q < end) → key p < end → (q : ℕ) → q < p + 1 → key q < end
fits_more key end p below here q h =
    ⊎_elim (λ (i : q ≡ p). omega (arith, ap key i)) (λ (i : q < p). below q i) (eq-or-lt_of_le (let l : q ≤ p = omega arith in l))

-- an index without a key
pub tree-still : {key : ℕ → ℕ} {f : Form} {most p : ℕ} {slots : List ℕ} → Tree key f most p slots → p < most → key p < f.first → key p < f.end
    → Tree key f most (p + 1) slots
tree-still {key} {f} {most} {p} {slots} t l z fit = record {
  formed = t.formed;
  below = omega arith;
  few = t.few;
  room = t.room;
  fits = fits_more key f.end p t.fits fit;
  depth = t.depth;
  node = t.node;
  holds = t.holds;
  passed = λ k j h. let w = t.passed k j h in record { low = w.low; high = omega (arith, w.high); some = w.some; other = w.other; own = w.own };
  ends = λ k s. t.ends k s ∙ sym (highest-no (of_key key k) p (ne_eqb (key p) k (λ i. absurd (omega arith))));
}

-- what is stored: p plus 1 at the slot s, and two children of p
pub record Stored (heads p s : ℕ) (kid : ℕ → ℕ) (old new : List ℕ) : Type 0 where
  pub size : length new ≡ length old
  pub place : get_or new s 0 ≡ p + 1
  pub kids : (b : ℕ) → b < 2 → get_or new (heads + 2 * p + b) 0 ≡ kid b
  pub rest : (z : ℕ) → z < heads + 2 * p → (z ≡ s → ⊥) → get_or new z 0 ≡ get_or old z 0

-- what the ways hold then
new_node : {key : ℕ → ℕ} {f : Form} {most p : ℕ} {slots : List ℕ} → Tree key f most p slots → ℕ → ℕ → ℕ → ℕ
new_node {key} {f} {most} {p} {slots} t s k j = cond (leb j (t.depth k)) (cond (eqb (way t k j) s) (p + 1) (t.node k j)) 0

-- where they end, if the key of p is new: those that ended at s go on by one
new_depth : {key : ℕ → ℕ} {f : Form} {most p : ℕ} {slots : List ℕ} → Tree key f most p slots → ℕ → ℕ → ℕ
new_depth {key} {f} {most} {p} {slots} t s k = cond (eqb (way t k (t.depth k)) s && not (eqb k (key p))) (t.depth k + 1) (t.depth k)

module _ {key : ℕ → ℕ} {f : Form} {most p : ℕ} {old new : List ℕ} {s : ℕ} {kid : ℕ → ℕ} (t : Tree key f most p old)
    (here : s ≡ way t (key p) (t.depth (key p))) (st : Stored f.heads p s kid old new) (l : p < most) (some_key : f.first ≤ key p) (fit : key p < f.end) where
  node-hit : (k j : ℕ) → j ≤ t.depth k → way t k j ≡ s → new_node t s k j ≡ p + 1
  unfolding new_node
  node-hit k j h e = simp (le-leb j (t.depth k) h, eq-eqb (way t k j) s e)

  node-miss : (k j : ℕ) → j ≤ t.depth k → (way t k j ≡ s → ⊥) → new_node t s k j ≡ t.node k j
  unfolding new_node
  node-miss k j h e = simp (le-leb j (t.depth k) h, ne_eqb (way t k j) s e)

  node-past : (k j : ℕ) → t.depth k < j → new_node t s k j ≡ 0
  unfolding new_node
  node-past k j h = simp (lt-leb j (t.depth k) h)

  -- the slots of the old ways
  old-way : (k j : ℕ) → j ≤ t.depth k → get_or new (way t k j) 0 ≡ new_node t s k j
  old-way k j h = go (eqb (way t k j) s) refl
    where
      go : (b : Bool) → eqb (way t k j) s ≡ b → get_or new (way t k j) 0 ≡ new_node t s k j
      go true e = let i = eqb-true (way t k j) s e in ap (λ (x : ℕ). get_or new x 0) i ∙ st.place ∙ sym (node-hit k j h i)
      go false e =
          let i = eqb-false (way t k j) s e in
          st.rest (way t k j) (slot-below t k j h) i ∙ t.holds k j h ∙ sym (node-miss k j h i)

  -- a way that does not go through s there goes on as before
  on-miss : (k j : ℕ) → j < t.depth k → (way t k j ≡ s → ⊥) → slot_of f (new_node t s) k (suc j) ≡ way t k (suc j)
  unfolding slot_of
  on-miss k j h e = ap (λ (x : ℕ). f.heads + 2 * (x - 1) + halves (f.rest k) j % 2) (node-miss k j (omega arith) e)

  -- one that does goes on below p
  on-hit : (k j : ℕ) → j ≤ t.depth k → way t k j ≡ s → get_or new (slot_of f (new_node t s) k (suc j)) 0 ≡ kid (halves (f.rest k) j % 2)
  unfolding slot_of
  on-hit k j h e =
      let i : p + 1 - 1 ≡ p = omega arith in
      ap (λ (x : ℕ). get_or new (f.heads + 2 * (x - 1) + halves (f.rest k) j % 2) 0) (node-hit k j h e)
      ∙ ap (λ (x : ℕ). get_or new (f.heads + 2 * x + halves (f.rest k) j % 2) 0) i
      ∙ st.kids (halves (f.rest k) j % 2) (omega arith)

  -- it has the digits of p's key
  hit-digits : (k j : ℕ) → j ≤ t.depth k → way t k j ≡ s → digits f (key p) (t.depth (key p)) ≡ digits f k j
  hit-digits k j h e = sym (slot-own t k j (key p) (t.depth (key p)) h (omega arith) (e ∙ here))

  -- and meets there what that key meets
  hit-node : (k j : ℕ) → j ≤ t.depth k → way t k j ≡ s → t.node k j ≡ get_or old s 0
  hit-node k j h e = sym (t.holds k j h) ∙ ap (λ (x : ℕ). get_or old x 0) e

  -- not above the depth at which that key ends
  hit-deep : (k j : ℕ) → j ≤ t.depth k → way t k j ≡ s → j < t.depth (key p) → ⊥
  hit-deep k j h e i = omega (arith, digits-depth f (key p) (t.depth (key p)) k j (hit-digits k j h e))

  -- p is the node that it goes past
  passed-hit : (depth : ℕ → ℕ) → depth (key p) ≡ t.depth (key p) → (k j : ℕ) → j ≤ t.depth k → way t k j ≡ s → (key p ≡ k → ⊥)
      → Passed key f (p + 1) depth k j (new_node t s k j)
  passed-hit depth d k j h e other = subst (λ (v : ℕ). Passed key f (p + 1) depth k j v) (sym (node-hit k j h e)) (record {
    low = omega arith;
    high = omega arith;
    some = subst (λ (x : ℕ). f.first ≤ x) own some_key;
    other = λ i. other (own ∙ i);
    own = subst (λ (x : ℕ). digits f x (depth x) ≡ digits f k j) own (ap (digits f (key p)) d ∙ hit-digits k j h e);
  })
    where
      own : key p ≡ key (p + 1 - 1)
      own = let back : p ≡ p + 1 - 1 = omega arith in ap key back

  passed-miss : (depth : ℕ → ℕ) → (k j : ℕ) → j < t.depth k → (way t k j ≡ s → ⊥) → depth (key (t.node k j - 1)) ≡ t.depth (key (t.node k j - 1))
      → Passed key f (p + 1) depth k j (new_node t s k j)
  passed-miss depth k j h e d =
      let w = t.passed k j h in
      subst (λ (v : ℕ). Passed key f (p + 1) depth k j v) (sym (node-miss k j (omega arith) e)) (record {
        low = w.low;
        high = omega (arith, w.high);
        some = w.some;
        other = w.other;
        own = ap (digits f (key (t.node k j - 1))) d ∙ w.own;
      })

  ends-own : (d : ℕ) → d ≡ t.depth (key p) → new_node t s (key p) d ≡ highest (of_key key (key p)) (p + 1)
  ends-own d e =
      ap (new_node t s (key p)) e
      ∙ node-hit (key p) (t.depth (key p)) (omega arith) (sym here) ∙ sym (highest-yes (of_key key (key p)) p (eq-eqb (key p) (key p) refl))

  ends-other : (k : ℕ) → (k ≡ key p → ⊥) → highest (of_key key k) p ≡ highest (of_key key k) (p + 1)
  ends-other k i = sym (highest-no (of_key key k) p (ne_eqb (key p) k (λ e. i (sym e))))

  -- ---- a key that is there: the children of its node, copied

  module _ (there : 1 ≤ get_or old s 0) (copied : (b : ℕ) → b < 2 → kid b ≡ get_or old (f.heads + 2 * (get_or old s 0 - 1) + b) 0) where
    holds-again : (k j : ℕ) → j ≤ t.depth k → get_or new (slot_of f (new_node t s) k j) 0 ≡ new_node t s k j
    unfolding slot_of
    holds-again k zero h = old-way k zero h
    holds-again k (suc j) h = go (eqb (way t k j) s) refl
      where
        lower : j ≤ t.depth k
        lower = omega arith

        child : way t k j ≡ s → get_or old (f.heads + 2 * (get_or old s 0 - 1) + halves (f.rest k) j % 2) 0 ≡ t.node k (suc j)
        child e = ap (λ (x : ℕ). get_or old (f.heads + 2 * (x - 1) + halves (f.rest k) j % 2) 0) (sym (hit-node k j lower e)) ∙ t.holds k (suc j) h

        once : way t k j ≡ s → way t k (suc j) ≡ s → ⊥
        once e i = omega (arith, digits-depth f k j k (suc j) (sym (hit-digits k j lower e) ∙ hit-digits k (suc j) h i))

        go : (b : Bool) → eqb (way t k j) s ≡ b → get_or new (slot_of f (new_node t s) k (suc j)) 0 ≡ new_node t s k (suc j)
        go true e =
            let i = eqb-true (way t k j) s e in
            on-hit k j lower i ∙ copied (halves (f.rest k) j % 2) (omega arith) ∙ child i ∙ sym (node-miss k (suc j) h (once i))
        go false e = ap (λ (x : ℕ). get_or new x 0) (on-miss k j h (eqb-false (way t k j) s e)) ∙ old-way k (suc j) h

    passed-again : (k j : ℕ) → j < t.depth k → Passed key f (p + 1) t.depth k j (new_node t s k j)
    passed-again k j h = go (eqb (way t k j) s) refl
      where
        go : (b : Bool) → eqb (way t k j) s ≡ b → Passed key f (p + 1) t.depth k j (new_node t s k j)
        go true e =
            let i = eqb-true (way t k j) s e in
            passed-hit t.depth refl k j (omega arith) i (λ x. hit-deep k j (omega arith) i (subst (λ (y : ℕ). j < t.depth y) (sym x) h))
        go false e = passed-miss t.depth k j h (eqb-false (way t k j) s e) refl

    ends-again : (k : ℕ) → f.first ≤ k → new_node t s k (t.depth k) ≡ highest (of_key key k) (p + 1)
    ends-again k some-k = go (eqb k (key p)) refl
      where
        one : (x y : ℕ) → f.first ≤ x → 1 ≤ t.node x (t.depth x) → t.node x (t.depth x) ≡ y → key (y - 1) ≡ x
        one x y a b e = subst (λ (z : ℕ). key (z - 1) ≡ x) e (end-has t x a b)

        apart : (k ≡ key p → ⊥) → way t k (t.depth k) ≡ s → ⊥
        apart d e =
            let a = hit-node k (t.depth k) (omega arith) e in
            let b = hit-node (key p) (t.depth (key p)) (omega arith) (sym here) in
            d (sym (one k (get_or old s 0) some-k (omega arith) a) ∙ one (key p) (get_or old s 0) some_key (omega arith) b)

        go : (b : Bool) → eqb k (key p) ≡ b → new_node t s k (t.depth k) ≡ highest (of_key key k) (p + 1)
        go true e =
            subst (λ (x : ℕ). new_node t s x (t.depth x) ≡ highest (of_key key x) (p + 1)) (sym (eqb-true k (key p) e)) (ends-own (t.depth (key p)) refl)
        go false e =
            let d = eqb-false k (key p) e in
            node-miss k (t.depth k) (omega arith) (apart d) ∙ t.ends k some-k ∙ ends-other k d

    pub tree_again : Tree key f most (p + 1) new
    tree_again = record {
      formed = t.formed;
      below = omega arith;
      few = t.few;
      room = omega (arith, st.size, t.room);
      fits = fits_more key f.end p t.fits fit;
      depth = t.depth;
      node = new_node t s;
      holds = holds-again;
      passed = passed-again;
      ends = ends-again;
    }

  -- ---- a new key: no children

  module _ (empty : get_or old s 0 ≡ 0) (no-kids : (b : ℕ) → b < 2 → kid b ≡ 0) where
    grows : (k : ℕ) → way t k (t.depth k) ≡ s → (k ≡ key p → ⊥) → new_depth t s k ≡ t.depth k + 1
    unfolding new_depth
    grows k e d = simp (eq-eqb (way t k (t.depth k)) s e, ne_eqb k (key p) d)

    stays : (k : ℕ) → (way t k (t.depth k) ≡ s → ⊥) → new_depth t s k ≡ t.depth k
    unfolding new_depth
    stays k e = simp (ne_eqb (way t k (t.depth k)) s e)

    own-stays : new_depth t s (key p) ≡ t.depth (key p)
    unfolding new_depth
    own-stays = simp (eq-eqb (way t (key p) (t.depth (key p))) s (sym here), eq-eqb (key p) (key p) refl)

    by_one : (k : ℕ) → new_depth t s k ≤ t.depth k + 1
    unfolding new_depth
    by_one k = go (eqb (way t k (t.depth k)) s && not (eqb k (key p)))
      where
        go : (b : Bool) → cond b (t.depth k + 1) (t.depth k) ≤ t.depth k + 1
        go true = omega arith
        go false = omega arith

    -- a way goes through s at its end only
    last : (k j : ℕ) → j ≤ t.depth k → way t k j ≡ s → j ≡ t.depth k
    last k j h e =
        ⊎_elim (λ (i : j ≡ t.depth k). i) (λ (i : j < t.depth k). absurd (omega (arith, (t.passed k j i).low, hit-node k j h e))) (eq-or-lt_of_le h)

    inside : (k j : ℕ) → j < new_depth t s k → (way t k j ≡ s → ⊥) → j < t.depth k
    inside k j h e = ⊎_elim here-not (λ (i : j < t.depth k). i) (eq-or-lt_of_le at_most)
      where
        at_most : j ≤ t.depth k
        at_most = omega (arith, by_one k)

        here-not : j ≡ t.depth k → j < t.depth k
        here-not i = omega (arith, stays k (subst (λ (x : ℕ). way t k x ≡ s → ⊥) i e))

    holds-new : (k j : ℕ) → j ≤ new_depth t s k → get_or new (slot_of f (new_node t s) k j) 0 ≡ new_node t s k j
    unfolding slot_of
    holds-new k zero h = old-way k zero (omega arith)
    holds-new k (suc j) h = go (eqb (way t k j) s) refl
      where
        lower : j ≤ t.depth k
        lower = omega (arith, by_one k)

        go : (b : Bool) → eqb (way t k j) s ≡ b → get_or new (slot_of f (new_node t s) k (suc j)) 0 ≡ new_node t s k (suc j)
        go true e =
            let i = eqb-true (way t k j) s e in
            on-hit k j lower i ∙ no-kids (halves (f.rest k) j % 2) (omega arith) ∙ sym (node-past k (suc j) (omega (arith, last k j lower i)))
        go false e =
            let d = eqb-false (way t k j) s e in
            let i : j < t.depth k = inside k j h d in
            ap (λ (x : ℕ). get_or new x 0) (on-miss k j i d) ∙ old-way k (suc j) i

    passed-new : (k j : ℕ) → j < new_depth t s k → Passed key f (p + 1) (new_depth t s) k j (new_node t s k j)
    passed-new k j h = go (eqb (way t k j) s) refl
      where
        lower : j ≤ t.depth k
        lower = omega (arith, by_one k)

        other : way t k j ≡ s → key p ≡ k → ⊥
        other i x = hit-deep k j lower i (omega (arith, subst (λ (y : ℕ). j < new_depth t s y) (sym x) h, own-stays))

        go : (b : Bool) → eqb (way t k j) s ≡ b → Passed key f (p + 1) (new_depth t s) k j (new_node t s k j)
        go true e = let i = eqb-true (way t k j) s e in passed-hit (new_depth t s) own-stays k j lower i (other i)
        go false e =
            let d = eqb-false (way t k j) s e in
            let w = t.passed k j (inside k j h d) in
            let o = key (t.node k j - 1) in
            let full : 1 ≤ t.node o (t.depth o) = end-some t (t.node k j - 1) (omega (arith, w.low, w.high)) w.some in
            passed-miss (new_depth t s) k j (inside k j h d) d
            (stays o (λ i. absurd (omega (arith, hit-node o (t.depth o) (omega arith) i))))

    ends-new : (k : ℕ) → f.first ≤ k → new_node t s k (new_depth t s k) ≡ highest (of_key key k) (p + 1)
    ends-new k some-k = go (eqb k (key p)) refl
      where
        by : (b : Bool) → (k ≡ key p → ⊥) → eqb (way t k (t.depth k)) s ≡ b → new_node t s k (new_depth t s k) ≡ highest (of_key key k) p
        by true d e =
            let i = eqb-true (way t k (t.depth k)) s e in
            node-past k (new_depth t s k) (omega (arith, grows k i d)) ∙ sym (sym (t.ends k some-k) ∙ hit-node k (t.depth k) (omega arith) i ∙ empty)
        by false d e =
            let i = eqb-false (way t k (t.depth k)) s e in
            ap (new_node t s k) (stays k i) ∙ node-miss k (t.depth k) (omega arith) i ∙ t.ends k some-k

        go : (b : Bool) → eqb k (key p) ≡ b → new_node t s k (new_depth t s k) ≡ highest (of_key key k) (p + 1)
        go true e =
            subst (λ (x : ℕ). new_node t s x (new_depth t s x) ≡ highest (of_key key x) (p + 1)) (sym (eqb-true k (key p) e))
            (ends-own (new_depth t s (key p)) own-stays)
        go false e = let d = eqb-false k (key p) e in by (eqb (way t k (t.depth k)) s) d refl ∙ ends-other k d

    pub tree-new : Tree key f most (p + 1) new
    tree-new = record {
      formed = t.formed;
      below = omega arith;
      few = t.few;
      room = omega (arith, st.size, t.room);
      fits = fits_more key f.end p t.fits fit;
      depth = new_depth t s;
      node = new_node t s;
      holds = holds-new;
      passed = passed-new;
      ends = ends-new;
    }
