-- An index put at its place: three stores, the two children first. What they leave is a tree of one index more, whatever the keys are, if
-- the slot is the place of the index's key.
use Rattle.std.specs.Prelude.{◌≡◌, refl, Bool, true, false, cond, List, ℕ, zero, suc, ◌+◌, ◌-◌, ◌*◌, ◌≤◌, ◌<◌, eqb, length, get_or, set}
use Rattle.std.proofs.Common.{ap, sym, subst, ◌∙◌, arith, length-set, get_or-set_same, get_or-set_other}
use Rattle.tree.specs.Form.{Form, word_end}
use Rattle.tree.specs.Tree.{Tree}
use Rattle.tree.specs.Search.{Place, Placed, place-high, place-low}
use Rattle.tree.specs.Growth.{Stored, tree_again, tree-new}

-- there is room for p at the slot s, where a node below p stands, or none
pub record Room (heads p s : ℕ) (slots : List ℕ) : Type 0 where
  pub fits : p + 1 < word_end
  pub low : s < heads + 2 * p
  pub room : heads + 2 * p + 2 ≤ length slots
  pub high : get_or slots s 0 ≤ p

pub place-fits : {key : ℕ → ℕ} {f : Form} {most p : ℕ} {slots : List ℕ} {k s : ℕ} → Place key f most p slots k s → p < most → Room f.heads p s slots
place-fits w l = record {
  fits = omega (arith, l, w.tree.few);
  low = place-low w;
  room = omega (arith, l, w.tree.room);
  high = place-high w;
}

pub placed-room : {key : ℕ → ℕ} {f : Form} {most p : ℕ} {slots : List ℕ} {s : ℕ} → Placed key f most p slots s → Room f.heads p s slots
placed-room w = place-fits w.place w.below

-- p was put there: a tree of any form with so many heads
pub record Put (heads p s : ℕ) (old new : List ℕ) : Type 0 where
  pub size : length new ≡ length old
  pub behind : (z : ℕ) → heads + 2 * p + 2 ≤ z → get_or new z 0 ≡ get_or old z 0
  pub grown : (f : Form) (key : ℕ → ℕ) (most : ℕ) → f.heads ≡ heads → Placed key f most p old s → Tree key f most (p + 1) new

-- the children x and y of p, and then p at the slot s
abbrev stored_with : ℕ → ℕ → ℕ → ℕ → ℕ → List ℕ → List ℕ
stored_with heads p s x y old = set (set (set old (heads + 2 * p) x) (heads + 2 * p + 1) y) s (p + 1)

-- the children by their bit
abbrev kids_of : ℕ → ℕ → ℕ → ℕ
kids_of x y b = cond (eqb b 0) x y

module _ {heads p s : ℕ} {old : List ℕ} (r : Room heads p s old) where
  stored : (x y : ℕ) → Stored heads p s (kids_of x y) old (stored_with heads p s x y old)
  stored x y = record {
    size = length-set two s (p + 1) ∙ two_size;
    place = get_or-set_same two s (p + 1) 0 (omega (arith, two_size, r.low, r.room));
    kids = kids;
    rest = λ z l d.
        get_or-set_other two s z (p + 1) 0 d
        ∙ get_or-set_other one (heads + 2 * p + 1) z y 0 (λ i. absurd (omega arith)) ∙ get_or-set_other old (heads + 2 * p) z x 0 (λ i. absurd (omega arith));
  }
    where
      one : List ℕ
      one = set old (heads + 2 * p) x

      two : List ℕ
      two = set one (heads + 2 * p + 1) y

      one_size : length one ≡ length old
      one_size = length-set old (heads + 2 * p) x

      two_size : length two ≡ length old
      two_size = length-set one (heads + 2 * p + 1) y ∙ one_size

      left : get_or (set two s (p + 1)) (heads + 2 * p) 0 ≡ x
      left =
          get_or-set_other two s (heads + 2 * p) (p + 1) 0 (λ i. absurd (omega (arith, r.low)))
          ∙ get_or-set_other one (heads + 2 * p + 1) (heads + 2 * p) y 0 (λ i. absurd (omega arith)) ∙ get_or-set_same old (heads + 2 * p) x 0 (omega (arith, r.room))

      right : get_or (set two s (p + 1)) (heads + 2 * p + 1) 0 ≡ y
      right =
          get_or-set_other two s (heads + 2 * p + 1) (p + 1) 0 (λ i. absurd (omega (arith, r.low)))
          ∙ get_or-set_same one (heads + 2 * p + 1) y 0 (omega (arith, one_size, r.room))

      kids : (b : ℕ) → b < 2 → get_or (set two s (p + 1)) (heads + 2 * p + b) 0 ≡ kids_of x y b
      kids zero h = let e : heads + 2 * p + 0 ≡ heads + 2 * p = omega arith in ap (λ (z : ℕ). get_or (set two s (p + 1)) z 0) e ∙ left
      kids (suc zero) h = right
      kids (suc (suc b)) h = absurd (omega arith)

  -- the slots behind are not touched
  behind : (x y z : ℕ) → heads + 2 * p + 2 ≤ z → get_or (stored_with heads p s x y old) z 0 ≡ get_or old z 0
  behind x y z l =
      get_or-set_other (set (set old (heads + 2 * p) x) (heads + 2 * p + 1) y) s z (p + 1) 0 (λ i. absurd (omega (arith, r.low)))
      ∙ get_or-set_other (set old (heads + 2 * p) x) (heads + 2 * p + 1) z y 0 (λ i. absurd (omega arith))
      ∙ get_or-set_other old (heads + 2 * p) z x 0 (λ i. absurd (omega arith))

  pub put-new : get_or old s 0 ≡ 0 → Put heads p s old (stored_with heads p s 0 0 old)
  put-new e = record {
    size = (stored 0 0).size;
    behind = behind 0 0;
    grown = λ f key most i w.
        let st = subst (λ (h : ℕ). Stored h p s (kids_of 0 0) old (stored_with heads p s 0 0 old)) (sym i) (stored 0 0) in
        tree-new w.place.tree w.place.here st w.below w.place.some w.fits e (λ b h. none (eqb b 0));
  }
    where
      none : (t : Bool) → cond {A = ℕ} t 0 0 ≡ 0
      none true = refl
      none false = refl

  module _ (there : 1 ≤ get_or old s 0) where
    -- the children of the node before it stand below its own
    kids-below : heads + 2 * (get_or old s 0 - 1) + 2 ≤ heads + 2 * p
    kids-below = omega (arith, r.high)

    -- the second child is read after the first is stored
    pub put-again :
        let a = heads + 2 * (get_or old s 0 - 1) in
        let x = get_or old a 0 in
        Put heads p s old (stored_with heads p s x (get_or (set old (heads + 2 * p) x) (a + 1) 0) old)
    put-again = record {
      size = (stored x y).size;
      behind = behind x y;
      grown = λ f key most i w.
          let st = subst (λ (h : ℕ). Stored h p s (kids_of x y) old (stored_with heads p s x y old)) (sym i) (stored x y) in
          let kids = subst (λ (h : ℕ). (b : ℕ) → b < 2 → kids_of x y b ≡ get_or old (h + 2 * (get_or old s 0 - 1) + b) 0) (sym i) copied in
          tree_again w.place.tree w.place.here st w.below w.place.some w.fits there kids;
    }
      where
        a : ℕ
        a = heads + 2 * (get_or old s 0 - 1)

        x : ℕ
        x = get_or old a 0

        y : ℕ
        y = get_or (set old (heads + 2 * p) x) (a + 1) 0

        copied : (b : ℕ) → b < 2 → kids_of x y b ≡ get_or old (a + b) 0
        copied zero h = let e : a ≡ a + 0 = omega arith in ap (λ (z : ℕ). get_or old z 0) e
        copied (suc zero) h = get_or-set_other old (heads + 2 * p) (a + 1) x 0 (λ i. absurd (omega (arith, kids-below)))
        copied (suc (suc b)) h = absurd (omega arith)
