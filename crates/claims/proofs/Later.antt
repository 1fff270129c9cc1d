-- A log after later appends: it is framed and good as it was, no shorter, and its used slots have the bytes that they had, since
-- each append is refused or writes a slot above them. By induction over the appends.
use Prim.Native.Nat.{ℕ, zero, suc, ◌+◌, ◌*◌, ◌<◌, ◌≤◌}
use mathlib.Core.Path.{◌≡◌, refl, ap, sym, ◌∙◌}
use mathlib.Core.Bool.{true, false}
use mathlib.Core.List.{List, [], ◌∷◌}
use native.Mathlib.Nat.{mul-le-mul_left}
use native.Mathlib.Omega.{arith}
use lib.ListN.{take, drop}
use lib.Seq.{take-take, take-nil}
use Rattle.model.specs.Objects.{Layout, Shape}
use Rattle.model.specs.Slot.{slot, ok_shape}
use Rattle.model.specs.Answers.{Answer, done, refused, bad_frame}
use Rattle.model.specs.Append.{Request}
use Rattle.model.specs.Histories.{Lent, in_log, tail_after, append_to, after, grown}
use Rattle.laws.proofs.Sizes.{slot-ends}
use Rattle.laws.proofs.Appends.{accepted, refused-same}

-- ---- a part of the bytes

part-taken : (n d k : ℕ) (b : List ℕ) → d + k ≤ n → take k (drop d (take n b)) ≡ take k (drop d b)
part-taken n zero k b h = take-take k n b (omega arith)
part-taken n (suc d) k [] h = rw (take-nil {A = ℕ} n)
part-taken zero (suc d) k (x ∷ b) h = absurd (omega arith)
part-taken (suc n) (suc d) k (x ∷ b) h = part-taken n d k b (omega arith)

-- a slot below the lower of two tails, in bytes that are the same up to it
pub slot-later : (ly : Layout) (a b : List ℕ) (m n o : ℕ) → o < m → m ≤ n → take (ly.slot_size * m) b ≡ take (ly.slot_size * m) a → slot ly (take (ly.slot_size * n) b) o ≡ slot ly (take (ly.slot_size * m) a) o
unfolding slot
slot-later ly a b m n o h l e =
    part-taken (ly.slot_size * n) (ly.slot_size * o) ly.slot_size b (slot-ends ly.slot_size o n (omega arith))
    ∙ sym (part-taken (ly.slot_size * m) (ly.slot_size * o) ly.slot_size b (slot-ends ly.slot_size o m h))
    ∙ ap (λ (t : List ℕ). take ly.slot_size (drop (ly.slot_size * o) t)) e

-- ---- the log

pub record Later (sh : Shape) (l m : Lent) : Type 0 where
  pub tails : l.tail ≤ m.tail
  pub same : take (sh.layout.slot_size * l.tail) m.bytes ≡ take (sh.layout.slot_size * l.tail) l.bytes
  pub frame : bad_frame sh.layout (in_log sh m) ≡ false

module _ (sh : Shape) (shape : ok_shape sh ≡ true) where
  after-later : (l : Lent) (q : Request) → bad_frame sh.layout (in_log sh l) ≡ false → Later sh l (after sh l q)
  after-later l q framed = by (append_to sh l q).new_tail refl
    where
      by : (x : Answer ℕ) → (append_to sh l q).new_tail ≡ x → Later sh l (record { bytes = (append_to sh l q).bytes; tail = tail_after l.tail x })
      by (done t) e =
          let a = accepted sh l.bytes l.tail q t shape e in
          record { tails = omega (arith, a.next); same = a.front; frame = rw a.next a.frame }
      by (refused r) e =
          let s = refused-same sh l.bytes l.tail q r e in
          record { tails = omega arith; same = ap (take (sh.layout.slot_size * l.tail)) s; frame = rw s framed }

  pub grown-later : (l : Lent) (qs : List Request) → bad_frame sh.layout (in_log sh l) ≡ false → Later sh l (grown sh l qs)
  unfolding grown
  grown-later l [] framed = record { tails = omega arith; same = refl; frame = framed }
  grown-later l (q ∷ qs) framed =
      let a : Later sh l (after sh l q) = after-later l q framed in
      let b : Later sh (after sh l q) (grown sh (after sh l q) qs) = grown-later (after sh l q) qs a.frame in
      let end : List ℕ = (grown sh (after sh l q) qs).bytes in
      record {
        tails = omega (arith, a.tails, b.tails);
        same = sym (take-take (sh.layout.slot_size * l.tail) (sh.layout.slot_size * (after sh l q).tail) end (mul-le-mul_left sh.layout.slot_size a.tails))
            ∙ ap (take (sh.layout.slot_size * l.tail)) b.same
            ∙ take-take (sh.layout.slot_size * l.tail) (sh.layout.slot_size * (after sh l q).tail) (after sh l q).bytes (mul-le-mul_left sh.layout.slot_size a.tails)
            ∙ a.same;
        frame = b.frame;
      }
