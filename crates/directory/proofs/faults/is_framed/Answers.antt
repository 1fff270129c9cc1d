-- Three fields of two bytes, each against its number; the first that differs decides.
use mathlib.Core.Path.{sym, ap, ◌∙◌}
use Prim.Native.Nat.{ℕ}
use lib.Dec.{eqb}
use borrow.Author.Tests.{eq-eqb, ne_eqb}
use Rattle.directory.proofs.faults.is_framed.Goals as goal

pub returns-then-be16-ne-MARK_OBJECT : goal.returns-then-be16-ne-MARK_OBJECT
returns-then-be16-ne-MARK_OBJECT c = rw (ne_eqb _ _ (λ e. c.if-be16-ne-MARK_OBJECT.true (c.be16.ensures ∙ e)))

pub returns-then-be16-ne0 : goal.returns-then-be16-ne0
returns-then-be16-ne0 c =
    rw (eq-eqb _ _ (sym c.be16.ensures ∙ c.if-be16-ne-MARK_OBJECT.false)) (rw (ne_eqb _ _ (λ e. c.if-be16-ne0.true (c.be16-2.ensures ∙ e))))

pub returns : goal.returns
returns c =
    rw (eq-eqb _ _ (sym c.be16.ensures ∙ c.if-be16-ne-MARK_OBJECT.false)) (rw (eq-eqb _ _ (sym c.be16-2.ensures ∙ c.if-be16-ne0.false))
    (ap (λ (v : ℕ). eqb v 0) c.be16-3.ensures))
