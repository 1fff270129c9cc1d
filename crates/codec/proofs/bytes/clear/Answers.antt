use Rattle.std.specs.Prelude.{◌≡◌, refl, ℕ, ◌-◌, length, take, drop, replicate}
use Rattle.std.proofs.Common.{ap, ◌∙◌, length-take-le, length-drop, arith}
use Rattle.lists.specs.Splice.{splice, lent-part}
use Rattle.codec.proofs.bytes.clear.Goals as goal

pub returns : goal.returns
returns c =
    let d = c.args.d.now in
    let i = c.args.i in
    let n : length (take (length d - i) (drop i d)) ≡ length d - i = length-take-le _ _ (omega (arith, length-drop i d)) in
    lent-part d _ _ (length d) i c.requires (c.fill.ensures.len ∙ n) refl
    ∙ ap (splice d i) (c.fill.ensures.after (λ _ e. e) ∙ ap (λ (k : ℕ). replicate k 0) n)
