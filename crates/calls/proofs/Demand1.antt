-- Demand 1 of the calls: a refused append leaves the bytes that it was given, and what a play on any log leaves, since each is the
-- model's by its contract.
use mathlib.Core.Path.{◌≡◌, ap, sym, ◌∙◌, subst}
use mathlib.Core.Bool.{true}
use Prim.Native.Nat.{ℕ}
use mathlib.Core.List.{List}
use Rattle.model.specs.Directory.{shape_of}
use Rattle.model.specs.Append as model
use Rattle.model.specs.Histories.{Lent, is_refused, play_on}
use Rattle.model.specs.Claims as model-claims
use Rattle.claims.proofs.Handed.{demand1-for}
use Rattle.append.specs.Answers.{tail_in}
use Rattle.calls.specs.Values.{AppendCall, seen, Kept, carry, PlayOn, stop_of, play_left}
use Rattle.calls.specs.Claims.{lent_at, PlayLeaves, CallsDemand1}
use Rattle.calls.proofs.Promises.{append-promise, play-promise}

refused-append : (c : AppendCall) → is_refused (tail_in (seen c).answer) ≡ true → (seen c).left ≡ (seen c).bytes
refused-append c h =
    ap (λ (x : model.Appended). x.bytes) (append-promise c)
    ∙ (demand1-for (seen c).dir).refused_append (lent_at c) (seen c).request (ap (λ (x : model.Appended). is_refused x.new_tail) (sym (append-promise c)) ∙ h)

module _ (d : List ℕ) (log : Lent) (k : Kept) (p : PlayOn d log k) where
  leaves : model-claims.PlayLeaves (shape_of d) log (carry k) (stop_of p) (play_left p)
  leaves = subst (model-claims.PlayLeaves (shape_of d) log (carry k) (stop_of p)) (sym (play-promise d log k p)) ((demand1-for d).play_leaves log (carry k) (stop_of p))

  play-leaves : PlayLeaves d log k p
  play-leaves = record {
    ends = leaves.ends;
    unchanged = λ h. let u = leaves.unchanged h in λ j. record { replica = u.0 j; table = u.1 j };
    stopped = λ x q e. play-promise d log k q ∙ ap (play_on (shape_of d) log (carry k)) e ∙ leaves.stopped x;
    waits = leaves.waits;
    lacks = leaves.lacks;
  }

pub calls-demand1 : CallsDemand1
calls-demand1 = record { refused_append = refused-append; play_leaves = play-leaves }
