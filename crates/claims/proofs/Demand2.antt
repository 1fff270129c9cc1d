-- Demand 2, put together from its parts: which appends are accepted, what they write, that it reads back and leaves the log good,
-- alike entries are the same bytes, and outcomes are as they should be, in the run and in replicas.
use mathlib.Core.Path.{◌≡◌}
use mathlib.Core.Bool.{true}
use Rattle.model.specs.Objects.{Shape}
use Rattle.model.specs.Slot.{ok_shape}
use Rattle.model.specs.Claims.{Demand2}
use Rattle.claims.proofs.Accepts.{accepts-exactly}
use Rattle.claims.proofs.KeepsGood.{keeps-good}
use Rattle.claims.proofs.ReadBack.{writes-one-slot, reads-back}
use Rattle.claims.proofs.SameBytes.{same_bytes}
use Rattle.claims.proofs.Aborts.{run-aborts}
use Rattle.claims.proofs.Whole.{won-exactly}
use Rattle.claims.proofs.Across.{replica-aborts}
use Rattle.claims.proofs.Outcomes.{same-outcomes}

pub demand2 : (sh : Shape) → ok_shape sh ≡ true → Demand2 sh
demand2 sh shape = record {
  accepts_exactly = accepts-exactly sh shape;
  writes_one_slot = writes-one-slot sh shape;
  keeps_good = keeps-good sh shape;
  reads_back = reads-back sh shape;
  same_bytes = same_bytes sh shape;
  run_aborts = run-aborts;
  won_exactly = won-exactly;
  replica_aborts = replica-aborts sh shape;
  same_outcomes = same-outcomes sh shape;
}
