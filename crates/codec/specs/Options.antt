-- An option of the code as an option of the model.
use Rattle.std.specs.Prelude.{Some, None, Option as Told}
use Rattle.std.proofs.Math.Option.{Option, none, some}

module _ {A B : Type 0} (f : A → B) where
  -- what it holds is read by f
  abbrev pub option_by : Told A → Option B
  option_by None = none
  option_by (Some a) = some (f a)

abbrev pub option_in : {A : Type 0} → Told A → Option A
option_in None = none
option_in (Some a) = some a
