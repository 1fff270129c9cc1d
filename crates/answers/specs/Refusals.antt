-- The number and what is told for each case of the code's refusals (13.3).
use Rattle.std.specs.Prelude.{◌≡◌, refl, List, ℕ}
use Rattle.std.proofs.Common.{ap, sym, ◌∙◌}
use Rattle.std.proofs.Math.Option.{Option, none, some}
use Rattle.model.specs.Answers.{Refusal, Answer, done, refused, answer, refuse_at, bad_directory}
use Rattle.model.specs.Directory.{shape_of}
use Rattle.laws.specs.Ruled.{Ruled}
use Rattle.laws.proofs.Refusals.{refuse_at-none}
use Rattle.std.specs.Prelude.{Result, Ok, Err, Option as Told}
use Rattle.codec.specs.Options.{option_in}
use Rattle.answers.specs.declared.Refusal as code
use Rattle.answers.specs.declared.Refusal.TheVariants.{Frame, BadEntry, Request, Closed, Wide, Empty, NoCommit, Decided, Full, BadReplica, FalseRecord, Waiting, NoRoom, NoRoomAt, Behind, Directory, Astray, NoPrice}

-- A call's result: a value, or why it is refused.
abbrev pub Answered : Type 0 → Type 0
Answered A = Result A code.Refusal

abbrev pub refusal_in : code.Refusal → Refusal
refusal_in Frame = record { number = 1; told = none }
refusal_in (BadEntry o) = record { number = 2; told = some o.0 }
refusal_in Request = record { number = 3; told = none }
refusal_in Closed = record { number = 4; told = none }
refusal_in Wide = record { number = 5; told = none }
refusal_in Empty = record { number = 6; told = none }
refusal_in NoCommit = record { number = 7; told = none }
refusal_in Decided = record { number = 8; told = none }
refusal_in Full = record { number = 9; told = none }
refusal_in BadReplica = record { number = 10; told = none }
refusal_in (FalseRecord o) = record { number = 11; told = some o.0 }
refusal_in Waiting = record { number = 12; told = none }
refusal_in NoRoom = record { number = 13; told = none }
refusal_in (NoRoomAt o) = record { number = 13; told = some o.0 }
refusal_in Behind = record { number = 14; told = none }
refusal_in (Directory k) = record { number = 15; told = some k }
refusal_in (Astray k) = record { number = 16; told = some k }
refusal_in (NoPrice k) = record { number = 19; told = some k }

-- An answer, whose value is read by f.
module _ {A B : Type 0} (f : A → B) where
  abbrev pub answer_by : Answered A → Answer B
  answer_by (Ok a) = done (f a)
  answer_by (Err r) = refused (refusal_in r)

-- Done with nothing to tell, or refused.
abbrev pub checked_in : Answered (Unit {0}) → Answer (Unit {0})
checked_in (Ok _) = done tt
checked_in (Err r) = refused (refusal_in r)

-- ---- the directory's fault

-- the refusal in an answer
abbrev pub refused_in : {A : Type 0} → Answer A → Option Refusal
refused_in (done a) = none
refused_in (refused r) = some r

pub refused-answer : {A : Type 0} (x : Option Refusal) (a : A) → refused_in (answer x a) ≡ x
refused-answer none a = refl
refused-answer (some r) a = refl

module _ (d : List ℕ) {f : Told ℕ} (e : option_in f ≡ (shape_of d).fault) where
  -- whatever the first fault is found to be, the answer is the model's
  pub fault-told : (g : Told ℕ) → f ≡ g → answer (refuse_at 15 (option_in g)) (tt {0}) ≡ answer (bad_directory (shape_of d)) (tt {0})
  fault-told g n = ap (λ (o : Option ℕ). answer (refuse_at 15 o) (tt {0})) (ap option_in (sym n) ∙ e)

module _ (d : List ℕ) (c : Answered (Unit {0})) (e : checked_in c ≡ answer (bad_directory (shape_of d)) tt) where
  directed-told : refused_in (checked_in c) ≡ bad_directory (shape_of d)
  directed-told = ap refused_in e ∙ refused-answer (bad_directory (shape_of d)) (tt {0})

  -- where it is done, there is no fault
  pub directed-done : (u : Unit {0}) → c ≡ Ok u → Ruled d
  directed-done u h = record { directed = refuse_at-none 15 (shape_of d).fault (sym directed-told ∙ ap (λ (x : Answered (Unit {0})). refused_in (checked_in x)) h) }

  pub directed-refused : (r : code.Refusal) → c ≡ Err r → bad_directory (shape_of d) ≡ some (refusal_in r)
  directed-refused r h = sym directed-told ∙ ap (λ (x : Answered (Unit {0})). refused_in (checked_in x)) h

-- a directory within its rules refuses nothing
pub ruled-passes : {d : List ℕ} → Ruled d → bad_directory (shape_of d) ≡ none
ruled-passes r = ap (refuse_at 15) r.directed
