-- Refusals, and the order in which they are tested (specification §13).
use Rattle.std.specs.Prelude.{ℕ, suc, ◌/◌, ◌%◌, Bool, cond, not, ◌||◌, List, [], ◌∷◌, eqb, ltb}
use Rattle.std.proofs.Math.Option.{Option, none, some}
use Rattle.model.specs.Objects.{Layout, Shape}
use Rattle.model.specs.Entries.{Log, if_some}
use Rattle.model.specs.Slot.{most_slots}
use Rattle.model.specs.Rules.{lowest_bad}

-- a number of the table, and what it tells beside it (13.1)
pub record Refusal : Type 0 where
  pub number : ℕ
  pub told : Option ℕ

-- a call's answer: done, with a value, or a refusal
pub data Answer (A : Type 0) : Type 0 where
  done : A → Answer A
  refused : Refusal → Answer A

-- one test of a call's order (13.5): the refusal n where b holds
abbrev pub refuse : ℕ → Bool → Option Refusal
refuse n b = cond b (some (record { number = n; told = none })) none

-- the same where something was found, which it tells
abbrev pub refuse_at : ℕ → Option ℕ → Option Refusal
refuse_at n none = none
refuse_at n (some o) = some (record { number = n; told = some o })

-- the place, from 0, of the first element that passes a test, which 16 tells (13.3)
unfoldable pub first_place : {A : Type 0} → (A → Bool) → List A → Option ℕ
first_place f [] = none
first_place f (x ∷ xs) = cond (f x) (some 0) (if_some (first_place f xs) none (λ i. some (suc i)))

-- the first of the tests that refuses
abbrev pub first_of : List (Option Refusal) → Option Refusal
first_of [] = none
first_of (none ∷ ts) = first_of ts
first_of (some r ∷ ts) = some r

abbrev pub answer : {A : Type 0} → Option Refusal → A → Answer A
answer none a = done a
answer (some r) a = refused r

abbrev pub slots : Layout → Log → ℕ
slots ly log = log.size / ly.slot_size

-- 1: bad frame (13.3)
unfoldable pub bad_frame : Layout → Log → Bool
bad_frame ly log = not (eqb (log.size % ly.slot_size) 0) || ltb most_slots (slots ly log) || ltb (slots ly log) log.tail

-- 15, ahead of all: the directory that was handed over is at fault (13.3)
abbrev pub bad_directory : Shape → Option Refusal
bad_directory sh = refuse_at 15 sh.fault

-- 15, 1 and 2, with which every call on a log begins
abbrev pub frame_and_entries : Shape → Log → List (Option Refusal)
frame_and_entries sh log = bad_directory sh ∷ refuse 1 (bad_frame sh.layout log) ∷ refuse_at 2 (lowest_bad sh log) ∷ []
