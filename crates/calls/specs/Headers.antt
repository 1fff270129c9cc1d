-- What headers tell, as types over calls as values: of each log that the check passes.
use Rattle.std.specs.Prelude.{ℕ, ◌<◌, ◌≡◌, Ok}
use mathlib.Core.List.{List, Memᴰ}
use Rattle.lists.specs.Bytes.{be_at}
use Rattle.model.specs.Objects.{the_layout}
use Rattle.model.specs.Directory.{shape_of}
use Rattle.model.specs.Histories.{Lent}
use Rattle.model.specs.Headers.{past, object_at}
use Rattle.model.specs.HeaderClaims.{header_begins, Tells}
use Rattle.codec.specs.Eight.{slot, backs_at, in_log}
use Rattle.calls.specs.Values.{CheckCall}

-- the slot at p
abbrev pub slot_at : Lent → ℕ → List ℕ
slot_at log p = slot (in_log log).used p

-- each header tells where the object's earlier entries are
abbrev pub CallsTell : Type 0
CallsTell = (d : List ℕ) (log : Lent) (c : CheckCall d log) → c.call.answer ≡ (Ok tt) → (p k : ℕ) → p < log.tail → k < be_at 1 (slot_at log p) 2
    → Tells (shape_of d) (in_log log) p k (slot_at log p) (object_at (slot_at log p) (header_begins the_layout k)) (backs_at p (slot_at log p) (header_begins the_layout k))

-- and no back-pointer is past offset 0
abbrev pub CallsFindPast : Type 0
CallsFindPast = (d : List ℕ) (log : Lent) (c : CheckCall d log) (p k : ℕ) → p < log.tail → k < be_at 1 (slot_at log p) 2
    → Memᴰ past (backs_at p (slot_at log p) (header_begins the_layout k)) → c.call.answer ≡ (Ok tt) → ⊥
