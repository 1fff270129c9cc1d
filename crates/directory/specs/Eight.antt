-- The record of an object put in field by field, and the directory of the eight objects put in record by record.
use Rattle.std.specs.Prelude.{ℕ, ◌+◌, ◌*◌, ◌≤◌, ◌<◌, ◌≡◌, refl, List, ◌++◌, eqb, length}
use Rattle.std.proofs.Common.{sym, ◌∙◌, arith, length-append, eqb-true}
use Rattle.lists.specs.Bytes.{bytes_of, length-bytes_of}
use Rattle.lists.specs.First.{first, first_from, every-below}
use Rattle.lists.specs.Rows.{values, joined}
use Rattle.lists.specs.Splice.{splice, splice-then, Filled, filled-all}
use Rattle.model.specs.Objects.{Object, the_objects}
use Rattle.model.specs.Directory.{record_size, mark_object, kind_of, kind_byte, marked_byte, record_bytes, directory_of}
use Rattle.codec.specs.declared.objects.Object as code
use Rattle.codec.specs.Table.{at}

-- the object of a row of the code's table
abbrev pub object_in : code.Object → Object
object_in b = record { id = b.id; kind = kind_of b.kind; highest = b.highest; marked = b.marked }

-- room from byte i on for the record of an object whose kind is one of the two
pub record RecordToPut (d : List ℕ) (i : ℕ) (b : code.Object) : Type 0 where
  pub inside : i + record_size ≤ length d
  pub kind : kind_byte (kind_of b.kind) ≡ b.kind

-- the seven fields put in one after the other
pub record-put : (t : List ℕ) (s : ℕ) (b : Object) {t₁ t₂ t₃ t₄ t₅ t₆ t₇ : List ℕ} → s + record_size ≤ length t
    → t₁ ≡ splice t s (bytes_of 2 mark_object)
    → t₂ ≡ splice t₁ (s + 2) (bytes_of 2 0)
    → t₃ ≡ splice t₂ (s + 4) (bytes_of 4 b.id)
    → t₄ ≡ splice t₃ (s + 8) (bytes_of 4 b.highest)
    → t₅ ≡ splice t₄ (s + 12) (bytes_of 1 (kind_byte b.kind))
    → t₆ ≡ splice t₅ (s + 13) (bytes_of 1 (marked_byte b.marked))
    → t₇ ≡ splice t₆ (s + 14) (bytes_of 2 0)
    → t₇ ≡ splice t s (record_bytes b)
unfolding record_bytes
record-put t s b h e₁ e₂ e₃ e₄ e₅ e₆ e₇ =
    let p₁ = bytes_of 2 mark_object in
    let p₂ = p₁ ++ bytes_of 2 0 in
    let p₃ = p₂ ++ bytes_of 4 b.id in
    let p₄ = p₃ ++ bytes_of 4 b.highest in
    let p₅ = p₄ ++ bytes_of 1 (kind_byte b.kind) in
    let p₆ = p₅ ++ bytes_of 1 (marked_byte b.marked) in
    let l₁ : length p₁ ≡ 2 = length-bytes_of 2 mark_object in
    let l₂ : length p₂ ≡ 4 = length-append p₁ (bytes_of 2 0) ∙ omega (arith, l₁, length-bytes_of 2 0) in
    let l₃ : length p₃ ≡ 8 = length-append p₂ (bytes_of 4 b.id) ∙ omega (arith, l₂, length-bytes_of 4 b.id) in
    let l₄ : length p₄ ≡ 12 = length-append p₃ (bytes_of 4 b.highest) ∙ omega (arith, l₃, length-bytes_of 4 b.highest) in
    let l₅ : length p₅ ≡ 13 = length-append p₄ (bytes_of 1 (kind_byte b.kind)) ∙ omega (arith, l₄, length-bytes_of 1 (kind_byte b.kind)) in
    let l₆ : length p₆ ≡ 14 = length-append p₅ (bytes_of 1 (marked_byte b.marked)) ∙ omega (arith, l₅, length-bytes_of 1 (marked_byte b.marked)) in
    let f₂ = splice-then t s p₁ (bytes_of 2 0) e₁ e₂ (omega (arith, l₁)) (omega (arith, l₁)) in
    let f₃ = splice-then t s p₂ (bytes_of 4 b.id) f₂ e₃ (omega (arith, l₂)) (omega (arith, l₂)) in
    let f₄ = splice-then t s p₃ (bytes_of 4 b.highest) f₃ e₄ (omega (arith, l₃)) (omega (arith, l₃)) in
    let f₅ = splice-then t s p₄ (bytes_of 1 (kind_byte b.kind)) f₄ e₅ (omega (arith, l₄)) (omega (arith, l₄)) in
    let f₆ = splice-then t s p₅ (bytes_of 1 (marked_byte b.marked)) f₅ e₆ (omega (arith, l₅)) (omega (arith, l₅)) in
    splice-then t s p₆ (bytes_of 2 0) f₆ e₇ (omega (arith, l₆)) (omega (arith, l₆))

-- ---- the eight

-- the object at place k of the code's table
abbrev pub eight_at : ℕ → Object
eight_at k = object_in (at k)

pub kinds-two : (k : ℕ) → k < 8 → kind_byte (kind_of (at k).kind) ≡ (at k).kind
unfolding first first_from
kinds-two k l = eqb-true (kind_byte (kind_of (at k).kind)) (at k).kind (every-below (λ j. eqb (kind_byte (kind_of (at j).kind)) (at j).kind) 8 refl k l)

-- all of them put in
pub eight-put : {xs ws : List ℕ} → Filled xs (record_size * 8) (joined record_bytes (values eight_at 0 8)) ws → length xs ≡ record_size * length the_objects → ws ≡ directory_of the_objects
unfolding directory_of values
eight-put f e = filled-all f (sym e)
