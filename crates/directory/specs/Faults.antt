-- The first place at fault as the model has it, and what the tests of a record come to.
use Rattle.std.specs.Prelude.{ℕ, zero, suc, ◌+◌, ◌-◌, ◌*◌, ◌/◌, ◌^◌, ◌≤◌, ◌<◌, ◌≡◌, refl, Bool, true, false, cond, not, ◌&&◌, ◌||◌, List, eqb, leb, ltb, length}
use Rattle.std.proofs.Common.{ap, ap₂, sym, ◌∙◌, arith, eq-eqb, ne_eqb}
use Rattle.std.proofs.Math.Option.{Option, none, some}
use Rattle.lists.specs.Tests.{or-false}
use Rattle.lists.specs.Bytes.{be_at}
use Rattle.lists.specs.First.{Seeking, seeking-below}
use Rattle.model.specs.Directory.{record_size, mark_object, most_records, id_at, ok_kind_and_key, ok_record, follows, at_fault, places, shape_of, fault_of}
use Rattle.laws.proofs.Refusals.{none-lowest, some-lowest}

-- ---- a record by itself

-- its mark and its zero bytes
abbrev pub ok_frame : List ℕ → ℕ → Bool
ok_frame d i = eqb (be_at 2 d i) mark_object && eqb (be_at 2 d (i + 2)) 0 && eqb (be_at 2 d (i + 14)) 0

-- its id
abbrev pub ok_id : ℕ → Bool
ok_id id = leb 1 id && ltb id (2 ^ 31)

-- the tests of a record in turn: its frame, its id, its kind with its highest key, its mark
pub record-judged : (d : List ℕ) (i : ℕ) (f n k m : Bool)
    → ok_frame d i ≡ f
    → ok_id (id_at d i) ≡ n
    → ok_kind_and_key (be_at 1 d (i + 12)) (be_at 4 d (i + 8)) ≡ k
    → leb (be_at 1 d (i + 13)) 1 ≡ m
    → ok_record d i ≡ (f && n && k && m)
unfolding ok_record
record-judged d i f n k m p q r s =
    ap (λ (b : Bool). b && ok_kind_and_key (be_at 1 d (i + 12)) (be_at 4 d (i + 8)) && leb (be_at 1 d (i + 13)) 1)
    (sym (joined (ok_frame d i) (leb 1 (id_at d i)) (ltb (id_at d i) (2 ^ 31))))
    ∙ (λ j. p j && q j && r j && s j)
  where
    joined : (a b c : Bool) → (a && (b && c)) ≡ (a && b && c)
    joined true b c = refl
    joined false b c = refl

-- a kind, with the highest key that goes with it
pub map-key : (kind highest : ℕ) → kind ≡ 1 → ltb highest 4294967295 ≡ ok_kind_and_key kind highest
map-key kind highest e = sym (ap (λ (v : ℕ). ok_kind_and_key v highest) e ∙ or-false (ltb highest 4294967295))

pub register-key : (kind highest : ℕ) → kind ≡ 2 → eqb highest 0 ≡ ok_kind_and_key kind highest
register-key kind highest e = sym (ap (λ (v : ℕ). ok_kind_and_key v highest) e)

pub no_kind : (kind highest : ℕ) → (kind ≡ 1 → ⊥) → (kind ≡ 2 → ⊥) → false ≡ ok_kind_and_key kind highest
no_kind kind highest p q =
    sym (ap₂ (λ (a b : Bool). (a && ltb highest 4294967295) || (b && eqb highest 0)) (ne_eqb kind 1 p) (ne_eqb kind 2 q))

-- ---- a place

-- its tests in turn: among the most records, whole, a record, above the one before
pub place-judged : (d : List ℕ) (k : ℕ) (m w r a : Bool) → leb most_records k ≡ m → ltb (length d) (record_size * k + record_size) ≡ w
    → ok_record d (record_size * k) ≡ r → follows d k ≡ a → at_fault d k ≡ (m || w || not r || not a)
unfolding at_fault
place-judged d k m w r a p q s t = λ j. p j || q j || not (s j) || not (t j)

pub follows-at : (d : List ℕ) (k : ℕ) → 1 ≤ k → follows d k ≡ ltb (id_at d (record_size * (k - 1))) (id_at d (record_size * k))
follows-at d zero h = absurd (omega arith)
follows-at d (suc k) h = let e : suc k - 1 ≡ k = omega arith in ap (λ (m : ℕ). ltb (id_at d (record_size * m)) (id_at d (record_size * suc k))) (sym e)

pub follows-none : (d : List ℕ) (k : ℕ) → k ≡ 0 → follows d k ≡ true
follows-none d zero h = refl
follows-none d (suc k) h = absurd (omega arith)

pub places-none : (d : List ℕ) → length d ≡ 0 → places d ≡ 1
places-none d e = ap (λ (t : Bool). cond t 1 ((length d + 15) / record_size)) (eq-eqb (length d) 0 e)

pub places-some : (d : List ℕ) → (length d ≡ 0 → ⊥) → places d ≡ (length d - 1) / record_size + 1
places-some d e = ap (λ (t : Bool). cond t 1 ((length d + 15) / record_size)) (ne_eqb (length d) 0 e) ∙ omega arith

-- ---- the first

pub fault-found : (d : List ℕ) (n k : ℕ) → n ≡ places d → Seeking (at_fault d) n k → k < n → at_fault d k ≡ true → some k ≡ (shape_of d).fault
unfolding fault_of
fault-found d n k e s l h = sym (some-lowest (at_fault d) (places d) k (omega arith) h (λ j m. seeking-below s j m))

pub fault-nowhere : (d : List ℕ) (n k : ℕ) → n ≡ places d → Seeking (at_fault d) n k → n ≤ k → none ≡ (shape_of d).fault
unfolding fault_of
fault-nowhere d n k e s l = sym (none-lowest (at_fault d) (places d) (λ j m. seeking-below s j (omega arith)))
