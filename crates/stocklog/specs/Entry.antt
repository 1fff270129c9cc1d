-- What is said of one entry: how many headers it has, and one header by its place.
use Rattle.std.specs.Prelude.{◌≡◌, refl, ℕ, zero, suc, ◌+◌, ◌≤◌, ◌<◌}
use Rattle.std.proofs.Common.{ap, sym, ◌∙◌, add-zero, zero-add, arith}
use Rattle.std.proofs.Math.Option.{none}
use Rattle.lists.specs.Rows as rows
use Rattle.model.specs.Answers.{done, refused}
use Rattle.model.specs.Reading.{Header}
use Rattle.codec.specs.Marks.{kind_of}
use Rattle.entries.specs.declared.calls.Info.{Info}
use Rattle.entries.specs.Answers.{no_header, placed, info_of}
use Rattle.stocklog.specs.Replies.{values, info_values, nth}

pub info_said : (i : Info) {kind number headers : ℕ} → kind ≡ kind_of i.kind → number ≡ i.number.0 → headers ≡ i.headers → values kind number headers ≡ info_values (info_of i)
info_said i d e f = λ j. values (d j) (e j) ((f ∙ sym (rows.length-values (placed i) 0 i.headers)) j)

-- ---- a header by its place

nth-below : (f : ℕ → Header) (i n k : ℕ) → k < n → nth (rows.values f i n) k ≡ done (f (i + k))
unfolding rows.values
nth-below f i zero k l = absurd (omega arith)
nth-below f i (suc n) zero l = ap (λ (m : ℕ). done (f m)) (sym (add-zero i))
nth-below f i (suc n) (suc k) l =
    let e : suc i + k ≡ i + suc k = omega arith in
    nth-below f (suc i) n k (omega arith) ∙ ap (λ (m : ℕ). done (f m)) e

nth-above : (f : ℕ → Header) (i n k : ℕ) → n ≤ k → nth (rows.values f i n) k ≡ refused (record { number = 3; told = none })
unfolding rows.values
nth-above f i zero k l = refl
nth-above f i (suc n) zero l = absurd (omega arith)
nth-above f i (suc n) (suc k) l = nth-above f (suc i) n k (omega arith)

-- one of the four
pub place_is : (i : Info) {k : ℕ} (p : ℕ) → k ≡ p → k < i.headers → done (placed i p) ≡ nth (info_of i).headers k
place_is i {k} p e l = sym (nth-below (placed i) 0 i.headers k l ∙ ap (λ (m : ℕ). done (placed i m)) (zero-add k ∙ e))

-- not below the number of headers
pub place_above : (i : Info) (k : ℕ) → i.headers ≤ k → refused (record { number = 3; told = none }) ≡ nth (info_of i).headers k
place_above i k l = sym (nth-above (placed i) 0 i.headers k l)

-- none of the four
pub place_fifth : (i : Info) (k : ℕ) → 3 < k → k < i.headers → done no_header ≡ nth (info_of i).headers k
place_fifth i zero h l = absurd (omega arith)
place_fifth i (suc zero) h l = absurd (omega arith)
place_fifth i (suc (suc zero)) h l = absurd (omega arith)
place_fifth i (suc (suc (suc zero))) h l = absurd (omega arith)
place_fifth i (suc (suc (suc (suc k)))) h l = place_is i (suc (suc (suc (suc k)))) refl l
