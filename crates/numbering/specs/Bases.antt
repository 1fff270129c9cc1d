-- What is kept for each place of a directory: the number of the first cell of its object. The contracts cite it.
use Rattle.std.specs.Prelude.{ℕ, suc, ◌+◌, ◌*◌, ◌≤◌, ◌<◌, ◌≡◌, refl, true, List, length, get_or, set}
use Rattle.std.proofs.Common.{ap, sym, ◌∙◌, arith, below_more, get_or-set_same, get_or-set_other}
use Rattle.model.specs.Objects.{is_cell}
use Rattle.model.specs.Directory.{most_records, listed_in, shape_of}
use Rattle.laws.specs.Ruled.{Ruled, records, PlaceOf}
use Rattle.laws.proofs.ByPlace.{highest_of}
use Rattle.numbering.specs.Names.{total, number_in, base_at}
use Rattle.numbering.specs.Laws.{listed-total, listed-step, number_by}

-- each place of the directory has its number
pub record Bases (d bases : List ℕ) : Type 0 where
  pub room : records d ≤ length bases
  pub each : (j : ℕ) → j < records d → get_or bases j 0 ≡ base_at (listed_in d) j

pub record ToFill (d bases : List ℕ) : Type 0 where
  pub ruled : Ruled d
  pub room : most_records ≤ length bases

-- they are filled in, and r cells were counted
pub record Based (d bases : List ℕ) (r : ℕ) : Type 0 where
  pub based : Bases d bases
  pub counted : r ≡ total (listed_in d)

-- a cell whose number is asked
pub record CellGiven (d bases : List ℕ) (o k : ℕ) : Type 0 where
  pub ruled : Ruled d
  pub based : Bases d bases
  pub cell : is_cell (shape_of d) o k ≡ true

-- ---- one place after the other

-- the places below k have their numbers, and sum is the next; what it is at most keeps it in 64 bits
pub record Filling (d bases : List ℕ) (sum k : ℕ) : Type 0 where
  pub below : k ≤ records d
  pub small : sum ≤ 4294967296 * k
  pub next : sum ≡ base_at (listed_in d) k
  pub each : (j : ℕ) → j < k → get_or bases j 0 ≡ base_at (listed_in d) j

pub filling-none : (d bases : List ℕ) → Filling d bases 0 0
unfolding base_at
filling-none d bases = record { below = omega arith; small = omega arith; next = refl; each = λ j l. absurd (omega arith) }

module _ {d bases : List ℕ} {sum k : ℕ} (f : Filling d bases sum k) where
  pub filling-more : Ruled d → k < records d → k < length bases → (h : ℕ) → h ≡ highest_of d k → h < 4294967296 → Filling d (set bases k sum) (sum + h + 1) (k + 1)
  filling-more r l room h e fits = record {
    below = omega arith;
    small = omega (arith, f.small);
    next = let m : k + 1 ≡ suc k = omega arith in omega (arith, ap (base_at (listed_in d)) m, listed-step r k l, f.next);
    each = λ j m. below_more (λ (j : ℕ). get_or (set bases k sum) j 0 ≡ base_at (listed_in d) j) k
        (λ j q. get_or-set_other bases k j sum 0 (λ i. absurd (omega arith)) ∙ f.each j q) (get_or-set_same bases k sum 0 room ∙ f.next) j m;
  }

  pub filling-all : Ruled d → records d ≤ k → records d ≤ length bases → Based d bases sum
  filling-all r l room =
      let same : k ≡ records d = omega (arith, f.below) in
      record {
        based = record { room = room; each = λ j m. f.each j (omega arith) };
        counted = f.next ∙ ap (base_at (listed_in d)) same ∙ listed-total r;
      }

-- ---- a number from its place

pub number-told : {d bases : List ℕ} {o k j : ℕ} → CellGiven d bases o k → PlaceOf d o j → (j < records d) × (get_or bases j 0 + k ≡ number_in (listed_in d) o k)
number-told {d} {bases} {o} {k} {j} g p =
    let n = number_by g.ruled o j k p g.cell in
    (n.0, ap (λ (m : ℕ). m + k) (g.based.each j n.0) ∙ sym n.1)
