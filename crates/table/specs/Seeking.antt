-- A walk down the way of a cell among rows: where it is, for whatever rows are in the tree.
use Rattle.std.specs.Prelude.{◌≡◌, List, ℕ, ◌+◌, ◌-◌, ◌*◌, ◌/◌, ◌%◌, ◌^◌, ◌≤◌, ◌<◌, length, get_or}
use Rattle.std.proofs.Common.{ap, sym, subst, ◌∙◌, arith}
use Rattle.tree.specs.Form.{head-bits}
use Rattle.tree.specs.Search.{Place, Descending, descending-start, descending-room, descending-few, descending-high, descending-none, descending-found, descending-next, descending-below}
use Rattle.model.specs.Table.{cell_size}
use Rattle.codec.specs.Cells.{rank_of}
use Rattle.table.specs.Seek.{head_of, cell_form, rank_at, RowTree, Seeks, Sought}

-- at depth d the way of the cell of rank k is at the slot s, and q is left of the rank
pub record Seeking (t : List ℕ) (main : ℕ) (index : List ℕ) (heads k d q s : ℕ) : Type 0 where
  pub way : (most used : ℕ) → RowTree t main heads most used index → Descending (rank_at t main) (cell_form heads) most used index k d q s

pub seeking-start : (t : List ℕ) (main : ℕ) (index : List ℕ) (heads : ℕ) {k r s : ℕ} → k ≡ r → s ≡ head_of heads r → Seeking t main index heads k 0 k s
seeking-start t main index heads {k} {r} {s} e h = record {
  way = λ most used w.
      subst (λ (x : ℕ). Descending (rank_at t main) (cell_form heads) most used index k 0 k x) (ap (head_of heads) e ∙ sym h)
      (descending-start (record { tree = w.tree; some = omega arith }));
}

module _ {t : List ℕ} {main : ℕ} {index : List ℕ} {heads k d q s : ℕ} (w : Seeking t main index heads k d q s) where
  -- it ends where nothing stands, and at the cell's row
  module _ (o key : ℕ) (e : k ≡ rank_of o key) where
    ended : ((most used : ℕ) → RowTree t main heads most used index → Place (rank_at t main) (cell_form heads) most used index k s) → Sought t main index heads o key s
    ended p = record { place = λ most used r. subst (λ (x : ℕ). Place (rank_at t main) (cell_form heads) most used index x s) e (p most used r) }

    pub seeking-none : get_or index s 0 ≡ 0 → Sought t main index heads o key s
    seeking-none z = ended (λ most used r. descending-none (w.way most used r) z)

    pub seeking-found : rank_at t main (get_or index s 0 - 1) ≡ k → Sought t main index heads o key s
    seeking-found f = ended (λ most used r. descending-found (w.way most used r) f)

  -- and goes on at another row
  pub seeking-next : 1 ≤ get_or index s 0 → (rank_at t main (get_or index s 0 - 1) ≡ k → ⊥)
      → Seeking t main index heads k (d + 1) (q / 2) (heads + 2 * (get_or index s 0 - 1) + q % 2)
  seeking-next there other = record { way = λ most used r. descending-next (w.way most used r) there other }

  -- it stays in the index and among the rows
  module _ (r : Seeks t main index heads) where
    at : Descending (rank_at t main) (cell_form heads) r.most r.used index k d q s
    at = w.way r.most r.used r.rows

    pub seeking-room : s < length index
    seeking-room = descending-room at

    pub seeking-few : k < 2 ^ 64 → d ≤ 64
    seeking-few fit = descending-few at 64 (head-bits heads (head_of heads)) fit

    pub seeking-row : 1 ≤ get_or index s 0 → cell_size * (main + (get_or index s 0 - 1)) + cell_size ≤ length t
    seeking-row there = omega (arith, descending-high at, r.rows.rows)

    pub seeking-below : 1 ≤ get_or index s 0 → heads + 2 * (get_or index s 0 - 1) + q % 2 < length index
    seeking-below there = descending-below at there
