-- What is kept of weights, as a table.
use Rattle.std.proofs.Common.{◌≡◌, ◌∙◌, ℕ, ◌-◌, ◌≤◌, [], length, arith, ap, sym, subst}
use Rattle.std.proofs.lemmas.List.FromFn.{get_or-map-range_with_len, length-map-range_with_len}
use Rattle.cpl_smm.specs.Kept.{IsKept, row_between, table_view}
use Rattle.cpl_smm.specs.Rows.{IsRow, Table, row_at}
use Rattle.cpl_smm.specs.declared.weights.Weights.TheInside.{Inside}

-- how many rows there are
pub length-rows : (w : Inside) (t : Table) → table_view w ≡ t → w.dst_cells ≡ length t.rows
length-rows w t view =
    sym (length-map-range_with_len (row_between w.starts.items w.entries.items) 0 w.dst_cells) ∙ ap (λ (t : Table). length t.rows) view

-- the row of a cell
pub row_at-kept : (w : Inside) (t : Table) (dst : ℕ) → table_view w ≡ t → 1 ≤ dst → dst ≤ length t.rows → row_between w.starts.items w.entries.items (dst - 1) ≡ row_at t dst
row_at-kept w t dst view from to =
    let count = length-rows w t view in
    sym (get_or-map-range_with_len (row_between w.starts.items w.entries.items) 0 w.dst_cells (dst - 1) (dst - 1) [] (omega arith) (omega arith))
    ∙ ap (λ t. row_at t dst) view

-- what holds of it
pub row_at-row : (w : Inside) (t : Table) (dst : ℕ) → IsKept w → table_view w ≡ t → 1 ≤ dst → dst ≤ length t.rows → IsRow t.src_cells (row_at t dst)
row_at-row w t dst kept view from to =
    let count = length-rows w t view in
    let rows = length-rows w (table_view w) (λ i. table_view w) in
    let here : IsRow w.src_cells (row_at (table_view w) dst) = kept.rows (dst - 1) [] (omega arith) in
    let P : Table → Type 0 = λ t. IsRow t.src_cells (row_at t dst) in
    subst P view here
