use Rattle.std.proofs.Common.{◌∙◌, ◌<◌, ℤ, ap, arith, length, pos, rules, subst, sym, w64}
use Rattle.std.proofs.lemmas.Int.{to_z-of_z}
use Rattle.cpl_base.specs.Numbers.{IsValue}
use Rattle.cpl_comp.specs.Readings.{whole}
use Rattle.cpl_grid.specs.Grid.{column_of, row_of}
use Rattle.cpl_rule.proofs.NumberedFacts.{numbered-all, numbered-more}
use Rattle.cpl_rule.proofs.numbers.write_numbers.Goals as goal
use mir.Val.{SFits, of_z, to_z}

pub loop-place-preserved : goal.loop-place-preserved
loop-place-preserved c =
    let frame = c.args.frame.now in
    let place = c.loop-place.place in
    let s = c.stands_for-s.ensures.value in
    let P : ℤ → Type 0 = IsValue in
    let columns_fit : SFits w64 c.column.result = search rules in
    let columns_same = to_z-of_z w64 c.column.result columns_fit in
    let columns_inside : place < length c.loop-place.columns = omega (arith, c.loop-place-test.true, c.requires.columns, c.requires.columns, c.loop-place.auto.columns) in
    let rows_fit : SFits w64 c.row.result = search rules in
    let rows_same = to_z-of_z w64 c.row.result rows_fit in
    let rows_inside : place < length c.loop-place.rows = omega (arith, c.loop-place-test.true, c.requires.rows, c.requires.columns, c.loop-place.auto.rows) in
    let cells_fit : SFits w64 c.index.result = search rules in
    let cells_same = to_z-of_z w64 c.index.result cells_fit in
    let cells_inside : place < length c.loop-place.cells = omega (arith, c.loop-place-test.true, c.requires.cells, c.requires.columns, c.loop-place.auto.cells) in
    record {
      columns = numbered-more frame (λ s. whole (pos (column_of frame.grid s))) place c.loop-place.columns (to_z w64 (of_z w64 c.column.result)) columns_inside c.loop-place.invariant.columns
          (columns_same ∙ c.column.ensures.value ∙ ap (λ s. whole (pos (column_of frame.grid s))) s) (subst P (sym columns_same) c.column.ensures.within);
      rows = numbered-more frame (λ s. whole (pos (row_of frame.grid s))) place c.loop-place.rows (to_z w64 (of_z w64 c.row.result)) rows_inside c.loop-place.invariant.rows
          (rows_same ∙ c.row.ensures.value ∙ ap (λ s. whole (pos (row_of frame.grid s))) s) (subst P (sym rows_same) c.row.ensures.within);
      cells = numbered-more frame (λ s. whole (pos s)) place c.loop-place.cells (to_z w64 (of_z w64 c.index.result)) cells_inside c.loop-place.invariant.cells
          (cells_same ∙ c.index.ensures.value ∙ ap (λ s. whole (pos s)) s) (subst P (sym cells_same) c.index.ensures.within);
    }

pub returns-clause-columns : goal.returns-clause-columns
returns-clause-columns c =
    numbered-all c.args.frame.now (λ s. whole (pos (column_of c.args.frame.now.grid s))) c.loop-place.place c.loop-place.columns (omega (arith, c.loop-place-test.false, c.requires.columns, c.requires.columns, c.loop-place.auto.columns)) c.loop-place.invariant.columns

pub returns-clause-rows : goal.returns-clause-rows
returns-clause-rows c =
    numbered-all c.args.frame.now (λ s. whole (pos (row_of c.args.frame.now.grid s))) c.loop-place.place c.loop-place.rows (omega (arith, c.loop-place-test.false, c.requires.rows, c.requires.columns, c.loop-place.auto.rows)) c.loop-place.invariant.rows

pub returns-clause-cells : goal.returns-clause-cells
returns-clause-cells c =
    numbered-all c.args.frame.now (λ s. whole (pos s)) c.loop-place.place c.loop-place.cells (omega (arith, c.loop-place-test.false, c.requires.cells, c.requires.columns, c.loop-place.auto.cells)) c.loop-place.invariant.cells
