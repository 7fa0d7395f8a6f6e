-- What a PET needs for its halo, by rows and columns.
use Rattle.std.proofs.Common.{◌≡◌, ℕ, zero, suc, ◌+◌, ◌-◌, ◌*◌, ◌<◌, ◌≤◌, eqb, Bool, true, false, not, ◌&&◌, ℤ, pos, ◌+ℤ◌, List, [], length, get_or, filter, Some, refl, sym, ap, subst, ◌∙◌, arith}
use Rattle.std.specs.Prelude.{slice_get}
use Rattle.std.specs.List.{All, Any, flat_map, list_any, range_with_len}
use Rattle.std.proofs.lemmas.Bool.{and_parts, eq-eqb, eqb-true, false_from_ne_true, true≢false}
use Rattle.std.proofs.lemmas.List.Elements.{All-filter, All-weaker, filter_passes}
use Rattle.std.proofs.lemmas.List.Folds.{Any-from_list_any, list_any_at, list_any_none}
use Rattle.std.proofs.lemmas.Option.{get_or_from_slice_get, slice_get_within}
use Rattle.std.specs.Cmp.Derive.{both_true}
use Rattle.cpl_grid.specs.Grid.{IsCell, IsColumn, IsNumbering, IsOffset, IsRow, cells_in, column_at, column_of, index_of, indices, neighbour_of, row_at, row_of}
use Rattle.cpl_grid.specs.Owners.{IsPartOf, Layout, cells_of, owner_of}
use Rattle.cpl_grid.specs.Parts.{IsPart, cells_of_part, part_cell}
use Rattle.cpl_grid.specs.declared.blocks.Block.{Block}
use Rattle.cpl_grid.specs.declared.blocks.Part.{Part}
use Rattle.cpl_grid.specs.declared.grid.Grid.{Grid}
use Rattle.cpl_grid.proofs.RangeFacts.{All-range, filter-range_none}
use Rattle.cpl_route.specs.Places.{AreAlike, IsStretch, cell_in, is_held, needed_in_row, needed_in_rows}
use Rattle.cpl_route.specs.Reach.{AreReaches, AreSteady, IsSound, is_met, is_reached, is_used_across, is_used_down, reach_for, steps_from_least}
use Rattle.cpl_route.specs.Routes.{AreOffsets, is_halo, is_neighbour}
use Rattle.cpl_route.specs.declared.halo_pair.HaloPair.{HaloPair}
use Rattle.cpl_route.specs.declared.needs.Stretch.{Stretch}
use Rattle.cpl_route.specs.declared.reach.Reaches.{Reaches}
use Rattle.cpl_route.proofs.ReachFacts.{held-from, held-to, reaches-from, reaches-to, same_test, steady-reach}
use Rattle.cpl_route.proofs.WalkFacts.{needed-part}

-- a cell, by its column and its row from 0
record IsAt (grid : Grid) (i j s : ℕ) : Type 0 where
  column : IsColumn grid (i + 1)
  row : IsRow grid (j + 1)
  cell : IsCell grid s
  column_is : column_of grid s ≡ i + 1
  row_is : row_of grid s ≡ j + 1
  index : index_of grid (i + 1) (j + 1) ≡ s

-- the cell in a column and a row
cell_at : (grid : Grid) (i j : ℕ) → IsNumbering grid → i < grid.nx → j < grid.ny → IsAt grid i j (cell_in grid.nx j i)
cell_at grid i j numbering right below =
    let column : IsColumn grid (i + 1) = record { from_one = omega arith; within = omega arith } in
    let row : IsRow grid (j + 1) = record { from_one = omega arith; within = omega arith } in
    let before : j + 1 - 1 ≡ j = omega arith in
    let index : index_of grid (i + 1) (j + 1) ≡ cell_in grid.nx j i = rw before (omega arith) in
    record {
      column = column;
      row = row;
      cell = subst (IsCell grid) index (numbering.cell (i + 1) (j + 1) column row);
      column_is = ap (column_of grid) (sym index) ∙ numbering.column_again (i + 1) (j + 1) column row;
      row_is = ap (row_of grid) (sym index) ∙ numbering.row_again (i + 1) (j + 1) column row;
      index = index;
    }

-- a PET owns a cell where its part has the column and the row
own-held : (layout : Layout) (pet : ℕ) (part : Part) (i j s : ℕ) → IsPartOf layout pet part → IsAt layout.grid i j s → eqb (owner_of layout s) pet ≡ (is_held part.columns i && is_held part.rows j)
own-held layout pet part i j s is at =
    let column_is = at.column_is in
    let row_is = at.row_is in
    same_test (eqb (owner_of layout s) pet) (is_held part.columns i && is_held part.rows j)
    (λ own.
    let inside = (is.owned s at.cell).0 (eqb-true (owner_of layout s) pet own) in
    let left = inside.column.from_start in
    let right = inside.column.before_end in
    let above = inside.row.from_start in
    let below = inside.row.before_end in
    both_true (held-from part.columns i (omega arith) (omega arith)) (held-from part.rows j (omega arith) (omega arith)))
    (λ held.
    let both = and_parts (is_held part.columns i) (is_held part.rows j) held in
    let across = held-to part.columns i both.0 in
    let down = held-to part.rows j both.1 in
    eq-eqb (owner_of layout s) pet ((is.owned s at.cell).1 (record {
      column = record { from_start = omega arith; before_end = omega arith };
      row = record { from_start = omega arith; before_end = omega arith };
    })))

-- a PET owns what its list has, which are cells
cells_of-own : (layout : Layout) (pet k t : ℕ) → k < length (cells_of layout pet) → get_or (cells_of layout pet) k t ≡ t → (owner_of layout t ≡ pet) × IsCell layout.grid t
unfolding cells_of
cells_of-own layout pet k t inside is =
    let test : ℕ → Bool = λ s. eqb (owner_of layout s) pet in
    let passes : test t ≡ true = ap test (sym is) ∙ filter_passes test (indices layout.grid) k t inside in
    let P : ℕ → Type 0 = λ s. (1 ≤ s) × (s < 1 + cells_in layout.grid) in
    let each : All P (filter test (indices layout.grid)) = All-filter test P (indices layout.grid) (All-range P 1 (cells_in layout.grid) (λ s from to. (from, to))) in
    let within : P t = subst P is (each k t inside) in
    (eqb-true (owner_of layout t) pet passes, record { from_one = within.0; within = omega arith })

-- the offset along the columns of one of the offsets is used
used-across : (offsets : List (ℤ × ℤ)) (k : ℕ) (offset : ℤ × ℤ) → k < length offsets → get_or offsets k offset ≡ offset → is_used_across offsets offset.0 ≡ true
unfolding is_used_across
used-across offsets k offset inside is =
    let test : ℤ × ℤ → Bool = λ one. eqb (steps_from_least one.0) (steps_from_least offset.0) in
    list_any_at test offsets k offset inside (ap test is ∙ eq-eqb (steps_from_least offset.0) (steps_from_least offset.0) refl)

-- and that along the rows
used-down : (offsets : List (ℤ × ℤ)) (k : ℕ) (offset : ℤ × ℤ) → k < length offsets → get_or offsets k offset ≡ offset → is_used_down offsets offset.1 ≡ true
unfolding is_used_down
used-down offsets k offset inside is =
    let test : ℤ × ℤ → Bool = λ one. eqb (steps_from_least one.1) (steps_from_least offset.1) in
    list_any_at test offsets k offset inside (ap test is ∙ eq-eqb (steps_from_least offset.1) (steps_from_least offset.1) refl)

-- a neighbour lies in the column and the row that are reached
met-from : (layout : Layout) (offsets : List (ℤ × ℤ)) (pet : ℕ) (part : Part) (columns rows : Reaches) (i j s : ℕ) → IsNumbering layout.grid → IsPartOf layout pet part → AreOffsets offsets → AreReaches (column_at layout.grid) (is_used_across offsets) part.columns columns → AreReaches (row_at layout.grid) (is_used_down offsets) part.rows rows → IsAt layout.grid i j s → is_neighbour layout offsets pet s ≡ true → is_met columns rows offsets j i ≡ true
met-from layout offsets pet part columns rows i j s numbering is within across down at neighbour =
    let grid = layout.grid in
    let test : ℤ × ℤ → Bool = λ offset. is_reached (reach_for columns offset.0) i && is_reached (reach_for rows offset.1) j in
    let near : ℕ → Bool = λ t. list_any (λ offset. eqb (neighbour_of grid t offset.0 offset.1) s) offsets in
    let some : Any (λ t. near t ≡ true) (cells_of layout pet) = Any-from_list_any near (cells_of layout pet) neighbour in
    let t = some.1 in
    let is_near : ℤ × ℤ → Bool = λ offset. eqb (neighbour_of grid t offset.0 offset.1) s in
    let way : Any (λ offset. is_near offset ≡ true) offsets = Any-from_list_any is_near offsets some.4 in
    let offset = way.1 in
    let same : neighbour_of grid t offset.0 offset.1 ≡ s = eqb-true (neighbour_of grid t offset.0 offset.1) s way.4 in
    let own = cells_of-own layout pet some.0 t some.2 some.3 in
    let inside = (is.owned t own.1).0 own.0 in
    let left = inside.column.from_start in
    let right = inside.column.before_end in
    let above = inside.row.from_start in
    let below = inside.row.before_end in
    let first_column = (numbering.column t own.1).from_one in
    let first_row = (numbering.row t own.1).from_one in
    let column : column_of grid t - 1 + 1 ≡ column_of grid t = omega arith in
    let row : row_of grid t - 1 + 1 ≡ row_of grid t = omega arith in
    let P : ℤ × ℤ → Type 0 = λ one. IsOffset one.0 × IsOffset one.1 in
    let small : P offset = subst P way.3 (within way.0 offset way.2) in
    let column_at_i : column_at grid (pos (column_of grid t - 1 + 1) +ℤ offset.0) ≡ i + 1 = ap (λ k. column_at grid (pos k +ℤ offset.0)) column ∙ sym (numbering.neighbour_column t offset.0 offset.1) ∙ ap (column_of grid) same ∙ at.column_is in
    let row_at_j : row_at grid (pos (row_of grid t - 1 + 1) +ℤ offset.1) ≡ j + 1 = ap (λ k. row_at grid (pos k +ℤ offset.1)) row ∙ sym (numbering.neighbour_row t offset.0 offset.1) ∙ ap (row_of grid) same ∙ at.row_is in
    let reached_column : is_reached (reach_for columns offset.0) i ≡ true = across.places offset.0 small.0 (used-across offsets way.0 offset way.2 way.3) i ∙ reaches-from (column_at grid) part.columns offset.0 i (column_of grid t - 1) left right column_at_i in
    let reached_row : is_reached (reach_for rows offset.1) j ≡ true = down.places offset.1 small.1 (used-down offsets way.0 offset way.2 way.3) j ∙ reaches-from (row_at grid) part.rows offset.1 j (row_of grid t - 1) above below row_at_j in
    list_any_at test offsets way.0 offset way.2 (ap test way.3 ∙ both_true reached_column reached_row)

-- a cell is the neighbour of one from whose column its column comes, and from whose row its row
neighbour-is : (grid : Grid) (i j a b s : ℕ) (dx dy : ℤ) → IsNumbering grid → IsAt grid i j s → IsColumn grid (a + 1) → IsRow grid (b + 1) → column_at grid (pos (a + 1) +ℤ dx) ≡ i + 1 → row_at grid (pos (b + 1) +ℤ dy) ≡ j + 1 → neighbour_of grid (index_of grid (a + 1) (b + 1)) dx dy ≡ s
neighbour-is grid i j a b s dx dy numbering at column row column_is row_is =
    let t = index_of grid (a + 1) (b + 1) in
    let n = neighbour_of grid t dx dy in
    let across : column_of grid n ≡ i + 1 = numbering.neighbour_column t dx dy ∙ ap (λ k. column_at grid (pos k +ℤ dx)) (numbering.column_again (a + 1) (b + 1) column row) ∙ column_is in
    let down : row_of grid n ≡ j + 1 = numbering.neighbour_row t dx dy ∙ ap (λ k. row_at grid (pos k +ℤ dy)) (numbering.row_again (a + 1) (b + 1) column row) ∙ row_is in
    sym (numbering.index_again n (numbering.neighbour_cell t dx dy)) ∙ ap (λ k. index_of grid k (row_of grid n)) across ∙ ap (index_of grid (i + 1)) down ∙ at.index

-- what lies in a column and a row that are reached is a neighbour
met-to : (layout : Layout) (offsets : List (ℤ × ℤ)) (pet : ℕ) (part : Part) (columns rows : Reaches) (i j s : ℕ) → IsNumbering layout.grid → IsPartOf layout pet part → AreOffsets offsets → AreReaches (column_at layout.grid) (is_used_across offsets) part.columns columns → AreReaches (row_at layout.grid) (is_used_down offsets) part.rows rows → IsAt layout.grid i j s → is_met columns rows offsets j i ≡ true → is_neighbour layout offsets pet s ≡ true
met-to layout offsets pet part columns rows i j s numbering is within across down at met =
    let grid = layout.grid in
    let test : ℤ × ℤ → Bool = λ offset. is_reached (reach_for columns offset.0) i && is_reached (reach_for rows offset.1) j in
    let way : Any (λ offset. test offset ≡ true) offsets = Any-from_list_any test offsets met in
    let offset = way.1 in
    let P : ℤ × ℤ → Type 0 = λ one. IsOffset one.0 × IsOffset one.1 in
    let small : P offset = subst P way.3 (within way.0 offset way.2) in
    let both = and_parts (is_reached (reach_for columns offset.0) i) (is_reached (reach_for rows offset.1) j) way.4 in
    let column = reaches-to (column_at grid) part.columns offset.0 i (sym (across.places offset.0 small.0 (used-across offsets way.0 offset way.2 way.3) i) ∙ both.0) in
    let row = reaches-to (row_at grid) part.rows offset.1 j (sym (down.places offset.1 small.1 (used-down offsets way.0 offset way.2 way.3) j) ∙ both.1) in
    let a = column.0 in
    let b = row.0 in
    let width = is.within.columns in
    let height = is.within.rows in
    let left = column.1 in
    let right = column.2 in
    let above = row.1 in
    let below = row.2 in
    let x : part.columns.start + (a - part.columns.start) + 1 ≡ a + 1 = omega arith in
    let y : part.rows.start + (b - part.rows.start) + 1 ≡ b + 1 = omega arith in
    let t = index_of grid (a + 1) (b + 1) in
    let cell : part_cell grid part (a - part.columns.start) (b - part.rows.start) ≡ t = rw (x, y) refl in
    let k = a - part.columns.start + (b - part.rows.start) * part.columns.length in
    let there : slice_get (cells_of layout pet) k ≡ Some t = is.cells.places (a - part.columns.start) (b - part.rows.start) (omega arith) (omega arith) ∙ ap Some cell in
    let in_column : IsColumn grid (a + 1) = record { from_one = omega arith; within = omega arith } in
    let in_row : IsRow grid (b + 1) = record { from_one = omega arith; within = omega arith } in
    let same = neighbour-is grid i j a b s offset.0 offset.1 numbering at in_column in_row column.3 row.3 in
    let near : ℕ → Bool = λ t. list_any (λ one. eqb (neighbour_of grid t one.0 one.1) s) offsets in
    let is_near : ℤ × ℤ → Bool = λ one. eqb (neighbour_of grid t one.0 one.1) s in
    let found : near t ≡ true = list_any_at is_near offsets way.0 offset way.2 (ap is_near way.3 ∙ eq-eqb (neighbour_of grid t offset.0 offset.1) s same) in
    list_any_at near (cells_of layout pet) k t (slice_get_within (cells_of layout pet) k t there)
    (ap near (get_or_from_slice_get (cells_of layout pet) k t t there) ∙ found)

-- what a PET needs of a grid, by the row and the column from 0
pub halo-met : (pair : HaloPair) (i j : ℕ) → IsSound pair → i < pair.decomp.now.grid.nx → j < pair.decomp.now.grid.ny → is_halo pair.decomp.now pair.offsets.now pair.pet (cell_in pair.decomp.now.grid.nx j i) ≡ (not (is_held pair.part.columns i && is_held pair.part.rows j) && is_met pair.columns pair.rows pair.offsets.now j i)
halo-met pair i j sound right below =
    let layout = pair.decomp.now in
    let offsets = pair.offsets.now in
    let s = cell_in layout.grid.nx j i in
    let at = cell_at layout.grid i j sound.numbering right below in
    let near : is_neighbour layout offsets pair.pet s ≡ is_met pair.columns pair.rows offsets j i =
    same_test (is_neighbour layout offsets pair.pet s) (is_met pair.columns pair.rows offsets j i)
    (met-from layout offsets pair.pet pair.part pair.columns pair.rows i j s sound.numbering sound.part sound.offsets sound.columns sound.rows at)
    (met-to layout offsets pair.pet pair.part pair.columns pair.rows i j s sound.numbering sound.part sound.offsets sound.columns sound.rows at) in
    ap (λ own. not own && is_neighbour layout offsets pair.pet s) (own-held layout pair.pet pair.part i j s sound.part at)
    ∙ ap (λ met. not (is_held pair.part.columns i && is_held pair.part.rows j) && met) near

-- columns that are reached alike
met-columns : (columns rows : Reaches) (offsets : List (ℤ × ℤ)) (row i column : ℕ) → ((offset : ℤ) → is_reached (reach_for columns offset) i ≡ is_reached (reach_for columns offset) column) → is_met columns rows offsets row i ≡ is_met columns rows offsets row column
met-columns columns rows offsets row i column same =
    λ t. list_any (λ offset. same offset.0 t && is_reached (reach_for rows offset.1) row) offsets

-- rows that are reached alike
met-rows : (columns rows : Reaches) (offsets : List (ℤ × ℤ)) (j row column : ℕ) → ((offset : ℤ) → is_reached (reach_for rows offset) j ≡ is_reached (reach_for rows offset) row) → is_met columns rows offsets j column ≡ is_met columns rows offsets row column
met-rows columns rows offsets j row column same =
    λ t. list_any (λ offset. is_reached (reach_for columns offset.0) column && same offset.1 t) offsets

-- a place outside the hull isn't reached
hull-outside : (number_at : ℤ → ℕ) (is_used : ℤ → Bool) (block : Block) (reaches : Reaches) (offset : ℤ) (i : ℕ) → AreReaches number_at is_used block reaches → IsOffset offset → is_held reaches.hull i ≡ false → is_reached (reach_for reaches offset) i ≡ false
hull-outside number_at is_used block reaches offset i are small outside =
    false_from_ne_true (is_reached (reach_for reaches offset) i) (λ reached.
    let held = are.hull offset small i reached in cc)

-- a test that its opposite passes
pub opposite-true : (x : Bool) → not x ≡ true → x ≡ false
opposite-true true passes = absurd (true≢false (sym passes))
opposite-true false passes = refl

-- a test of which the first part fails
pub and_false-left : (x y : Bool) → x ≡ false → (x && y) ≡ false
and_false-left x y fails = rw fails refl

-- a test of which the second part fails
pub and_false-right : (x y : Bool) → y ≡ false → (x && y) ≡ false
and_false-right true y fails = fails
and_false-right false y fails = refl

-- where none of the columns of an offset is reached, the cell isn't needed
unneeded-column : (pair : HaloPair) (i j : ℕ) → IsSound pair → i < pair.decomp.now.grid.nx → j < pair.decomp.now.grid.ny → is_held pair.columns.hull i ≡ false → is_halo pair.decomp.now pair.offsets.now pair.pet (cell_in pair.decomp.now.grid.nx j i) ≡ false
unneeded-column pair i j sound right below outside =
    let P : ℤ × ℤ → Type 0 = λ offset. IsOffset offset.0 × IsOffset offset.1 in
    let test : ℤ × ℤ → Bool = λ offset. is_reached (reach_for pair.columns offset.0) i && is_reached (reach_for pair.rows offset.1) j in
    let Q : ℤ × ℤ → Type 0 = λ offset. test offset ≡ false in
    let none : list_any test pair.offsets.now ≡ false = list_any_none test pair.offsets.now (All-weaker P Q
    (λ offset small. and_false-left (is_reached (reach_for pair.columns offset.0) i) (is_reached (reach_for pair.rows offset.1) j)
    (hull-outside (column_at pair.decomp.now.grid) (is_used_across pair.offsets.now) pair.part.columns pair.columns offset.0 i sound.columns small.0 outside))
    pair.offsets.now sound.offsets) in
    halo-met pair i j sound right below
    ∙ and_false-right (not (is_held pair.part.columns i && is_held pair.part.rows j)) (list_any test pair.offsets.now) none

-- nor where none of the rows is
unneeded-row : (pair : HaloPair) (i j : ℕ) → IsSound pair → i < pair.decomp.now.grid.nx → j < pair.decomp.now.grid.ny → is_held pair.rows.hull j ≡ false → is_halo pair.decomp.now pair.offsets.now pair.pet (cell_in pair.decomp.now.grid.nx j i) ≡ false
unneeded-row pair i j sound right below outside =
    let P : ℤ × ℤ → Type 0 = λ offset. IsOffset offset.0 × IsOffset offset.1 in
    let test : ℤ × ℤ → Bool = λ offset. is_reached (reach_for pair.columns offset.0) i && is_reached (reach_for pair.rows offset.1) j in
    let Q : ℤ × ℤ → Type 0 = λ offset. test offset ≡ false in
    let none : list_any test pair.offsets.now ≡ false = list_any_none test pair.offsets.now (All-weaker P Q
    (λ offset small. and_false-right (is_reached (reach_for pair.columns offset.0) i) (is_reached (reach_for pair.rows offset.1) j)
    (hull-outside (row_at pair.decomp.now.grid) (is_used_down pair.offsets.now) pair.part.rows pair.rows offset.1 j sound.rows small.1 outside))
    pair.offsets.now sound.offsets) in
    halo-met pair i j sound right below
    ∙ and_false-right (not (is_held pair.part.columns i && is_held pair.part.rows j)) (list_any test pair.offsets.now) none

-- nor where the PET owns it
unneeded-own : (pair : HaloPair) (i j : ℕ) → IsSound pair → i < pair.decomp.now.grid.nx → j < pair.decomp.now.grid.ny → (is_held pair.part.columns i && is_held pair.part.rows j) ≡ true → is_halo pair.decomp.now pair.offsets.now pair.pet (cell_in pair.decomp.now.grid.nx j i) ≡ false
unneeded-own pair i j sound right below own =
    halo-met pair i j sound right below ∙ ap (λ own. not own && is_met pair.columns pair.rows pair.offsets.now j i) own

-- columns of which none is needed are needed alike
pub unneeded-stretch : (pair : HaloPair) (row column limit end : ℕ) → column < end → end ≤ limit → ((i : ℕ) → column ≤ i → i < end → is_halo pair.decomp.now pair.offsets.now pair.pet (cell_in pair.decomp.now.grid.nx row i) ≡ false) → IsStretch (is_halo pair.decomp.now pair.offsets.now pair.pet) pair.decomp.now.grid.nx row column limit (record { needed = false; end = end })
unneeded-stretch pair row column limit end some within none = record { some = some; within = within; same = none }

-- a row outside the hull
pub row-stretch : (pair : HaloPair) (row column limit : ℕ) → IsSound pair → row < pair.decomp.now.grid.ny → column < limit → limit ≤ pair.decomp.now.grid.nx → is_held pair.rows.hull row ≡ false → IsStretch (is_halo pair.decomp.now pair.offsets.now pair.pet) pair.decomp.now.grid.nx row column limit (record { needed = false; end = limit })
row-stretch pair row column limit sound below some most outside =
    unneeded-stretch pair row column limit limit some (omega arith) (λ i from to. unneeded-row pair i row sound (omega arith) below outside)

-- columns outside the hull
pub column-stretch : (pair : HaloPair) (row column limit : ℕ) (near : Stretch) → IsSound pair → row < pair.decomp.now.grid.ny → limit ≤ pair.decomp.now.grid.nx → column < near.end → near.end ≤ limit → ((i : ℕ) → column ≤ i → i < near.end → is_held pair.columns.hull i ≡ near.needed) → near.needed ≡ false → IsStretch (is_halo pair.decomp.now pair.offsets.now pair.pet) pair.decomp.now.grid.nx row column limit near
column-stretch pair row column limit near sound below most some within held outside = record {
  some = some;
  within = within;
  same = λ i from to. unneeded-column pair i row sound (omega arith) below (held i from to ∙ outside) ∙ sym outside;
}

-- columns of the PET's own cells
pub own-stretch : (pair : HaloPair) (row column limit own_end : ℕ) (own : Bool) → IsSound pair → row < pair.decomp.now.grid.ny → limit ≤ pair.decomp.now.grid.nx → column < own_end → own_end ≤ limit → ((i : ℕ) → column ≤ i → i < own_end → is_held pair.part.columns i ≡ own) → own ≡ true → is_held pair.part.rows row ≡ true → IsStretch (is_halo pair.decomp.now pair.offsets.now pair.pet) pair.decomp.now.grid.nx row column limit (record { needed = false; end = own_end })
own-stretch pair row column limit own_end own sound below most some within held is_own in_rows =
    unneeded-stretch pair row column limit own_end some within (λ i from to.
    unneeded-own pair i row sound (omega arith) below (both_true (held i from to ∙ is_own) in_rows))

-- rows outside the hull are alike
pub row-alike : (pair : HaloPair) (row limit end : ℕ) (near : Bool) → IsSound pair → limit ≤ pair.decomp.now.grid.ny → row < end → end ≤ limit → ((j : ℕ) → row ≤ j → j < end → is_held pair.rows.hull j ≡ near) → near ≡ false → AreAlike (is_halo pair.decomp.now pair.offsets.now pair.pet) pair.decomp.now.grid.nx row limit end
row-alike pair row limit end near sound most some within held outside = record {
  some = some;
  within = within;
  alike = record {
    same = λ j i from to right.
        unneeded-row pair i j sound right (omega arith) (held j from to ∙ outside)
        ∙ sym (unneeded-row pair i row sound right (omega arith) (held row (omega arith) some ∙ outside));
  };
}

-- columns that are held and reached alike are needed alike, but those of the PET's own cells
pub halo-stretch : (pair : HaloPair) (row column limit own_end end : ℕ) (own needed : Bool) → IsSound pair → row < pair.decomp.now.grid.ny → limit ≤ pair.decomp.now.grid.nx → own_end ≤ limit → ((i : ℕ) → column ≤ i → i < own_end → is_held pair.part.columns i ≡ own) → (own && is_held pair.part.rows row) ≡ false → AreSteady pair.columns.each column own_end end → needed ≡ is_met pair.columns pair.rows pair.offsets.now row column → IsStretch (is_halo pair.decomp.now pair.offsets.now pair.pet) pair.decomp.now.grid.nx row column limit (record { needed = needed; end = end })
halo-stretch pair row column limit own_end end own needed sound below most nearer held other steady is =
    let further = steady.within in
    record {
      some = steady.some;
      within = omega arith;
      same = λ i from to.
          halo-met pair i row sound (omega arith) below
          ∙ ap (λ h. not (h && is_held pair.part.rows row) && is_met pair.columns pair.rows pair.offsets.now row i) (held i from (omega arith))
          ∙ ap (λ own. not own && is_met pair.columns pair.rows pair.offsets.now row i) other
          ∙ met-columns pair.columns pair.rows pair.offsets.now row i column (λ offset. steady-reach pair.columns column own_end end steady offset i from to)
          ∙ sym is;
    }

-- rows that are held and reached alike have the same needed columns
pub halo-alike : (pair : HaloPair) (row limit own_end end : ℕ) (own : Bool) → IsSound pair → limit ≤ pair.decomp.now.grid.ny → row < own_end → own_end ≤ limit → ((j : ℕ) → row ≤ j → j < own_end → is_held pair.part.rows j ≡ own) → AreSteady pair.rows.each row own_end end → AreAlike (is_halo pair.decomp.now pair.offsets.now pair.pet) pair.decomp.now.grid.nx row limit end
halo-alike pair row limit own_end end own sound most some nearer held steady =
    let further = steady.within in
    record {
      some = steady.some;
      within = omega arith;
      alike = record {
        same = λ j i from to right.
            halo-met pair i j sound right (omega arith)
            ∙ ap (λ h. not (is_held pair.part.columns i && h) && is_met pair.columns pair.rows pair.offsets.now j i) (held j from (omega arith) ∙ sym (held row (omega arith) some))
            ∙ ap (λ met. not (is_held pair.part.columns i && is_held pair.part.rows row) && met) (met-rows pair.columns pair.rows pair.offsets.now j row i (λ offset. steady-reach pair.rows row own_end end steady offset j from to))
            ∙ sym (halo-met pair i row sound right (omega arith));
      };
    }

-- lists that are all empty, end to end
flat_map-none : (f : ℕ → List ℕ) (a n : ℕ) → ((j : ℕ) → a ≤ j → j < a + n → f j ≡ []) → flat_map f (range_with_len a n) ≡ []
flat_map-none f a zero none = refl
flat_map-none f a (suc n) none =
    rw (none a (omega arith) (omega arith)) (flat_map-none f (a + 1) n (λ j from to. none j (omega arith) (omega arith)))

-- a part of which no cell passes
none-part : (test : ℕ → Bool) (grid : Grid) (part : Part) → ((i j : ℕ) → is_held part.columns i ≡ true → is_held part.rows j ≡ true → test (cell_in grid.nx j i) ≡ false) → filter test (cells_of_part grid part) ≡ []
unfolding needed_in_rows needed_in_row
none-part test grid part fail =
    let x = part.columns.start in
    needed-part test grid part
    ∙ flat_map-none (needed_in_row test grid.nx part.columns) part.rows.start part.rows.length (λ j above below.
    filter-range_none test (cell_in grid.nx j x) part.columns.length (λ s from to.
    let i = s - (1 + j * grid.nx) in
    let here : s ≡ cell_in grid.nx j i = omega arith in
    ap test here ∙ fail i j (held-from part.columns i (omega arith) (omega arith)) (held-from part.rows j above below)))

-- where a part is in none of the columns that can be reached, none of its cells is needed
pub far-columns : (pair : HaloPair) (part : Part) → IsSound pair → IsPart pair.decomp.now.grid part → ((i : ℕ) → is_held part.columns i ≡ true → is_held pair.columns.hull i ≡ false) → filter (is_halo pair.decomp.now pair.offsets.now pair.pet) (cells_of_part pair.decomp.now.grid part) ≡ []
far-columns pair part sound within outside =
    let width = within.columns in
    let height = within.rows in
    none-part (is_halo pair.decomp.now pair.offsets.now pair.pet) pair.decomp.now.grid part (λ i j across down.
    let column = held-to part.columns i across in
    let row = held-to part.rows j down in
    unneeded-column pair i j sound (omega arith) (omega arith) (outside i across))

-- and where it is in none of the rows
pub far-rows : (pair : HaloPair) (part : Part) → IsSound pair → IsPart pair.decomp.now.grid part → ((j : ℕ) → is_held part.rows j ≡ true → is_held pair.rows.hull j ≡ false) → filter (is_halo pair.decomp.now pair.offsets.now pair.pet) (cells_of_part pair.decomp.now.grid part) ≡ []
far-rows pair part sound within outside =
    let width = within.columns in
    let height = within.rows in
    none-part (is_halo pair.decomp.now pair.offsets.now pair.pet) pair.decomp.now.grid part (λ i j across down.
    let column = held-to part.columns i across in
    let row = held-to part.rows j down in
    unneeded-row pair i j sound (omega arith) (omega arith) (outside j down))

-- parts of equal numbers are one
pub part-same : (one other : Part) (result : Bool) → result ≡ ((eqb one.columns.start other.columns.start && eqb one.columns.length other.columns.length) && (eqb one.rows.start other.rows.start && eqb one.rows.length other.rows.length)) → result ≡ true → one ≡ other
part-same one other result is same =
    let across = eqb one.columns.start other.columns.start && eqb one.columns.length other.columns.length in
    let down = eqb one.rows.start other.rows.start && eqb one.rows.length other.rows.length in
    let both = and_parts across down (sym is ∙ same) in
    let columns = and_parts (eqb one.columns.start other.columns.start) (eqb one.columns.length other.columns.length) both.0 in
    let rows = and_parts (eqb one.rows.start other.rows.start) (eqb one.rows.length other.rows.length) both.1 in
    let x = eqb-true one.columns.start other.columns.start columns.0 in
    let w = eqb-true one.columns.length other.columns.length columns.1 in
    let y = eqb-true one.rows.start other.rows.start rows.0 in
    let h = eqb-true one.rows.length other.rows.length rows.1 in
    λ i. record { columns = record { start = x i; length = w i }; rows = record { start = y i; length = h i } }

-- and where it is what the PET owns
pub far-own : (pair : HaloPair) (part : Part) → IsSound pair → IsPart pair.decomp.now.grid part → part ≡ pair.part → filter (is_halo pair.decomp.now pair.offsets.now pair.pet) (cells_of_part pair.decomp.now.grid part) ≡ []
far-own pair part sound within same =
    let width = within.columns in
    let height = within.rows in
    none-part (is_halo pair.decomp.now pair.offsets.now pair.pet) pair.decomp.now.grid part (λ i j across down.
    let column = held-to part.columns i across in
    let row = held-to part.rows j down in
    let own : (is_held pair.part.columns i && is_held pair.part.rows j) ≡ true =
    ap (λ (one : Part). is_held one.columns i && is_held one.rows j) (sym same) ∙ both_true across down in
    unneeded-own pair i j sound (omega arith) (omega arith) own)
