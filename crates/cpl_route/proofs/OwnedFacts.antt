-- Parts that PETs own, and stretches of them.
use Rattle.std.proofs.Common.{◌≡◌, ℕ, ◌+◌, ◌-◌, ◌*◌, ◌/◌, ◌<◌, ◌≤◌, ◌⊎◌, ◌&&◌, Bool, true, false, List, length, get_or, filter, set, refl, sym, ap, subst, ◌∙◌, inl, inr, arith, length-set}
use Rattle.std.proofs.lemmas.Bool.{cases_lt, eq-eqb, lt-ltb, le-ltb, ne_eqb}
use Rattle.std.proofs.lemmas.List.{get_or-set_other, get_or-set_same}
use Rattle.std.proofs.lemmas.List.FromFn.{get_or-range_with_len, length-range_with_len}
use Rattle.std.proofs.Math.Nat.{le_of_mul-le-mul_left, mul-le-mul_right, mul_comm}
use Rattle.std.proofs.Math.Bool.{and-false, and-true}
use Rattle.std.proofs.lemmas.Nat.{div_below}
use Rattle.cpl_grid.specs.Blocks.{Holds}
use Rattle.cpl_grid.specs.Grid.{IsColumn, IsNumbering, IsRow, column_of, index_of, row_of}
use Rattle.cpl_grid.specs.Owners.{IsPartOf, Layout, owner_of, part_of, pets_in}
use Rattle.cpl_grid.specs.Parts.{IsInPart, cells_of_part}
use Rattle.cpl_grid.specs.declared.blocks.Block.{Block}
use Rattle.cpl_grid.specs.declared.blocks.Part.{Part}
use Rattle.cpl_grid.specs.declared.grid.Grid.{Grid}
use Rattle.cpl_route.specs.Kept.{HasPartsTo}
use Rattle.cpl_route.specs.Places.{AreAlike, IsStretch, cell_in, is_held}
use Rattle.cpl_route.specs.Routes.{is_owned, pets_of, shared_cells}
use Rattle.cpl_route.specs.declared.needs.Stretch.{Stretch}

-- a block that holds a place passes the test
pub held-true : (block : Block) (place : ℕ) → Holds block place → is_held block place ≡ true
held-true block place holds =
    let from = holds.from_start in
    let end = holds.before_end in
    rw (le-ltb place block.start from, lt-ltb place (block.start + block.length) end) refl

-- a block holds a place, or the test fails
pub held-cases : (block : Block) (place : ℕ) → Holds block place ⊎ (is_held block place ≡ false)
held-cases block place = elim (cases_lt place block.start) [
  | inl before ↦ inr (rw (lt-ltb place block.start before) refl)
  | inr from ↦ elim (cases_lt place (block.start + block.length)) [
    | inl inside ↦ inl (record { from_start = from; before_end = inside })
    | inr behind ↦ inr (rw (le-ltb place block.start from, le-ltb place (block.start + block.length) behind) refl)
  ]
]

-- the cell in a row and a column, counted from 0, by its index
pub cell_in-index : (grid : Grid) (row column : ℕ) → cell_in grid.nx row column ≡ index_of grid (column + 1) (row + 1)
cell_in-index grid row column =
    let above : row + 1 - 1 ≡ row = omega arith in
    rw above (omega arith)

-- a cell of a PET is one whose column and row its part holds
pub owned-place : (layout : Layout) (to : ℕ) (part : Part) (row column : ℕ) → IsNumbering layout.grid → IsPartOf layout to part → row < layout.grid.ny → column < layout.grid.nx → is_owned layout to (cell_in layout.grid.nx row column) ≡ (is_held part.columns column && is_held part.rows row)
owned-place layout to part row column numbering is_part row_in column_in =
    let grid = layout.grid in
    let is_column : IsColumn grid (column + 1) = record { from_one = omega arith; within = omega arith } in
    let is_row : IsRow grid (row + 1) = record { from_one = omega arith; within = omega arith } in
    let s = index_of grid (column + 1) (row + 1) in
    let cell = numbering.cell (column + 1) (row + 1) is_column is_row in
    let at_column : column_of grid s - 1 ≡ column = omega (arith, numbering.column_again (column + 1) (row + 1) is_column is_row) in
    let at_row : row_of grid s - 1 ≡ row = omega (arith, numbering.row_again (column + 1) (row + 1) is_column is_row) in
    let owned = is_part.owned s cell in
    rw (cell_in-index grid row column) (elim (held-cases part.columns column) [
      | inl in_columns ↦ elim (held-cases part.rows row) [
        | inl in_rows ↦
            let inside : IsInPart grid part s = record { column = rw at_column in_columns; row = rw at_row in_rows } in
            eq-eqb (owner_of layout s) to (owned.1 inside) ∙ sym (rw (held-true part.columns column in_columns, held-true part.rows row in_rows) refl)
        | inr not_in_rows ↦
            ne_eqb (owner_of layout s) to (λ is. absurd (let inside = owned.0 is in let held = held-true part.rows row (rw at_row at inside.row) in cc))
            ∙ sym (rw (held-true part.columns column in_columns, not_in_rows) refl)
      ]
      | inr not_in_columns ↦
          ne_eqb (owner_of layout s) to (λ is. absurd (let inside = owned.0 is in let held = held-true part.columns column (rw at_column at inside.column) in cc))
          ∙ sym (rw not_in_columns refl)
    ])

-- a stretch of a block of columns is one of a row that the part has
pub owned-stretch : (layout : Layout) (to : ℕ) (part : Part) (row column limit : ℕ) (stretch : Stretch) → IsNumbering layout.grid → IsPartOf layout to part → row < layout.grid.ny → limit ≤ layout.grid.nx → is_held part.rows row ≡ true → column < stretch.end → stretch.end ≤ limit → ((i : ℕ) → column ≤ i → i < stretch.end → is_held part.columns i ≡ stretch.needed) → IsStretch (is_owned layout to) layout.grid.nx row column limit stretch
owned-stretch layout to part row column limit stretch numbering is_part row_in limit_in in_rows some within same = record {
  some = some;
  within = within;
  same = λ i from end.
      owned-place layout to part row i numbering is_part row_in (omega arith)
      ∙ ap (λ b. is_held part.columns i && b) in_rows
      ∙ and-true (is_held part.columns i)
      ∙ same i from end;
}

-- in a row that the part hasn't, nothing is owned
pub owned-no_row : (layout : Layout) (to : ℕ) (part : Part) (row column limit : ℕ) → IsNumbering layout.grid → IsPartOf layout to part → row < layout.grid.ny → limit ≤ layout.grid.nx → column < limit → is_held part.rows row ≡ false → IsStretch (is_owned layout to) layout.grid.nx row column limit (record { needed = false; end = limit })
owned-no_row layout to part row column limit numbering is_part row_in limit_in some not_in_rows = record {
  some = some;
  within = omega arith;
  same = λ i from end.
      owned-place layout to part row i numbering is_part row_in (omega arith)
      ∙ ap (λ b. is_held part.columns i && b) not_in_rows
      ∙ and-false (is_held part.columns i);
}

-- rows that the part has or hasn't alike, are alike
pub owned-alike : (layout : Layout) (to : ℕ) (part : Part) (nx ny row limit end : ℕ) (needed : Bool) → IsNumbering layout.grid → IsPartOf layout to part → nx ≡ layout.grid.nx → ny ≡ layout.grid.ny → limit ≤ ny → row < end → end ≤ limit → ((j : ℕ) → row ≤ j → j < end → is_held part.rows j ≡ needed) → AreAlike (is_owned layout to) nx row limit end
owned-alike layout to part nx ny row limit end needed numbering is_part is_nx is_ny limit_in some within same = record {
  some = some;
  within = within;
  alike = record {
    same = λ j i from to_end column_in.
        let column : i < layout.grid.nx = omega arith in
        ap (λ k. is_owned layout to (cell_in k j i)) is_nx
        ∙ owned-place layout to part j i numbering is_part (omega arith) column
        ∙ ap (λ b. is_held part.columns i && b) (same j from to_end ∙ sym (same row (omega arith) some))
        ∙ sym (owned-place layout to part row i numbering is_part (omega arith) column)
        ∙ ap (λ k. is_owned layout to (cell_in k row i)) (sym is_nx);
  };
}

-- a row is like itself
pub alike-itself : (test : ℕ → Bool) (nx row limit : ℕ) → row < limit → AreAlike test nx row limit (row + 1)
alike-itself test nx row limit inside = record {
  some = omega arith;
  within = omega arith;
  alike = record {
    same = λ j i from end column_in.
        let here : j ≡ row = omega arith in
        ap (λ k. test (cell_in nx k i)) here;
  };
}

-- a stretch of a row of one grid, as a stretch of a row of another
pub stretch-elsewhere : (test : ℕ → Bool) (nx row column limit wide width there_row there there_limit : ℕ) (found : Stretch) → width ≡ wide → there + there_row * width ≡ row * nx + column → there_limit ≤ there + (limit - column) → column < limit → IsStretch test wide there_row there there_limit found → IsStretch test nx row column limit (record { needed = found.needed; end = column + (found.end - there) })
stretch-elsewhere test nx row column limit wide width there_row there there_limit found same_width same_place short inside is' =
    let is = subst (λ w. IsStretch test w there_row there there_limit found) (sym same_width) is' in
    let some = is.some in
    let within = is.within in
    record {
      some = omega arith;
      within = omega arith;
      same = λ i from end.
          let same_cell : cell_in nx row i ≡ cell_in width there_row (there + (i - column)) = omega arith in
          ap test same_cell ∙ is.same (there + (i - column)) (omega arith) (omega arith);
    }

-- grids of equal numbers of cells and of columns have as many rows
pub same-height : (nx ny width height : ℕ) → nx * ny ≡ width * height → nx ≡ width → 1 ≤ nx → ny ≡ height
same-height nx ny width height same wide some =
    let turned : nx * ny ≡ nx * height = same ∙ ap (λ k. k * height) (sym wide) in
    let below : ny ≤ height = le_of_mul-le-mul_left {k = nx} (omega arith) some in
    let above : height ≤ ny = le_of_mul-le-mul_left {k = nx} (omega arith) some in
    omega arith

-- a place lies in a row of the other grid
pub row-elsewhere : (nx ny row column limit width height : ℕ) → row < ny → column < limit → limit ≤ nx → nx * ny ≡ width * height → 1 ≤ width → (row * nx + column) / width < height
row-elsewhere nx ny row column limit width height row_in inside limit_in same some =
    let next : (row + 1) * nx ≤ ny * nx = mul-le-mul_right nx (omega arith) in
    let split : (row + 1) * nx ≡ row * nx + nx = omega arith in
    let turned : ny * nx ≡ nx * ny = mul_comm ny nx in
    let turned' : width * height ≡ height * width = mul_comm width height in
    div_below (row * nx + column) width height some (omega arith)

-- what is sent, from the part of the sender
pub shared-part : (src : Layout) (is_needed : ℕ → ℕ → Bool) (from to : ℕ) (part : Part) → IsPartOf src from part → shared_cells src is_needed from to ≡ filter (is_needed to) (cells_of_part src.grid part)
unfolding shared_cells
shared-part src is_needed from to part is_part = ap (filter (is_needed to)) is_part.rows

-- no part is kept yet
pub parts-none : (layout : Layout) (list : List Part) → length list ≡ 64 → HasPartsTo layout list 0
parts-none layout list room = record { room = room; each = λ k other inside. absurd (omega arith) }

-- one part more
pub parts-more : (layout : Layout) (list : List Part) (count : ℕ) (part : Part) → HasPartsTo layout list count → count < 64 → part ≡ part_of layout (layout.first_pet + count) → HasPartsTo layout (set list count part) (count + 1)
parts-more layout list count part kept inside is = record {
  room = simp length-set kept.room;
  each = λ k other below. elim (cases_lt k count) [
    | inl before ↦ get_or-set_other list count k part other (λ same. omega arith) ∙ kept.each k other before
    | inr from ↦
        let here : k ≡ count = omega arith in
        let room = kept.room in
        ap (λ n. get_or (set list count part) n other) here ∙ get_or-set_same list count part other (omega arith) ∙ is ∙ ap (λ n. part_of layout (layout.first_pet + n)) (sym here)
  ];
}

-- what is sent in a redistribution, from what the code asks for
pub shared-owned : (src dst : Layout) (from to : ℕ) (part : Part) (layout : Layout) (pet : ℕ) (grid : Grid) → IsPartOf src from part → layout ≡ dst → pet ≡ to → grid ≡ src.grid → filter (is_owned layout pet) (cells_of_part grid part) ≡ shared_cells src (is_owned dst) from to
shared-owned src dst from to part layout pet grid is_part same_layout same_pet same_grid =
    (λ i. filter (is_owned (same_layout i) (same_pet i)) (cells_of_part (same_grid i) part))
    ∙ sym (shared-part src (is_owned dst) from to part is_part)

-- how many PETs there are
pub pets-count : (layout : Layout) → length (pets_of layout) ≡ pets_in layout
pets-count layout = length-range_with_len layout.first_pet (pets_in layout)

-- the PET at a place
pub pets-at : (layout : Layout) (place : ℕ) → place < length (pets_of layout) → get_or (pets_of layout) place 0 ≡ layout.first_pet + place
pets-at layout place inside =
    get_or-range_with_len layout.first_pet (pets_in layout) place 0 (omega (arith, pets-count layout))
