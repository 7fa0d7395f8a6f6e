-- The needed cells of rows, put together.
use Rattle.std.proofs.Common.{◌≡◌, ℕ, zero, suc, ◌+◌, ◌-◌, ◌*◌, ◌<◌, ◌≤◌, ◌^◌, Bool, true, false, List, [], ◌∷◌, ◌++◌, length, get_or, take, drop, map, filter, refl, sym, ap, subst, ◌∙◌, inl, inr, arith, append_assoc, length-append, length-drop, length-take-le, take_all, zero-add}
use Rattle.std.specs.List.{All, flat_map, range_with_len}
use Rattle.std.specs.Prelude.{if◌then◌else◌}
use Rattle.std.proofs.lemmas.Bool.{cases_Bool}
use Rattle.std.proofs.lemmas.Grind.{flat_map-append}
use Rattle.std.proofs.lemmas.List.{append-nil, get_or_append_left, get_or-append-add, get_or-map, get_or-take, length-map, map-append, map-id, take-append-drop, take_more}
use Rattle.std.proofs.lemmas.List.Elements.{All-append, All-filter, All-map, All-nil, All-weaker, filter-append}
use Rattle.std.proofs.lemmas.Nat.{mul-le}
use Rattle.std.proofs.lemmas.Simd.{map-map}
use Rattle.std.proofs.lemmas.List.FromFn.{length-range_with_len}
use Rattle.std.proofs.Math.Nat.{mul-le-mul_right, mul_comm}
use Rattle.std.proofs.Math.Seq.{drop-append_seam, take-append_seam}
use Rattle.cpl_grid.proofs.BoxFacts.{length-rows}
use Rattle.cpl_grid.proofs.RangeFacts.{filter-range_all, filter-range_append, filter-range_none, All-range, range-append, range-suc}
use Rattle.cpl_grid.specs.Grid.{IsGrid}
use Rattle.cpl_grid.specs.Parts.{IsPart, cells_of_part, part_cell, part_row}
use Rattle.cpl_grid.specs.declared.blocks.Block.{Block}
use Rattle.cpl_grid.specs.declared.blocks.Part.{Part}
use Rattle.cpl_grid.specs.declared.grid.Grid.{Grid}
use Rattle.cpl_route.specs.Places.{AreAlike, AreRowsAlike, IsStretch, cell_in, in_rows, needed_in_row, needed_in_rows}
use Rattle.cpl_route.specs.Walks.{HasCopied, HasCounted, HasCountedRows, IsAlong, IsDown, needed_so_far}
use Rattle.cpl_route.specs.declared.needs.Stretch.{Stretch}

-- a filter goes into each piece
filter-flat_map : {A : Type 0} (p : ℕ → Bool) (f : A → List ℕ) (xs : List A) → filter p (flat_map f xs) ≡ flat_map (λ x. filter p (f x)) xs
filter-flat_map p f [] = refl
filter-flat_map p f (x ∷ xs) = filter-append p (f x) (flat_map f xs) ∙ ap (λ ys. filter p (f x) ++ ys) (filter-flat_map p f xs)

-- pieces by numbers that follow one another, counted from elsewhere
flat_map-shift : (f g : ℕ → List ℕ) (y a n : ℕ) → ((j : ℕ) → a ≤ j → j < a + n → g j ≡ f (y + j)) → flat_map g (range_with_len a n) ≡ flat_map f (range_with_len (y + a) n)
flat_map-shift f g y a zero same = refl
flat_map-shift f g y a (suc n) same =
    let next : y + (a + 1) ≡ y + a + 1 = omega arith in
    let rest = flat_map-shift f g y (a + 1) n (λ j from to. same j (omega arith) (omega arith)) in
    ap (λ xs. xs ++ flat_map g (range_with_len (a + 1) n)) (same a (omega arith) (omega arith))
    ∙ ap (λ xs. f (y + a) ++ xs) (rest ∙ ap (λ k. flat_map f (range_with_len k n)) next)

-- the needed cells of a part, row by row
pub needed-part : (test : ℕ → Bool) (grid : Grid) (part : Part) → filter test (cells_of_part grid part) ≡ needed_in_rows test grid.nx part.columns part.rows.start part.rows.length
unfolding cells_of_part needed_in_rows needed_in_row
needed-part test grid part =
    let x = part.columns.start in
    let y = part.rows.start in
    let row : (j : ℕ) → filter test (part_row grid part j) ≡ needed_in_row test grid.nx part.columns (y + j) = λ j.
    let above : y + j + 1 - 1 ≡ y + j = omega arith in
    let first : part_cell grid part 0 j ≡ cell_in grid.nx (y + j) x = rw above (omega arith) in
    ap (λ k. filter test (range_with_len k part.columns.length)) first in
    filter-flat_map test (part_row grid part) (range_with_len 0 part.rows.length)
    ∙ flat_map-shift (needed_in_row test grid.nx part.columns) (λ j. filter test (part_row grid part j)) y 0 part.rows.length (λ j from to. row j)
    ∙ ap (λ k. flat_map (needed_in_row test grid.nx part.columns) (range_with_len k part.rows.length)) (omega arith)

-- more rows
pub needed_in_rows-append : (test : ℕ → Bool) (nx : ℕ) (columns : Block) (row m n : ℕ) → needed_in_rows test nx columns row (m + n) ≡ needed_in_rows test nx columns row m ++ needed_in_rows test nx columns (row + m) n
unfolding needed_in_rows
needed_in_rows-append test nx columns row m n =
    ap (flat_map (needed_in_row test nx columns)) (range-append row m n)
    ∙ flat_map-append (needed_in_row test nx columns) (range_with_len row m) (range_with_len (row + m) n)

-- what a filter keeps of numbers further on, where the test gives the same there
filter-further : (p : ℕ → Bool) (a d n : ℕ) → ((s : ℕ) → a ≤ s → s < a + n → p (s + d) ≡ p s) → filter p (range_with_len (a + d) n) ≡ map (λ s. s + d) (filter p (range_with_len a n))
filter-further p a d zero same = refl
filter-further p a d (suc n) same =
    let next : a + d + 1 ≡ a + 1 + d = omega arith in
    let rest = filter-further p (a + 1) d n (λ s from to. same s (omega arith) (omega arith)) in
    let tail : filter p (range_with_len (a + d + 1) n) ≡ map (λ s. s + d) (filter p (range_with_len (a + 1) n)) = ap (λ k. filter p (range_with_len k n)) next ∙ rest in
    let here : p (a + d) ≡ p a = same a (omega arith) (omega arith) in
    elim (cases_Bool (p a)) [
      | inl passes ↦ rw (here, passes) (ap (λ xs. (a + d) ∷ xs) tail)
      | inr fails ↦ rw (here, fails) tail
    ]

-- rows that are alike have the same needed cells, each so many rows further
pub needed_in_rows-alike : (test : ℕ → Bool) (nx : ℕ) (columns : Block) (row n : ℕ) → columns.start + columns.length ≤ nx → AreRowsAlike test nx row (row + n) → needed_in_rows test nx columns row n ≡ in_rows nx (needed_in_row test nx columns row) n
unfolding needed_in_rows needed_in_row in_rows
needed_in_rows-alike test nx columns row n within alike =
    let x = columns.start in
    let w = columns.length in
    let first = cell_in nx row x in
    let row_cells = filter test (range_with_len first w) in
    let each : (j : ℕ) → 0 ≤ j → j < 0 + n → map (λ s. s + j * nx) row_cells ≡ needed_in_row test nx columns (row + j) = λ j from to.
    let same : (s : ℕ) → first ≤ s → s < first + w → test (s + j * nx) ≡ test s = λ s above below.
    let i = s - (1 + row * nx) in
    let here : s ≡ cell_in nx row i = omega arith in
    let there : s + j * nx ≡ cell_in nx (row + j) i = omega arith in
    ap test there ∙ alike.same (row + j) i (omega arith) (omega arith) (omega arith) ∙ ap test (sym here) in
    let start : cell_in nx (row + j) x ≡ first + j * nx = omega arith in
    sym (ap (λ k. filter test (range_with_len k w)) start ∙ filter-further test first (j * nx) w same) in
    sym (flat_map-shift (needed_in_row test nx columns) (λ j. map (λ s. s + j * nx) row_cells) row 0 n each
    ∙ ap (λ k. flat_map (needed_in_row test nx columns) (range_with_len k n)) (omega arith))

-- one cell more
pub stretch-more : (first cell : ℕ) (before now : List ℕ) → first ≤ cell → now ≡ before ++ range_with_len first (cell - first) → now ++ cell ∷ [] ≡ before ++ range_with_len first (cell + 1 - first)
stretch-more first cell before now from is =
    let more : cell + 1 - first ≡ suc (cell - first) = omega arith in
    let at : first + (cell - first) ≡ cell = omega arith in
    ap (λ xs. xs ++ cell ∷ []) is
    ∙ append_assoc before (range_with_len first (cell - first)) (cell ∷ [])
    ∙ ap (λ xs. before ++ xs) (sym (ap (range_with_len first) more ∙ range-suc first (cell - first) ∙ ap (λ k. range_with_len first (cell - first) ++ k ∷ []) at))

-- what a filter keeps isn't longer
pub length-filter-le : (p : ℕ → Bool) (xs : List ℕ) → length (filter p xs) ≤ length xs
length-filter-le p [] = omega arith
length-filter-le p (x ∷ xs) =
    let rest = length-filter-le p xs in
    elim (cases_Bool (p x)) [ inl passes ↦ rw passes (omega arith) | inr fails ↦ rw fails (omega arith) ]

-- the needed cells of a stretch
stretch-cells : (test : ℕ → Bool) (nx row column limit : ℕ) (stretch : Stretch) → IsStretch test nx row column limit stretch → filter test (range_with_len (cell_in nx row column) (stretch.end - column)) ≡ (if stretch.needed then range_with_len (cell_in nx row column) (stretch.end - column) else [])
stretch-cells test nx row column limit stretch is =
    let first = cell_in nx row column in
    let n = stretch.end - column in
    let some = is.some in
    let each : (s : ℕ) → first ≤ s → s < first + n → test s ≡ stretch.needed = λ s from to.
    let i = s - (1 + row * nx) in
    let here : s ≡ cell_in nx row i = omega arith in
    ap test here ∙ is.same i (omega arith) (omega arith) in
    elim (cases_Bool stretch.needed) [
      | inl needed ↦ rw needed (filter-range_all test first n (λ s from to. each s from to ∙ needed))
      | inr not_needed ↦ rw not_needed (filter-range_none test first n (λ s from to. each s from to ∙ not_needed))
    ]

-- the needed cells so far, and those of a stretch
so_far-more : (test : ℕ → Bool) (nx : ℕ) (columns : Block) (row column end : ℕ) → columns.start ≤ column → column ≤ end → needed_so_far test nx columns row end ≡ needed_so_far test nx columns row column ++ filter test (range_with_len (cell_in nx row column) (end - column))
unfolding needed_so_far
so_far-more test nx columns row column end started further =
    let x = columns.start in
    let all : end - x ≡ column - x + (end - column) = omega arith in
    let at : cell_in nx row x + (column - x) ≡ cell_in nx row column = omega arith in
    ap (λ k. filter test (range_with_len (cell_in nx row x) k)) all
    ∙ filter-range_append test (cell_in nx row x) (column - x) (end - column)
    ∙ ap (λ k. filter test (range_with_len (cell_in nx row x) (column - x)) ++ filter test (range_with_len k (end - column))) at

-- a stretch further along the row
pub along-more : (test : ℕ → Bool) (nx : ℕ) (columns : Block) (row column limit : ℕ) (stretch : Stretch) (before now after : List ℕ) → IsAlong test nx columns row column before now → limit ≡ columns.start + columns.length → IsStretch test nx row column limit stretch → after ≡ now ++ (if stretch.needed then range_with_len (1 + row * nx + column) (stretch.end - column) else []) → IsAlong test nx columns row stretch.end before after
along-more test nx columns row column limit stretch before now after along is_limit is more =
    let started = along.passing.started in
    let some = is.some in
    let within = is.within in
    record {
      passing = record { started = omega arith; within = omega arith };
      cells =
          more
          ∙ ap (λ xs. xs ++ (if stretch.needed then range_with_len (cell_in nx row column) (stretch.end - column) else [])) along.cells
          ∙ append_assoc before (needed_so_far test nx columns row column) (if stretch.needed then range_with_len (cell_in nx row column) (stretch.end - column) else [])
          ∙ ap (λ xs. before ++ (needed_so_far test nx columns row column ++ xs)) (sym (stretch-cells test nx row column limit stretch is))
          ∙ ap (λ xs. before ++ xs) (sym (so_far-more test nx columns row column stretch.end started (omega arith)));
    }

-- no column is passed yet
so_far-none : (test : ℕ → Bool) (nx : ℕ) (columns : Block) (row : ℕ) → needed_so_far test nx columns row columns.start ≡ []
unfolding needed_so_far
so_far-none test nx columns row =
    let none : columns.start - columns.start ≡ 0 = omega arith in
    ap (λ k. filter test (range_with_len (cell_in nx row columns.start) k)) none

-- all columns are passed
so_far-all : (test : ℕ → Bool) (nx : ℕ) (columns : Block) (row column : ℕ) → column ≡ columns.start + columns.length → needed_so_far test nx columns row column ≡ needed_in_row test nx columns row
unfolding needed_so_far needed_in_row
so_far-all test nx columns row column is =
    let all : column - columns.start ≡ columns.length = omega arith in
    ap (λ k. filter test (range_with_len (cell_in nx row columns.start) k)) all

-- a walk along a row begins
pub along-none : (test : ℕ → Bool) (nx : ℕ) (columns : Block) (row : ℕ) (before : List ℕ) → IsAlong test nx columns row columns.start before before
along-none test nx columns row before = record {
  passing = record { started = omega arith; within = omega arith };
  cells = sym (ap (λ xs. before ++ xs) (so_far-none test nx columns row) ∙ append-nil before);
}

-- a walk along a row is done
pub along-all : (test : ℕ → Bool) (nx : ℕ) (columns : Block) (row column limit : ℕ) (before now : List ℕ) → IsAlong test nx columns row column before now → limit ≡ columns.start + columns.length → limit ≤ column → now ≡ before ++ needed_in_row test nx columns row
along-all test nx columns row column limit before now along is_limit end =
    let within = along.passing.within in
    along.cells ∙ ap (λ xs. before ++ xs) (so_far-all test nx columns row column (omega arith))

-- how many columns are passed bounds the needed cells so far
so_far-few : (test : ℕ → Bool) (nx : ℕ) (columns : Block) (row column : ℕ) → length (needed_so_far test nx columns row column) ≤ column - columns.start
unfolding needed_so_far
so_far-few test nx columns row column =
    let xs = range_with_len (cell_in nx row columns.start) (column - columns.start) in
    omega (arith, length-filter-le test xs, length-range_with_len (cell_in nx row columns.start) (column - columns.start))

-- how many cells a stretch adds
stretch-length : (needed : Bool) (first n : ℕ) → length (if needed then range_with_len first n else []) ≡ (if needed then n else 0)
stretch-length true first n = length-range_with_len first n
stretch-length false first n = refl

-- a count goes on by a stretch
pub counted-more : (test : ℕ → Bool) (nx : ℕ) (columns : Block) (row column limit : ℕ) (stretch : Stretch) (total after : ℕ) → HasCounted test nx columns row column total → limit ≡ columns.start + columns.length → IsStretch test nx row column limit stretch → after ≡ total + (if stretch.needed then stretch.end - column else 0) → HasCounted test nx columns row stretch.end after
counted-more test nx columns row column limit stretch total after counted is_limit is more =
    let started = counted.passing.started in
    let some = is.some in
    let within = is.within in
    let cells = needed_so_far test nx columns row column in
    let added = (if stretch.needed then range_with_len (cell_in nx row column) (stretch.end - column) else []) in
    let joined : length (needed_so_far test nx columns row stretch.end) ≡ length cells + length added =
    ap length (so_far-more test nx columns row column stretch.end started (omega arith) ∙ ap (λ xs. cells ++ xs) (stretch-cells test nx row column limit stretch is))
    ∙ length-append cells added in
    let long = stretch-length stretch.needed (cell_in nx row column) (stretch.end - column) in
    record {
      passing = record { started = omega arith; within = omega arith };
      count = more ∙ ap (λ k. total + k) (sym long) ∙ ap (λ k. k + length added) counted.count ∙ sym joined;
    }

-- a count begins
pub counted-none : (test : ℕ → Bool) (nx : ℕ) (columns : Block) (row : ℕ) → HasCounted test nx columns row columns.start 0
counted-none test nx columns row = record {
  passing = record { started = omega arith; within = omega arith };
  count = sym (ap length (so_far-none test nx columns row));
}

-- a count is done
pub counted-all : (test : ℕ → Bool) (nx : ℕ) (columns : Block) (row column limit total : ℕ) → HasCounted test nx columns row column total → limit ≡ columns.start + columns.length → limit ≤ column → total ≡ length (needed_in_row test nx columns row)
counted-all test nx columns row column limit total counted is_limit end =
    let within = counted.passing.within in
    counted.count ∙ ap length (so_far-all test nx columns row column (omega arith))

-- a count is at most the columns passed
pub counted-few : (test : ℕ → Bool) (nx : ℕ) (columns : Block) (row column total : ℕ) → HasCounted test nx columns row column total → total ≤ columns.length
counted-few test nx columns row column total counted =
    let within = counted.passing.within in
    let count = counted.count in
    omega (arith, so_far-few test nx columns row column)

-- a row has at most as many needed cells as columns
pub needed_in_row-few : (test : ℕ → Bool) (nx : ℕ) (columns : Block) (row : ℕ) → length (needed_in_row test nx columns row) ≤ columns.length
unfolding needed_in_row
needed_in_row-few test nx columns row =
    let xs = range_with_len (cell_in nx row columns.start) columns.length in
    omega (arith, length-filter-le test xs, length-range_with_len (cell_in nx row columns.start) columns.length)

-- cells in so many rows are as many times as long
in_rows-length : (nx : ℕ) (cells : List ℕ) (n : ℕ) → length (in_rows nx cells n) ≡ length cells * n
unfolding in_rows
in_rows-length nx cells n =
    length-rows (λ j. map (λ s. s + j * nx) cells) (length cells) 0 n (λ j. length-map cells (λ s. s + j * nx))

-- rows that begin further are those further
rows-further : (nx : ℕ) (cells : List ℕ) (a n : ℕ) → flat_map (λ j. map (λ s. s + j * nx) cells) (range_with_len (a + 1) n) ≡ map (λ s. s + nx) (flat_map (λ j. map (λ s. s + j * nx) cells) (range_with_len a n))
rows-further nx cells a zero = refl
rows-further nx cells a (suc n) =
    let f : ℕ → List ℕ = λ j. map (λ s. s + j * nx) cells in
    let step : (s : ℕ) → s + (a + 1) * nx ≡ s + a * nx + nx = λ s. omega arith in
    let first : f (a + 1) ≡ map (λ s. s + nx) (f a) = (λ i. map (λ s. step s i) cells) ∙ sym (map-map (λ s. s + nx) (λ s. s + a * nx) cells) in
    ap (λ xs. xs ++ flat_map f (range_with_len (a + 1 + 1) n)) first
    ∙ ap (λ xs. map (λ s. s + nx) (f a) ++ xs) (rows-further nx cells (a + 1) n)
    ∙ sym (map-append (λ s. s + nx) (f a) (flat_map f (range_with_len (a + 1) n)))

-- a row, and the rows below it
in_rows-first : (nx : ℕ) (cells : List ℕ) (n : ℕ) → in_rows nx cells (n + 1) ≡ cells ++ map (λ s. s + nx) (in_rows nx cells n)
unfolding in_rows
in_rows-first nx cells n =
    let f : ℕ → List ℕ = λ j. map (λ s. s + j * nx) cells in
    let more : n + 1 ≡ suc n = omega arith in
    let here : (s : ℕ) → s + 0 * nx ≡ s = λ s. omega arith in
    ap (λ k. flat_map f (range_with_len 0 k)) more
    ∙ ap (λ xs. xs ++ flat_map f (range_with_len (0 + 1) n)) ((λ i. map (λ s. here s i) cells) ∙ map-id cells)
    ∙ ap (λ xs. cells ++ xs) (rows-further nx cells 0 n)

-- the rows but the last, and the last
in_rows-last : (nx : ℕ) (cells : List ℕ) (n : ℕ) → in_rows nx cells (n + 1) ≡ in_rows nx cells n ++ map (λ s. s + n * nx) cells
unfolding in_rows
in_rows-last nx cells n =
    let f : ℕ → List ℕ = λ j. map (λ s. s + j * nx) cells in
    let more : n + 1 ≡ suc n = omega arith in
    ap (λ k. flat_map f (range_with_len 0 k)) more
    ∙ ap (flat_map f) (range-suc 0 n)
    ∙ flat_map-append f (range_with_len 0 n) ((0 + n) ∷ [])
    ∙ ap (λ xs. flat_map f (range_with_len 0 n) ++ xs) (append-nil (f (0 + n)) ∙ ap f (zero-add n))

-- each cell but those of the first row stands a row below an earlier one
pub in_rows-below : (nx : ℕ) (cells : List ℕ) (more k : ℕ) → k < length cells * more → get_or (in_rows nx cells (more + 1)) (length cells + k) 0 ≡ get_or (in_rows nx cells (more + 1)) k 0 + nx
in_rows-below nx cells more k inside =
    let upper = in_rows nx cells more in
    let long : length upper ≡ length cells * more = in_rows-length nx cells more in
    let within : k < length upper = omega arith in
    ap (λ xs. get_or xs (length cells + k) 0) (in_rows-first nx cells more)
    ∙ get_or-append-add cells (map (λ s. s + nx) upper) k 0
    ∙ get_or-map (λ s. s + nx) upper k 0 0 within
    ∙ ap (λ s. s + nx) (sym (ap (λ xs. get_or xs k 0) (in_rows-last nx cells more) ∙ get_or_append_left upper (map (λ s. s + more * nx) cells) 0 k within))

-- cells that stay small in further rows
in_rows-fit : (nx bound more : ℕ) (cells : List ℕ) → All (λ s. s + more * nx < bound) cells → (a n : ℕ) → a + n ≤ more + 1 → All (λ s. s < bound) (flat_map (λ j. map (λ s. s + j * nx) cells) (range_with_len a n))
in_rows-fit nx bound more cells fit a zero within = All-nil (λ s. s < bound)
in_rows-fit nx bound more cells fit a (suc n) within =
    let f : ℕ → List ℕ = λ j. map (λ s. s + j * nx) cells in
    let lower : a * nx ≤ more * nx = mul-le-mul_right nx (omega arith) in
    All-append (λ s. s < bound) (f a) (flat_map f (range_with_len (a + 1) n))
    (All-map (λ s. s < bound) (λ s. s + a * nx) cells (All-weaker (λ s. s + more * nx < bound) (λ s. s + a * nx < bound) (λ s small. omega arith) cells fit))
    (in_rows-fit nx bound more cells fit (a + 1) n (omega arith))

-- what a copied cell becomes, fits
pub in_rows-fits : (nx bound more : ℕ) (cells : List ℕ) (k : ℕ) → All (λ s. s + more * nx < bound) cells → k < length cells * (more + 1) → get_or (in_rows nx cells (more + 1)) k 0 < bound
unfolding in_rows
in_rows-fits nx bound more cells k fit inside =
    let long = in_rows-length nx cells (more + 1) in
    in_rows-fit nx bound more cells fit 0 (more + 1) (omega arith) k 0 (omega arith)

-- a product above a number has a first factor
pub pos-of_mul : (w n k : ℕ) → k < w * n → 0 < w
pos-of_mul zero n k inside = absurd (omega arith)
pos-of_mul (suc w) n k inside = omega arith

-- how long a copy is
pub copied-length : (nx from more k : ℕ) (before now : List ℕ) → from ≤ length before → HasCopied nx from more k before now → k ≤ (length before - from) * more → length now ≡ length before + k
copied-length nx from more k before now place copied within =
    let w = length before - from in
    let cells = drop from before in
    let wide : length cells ≡ w = length-drop from before in
    let all = in_rows-length nx cells (more + 1) in
    let rows : w * (more + 1) ≡ w + w * more = omega arith in
    let all_long : length (in_rows nx cells (more + 1)) ≡ w + w * more = all ∙ ap (λ n. n * (more + 1)) wide ∙ rows in
    let front = length-take-le from before place in
    let back = length-take-le (w + k) (in_rows nx cells (more + 1)) (omega arith) in
    let joined = ap length copied.cells ∙ length-append (take from before) (take (w + k) (in_rows nx cells (more + 1))) in
    omega arith

-- a copy begins
pub copied-none : (nx from more : ℕ) (before : List ℕ) → from ≤ length before → HasCopied nx from more 0 before before
copied-none nx from more before place =
    let cells = drop from before in
    let wide : length before - from + 0 ≡ length cells = omega (arith, length-drop from before) in
    record {
      cells = sym (
          ap (λ k. take from before ++ take k (in_rows nx cells (more + 1))) wide
          ∙ ap (λ xs. take from before ++ take (length cells) xs) (in_rows-first nx cells more)
          ∙ ap (λ xs. take from before ++ xs) (take-append_seam cells (map (λ s. s + nx) (in_rows nx cells more)))
          ∙ take-append-drop from before);
    }

-- what is read for a copy
copied-read : (nx from more k : ℕ) (before now : List ℕ) → from ≤ length before → HasCopied nx from more k before now → k < (length before - from) * more → get_or now (from + k) 0 ≡ get_or (in_rows nx (drop from before) (more + 1)) k 0
copied-read nx from more k before now place copied inside =
    let w = length before - from in
    let some : 0 < w = pos-of_mul w more k inside in
    let front = length-take-le from before place in
    ap (λ xs. get_or xs (from + k) 0) copied.cells
    ∙ ap (λ n. get_or (take from before ++ take (w + k) (in_rows nx (drop from before) (more + 1))) (n + k) 0) (sym front)
    ∙ get_or-append-add (take from before) (take (w + k) (in_rows nx (drop from before) (more + 1))) k 0
    ∙ get_or-take (w + k) (in_rows nx (drop from before) (more + 1)) k 0 (omega arith)

-- what is written for it
pub copied-value : (nx from more k : ℕ) (before now : List ℕ) → from ≤ length before → HasCopied nx from more k before now → k < (length before - from) * more → get_or now (from + k) 0 + nx ≡ get_or (in_rows nx (drop from before) (more + 1)) (length before - from + k) 0
copied-value nx from more k before now place copied inside =
    let cells = drop from before in
    let wide : length cells ≡ length before - from = length-drop from before in
    let within : k < length cells * more = rw wide inside in
    ap (λ s. s + nx) (copied-read nx from more k before now place copied inside)
    ∙ sym (in_rows-below nx cells more k within)
    ∙ ap (λ n. get_or (in_rows nx cells (more + 1)) (n + k) 0) wide

-- it fits
pub copied-fits : (nx from more k bound : ℕ) (before now : List ℕ) → from ≤ length before → HasCopied nx from more k before now → k < (length before - from) * more → All (λ s. s + more * nx < bound) (drop from before) → get_or now (from + k) 0 + nx < bound
copied-fits nx from more k bound before now place copied inside fit =
    let cells = drop from before in
    let w = length before - from in
    let wide : length cells ≡ w = length-drop from before in
    let rows : w * (more + 1) ≡ w + w * more = omega arith in
    let within : w + k < length cells * (more + 1) = rw (wide, rows) (omega arith) in
    rw (copied-value nx from more k before now place copied inside) (in_rows-fits nx bound more cells (w + k) fit within)

-- a copy is among those to be made
pub copy-inside : (k more len n from : ℕ) → len ≡ n → k < more * (len - from) → k < (n - from) * more
copy-inside k more len n from same inside = rw (← same, mul_comm (len - from) more) inside

-- how many copies there are
pub copies-turned : (more len n from : ℕ) → len ≡ n → more * (len - from) ≡ (n - from) * more
copies-turned more len n from same = ap (λ k. more * (k - from)) same ∙ mul_comm more (n - from)

-- one copy more
pub copied-more : (nx from more k x : ℕ) (before now after : List ℕ) → from ≤ length before → HasCopied nx from more k before now → k < (length before - from) * more → x ≡ get_or now (from + k) 0 → after ≡ now ++ (x + nx) ∷ [] → HasCopied nx from more (k + 1) before after
copied-more nx from more k x before now after place copied inside read write =
    let cells = drop from before in
    let w = length before - from in
    let full = in_rows nx cells (more + 1) in
    let wide : length cells ≡ w = length-drop from before in
    let rows : w * (more + 1) ≡ w + w * more = omega arith in
    let full_long : length full ≡ w + w * more = in_rows-length nx cells (more + 1) ∙ ap (λ n. n * (more + 1)) wide ∙ rows in
    let next : w + (k + 1) ≡ w + k + 1 = omega arith in
    let value = ap (λ s. s + nx) read ∙ copied-value nx from more k before now place copied inside in
    record {
      cells =
          write
          ∙ ap (λ xs. xs ++ (x + nx) ∷ []) copied.cells
          ∙ append_assoc (take from before) (take (w + k) full) ((x + nx) ∷ [])
          ∙ ap (λ s. take from before ++ (take (w + k) full ++ s ∷ [])) value
          ∙ ap (λ xs. take from before ++ xs) (sym (take_more full (w + k) 0 (omega arith)))
          ∙ ap (λ n. take from before ++ take n full) (sym next);
    }

-- all are copied
pub copied-all : (nx from more k : ℕ) (before now : List ℕ) → from ≤ length before → HasCopied nx from more k before now → k ≡ (length before - from) * more → now ≡ take from before ++ in_rows nx (drop from before) (more + 1)
copied-all nx from more k before now place copied all =
    let cells = drop from before in
    let w = length before - from in
    let full = in_rows nx cells (more + 1) in
    let wide : length cells ≡ w = length-drop from before in
    let rows : w * (more + 1) ≡ w + w * more = omega arith in
    let full_long : w + k ≡ length full = ap (λ n. w + n) all ∙ sym (in_rows-length nx cells (more + 1) ∙ ap (λ n. n * (more + 1)) wide ∙ rows) in
    copied.cells ∙ ap (λ n. take from before ++ take n full) full_long ∙ ap (λ xs. take from before ++ xs) (take_all (length full) full (omega arith))

-- rows have together at most as many needed cells as places
few-together : (f : ℕ → List ℕ) (w a n : ℕ) → ((j : ℕ) → length (f j) ≤ w) → length (flat_map f (range_with_len a n)) ≤ w * n
few-together f w a zero few = omega arith
few-together f w a (suc n) few =
    let rest = few-together f w (a + 1) n few in
    let here = few a in
    let more : w * suc n ≡ w + w * n = omega arith in
    omega (arith, length-append (f a) (flat_map f (range_with_len (a + 1) n)))

-- some rows of a part have few needed cells
pub needed_in_rows-few : (test : ℕ → Bool) (grid : Grid) (part : Part) (row n : ℕ) → IsGrid grid → IsPart grid part → n ≤ part.rows.length → length (needed_in_rows test grid.nx part.columns row n) ≤ 2 ^ 20
unfolding needed_in_rows
needed_in_rows-few test grid part row n is_grid is_part rows =
    let together = few-together (needed_in_row test grid.nx part.columns) part.columns.length row n (needed_in_row-few test grid.nx part.columns) in
    let columns = is_part.columns in
    let within = is_part.rows in
    let cells = is_grid.cells in
    let wide : part.columns.length ≤ grid.nx = omega arith in
    let high : n ≤ grid.ny = omega arith in
    let all = mul-le part.columns.length n grid.nx grid.ny wide high in
    omega arith

-- no row is passed yet
rows-none : (test : ℕ → Bool) (nx : ℕ) (columns rows : Block) → needed_in_rows test nx columns rows.start (rows.start - rows.start) ≡ []
unfolding needed_in_rows
rows-none test nx columns rows =
    let none : rows.start - rows.start ≡ 0 = omega arith in
    ap (λ k. flat_map (needed_in_row test nx columns) (range_with_len rows.start k)) none

-- rows that are alike, behind those that are passed
rows-more : (test : ℕ → Bool) (nx : ℕ) (columns : Block) (y row next : ℕ) → y ≤ row → row ≤ next → needed_in_rows test nx columns y (next - y) ≡ needed_in_rows test nx columns y (row - y) ++ needed_in_rows test nx columns row (next - row)
rows-more test nx columns y row next started further =
    let all : next - y ≡ row - y + (next - row) = omega arith in
    let at : y + (row - y) ≡ row = omega arith in
    ap (needed_in_rows test nx columns y) all
    ∙ needed_in_rows-append test nx columns y (row - y) (next - row)
    ∙ ap (λ k. needed_in_rows test nx columns y (row - y) ++ needed_in_rows test nx columns k (next - row)) at

-- a walk down the rows begins
pub down-none : (test : ℕ → Bool) (nx : ℕ) (columns rows : Block) (before : List ℕ) → IsDown test nx columns rows rows.start before before
down-none test nx columns rows before = record {
  passing = record { started = omega arith; within = omega arith };
  cells = sym (ap (λ xs. before ++ xs) (rows-none test nx columns rows) ∙ append-nil before);
}

-- it goes on
pub down-more : (test : ℕ → Bool) (nx : ℕ) (columns rows : Block) (row limit next : ℕ) (before now after : List ℕ) → IsDown test nx columns rows row before now → limit ≡ rows.start + rows.length → AreAlike test nx row limit next → after ≡ now ++ needed_in_rows test nx columns row (next - row) → IsDown test nx columns rows next before after
down-more test nx columns rows row limit next before now after down is_limit alike more =
    let started = down.passing.started in
    let some = alike.some in
    let within = alike.within in
    let so_far = needed_in_rows test nx columns rows.start (row - rows.start) in
    let added = needed_in_rows test nx columns row (next - row) in
    record {
      passing = record { started = omega arith; within = omega arith };
      cells =
          more
          ∙ ap (λ xs. xs ++ added) down.cells
          ∙ append_assoc before so_far added
          ∙ ap (λ xs. before ++ xs) (sym (rows-more test nx columns rows.start row next started (omega arith)));
    }

-- it is done
pub down-all : (test : ℕ → Bool) (grid : Grid) (nx : ℕ) (part : Part) (row limit : ℕ) (before now : List ℕ) → nx ≡ grid.nx → IsDown test nx part.columns part.rows row before now → limit ≡ part.rows.start + part.rows.length → limit ≤ row → now ≡ before ++ filter test (cells_of_part grid part)
down-all test grid nx part row limit before now same down is_limit end =
    let within = down.passing.within in
    let all : row - part.rows.start ≡ part.rows.length = omega arith in
    down.cells
    ∙ ap (λ k. before ++ needed_in_rows test nx part.columns part.rows.start k) all
    ∙ ap (λ k. before ++ needed_in_rows test k part.columns part.rows.start part.rows.length) same
    ∙ ap (λ xs. before ++ xs) (sym (needed-part test grid part))

-- a count of rows begins
pub rows_counted-none : (test : ℕ → Bool) (nx : ℕ) (columns rows : Block) → HasCountedRows test nx columns rows rows.start 0
rows_counted-none test nx columns rows = record {
  passing = record { started = omega arith; within = omega arith };
  count = sym (ap length (rows-none test nx columns rows));
}

-- how long rows that are alike are together
alike-length : (test : ℕ → Bool) (nx : ℕ) (columns : Block) (row n : ℕ) → columns.start + columns.length ≤ nx → AreRowsAlike test nx row (row + n) → n * length (needed_in_row test nx columns row) ≡ length (needed_in_rows test nx columns row n)
alike-length test nx columns row n within alike =
    let long = ap length (needed_in_rows-alike test nx columns row n within alike) ∙ in_rows-length nx (needed_in_row test nx columns row) n in
    omega arith

-- it goes on
pub rows_counted-more : (test : ℕ → Bool) (nx : ℕ) (columns rows : Block) (row limit next total one after : ℕ) → HasCountedRows test nx columns rows row total → columns.start + columns.length ≤ nx → limit ≡ rows.start + rows.length → AreAlike test nx row limit next → one ≡ length (needed_in_row test nx columns row) → after ≡ total + (next - row) * one → HasCountedRows test nx columns rows next after
rows_counted-more test nx columns rows row limit next total one after counted wide is_limit alike is_one more =
    let started = counted.passing.started in
    let some = alike.some in
    let within = alike.within in
    let so_far = needed_in_rows test nx columns rows.start (row - rows.start) in
    let added = needed_in_rows test nx columns row (next - row) in
    let reached : next ≡ row + (next - row) = omega arith in
    let rows_alike : AreRowsAlike test nx row (row + (next - row)) = subst (λ k. AreRowsAlike test nx row k) reached alike.alike in
    let added_long = alike-length test nx columns row (next - row) wide rows_alike in
    let joined = ap length (rows-more test nx columns rows.start row next started (omega arith)) ∙ length-append so_far added in
    record {
      passing = record { started = omega arith; within = omega arith };
      count =
          more
          ∙ ap (λ k. total + (next - row) * k) is_one
          ∙ ap (λ k. total + k) added_long
          ∙ ap (λ k. k + length added) counted.count
          ∙ sym joined;
    }

-- it is done
pub rows_counted-all : (test : ℕ → Bool) (grid : Grid) (nx : ℕ) (part : Part) (row limit total : ℕ) → nx ≡ grid.nx → HasCountedRows test nx part.columns part.rows row total → limit ≡ part.rows.start + part.rows.length → limit ≤ row → total ≡ length (filter test (cells_of_part grid part))
rows_counted-all test grid nx part row limit total same counted is_limit end =
    let within = counted.passing.within in
    let all : row - part.rows.start ≡ part.rows.length = omega arith in
    counted.count
    ∙ ap (λ k. length (needed_in_rows test nx part.columns part.rows.start k)) all
    ∙ ap (λ k. length (needed_in_rows test k part.columns part.rows.start part.rows.length)) same
    ∙ ap length (sym (needed-part test grid part))

-- a count of rows is small
pub rows_counted-few : (test : ℕ → Bool) (grid : Grid) (nx : ℕ) (part : Part) (row total : ℕ) → nx ≡ grid.nx → IsGrid grid → IsPart grid part → HasCountedRows test nx part.columns part.rows row total → total ≤ 2 ^ 20
rows_counted-few test grid nx part row total same is_grid is_part counted =
    let within = counted.passing.within in
    let few = needed_in_rows-few test grid part part.rows.start (row - part.rows.start) is_grid is_part (omega arith) in
    let same_rows = ap (λ k. length (needed_in_rows test k part.columns part.rows.start (row - part.rows.start))) same in
    let count = counted.count in
    omega arith

-- rows, taken apart
rows_split : (row rows nx : ℕ) → 1 ≤ rows → (row + rows) * nx ≡ row * nx + nx + (rows - 1) * nx
rows_split row zero nx some = absurd (omega arith)
rows_split row (suc rows) nx some =
    let same : suc rows - 1 ≡ rows = omega arith in
    rw same (omega arith)

-- what a filter keeps stays small in further rows
pub row-fits : (test : ℕ → Bool) (grid : Grid) (columns : Block) (row rows : ℕ) → IsGrid grid → columns.start + columns.length ≤ grid.nx → 1 ≤ rows → row + rows ≤ grid.ny → All (λ s. s + (rows - 1) * grid.nx < 2 ^ 32) (needed_in_row test grid.nx columns row)
unfolding needed_in_row
row-fits test grid columns row rows is_grid within some below =
    let P : ℕ → Type 0 = λ s. s + (rows - 1) * grid.nx < 2 ^ 32 in
    let cells = is_grid.cells in
    let lower : (row + rows) * grid.nx ≤ grid.ny * grid.nx = mul-le-mul_right grid.nx below in
    let split : (row + rows) * grid.nx ≡ row * grid.nx + grid.nx + (rows - 1) * grid.nx = rows_split row rows grid.nx some in
    let turned : grid.ny * grid.nx ≡ grid.nx * grid.ny = mul_comm grid.ny grid.nx in
    All-filter test P (range_with_len (cell_in grid.nx row columns.start) columns.length)
    (All-range P (cell_in grid.nx row columns.start) columns.length (λ s from to. omega arith))

-- what is appended to numbers, and where it begins
pub appended : (n : ℕ) (before now added : List ℕ) → n ≡ length before → now ≡ before ++ added → (take n now ≡ before) × (drop n now ≡ added)
appended n before now added is more = (
  ap (λ k. take k now) is ∙ ap (take (length before)) more ∙ take-append_seam before added,
  ap (λ k. drop k now) is ∙ ap (drop (length before)) more ∙ drop-append_seam before added,
)

-- a row, copied down the rows that are like it
pub alike-copied : (test : ℕ → Bool) (nx : ℕ) (columns : Block) (row rows n : ℕ) (before now after : List ℕ) → n ≡ length before → columns.start + columns.length ≤ nx → 1 ≤ rows → AreRowsAlike test nx row (row + rows) → now ≡ before ++ needed_in_row test nx columns row → after ≡ take n now ++ in_rows nx (drop n now) (rows - 1 + 1) → after ≡ before ++ needed_in_rows test nx columns row rows
alike-copied test nx columns row rows n before now after is within some alike first copied =
    let parts = appended n before now (needed_in_row test nx columns row) is first in
    let all : rows - 1 + 1 ≡ rows = omega arith in
    copied
    ∙ ap (λ xs. xs ++ in_rows nx (drop n now) (rows - 1 + 1)) parts.0
    ∙ ap (λ xs. before ++ in_rows nx xs (rows - 1 + 1)) parts.1
    ∙ ap (λ k. before ++ in_rows nx (needed_in_row test nx columns row) k) all
    ∙ ap (λ xs. before ++ xs) (sym (needed_in_rows-alike test nx columns row rows within alike))
