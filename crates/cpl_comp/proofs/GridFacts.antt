-- What holds of a grid, its blocks and a substep that were read, and of the PETs of a component.
use Rattle.std.proofs.Common.{◌≡◌, ℕ, ℤ, pos, ◌+◌, ◌*◌, ◌^◌, ◌<◌, ◌≤◌, ◌==◌, Bool, true, false, ◌&&◌, nat_le, List, [], ◌∷◌, codes, Option, Some, None, IfSome, option_map, IfOk, refl, arith}
use Rattle.std.specs.Option.{ForSome, ok_or}
use Rattle.std.specs.Str.{bytes_eq}
use Rattle.std.proofs.lemmas.Bool.{and_parts, eqb-true, leb-true}
use Rattle.std.proofs.lemmas.Int.{ints}
use Rattle.cpl_base.specs.Numerals.{number_between, number_in_range, number_word}
use Rattle.cpl_config.specs.declared.entry.Entry.{Entry}
use Rattle.cpl_config.specs.declared.row.Row.{Row}
use Rattle.cpl_grid.specs.Grid.{IsGrid, cells_in}
use Rattle.cpl_grid.specs.Owners.{IsLayout, Layout, pets_in}
use Rattle.cpl_grid.specs.declared.grid.Grid.{Grid}
use Rattle.cpl_comp.specs.Components.{IsSubstep}
use Rattle.cpl_comp.specs.Grids.{block_words, blocks_in, count_pair, few_cells, greatest_number, grid_in, grid_of, grid_words, layout_of, ring_grid, substep_in, substep_of, substep_words}
use Rattle.cpl_comp.specs.Labels.{own_values}
use Rattle.cpl_comp.specs.Pets.{AreBounds, first_pet_in, pet_count_in}
use Rattle.cpl_comp.specs.Realised.{layout_in}
use Rattle.cpl_comp.specs.declared.component.Kind.{Kind}
use Rattle.cpl_comp.specs.declared.component.Kind.TheVariants.{Model, Mediator}
use Rattle.cpl_comp.specs.declared.fault.CompFault.TheVariants.{BadValue, BlocksMismatch, TooManyCells}
use Rattle.cpl_comp.proofs.ResultFacts.{bind-IfSome, bind-fact, bind-some_fact, if-IfSome, map-some_fact, none-ForSome, ok_or-IfOk, some-ForSome, test-IfOk}

-- ---- numbers

-- A number from the least to the most.
record IsWithin (least most n : ℕ) : Type 0 where
  least_is : least ≤ n
  most_is : n ≤ most

-- a number that passed the test
number_in_range-is : (least most n : ℕ) → IfSome (number_in_range least most n) (IsWithin least most)
number_in_range-is least most n =
    if-IfSome (IsWithin least most) (nat_le least n && nat_le n most) (Some n) None
    (λ is. let parts = and_parts (nat_le least n) (nat_le n most) is in record { least_is = leb-true least n parts.0; most_is = leb-true n most parts.1 }) (λ is. tt)

-- a number word between two bounds
number_between-within : (least most : ℕ) (word : List ℕ) → IfSome (number_between least most word) (IsWithin least most)
number_between-within least most word =
    bind-IfSome (IsWithin least most) (number_word word) (number_in_range least most) (λ n _. number_in_range-is least most n)

-- Two numbers from 1 to a most.
record ArePair (most : ℕ) (pair : ℕ × ℕ) : Type 0 where
  first : IsWithin 1 most pair.0
  second : IsWithin 1 most pair.1

-- two number words
count_pair-are : (most : ℕ) (first second : List ℕ) → IfSome (count_pair most first second) (ArePair most)
count_pair-are most first second =
    bind-some_fact (ArePair most) (IsWithin 1 most) (number_between 1 most first) _ (number_between-within 1 most first) (λ m here.
    map-some_fact (ArePair most) (IsWithin 1 most) (number_between 1 most second) _ (number_between-within 1 most second) (λ n there.
    record { first = here; second = there }))

-- ---- grids

-- A grid with a column and a row.
record HasCell (grid : Grid) : Type 0 where
  columns : 1 ≤ grid.nx
  rows : 1 ≤ grid.ny

-- so many columns and rows
grid_of-cell : (most : ℕ) (periodic : Bool) (counts : Option (ℕ × ℕ)) → IfSome counts (ArePair most) → IfSome (option_map (grid_of periodic) counts) HasCell
grid_of-cell most periodic counts are =
    map-some_fact HasCell (ArePair most) counts (grid_of periodic) are (λ pair is. record { columns = is.first.least_is; rows = is.second.least_is })

-- with a ring of columns
ring_grid-cell : (ring : Bool) (columns rows : List ℕ) → IfSome (ring_grid ring columns rows) HasCell
ring_grid-cell false columns rows = tt
ring_grid-cell true columns rows = grid_of-cell greatest_number true (count_pair greatest_number columns rows) (count_pair-are greatest_number columns rows)

-- the words of a grid
grid_words-cell : (words : List (List ℕ)) → IfSome (grid_words words) HasCell
grid_words-cell [] = tt
grid_words-cell (columns ∷ []) = tt
grid_words-cell (columns ∷ rows ∷ []) = grid_of-cell greatest_number false (count_pair greatest_number columns rows) (count_pair-are greatest_number columns rows)
grid_words-cell (columns ∷ rows ∷ ring ∷ []) = ring_grid-cell (bytes_eq ring (codes "periodic")) columns rows
grid_words-cell (columns ∷ rows ∷ ring ∷ word ∷ words) = tt

-- a grid of few cells
few_cells-is : (grid : Grid) → HasCell grid → IfSome (few_cells grid) IsGrid
few_cells-is grid cell =
    if-IfSome IsGrid (nat_le (cells_in grid) (2 ^ 20)) (Some grid) None
    (λ few. record { columns = cell.columns; rows = cell.rows; cells = leb-true (cells_in grid) (2 ^ 20) few }) (λ few. tt)

-- the grid of a component
grid_in-is : (row : Option Row) → IfOk (grid_in row) IsGrid
grid_in-is None = tt
grid_in-is (Some row) =
    bind-fact IsGrid HasCell (ok_or (grid_words row.words) (BadValue row.line)) _ (ok_or-IfOk HasCell (grid_words row.words) (BadValue row.line) (grid_words-cell row.words)) (λ grid cell.
    ok_or-IfOk IsGrid (few_cells grid) (TooManyCells row.line) (few_cells-is grid cell))

-- ---- blocks

-- Some blocks of columns and some of rows.
record AreBlocks (blocks : ℕ × ℕ) : Type 0 where
  columns : 1 ≤ blocks.0
  rows : 1 ≤ blocks.1

-- two numbers of blocks from 1 on
pair-blocks : (most : ℕ) (pair : Option (ℕ × ℕ)) → IfSome pair (ArePair most) → IfSome pair AreBlocks
pair-blocks most (Some pair) are = record { columns = are.first.least_is; rows = are.second.least_is }
pair-blocks most None are = tt

-- the words of the numbers of blocks
block_words-are : (words : List (List ℕ)) → IfSome (block_words words) AreBlocks
block_words-are [] = tt
block_words-are (columns ∷ []) = tt
block_words-are (columns ∷ rows ∷ []) = pair-blocks (2 ^ 20) (count_pair (2 ^ 20) columns rows) (count_pair-are (2 ^ 20) columns rows)
block_words-are (columns ∷ rows ∷ word ∷ words) = tt

-- the blocks of a component that has a PET
blocks_in-are : (pets : ℕ) (row : Option Row) → 1 ≤ pets → IfOk (blocks_in pets row) AreBlocks
blocks_in-are pets None some = record { columns = some; rows = omega arith }
blocks_in-are pets (Some row) some = ok_or-IfOk AreBlocks (block_words row.words) (BadValue row.line) (block_words-are row.words)

-- ---- the decomposed grid

-- The decomposed grid of a component whose PETs are so many from the first on.
pub record IsLayoutOf (first_pet pets : ℕ) (layout : Layout) : Type 0 where
  pub is : IsLayout layout
  pub first : layout.first_pet ≡ first_pet
  pub count : pets_in layout ≡ pets

-- a grid that is cut into as many blocks as there are PETs
layout_of-is : (grid : Grid) (first_pet pets : ℕ) (blocks : ℕ × ℕ) → IsGrid grid → AreBlocks blocks → first_pet + pets ≤ 64 → IfOk (layout_of grid first_pet pets blocks) (IsLayoutOf first_pet pets)
layout_of-is grid first_pet pets blocks is are few =
    test-IfOk (IsLayoutOf first_pet pets) (blocks.0 * blocks.1 == pets) (BlocksMismatch (blocks.0 * blocks.1) pets) _ (λ same.
    let count = eqb-true (blocks.0 * blocks.1) pets same in
    record {
      is = record { grid = is; columns = are.columns; rows = are.rows; pets = omega arith };
      first = refl;
      count = count;
    })

-- the decomposed grid of a component
pub layout_in-is : (entries : List Entry) (component : List ℕ) (first_pet pets : ℕ) → 1 ≤ pets → first_pet + pets ≤ 64 → IfOk (layout_in entries component first_pet pets) (IsLayoutOf first_pet pets)
layout_in-is entries component first_pet pets some few =
    let first_pet = first_pet in
    let count = pets in
    bind-fact (IsLayoutOf first_pet count) IsGrid (grid_in (own_values entries component (codes "_grid"))) _ (grid_in-is (own_values entries component (codes "_grid"))) (λ grid is.
    bind-fact (IsLayoutOf first_pet count) AreBlocks (blocks_in count (own_values entries component (codes "_decomp"))) _ (blocks_in-are count (own_values entries component (codes "_decomp")) some) (λ blocks are.
    layout_of-is grid first_pet count blocks is are few))

-- ---- PETs

-- The PETs of a component among so many.
pub record ArePets (bounds : Option (ℕ × ℕ)) (pets : ℕ) : Type 0 where
  pub some : 1 ≤ pet_count_in bounds pets
  pub among : first_pet_in bounds + pet_count_in bounds pets ≤ pets

-- those between bounds below their number, or all
pub pets-are : (bounds : Option (ℕ × ℕ)) (pets : ℕ) → 1 ≤ pets → ForSome bounds AreBounds → ForSome bounds (λ b. b.1 < pets) → ArePets bounds pets
pets-are None pets some are above = record { some = some; among = omega arith }
pets-are (Some bounds) pets some are above =
    let ordered = (are bounds refl).ordered in
    let below : bounds.1 < pets = above bounds refl in
    record { some = omega arith; among = omega arith }

-- ---- substeps

-- A substep as a component of this kind may have one.
pub record IsSubstepOf (kind : Kind) (substep : Option ℤ) : Type 0 where
  pub within : ForSome substep IsSubstep
  pub mediator : kind ≡ Mediator → substep ≡ None

-- none
substep-none : (kind : Kind) → IsSubstepOf kind None
substep-none kind = record { within = none-ForSome IsSubstep; mediator = λ is. refl }

-- a model's is the number, and a mediator has none
substep_of-is : (kind : Kind) (seconds : ℕ) → IsWithin 1 1000000000 seconds → IsSubstepOf kind (substep_of kind seconds)
substep_of-is Model seconds is =
    let least = is.least_is in
    let most = is.most_is in
    record {
      within = some-ForSome IsSubstep (pos seconds) (record { least = omega (arith, ints); most = omega (arith, ints) });
      mediator = λ kind. absurd (cc);
    }
substep_of-is Mediator seconds is = substep-none Mediator

-- the words of a substep
substep_words-within : (words : List (List ℕ)) → IfSome (substep_words words) (IsWithin 1 1000000000)
substep_words-within [] = tt
substep_words-within (word ∷ []) = number_between-within 1 1000000000 word
substep_words-within (word ∷ other ∷ words) = tt

-- the substep of a component
pub substep_in-is : (kind : Kind) (row : Option Row) → IfOk (substep_in kind row) (IsSubstepOf kind)
substep_in-is kind None = substep-none kind
substep_in-is kind (Some row) =
    bind-fact (IsSubstepOf kind) (IsWithin 1 1000000000) (ok_or (substep_words row.words) (BadValue row.line)) _ (ok_or-IfOk (IsWithin 1 1000000000) (substep_words row.words) (BadValue row.line) (substep_words-within row.words)) (λ seconds is.
    substep_of-is kind seconds is)
