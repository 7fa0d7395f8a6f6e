-- The grid of a component, how it is cut into blocks, and its substep.
use Rattle.std.specs.Prelude.{ℕ, ℤ, pos, ◌*◌, ◌^◌, Bool, true, false, ◌==◌, if◌then◌else◌, nat_le, List, [], ◌∷◌, codes, Option, Some, None, option_and_then, option_map, Result, Ok, Err}
use Rattle.std.specs.Option.{ok_or}
use Rattle.std.specs.Str.{bytes_eq}
use Rattle.cpl_base.specs.Numerals.{number_between}
use Rattle.cpl_base.specs.ResultChain.{◌>>=◌, ok_if}
use Rattle.cpl_config.specs.declared.row.Row.{Row}
use Rattle.cpl_grid.specs.Grid.{cells_in}
use Rattle.cpl_grid.specs.Owners.{Layout}
use Rattle.cpl_grid.specs.declared.grid.Grid.{Grid}
use Rattle.cpl_comp.specs.declared.component.Kind.{Kind}
use Rattle.cpl_comp.specs.declared.component.Kind.TheVariants.{Model, Mediator}
use Rattle.cpl_comp.specs.declared.fault.CompFault.{CompFault}
use Rattle.cpl_comp.specs.declared.fault.CompFault.TheVariants.{BadValue, NoGrid, TooManyCells, BlocksMismatch}

-- two numbers from 1 to a most
abbrev pub count_pair : ℕ → List ℕ → List ℕ → Option (ℕ × ℕ)
count_pair most first second =
    option_and_then (λ m. option_map (λ n. (m, n)) (number_between 1 most second)) (number_between 1 most first)

-- a number word of eighteen digits is at most so great
abbrev pub greatest_number : ℕ
greatest_number = 10 ^ 18

-- a grid of so many columns and rows
abbrev pub grid_of : Bool → ℕ × ℕ → Grid
grid_of periodic counts = record { nx = counts.0; ny = counts.1; periodic = periodic }

-- a grid whose columns are a ring, where the word says so
abbrev pub ring_grid : Bool → List ℕ → List ℕ → Option Grid
ring_grid false columns rows = None
ring_grid true columns rows = option_map (grid_of true) (count_pair greatest_number columns rows)

-- the columns, the rows, and whether the columns are a ring: `nx ny` or `nx ny periodic`
abbrev pub grid_words : List (List ℕ) → Option Grid
grid_words (columns ∷ rows ∷ []) = option_map (grid_of false) (count_pair greatest_number columns rows)
grid_words (columns ∷ rows ∷ ring ∷ []) = ring_grid (bytes_eq ring (codes "periodic")) columns rows
grid_words words = None

-- a grid, if it doesn't have too many cells
abbrev pub few_cells : Grid → Option Grid
few_cells grid = if nat_le (cells_in grid) (2 ^ 20) then Some grid else None

-- the grid of a component, of at most 2^20 cells
abbrev pub grid_in : Option Row → Result Grid CompFault
grid_in None = Err NoGrid
grid_in (Some row) =
    ok_or (grid_words row.words) (BadValue row.line) >>= (λ grid.
    ok_or (few_cells grid) (TooManyCells row.line))

-- two numbers of blocks
abbrev pub block_words : List (List ℕ) → Option (ℕ × ℕ)
block_words (columns ∷ rows ∷ []) = count_pair (2 ^ 20) columns rows
block_words words = None

-- how many blocks of columns and of rows a component's grid is cut into: one of columns for each of its PETs, where
-- they aren't given
abbrev pub blocks_in : ℕ → Option Row → Result (ℕ × ℕ) CompFault
blocks_in pets None = Ok (pets, 1)
blocks_in pets (Some row) = ok_or (block_words row.words) (BadValue row.line)

-- the decomposition of a grid into blocks, one for each PET from the first on
abbrev pub layout_of : Grid → ℕ → ℕ → ℕ × ℕ → Result Layout CompFault
layout_of grid first_pet pets blocks =
    ok_if (blocks.0 * blocks.1 == pets) (BlocksMismatch (blocks.0 * blocks.1) pets) >>= (λ _.
    Ok (record { grid = grid; px = blocks.0; py = blocks.1; first_pet = first_pet }))

-- the seconds that one operation of a run leads on, where a step has several; a mediator's step has one
abbrev pub substep_of : Kind → ℕ → Option ℤ
substep_of Model seconds = Some (pos seconds)
substep_of Mediator seconds = None

-- the one number of seconds
abbrev pub substep_words : List (List ℕ) → Option ℕ
substep_words (word ∷ []) = number_between 1 1000000000 word
substep_words words = None

-- the substep of a component
abbrev pub substep_in : Kind → Option Row → Result (Option ℤ) CompFault
substep_in kind None = Ok None
substep_in kind (Some row) =
    ok_or (substep_words row.words) (BadValue row.line) >>= (λ seconds.
    Ok (substep_of kind seconds))
