-- The places that lie at an offset from those of a block, and what a PET needs for its halo, by rows and columns. The steps of the code,
-- not needed to read what the calls promise.
use Rattle.std.specs.Prelude.{◌≡◌, ℕ, ◌+◌, ◌-◌, ◌*◌, ◌%◌, ◌≤◌, ◌<◌, ◌^◌, ◌==◌, ◌&&◌, ◌||◌, ℤ, pos, ◌+ℤ◌, unsigned_abs, min, Bool, true, List, slice_index_or}
use Rattle.std.specs.List.{All, list_any, range_with_len}
use Rattle.cpl_grid.specs.Grid.{IsNumbering, IsOffset, column_at, row_at}
use Rattle.cpl_grid.specs.Owners.{IsLayout, IsPartOf}
use Rattle.cpl_grid.specs.declared.blocks.Block.{Block}
use Rattle.cpl_grid.specs.declared.grid.Grid.{Grid}
use Rattle.cpl_route.specs.Places.{is_held}
use Rattle.cpl_route.specs.Routes.{AreOffsets}
use Rattle.cpl_route.specs.declared.halo_pair.HaloPair.{HaloPair}
use Rattle.cpl_route.specs.declared.reach.Reach.{Reach}
use Rattle.cpl_route.specs.declared.reach.Reaches.{Reaches}

-- a place lies at an offset from one of a block: `number_at` brings numbers to those from 1, places are from 0
unfoldable pub reaches_place : (ℤ → ℕ) → Block → ℤ → ℕ → Bool
reaches_place number_at block offset place =
    list_any (λ a. number_at (pos (a + 1) +ℤ offset) == place + 1) (range_with_len block.start block.length)

-- a column lies at an offset from one of a block of columns
abbrev pub reaches_column : Grid → Block → ℤ → ℕ → Bool
reaches_column grid block dx column = reaches_place (column_at grid) block dx column

-- a row lies at an offset from one of a block of rows
abbrev pub reaches_row : Grid → Block → ℤ → ℕ → Bool
reaches_row grid block dy row = reaches_place (row_at grid) block dy row

-- an offset, counted from -2
abbrev pub steps_from_least : ℤ → ℕ
steps_from_least offset = unsigned_abs (offset +ℤ pos 2)

-- the place among n, brought to the edges, that lies so many steps less two from a place
abbrev pub edge_place : ℕ → ℕ → ℕ → ℕ
edge_place n steps a = min (n - 1) (a + steps - 2)

-- the place on a ring of n that lies so many steps less two from a place
abbrev pub ring_place : ℕ → ℕ → ℕ → ℕ
ring_place n steps a = (a + steps + 2 * n - 2) % n

-- a reach has a place
abbrev pub is_reached : Reach → ℕ → Bool
is_reached reach place = is_held reach.first place || is_held reach.wrapped place

-- both stretches of a reach lie below n
pub record IsReachIn (n : ℕ) (reach : Reach) : Type 0 where
  pub first : reach.first.start + reach.first.length ≤ n
  pub wrapped : reach.wrapped.start + reach.wrapped.length ≤ n

-- a reach has just what the places of a block come to
pub record IsImage (place_at : ℕ → ℕ) (block : Block) (reach : Reach) : Type 0 where
  pub has : (a : ℕ) → block.start ≤ a → a < block.start + block.length → is_reached reach (place_at a) ≡ true
  pub only : (i : ℕ) → is_reached reach i ≡ true → (a : ℕ) × (block.start ≤ a) × (a < block.start + block.length) × (place_at a ≡ i)

-- a test gives the same at all places from one on, up to an end that isn't past a limit
pub record IsSteady (test : ℕ → Bool) (place limit end : ℕ) : Type 0 where
  pub some : place < end
  pub within : end ≤ limit
  pub same : (i : ℕ) → place ≤ i → i < end → test i ≡ test place

-- every reach gives the same at all places from one on, up to an end that isn't past a limit
pub record AreSteady (reaches : List Reach) (place limit end : ℕ) : Type 0 where
  pub some : place < end
  pub within : end ≤ limit
  pub same : All (λ reach. (i : ℕ) → place ≤ i → i < end → is_reached reach i ≡ is_reached reach place) reaches

-- a block has all places of a reach
pub record IsWithin (block : Block) (reach : Reach) : Type 0 where
  pub held : (i : ℕ) → is_reached reach i ≡ true → is_held block i ≡ true

-- the reach that has no place
abbrev pub nowhere : Reach
nowhere = record { first = record { start = 0; length = 0 }; wrapped = record { start = 0; length = 0 } }

-- the reach for an offset, of those for the offsets from -2 to 2
abbrev pub reach_for : Reaches → ℤ → Reach
reach_for reaches offset = slice_index_or reaches.each (steps_from_least offset) nowhere

-- one of the offsets has this one along the columns
unfoldable pub is_used_across : List (ℤ × ℤ) → ℤ → Bool
is_used_across offsets dx = list_any (λ offset. steps_from_least offset.0 == steps_from_least dx) offsets

-- one of the offsets has this one along the rows
unfoldable pub is_used_down : List (ℤ × ℤ) → ℤ → Bool
is_used_down offsets dy = list_any (λ offset. steps_from_least offset.1 == steps_from_least dy) offsets

-- for each offset that is used the places that lie there from a block, and a block that has them all
pub record AreReaches (number_at : ℤ → ℕ) (is_used : ℤ → Bool) (block : Block) (reaches : Reaches) : Type 0 where
  pub small : All (IsReachIn (2 ^ 20)) reaches.each
  pub places : (offset : ℤ) → IsOffset offset → is_used offset ≡ true → (i : ℕ) → is_reached (reach_for reaches offset) i ≡ reaches_place number_at block offset i
  pub hull_small : reaches.hull.start + reaches.hull.length ≤ 2 ^ 20
  pub hull : (offset : ℤ) → IsOffset offset → (i : ℕ) → is_reached (reach_for reaches offset) i ≡ true → is_held reaches.hull i ≡ true

-- at one of the offsets both the column and the row are reached
abbrev pub is_met : Reaches → Reaches → List (ℤ × ℤ) → ℕ → ℕ → Bool
is_met columns rows offsets row column =
    list_any (λ offset. is_reached (reach_for columns offset.0) column && is_reached (reach_for rows offset.1) row) offsets

-- what a halo's pair keeps is of its layout, offsets and PET
pub record IsSound (pair : HaloPair) : Type 0 where
  pub layout : IsLayout pair.decomp.now
  pub numbering : IsNumbering pair.decomp.now.grid
  pub part : IsPartOf pair.decomp.now pair.pet pair.part
  pub offsets : AreOffsets pair.offsets.now
  pub columns : AreReaches (column_at pair.decomp.now.grid) (is_used_across pair.offsets.now) pair.part.columns pair.columns
  pub rows : AreReaches (row_at pair.decomp.now.grid) (is_used_down pair.offsets.now) pair.part.rows pair.rows
