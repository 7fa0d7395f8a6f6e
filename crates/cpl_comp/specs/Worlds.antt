-- What a component holds while a run goes on: its clock, how often it ran, and its fields.
use Rattle.std.specs.Prelude.{ℕ, zero, suc, ◌-◌, ℤ, pos, List, [], ◌∷◌, map, slice_index_or, Option, None}
use Rattle.cpl_grid.specs.Grid.{indices}
use Rattle.cpl_grid.specs.Owners.{Layout}
use Rattle.cpl_comp.specs.declared.component.Comp.{Comp}

-- ---- cells

-- the cells of a grid that take part in a run, ascending
unfoldable pub active_cells : Layout → List ℕ
active_cells layout = indices layout.grid

-- a number for each cell of a grid, by the cell's sequence index
unfoldable pub over_cells : Layout → (ℕ → ℤ) → List ℤ
over_cells layout value = map value (indices layout.grid)

-- the number of a cell among those of all cells
abbrev pub cell_value : List ℤ → ℕ → ℤ
cell_value values s = slice_index_or values (s - 1) (pos 0)

-- ---- fields and components

-- A field: a value for each cell, the time stamp of an import or an export if it has one, and the whole fields that
-- were kept for it since its last average.
pub record FieldWorld : Type 0 where
  pub values : List ℤ
  pub stamp : Option ℤ
  pub kept : List (List ℤ)

-- A component: where its clock stands, how many runs have ended, and its fields.
pub record CompWorld : Type 0 where
  pub clock : ℤ
  pub runs : ℕ
  pub fields : List FieldWorld

-- a field that isn't there
abbrev pub no_field : FieldWorld
no_field = record { values = []; stamp = None; kept = [] }

-- the field of a place
abbrev pub field_at : List FieldWorld → ℕ → FieldWorld
field_at fields k = slice_index_or fields k no_field

-- the value of the field of a place at a cell
abbrev pub field_value : List FieldWorld → ℕ → ℕ → ℤ
field_value fields k s = cell_value (field_at fields k).values s

-- ---- changes, and the start

-- a list with what stands at a place changed
abbrev pub changed : {A : Type 0} → (A → A) → ℕ → List A → List A
changed change k [] = []
changed change zero (x ∷ xs) = change x ∷ xs
changed change (suc k) (x ∷ xs) = x ∷ changed change k xs

-- a field at the start: 0 everywhere, without a stamp
abbrev pub first_field : Layout → FieldWorld
first_field layout = record { values = over_cells layout (λ s. pos 0); stamp = None; kept = [] }

-- a component at the start
abbrev pub first_comp : Comp → CompWorld
first_comp comp = record { clock = pos 0; runs = 0; fields = map (λ field. first_field comp.decomp) comp.fields }
