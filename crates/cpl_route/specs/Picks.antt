-- Lists of cells, as the code asks for them. The steps of the code, not needed to read what the calls promise.
use Rattle.std.specs.Prelude.{◌≡◌, ℕ, ◌+◌, ◌<◌, ◌≤◌, ◌==◌, Bool, true, List, length, slice_index_or}
use Rattle.std.specs.List.{list_any}
use Rattle.cpl_grid.specs.Grid.{IsGrid}
use Rattle.cpl_grid.specs.Owners.{Layout}
use Rattle.cpl_grid.specs.declared.grid.Grid.{Grid}
use Rattle.cpl_route.specs.Kept.{HasParts}
use Rattle.cpl_route.specs.Routes.{are_ascending, is_ascending, is_picked}
use Rattle.cpl_route.specs.declared.need.Need.{Need}
use Rattle.cpl_route.specs.declared.parts.Parts.{Parts}

-- a list has a cell
abbrev pub is_listed : List ℕ → ℕ → Bool
is_listed cells s = list_any (λ t. t == s) cells

-- an ascending list, and a grid
pub record IsListed (grid : Grid) (cells : List ℕ) : Type 0 where
  pub is_grid : IsGrid grid
  pub ascending : is_ascending 0 cells ≡ true

-- ascending lists, and the parts of those who own cells
pub record IsPick (src : Layout) (needs : List Need) (owners : Parts) : Type 0 where
  pub from : HasParts src owners
  pub ascending : are_ascending needs ≡ true

-- so many numbers that follow one another are listed
pub record IsRun (cells : List ℕ) (first most run : ℕ) : Type 0 where
  pub some : 1 ≤ run
  pub within : run ≤ most
  pub listed : (k : ℕ) → k < run → is_listed cells (first + k) ≡ true

-- a list stands at a place, and is a PET's
pub record IsAtPlace (needs : List Need) (pet place : ℕ) : Type 0 where
  pub inside : place < length needs
  pub is_pet : (other : Need) → (slice_index_or needs place other).pet ≡ pet

-- whether a PET has a list
abbrev pub has_list : List Need → ℕ → Bool
has_list needs pet = list_any (λ need. need.pet == pet) needs

-- PETs below one need the same by other lists
pub record AreAlikeBelow (needs copies : List Need) (bound : ℕ) : Type 0 where
  pub picked : (pet s : ℕ) → pet < bound → is_picked copies pet s ≡ is_picked needs pet s
  pub listed : (pet : ℕ) → pet < bound → has_list copies pet ≡ has_list needs pet

-- every PET needs the same by other lists
abbrev pub ArePickedAlike : List Need → List Need → Type 0
ArePickedAlike needs copies = AreAlikeBelow needs copies 256

-- copies of the lists of PETs below one, in order
pub record AreCopies (needs copies : List Need) (bound : ℕ) : Type 0 where
  pub ascending : are_ascending copies ≡ true
  pub below : (k : ℕ) (other : Need) → k < length copies → (slice_index_or copies k other).pet < bound
  pub alike : AreAlikeBelow needs copies bound
