-- Where the values of a parcel go: the cells of another block, at the places of the ring that stand for them.
use Rattle.std.specs.Prelude.{◌≡◌, ℕ, ◌<◌, ◌≤◌, ◌&&◌, ◌==◌, Bool, true, false, ℤ, List, [], ◌∷◌, ◌++◌, filter, if◌then◌else◌, length, map, slice_index}
use Rattle.std.specs.List.{All, list_any}
use Rattle.cpl_field.specs.Copies.{AreSame}
use Rattle.cpl_block.specs.Frames.{HoldsWhere, all_places, places_in, stands_for, value_at}
use Rattle.cpl_block.specs.Rings.{is_far}
use Rattle.cpl_block.specs.declared.aim.Aim.{Aim}
use Rattle.cpl_block.specs.declared.frame.Frame.{Frame}

-- the cells of a parcel ascend, perhaps with repeats
abbrev pub AreAscending : List ℕ → Type 0
AreAscending cells = (i j : ℕ) → i ≤ j → j < length cells → slice_index cells i ≤ slice_index cells j

-- whether a place of the ring stands for a cell of another block that is among these
unfoldable pub is_aimed : Frame → List ℕ → ℕ → Bool
is_aimed frame cells place = is_far frame place && list_any (λ s. s == stands_for frame place) cells

-- a cell stands at a place of a list
pub record IsPlacedIn (cells : List ℕ) (s k : ℕ) : Type 0 where
  pub within : k < length cells
  pub is : slice_index cells k ≡ s

-- Where the values of a parcel go: the aimed places, ascending, each with a place in the parcel at which its cell stands.
pub record IsAim (frame : Frame) (cells : List ℕ) (aim : Aim) : Type 0 where
  pub to : aim.to.items ≡ filter (is_aimed frame cells) (all_places frame)
  pub count : length aim.from.items ≡ length aim.to.items
  pub cell : (j : ℕ) → j < length aim.to.items
      → IsPlacedIn cells (stands_for frame (slice_index aim.to.items j)) (slice_index aim.from.items j)

-- lists that can be put from so many values: their places lie within
pub record IsAimFor (frame : Frame) (count : ℕ) (aim : Aim) : Type 0 where
  pub lengths : length aim.from.items ≡ length aim.to.items
  pub to : All (λ place. place < places_in frame) aim.to.items
  pub from : All (λ k. k < count) aim.from.items
  pub same : AreSame aim.to.items aim.from.items
  pub far : All (λ place. is_far frame place ≡ true) aim.to.items

-- the aimed places hold the values of their cells
abbrev pub IsPutAt : Frame → List ℕ → (ℕ → ℤ) → List ℤ → Type 0
IsPutAt frame cells value field = HoldsWhere (is_aimed frame cells) frame value field

-- What a parcel leaves: the aimed places hold the values of their cells, all others what they held; so the block's own
-- places hold what they held.
pub record IsPut (frame : Frame) (cells : List ℕ) (values old new : List ℤ) : Type 0 where
  pub aimed : (value : ℕ → ℤ) → values ≡ map value cells → IsPutAt frame cells value new
  pub kept : (place : ℕ) → is_aimed frame cells place ≡ false → value_at new place ≡ value_at old place

-- a place in the parcel for one place more, if it is aimed at
pub record IsAimedFrom (frame : Frame) (cells : List ℕ) (place : ℕ) (old new : List ℕ) : Type 0 where
  pub k : ℕ
  pub is : new ≡ old ++ (if is_aimed frame cells place then k ∷ [] else [])
  pub placed : is_aimed frame cells place ≡ true → IsPlacedIn cells (stands_for frame place) k

-- one place more is noted, if it is aimed at
pub record IsAimedMore (frame : Frame) (cells : List ℕ) (place : ℕ) (old new : Aim) : Type 0 where
  pub to : new.to.items ≡ old.to.items ++ (if is_aimed frame cells place then place ∷ [] else [])
  pub from : IsAimedFrom frame cells place old.from.items new.from.items
