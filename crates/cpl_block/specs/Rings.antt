-- The places of the ring: those that a block fills from its own, and those whose cells are another block's.
use Rattle.std.specs.Prelude.{◌≡◌, ℕ, ◌<◌, ◌&&◌, Bool, ℤ, List, [], ◌∷◌, ◌++◌, filter, if◌then◌else◌, length, map, not}
use Rattle.std.specs.List.{All}
use Rattle.cpl_base.specs.Numbers.{IsValue}
use Rattle.cpl_block.specs.Frames.{HoldsWhere, IsOwn, IsRinged, all_places, home_of, is_ours, is_own, places_in, stands_for, value_at}
use Rattle.cpl_block.specs.declared.frame.Frame.{Frame}
use Rattle.cpl_block.specs.declared.ring.Ring.{Ring}

-- whether a place of the ring stands for a cell of the block
unfoldable pub is_near : Frame → ℕ → Bool
is_near frame place = not (is_own frame place) && is_ours frame (stands_for frame place)

-- whether it stands for a cell of another block
unfoldable pub is_far : Frame → ℕ → Bool
is_far frame place = not (is_own frame place) && not (is_ours frame (stands_for frame place))

-- where the value of a place comes from
abbrev pub source_of : Frame → ℕ → ℕ
source_of frame place = home_of frame (stands_for frame place)

-- the places that the block fills itself, where each is filled from, and the places that it can't fill, all ascending
pub record IsRing (frame : Frame) (ring : Ring) : Type 0 where
  pub to : ring.to.items ≡ filter (is_near frame) (all_places frame)
  pub from : ring.from.items ≡ map (source_of frame) ring.to.items
  pub far : ring.far.items ≡ filter (is_far frame) (all_places frame)

-- each place whose cell is another block's holds that cell's value
abbrev pub IsArrived : Frame → (ℕ → ℤ) → List ℤ → Type 0
IsArrived frame value field = HoldsWhere (is_far frame) frame value field

-- What a refill leaves: the places that stand for cells of the block are filled from these cells' own, all others are as
-- they were; so a block whose own places and whose places of other cells hold values then holds them at all places.
pub record IsRefilled (frame : Frame) (old new : List ℤ) : Type 0 where
  pub places : (place : ℕ) → place < places_in frame
      → value_at new place ≡ (if is_near frame place then value_at old (source_of frame place) else value_at old place)
  pub count : length new ≡ length old
  pub own : (value : ℕ → ℤ) → IsOwn frame value old → IsOwn frame value new
  pub arrived : (value : ℕ → ℤ) → IsArrived frame value old → IsArrived frame value new
  pub ringed : (value : ℕ → ℤ) → IsOwn frame value old → IsArrived frame value old → IsRinged frame value new
  pub values : All IsValue old → All IsValue new

-- one place more is noted: in the list that it belongs to, and nowhere if it is one of the block
pub record IsNoted (frame : Frame) (place : ℕ) (old new : Ring) : Type 0 where
  pub to : new.to.items ≡ old.to.items ++ (if is_near frame place then place ∷ [] else [])
  pub from : new.from.items ≡ old.from.items ++ (if is_near frame place then source_of frame place ∷ [] else [])
  pub far : new.far.items ≡ old.far.items ++ (if is_far frame place then place ∷ [] else [])
