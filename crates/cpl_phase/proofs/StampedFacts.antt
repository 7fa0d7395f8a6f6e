-- Stamps, on which no value and nothing that is kept depends.
use Rattle.std.proofs.Common.{◌≡◌, ◌∙◌, ℕ, ◌<◌, List, length, map, get_or, ℤ, Some, refl, sym, ap, subst}
use Rattle.std.proofs.Math.ListN.{get_or-map}
use Rattle.cpl_block.specs.declared.frame.Frame.{Frame}
use Rattle.cpl_comp.proofs.ChangeFacts.{fold-seen_same, length-changed, map-changed_same}
use Rattle.cpl_comp.specs.Turns.{all_stamped, stamped}
use Rattle.cpl_comp.specs.Worlds.{FieldWorld, cell_value, field_at as world_at, no_field}
use Rattle.cpl_grid.specs.Parts.{cells_of_part}
use Rattle.cpl_mediator.specs.Averages.{RunningSums}
use Rattle.cpl_sweep.specs.Places.{field_at}
use Rattle.cpl_phase.specs.Keeping.{StandsForBlock}
use Rattle.cpl_phase.specs.Kept.{StandForKept, accum_at}
use Rattle.cpl_phase.specs.Worlds.{HoldFields, block_values}

-- values of a whole component at a block's cells
abbrev pub values_at : Frame → List ℤ → List ℤ
values_at frame values = map (cell_value values) (cells_of_part frame.grid frame.part)

module _ (time : ℤ) (world : List FieldWorld) (places : List ℕ) where
  abbrev stamp_one : FieldWorld → FieldWorld
  stamp_one field = record field { stamp = Some time }

  -- stamps leave the number of fields
  length-stamped : length (all_stamped time world places) ≡ length world
  length-stamped = fold-seen_same length (stamped time) (λ (fields : List FieldWorld) (k : ℕ). length-changed stamp_one k fields) world places

  -- they leave what is seen without them
  seen-stamped : {B : Type 0} (see : FieldWorld → B) → ((field : FieldWorld) → see (stamp_one field) ≡ see field)
      → (k : ℕ) → see (world_at (all_stamped time world places) k) ≡ see (world_at world k)
  seen-stamped see same k =
      sym (get_or-map see (all_stamped time world places) k no_field)
      ∙ ap (λ xs. get_or xs k (see no_field))
      (fold-seen_same (map see) (stamped time) (λ (fields : List FieldWorld) (j : ℕ). map-changed_same see stamp_one same j fields) world places)
      ∙ get_or-map see world k no_field

  -- they leave values
  values-stamped : (k : ℕ) → (world_at (all_stamped time world places) k).values ≡ (world_at world k).values
  values-stamped = seen-stamped (λ field. field.values) (λ field. refl)

  module _ (frame : Frame) (count : ℕ) where
    -- fields hold a stamped world's values
    pub held-stamped : (now : List (List ℤ)) → HoldFields frame count world now → HoldFields frame count (all_stamped time world places) now
    held-stamped now held = record {
      number = length-stamped ∙ held.number;
      values = λ k below. held.values k below ∙ ap (values_at frame) (sym (values-stamped k));
    }

    -- running sums stand for what it keeps
    pub kept-stamped : (accums : List RunningSums) → StandForKept frame count world accums
        → StandForKept frame count (all_stamped time world places) accums
    kept-stamped accums stand = record {
      number = length-stamped ∙ stand.number;
      each = λ k below. subst (StandsForBlock frame (accum_at accums k)) (sym (seen-stamped (λ field. field.kept) (λ field. refl) k))
          (stand.each k below);
    }

    -- and its values are lined up
    pub shown-stamped : (shown : List (List ℤ)) → ((k : ℕ) → k < count → field_at shown k ≡ block_values frame (world_at world k))
        → (k : ℕ) → k < count → field_at shown k ≡ block_values frame (world_at (all_stamped time world places) k)
    shown-stamped shown each k below = each k below ∙ ap (values_at frame) (sym (values-stamped k))
