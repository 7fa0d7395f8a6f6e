-- Writes leave what is kept as it is.
use Rattle.std.proofs.Common.{◌≡◌, ℕ, ◌<◌, List, [], ℤ, ap, arith, get_or, length, map, refl, subst, sym, ◌∙◌}
use Rattle.std.proofs.lemmas.List.{get_or-map, length-map}
use Rattle.cpl_block.specs.declared.frame.Frame.{Frame}
use Rattle.cpl_comp.proofs.ChangeFacts.{fold-seen_same, map-changed_same}
use Rattle.cpl_comp.specs.Readings.{Reading}
use Rattle.cpl_comp.specs.Worlds.{FieldWorld, field_at as world_at, no_field}
use Rattle.cpl_comp.specs.Writes.{Write, all_written, fields_started, start_write, written}
use Rattle.cpl_comp.specs.declared.component.Field.{Field}
use Rattle.cpl_mediator.specs.Averages.{RunningSums}
use Rattle.std.specs.List.{enumerate_from, filter_map}
use Rattle.cpl_phase.specs.Keeping.{StandsForBlock}
use Rattle.cpl_phase.specs.Kept.{StandForKept, accum_at}

-- what is kept for a field
abbrev kept_of : FieldWorld → List (List ℤ)
kept_of field = field.kept

-- what is kept for each is as before
same-kept_of : (writes : List Write) (world : List FieldWorld) → map kept_of (all_written world writes) ≡ map kept_of world
same-kept_of writes world =
    fold-seen_same (map kept_of) written
    (λ w write. map-changed_same kept_of (λ (field : FieldWorld). record field { values = write.values }) (λ field. refl) write.field w) world
    writes

-- running sums that stand for what is kept still do
pub stand-written : (frame : Frame) (count : ℕ) (writes : List Write) (world : List FieldWorld) (accums : List RunningSums)
    → StandForKept frame count world accums → StandForKept frame count (all_written world writes) accums
stand-written frame count writes world accums before =
    let after = all_written world writes in
    let same = same-kept_of writes world in
    let many : length after ≡ length world = sym (length-map after kept_of) ∙ ap length same ∙ length-map world kept_of in
    record {
      number = many ∙ before.number;
      each = λ k below.
          let P : List (List ℤ) → Type 0 = λ kept. StandsForBlock frame (accum_at accums k) kept in
          let inside : k < length world = omega (arith, below, before.number) in
          let there : k < length after = omega (arith, inside, many) in
          let here : (world_at world k).kept ≡ (world_at after k).kept =
          sym (get_or-map kept_of world k no_field [] inside) ∙ ap (λ xs. get_or xs k []) (sym same) ∙ get_or-map kept_of after k no_field [] there in
          subst P here (before.each k below);
    }

-- so they do after start rules
pub stand-started : (frame : Frame) (count : ℕ) (reading : Reading) (described : List Field) (world : List FieldWorld) (accums : List RunningSums)
    → StandForKept frame count world accums → StandForKept frame count (fields_started reading world described) accums
stand-started frame count reading described world accums before =
    stand-written frame count (filter_map (start_write reading) (enumerate_from 0 described)) world accums before
