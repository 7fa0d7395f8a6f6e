-- What a whole phase leaves in the fields of a block.
use Rattle.std.proofs.Common.{◌≡◌, ◌++◌, ◌∙◌, ◌+◌, ℕ, ◌<◌, ◌≤◌, List, [], ◌∷◌, ℤ, ap, arith, drop, fold, get_or, length, map, refl, set, subst, sym}
use Rattle.std.proofs.lemmas.List.{get_or-map, length-append, length-map, length-set}
use Rattle.std.proofs.lemmas.List.Sums.{fold-append}
use Rattle.std.specs.List.{All}
use Rattle.std.proofs.lemmas.List.Elements.{All-append, All-drop}
use Rattle.cpl_base.specs.Numbers.{IsValue}
use Rattle.cpl_block.specs.Frames.{places_in}
use Rattle.cpl_block.specs.Laws.{IsFraming}
use Rattle.cpl_block.specs.declared.frame.Frame.{Frame}
use Rattle.cpl_comp.proofs.ChangeFacts.{fold-seen_same, map-changed_same}
use Rattle.cpl_comp.specs.Readings.{Reading, rule_values}
use Rattle.cpl_comp.specs.Worlds.{FieldWorld, cell_value, field_at as world_at, no_field}
use Rattle.cpl_comp.specs.Writes.{Write, all_written, average_write, emptied, kept_more, written}
use Rattle.cpl_comp.specs.declared.component.SetRow.{SetRow}
use Rattle.cpl_grid.specs.Owners.{Layout}
use Rattle.cpl_grid.specs.Parts.{cells_of_part}
use Rattle.cpl_phase.specs.Puts.{all_put}
use Rattle.cpl_phase.specs.Refreshed.{AreOnBlock}
use Rattle.cpl_phase.specs.Worlds.{AreWritten, HoldFields}
use Rattle.cpl_phase.proofs.PutFacts.{put-all}

-- ---- what is kept isn't seen in the values

-- the values of a field
abbrev values_of : FieldWorld → List ℤ
values_of field = field.values

-- fields with the same values are held alike
hold-same : (frame : Frame) (count : ℕ) (world after : List FieldWorld) (fields : List (List ℤ)) → map values_of after ≡ map values_of world
    → HoldFields frame count world fields → HoldFields frame count after fields
hold-same frame count world after fields same hold =
    let many : length after ≡ length world = sym (length-map after values_of) ∙ ap length same ∙ length-map world values_of in
    record {
      number = many ∙ hold.number;
      values = λ k below.
          let inside : k < length world = omega (arith, below, hold.number) in
          let there : k < length after = omega (arith, inside, many) in
          let here : (world_at world k).values ≡ (world_at after k).values =
          sym (get_or-map values_of world k no_field [] inside) ∙ ap (λ xs. get_or xs k []) (sym same)
          ∙ get_or-map values_of after k no_field [] there in
          hold.values k below ∙ ap (λ values. map (cell_value values) (cells_of_part frame.grid frame.part)) here;
    }

-- what is forgotten and kept leaves what is held
pub hold-kept : (frame : Frame) (count : ℕ) (reading : Reading) (places : List ℕ) (rows : List SetRow) (world : List FieldWorld)
    (fields : List (List ℤ)) → HoldFields frame count world fields
    → HoldFields frame count (fold (kept_more reading) (fold emptied world places) rows) fields
hold-kept frame count reading places rows world fields hold =
    let same_emptied : map values_of (fold emptied world places) ≡ map values_of world =
    fold-seen_same (map values_of) emptied
    (λ w k. map-changed_same values_of (λ (field : FieldWorld). record field { kept = [] }) (λ field. refl) k w) world places in
    let same_kept : map values_of (fold (kept_more reading) (fold emptied world places) rows) ≡ map values_of (fold emptied world places) =
    fold-seen_same (map values_of) (kept_more reading)
    (λ w row. map-changed_same values_of (λ (field : FieldWorld). record field { kept = field.kept ++ rule_values reading row.rule ∷ [] })
    (λ field. refl) row.field w) (fold emptied world places) rows in
    hold-same frame count world (fold (kept_more reading) (fold emptied world places) rows) fields (same_kept ∙ same_emptied) hold

-- ---- three groups of writes

-- the fields of averages
pub average-fields : (layout : Layout) (world : List FieldWorld) (places : List ℕ)
    → map (λ (write : Write). write.field) (map (average_write layout world) places) ≡ places
average-fields layout world [] = refl
average-fields layout world (k ∷ places) = ap (λ ks. k ∷ ks) (average-fields layout world places)

-- as many fields as before
pub length-put : (targets : List ℕ) (others fields : List (List ℤ)) → length (all_put targets others fields) ≡ length fields
length-put [] others fields = refl
length-put (k ∷ targets) [] fields = refl
length-put (k ∷ targets) (other ∷ others) fields = length-put targets others (set fields k other) ∙ length-set fields k other

-- A group of writes, the places of its fields, and other fields with its values.
pub record IsGroup (frame : Frame) (count : ℕ) (writes : List Write) (targets : List ℕ) (others : List (List ℤ)) : Type 0 where
  pub fields : map (λ (write : Write). write.field) writes ≡ targets
  pub below : All (λ write. write.field < count) writes
  pub written : AreWritten frame writes others

module _ (frame : Frame) (count : ℕ) (laws : IsFraming frame) where
  -- one group
  pub put-group : (writes : List Write) (targets : List ℕ) (others : List (List ℤ)) (world : List FieldWorld) (fields : List (List ℤ))
      → IsGroup frame count writes targets others → count ≤ length fields → HoldFields frame count world fields
      → HoldFields frame count (all_written world writes) (all_put targets others fields)
  put-group writes targets others world fields group long hold =
      let P : List ℕ → Type 0 = λ ks. HoldFields frame count (all_written world writes) (all_put ks others fields) in
      subst P group.fields (put-all frame count laws writes world others fields group.below long hold group.written)

  -- three of them
  pub put-groups : (a s m : List Write) (ka ks km : List ℕ) (averaged assigned merged : List (List ℤ)) (world : List FieldWorld)
      (fields : List (List ℤ))
      → IsGroup frame count a ka averaged → IsGroup frame count s ks assigned → IsGroup frame count m km merged → count ≤ length fields
      → HoldFields frame count world fields
      → HoldFields frame count (all_written world (a ++ s ++ m)) (all_put km merged (all_put ks assigned (all_put ka averaged fields)))
  put-groups a s m ka ks km averaged assigned merged world fields group_a group_s group_m long hold =
      let first = all_put ka averaged fields in
      let second = all_put ks assigned first in
      let first_long : count ≤ length first = omega (arith, long, length-put ka averaged fields) in
      let second_long : count ≤ length second = omega (arith, first_long, length-put ks assigned first) in
      let W : List FieldWorld → Type 0 = λ w. HoldFields frame count w (all_put km merged second) in
      let world_a = all_written world a in
      subst W (sym (ap (λ w. all_written w m) (fold-append written world a s)) ∙ sym (fold-append written world (a ++ s) m))
      (put-group m km merged (all_written world_a s) second group_m second_long
      (put-group s ks assigned world_a first group_s first_long
      (put-group a ka averaged world fields group_a long hold)))

-- ---- fields cut and joined

-- the fields behind some of them
pub on-block-drop : (frame : Frame) (number k : ℕ) (fields : List (List ℤ)) → AreOnBlock frame number fields
    → AreOnBlock frame (length (drop k fields)) (drop k fields)
on-block-drop frame number k fields on = record {
  count = refl;
  places = All-drop (λ field. length field ≡ places_in frame) k fields on.places;
  values = All-drop (All IsValue) k fields on.values;
}

-- fields and others behind them
pub on-block-append : (frame : Frame) (n m : ℕ) (xs ys : List (List ℤ)) → AreOnBlock frame n xs → AreOnBlock frame m ys
    → AreOnBlock frame (n + m) (xs ++ ys)
on-block-append frame n m xs ys first second = record {
  count = length-append xs ys ∙ (λ i. first.count i + second.count i);
  places = All-append (λ field. length field ≡ places_in frame) xs ys first.places second.places;
  values = All-append (All IsValue) xs ys first.values second.values;
}
