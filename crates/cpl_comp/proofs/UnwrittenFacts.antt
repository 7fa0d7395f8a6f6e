-- What a phase doesn't write stays.
use Rattle.std.proofs.Common.{◌≡◌, ◌≢◌, ℕ, List, [], ◌∷◌, ◌++◌, get_or, refl, sym, ap, ◌∙◌}
use Rattle.std.specs.Prelude.{ℤ, map, fold}
use Rattle.std.specs.List.{All}
use Rattle.std.proofs.Math.ListN.{get_or-map}
use Rattle.std.proofs.lemmas.List.Elements.{All-append, All-map}
use Rattle.cpl_comp.specs.Components.{written_fields}
use Rattle.cpl_comp.specs.Readings.{Reading, rule_values}
use Rattle.cpl_comp.specs.Worlds.{FieldWorld, field_at, no_field}
use Rattle.cpl_comp.specs.Writes.{Write, all_written, average_write, emptied, fields_after, kept_more, merge_write, phase_writes, set_write, written}
use Rattle.cpl_comp.specs.declared.component.MergeRow.{MergeRow}
use Rattle.cpl_comp.specs.declared.component.Phase.{Phase}
use Rattle.cpl_comp.specs.declared.component.SetRow.{SetRow}
use Rattle.cpl_comp.proofs.ChangeFacts.{changed-other, fold-keeps_all, fold-seen_same, map-changed, map-changed_same}
use Rattle.cpl_comp.proofs.HeldFacts.{All-left, All-right, All-unmap}

-- the values of fields
abbrev values_of : List FieldWorld → List (List ℤ)
values_of fields = map (λ field. field.values) fields

-- new values of another field leave those of this one
written-other : (k : ℕ) (fields : List FieldWorld) (write : Write) → k ≢ write.field → get_or (values_of (written fields write)) k [] ≡ get_or (values_of fields) k []
written-other k fields write other =
    ap (λ (xs : List (List ℤ)). get_or xs k []) (map-changed (λ (field : FieldWorld). field.values) (λ field. record field { values = write.values }) (λ values. write.values) (λ field. refl) write.field fields)
    ∙ changed-other (λ values. write.values) write.field k (values_of fields) [] other

all_written-other : (k : ℕ) (fields : List FieldWorld) (writes : List Write) → All (λ (write : Write). k ≢ write.field) writes → get_or (values_of (all_written fields writes)) k [] ≡ get_or (values_of fields) k []
all_written-other k fields writes others =
    fold-keeps_all (λ (fs : List FieldWorld). get_or (values_of fs) k [] ≡ get_or (values_of fields) k []) (λ (write : Write). k ≢ write.field) written
    (λ fs write other same. written-other k fs write other ∙ same) fields writes others refl

-- what is kept and forgotten leaves all values
values-emptied : (fields : List FieldWorld) (k : ℕ) → values_of (emptied fields k) ≡ values_of fields
values-emptied fields k = map-changed_same (λ field. field.values) (λ field. record field { kept = [] }) (λ field. refl) k fields

values-kept_more : (reading : Reading) (fields : List FieldWorld) (row : SetRow) → values_of (kept_more reading fields row) ≡ values_of fields
values-kept_more reading fields row =
    map-changed_same (λ field. field.values) (λ field. record field { kept = field.kept ++ rule_values reading row.rule ∷ [] }) (λ field. refl) row.field fields

module _ (reading : Reading) (fields : List FieldWorld) (phase : Phase) (k : ℕ) (others : All (λ j. k ≢ j) (written_fields phase)) where
  writes-others : All (λ (write : Write). k ≢ write.field) (phase_writes reading fields phase)
  writes-others =
      let P : Write → Type 0 = λ write. k ≢ write.field in
      let sets = map (λ (row : SetRow). row.field) phase.sets in
      let merges = map (λ (row : MergeRow). row.field) phase.merges in
      let both = All-left (λ j. k ≢ j) (sets ++ merges) phase.averages others in
      let of_averages = All-map P (average_write reading.layout fields) phase.averages (All-right (λ j. k ≢ j) (sets ++ merges) phase.averages others) in
      let of_sets = All-map P (set_write reading) phase.sets (All-unmap (λ j. k ≢ j) (λ (row : SetRow). row.field) phase.sets (All-left (λ j. k ≢ j) sets merges both)) in
      let of_merges = All-map P (merge_write reading) phase.merges (All-unmap (λ j. k ≢ j) (λ (row : MergeRow). row.field) phase.merges (All-right (λ j. k ≢ j) sets merges both)) in
      All-append P (map (average_write reading.layout fields) phase.averages ++ map (set_write reading) phase.sets) (map (merge_write reading) phase.merges)
      (All-append P (map (average_write reading.layout fields) phase.averages) (map (set_write reading) phase.sets) of_averages of_sets) of_merges

  -- a field to which the phase gives no value keeps its values
  pub values-unwritten : (field_at (fields_after reading fields phase) k).values ≡ (field_at fields k).values
  values-unwritten =
      let news = all_written fields (phase_writes reading fields phase) in
      let left = fold emptied news phase.averages in
      let same : values_of (fields_after reading fields phase) ≡ values_of news =
      fold-seen_same values_of (kept_more reading) (values-kept_more reading) left phase.adds ∙ fold-seen_same values_of emptied values-emptied news phase.averages in
      sym (get_or-map (λ (field : FieldWorld). field.values) (fields_after reading fields phase) k no_field)
      ∙ ap (λ (xs : List (List ℤ)). get_or xs k []) same
      ∙ all_written-other k fields (phase_writes reading fields phase) writes-others
      ∙ get_or-map (λ (field : FieldWorld). field.values) fields k no_field
