-- A component that is realised is within its limits.
use Rattle.std.proofs.Common.{◌≡◌, ℕ, ◌+◌, ◌≤◌, List, [], length, map, codes, All, Ok, IfOk, refl, sym, ap, ◌∙◌, subst, arith}
use Rattle.std.proofs.lemmas.List.{length-map}
use Rattle.std.proofs.lemmas.List.Elements.{All-nil}
use Rattle.cpl_base.specs.Words.{are_distinct}
use Rattle.cpl_config.specs.declared.entry.Entry.{Entry}
use Rattle.cpl_formula.specs.declared.formula.EntrySign.{EntrySign}
use Rattle.cpl_comp.specs.Advertised.{Advertisement}
use Rattle.cpl_comp.specs.Components.{AreInOrder, IsAdvertised, IsAskedOver, IsComponent, IsField, IsPhase, limits_of}
use Rattle.cpl_comp.specs.Grids.{substep_in}
use Rattle.cpl_comp.specs.Labels.{own_values}
use Rattle.cpl_comp.specs.Pets.{first_pet_in, pet_count_in}
use Rattle.cpl_comp.specs.Realised.{layout_in, phase_scope, phases_with, realised_component, start_scope, started_with}
use Rattle.cpl_comp.specs.declared.component.Comp.{Comp}
use Rattle.cpl_comp.specs.declared.component.Field.{Field}
use Rattle.cpl_comp.specs.declared.component.Phase.{Phase}
use Rattle.cpl_comp.specs.declared.component.Role.{Role}
use Rattle.cpl_comp.specs.declared.field_rows.FieldRow.{FieldRow}
use Rattle.cpl_comp.proofs.GridFacts.{ArePets, IsLayoutOf, IsSubstepOf, layout_in-is, pets-are, substep_in-is}
use Rattle.cpl_comp.proofs.PhaseFacts.{ArePhasesOf, phases_with-are}
use Rattle.cpl_comp.proofs.ResultFacts.{bind-fact, ok-fact}
use Rattle.cpl_comp.proofs.StartFacts.{AreFieldsOf, row_roles, started_with-are}

-- what is read of an advertisement, if there is no fault
realised_component-is : (entries : List Entry) (ad : Advertisement) (pets : ℕ) (alarms : List (List ℕ)) (signs : List EntrySign) → IsAdvertised ad → IsAskedOver ad pets (length alarms) (length signs) → IfOk (realised_component entries ad pets alarms signs) (IsComponent (limits_of pets alarms signs))
unfolding realised_component
realised_component-is entries ad pets alarms signs advertised asked =
    let P : Comp → Type 0 = IsComponent (limits_of pets alarms signs) in
    let own : ArePets ad.bounds pets = pets-are ad.bounds pets asked.some_pets advertised.bounds asked.above in
    let few : first_pet_in ad.bounds + pet_count_in ad.bounds pets ≤ 64 = omega (arith, own.among, asked.few_pets) in
    let roles_count : length (row_roles ad.fields) ≡ length ad.fields = length-map ad.fields (λ (row : FieldRow). row.role) in
    let names_count : length (map (λ (row : FieldRow). row.name) ad.fields) ≡ length ad.fields = length-map ad.fields (λ (row : FieldRow). row.name) in
    bind-fact P (IsLayoutOf (first_pet_in ad.bounds) (pet_count_in ad.bounds pets)) (layout_in entries ad.name (first_pet_in ad.bounds) (pet_count_in ad.bounds pets)) _ (layout_in-is entries ad.name (first_pet_in ad.bounds) (pet_count_in ad.bounds pets) own.some few) (λ layout layout_is.
    bind-fact P (IsSubstepOf ad.kind) (substep_in ad.kind (own_values entries ad.name (codes "_substep"))) _ (substep_in-is ad.kind (own_values entries ad.name (codes "_substep"))) (λ substep substep_is.
    bind-fact P (AreFieldsOf pets ad.fields alarms signs ad.fields) (started_with (start_scope ad.fields alarms signs) [] ad.fields) _
    (started_with-are pets ad.fields alarms signs [] [] ad.fields advertised.named advertised.unasked (record { named = refl; roles = refl; each = All-nil (IsField (limits_of pets alarms signs) (row_roles ad.fields)) }))
    (λ fields fields_are.
    bind-fact P (ArePhasesOf pets (phase_scope ad alarms signs) ad.phases) (phases_with (phase_scope ad alarms signs) entries ad.name [] ad.phases) _
    (phases_with-are pets (phase_scope ad alarms signs) entries ad.name [] [] ad.phases (roles_count ∙ sym names_count) advertised.phase_names (record { labels_are = refl; each = All-nil (IsPhase (limits_of pets alarms signs) ad.kind (row_roles ad.fields)) }))
    (λ phases phases_are.
    let count : length fields ≡ length ad.fields = sym (length-map fields (λ (field : Field). field.role)) ∙ ap length fields_are.roles ∙ roles_count in
    let phase_count : length phases ≡ length ad.phases = sym (length-map phases (λ (phase : Phase). phase.label)) ∙ ap length phases_are.labels_are in
    record {
      decomposition = layout_is.is;
      first_pet = layout_is.first;
      pet_count = layout_is.count;
      pets_within = own.among;
      substep = substep_is.within;
      mediator = substep_is.mediator;
      few_fields = subst (λ (n : ℕ). n ≤ 64) (sym count) advertised.few_fields;
      names = ap are_distinct fields_are.named ∙ advertised.names;
      order = subst AreInOrder (sym fields_are.roles) advertised.order;
      fields = subst (λ (roles : List Role). All (IsField (limits_of pets alarms signs) roles) fields) (sym fields_are.roles) fields_are.each;
      some_phases = subst (λ (n : ℕ). 1 ≤ n) (sym phase_count) advertised.some_phases;
      few_phases = subst (λ (n : ℕ). n ≤ 16) (sym phase_count) advertised.few_phases;
      labels = ap are_distinct phases_are.labels_are ∙ advertised.phases_once;
      phases = subst (λ (roles : List Role). All (IsPhase (limits_of pets alarms signs) ad.kind roles) phases) (sym fields_are.roles) phases_are.each;
      start_halo = refl;
    }))))

-- a component that is realised
pub realised-is : (entries : List Entry) (ad : Advertisement) (pets : ℕ) (alarms : List (List ℕ)) (signs : List EntrySign) (comp : Comp) → IsAdvertised ad → IsAskedOver ad pets (length alarms) (length signs) → realised_component entries ad pets alarms signs ≡ Ok comp → IsComponent (limits_of pets alarms signs) comp
realised-is entries ad pets alarms signs comp advertised asked is =
    ok-fact (IsComponent (limits_of pets alarms signs)) (realised_component entries ad pets alarms signs) comp (realised_component-is entries ad pets alarms signs advertised asked) is
