-- What holds of the phases of a component that were read.
use Rattle.std.proofs.Common.{◌≡◌, ℕ, true, List, [], ◌∷◌, ◌++◌, length, map, All, Option, Some, None, option_map, IfOk, refl, ◌∙◌, subst, append_assoc}
use Rattle.std.specs.List.{list_all}
use Rattle.std.proofs.lemmas.Bool.{and_parts}
use Rattle.std.proofs.lemmas.List.{append-nil, map-append}
use Rattle.std.proofs.lemmas.List.Elements.{All-push}
use Rattle.cpl_base.specs.Words.{is_name}
use Rattle.cpl_config.specs.Items.{table_under}
use Rattle.cpl_config.specs.declared.entry.Entry.{Entry}
use Rattle.cpl_config.specs.declared.row.Row.{Row}
use Rattle.cpl_comp.specs.Components.{IsPhase, limits_of}
use Rattle.cpl_comp.specs.PhaseRows.{PhaseScope, after_rows, no_rows}
use Rattle.cpl_comp.specs.Realised.{phase_in, phase_label, phase_named, phases_with}
use Rattle.cpl_comp.specs.declared.component.Phase.{Phase}
use Rattle.cpl_comp.proofs.PhaseRowFacts.{AreRows, after_rows-are, no_rows-are, phase_of-is}
use Rattle.cpl_comp.proofs.ResultFacts.{bind-fact}

-- A phase of this name.
record IsPhaseOf (pets : ℕ) (scope : PhaseScope) (label : List ℕ) (phase : Phase) : Type 0 where
  label_is : phase.label ≡ label
  is : IsPhase (limits_of pets scope.rules.alarms scope.rules.signs) scope.kind scope.roles phase

-- the phase of a table, if there is one
phase_in-is : (pets : ℕ) (scope : PhaseScope) (table label : List ℕ) (rows : Option (List Row)) → length scope.roles ≡ length scope.rules.fields → is_name label ≡ true → IfOk (phase_in scope table label rows) (IsPhaseOf pets scope label)
phase_in-is pets scope table label None same named = tt
phase_in-is pets scope table label (Some rows) same named =
    bind-fact (IsPhaseOf pets scope label) (AreRows pets scope) (after_rows scope no_rows rows) _ (after_rows-are pets scope no_rows rows same (no_rows-are pets scope)) (λ read are.
    record { label_is = refl; is = phase_of-is pets scope label read named are })

-- Phases of these names.
pub record ArePhasesOf (pets : ℕ) (scope : PhaseScope) (labels : List (List ℕ)) (phases : List Phase) : Type 0 where
  pub labels_are : map (λ phase. phase.label) phases ≡ labels
  pub each : All (IsPhase (limits_of pets scope.rules.alarms scope.rules.signs) scope.kind scope.roles) phases

-- one more
phases-push : (pets : ℕ) (scope : PhaseScope) (labels : List (List ℕ)) (phases : List Phase) (label : List ℕ) (phase : Phase) → ArePhasesOf pets scope labels phases → IsPhaseOf pets scope label phase → ArePhasesOf pets scope (labels ++ label ∷ []) (phases ++ phase ∷ [])
phases-push pets scope labels phases label phase are is = record {
  labels_are = map-append (λ (p : Phase). p.label) phases (phase ∷ []) ∙ (λ i. are.labels_are i ++ is.label_is i ∷ []);
  each = All-push (IsPhase (limits_of pets scope.rules.alarms scope.rules.signs) scope.kind scope.roles) phases phase are.each is.is;
}

-- all of them
pub phases_with-are : (pets : ℕ) (scope : PhaseScope) (entries : List Entry) (component : List ℕ) (of : List (List ℕ)) (before : List Phase) (labels : List (List ℕ)) → length scope.roles ≡ length scope.rules.fields → list_all is_name labels ≡ true → ArePhasesOf pets scope of before → IfOk (phases_with scope entries component before labels) (ArePhasesOf pets scope (of ++ labels))
phases_with-are pets scope entries component of before [] same named are = rw (append-nil of) are
phases_with-are pets scope entries component of before (label ∷ labels) same named are =
    let parts = and_parts (is_name label) (list_all is_name labels) named in
    bind-fact (ArePhasesOf pets scope (of ++ label ∷ labels)) (IsPhaseOf pets scope label) (phase_named scope entries component label) _
    (phase_in-is pets scope (phase_label component label) label (option_map (λ table. table.rows) (table_under (phase_label component label) entries)) same parts.0) (λ phase is.
    subst (λ (ls : List (List ℕ)). IfOk (phases_with scope entries component (before ++ phase ∷ []) labels) (ArePhasesOf pets scope ls)) (append_assoc of (label ∷ []) labels)
    (phases_with-are pets scope entries component (of ++ label ∷ []) (before ++ phase ∷ []) labels same parts.1 (phases-push pets scope of before label phase are is)))
