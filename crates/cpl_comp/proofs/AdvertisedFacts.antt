-- What a component advertises: its bounds, its fields and the names of its phases.
use Rattle.std.proofs.Common.{◌≡◌, ℕ, ◌≤◌, true, ◌&&◌, leb, List, [], ◌∷◌, length, Option, Some, None, Ok, IfOk, codes, refl, subst, arith}
use Rattle.std.proofs.lemmas.Bool.{and_parts, leb-true}
use Rattle.std.specs.List.{All, list_all}
use Rattle.std.specs.Option.{ForSome}
use Rattle.cpl_base.specs.Words.{are_distinct, is_name, is_some_of}
use Rattle.cpl_config.specs.Items.{HasShortRows}
use Rattle.cpl_config.specs.declared.entry.Entry.{Entry}
use Rattle.cpl_config.specs.declared.row.Row.{Row}
use Rattle.cpl_dict.specs.Dict.{Dictionary}
use Rattle.cpl_comp.specs.Advertised.{Advertisement, advertised_component, phase_names_in}
use Rattle.cpl_comp.specs.Components.{IsAdvertised}
use Rattle.cpl_comp.specs.FieldRows.{fields_in}
use Rattle.cpl_comp.specs.Labels.{own_values}
use Rattle.cpl_comp.specs.Pets.{AreBounds, bounds_in, kind_in, number_pair}
use Rattle.cpl_comp.specs.declared.fault.CompFault.TheVariants.{BadValue, PetOutOfRange, PhaseTwice, TooManyPhases}
use Rattle.cpl_comp.proofs.FieldRowFacts.{AreOwnFields, fields_in-are}
use Rattle.cpl_comp.proofs.ResultFacts.{bind-IfOk, bind-fact, ok-fact, some-IfOk, test-IfOk}

-- bounds that were given can be
bounds_in-are : (values : Option Row) → IfOk (bounds_in values) (λ bounds. ForSome bounds AreBounds)
bounds_in-are None = λ bounds is. absurd (cc)
bounds_in-are (Some row) =
    some-IfOk (λ bounds. ForSome bounds AreBounds) (number_pair row.words) (BadValue row.line) _ (λ bounds _.
    test-IfOk (λ bounds. ForSome bounds AreBounds) (leb bounds.0 bounds.1 && leb bounds.1 63) (PetOutOfRange row.line) _ (λ test.
    let both = and_parts (leb bounds.0 bounds.1) (leb bounds.1 63) test in
    λ found is.
    let same : bounds ≡ found = cc in
    subst AreBounds same (record { ordered = leb-true bounds.0 bounds.1 both.0; most = leb-true bounds.1 63 both.1 })))

-- What holds of the names of phases.
record ArePhaseNames (phases : List (List ℕ)) : Type 0 where
  some : 1 ≤ length phases
  few : length phases ≤ 16
  named : list_all is_name phases ≡ true
  once : are_distinct phases ≡ true

-- a list that has a member has one at least
is_some_of-length : {A : Type 0} (xs : List A) → is_some_of xs ≡ true → 1 ≤ length xs
is_some_of-length [] is = absurd (cc)
is_some_of-length (x ∷ xs) is = omega arith

-- the names of a component's phases
phase_names_in-are : (values : Option Row) → IfOk (phase_names_in values) ArePhaseNames
phase_names_in-are None = record { some = omega arith; few = omega arith; named = refl; once = refl }
phase_names_in-are (Some row) =
    test-IfOk ArePhaseNames (is_some_of row.words && list_all is_name row.words) (BadValue row.line) _ (λ form.
    test-IfOk ArePhaseNames (are_distinct row.words) (PhaseTwice row.line) _ (λ once.
    test-IfOk ArePhaseNames (leb (length row.words) 16) (TooManyPhases (length row.words)) _ (λ few.
    let both = and_parts (is_some_of row.words) (list_all is_name row.words) form in
    record { some = is_some_of-length row.words both.0; few = leb-true (length row.words) 16 few; named = both.1; once = once })))

-- what is advertised of a component
advertised_component-is : (entries : List Entry) (name : List ℕ) (dict : Dictionary) → All (λ entry. HasShortRows entry.item) entries → IfOk (advertised_component entries name dict) IsAdvertised
unfolding advertised_component
advertised_component-is entries name dict short =
    bind-IfOk IsAdvertised (kind_in (own_values entries name (codes "_kind"))) _ (λ kind _.
    bind-fact IsAdvertised (λ bounds. ForSome bounds AreBounds) (bounds_in (own_values entries name (codes "_petlist_bounds"))) _
    (bounds_in-are (own_values entries name (codes "_petlist_bounds"))) (λ bounds can_be.
    bind-fact IsAdvertised AreOwnFields (fields_in dict entries name) _ (fields_in-are dict entries name short) (λ fields own.
    bind-fact IsAdvertised ArePhaseNames (phase_names_in (own_values entries name (codes "_phases"))) _
    (phase_names_in-are (own_values entries name (codes "_phases"))) (λ phases labels.
    record {
      bounds = can_be;
      few_fields = own.few;
      named = own.are.named;
      names = own.are.names;
      order = own.order;
      short = own.are.short;
      unasked = own.are.unasked;
      some_phases = labels.some;
      few_phases = labels.few;
      phase_names = labels.named;
      phases_once = labels.once;
    }))))

-- what was advertised of a component
pub advertised-is : (entries : List Entry) (name : List ℕ) (dict : Dictionary) (ad : Advertisement) → All (λ entry. HasShortRows entry.item) entries → advertised_component entries name dict ≡ Ok ad → IsAdvertised ad
advertised-is entries name dict ad short is =
    ok-fact IsAdvertised (advertised_component entries name dict) ad (advertised_component-is entries name dict short) is
