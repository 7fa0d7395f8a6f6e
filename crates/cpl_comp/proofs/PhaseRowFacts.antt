-- What holds of the rows of a phase that were read, one after another.
use Rattle.std.proofs.Common.{◌≡◌, ℕ, ◌+◌, ◌*◌, ◌%◌, ◌<◌, ◌≤◌, ◌==◌, Bool, true, false, not, ◌&&◌, ◌||◌, nat_le, nat_lt, List, [], ◌∷◌, ◌++◌, length, map, All, Option, Some, None, Result, IfSome, IfOk, refl, sym, ap, ◌∙◌, subst, arith, append_assoc}
use Rattle.std.specs.List.{list_all, list_any, slice_get}
use Rattle.std.specs.Str.{bytes_eq}
use Rattle.std.proofs.lemmas.Bool.{and_parts, false≢true, leb-true, ltb-true, not-true, or_parts}
use Rattle.std.proofs.lemmas.List.{append-nil, length-append}
use Rattle.std.proofs.lemmas.List.Elements.{All-append, All-map, All-nil, All-push}
use Rattle.cpl_base.specs.ResultChain.{◌>>=◌}
use Rattle.cpl_base.specs.Words.{is_name}
use Rattle.cpl_config.specs.declared.row.Row.{Row}
use Rattle.cpl_comp.specs.Components.{IsMerge, IsPhase, IsRange, IsRule, IsTerm, limits_of}
use Rattle.cpl_comp.specs.PhaseRows.{PhaseRows, PhaseScope, after_form, after_row, after_rows, field_place, is_added, is_mediator, is_own, is_written, may_stand, no_rows, row_field, term_of, terms_with, with_add, with_average, with_merge, with_range, with_set}
use Rattle.cpl_comp.specs.Realised.{phase_of}
use Rattle.cpl_comp.specs.RowForms.{RowForm, assign, check, add, average, merge, no_form, are_terms, row_form}
use Rattle.cpl_comp.specs.Rules.{rule_of}
use Rattle.cpl_comp.specs.declared.component.Kind.{Kind}
use Rattle.cpl_comp.specs.declared.component.Kind.TheVariants.{Model}
use Rattle.cpl_comp.specs.declared.component.MergeRow.{MergeRow}
use Rattle.cpl_comp.specs.declared.component.RangeRow.{RangeRow}
use Rattle.cpl_comp.specs.declared.component.Rule.{Rule}
use Rattle.cpl_comp.specs.declared.component.SetRow.{SetRow}
use Rattle.cpl_comp.specs.declared.fault.CompFault.{CompFault}
use Rattle.cpl_comp.specs.declared.fault.CompFault.TheVariants.{NameUnknown}
use Rattle.cpl_comp.proofs.ListFacts.{AreOnce, IsApart, apart-append, apart-none, list_all-insert, map-insert, once-insert, once-pairs, position-below}
use Rattle.cpl_comp.proofs.ResultFacts.{bind-fact, bind-some_fact, some-IfOk, some-fact}
use Rattle.cpl_comp.proofs.RowFormFacts.{IsForm, row_form-form}
use Rattle.cpl_comp.proofs.RuleFacts.{IsRuleOver, rule_of-over}

-- ---- fields that are given values

-- Places of fields that are no imports, each once.
record AreGiven (scope : PhaseScope) (places : List ℕ) : Type 0 where
  own : list_all (λ k. is_own (slice_get scope.roles k)) places ≡ true
  once : AreOnce places

-- one more that stands not among them
given-insert : (scope : PhaseScope) (xs ys : List ℕ) (z : ℕ) → AreGiven scope (xs ++ ys) → is_own (slice_get scope.roles z) ≡ true → IsApart z (xs ++ ys) → AreGiven scope (xs ++ z ∷ ys)
given-insert scope xs ys z given own apart = record {
  own = list_all-insert (λ k. is_own (slice_get scope.roles k)) xs ys z given.own own;
  once = once-insert xs ys z given.once apart;
}

-- the fields that take a new value
abbrev written_in : PhaseRows → List ℕ
written_in rows = map (λ row. row.field) rows.sets ++ map (λ row. row.field) rows.merges ++ rows.averages

-- the fields for which a value is kept
abbrev added_in : PhaseRows → List ℕ
added_in rows = map (λ row. row.field) rows.adds

-- a list is what a function that changes nothing makes of it
map-same : (xs : List ℕ) → map (λ x. x) xs ≡ xs
map-same [] = refl
map-same (x ∷ xs) = ap (λ (ys : List ℕ). x ∷ ys) (map-same xs)

-- a field that takes no new value yet
unwritten-apart : (rows : PhaseRows) (field : ℕ) → is_written rows field ≡ false → IsApart field (written_in rows)
unwritten-apart rows field none =
    let sets = list_any (λ (row : SetRow). row.field == field) rows.sets in
    let merges = list_any (λ (row : MergeRow). row.field == field) rows.merges in
    let averages = list_any (λ (other : ℕ). other == field) rows.averages in
    let first = or_parts (sets || merges) averages none in
    let second = or_parts sets merges first.0 in
    let last : IsApart field rows.averages = subst (IsApart field) (map-same rows.averages) (apart-none (λ (x : ℕ). x) rows.averages field first.1) in
    apart-append field (map (λ row. row.field) rows.sets ++ map (λ row. row.field) rows.merges) rows.averages
    (apart-append field (map (λ row. row.field) rows.sets) (map (λ row. row.field) rows.merges) (apart-none (λ (row : SetRow). row.field) rows.sets field second.0) (apart-none (λ (row : MergeRow). row.field) rows.merges field second.1))
    last

-- ---- the rows

-- What holds of the rows of a phase.
pub record AreRows (pets : ℕ) (scope : PhaseScope) (rows : PhaseRows) : Type 0 where
  set_rules : All (λ row. IsRule (limits_of pets scope.rules.alarms scope.rules.signs) (length scope.roles) row.rule) rows.sets
  add_rules : All (λ row. IsRule (limits_of pets scope.rules.alarms scope.rules.signs) (length scope.roles) row.rule) rows.adds
  merges : All (IsMerge (length scope.roles)) rows.merges
  ranges : All (IsRange (length scope.roles)) rows.ranges
  few_ranges : length rows.ranges ≤ 8
  few_averages : length rows.averages ≤ 64
  written : AreGiven scope (written_in rows)
  added : AreGiven scope (added_in rows)
  model : scope.kind ≡ Model → (rows.adds ≡ []) × (rows.averages ≡ []) × (rows.merges ≡ [])

-- none are
pub no_rows-are : (pets : ℕ) (scope : PhaseScope) → AreRows pets scope no_rows
no_rows-are pets scope = record {
  set_rules = All-nil _;
  add_rules = All-nil _;
  merges = All-nil _;
  ranges = All-nil _;
  few_ranges = omega arith;
  few_averages = omega arith;
  written = record { own = refl; once = tt };
  added = record { own = refl; once = tt };
  model = λ kind. (refl, refl, refl);
}

-- no component is both
model-mediator : {A : Type 0} (kind : Kind) → is_mediator kind ≡ true → kind ≡ Model → A
model-mediator kind mediator model = let P : Kind → Type 0 = λ k. is_mediator k ≡ true in absurd (false≢true (subst P model mediator))

-- What may be asked of a field before a row gives it a value.
record MayStand (scope : PhaseScope) (stands : ℕ → Bool) (field : ℕ) : Type 0 where
  own : is_own (slice_get scope.roles field) ≡ true
  fresh : stands field ≡ false

-- a field that was found
place-stands : (scope : PhaseScope) (stands : ℕ → Bool) (place : Option ℕ) (field : ℕ) → may_stand scope stands place ≡ true → place ≡ Some field → MayStand scope stands field
place-stands scope stands place field may is =
    let P : Option ℕ → Type 0 = λ p. may_stand scope stands p ≡ true in
    let parts = and_parts (is_own (slice_get scope.roles field)) (not (stands field)) (subst P is may) in
    record { own = parts.0; fresh = not-true (stands field) parts.1 }

-- ---- one row more

-- a field takes a rule's value
with_set-are : (pets : ℕ) (scope : PhaseScope) (rows : PhaseRows) (row : SetRow) → AreRows pets scope rows → IsRule (limits_of pets scope.rules.alarms scope.rules.signs) (length scope.roles) row.rule → MayStand scope (is_written rows) row.field → AreRows pets scope (with_set rows row)
with_set-are pets scope rows row are rule stands =
    let sets = map (λ (row : SetRow). row.field) rows.sets in
    let merges = map (λ (row : MergeRow). row.field) rows.merges in
    let joined : (sets ++ merges) ++ rows.averages ≡ sets ++ (merges ++ rows.averages) = append_assoc sets merges rows.averages in
    let given = given-insert scope sets (merges ++ rows.averages) row.field (subst (AreGiven scope) joined are.written) stands.own (subst (IsApart row.field) joined (unwritten-apart rows row.field stands.fresh)) in
    let same : sets ++ row.field ∷ (merges ++ rows.averages) ≡ (map (λ (row : SetRow). row.field) (rows.sets ++ row ∷ []) ++ merges) ++ rows.averages =
    sym (append_assoc sets (row.field ∷ merges) rows.averages) ∙ ap (λ (xs : List ℕ). xs ++ rows.averages) (sym (map-insert (λ (row : SetRow). row.field) rows.sets row merges)) in
    record {
      set_rules = All-push (λ row. IsRule (limits_of pets scope.rules.alarms scope.rules.signs) (length scope.roles) row.rule) rows.sets row are.set_rules rule;
      add_rules = are.add_rules;
      merges = are.merges;
      ranges = are.ranges;
      few_ranges = are.few_ranges;
      few_averages = are.few_averages;
      written = subst (AreGiven scope) same given;
      added = are.added;
      model = are.model;
    }

-- a field takes a sum of products
with_merge-are : (pets : ℕ) (scope : PhaseScope) (rows : PhaseRows) (row : MergeRow) → AreRows pets scope rows → is_mediator scope.kind ≡ true → IsMerge (length scope.roles) row → MayStand scope (is_written rows) row.field → AreRows pets scope (with_merge rows row)
with_merge-are pets scope rows row are mediator fits stands =
    let sets = map (λ (row : SetRow). row.field) rows.sets in
    let merges = map (λ (row : MergeRow). row.field) rows.merges in
    let given = given-insert scope (sets ++ merges) rows.averages row.field are.written stands.own (unwritten-apart rows row.field stands.fresh) in
    let more = map (λ (row : MergeRow). row.field) (rows.merges ++ row ∷ []) in
    let same : (sets ++ merges) ++ row.field ∷ rows.averages ≡ (sets ++ more) ++ rows.averages =
    append_assoc sets merges (row.field ∷ rows.averages) ∙ ap (λ (xs : List ℕ). sets ++ xs) (sym (map-insert (λ (row : MergeRow). row.field) rows.merges row rows.averages)) ∙ sym (append_assoc sets more rows.averages) in
    record {
      set_rules = are.set_rules;
      add_rules = are.add_rules;
      merges = All-push (IsMerge (length scope.roles)) rows.merges row are.merges fits;
      ranges = are.ranges;
      few_ranges = are.few_ranges;
      few_averages = are.few_averages;
      written = subst (AreGiven scope) same given;
      added = are.added;
      model = λ model. model-mediator scope.kind mediator model;
    }

-- a field takes the mean of what was kept for it
with_average-are : (pets : ℕ) (scope : PhaseScope) (rows : PhaseRows) (field : ℕ) → AreRows pets scope rows → is_mediator scope.kind ≡ true → length rows.averages < 64 → MayStand scope (is_written rows) field → AreRows pets scope (with_average rows field)
with_average-are pets scope rows field are mediator few stands =
    let sets = map (λ (row : SetRow). row.field) rows.sets in
    let merges = map (λ (row : MergeRow). row.field) rows.merges in
    let all = written_in rows in
    let given = given-insert scope all [] field (subst (AreGiven scope) (sym (append-nil all)) are.written) stands.own (subst (IsApart field) (sym (append-nil all)) (unwritten-apart rows field stands.fresh)) in
    let same : all ++ field ∷ [] ≡ (sets ++ merges) ++ (rows.averages ++ field ∷ []) = append_assoc (sets ++ merges) rows.averages (field ∷ []) in
    record {
      set_rules = are.set_rules;
      add_rules = are.add_rules;
      merges = are.merges;
      ranges = are.ranges;
      few_ranges = are.few_ranges;
      few_averages = omega (arith, length-append rows.averages (field ∷ []));
      written = subst (AreGiven scope) same given;
      added = are.added;
      model = λ model. model-mediator scope.kind mediator model;
    }

-- a rule's value is kept for a field
with_add-are : (pets : ℕ) (scope : PhaseScope) (rows : PhaseRows) (row : SetRow) → AreRows pets scope rows → is_mediator scope.kind ≡ true → IsRule (limits_of pets scope.rules.alarms scope.rules.signs) (length scope.roles) row.rule → MayStand scope (is_added rows) row.field → AreRows pets scope (with_add rows row)
with_add-are pets scope rows row are mediator rule stands =
    let adds = map (λ (row : SetRow). row.field) rows.adds in
    let nil = sym (append-nil adds) in
    let apart : IsApart row.field adds = apart-none (λ (row : SetRow). row.field) rows.adds row.field stands.fresh in
    let given = given-insert scope adds [] row.field (subst (AreGiven scope) nil are.added) stands.own (subst (IsApart row.field) nil apart) in
    let same : adds ++ row.field ∷ [] ≡ map (λ (row : SetRow). row.field) (rows.adds ++ row ∷ []) = sym (map-insert (λ (row : SetRow). row.field) rows.adds row []) ∙ append-nil _ in
    record {
      set_rules = are.set_rules;
      add_rules = All-push (λ row. IsRule (limits_of pets scope.rules.alarms scope.rules.signs) (length scope.roles) row.rule) rows.adds row are.add_rules rule;
      merges = are.merges;
      ranges = are.ranges;
      few_ranges = are.few_ranges;
      few_averages = are.few_averages;
      written = are.written;
      added = subst (AreGiven scope) same given;
      model = λ model. model-mediator scope.kind mediator model;
    }

-- a field's values must lie in a range
with_range-are : (pets : ℕ) (scope : PhaseScope) (rows : PhaseRows) (row : RangeRow) → AreRows pets scope rows → length rows.ranges < 8 → IsRange (length scope.roles) row → AreRows pets scope (with_range rows row)
with_range-are pets scope rows row are few fits = record {
  set_rules = are.set_rules;
  add_rules = are.add_rules;
  merges = are.merges;
  ranges = All-push (IsRange (length scope.roles)) rows.ranges row are.ranges fits;
  few_ranges = omega (arith, length-append rows.ranges (row ∷ []));
  few_averages = are.few_averages;
  written = are.written;
  added = are.added;
  model = are.model;
}

-- ---- products

-- a place of a field
place-below : (scope : PhaseScope) (name : List ℕ) (field : ℕ) → length scope.roles ≡ length scope.rules.fields → field_place scope name ≡ Some field → field < length scope.roles
place-below scope name field same is =
    let below = position-below (λ (other : List ℕ). bytes_eq other name) scope.rules.fields field is in
    omega arith

-- a place of a field, if there is one
place-within : (scope : PhaseScope) (name : List ℕ) (place : Option ℕ) → length scope.roles ≡ length scope.rules.fields → field_place scope name ≡ place → IfSome place (λ k. k < length scope.roles)
place-within scope name None same is = tt
place-within scope name (Some field) same is = place-below scope name field same is

-- a product of two fields
term_of-is : (fields : ℕ) (first second : Option ℕ) → IfSome first (λ k. k < fields) → IfSome second (λ k. k < fields) → IfSome (term_of first second) (IsTerm fields)
term_of-is fields (Some a) (Some b) below under = record { first = below; second = under }
term_of-is fields (Some a) None below under = tt
term_of-is fields None second below under = tt

-- Products of fields among so many, of so many words.
record AreTerms (fields words : ℕ) (terms : List (ℕ × ℕ)) : Type 0 where
  each : All (IsTerm fields) terms
  count : length terms * 2 ≡ words

-- further words two by two
terms_with-are : (scope : PhaseScope) (before : List (ℕ × ℕ)) (words : List (List ℕ)) → length scope.roles ≡ length scope.rules.fields → All (IsTerm (length scope.roles)) before → IfSome (terms_with scope before words) (AreTerms (length scope.roles) (length before * 2 + length words))
terms_with-are scope before [] same are = record { each = are; count = omega arith }
terms_with-are scope before (word ∷ []) same are = tt
terms_with-are scope before (first ∷ second ∷ words) same are =
    bind-some_fact (AreTerms (length scope.roles) (length before * 2 + length (first ∷ second ∷ words))) (IsTerm (length scope.roles)) (term_of (field_place scope first) (field_place scope second)) _
    (term_of-is (length scope.roles) (field_place scope first) (field_place scope second) (place-within scope first _ same refl) (place-within scope second _ same refl))
    (λ term is.
    let longer = length-append before (term ∷ []) in
    let count : length (before ++ term ∷ []) * 2 + length words ≡ length before * 2 + length (first ∷ second ∷ words) = omega arith in
    subst (λ (n : ℕ). IfSome (terms_with scope (before ++ term ∷ []) words) (AreTerms (length scope.roles) n)) count
    (terms_with-are scope (before ++ term ∷ []) words same (All-push (IsTerm (length scope.roles)) before term are is)))

-- a sum of products
merge-is : (fields : ℕ) (words : List (List ℕ)) (row : MergeRow) → are_terms words ≡ true → AreTerms fields (length words) row.terms → IsMerge fields row
merge-is fields words row fit terms =
    let first = and_parts (nat_le 2 (length words) && nat_le (length words) 64) (length words % 2 == 0) fit in
    let second = and_parts (nat_le 2 (length words)) (nat_le (length words) 64) first.0 in
    let least = leb-true 2 (length words) second.0 in
    let most = leb-true (length words) 64 second.1 in
    let count = terms.count in
    record { some = omega arith; few = omega arith; terms = terms.each }

-- ---- rows as they are read

-- a rule over what a scope names is one over its fields
rule-is : (pets : ℕ) (scope : PhaseScope) (rule : Rule) → length scope.roles ≡ length scope.rules.fields → IsRuleOver pets scope.rules rule → IsRule (limits_of pets scope.rules.alarms scope.rules.signs) (length scope.roles) rule
rule-is pets scope rule same over = let P : ℕ → Type 0 = λ n. IsRule (limits_of pets scope.rules.alarms scope.rules.signs) n rule in subst P (sym same) over.is

-- what holds of a row's answer, if it does where the field is there and may stand
row_field-IfOk : {B : Type 0} (P : B → Type 0) (line : ℕ) (stands : Bool) (place : Option ℕ) (f : ℕ → Result B CompFault) → (stands ≡ true → (field : ℕ) → place ≡ Some field → IfOk (f field) P) → IfOk (row_field line stands place >>= f) P
row_field-IfOk P line true (Some field) f holds = holds refl field refl
row_field-IfOk P line true None f holds = tt
row_field-IfOk P line false place f holds = tt

-- one row more, by its form
after_form-are : (pets : ℕ) (scope : PhaseScope) (rows : PhaseRows) (line : ℕ) (form : RowForm) → length scope.roles ≡ length scope.rules.fields → IsForm form → AreRows pets scope rows → IfOk (after_form scope rows line form) (AreRows pets scope)
after_form-are pets scope rows line (assign name words) same fit are =
    row_field-IfOk (AreRows pets scope) line (may_stand scope (is_written rows) (field_place scope name)) (field_place scope name) _ (λ may field is.
    bind-fact (AreRows pets scope) (IsRuleOver pets scope.rules) (rule_of scope.rules line words) _ (rule_of-over pets scope.rules line words) (λ rule over.
    with_set-are pets scope rows (record { field = field; rule = rule }) are (rule-is pets scope rule same over) (place-stands scope (is_written rows) (field_place scope name) field may is)))
after_form-are pets scope rows line (check name low high) same fit are =
    row_field-IfOk (AreRows pets scope) line (nat_lt (length rows.ranges) 8) (field_place scope name) _ (λ few field is.
    with_range-are pets scope rows (record { field = field; low = low; high = high }) are (ltb-true (length rows.ranges) 8 few)
    (record { field = place-below scope name field same is; low = fit.least; high = fit.most; ordered = fit.ordered }))
after_form-are pets scope rows line (add name words) same fit are =
    row_field-IfOk (AreRows pets scope) line (is_mediator scope.kind && may_stand scope (is_added rows) (field_place scope name)) (field_place scope name) _ (λ test field is.
    bind-fact (AreRows pets scope) (IsRuleOver pets scope.rules) (rule_of scope.rules line words) _ (rule_of-over pets scope.rules line words) (λ rule over.
    let parts = and_parts (is_mediator scope.kind) (may_stand scope (is_added rows) (field_place scope name)) test in
    with_add-are pets scope rows (record { field = field; rule = rule }) are parts.0 (rule-is pets scope rule same over) (place-stands scope (is_added rows) (field_place scope name) field parts.1 is)))
after_form-are pets scope rows line (average name) same fit are =
    row_field-IfOk (AreRows pets scope) line (is_mediator scope.kind && nat_lt (length rows.averages) 64 && may_stand scope (is_written rows) (field_place scope name)) (field_place scope name) _ (λ test field is.
    let parts = and_parts (is_mediator scope.kind && nat_lt (length rows.averages) 64) (may_stand scope (is_written rows) (field_place scope name)) test in
    let first = and_parts (is_mediator scope.kind) (nat_lt (length rows.averages) 64) parts.0 in
    with_average-are pets scope rows field are first.0 (ltb-true (length rows.averages) 64 first.1) (place-stands scope (is_written rows) (field_place scope name) field parts.1 is))
after_form-are pets scope rows line (merge name words) same fit are =
    row_field-IfOk (AreRows pets scope) line (is_mediator scope.kind && may_stand scope (is_written rows) (field_place scope name)) (field_place scope name) _ (λ test field is.
    some-IfOk (AreRows pets scope) (terms_with scope [] words) (NameUnknown line) _ (λ terms found.
    let parts = and_parts (is_mediator scope.kind) (may_stand scope (is_written rows) (field_place scope name)) test in
    let each = terms_with-are scope [] words same (All-nil (IsTerm (length scope.roles))) in
    let zero-more : 0 * 2 + length words ≡ length words = omega arith in
    let made : AreTerms (length scope.roles) (length words) terms = subst (λ (n : ℕ). AreTerms (length scope.roles) n terms) zero-more (some-fact (AreTerms (length scope.roles) (0 * 2 + length words)) (terms_with scope [] words) terms each found) in
    with_merge-are pets scope rows (record { field = field; terms = terms }) are parts.0
    (merge-is (length scope.roles) words (record { field = field; terms = terms }) fit made)
    (place-stands scope (is_written rows) (field_place scope name) field parts.1 is)))
after_form-are pets scope rows line no_form same fit are = tt

-- all rows
pub after_rows-are : (pets : ℕ) (scope : PhaseScope) (rows : PhaseRows) (more : List Row) → length scope.roles ≡ length scope.rules.fields → AreRows pets scope rows → IfOk (after_rows scope rows more) (AreRows pets scope)
after_rows-are pets scope rows [] same are = are
after_rows-are pets scope rows (row ∷ more) same are =
    bind-fact (AreRows pets scope) (AreRows pets scope) (after_row scope rows row) _ (after_form-are pets scope rows row.line (row_form row.words) same (row_form-form row.words) are)
    (λ next fits. after_rows-are pets scope next more same fits)

-- ---- the phase of rows

-- a phase of such rows
pub phase_of-is : (pets : ℕ) (scope : PhaseScope) (label : List ℕ) (rows : PhaseRows) → is_name label ≡ true → AreRows pets scope rows → IsPhase (limits_of pets scope.rules.alarms scope.rules.signs) scope.kind scope.roles (phase_of (length scope.roles) label rows)
phase_of-is pets scope label rows named are =
    let P : Rule → Type 0 = IsRule (limits_of pets scope.rules.alarms scope.rules.signs) (length scope.roles) in
    record {
      named = named;
      rules = All-append P (map (λ (row : SetRow). row.rule) rows.sets) (map (λ (row : SetRow). row.rule) rows.adds) (All-map P (λ (row : SetRow). row.rule) rows.sets are.set_rules) (All-map P (λ (row : SetRow). row.rule) rows.adds are.add_rules);
      merges = are.merges;
      ranges = are.ranges;
      few_ranges = are.few_ranges;
      few_averages = are.few_averages;
      written_own = are.written.own;
      written_once = once-pairs (written_in rows) are.written.once;
      added_own = are.added.own;
      added_once = once-pairs (added_in rows) are.added.once;
      model = λ model. let none = are.model model in record { adds = none.0; averages = none.1; merges = none.2 };
      halo = refl;
    }
