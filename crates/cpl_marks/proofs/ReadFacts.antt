-- What a phase reads and writes, row by row.
use Rattle.std.proofs.Common.{◌≡◌, ℕ, Bool, List, [], ◌∷◌, ◌++◌, sym, ap, refl, ◌∙◌}
use Rattle.std.proofs.lemmas.List.Folds.{list_any-append}
use Rattle.std.specs.Prelude.{◌||◌, ◌==◌, map}
use Rattle.std.specs.List.{list_any}
use Rattle.cpl_comp.specs.Components.{written_fields}
use Rattle.cpl_comp.specs.Halos.{has_read, is_field_at}
use Rattle.cpl_comp.specs.RunFaults.{is_read}
use Rattle.cpl_comp.specs.Turns.{is_among}
use Rattle.cpl_comp.specs.declared.component.MergeRow.{MergeRow}
use Rattle.cpl_comp.specs.declared.component.Phase.{Phase}
use Rattle.cpl_comp.specs.declared.component.SetRow.{SetRow}

-- whether what is made of some member passes a test
list_any-map : {A B : Type 0} (test : B → Bool) (f : A → B) (xs : List A) → list_any test (map f xs) ≡ list_any (λ x. test (f x)) xs
list_any-map test f [] = refl
list_any-map test f (x ∷ xs) = ap (λ b. test (f x) || b) (list_any-map test f xs)

-- whether what is made of a member of one of two lists passes a test
list_any-two_maps : {A B C : Type 0} (test : C → Bool) (f : A → C) (g : B → C) (xs : List A) (ys : List B)
    → list_any test (map f xs ++ map g ys) ≡ (list_any (λ x. test (f x)) xs || list_any (λ y. test (g y)) ys)
list_any-two_maps test f g xs ys =
    list_any-append test (map f xs) (map g ys)
    ∙ (λ i. list_any-map test f xs i || list_any-map test g ys i)

-- whether some row's rule, or a product, has a field
pub is_read-rows : (phase : Phase) (k : ℕ)
    → ((list_any (λ row. has_read (λ read. is_field_at k read.name) row.rule) phase.sets || list_any (λ row. has_read (λ read. is_field_at k read.name) row.rule) phase.adds)
    || list_any (λ row. list_any (λ term. term.0 == k || term.1 == k) row.terms) phase.merges)
    ≡ is_read phase k
is_read-rows phase k =
    ap (λ b. b || list_any (λ row. list_any (λ term. term.0 == k || term.1 == k) row.terms) phase.merges)
    (sym (list_any-two_maps (has_read (λ read. is_field_at k read.name)) (λ (row : SetRow). row.rule) (λ (row : SetRow). row.rule) phase.sets phase.adds))

-- whether some row sets or sums a field, or is its average
pub is_written-rows : (phase : Phase) (k : ℕ)
    → ((list_any (λ row. row.field == k) phase.sets || list_any (λ row. row.field == k) phase.merges) || list_any (λ other. other == k) phase.averages)
    ≡ is_among (written_fields phase) k
is_written-rows phase k =
    let made = map (λ (row : SetRow). row.field) phase.sets ++ map (λ (row : MergeRow). row.field) phase.merges in
    ap (λ b. b || list_any (λ other. other == k) phase.averages)
    (sym (list_any-two_maps (λ other. other == k) (λ (row : SetRow). row.field) (λ (row : MergeRow). row.field) phase.sets phase.merges))
    ∙ sym (list_any-append (λ other. other == k) made phase.averages)
