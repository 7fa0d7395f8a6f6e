-- Fields found by the names that are kept beside them.
use Rattle.std.proofs.Common.{◌≡◌, ℕ, Bool, false, cond, List, [], ◌∷◌, ◌++◌, map, refl, sym, ap, ◌∙◌, ◌||◌}
use Rattle.std.proofs.lemmas.List.{map_push}
use Rattle.std.specs.List.{list_any}
use Rattle.std.specs.Str.{bytes_eq}
use Rattle.std.specs.declared.alloc.Global.{Global}
use Rattle.std.specs.declared.vec.Vec.{Vec}
use Rattle.indexmap.specs.IndexSet.{insert_key}
use Rattle.cpl_comp.specs.FieldRows.{has_field}
use Rattle.cpl_comp.specs.NameTable.{HasNames}
use Rattle.cpl_comp.specs.declared.field_rows.FieldRow.{FieldRow}

-- a test of what a function makes of members
pub list_any-map : {A B : Type 0} (p : B → Bool) (f : A → B) (xs : List A) → list_any (λ x. p (f x)) xs ≡ list_any p (map f xs)
list_any-map p f [] = refl
list_any-map p f (x ∷ xs) = ap (λ b. p (f x) || b) (list_any-map p f xs)

-- a name is kept exactly where a field has it
pub has_field-kept : (name : List ℕ) (keys : List (Vec ℕ Global)) (rows : List FieldRow) → HasNames keys rows → list_any (λ key. bytes_eq name key.items) keys ≡ has_field name rows
has_field-kept name keys rows has =
    list_any-map (bytes_eq name) (λ (key : Vec ℕ Global). key.items) keys ∙ ap (list_any (bytes_eq name)) has
    ∙ sym (list_any-map (bytes_eq name) (λ (row : FieldRow). row.name) rows)

-- a new name stands behind the others
pub HasNames-push : (keys after : List (Vec ℕ Global)) (rows : List FieldRow) (key : Vec ℕ Global) (row : FieldRow) → HasNames keys rows → key.items ≡ row.name → has_field row.name rows ≡ false
    → after ≡ insert_key (λ (a b : Vec ℕ Global). bytes_eq a.items b.items) keys key → HasNames after (rows ++ row ∷ [])
HasNames-push keys after rows key row has is fresh grown =
    let absent : list_any (λ (k : Vec ℕ Global). bytes_eq key.items k.items) keys ≡ false = ap (λ name. list_any (λ (k : Vec ℕ Global). bytes_eq name k.items) keys) is ∙ has_field-kept row.name keys rows has ∙ fresh in
    let behind : after ≡ keys ++ key ∷ [] = grown ∙ ap (λ b. cond b keys (keys ++ key ∷ [])) absent in
    ap (map (λ (k : Vec ℕ Global). k.items)) behind ∙ map_push (λ (k : Vec ℕ Global). k.items) keys key
    ∙ (λ j. has j ++ (is j) ∷ []) ∙ sym (map_push (λ (r : FieldRow). r.name) rows row)
