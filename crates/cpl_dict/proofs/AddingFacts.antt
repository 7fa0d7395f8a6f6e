-- A dictionary before and after a name is with_name, and before and after a group is.
use Rattle.std.proofs.Common.{◌≡◌, ℕ, ◌<◌, false, List, [], ◌∷◌, ◌++◌, length, map, All, Option, Some, None, Ok, Err, cond, is_some, option_map, Vec, Global, refl, sym, ap, subst, ◌∙◌}
use Rattle.std.proofs.lemmas.Bool.{true≢false}
use Rattle.std.proofs.lemmas.List.{map_push}
use Rattle.cpl_dict.proofs.NamesFacts.{length-names_of}
use Rattle.cpl_dict.proofs.SynonymsFacts.{groups_at-more}
use Rattle.cpl_dict.specs.Dict.{Dictionary, with_name, is_known}
use Rattle.cpl_dict.specs.declared.fault.DictFault.TheVariants.{NameTwice}
use Rattle.cpl_dict.specs.Kept.{IsKept, names_at, names_of}

-- what is kept, with the names counted as contracts see them
pub IsKept-names : (es : List (Vec ℕ Global × List ℕ)) (groups lists : List (List ℕ)) → IsKept (length es) groups lists → IsKept (length (names_of es)) groups lists
IsKept-names es groups lists h = subst (λ n. IsKept n groups lists) (sym (length-names_of es)) h

-- a look-up that finds nothing gives nothing
pub none-from : {A : Type 0} (o : Option A) → is_some o ≡ false → o ≡ None
none-from None h = refl
none-from (Some x) h = absurd (true≢false h)

-- what was mapped is there where it was before
pub is_some-map : {A B : Type 0} (f : A → B) (o : Option A) → is_some (option_map f o) ≡ is_some o
is_some-map f None = refl
is_some-map f (Some x) = refl

-- what contracts see of entries and of the places of groups
abbrev pub view_of : List (Vec ℕ Global × List ℕ) → List (List ℕ) → Dictionary
view_of es groups = record { names = names_of es; calls = map (names_at (names_of es)) groups }

-- a dictionary with one more name
abbrev pub one_more_name : Dictionary → List ℕ → List ℕ → Dictionary
one_more_name d name units = record { names = d.names ++ (name, units) ∷ []; calls = d.calls }

-- what becomes of a dictionary without the name
pub with_name-unknown : (d : Dictionary) (name units : List ℕ) → is_known d name ≡ false → with_name d name units ≡ Ok (one_more_name d name units)
with_name-unknown d name units unknown = ap (λ b. cond b (Err NameTwice) (Ok (one_more_name d name units))) unknown

-- one more entry is one more name, and the groups stay
pub view_of-add : (es after : List (Vec ℕ Global × List ℕ)) (groups : List (List ℕ)) (key : Vec ℕ Global) (name units : List ℕ) → after ≡ es ++ (key, units) ∷ [] → key.items ≡ name → All (All (λ p. p < length (names_of es))) groups
    → one_more_name (view_of es groups) name units ≡ view_of after groups
view_of-add es after groups key name units is bytes placed =
    let names = names_of es in
    let names_are : names_of after ≡ names ++ (name, units) ∷ [] =
    ap names_of is ∙ map_push (λ (e : Vec ℕ Global × List ℕ). (e.0.items, e.1)) es (key, units) ∙ (λ j. names ++ (bytes j, units) ∷ []) in
    let groups_are : map (names_at (names_of after)) groups ≡ map (names_at names) groups =
    ap (λ ns. map (names_at ns) groups) names_are ∙ groups_at-more names (name, units) groups placed in
    sym (λ j. record { names = names_are j; calls = groups_are j })
