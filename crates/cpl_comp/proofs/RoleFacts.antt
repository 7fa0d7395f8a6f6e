-- Roles in the order of their tables.
use Rattle.std.proofs.Common.{◌≡◌, ℕ, zero, suc, Bool, true, false, List, [], ◌∷◌, ◌++◌, filter, refl, ap, ◌∙◌}
use Rattle.std.proofs.lemmas.List.{append-nil}
use Rattle.std.proofs.lemmas.List.Elements.{filter-append}
use Rattle.cpl_comp.specs.Components.{AreInOrder, is_role}
use Rattle.cpl_comp.specs.declared.component.Role.{Role}
use Rattle.cpl_comp.specs.declared.component.Role.TheVariants.{Var, Import, Export}

-- a role, so many times
abbrev pub copies : ℕ → Role → List Role
copies zero role = []
copies (suc n) role = role ∷ copies n role

-- a test that the role passes keeps all of them
filter-copies : (p : Role → Bool) (role : Role) (n : ℕ) → p role ≡ true → filter p (copies n role) ≡ copies n role
filter-copies p role zero is = refl
filter-copies p role (suc n) is = rw (is, filter-copies p role n is) refl

-- one that it doesn't pass keeps none
filter-copies_none : (p : Role → Bool) (role : Role) (n : ℕ) → p role ≡ false → filter p (copies n role) ≡ []
filter-copies_none p role zero is = refl
filter-copies_none p role (suc n) is = rw (is, filter-copies_none p role n is) refl

-- what a test keeps of three lists
filter-three : (p : Role → Bool) (xs ys zs : List Role) → filter p (xs ++ ys ++ zs) ≡ filter p xs ++ filter p ys ++ filter p zs
filter-three p xs ys zs = filter-append p (xs ++ ys) zs ∙ ap (λ kept. kept ++ filter p zs) (filter-append p xs ys)

-- variables, then imports, then exports are in order
pub order-three : (a b c : ℕ) → AreInOrder (copies a Var ++ copies b Import ++ copies c Export)
order-three a b c =
    let xs = copies a Var in
    let ys = copies b Import in
    let zs = copies c Export in
    let vars : filter (is_role Var) (xs ++ ys ++ zs) ≡ xs =
    rw (filter-three (is_role Var) xs ys zs, filter-copies (is_role Var) Var a refl, filter-copies_none (is_role Var) Import b refl, filter-copies_none (is_role Var) Export c refl, append-nil (xs ++ []), append-nil xs) refl
    in
    let imports : filter (is_role Import) (xs ++ ys ++ zs) ≡ ys =
    rw (filter-three (is_role Import) xs ys zs, filter-copies_none (is_role Import) Var a refl, filter-copies (is_role Import) Import b refl, filter-copies_none (is_role Import) Export c refl, append-nil) refl
    in
    let exports : filter (is_role Export) (xs ++ ys ++ zs) ≡ zs =
    rw (filter-three (is_role Export) xs ys zs, filter-copies_none (is_role Export) Var a refl, filter-copies_none (is_role Export) Import b refl, filter-copies (is_role Export) Export c refl) refl
    in
    rw (vars, imports, exports) refl
