-- Ports are fields of their components, by their roles.
use Rattle.std.proofs.Common.{◌≡◌, ℕ, ◌+◌, ◌<◌, Bool, true, false, cond, not, ◌&&◌, eqb, List, length, get_or, Some, ap, ◌∙◌, sym, refl, subst, arith}
use Rattle.std.specs.Prelude.{slice_get}
use Rattle.std.specs.List.{enumerate_from, list_any}
use Rattle.std.specs.Option.{option_map_or}
use Rattle.std.proofs.lemmas.Bool.{and_parts, eqb-true}
use Rattle.std.proofs.lemmas.List.Folds.{Any-from_list_any}
use Rattle.std.proofs.lemmas.List.FromFn.{get_or-enumerate_from, length-enumerate_from}
use Rattle.std.proofs.lemmas.Option.{slice_get-get_or}
use Rattle.cpl_comp.specs.Turns.{has_role}
use Rattle.cpl_comp.specs.declared.component.Comp.{Comp}
use Rattle.cpl_comp.specs.declared.component.Field.{Field}
use Rattle.cpl_comp.specs.declared.component.Role.{Role}
use Rattle.cpl_comp.specs.declared.component.Role.TheVariants.{Var, Import, Export}
use Rattle.cpl_comp.specs.Components.{is_role}
use Rattle.cpl_match.specs.Pairs.{is_at}
use Rattle.cpl_match.specs.declared.port.Port.{Port}
use Rattle.cpl_script.specs.Matched.{comp_ports, port_by, port_of, ports_of}
use Rattle.cpl_script.proofs.ListFacts.{any-filter_map, any-flat_map}

-- a port is an import or an export, and of this field
abbrev pub is_port : Bool → ℕ → ℕ → Port → Bool
is_port import component field port = cond import port.import (not port.import) && is_at component field port

-- the role of a port
abbrev pub role_for : Bool → Role
role_for true = Import
role_for false = Export

-- What a field is whose port is this one.
record IsPortOf (import : Bool) (component field n k : ℕ) (role : Role) : Type 0 where
  component_is : n ≡ component
  field_is : k ≡ field
  role_is : is_role (role_for import) role ≡ true

-- the port of a field by its role
port-of : (import : Bool) (component field n k : ℕ) (role : Role) (f : Field) → option_map_or (is_port import component field) (port_by role n k f) false ≡ true → IsPortOf import component field n k role
port-of import component field n k Var f is = absurd (cc)
port-of true component field n k Import f is =
    let parts = and_parts (eqb n component) (eqb k field) is in
    record { component_is = eqb-true n component parts.0; field_is = eqb-true k field parts.1; role_is = refl }
port-of true component field n k Export f is = absurd (cc)
port-of false component field n k Import f is = absurd (cc)
port-of false component field n k Export f is =
    let parts = and_parts (eqb n component) (eqb k field) is in
    record { component_is = eqb-true n component parts.0; field_is = eqb-true k field parts.1; role_is = refl }

-- the field of a port of a component has its role
comp-port : (import : Bool) (component field n : ℕ) (comp : Comp) → list_any (is_port import component field) (comp_ports (n, comp)) ≡ true → (n ≡ component) × (has_role (role_for import) comp.fields field ≡ true)
comp-port import component field n comp is =
    let numbered = enumerate_from 0 comp.fields in
    let test = λ (x : ℕ × Field). option_map_or (is_port import component field) (port_of n x) false in
    let some = Any-from_list_any test numbered (sym (any-filter_map (is_port import component field) (port_of n) numbered) ∙ is) in
    let k = some.0 in
    let x = some.1 in
    let inside : k < length comp.fields = omega (arith, some.2, length-enumerate_from 0 comp.fields) in
    let at : (0 + k, get_or comp.fields k x.1) ≡ x = sym (get_or-enumerate_from 0 comp.fields k x inside) ∙ some.3 in
    let of = port-of import component field n x.0 x.1.role x.1 some.4 in
    let zero_on : k ≡ 0 + k = omega arith in
    let place : k ≡ field = zero_on ∙ ap (λ (y : ℕ × Field). y.0) at ∙ of.field_is in
    let got : slice_get comp.fields field ≡ Some x.1 =
    ap (slice_get comp.fields) (sym place) ∙ slice_get-get_or comp.fields k x.1 inside ∙ ap (λ (y : ℕ × Field). Some y.1) at in
    (of.component_is, ap (λ o. option_map_or (λ f. is_role (role_for import) f.role) o false) got ∙ of.role_is)

-- a port among all ports is of a field of that role
pub port-role : (import : Bool) (component field : ℕ) (comps : List Comp) → list_any (is_port import component field) (ports_of comps) ≡ true → (comp : Comp) → slice_get comps component ≡ Some comp → has_role (role_for import) comp.fields field ≡ true
port-role import component field comps is comp there =
    let numbered = enumerate_from 0 comps in
    let test = λ (x : ℕ × Comp). list_any (is_port import component field) (comp_ports x) in
    let some = Any-from_list_any test numbered (sym (any-flat_map (is_port import component field) comp_ports numbered) ∙ is) in
    let k = some.0 in
    let x = some.1 in
    let inside : k < length comps = omega (arith, some.2, length-enumerate_from 0 comps) in
    let at : (0 + k, get_or comps k x.1) ≡ x = sym (get_or-enumerate_from 0 comps k x inside) ∙ some.3 in
    let of = comp-port import component field x.0 x.1 some.4 in
    let zero_on : k ≡ 0 + k = omega arith in
    let place : k ≡ component = zero_on ∙ ap (λ (y : ℕ × Comp). y.0) at ∙ of.0 in
    let got : slice_get comps component ≡ Some x.1 =
    ap (slice_get comps) (sym place) ∙ slice_get-get_or comps k x.1 inside ∙ ap (λ (y : ℕ × Comp). Some y.1) at in
    let same : x.1 ≡ comp = cc in
    subst (λ (c : Comp). has_role (role_for import) c.fields field ≡ true) same of.1
