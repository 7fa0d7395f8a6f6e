-- The parts of a system that were read; ports and pairs are of listed components.
use Rattle.std.proofs.Common.{◌≡◌, ℕ, ◌+◌, ◌<◌, Bool, true, List, [], ◌∷◌, length, Option, Some, None, eqb, ◌&&◌, not, refl, sym, subst, ap, arith}
use Rattle.std.specs.List.{All, cons_option, enumerate_from, filter_map, flat_map, list_any, zip}
use Rattle.std.specs.Option.{option_map_or}
use Rattle.std.proofs.lemmas.Bool.{and_parts, eqb-true}
use Rattle.std.proofs.lemmas.List.Elements.{All-append, All-cons, All-nil, All-weaker}
use Rattle.std.proofs.lemmas.List.Folds.{Any-from_list_any}
use Rattle.cpl_build.specs.Builds.{parts_of}
use Rattle.cpl_build.specs.Outlines.{IsOutline}
use Rattle.cpl_build.specs.WeightFiles.{IsWeighed}
use Rattle.cpl_build.specs.declared.outline.Outline.{Outline}
use Rattle.cpl_comp.specs.declared.component.Comp.{Comp}
use Rattle.cpl_comp.specs.declared.component.Field.{Field}
use Rattle.cpl_comp.specs.declared.component.Role.{Role}
use Rattle.cpl_comp.specs.declared.component.Role.TheVariants.{Var, Import, Export}
use Rattle.cpl_dict.specs.Dict.{Dictionary}
use Rattle.cpl_match.specs.Pairs.{ArePairs, IsPair, is_at}
use Rattle.cpl_match.specs.declared.port.Pair.{Pair}
use Rattle.cpl_match.specs.declared.port.Port.{Port}
use Rattle.cpl_match.specs.declared.port.Way.{Way}
use Rattle.cpl_script.specs.Matched.{comp_ports, port_by, port_of, ports_of}
use Rattle.cpl_script.specs.Sound.{AreParts, AreWeights}
use Rattle.cpl_smm.specs.Rows.{Table}

-- ---- ports

-- what there is of a member, and what there is of others
all-found : {Y : Type 0} (P : Y → Type 0) (o : Option Y) (ys : List Y) → ((y : Y) → o ≡ Some y → P y) → All P ys → All P (cons_option o ys)
all-found P None ys each all = all
all-found P (Some y) ys each all = All-cons P y ys (each y refl) all

-- what there is of each member
all-filter_map : {X Y : Type 0} (P : Y → Type 0) (f : X → Option Y) (xs : List X) → ((x : X) (y : Y) → f x ≡ Some y → P y) → All P (filter_map f xs)
all-filter_map P f [] each = All-nil P
all-filter_map P f (x ∷ xs) each = all-found P (f x) (filter_map f xs) (each x) (all-filter_map P f xs each)

-- the port of a field is its component's
port-component : (n k : ℕ) (role : Role) (field : Field) (port : Port) → port_by role n k field ≡ Some port → port.component ≡ n
port-component n k Var field port is = absurd (cc)
port-component n k Import field port is = sym (ap (λ (p : Option Port). option_map_or (λ q. q.component) p n) is)
port-component n k Export field port is = sym (ap (λ (p : Option Port). option_map_or (λ q. q.component) p n) is)

-- the ports of a component
comp-ports : (numbered : ℕ × Comp) → All (λ port. port.component ≡ numbered.0) (comp_ports numbered)
comp-ports numbered =
    all-filter_map (λ port. port.component ≡ numbered.0) (port_of numbered.0) (enumerate_from 0 numbered.1.fields)
    (λ x port is. port-component numbered.0 x.0 x.1.role x.1 port is)

-- the ports of components that are counted from a number on
ports-below : (n : ℕ) (comps : List Comp) → All (λ port. port.component < n + length comps) (flat_map comp_ports (enumerate_from n comps))
ports-below n [] = All-nil (λ port. port.component < n + 0)
ports-below n (comp ∷ comps) =
    let P : Port → Type 0 = λ port. port.component < n + length (comp ∷ comps) in
    let own = All-weaker (λ (port : Port). port.component ≡ n) P (λ port is. omega (arith, is)) (comp_ports (n, comp)) (comp-ports (n, comp)) in
    let rest = All-weaker (λ (port : Port). port.component < (n + 1) + length comps) P (λ port is. omega (arith, is)) (flat_map comp_ports (enumerate_from (n + 1) comps)) (ports-below (n + 1) comps) in
    All-append P (comp_ports (n, comp)) (flat_map comp_ports (enumerate_from (n + 1) comps)) own rest

-- all ports are of listed components
pub ports-listed : (comps : List Comp) → All (λ port. port.component < length comps) (ports_of comps)
ports-listed comps = All-weaker (λ (port : Port). port.component < 0 + length comps) (λ port. port.component < length comps) (λ port is. omega (arith, is)) (ports_of comps) (ports-below 0 comps)

-- ---- pairs

-- a port of a field among ports of listed components: its component is listed
at-listed : (count component field : ℕ) (side : Port → Bool) (ports : List Port) → All (λ port. port.component < count) ports → list_any (λ port. side port && is_at component field port) ports ≡ true → component < count
at-listed count component field side ports listed is =
    let test = λ (port : Port). side port && is_at component field port in
    let some = Any-from_list_any test ports is in
    let k = some.0 in
    let port = some.1 in
    let at = (and_parts (side port) (is_at component field port) some.4).1 in
    let own : port.component ≡ component = eqb-true port.component component (and_parts (eqb port.component component) (eqb port.field field) at).0 in
    let below : port.component < count = subst (λ (p : Port). p.component < count) some.3 (listed k port some.2) in
    omega (arith, own, below)

-- both ends of a pair are listed
pub pairs-listed : (dict : Dictionary) (cells : List ℕ) (ways : List Way) (comps : List Comp) (pairs : List Pair) → ArePairs dict cells ways (ports_of comps) pairs → All (λ pair. (pair.src < length comps) × (pair.dst < length comps)) pairs
pairs-listed dict cells ways comps pairs are =
    All-weaker (IsPair cells ways (ports_of comps)) (λ pair. (pair.src < length comps) × (pair.dst < length comps))
    (λ pair is. (
      at-listed (length comps) pair.src pair.src_field (λ port. not port.import) (ports_of comps) (ports-listed comps) is.export,
      at-listed (length comps) pair.dst pair.dst_field (λ port. port.import) (ports_of comps) (ports-listed comps) is.import,
    )) pairs are.each

-- ---- parts

-- an outline and the weights of its connectors are the parts of a system
pub parts-accepted : (inputs : List ℕ) (outline : Outline) (weights : List (Option Table)) → IsOutline inputs outline → length weights ≡ length outline.seq.links → All (IsWeighed outline.comps) (zip outline.seq.links weights) → AreParts (parts_of outline weights)
parts-accepted inputs outline weights is count weighed = record {
  inputs = inputs;
  comps = is.comps;
  timing = is.timing;
  over = is.over;
  dict = is.dict;
  pairs = is.pairs;
  init = is.init;
  weight_count = count;
  weights = All-weaker (IsWeighed outline.comps) (AreWeights outline.comps outline.pairs) (λ given w. record { redist = w.redist; needed = λ none some. w.weighed none; between = w.between }) (zip outline.seq.links weights) weighed;
}
