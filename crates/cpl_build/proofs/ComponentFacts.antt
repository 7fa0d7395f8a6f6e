-- What later steps ask of components, and what components give.
use Rattle.std.proofs.Common.{◌≤◌, ◌<◌, ◌^◌, ℤ, List, filter, length, Option, Some, None, IfSome, refl, arith}
use Rattle.std.specs.List.{All}
use Rattle.std.specs.Option.{ForSome}
use Rattle.std.proofs.lemmas.List.{length-map}
use Rattle.std.proofs.lemmas.Nat.{mul-le}
use Rattle.std.proofs.lemmas.List.Elements.{All-filter, All-map, All-weaker}
use Rattle.cpl_build.specs.Outlines.{IsSequenced, comp_values}
use Rattle.cpl_comp.specs.Components.{IsComponent, IsSubstep, Limits}
use Rattle.cpl_comp.specs.declared.component.Comp.{Comp}
use Rattle.cpl_grid.specs.Grid.{cells_in}
use Rattle.cpl_head.specs.Head.{IsHead}
use Rattle.cpl_head.specs.Times.{room_after}
use Rattle.cpl_head.specs.declared.head.Head.{Head}
use Rattle.cpl_init.specs.Orders.{IsListed}
use Rattle.cpl_init.specs.declared.needs.Needs.{Needs}
use Rattle.cpl_match.specs.declared.port.Pair.{Pair}
use Rattle.cpl_runseq.specs.Asked.{HasFewPhases, IsAsked, IsStep}
use Rattle.cpl_script.specs.Matched.{name_of, names_of}
use Rattle.cpl_script.specs.Operations.{is_init_pair, needs_in}

-- a substep is a step
step-of : (substep : Option ℤ) → ForSome substep IsSubstep → IfSome substep IsStep
step-of None is = tt
step-of (Some seconds) is = ((is seconds refl).least, (is seconds refl).most)

-- a component can stand in a run sequence
pub component-sequenced : (limits : Limits) (comp : Comp) → IsComponent limits comp → IsSequenced comp
component-sequenced limits comp is = record { some = is.some_phases; few = is.few_phases; substep = step-of comp.substep is.substep }

-- the names of components, and the times of a head
pub names-asked : (comps : List Comp) (head : Head) → length comps ≤ 32 → All IsSequenced comps → IsHead head → IsAsked (names_of comps) head.span head.time_step (room_after head.cal head.start)
names-asked comps head few are is =
    let count = length-map comps name_of in
    record {
      names_are = record {
        few = record {
          names_few = omega (arith, few, count);
          phases_few = All-map HasFewPhases name_of comps (All-weaker IsSequenced (λ comp. HasFewPhases (name_of comp)) (λ comp s. rw length-map s.few) comps are);
        };
        phases_some = All-map (λ name. 1 ≤ length name.phases) name_of comps (All-weaker IsSequenced (λ comp. 1 ≤ length (name_of comp).phases) (λ comp s. rw length-map s.some) comps are);
        substeps = All-map (λ name. IfSome name.substep IsStep) name_of comps (All-weaker IsSequenced (λ comp. IfSome comp.substep IsStep) (λ comp s. s.substep) comps are);
      };
      step = is.step;
      room_least = is.room_least;
      room_most = is.room_most;
      span_least = is.span_least;
      span_below = is.span_below;
    }

-- what components need before they are initialised is listed, where the ends of all pairs are
pub needs-listed : (comps : List Comp) (pairs : List Pair) → All (λ pair. (pair.src < length comps) × (pair.dst < length comps)) pairs → All (IsListed (length comps)) (needs_in comps pairs)
needs-listed comps pairs ends =
    let P : Pair → Type 0 = λ pair. (pair.src < length comps) × (pair.dst < length comps) in
    let need : Pair → Needs = λ pair. record { component = pair.dst; producer = pair.src } in
    All-map (IsListed (length comps)) need (filter (is_init_pair comps) pairs)
    (All-weaker P (λ pair. IsListed (length comps) (need pair)) (λ pair is. record { component = is.1; producer = is.0 }) (filter (is_init_pair comps) pairs) (All-filter (is_init_pair comps) P pairs ends))

-- a component of at most 64 fields has at most 2^26 values
pub component-values : (limits : Limits) (comp : Comp) → IsComponent limits comp → comp_values comp ≤ 2 ^ 26
component-values limits comp is =
    let most = mul-le (length comp.fields) (cells_in comp.decomp.grid) 64 (2 ^ 20) is.few_fields is.decomposition.grid.cells in
    omega (arith, most)
