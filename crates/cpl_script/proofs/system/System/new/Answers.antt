use Rattle.std.proofs.Common.{◌≡◌, ◌∙◌, ◌⊎◌, List, Result, Ok, Err, ap, rules, subst, sym}
use Rattle.std.proofs.lemmas.Int.{to_z-of_z}
use Rattle.std.proofs.lemmas.Result.{err_from_is_err_and}
use Rattle.std.specs.Int.{w64}
use Rattle.std.specs.List.{All}
use Rattle.cpl_comp.specs.declared.component.Comp.{Comp}
use Rattle.cpl_sequence.specs.declared.op.Op.{Op}
use Rattle.cpl_script.specs.Couplings.{Coupling}
use Rattle.cpl_script.specs.Drafts.{links_from}
use Rattle.cpl_script.specs.Kept.{HasNearHalos, IsKept}
use Rattle.cpl_script.specs.declared.fault.SystemFault.{SystemFault}
use Rattle.cpl_script.specs.declared.fault.SystemFault.TheVariants.{Memory}
use Rattle.cpl_script.specs.declared.halos.HaloRoutes.{HaloRoutes}
use Rattle.cpl_script.proofs.SystemFacts.{drafts-are, drafts-few, drafts-fit, halos-are, halos-passed, halos-refused, links-of_drafts, ops-are, ops-passed, ops-refused, parts-near, system-accepted, system-kept, system-links}
use Rattle.cpl_script.proofs.system.System.new.Goals as goal
use mir.Val.{SFits, of_z, to_z}

pub accepted_ops-requires : goal.accepted_ops-requires
accepted_ops-requires c =
    let drafts = drafts-are c.args.parts c.links.result.now c.items.result.now c.in_ok-drafts.drafts.items c.in_ok-drafts.ensures c.links.ensures.value c.items.ensures in
    drafts-few c.args.parts c.as_slice.result.now c.requires (c.as_slice.ensures.value ∙ drafts)

pub returns-in_err-ops : goal.returns-in_err-ops
returns-in_err-ops c =
    let parts = c.args.parts in
    let fault = c.in_err-ops.field-0.0 in
    let drafts = drafts-are parts c.links.result.now c.items.result.now c.in_ok-drafts.drafts.items c.in_ok-drafts.ensures c.links.ensures.value c.items.ensures in
    let same = ops-are parts c.items-2.result.now c.as_slice.result.now c.items-3.result.now c.items-2.ensures (c.as_slice.ensures.value ∙ drafts) c.items-3.ensures in
    let P : Result (List Op) SystemFault → Type 0 = λ answer. (fault ≡ Memory) ⊎ (answer ≡ Err fault) in
    let p = err_from_is_err_and c.from_residual-in_err-ops.result c.from_residual-in_err-ops.ensures.1 in
    rw (p.1, p.2) (record { answer = record { value = tt; fault = ops-refused parts fault (subst P same c.in_err-ops.ensures.fault) } })

pub accepted_halos-requires-clause-drafts : goal.accepted_halos-requires-clause-drafts
accepted_halos-requires-clause-drafts c =
    let drafts = drafts-are c.args.parts c.links.result.now c.items.result.now c.in_ok-drafts.drafts.items c.in_ok-drafts.ensures c.links.ensures.value c.items.ensures in
    drafts-fit c.args.parts c.items-4.result.now c.as_slice-2.result.now c.requires c.items-4.ensures (c.as_slice-2.ensures.value ∙ drafts)

pub accepted_halos-requires-clause-near : goal.accepted_halos-requires-clause-near
accepted_halos-requires-clause-near c =
    let P : List Comp → Type 0 = λ comps. All HasNearHalos comps in
    subst P (sym c.items-4.ensures) (parts-near c.args.parts c.requires)

pub returns-in_err-halos : goal.returns-in_err-halos
returns-in_err-halos c =
    let parts = c.args.parts in
    let fault = c.in_err-halos.field-0.0 in
    let drafts = drafts-are parts c.links.result.now c.items.result.now c.in_ok-drafts.drafts.items c.in_ok-drafts.ensures c.links.ensures.value c.items.ensures in
    let ops = ops-are parts c.items-2.result.now c.as_slice.result.now c.items-3.result.now c.items-2.ensures (c.as_slice.ensures.value ∙ drafts) c.items-3.ensures in
    let few = ops-passed parts c.in_ok-ops.ops.items (sym ops ∙ c.in_ok-ops.ensures.value) in
    let same = halos-are parts c.items-4.result.now c.as_slice-2.result.now c.items-4.ensures (c.as_slice-2.ensures.value ∙ drafts) in
    let P : Result (List HaloRoutes) SystemFault → Type 0 = λ answer. (fault ≡ Memory) ⊎ (answer ≡ Err fault) in
    let p = err_from_is_err_and c.from_residual-in_err-halos.result c.from_residual-in_err-halos.ensures.1 in
    rw (p.1, p.2) (record { answer = record { value = tt; fault = halos-refused parts fault few.0 (subst P same c.in_err-halos.ensures.fault) } })

pub links_of-requires : goal.links_of-requires
links_of-requires c =
    let drafts = drafts-are c.args.parts c.links.result.now c.items.result.now c.in_ok-drafts.drafts.items c.in_ok-drafts.ensures c.links.ensures.value c.items.ensures in
    drafts-fit c.args.parts c.items-5.result.now c.in_ok-drafts.drafts.items c.requires c.items-5.ensures drafts

pub invariant_of-result : goal.invariant_of-result
invariant_of-result c =
    let parts = c.args.parts in
    let drafts = drafts-are parts c.links.result.now c.items.result.now c.in_ok-drafts.drafts.items c.in_ok-drafts.ensures c.links.ensures.value c.items.ensures in
    let ops = ops-are parts c.items-2.result.now c.as_slice.result.now c.items-3.result.now c.items-2.ensures (c.as_slice.ensures.value ∙ drafts) c.items-3.ensures in
    let few = ops-passed parts c.in_ok-ops.ops.items (sym ops ∙ c.in_ok-ops.ensures.value) in
    let halos = halos-are parts c.items-4.result.now c.as_slice-2.result.now c.items-4.ensures (c.as_slice-2.ensures.value ∙ drafts) in
    let light = halos-passed parts c.in_ok-halos.halos.items (sym halos ∙ c.in_ok-halos.ensures.value) in
    let links = c.of.ensures ∙ c.in_ok-links.ensures ∙ (λ i. links_from (c.items-5.ensures i) (drafts i)) ∙ links-of_drafts parts in
    let fits : SFits w64 parts.start = search rules in
    let P : Coupling → Type 0 = λ coupling. IsKept coupling c.in_ok-halos.halos.items c.in_ok-ops.ops.items in
    subst P (system-links parts c.of.result (to_z w64 (of_z w64 parts.start)) links (to_z-of_z w64 parts.start fits))
    (system-kept parts c.in_ok-halos.halos.items c.in_ok-ops.ops.items c.requires c.links.ensures.sound few.0 light.0 light.1 few.1)

pub returns : goal.returns
returns c =
    let parts = c.args.parts in
    let drafts = drafts-are parts c.links.result.now c.items.result.now c.in_ok-drafts.drafts.items c.in_ok-drafts.ensures c.links.ensures.value c.items.ensures in
    let ops = ops-are parts c.items-2.result.now c.as_slice.result.now c.items-3.result.now c.items-2.ensures (c.as_slice.ensures.value ∙ drafts) c.items-3.ensures in
    let few = ops-passed parts c.in_ok-ops.ops.items (sym ops ∙ c.in_ok-ops.ensures.value) in
    let halos = halos-are parts c.items-4.result.now c.as_slice-2.result.now c.items-4.ensures (c.as_slice-2.ensures.value ∙ drafts) in
    let light = halos-passed parts c.in_ok-halos.halos.items (sym halos ∙ c.in_ok-halos.ensures.value) in
    let links = c.of.ensures ∙ c.in_ok-links.ensures ∙ (λ i. links_from (c.items-5.ensures i) (drafts i)) ∙ links-of_drafts parts in
    let fits : SFits w64 parts.start = search rules in
    let same = system-links parts c.of.result (to_z w64 (of_z w64 parts.start)) links (to_z-of_z w64 parts.start fits) in
    record { answer = record { value = system-accepted parts few.0 light.0 ∙ ap (λ (coupling : Coupling). Ok coupling) same; fault = tt } }
