use Rattle.std.proofs.Common.{◌∙◌, ap, subst, sym}
use Rattle.std.specs.Prelude.{◌≡◌, ◌≢◌, ◌+◌, ◌<◌, ◌++◌, IfOk, slice_get, Some, None, map, ℕ, length}
use Rattle.std.proofs.lemmas.Option.{slice_get_within}
use Rattle.cpl_comp.specs.Marks.{CompMarks}
use Rattle.cpl_comp.specs.Worlds.{CompWorld}
use Rattle.cpl_entry.specs.Books.{entries_of}
use Rattle.cpl_marks.specs.Faults.{fault_of, least_fault, noted_fault}
use Rattle.cpl_phase.specs.declared.local.LocalComp.{LocalComp}
use Rattle.cpl_rule.specs.Assigned.{answers_of}
use Rattle.cpl_script.specs.SerialRun.{asked_rows, comp_stop, found_in, rows_of, world_before}
use Rattle.cpl_script.specs.Transfers.{comp_at}
use Rattle.cpl_serial.proofs.EngineFacts.{member-there}
use Rattle.cpl_serial.proofs.RunFacts.{come-more, fault-placed, stand-next, stop-is, stop-others}
use Rattle.cpl_serial.specs.Worlds.{op_faults}
use Rattle.cpl_serial.specs.declared.stop.Stop.{Stop}
use Rattle.cpl_serial.proofs.running.run_op.Goals as goal

pub stop_at-requires-clause-fault : goal.stop_at-requires-clause-fault
stop_at-requires-clause-fault g c =
    let coupling = c.args.system.now in
    let entries = answers_of (entries_of c.args.book.now) in
    let k = c.args.k in
    let op = c.args.op in
    let come = c.requires.come in
    let w = world_before coupling entries k in
    let found = c.apply_op.ensures.found w come.before.stands in
    let least : least_fault None (op_faults coupling entries w op) ≡ Some (fault_of c.in-Some.fault) = sym found ∙ ap noted_fault c.in-Some.is in
    fault-placed coupling entries w c.facts.ensures op (fault_of c.in-Some.fault) least

pub returns-in_ok-trace_op-in-None : goal.returns-in_ok-trace_op-in-None
returns-in_ok-trace_op-in-None g c =
    let coupling = c.args.system.now in
    let entries = answers_of (entries_of c.args.book.now) in
    let k = c.args.k in
    let op = c.args.op in
    let come = c.requires.come in
    let w = world_before coupling entries k in
    let found = c.apply_op.ensures.found w come.before.stands in
    let least : least_fault None (op_faults coupling entries w op) ≡ None = sym found ∙ ap noted_fault c.in-None.is in
    let stand = c.apply_op.ensures.after w come.before.stands in
    let next = world_before coupling entries (k + 1) in
    let traced = subst (λ r. IfOk r (λ unit. c.trace_op.new.rows.items ≡ c.args.rows.now.items ++ asked_rows c.args.trace (rows_of coupling next k op))) c.in_ok-trace_op-in-None.was
    (c.trace_op.ensures next (stand-next coupling entries k op c.requires.there c.apply_op.new.self.comps stand)) in
    come-more coupling entries k op c.requires.there c.args.trace c.args.world.now c.args.rows.now.items come c.apply_op.new.self c.trace_op.new.rows.items
    c.apply_op.ensures.made (c.apply_op.ensures.aged k come.before.aged) stand least traced

pub returns-in_ok-stop-in-Some : goal.returns-in_ok-stop-in-Some
returns-in_ok-stop-in-Some g c =
    let coupling = c.args.system.now in
    let entries = answers_of (entries_of c.args.book.now) in
    let k = c.args.k in
    let op = c.args.op in
    let come = c.requires.come in
    let w = world_before coupling entries k in
    let found = c.apply_op.ensures.found w come.before.stands in
    let fault = fault_of c.in-Some.fault in
    let least : least_fault None (op_faults coupling entries w op) ≡ Some fault = sym found ∙ ap noted_fault c.in-Some.is in
    let stand = c.apply_op.ensures.after w come.before.stands in
    let component = c.component_of.result in
    let new = c.apply_op.new.self.comps in
    let stop = c.in_ok-stop-in-Some.stop in
    let runs : (comp_at w component).runs ≡ c.runs_of-runs.result =
    ap (λ n. (comp_at w n).runs) c.component_of.ensures ∙ sym (c.runs_of-runs.ensures w come.before.stands) in
    let others : (n : ℕ) (local : LocalComp) → n ≢ component → slice_get new n ≡ Some local → (comp_at w n).runs ≡ local.marks.runs =
    λ n local other there.
    let below : n < length coupling.comps = subst (λ m. n < m) c.apply_op.ensures.made.whole.size (slice_get_within new n local there) in
    let comp = member-there coupling.comps n below in
    let stood = stand.each n comp.member local comp.stands there in
    let same = stop-others coupling entries w op fault c.requires.op least n (λ is. other (is ∙ sym c.component_of.ensures)) in
    ap (λ (q : CompWorld). q.runs) (sym same) ∙ ap (λ (marks : CompMarks). marks.runs) stood.marks in
    let comps : stop.comps ≡ map comp_stop w =
    subst (λ r. IfOk r (λ (s : Stop). s.comps ≡ map comp_stop w)) c.in_ok-stop-in-Some.was
    (c.stop_at.ensures.comps w (come.before.stands.held.size ∙ sym c.apply_op.ensures.made.whole.size) runs others) in
    stop-is coupling entries k op c.requires.there c.args.trace c.args.world.now c.args.rows.now.items come c.facts.ensures fault least stop
    c.in_ok-stop-in-Some.ensures.op (c.in_ok-stop-in-Some.ensures.found ∙ ap (λ n. found_in k n fault) c.component_of.ensures) comps
