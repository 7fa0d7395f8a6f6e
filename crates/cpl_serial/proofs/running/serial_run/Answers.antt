use Rattle.std.proofs.Common.{◌∙◌, ap, subst, sym}
use Rattle.std.specs.Prelude.{◌≡◌, IfOk, List, None, ℕ, length, map, take}
use Rattle.std.specs.List.{enumerate_from}
use Rattle.cpl_entry.specs.Books.{entries_of}
use Rattle.cpl_rule.specs.Assigned.{answers_of}
use Rattle.cpl_script.specs.Operations.{ops_of}
use Rattle.cpl_script.specs.SerialRun.{Total, asked_rows, comp_end, world_before}
use Rattle.cpl_script.specs.Transfers.{World}
use Rattle.cpl_script.specs.declared.outcome.CompEnd.{CompEnd}
use Rattle.cpl_script.specs.declared.outcome.Outcome.{Outcome}
use Rattle.cpl_trace.specs.declared.row.TraceRow.{TraceRow}
use Rattle.cpl_serial.proofs.OutcomeFacts.{run-ends, total-first, total-world}
use Rattle.cpl_serial.proofs.RunFacts.{asked-none}
use Rattle.cpl_serial.specs.Runs.{HasCome, StopsOrComes}
use Rattle.cpl_serial.proofs.running.serial_run.Goals as goal

pub run_ops-requires-clause-start : goal.run_ops-requires-clause-start
run_ops-requires-clause-start g c =
    let coupling = c.args.system.now in
    let entries = answers_of (entries_of c.args.book.now) in
    let first = total-first coupling entries (ops_of coupling) in
    record {
      before = c.in_ok-world.ensures entries;
      faultless = ap (λ (total : Total). total.found) first;
      traced = c.in_ok-rows.ensures ∙ sym (ap (λ (total : Total). asked_rows c.args.trace total.rows) first ∙ asked-none c.args.trace);
    }

pub returns-in-None : goal.returns-in-None
returns-in-None g c =
    let coupling = c.args.system.now in
    let entries = answers_of (entries_of c.args.book.now) in
    let ops = ops_of coupling in
    let n = length ops in
    let world = c.run_ops.new.world in
    let rows = c.run_ops.new.rows.items in
    let come : HasCome coupling entries c.args.trace n world rows =
    subst (StopsOrComes coupling entries c.args.trace n world rows) c.in-None.is c.in_ok-stop.ensures in
    let ends : World → List CompEnd = λ w. map (comp_end w) (enumerate_from 0 coupling.comps) in
    let made : c.in_ok-comps-in-None.comps ≡ ends (world_before coupling entries n) =
    subst (λ r. IfOk r (λ (made : List CompEnd). made ≡ ends (world_before coupling entries n))) c.in_ok-comps-in-None.was
    (c.ends_of.ensures (world_before coupling entries n) come.before.stands) in
    let comps = made ∙ ap ends (sym (total-world coupling entries (take n ops))) in
    let traced = c.of.ensures ∙ come.traced in
    let outcome : ℕ → List CompEnd → List TraceRow → Outcome = λ done comps trace. record { done = done; comps = comps; fault = None; trace = trace } in
    (λ i. outcome (c.op_count.ensures i) (comps i) (traced i)) ∙ sym (run-ends coupling entries c.args.trace come.faultless)
