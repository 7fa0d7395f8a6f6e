use Rattle.std.proofs.Common.{◌∙◌, ap, subst, sym}
use Rattle.std.specs.Prelude.{◌<◌, length}
use Rattle.cpl_comp.specs.Marks.{CompMarks}
use Rattle.cpl_script.specs.Transfers.{comp_at}
use Rattle.cpl_serial.proofs.EngineFacts.{lent-member, member-there}
use Rattle.cpl_serial.proofs.RunFacts.{run-below}
use Rattle.cpl_serial.proofs.running.runs_of.Goals as goal

pub returns : goal.returns
returns c = λ w stand.
    let coupling = c.args.system.now in
    let locals = c.args.world.now.comps in
    let place = c.component_of-component.result in
    let below : place < length coupling.comps =
    subst (λ n. n < length coupling.comps) (sym c.component_of-component.ensures) (run-below coupling c.facts.ensures c.args.op c.requires.op) in
    let inside : place < length locals = subst (λ n. place < n) (sym c.requires.made.whole.size) below in
    let comp = member-there coupling.comps place below in
    let stands = lent-member locals c.items.result.now place c.index-items-component.result c.items.ensures inside in
    let stood = stand.each place comp.member _ comp.stands stands in
    sym (ap (λ (marks : CompMarks). marks.runs) stood.marks) ∙ ap (λ n. (comp_at w n).runs) c.component_of-component.ensures
