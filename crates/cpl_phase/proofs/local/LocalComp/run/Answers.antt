use Rattle.std.proofs.Common.{◌∙◌, ap, subst, sym, arith}
use Rattle.std.specs.Prelude.{◌+◌, ◌≤◌, ◌++◌, All}
use Rattle.std.specs.List.{flat_map}
use Rattle.cpl_block.specs.declared.frame.Frame.{Frame}
use Rattle.cpl_comp.specs.RunFaults.{average_faults, cell_faults, first_faults}
use Rattle.cpl_comp.specs.Turns.{fields_after_run}
use Rattle.cpl_entry.specs.Books.{entries_of}
use Rattle.cpl_grid.specs.Parts.{cells_of_part}
use Rattle.cpl_marks.proofs.FaultFacts.{least_fault-append}
use Rattle.cpl_marks.specs.Faults.{least_fault, noted_fault}
use Rattle.cpl_marks.specs.Plans.{is_connected}
use Rattle.cpl_marks.specs.Turns.{turn_of}
use Rattle.cpl_marks.specs.declared.marks.Marks.{Marks}
use Rattle.cpl_rule.specs.Assigned.{answers_of}
use Rattle.cpl_rule.specs.Moments.{timing_of}
use Rattle.cpl_phase.proofs.local.LocalComp.run.Goals as goal

pub returns-clause-aged : goal.returns-clause-aged
returns-clause-aged g c = λ done aged. record {
  runs = omega (arith, c.end.ensures.aged, ap (λ (marks : Marks). marks.runs) c.carry.ensures.marks, aged.runs);
  kept = subst (λ xs. All (λ accum. accum.count ≤ done + 1) xs) (sym c.end.ensures.accums) (c.carry.ensures.aged done aged.kept);
}

pub returns-clause-after : goal.returns-clause-after
returns-clause-after g c = λ stage world there stands arrived.
    c.end.ensures.after stage _ there (c.carry.ensures.after stage world there stands arrived)

pub returns-clause-found : goal.returns-clause-found
returns-clause-found g c = λ stage world there stands arrived.
    let comp = c.args.comp.now in
    let frame = c.args.self.now.frame in
    let turn = turn_of c.args.turn.now in
    let after = fields_after_run (timing_of c.args.times) (answers_of (entries_of c.args.book.now)) comp stage turn world.fields in
    let before = first_faults comp stage turn (is_connected c.args.self.now.connected) world ++ average_faults world.fields stage in
    let ranges : Frame → _ = λ frame. flat_map (cell_faults after stage.ranges) (cells_of_part frame.grid frame.part) in
    let moved = c.carry.ensures.after stage world there stands arrived in
    c.check_after.ensures stage after there moved.values
    ∙ ap (λ (f : Frame). least_fault (noted_fault c.check_before.new.found) (ranges f)) c.carry.ensures.frame
    ∙ ap (λ found. least_fault found (ranges frame)) (c.check_before.ensures stage world there stands)
    ∙ sym (least_fault-append (noted_fault c.args.found.now) before (ranges frame))
