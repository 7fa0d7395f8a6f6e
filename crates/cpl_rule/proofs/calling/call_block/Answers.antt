use Rattle.std.proofs.Common.{◌+◌, ◌-◌, arith}
use Rattle.cpl_comp.specs.Readings.{entry_answer}
use Rattle.cpl_entry.specs.Books.{entries_of}
use Rattle.cpl_sweep.specs.Places.{inputs_at}
use Rattle.cpl_rule.specs.Assigned.{answers_of}
use Rattle.cpl_rule.proofs.SweptFacts.{swept-block}
use Rattle.cpl_rule.proofs.calling.call_block.Goals as goal

pub returns : goal.returns
returns g c =
    let first = c.first-first.result in
    let span = c.span-span.result in
    swept-block c.args.frame.now (λ cell. entry_answer (answers_of (entries_of c.args.book.now)) c.args.entry (inputs_at c.args.places.now c.args.fields.now cell)) first span (first + span - first) c.args.out.now c.call_run.new.these
    c.frame_laws.ensures c.first-first.ensures.value c.span-span.ensures.value (omega arith) c.requires.out c.requires.out_values c.call_run.ensures.within c.call_run.ensures.values
