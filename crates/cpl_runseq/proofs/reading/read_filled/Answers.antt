use Rattle.cpl_runseq.proofs.OverFacts.{read_over, whole-over}
use Rattle.cpl_runseq.proofs.ReadingFacts.{read_fits}
use Rattle.cpl_runseq.proofs.reading.read_filled.Goals as goal

pub whole_of-requires-clause-fits : goal.whole_of-requires-clause-fits
whole_of-requires-clause-fits c = read_fits c.args.time_step c.args.names.now c.args.rows.now _ c.in_ok-state.ensures.ok

pub returns-clause-over : goal.returns-clause-over
returns-clause-over c =
    whole-over c.args.names.now c.args.span c.args.room _ c.in_ok-sequence.sequence c.requires.names (read_over c.args.time_step c.args.names.now c.args.rows.now _ c.requires.names c.in_ok-state.ensures.ok)
    c.in_ok-sequence.ensures.ok c.in_ok-sequence.ensures.sound c.in_ok-sequence.ensures.few
