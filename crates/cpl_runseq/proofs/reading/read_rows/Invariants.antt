use Rattle.std.proofs.Common.{◌≡◌, drop}
use Rattle.cpl_runseq.specs.FilledReading.{after_rows_filled}
use Rattle.cpl_runseq.specs.Reading.{empty_reading}
use Rattle.cpl_runseq.specs.Views.{reading_view}
use Rattle.cpl_runseq.proofs.reading.read_rows.Given as goal

-- reading on gives what reading all gives
abbrev pub invariant-loop-row : goal.invariant-loop-row
invariant-loop-row l = after_rows_filled l.time_step l.names (reading_view l.state) (drop l.row-index l.rows) ≡ after_rows_filled l.time_step l.names empty_reading l.rows
