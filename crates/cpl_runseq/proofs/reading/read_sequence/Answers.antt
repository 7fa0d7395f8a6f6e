use Rattle.std.proofs.Common.{◌≡◌, ap, ◌∙◌, to_z-of_z, unsigned_abs}
use Rattle.std.proofs.lemmas.Result.{err_from_is_err_and}
use Rattle.cpl_runseq.proofs.EmptyLoopFacts.{sequence_of-filled}
use Rattle.cpl_runseq.proofs.EmptyLoopOps.{operations-filled}
use Rattle.cpl_runseq.proofs.ResultFacts.{IsCaused-sum}
use Rattle.cpl_runseq.proofs.reading.read_sequence.Goals as goal

pub returns-in_err-sequence : goal.returns-in_err-sequence
returns-in_err-sequence c =
    let p = err_from_is_err_and c.from_residual.result c.from_residual.ensures.1 in
    let room : c.size-room.result ≡ unsigned_abs c.args.room = c.size-room.ensures ∙ ap unsigned_abs (to_z-of_z c.ranges.room) in
    let cause = rw (c.magnitude-span.ensures, c.magnitude-time_step.ensures, room) at c.in_err-sequence.ensures.fault in
    let given = sequence_of-filled c.args.names.now c.args.span c.args.time_step c.args.room c.args.rows.now in
    rw (p.1, p.2) (record {
      answer = record { value = tt; fault = rw given (IsCaused-sum _ c.in_err-sequence.field-0.0 cause) };
      operations = tt;
      over = tt;
    })

pub returns : goal.returns
returns c =
    let room : c.size-room.result ≡ unsigned_abs c.args.room = c.size-room.ensures ∙ ap unsigned_abs (to_z-of_z c.ranges.room) in
    let ok = rw (c.magnitude-span.ensures, c.magnitude-time_step.ensures, room) at c.in_ok-sequence.ensures.ok in
    let given = sequence_of-filled c.args.names.now c.args.span c.args.time_step c.args.room c.args.rows.now ∙ ok in
    record {
      answer = record { value = given; fault = tt };
      operations = operations-filled _ _ given;
      over = c.in_ok-sequence.ensures.over;
    }
