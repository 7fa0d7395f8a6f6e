-- What a run sequence is when all its rows are read.
use Rattle.std.specs.Prelude.{ℕ, ℤ, pos, ◌+◌, ◌-◌, Bool, not, ◌&&◌, ◌||◌, ◌==◌, if◌then◌else◌, nat_lt, List, [], ◌∷◌, sum_by, Option, Some, None, is_some, option_map, unsigned_abs, Result, Ok, Err}
use Rattle.std.specs.List.{list_any}
use Rattle.std.specs.Option.{unwrap_or}
use Rattle.cpl_base.specs.ResultChain.{◌>>=◌, ok_if}
use Rattle.cpl_base.specs.Words.{is_some_of}
use Rattle.cpl_config.specs.declared.row.Row.{Row}
use Rattle.cpl_sequence.specs.Sequence.{Sequence}
use Rattle.cpl_sequence.specs.declared.element.TopLoop.{TopLoop}
use Rattle.cpl_sequence.specs.declared.seq_name.SeqName.{SeqName}
use Rattle.cpl_runseq.specs.Reading.{Reading, after_rows, divides, empty_reading, innermost_loop}
use Rattle.cpl_runseq.specs.declared.fault.SeqFault.{SeqFault}
use Rattle.cpl_runseq.specs.declared.fault.SeqFault.TheVariants.{LoopUnclosed, DurationMissing, SpanMismatch, StepUneven, SpanTooLong}
use Rattle.cpl_runseq.specs.declared.read_loop.ReadLoop.{ReadLoop}

-- no loop is open
abbrev pub closed_check : Option ReadLoop → Result (Unit {0}) SeqFault
closed_check None = Ok tt
closed_check (Some l) = Err (LoopUnclosed l.line)

-- every top loop has a duration, but for the last one where the run's span is given
abbrev pub durations_check : Option ℕ → List ReadLoop → Result (Unit {0}) SeqFault
durations_check span [] = Ok tt
durations_check span (l ∷ more) =
    if is_some l.given || (is_some span && not (is_some_of more)) then durations_check span more
    else Err (DurationMissing l.line)

-- how long the loops with a duration last together
abbrev pub total_duration : List ReadLoop → ℕ
total_duration loops = sum_by (λ l. unwrap_or l.given 0) loops

-- whether a loop takes the rest of the span
abbrev pub has_rest : List ReadLoop → Bool
has_rest loops = list_any (λ l. not (is_some l.given)) loops

-- whether the durations make up the span, or leave something of it where a loop takes the rest
abbrev pub makes_up : ℕ → List ReadLoop → Bool
makes_up span loops = if has_rest loops then nat_lt (total_duration loops) span else total_duration loops == span

-- the step of a loop that takes the rest divides it
abbrev pub rest_check : ℕ → List ReadLoop → Result (Unit {0}) SeqFault
rest_check rest [] = Ok tt
rest_check rest (l ∷ more) = if is_some l.given || divides l.step rest then rest_check rest more else Err (StepUneven l.line)

-- how long the run lasts where that is given
abbrev pub given_span : ℕ → List ReadLoop → Result ℕ SeqFault
given_span span loops =
    ok_if (makes_up span loops) (SpanMismatch (total_duration loops) (pos span)) >>= (λ _.
    rest_check (span - total_duration loops) loops >>= (λ _. Ok span))

-- how long it lasts where that isn't given: as long as its loops
abbrev pub own_span : ℕ → List ReadLoop → Result ℕ SeqFault
own_span room loops = if nat_lt 0 (total_duration loops) && nat_lt (total_duration loops) room then Ok (total_duration loops) else Err (SpanTooLong (total_duration loops))

-- how long the run lasts
abbrev pub span_of : Option ℕ → ℕ → List ReadLoop → Result ℕ SeqFault
span_of (Some span) room loops = given_span span loops
span_of None room loops = own_span room loops

-- the top loops, one behind another in time from a beginning, where a loop without a duration takes the rest
abbrev pub top_loops : ℕ → ℕ → List ReadLoop → List TopLoop
top_loops begin rest [] = []
top_loops begin rest (l ∷ more) =
    record { begin = begin; step = l.step; duration = unwrap_or l.given rest; body = l.body } ∷ top_loops (begin + unwrap_or l.given rest) rest more

-- the sequence, once all rows are read
abbrev pub whole_of : Option ℕ → ℕ → Reading → Result Sequence SeqFault
whole_of span room reading =
    closed_check (innermost_loop reading.open_loops) >>= (λ _.
    durations_check span reading.loops >>= (λ _.
    span_of span room reading.loops >>= (λ length.
    Ok (record { links = reading.links; loops = top_loops 0 (length - total_duration reading.loops) reading.loops; span = pos length }))))

-- the sequence that rows are as they are written, over these components, or the first fault; with the span and the
-- step where they are given, and the room, all in seconds
unfoldable pub sequence_of : List SeqName → (span time_step : Option ℤ) → (room : ℤ) → List Row → Result Sequence SeqFault
sequence_of names span time_step room rows =
    after_rows (option_map unsigned_abs time_step) names empty_reading rows >>= whole_of (option_map unsigned_abs span) (unsigned_abs room)
