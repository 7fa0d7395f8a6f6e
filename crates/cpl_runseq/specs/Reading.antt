-- What a row does to what was read so far: connectors, loops that are open, and top loops.
use Rattle.std.specs.Prelude.{ℕ, Bool, true, false, not, ◌&&◌, ◌==◌, ◌%◌, nat_le, nat_lt, List, [], ◌∷◌, ◌++◌, length, Option, Some, None, Result, Ok, Err}
use Rattle.std.specs.List.{slice_get}
use Rattle.std.specs.Option.{ok_or, option_or, unwrap_or}
use Rattle.std.specs.Ordering.{int_eq}
use Rattle.std.specs.Str.{bytes_eq}
use Rattle.cpl_base.specs.ResultChain.{◌>>=◌, ok_if}
use Rattle.cpl_config.specs.declared.row.Row.{Row}
use Rattle.cpl_sequence.specs.declared.element.Element.{Element, roll-Element}
use Rattle.cpl_sequence.specs.declared.element.Element.TheOpen.{Link, Run, Loop}
use Rattle.cpl_sequence.specs.declared.link_line.LinkLine.{LinkLine}
use Rattle.cpl_sequence.specs.declared.link_line.Method.{Method}
use Rattle.cpl_sequence.specs.declared.link_line.Method.TheVariants.{Redist, Weights}
use Rattle.cpl_sequence.specs.declared.seq_name.SeqName.{SeqName}
use Rattle.cpl_runseq.specs.Links.{link_at}
use Rattle.cpl_runseq.specs.Names.{component_of, phase_of, substep_of}
use Rattle.cpl_runseq.specs.Options.{Transfer, transfer_of}
use Rattle.cpl_runseq.specs.RowForms.{RowForm, close, opening, bad_step, link, run, bad_element, row_form}
use Rattle.cpl_runseq.specs.RowWords.{row_words}
use Rattle.cpl_runseq.specs.declared.fault.SeqFault.{SeqFault}
use Rattle.cpl_runseq.specs.declared.fault.SeqFault.TheVariants.{BadElement, LoopStray, OutsideLoop, LoopTooDeep, BadStep, StepUnset, StepUneven, ComponentUnknown, PhaseUnknown, SubstepUneven, SelfLink, OptionsDiffer}
use Rattle.cpl_runseq.specs.declared.read_loop.ReadLoop.{ReadLoop}

-- what was read so far: the connectors, the loops that are open (the innermost first), and the closed top loops
pub record Reading : Type 0 where
  pub links : List LinkLine
  pub open_loops : List ReadLoop
  pub loops : List ReadLoop

-- nothing is read yet
abbrev pub empty_reading : Reading
empty_reading = record { links = []; open_loops = []; loops = [] }

-- whether a step divides a time, where both are from 1
abbrev pub divides : ℕ → ℕ → Bool
divides step time = nat_lt 0 step && nat_lt 0 time && time % step == 0

-- whether a step divides a time, where it is given
abbrev pub divides_given : ℕ → Option ℕ → Bool
divides_given step None = true
divides_given step (Some time) = divides step time

-- how long a nested loop lasts: as its row says, else the step around it
abbrev pub loop_duration : Option ℕ → ReadLoop → ℕ
loop_duration given around = unwrap_or given around.step

-- ---- loops

-- a loop with this body
abbrev pub with_body : ReadLoop → List Element → ReadLoop
with_body l body = record l { body = body }

-- a loop with an element more
abbrev pub with_element : ReadLoop → Element → ReadLoop
with_element l element = with_body l (l.body ++ element ∷ [])

-- a loop that ended, in what stands around it
abbrev pub inner_loop : ReadLoop → ReadLoop → Element
inner_loop l around = roll-Element (Loop l.step (loop_duration l.given around) l.body)

-- the innermost of the open loops ends
abbrev pub after_close : Reading → ℕ → List ReadLoop → Result Reading SeqFault
after_close reading line [] = Err (LoopStray line)
after_close reading line (l ∷ []) = Ok (record { links = reading.links; open_loops = []; loops = reading.loops ++ l ∷ [] })
after_close reading line (l ∷ around ∷ more) =
    Ok (record { links = reading.links; open_loops = with_element around (inner_loop l around) ∷ more; loops = reading.loops })

-- a loop that begins in none
abbrev pub top_loop : ℕ → Option ℕ → Option ℕ → Result ReadLoop SeqFault
top_loop line step given =
    ok_or step (StepUnset line) >>= (λ step.
    ok_if (divides_given step given) (StepUneven line) >>= (λ _.
    Ok (record { line = line; step = step; given = given; body = [] })))

-- a loop that begins in another
abbrev pub nested_loop : ReadLoop → ℕ → Option ℕ → Option ℕ → Result ReadLoop SeqFault
nested_loop around line step given =
    ok_if (nat_le (loop_duration given around) around.step) (BadStep line) >>= (λ _.
    ok_if (divides (unwrap_or step around.step) (loop_duration given around)) (StepUneven line) >>= (λ _.
    Ok (record { line = line; step = unwrap_or step around.step; given = given; body = [] })))

-- the innermost of the open loops, if one is open
abbrev pub innermost_loop : List ReadLoop → Option ReadLoop
innermost_loop [] = None
innermost_loop (l ∷ more) = Some l

-- a loop that begins in the innermost, if there is one; without a step of its own it takes the step around
-- it, and a top loop that of the run
abbrev pub loop_in : Option ReadLoop → Option ℕ → ℕ → Option ℕ → Option ℕ → Result ReadLoop SeqFault
loop_in None time_step line step given = top_loop line (option_or step time_step) given
loop_in (Some around) time_step line step given = nested_loop around line step given

-- a loop begins, at most the eighth in one another
abbrev pub after_opening : Reading → Option ℕ → ℕ → Option ℕ → Option ℕ → Result Reading SeqFault
after_opening reading time_step line step given =
    ok_if (nat_lt (length reading.open_loops) 8) (LoopTooDeep line) >>= (λ _.
    loop_in (innermost_loop reading.open_loops) time_step line step given >>= (λ l.
    Ok (record { links = reading.links; open_loops = l ∷ reading.open_loops; loops = reading.loops })))

-- ---- runs

-- whether a substep divides a step, where there is one
abbrev pub fits_step : Option ℕ → ℕ → Bool
fits_step None step = true
fits_step (Some substep) step = divides substep step

-- a run of a phase, in a loop of that step
abbrev pub run_in : ℕ → List SeqName → ℕ → List ℕ → Option (List ℕ) → Result Element SeqFault
run_in step names line component phase =
    ok_or (component_of names component) (ComponentUnknown line) >>= (λ c.
    ok_or (phase_of c.1 phase) (PhaseUnknown line) >>= (λ p.
    ok_if (fits_step (substep_of c.1) step) (SubstepUneven line) >>= (λ _.
    Ok (roll-Element (Run c.0 p (substep_of c.1))))))

-- a phase runs in the innermost of the open loops
abbrev pub after_run : Reading → List SeqName → ℕ → List ℕ → Option (List ℕ) → List ReadLoop → Result Reading SeqFault
after_run reading names line component phase [] = Err (OutsideLoop line)
after_run reading names line component phase (l ∷ more) =
    run_in l.step names line component phase >>= (λ element.
    Ok (record { links = reading.links; open_loops = with_element l element ∷ more; loops = reading.loops }))

-- ---- connectors

-- whether two methods are the same
abbrev pub same_method : Method → Method → Bool
same_method Redist Redist = true
same_method Redist Weights = false
same_method Weights Redist = false
same_method Weights Weights = true

-- whether a transfer is that of a connector's first line
abbrev pub is_transfer_of : Transfer → LinkLine → Bool
is_transfer_of t first = same_method first.method t.method && bytes_eq first.file t.file && int_eq first.terms t.terms

-- whether a later line agrees with the first: it has no options, or its transfer is the same
abbrev pub agrees : List (List ℕ) → Transfer → Option LinkLine → Bool
agrees [] t first = true
agrees (word ∷ words) t None = false
agrees (word ∷ words) t (Some first) = is_transfer_of t first

-- of a pair of components, which connector it is, and the connectors behind it
abbrev pub connection : List LinkLine → ℕ → ℕ → ℕ → List (List ℕ) → Transfer → Option ℕ → Result (ℕ × List LinkLine) SeqFault
connection links line src dst options t None =
    Ok (length links, links ++ record { src = src; dst = dst; method = t.method; file = t.file; terms = t.terms; line = line } ∷ [])
connection links line src dst options t (Some place) =
    ok_if (agrees options t (slice_get links place)) (OptionsDiffer line) >>= (λ _. Ok (place, links))

-- a link, with the connectors behind it
abbrev pub link_in : List LinkLine → List SeqName → ℕ → List ℕ → List ℕ → List (List ℕ) → Result (ℕ × List LinkLine) SeqFault
link_in links names line src dst options =
    ok_or (component_of names src) (ComponentUnknown line) >>= (λ s.
    ok_or (component_of names dst) (ComponentUnknown line) >>= (λ d.
    ok_if (not (s.0 == d.0)) (SelfLink line) >>= (λ _.
    transfer_of line options >>= (λ t.
    connection links line s.0 d.0 options t (link_at s.0 d.0 links)))))

-- a connector runs in the innermost of the open loops
abbrev pub after_link : Reading → List SeqName → ℕ → List ℕ → List ℕ → List (List ℕ) → List ReadLoop → Result Reading SeqFault
after_link reading names line src dst options [] = Err (OutsideLoop line)
after_link reading names line src dst options (l ∷ more) =
    link_in reading.links names line src dst options >>= (λ made.
    Ok (record { links = made.1; open_loops = with_element l (roll-Element (Link made.0)) ∷ more; loops = reading.loops }))

-- ---- a row

-- a row, by its form
abbrev pub after_form : Option ℕ → List SeqName → Reading → ℕ → RowForm → Result Reading SeqFault
after_form time_step names reading line close = after_close reading line reading.open_loops
after_form time_step names reading line (opening step given) = after_opening reading time_step line step given
after_form time_step names reading line bad_step = Err (BadStep line)
after_form time_step names reading line (link src dst options) = after_link reading names line src dst options reading.open_loops
after_form time_step names reading line (run component phase) = after_run reading names line component phase reading.open_loops
after_form time_step names reading line bad_element = Err (BadElement line)

-- a row
abbrev pub after_row : Option ℕ → List SeqName → Reading → Row → Result Reading SeqFault
after_row time_step names reading row = after_form time_step names reading row.line (row_form (row_words row.words))

-- all rows, one after another, up to the first fault
abbrev pub after_rows : Option ℕ → List SeqName → Reading → List Row → Result Reading SeqFault
after_rows time_step names reading [] = Ok reading
after_rows time_step names reading (row ∷ rows) = after_row time_step names reading row >>= (λ next. after_rows time_step names next rows)
