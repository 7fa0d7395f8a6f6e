-- What was read so far fits, whatever row comes next.
use Rattle.std.proofs.Common.{◌≡◌, ℕ, ◌-◌, ◌≤◌, ◌<◌, Bool, true, false, leb, ltb, eqb, not, inl, inr, List, [], ◌∷◌, length, position, Option, Some, None, Result, Ok, Err, IfOk, length-append, refl, sym, subst, arith, suc}
use Rattle.std.proofs.lemmas.Bool.{cases_Bool, ltb-true}
use Rattle.std.proofs.lemmas.List.Elements.{All-push}
use Rattle.std.specs.List.{All, position_or_len, slice_get}
use Rattle.std.specs.Option.{ok_or, option_or, unwrap_or}
use Rattle.cpl_base.specs.ResultChain.{◌>>=◌, ok_if}
use Rattle.cpl_config.specs.declared.row.Row.{Row}
use Rattle.cpl_sequence.specs.declared.element.Element.{Element, roll-Element}
use Rattle.cpl_sequence.specs.declared.element.Element.TheOpen.{Link}
use Rattle.cpl_runseq.specs.declared.fault.SeqFault.{SeqFault}
use Rattle.cpl_runseq.specs.declared.fault.SeqFault.TheVariants.{BadStep, ComponentUnknown, LoopTooDeep, OptionsDiffer, PhaseUnknown, SelfLink, StepUnset, StepUneven, SubstepUneven}
use Rattle.cpl_sequence.specs.declared.link_line.LinkLine.{LinkLine}
use Rattle.cpl_sequence.specs.declared.seq_name.SeqName.{SeqName}
use Rattle.cpl_runseq.specs.declared.read_loop.ReadLoop.{ReadLoop}
use Rattle.cpl_runseq.specs.Links.{is_of, link_at}
use Rattle.cpl_runseq.specs.Options.{Transfer, transfer_of}
use Rattle.cpl_runseq.specs.ReadingBounds.{AreOpen, IsBody, IsInnerLoop, IsReading, IsTopLoop}
use Rattle.cpl_runseq.specs.RowForms.{RowForm, close, opening, bad_step, link, run, bad_element, row_form}
use Rattle.cpl_runseq.specs.FilledReading.{after_close_filled, after_form_filled, after_row_filled, after_rows_filled, join_if_any}
use Rattle.cpl_runseq.specs.Names.{component_of, phase_of, substep_of}
use Rattle.cpl_runseq.specs.Reading.{Reading, after_link, after_opening, after_run, agrees, connection, divides, divides_given, empty_reading, fits_step, innermost_loop, link_in, loop_duration, loop_in, nested_loop, run_in, top_loop, with_element}
use Rattle.cpl_runseq.specs.RowWords.{row_words}
use Rattle.cpl_runseq.proofs.BodyFacts.{IsFit, body-empty, body-join, body-more, body-push, link-fit, run-fit}

-- what holds behind a step, whatever it finds
pub bind-IfOk : {A B : Type 0} (P : B → Type 0) (o : Result A SeqFault) (f : A → Result B SeqFault) → ((x : A) → o ≡ Ok x → IfOk (f x) P) → IfOk (o >>= f) P
bind-IfOk P (Ok x) f holds = holds x refl
bind-IfOk P (Err fault) f holds = tt

-- and behind one whose outcome has a property
pub bind-fact : {A B : Type 0} (P : B → Type 0) (Q : A → Type 0) (o : Result A SeqFault) (f : A → Result B SeqFault) → IfOk o Q → ((x : A) → Q x → IfOk (f x) P) → IfOk (o >>= f) P
bind-fact P Q (Ok x) f here holds = holds x here
bind-fact P Q (Err fault) f here holds = tt

-- one property follows from another
map-IfOk : {A : Type 0} (P Q : A → Type 0) (o : Result A SeqFault) → ((x : A) → P x → Q x) → IfOk o P → IfOk o Q
map-IfOk P Q (Ok x) f holds = f x holds
map-IfOk P Q (Err fault) f holds = tt

-- and behind a test that was passed
pub test-IfOk : {B : Type 0} (P : B → Type 0) (b : Bool) (fault : SeqFault) (f : Unit {0} → Result B SeqFault) → (b ≡ true → IfOk (f tt) P) → IfOk (ok_if b fault >>= f) P
test-IfOk P true fault f holds = holds refl
test-IfOk P false fault f holds = tt

-- ---- loops

-- the innermost loop ends
after_close-steady : (r : Reading) (line : ℕ) (loops : List ReadLoop) → length loops ≤ 8 → AreOpen (length r.links) loops → All (IsTopLoop (length r.links)) r.loops → IfOk (after_close_filled r line loops) IsReading
after_close-steady r line [] few fit tops = tt
after_close-steady r line (l ∷ []) few fit tops = record {
  few = omega arith;
  open_fit = tt;
  loops_fit = All-push (IsTopLoop (length r.links)) r.loops l tops fit;
}
after_close-steady r line (l ∷ around ∷ []) few fit tops = record {
  few = omega arith;
  open_fit = record {
    even = fit.1.even;
    fits = body-join (length r.links) 6 around.step l.step (loop_duration l.given around) around.body l.body fit.0.short fit.0.even fit.0.fits fit.1.fits;
  };
  loops_fit = tops;
}
after_close-steady r line (l ∷ around ∷ out ∷ more) few fit tops =
    let depth : 6 - length more ≡ suc (6 - suc (length more)) = omega arith in
    let P : ℕ → Type 0 = λ d. IsBody (length r.links) d around.step around.body in
    let Q : ℕ → Type 0 = λ d. IsBody (length r.links) d around.step (join_if_any around.body l.step (loop_duration l.given around) l.body) in
    let joined = body-join (length r.links) (6 - suc (length more)) around.step l.step (loop_duration l.given around) around.body l.body fit.0.short fit.0.even fit.0.fits (subst P depth fit.1.0.fits) in
    record {
      few = omega arith;
      open_fit = (record { short = fit.1.0.short; even = fit.1.0.even; fits = subst Q (sym depth) joined }, fit.1.1);
      loops_fit = tops;
    }

-- a top loop that begins
top_loop-steady : (count line : ℕ) (step given : Option ℕ) → IfOk (top_loop line step given) (IsTopLoop count)
top_loop-steady count line step given =
    bind-IfOk (IsTopLoop count) (ok_or step (StepUnset line)) _ (λ s _.
    test-IfOk (IsTopLoop count) (divides_given s given) (StepUneven line) _ (λ even.
    record { even = even; fits = body-empty count 7 s }))

-- a nested loop that begins
nested_loop-steady : (count depth : ℕ) (around : ReadLoop) (line : ℕ) (step given : Option ℕ) → IfOk (nested_loop around line step given) (λ l. IsInnerLoop count depth l around)
nested_loop-steady count depth around line step given =
    test-IfOk (λ l. IsInnerLoop count depth l around) (leb (loop_duration given around) around.step) (BadStep line) _ (λ short.
    test-IfOk (λ l. IsInnerLoop count depth l around) (divides (unwrap_or step around.step) (loop_duration given around)) (StepUneven line) _ (λ even.
    record { short = short; even = even; fits = body-empty count depth (unwrap_or step around.step) }))

-- a loop that begins in the innermost, if there is one
loop_in-steady : (count : ℕ) (loops : List ReadLoop) (time_step : Option ℕ) (line : ℕ) (step given : Option ℕ) → AreOpen count loops → IfOk (loop_in (innermost_loop loops) time_step line step given) (λ l. AreOpen count (l ∷ loops))
loop_in-steady count [] time_step line step given fit = top_loop-steady count line (option_or step time_step) given
loop_in-steady count (around ∷ more) time_step line step given fit =
    map-IfOk (λ l. IsInnerLoop count (6 - length more) l around) (λ l. AreOpen count (l ∷ around ∷ more)) (nested_loop around line step given) (λ l inner. (inner, fit)) (nested_loop-steady count (6 - length more) around line step given)

-- a loop begins
after_opening-steady : (r : Reading) (time_step : Option ℕ) (line : ℕ) (step given : Option ℕ) → IsReading r → IfOk (after_opening r time_step line step given) IsReading
after_opening-steady r time_step line step given is =
    test-IfOk IsReading (ltb (length r.open_loops) 8) (LoopTooDeep line) _ (λ few.
    let below = ltb-true (length r.open_loops) 8 few in
    bind-fact IsReading (λ l. AreOpen (length r.links) (l ∷ r.open_loops)) (loop_in (innermost_loop r.open_loops) time_step line step given) _
    (loop_in-steady (length r.links) r.open_loops time_step line step given is.open_fit)
    (λ l fit. record { few = omega arith; open_fit = fit; loops_fit = is.loops_fit }))

-- ---- links and runs

-- a run fits in the loop in which it stands
run_in-steady : (count depth step : ℕ) (names : List SeqName) (line : ℕ) (component : List ℕ) (phase : Option (List ℕ)) → IfOk (run_in step names line component phase) (IsFit count depth step)
run_in-steady count depth step names line component phase =
    bind-IfOk (IsFit count depth step) (ok_or (component_of names component) (ComponentUnknown line)) _ (λ c _.
    bind-IfOk (IsFit count depth step) (ok_or (phase_of c.1 phase) (PhaseUnknown line)) _ (λ p _.
    test-IfOk (IsFit count depth step) (fits_step (substep_of c.1) step) (SubstepUneven line) _ (λ even.
    run-fit count depth step c.0 p (substep_of c.1) even)))

-- A connector is one of those behind the row, which are no fewer.
record IsAmong (links : List LinkLine) (made : ℕ × List LinkLine) : Type 0 where
  inside : made.0 < length made.1
  no_fewer : length links ≤ length made.1

-- a place that was found
pub position-below : {X : Type 0} (p : X → Bool) (xs : List X) (k : ℕ) → position p xs ≡ Some k → k < length xs
position-below p xs k is =
    elim (cases_Bool (ltb (position_or_len p xs) (length xs))) [
      | inl e ↦ let same : Some (position_or_len p xs) ≡ Some k = rw e at is in let below = ltb-true (position_or_len p xs) (length xs) e in let at : position_or_len p xs ≡ k = cc in omega arith
      | inr e ↦ let none : None ≡ Some k = rw e at is in absurd (cc)
    ]

-- the connector of a pair, by where it was found
connection-among : (links : List LinkLine) (line src dst : ℕ) (options : List (List ℕ)) (t : Transfer) (o : Option ℕ) → link_at src dst links ≡ o → IfOk (connection links line src dst options t o) (IsAmong links)
connection-among links line src dst options t None is =
    let made = length-append links (record { src = src; dst = dst; method = t.method; file = t.file; terms = t.terms; line = line } ∷ []) in
    record { inside = omega arith; no_fewer = omega arith }
connection-among links line src dst options t (Some place) is =
    test-IfOk (IsAmong links) (agrees options t (slice_get links place)) (OptionsDiffer line) _ (λ _.
    record { inside = position-below (is_of src dst) links place is; no_fewer = omega arith })

-- the connector of a row
link_in-among : (links : List LinkLine) (names : List SeqName) (line : ℕ) (src dst : List ℕ) (options : List (List ℕ)) → IfOk (link_in links names line src dst options) (IsAmong links)
link_in-among links names line src dst options =
    bind-IfOk (IsAmong links) (ok_or (component_of names src) (ComponentUnknown line)) _ (λ s _.
    bind-IfOk (IsAmong links) (ok_or (component_of names dst) (ComponentUnknown line)) _ (λ d _.
    test-IfOk (IsAmong links) (not (eqb s.0 d.0)) (SelfLink line) _ (λ _.
    bind-IfOk (IsAmong links) (transfer_of line options) _ (λ t _.
    connection-among links line s.0 d.0 options t (link_at s.0 d.0 links) refl))))

-- open loops when there are more connectors
open-more : (count more : ℕ) (loops : List ReadLoop) → count ≤ more → AreOpen count loops → AreOpen more loops
open-more count more [] most fit = tt
open-more count more (l ∷ []) most fit = record { even = fit.even; fits = body-more count more 7 l.step l.body most fit.fits }
open-more count more (l ∷ around ∷ out) most fit =
    (record { short = fit.0.short; even = fit.0.even; fits = body-more count more (6 - length out) l.step l.body most fit.0.fits }, open-more count more (around ∷ out) most fit.1)

-- a top loop when there are more connectors
top-more : (count more : ℕ) (l : ReadLoop) → count ≤ more → IsTopLoop count l → IsTopLoop more l
top-more count more l most fit = record { even = fit.even; fits = body-more count more 7 l.step l.body most fit.fits }

-- how deep loops may nest in the innermost of open loops
abbrev depth_in : List ReadLoop → ℕ
depth_in [] = 7
depth_in (around ∷ more) = 6 - length more

-- an element goes into the innermost loop
open-push : (count : ℕ) (l : ReadLoop) (more : List ReadLoop) (e : Element) → AreOpen count (l ∷ more) → IsFit count (depth_in more) l.step e → AreOpen count (with_element l e ∷ more)
open-push count l [] e fit here = record { even = fit.even; fits = body-push count 7 l.step l.body e fit.fits here }
open-push count l (around ∷ more) e fit here =
    (record { short = fit.0.short; even = fit.0.even; fits = body-push count (6 - length more) l.step l.body e fit.0.fits here }, fit.1)

-- a phase runs
after_run-steady : (r : Reading) (names : List SeqName) (line : ℕ) (component : List ℕ) (phase : Option (List ℕ)) (loops : List ReadLoop) → length loops ≤ 8 → AreOpen (length r.links) loops → All (IsTopLoop (length r.links)) r.loops → IfOk (after_run r names line component phase loops) IsReading
after_run-steady r names line component phase [] few fit tops = tt
after_run-steady r names line component phase (l ∷ more) few fit tops =
    bind-fact IsReading (IsFit (length r.links) (depth_in more) l.step) (run_in l.step names line component phase) _
    (run_in-steady (length r.links) (depth_in more) l.step names line component phase)
    (λ e here. record { few = omega arith; open_fit = open-push (length r.links) l more e fit here; loops_fit = tops })

-- a connector runs
after_link-steady : (r : Reading) (names : List SeqName) (line : ℕ) (src dst : List ℕ) (options : List (List ℕ)) (loops : List ReadLoop) → length loops ≤ 8 → AreOpen (length r.links) loops → All (IsTopLoop (length r.links)) r.loops → IfOk (after_link r names line src dst options loops) IsReading
after_link-steady r names line src dst options [] few fit tops = tt
after_link-steady r names line src dst options (l ∷ more) few fit tops =
    bind-fact IsReading (IsAmong r.links) (link_in r.links names line src dst options) _
    (link_in-among r.links names line src dst options)
    (λ made among. record {
      few = omega arith;
      open_fit = open-push (length made.1) l more (roll-Element (Link made.0)) (open-more (length r.links) (length made.1) (l ∷ more) among.no_fewer fit) (link-fit (length made.1) (depth_in more) l.step made.0 among.inside);
      loops_fit = λ k d inside. top-more (length r.links) (length made.1) _ among.no_fewer (tops k d inside);
    })

-- ---- rows

-- a row, by what it says
after_form-steady : (time_step : Option ℕ) (names : List SeqName) (r : Reading) (line : ℕ) (s : RowForm) → IsReading r → IfOk (after_form_filled time_step names r line s) IsReading
after_form-steady time_step names r line close is = after_close-steady r line r.open_loops is.few is.open_fit is.loops_fit
after_form-steady time_step names r line (opening step given) is = after_opening-steady r time_step line step given is
after_form-steady time_step names r line bad_step is = tt
after_form-steady time_step names r line (link src dst options) is = after_link-steady r names line src dst options r.open_loops is.few is.open_fit is.loops_fit
after_form-steady time_step names r line (run component phase) is = after_run-steady r names line component phase r.open_loops is.few is.open_fit is.loops_fit
after_form-steady time_step names r line bad_element is = tt

-- all rows
after_rows-steady : (time_step : Option ℕ) (names : List SeqName) (r : Reading) (rows : List Row) → IsReading r → IfOk (after_rows_filled time_step names r rows) IsReading
after_rows-steady time_step names r [] is = is
after_rows-steady time_step names r (row ∷ rows) is =
    bind-fact IsReading IsReading (after_row_filled time_step names r row) _ (after_form-steady time_step names r row.line (row_form (row_words row.words)) is)
    (λ next fits. after_rows-steady time_step names next rows fits)

-- what was read of rows fits
pub read_fits : (time_step : Option ℕ) (names : List SeqName) (rows : List Row) (r : Reading) → after_rows_filled time_step names empty_reading rows ≡ Ok r → IsReading r
read_fits time_step names rows r is =
    let P : Result Reading SeqFault → Type 0 = λ x. IfOk x IsReading in
    subst P is (after_rows-steady time_step names empty_reading rows (record { few = omega arith; open_fit = tt; loops_fit = λ k d inside. absurd (omega arith) }))
