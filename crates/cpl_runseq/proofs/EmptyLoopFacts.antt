-- Nested loops in which nothing runs may be dropped as soon as they end.
use Rattle.std.proofs.Common.{◌≡◌, ℕ, ◌+◌, ◌-◌, not, ◌&&◌, ◌||◌, List, [], ◌∷◌, ◌++◌, length, map, Option, Some, None, is_some, if◌then◌else◌, ◌==◌, nat_le, nat_lt, ℤ, pos, option_map, unsigned_abs, Ok, Err, refl, sym, ap, ◌∙◌, suc}
use Rattle.std.proofs.lemmas.List.{append-nil}
use Rattle.std.proofs.lemmas.List.Sums.{sum_by-cons}
use Rattle.std.specs.Option.{ok_or, option_or, unwrap_or}
use Rattle.cpl_base.specs.ResultChain.{◌>>=◌, ok_if}
use Rattle.cpl_base.specs.Words.{is_some_of}
use Rattle.cpl_config.specs.declared.row.Row.{Row}
use Rattle.cpl_sequence.specs.declared.element.Element.{Element, roll-Element}
use Rattle.cpl_sequence.specs.declared.element.Element.TheFolds.{fold-roll-Element}
use Rattle.cpl_sequence.specs.declared.element.Element.TheOpen.{Link, Run, Loop}
use Rattle.cpl_sequence.specs.declared.element.TopLoop.{TopLoop}
use Rattle.cpl_runseq.specs.declared.fault.SeqFault.TheVariants.{BadStep, ComponentUnknown, DurationMissing, LoopTooDeep, PhaseUnknown, SpanMismatch, SpanTooLong, StepUnset, StepUneven, SubstepUneven}
use Rattle.cpl_sequence.specs.declared.seq_name.SeqName.{SeqName}
use Rattle.cpl_runseq.specs.declared.read_loop.ReadLoop.{ReadLoop}
use Rattle.cpl_runseq.specs.RowForms.{RowForm, close, opening, bad_step, link, run, bad_element, row_form}
use Rattle.cpl_runseq.specs.FilledReading.{after_close_filled, after_form_filled, after_row_filled, after_rows_filled, filled_sequence_of, join_if_any}
use Rattle.cpl_runseq.specs.Names.{component_of, phase_of, substep_of}
use Rattle.cpl_runseq.specs.Reading.{Reading, after_close, after_form, after_link, after_opening, after_row, after_rows, after_run, divides, divides_given, empty_reading, fits_step, innermost_loop, link_in, loop_duration, loop_in, run_in, with_body}
use Rattle.cpl_runseq.specs.EmptyLoops.{filled_body, filled_element, filled_loop, filled_sequence, filled_step, filled_top, result_map, some_members, without_empty_loops}
use Rattle.cpl_runseq.specs.Whole.{closed_check, durations_check, has_rest, makes_up, rest_check, sequence_of, span_of, top_loops, total_duration, whole_of}
use Rattle.cpl_runseq.specs.RowWords.{row_words}
use Rattle.cpl_runseq.proofs.ResultFacts.{bind_known, bind_map, bind_mapped, bind_same, first_ok}

-- ---- bodies

-- the members that are there in two lists
some_members-append : {A : Type 0} (xs ys : List (Option A)) → some_members (xs ++ ys) ≡ some_members xs ++ some_members ys
some_members-append [] ys = refl
some_members-append (None ∷ xs) ys = some_members-append xs ys
some_members-append {A = A} (Some x ∷ xs) ys = ap (λ (zs : List A). x ∷ zs) (some_members-append xs ys)

-- a function at each member of two lists
map-append : {A B : Type 0} (f : A → B) (xs ys : List A) → map f (xs ++ ys) ≡ map f xs ++ map f ys
map-append f [] ys = refl
map-append {B = B} f (x ∷ xs) ys = ap (λ (zs : List B). f x ∷ zs) (map-append f xs ys)

-- one element more
filled_body-push : (body : List Element) (e : Element) → filled_body (body ++ e ∷ []) ≡ filled_body body ++ some_members (filled_element e ∷ [])
filled_body-push body e =
    ap some_members (map-append filled_element body (e ∷ [])) ∙ some_members-append (map filled_element body) (filled_element e ∷ [])

-- a link stays
filled_body-link : (body : List Element) (k : ℕ) → filled_body (body ++ roll-Element (Link k) ∷ []) ≡ filled_body body ++ roll-Element (Link k) ∷ []
filled_body-link body k =
    filled_body-push body (roll-Element (Link k)) ∙ ap (λ o. filled_body body ++ some_members (o ∷ [])) (fold-roll-Element (Option Element) filled_step (Link k))

-- what joins of a loop whose body is known
join-some_members : (around : List Element) (step duration : ℕ) (body : List Element) → around ++ some_members (filled_loop step duration body ∷ []) ≡ join_if_any around step duration body
join-some_members around step duration [] = append-nil around
join-some_members around step duration (e ∷ es) = refl

-- a loop that joins what stands around it
filled_body-join : (around : List Element) (step duration : ℕ) (body : List Element) → filled_body (around ++ roll-Element (Loop step duration body) ∷ []) ≡ join_if_any (filled_body around) step duration (filled_body body)
filled_body-join around step duration body =
    filled_body-push around (roll-Element (Loop step duration body))
    ∙ ap (λ o. filled_body around ++ some_members (o ∷ [])) (fold-roll-Element (Option Element) filled_step (Loop step duration body))
    ∙ join-some_members (filled_body around) step duration (filled_body body)

-- ---- what was read so far

-- a loop that was read, without the empty loops in it
abbrev pub filled_read_loop : ReadLoop → ReadLoop
filled_read_loop l = with_body l (filled_body l.body)

-- what was read, without its empty nested loops
abbrev pub filled_reading : Reading → Reading
filled_reading r = record { links = r.links; open_loops = map filled_read_loop r.open_loops; loops = map filled_read_loop r.loops }

-- how many loops are open
length-map : {A B : Type 0} (f : A → B) (xs : List A) → length (map f xs) ≡ length xs
length-map f [] = refl
length-map f (x ∷ xs) = ap suc (length-map f xs)

-- ---- a row

-- the innermost loop ends
after_close-filled : (r : Reading) (line : ℕ) (loops : List ReadLoop) → result_map filled_reading (after_close r line loops) ≡ after_close_filled (filled_reading r) line (map filled_read_loop loops)
after_close-filled r line [] = refl
after_close-filled r line (l ∷ []) = ap (λ (ls : List ReadLoop). Ok (record { links = r.links; open_loops = []; loops = ls })) (map-append filled_read_loop r.loops (l ∷ []))
after_close-filled r line (l ∷ around ∷ more) =
    ap (λ (body : List Element). Ok (record { links = r.links; open_loops = with_body around body ∷ map filled_read_loop more; loops = map filled_read_loop r.loops }))
    (filled_body-join around.body l.step (loop_duration l.given around) l.body)

-- a loop that begins has nothing in it, and looks at no body
loop_in-filled : (loops : List ReadLoop) (time_step : Option ℕ) (line : ℕ) (step given : Option ℕ) → result_map filled_read_loop (loop_in (innermost_loop loops) time_step line step given) ≡ loop_in (innermost_loop (map filled_read_loop loops)) time_step line step given
loop_in-filled [] time_step line step given =
    bind_map filled_read_loop (ok_or (option_or step time_step) (StepUnset line)) _ _ (λ s.
    bind_map filled_read_loop (ok_if (divides_given s given) (StepUneven line)) _ _ (λ _. refl))
loop_in-filled (around ∷ more) time_step line step given =
    bind_map filled_read_loop (ok_if (nat_le (loop_duration given around) around.step) (BadStep line)) _ _ (λ _.
    bind_map filled_read_loop (ok_if (divides (unwrap_or step around.step) (loop_duration given around)) (StepUneven line)) _ _ (λ _. refl))

-- a loop begins
after_opening-filled : (r : Reading) (time_step : Option ℕ) (line : ℕ) (step given : Option ℕ) → result_map filled_reading (after_opening r time_step line step given) ≡ after_opening (filled_reading r) time_step line step given
after_opening-filled r time_step line step given =
    let opened = map filled_read_loop r.open_loops in
    bind_map filled_reading (ok_if (nat_lt (length r.open_loops) 8) (LoopTooDeep line)) _
    (λ _. loop_in (innermost_loop opened) time_step line step given >>= (λ l. Ok (record { links = r.links; open_loops = l ∷ opened; loops = map filled_read_loop r.loops }))) (λ _.
    bind_mapped filled_read_loop filled_reading (loop_in (innermost_loop r.open_loops) time_step line step given) _ _ _ (loop_in-filled r.open_loops time_step line step given) (λ l. refl))
    ∙ ap (λ n. ok_if (nat_lt n 8) (LoopTooDeep line) >>= (λ _. loop_in (innermost_loop opened) time_step line step given >>= (λ l. Ok (record { links = r.links; open_loops = l ∷ opened; loops = map filled_read_loop r.loops })))) (sym (length-map filled_read_loop r.open_loops))

-- what a row runs stays
run_in-filled : (step : ℕ) (names : List SeqName) (line : ℕ) (component : List ℕ) (phase : Option (List ℕ)) (e : Element) → run_in step names line component phase ≡ Ok e → filled_element e ≡ Some e
run_in-filled step names line component phase e is =
    let c = first_ok _ (ok_or (component_of names component) (ComponentUnknown line)) e is in
    let p = first_ok _ (ok_or (phase_of c.0.1 phase) (PhaseUnknown line)) e c.2 in
    let u = first_ok (λ (t : Unit {0}). Ok (roll-Element (Run c.0.0 p.0 (substep_of c.0.1)))) (ok_if (fits_step (substep_of c.0.1) step) (SubstepUneven line)) e p.2 in
    let same : roll-Element (Run c.0.0 p.0 (substep_of c.0.1)) ≡ e = cc (u.2) in
    rw (← same) (fold-roll-Element (Option Element) filled_step (Run c.0.0 p.0 (substep_of c.0.1)))

-- a phase runs
after_run-filled : (r : Reading) (names : List SeqName) (line : ℕ) (component : List ℕ) (phase : Option (List ℕ)) (loops : List ReadLoop) → result_map filled_reading (after_run r names line component phase loops) ≡ after_run (filled_reading r) names line component phase (map filled_read_loop loops)
after_run-filled r names line component phase [] = refl
after_run-filled r names line component phase (l ∷ more) =
    bind_known filled_reading (run_in l.step names line component phase) _ _ (λ e is.
    ap (λ (body : List Element). Ok (record { links = r.links; open_loops = with_body l body ∷ map filled_read_loop more; loops = map filled_read_loop r.loops }))
    (filled_body-push l.body e ∙ ap (λ o. filled_body l.body ++ some_members (o ∷ [])) (run_in-filled l.step names line component phase e is)))

-- a connector runs
after_link-filled : (r : Reading) (names : List SeqName) (line : ℕ) (src dst : List ℕ) (options : List (List ℕ)) (loops : List ReadLoop) → result_map filled_reading (after_link r names line src dst options loops) ≡ after_link (filled_reading r) names line src dst options (map filled_read_loop loops)
after_link-filled r names line src dst options [] = refl
after_link-filled r names line src dst options (l ∷ more) =
    bind_map filled_reading (link_in r.links names line src dst options) _ _ (λ made.
    ap (λ (body : List Element). Ok (record { links = made.1; open_loops = with_body l body ∷ map filled_read_loop more; loops = map filled_read_loop r.loops })) (filled_body-link l.body made.0))

-- a row, by what it says
after_form-filled : (time_step : Option ℕ) (names : List SeqName) (r : Reading) (line : ℕ) (s : RowForm) → result_map filled_reading (after_form time_step names r line s) ≡ after_form_filled time_step names (filled_reading r) line s
after_form-filled time_step names r line close = after_close-filled r line r.open_loops
after_form-filled time_step names r line (opening step given) = after_opening-filled r time_step line step given
after_form-filled time_step names r line bad_step = refl
after_form-filled time_step names r line (link src dst options) = after_link-filled r names line src dst options r.open_loops
after_form-filled time_step names r line (run component phase) = after_run-filled r names line component phase r.open_loops
after_form-filled time_step names r line bad_element = refl

-- all rows
after_rows-filled : (time_step : Option ℕ) (names : List SeqName) (r : Reading) (rows : List Row) → result_map filled_reading (after_rows time_step names r rows) ≡ after_rows_filled time_step names (filled_reading r) rows
after_rows-filled time_step names r [] = refl
after_rows-filled time_step names r (row ∷ rows) =
    bind_mapped filled_reading filled_reading (after_row time_step names r row) (after_row_filled time_step names (filled_reading r) row)
    (λ next. after_rows time_step names next rows) (λ next. after_rows_filled time_step names next rows)
    (after_form-filled time_step names r row.line (row_form (row_words row.words)))
    (λ next. after_rows-filled time_step names next rows)

-- ---- the whole

-- no loop is open
closed_check-filled : (loops : List ReadLoop) → closed_check (innermost_loop loops) ≡ closed_check (innermost_loop (map filled_read_loop loops))
closed_check-filled [] = refl
closed_check-filled (l ∷ more) = refl

-- whether a list has a member
is_some_of-map : {A B : Type 0} (f : A → B) (xs : List A) → is_some_of (map f xs) ≡ is_some_of xs
is_some_of-map f [] = refl
is_some_of-map f (x ∷ xs) = refl

-- every loop but the last has a duration
durations_check-filled : (span : Option ℕ) (loops : List ReadLoop) → durations_check span loops ≡ durations_check span (map filled_read_loop loops)
durations_check-filled span [] = refl
durations_check-filled span (l ∷ more) =
    ap (λ r. if is_some l.given || (is_some span && not (is_some_of more)) then r else Err (DurationMissing l.line)) (durations_check-filled span more)
    ∙ ap (λ b. if is_some l.given || (is_some span && not b) then durations_check span (map filled_read_loop more) else Err (DurationMissing l.line)) (sym (is_some_of-map filled_read_loop more))

-- how long loops last together
total-filled : (loops : List ReadLoop) → total_duration loops ≡ total_duration (map filled_read_loop loops)
total-filled [] = refl
total-filled (l ∷ more) =
    sum_by-cons (λ (m : ReadLoop). unwrap_or m.given 0) l more ∙ ap (λ n. unwrap_or l.given 0 + n) (total-filled more)
    ∙ sym (sum_by-cons (λ (m : ReadLoop). unwrap_or m.given 0) (filled_read_loop l) (map filled_read_loop more))

-- whether a loop takes the rest
has_rest-filled : (loops : List ReadLoop) → has_rest loops ≡ has_rest (map filled_read_loop loops)
has_rest-filled [] = refl
has_rest-filled (l ∷ more) = ap (λ b. not (is_some l.given) || b) (has_rest-filled more)

-- whether its step divides it
rest_check-filled : (rest : ℕ) (loops : List ReadLoop) → rest_check rest loops ≡ rest_check rest (map filled_read_loop loops)
rest_check-filled rest [] = refl
rest_check-filled rest (l ∷ more) = ap (λ r. if is_some l.given || divides l.step rest then r else Err (StepUneven l.line)) (rest_check-filled rest more)

-- how long the run lasts
span_of-filled : (span : Option ℕ) (room : ℕ) (loops : List ReadLoop) → span_of span room loops ≡ span_of span room (map filled_read_loop loops)
span_of-filled None room loops = ap (λ t. if nat_lt 0 t && nat_lt t room then Ok t else Err (SpanTooLong t)) (total-filled loops)
span_of-filled (Some span) room loops =
    ap (λ b. ok_if (if b then nat_lt (total_duration loops) span else total_duration loops == span) (SpanMismatch (total_duration loops) (pos span)) >>= (λ _. rest_check (span - total_duration loops) loops >>= (λ _. Ok span))) (has_rest-filled loops)
    ∙ ap (λ t. ok_if (if has_rest (map filled_read_loop loops) then nat_lt t span else t == span) (SpanMismatch t (pos span)) >>= (λ _. rest_check (span - t) loops >>= (λ _. Ok span))) (total-filled loops)
    ∙ ap (λ r. ok_if (makes_up span (map filled_read_loop loops)) (SpanMismatch (total_duration (map filled_read_loop loops)) (pos span)) >>= (λ _. r >>= (λ _. Ok span))) (rest_check-filled (span - total_duration (map filled_read_loop loops)) loops)

-- the top loops
top_loops-filled : (begin rest : ℕ) (loops : List ReadLoop) → map filled_top (top_loops begin rest loops) ≡ top_loops begin rest (map filled_read_loop loops)
top_loops-filled begin rest [] = refl
top_loops-filled begin rest (l ∷ more) =
    let first : TopLoop = record { begin = begin; step = l.step; duration = unwrap_or l.given rest; body = filled_body l.body } in
    ap (λ (ls : List TopLoop). first ∷ ls) (top_loops-filled (begin + unwrap_or l.given rest) rest more)

-- the sequence that was read
whole_of-filled : (span : Option ℕ) (room : ℕ) (r : Reading) → result_map without_empty_loops (whole_of span room r) ≡ whole_of span room (filled_reading r)
whole_of-filled span room r =
    bind_same without_empty_loops _ _ _ _ (closed_check-filled r.open_loops) (λ _.
    bind_same without_empty_loops _ _ _ _ (durations_check-filled span r.loops) (λ _.
    bind_same without_empty_loops _ _ _ _ (span_of-filled span room r.loops) (λ length.
    ap (λ (ls : List TopLoop). Ok (record { links = r.links; loops = ls; span = pos length }))
    (ap (λ t. map filled_top (top_loops 0 (length - t) r.loops)) (total-filled r.loops) ∙ top_loops-filled 0 (length - total_duration (map filled_read_loop r.loops)) r.loops))))

-- the sequence without its empty nested loops is the one that is read with them dropped as they end
pub sequence_of-filled : (names : List SeqName) (span time_step : Option ℤ) (room : ℤ) (rows : List Row) → filled_sequence names span time_step room rows ≡ filled_sequence_of names (option_map unsigned_abs span) (option_map unsigned_abs time_step) (unsigned_abs room) rows
unfolding sequence_of
sequence_of-filled names span time_step room rows =
    let step = option_map unsigned_abs time_step in
    let whole = whole_of (option_map unsigned_abs span) (unsigned_abs room) in
    bind_mapped filled_reading without_empty_loops (after_rows step names empty_reading rows) (after_rows_filled step names empty_reading rows) whole whole
    (after_rows-filled step names empty_reading rows) (whole_of-filled (option_map unsigned_abs span) (unsigned_abs room))
