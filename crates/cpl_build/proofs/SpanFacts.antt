-- How long a run may last that was read.
use Rattle.std.proofs.Common.{◌≡◌, ℕ, ◌-◌, ◌<◌, ℤ, pos, ◌<ℤ◌, ◌≤ℤ◌, ltb, ◌&&◌, inl, inr, List, Option, Some, None, Result, Ok, Err, IfSome, unsigned_abs, ap, refl, sym, ◌∙◌, arith}
use Rattle.std.specs.Prelude.{option_map}
use Rattle.std.proofs.lemmas.Bool.{and_parts, cases_Bool, ltb-true}
use Rattle.std.proofs.lemmas.Int.{ints}
use Rattle.cpl_base.specs.ResultChain.{◌>>=◌, ok_if}
use Rattle.cpl_config.specs.declared.row.Row.{Row}
use Rattle.cpl_runseq.specs.Asked.{IsAsked}
use Rattle.cpl_runseq.specs.EmptyLoops.{filled_sequence, result_map, without_empty_loops}
use Rattle.cpl_runseq.specs.Reading.{Reading, after_rows, empty_reading, innermost_loop}
use Rattle.cpl_runseq.specs.Whole.{closed_check, durations_check, makes_up, rest_check, sequence_of, span_of, top_loops, total_duration, whole_of}
use Rattle.cpl_runseq.specs.declared.fault.SeqFault.{SeqFault}
use Rattle.cpl_runseq.specs.declared.fault.SeqFault.TheVariants.{SpanMismatch, SpanTooLong}
use Rattle.cpl_sequence.specs.Sequence.{Sequence}
use Rattle.cpl_sequence.specs.declared.seq_name.SeqName.{SeqName}

-- what was found went through the first step
pub first_ok : {A B F : Type 0} (f : A → Result B F) (r : Result A F) (y : B) → r >>= f ≡ Ok y → (x : A) × (r ≡ Ok x) × (f x ≡ Ok y)
first_ok f (Ok x) y is = (x, refl, is)
first_ok f (Err fault) y is = absurd (cc)

-- and what was changed by a function was there before
mapped_ok : {A B : Type 0} (f : A → B) (r : Result A SeqFault) (y : B) → result_map f r ≡ Ok y → (x : A) × (r ≡ Ok x) × (f x ≡ y)
mapped_ok f (Ok x) y is = (x, refl, cc)
mapped_ok f (Err fault) y is = absurd (cc)

-- a run is shorter than its room
span-below : (span : Option ℕ) (room : ℕ) (reading : Reading) (lasts : ℕ) → IfSome span (λ s. s < room) → span_of span room reading.loops ≡ Ok lasts → lasts < room
span-below None room reading lasts given is =
    elim (cases_Bool (ltb 0 (total_duration reading.loops) && ltb (total_duration reading.loops) room)) [
      | inl e ↦
          let same : Ok (total_duration reading.loops) ≡ Ok lasts = rw e at is in
          let at : total_duration reading.loops ≡ lasts = cc in
          let below = ltb-true (total_duration reading.loops) room (and_parts (ltb 0 (total_duration reading.loops)) (ltb (total_duration reading.loops) room) e).1 in
          omega arith
      | inr e ↦ let bad : Err (SpanTooLong (total_duration reading.loops)) ≡ Ok lasts = rw e at is in absurd (cc)
    ]
span-below (Some span) room reading lasts given is =
    let made = first_ok (λ (u : Unit {0}). rest_check (span - total_duration reading.loops) reading.loops >>= (λ _. Ok span)) (ok_if (makes_up span reading.loops) (SpanMismatch (total_duration reading.loops) (pos span))) lasts is in
    let even = first_ok (λ (u : Unit {0}). Ok span) (rest_check (span - total_duration reading.loops) reading.loops) lasts made.2 in
    let same : span ≡ lasts = cc (even.2) in
    omega arith

-- the whole, once all rows are read
whole-below : (span : Option ℕ) (room : ℕ) (reading : Reading) (seq : Sequence) → IfSome span (λ s. s < room) → whole_of span room reading ≡ Ok seq → (lasts : ℕ) × (seq.span ≡ pos lasts) × (lasts < room)
whole-below span room reading seq given is =
    let closed = first_ok (λ (u : Unit {0}). durations_check span reading.loops >>= (λ _. span_of span room reading.loops >>= (λ length. Ok (record { links = reading.links; loops = top_loops 0 (length - total_duration reading.loops) reading.loops; span = pos length })))) (closed_check (innermost_loop reading.open_loops)) seq is in
    let lasting = first_ok (λ (u : Unit {0}). span_of span room reading.loops >>= (λ length. Ok (record { links = reading.links; loops = top_loops 0 (length - total_duration reading.loops) reading.loops; span = pos length }))) (durations_check span reading.loops) seq closed.2 in
    let found = first_ok (λ (length : ℕ). Ok (record { links = reading.links; loops = top_loops 0 (length - total_duration reading.loops) reading.loops; span = pos length })) (span_of span room reading.loops) seq lasting.2 in
    let whole : Sequence = record { links = reading.links; loops = top_loops 0 (found.0 - total_duration reading.loops) reading.loops; span = pos found.0 } in
    let same : seq ≡ whole = cc (found.2) in
    (found.0, ap (λ (s : Sequence). s.span) same, span-below span room reading found.0 given found.1)

-- a given span, as a number without a sign
unsigned-below : (span : Option ℤ) (room : ℤ) → IfSome span (λ s. pos 1 ≤ℤ s) → IfSome span (λ s. s <ℤ room) → IfSome (option_map unsigned_abs span) (λ s. s < unsigned_abs room)
unsigned-below None room least below = tt
unsigned-below (Some span) room least below = omega (arith, ints)

-- a sequence that was read is shorter than its room
pub sequence-below : (names : List SeqName) (span time_step : Option ℤ) (room : ℤ) (rows : List Row) (seq : Sequence) → IsAsked names span time_step room → filled_sequence names span time_step room rows ≡ Ok seq → seq.span <ℤ room
unfolding sequence_of
sequence-below names span time_step room rows seq asked is =
    let full = mapped_ok without_empty_loops (sequence_of names span time_step room rows) seq is in
    let whole = first_ok (whole_of (option_map unsigned_abs span) (unsigned_abs room)) (after_rows (option_map unsigned_abs time_step) names empty_reading rows) full.0 full.1 in
    let below = whole-below (option_map unsigned_abs span) (unsigned_abs room) whole.0 full.0 (unsigned-below span room asked.span_least asked.span_below) whole.2 in
    let least = asked.room_least in
    let same : seq.span ≡ pos below.0 = ap (λ (s : Sequence). s.span) (sym full.2) ∙ below.1 in
    rw same (omega (arith, ints, below.2, least))
