-- The top loops of a sequence that was read.
use Rattle.std.proofs.Common.{◌≡◌, ℕ, ◌+◌, ◌-◌, ◌≤◌, ◌^◌, Bool, true, false, eqb, ltb, ◌&&◌, ◌||◌, inl, inr, List, [], ◌∷◌, length, Option, Some, None, is_some, Ok, Err, pos, IfSome, refl, subst, arith}
use Rattle.std.proofs.lemmas.Bool.{and_from, and_parts, cases_Bool, eq-eqb, ltb-true}
use Rattle.std.proofs.lemmas.Int.{ints}
use Rattle.std.proofs.lemmas.List.Elements.{All-cons, All-head, All-tail}
use Rattle.std.proofs.lemmas.List.Sums.{sum_by-cons}
use Rattle.std.specs.List.{All, list_all}
use Rattle.std.specs.Option.{unwrap_or}
use Rattle.cpl_base.specs.ResultChain.{◌>>=◌}
use Rattle.cpl_sequence.specs.declared.element.TopLoop.{TopLoop}
use Rattle.cpl_runseq.specs.declared.fault.SeqFault.TheVariants.{DurationMissing, SpanMismatch, SpanTooLong, StepUneven}
use Rattle.cpl_runseq.specs.declared.read_loop.ReadLoop.{ReadLoop}
use Rattle.cpl_runseq.specs.ReadingBounds.{IsReading, IsTopLoop, full_length}
use Rattle.cpl_sequence.specs.Sound.{IsSound, are_end_to_end, is_linked, is_nested, is_timed, is_timed_top}
use Rattle.cpl_runseq.specs.Reading.{Reading, divides}
use Rattle.cpl_runseq.specs.Whole.{durations_check, makes_up, rest_check, span_of, top_loops, total_duration}
use Rattle.cpl_runseq.proofs.BodyFacts.{loop-is}
use Rattle.cpl_runseq.proofs.LengthFacts.{full_length-is}
use Rattle.cpl_runseq.proofs.ResultFacts.{first_ok, test_ok}

-- what all top loops pass, where each passes wherever it begins
top_loops-all : (p : TopLoop → Bool) (Q : ReadLoop → Type 0) (rest : ℕ)
    → ((l : ReadLoop) (begin : ℕ) → Q l → p (record { begin = begin; step = l.step; duration = unwrap_or l.given rest; body = l.body }) ≡ true)
    → (begin : ℕ) (loops : List ReadLoop) → All Q loops → list_all p (top_loops begin rest loops) ≡ true
top_loops-all p Q rest each begin [] all = refl
top_loops-all p Q rest each begin (l ∷ more) all =
    and_from (p (record { begin = begin; step = l.step; duration = unwrap_or l.given rest; body = l.body })) (list_all p (top_loops (begin + unwrap_or l.given rest) rest more))
    (each l begin (All-head Q l more all)) (top_loops-all p Q rest each (begin + unwrap_or l.given rest) more (All-tail Q l more all))

-- top loops stand end to end
top_loops-end_to_end : (begin rest : ℕ) (loops : List ReadLoop) (to : ℕ) → begin + full_length rest loops ≡ to → are_end_to_end begin (top_loops begin rest loops) to ≡ true
top_loops-end_to_end begin rest [] to is = let none : full_length rest [] ≡ 0 = refl in eq-eqb begin to (omega arith)
top_loops-end_to_end begin rest (l ∷ more) to is =
    let lasts = unwrap_or l.given rest in
    let all : full_length rest (l ∷ more) ≡ lasts + full_length rest more = sum_by-cons (λ (m : ReadLoop). unwrap_or m.given rest) l more in
    and_from (eqb begin begin) (are_end_to_end (begin + lasts) (top_loops (begin + lasts) rest more) to) (eq-eqb begin begin refl) (top_loops-end_to_end (begin + lasts) rest more to (omega arith))

-- A top loop fits, and its step divides what it lasts.
record IsWhole (count rest : ℕ) (l : ReadLoop) : Type 0 where
  top : IsTopLoop count l
  even : divides l.step (unwrap_or l.given rest) ≡ true

-- its times fit
timed-top : (count rest : ℕ) (l : ReadLoop) (begin : ℕ) → IsWhole count rest l → is_timed_top (record { begin = begin; step = l.step; duration = unwrap_or l.given rest; body = l.body }) ≡ true
timed-top count rest l begin whole = loop-is (λ e. is_timed e l.step) l.step (unwrap_or l.given rest) l.body whole.even whole.top.fits.timed

-- ---- steps divide what loops last

-- a duration that is given, or the rest
even-with : (count rest : ℕ) (l : ReadLoop) (given : Option ℕ) → l.given ≡ given → IsTopLoop count l → (given ≡ None → divides l.step rest ≡ true) → divides l.step (unwrap_or l.given rest) ≡ true
even-with count rest l None is top left = rw is (left refl)
even-with count rest l (Some d) is top left = let even = rw is at top.even in rw is even

-- where a loop may take the rest
wholes-rest : (count rest : ℕ) (loops : List ReadLoop) → All (IsTopLoop count) loops → rest_check rest loops ≡ Ok tt → All (IsWhole count rest) loops
wholes-rest count rest [] all even = λ k d inside. absurd (omega arith)
wholes-rest count rest (l ∷ more) all even =
    elim (cases_Bool (is_some l.given || divides l.step rest)) [
      | inl e ↦
          let top = All-head (IsTopLoop count) l more all in
          All-cons (IsWhole count rest) l more (record { top = top; even = even-with count rest l l.given refl top (λ none. rw none at e) })
          (wholes-rest count rest more (All-tail (IsTopLoop count) l more all) (rw e at even))
      | inr e ↦ let bad : Err (StepUneven l.line) ≡ Ok tt = rw e at even in absurd (cc)
    ]

-- where none may
wholes-own : (count rest : ℕ) (loops : List ReadLoop) → All (IsTopLoop count) loops → durations_check None loops ≡ Ok tt → All (IsWhole count rest) loops
wholes-own count rest [] all last = λ k d inside. absurd (omega arith)
wholes-own count rest (l ∷ more) all last =
    elim (cases_Bool (is_some l.given || false)) [
      | inl e ↦
          let top = All-head (IsTopLoop count) l more all in
          All-cons (IsWhole count rest) l more (record { top = top; even = even-with count rest l l.given refl top (λ none. let bad : false ≡ true = rw none at e in absurd (cc)) })
          (wholes-own count rest more (All-tail (IsTopLoop count) l more all) (rw e at last))
      | inr e ↦ let bad : Err (DurationMissing l.line) ≡ Ok tt = rw e at last in absurd (cc)
    ]

-- whether the span is given or not
wholes : (count : ℕ) (span : Option ℕ) (room : ℕ) (loops : List ReadLoop) (lasts : ℕ) → All (IsTopLoop count) loops → durations_check span loops ≡ Ok tt → span_of span room loops ≡ Ok lasts → All (IsWhole count (lasts - total_duration loops)) loops
wholes count None room loops lasts all last is = wholes-own count (lasts - total_duration loops) loops all last
wholes count (Some span) room loops lasts all last is =
    let made = test_ok (makes_up span loops) (SpanMismatch (total_duration loops) (pos span)) (λ _. rest_check (span - total_duration loops) loops >>= (λ _. Ok span)) lasts is in
    let even = first_ok (λ (u : Unit {0}). Ok span) (rest_check (span - total_duration loops) loops) lasts made.1 in
    let same : span ≡ lasts = cc (even.2) in
    let P : ℕ → Type 0 = λ n. All (IsWhole count (n - total_duration loops)) loops in
    subst P same (wholes-rest count (span - total_duration loops) loops all even.1)

-- how long a run lasts at most
pub lasts-most : (span : Option ℕ) (room : ℕ) (loops : List ReadLoop) (lasts : ℕ) → IfSome span (λ s. s ≤ 2 ^ 40) → room ≤ 2 ^ 40 → span_of span room loops ≡ Ok lasts → lasts ≤ 2 ^ 40
lasts-most None room loops lasts given most is =
    elim (cases_Bool (ltb 0 (total_duration loops) && ltb (total_duration loops) room)) [
      | inl e ↦
          let same : Ok (total_duration loops) ≡ Ok lasts = rw e at is in
          let at : total_duration loops ≡ lasts = cc in
          let below = ltb-true (total_duration loops) room (and_parts (ltb 0 (total_duration loops)) (ltb (total_duration loops) room) e).1 in
          omega arith
      | inr e ↦ let bad : Err (SpanTooLong (total_duration loops)) ≡ Ok lasts = rw e at is in absurd (cc)
    ]
lasts-most (Some span) room loops lasts given most is =
    let made = test_ok (makes_up span loops) (SpanMismatch (total_duration loops) (pos span)) (λ _. rest_check (span - total_duration loops) loops >>= (λ _. Ok span)) lasts is in
    let even = first_ok (λ (u : Unit {0}). Ok span) (rest_check (span - total_duration loops) loops) lasts made.1 in
    let same : span ≡ lasts = cc (even.2) in
    omega arith

-- the sequence is sound
pub tops_sound : (r : Reading) (span : Option ℕ) (room length : ℕ) → IsReading r → IfSome span (λ s. s ≤ 2 ^ 40) → room ≤ 2 ^ 40 → durations_check span r.loops ≡ Ok tt → span_of span room r.loops ≡ Ok length
    → IsSound (record { links = r.links; loops = top_loops 0 (length - total_duration r.loops) r.loops; span = pos length })
tops_sound r span room length reading given most last is =
    let count = Rattle.std.proofs.Common.length r.links in
    let rest = length - total_duration r.loops in
    let all = wholes count span room r.loops length reading.loops_fit last is in
    record {
      timed = top_loops-all is_timed_top (IsWhole count rest) rest (timed-top count rest) 0 r.loops all;
      nested = top_loops-all (λ top. list_all (λ element. is_nested element 7) top.body) (IsWhole count rest) rest (λ l begin whole. whole.top.fits.nested) 0 r.loops all;
      linked = top_loops-all (λ top. list_all (is_linked count) top.body) (IsWhole count rest) rest (λ l begin whole. whole.top.fits.linked count (omega arith)) 0 r.loops all;
      end_to_end = top_loops-end_to_end 0 rest r.loops length (let full = full_length-is span room r.loops length last is in omega arith);
      forward = omega (arith, ints);
      short = lasts-most span room r.loops length given most is;
    }
