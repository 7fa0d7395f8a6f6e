-- How long all top loops last, where one of them takes the rest.
use Rattle.std.proofs.Common.{◌≡◌, ℕ, ◌+◌, ◌-◌, false, cond, not, is_some, ◌&&◌, ◌||◌, ltb, pos, inl, inr, List, [], ◌∷◌, Option, Some, None, Ok, Err, refl, ap, arith}
use Rattle.std.proofs.lemmas.Bool.{cases_Bool, eqb-true, ltb-true}
use Rattle.std.proofs.lemmas.List.Sums.{sum_by-cons}
use Rattle.std.specs.Option.{unwrap_or}
use Rattle.cpl_runseq.specs.declared.fault.SeqFault.TheVariants.{DurationMissing, SpanMismatch, SpanTooLong}
use Rattle.cpl_runseq.specs.declared.read_loop.ReadLoop.{ReadLoop}
use Rattle.cpl_base.specs.ResultChain.{◌>>=◌}
use Rattle.cpl_runseq.specs.ReadingBounds.{full_length}
use Rattle.cpl_runseq.specs.Whole.{durations_check, has_rest, makes_up, rest_check, span_of, total_duration}
use Rattle.cpl_runseq.proofs.ResultFacts.{first_ok, test_ok}

-- what a loop without a duration adds, if there is one
abbrev rest_share : ℕ → List ReadLoop → ℕ
rest_share rest loops = cond (has_rest loops) rest 0

-- at most one loop takes the rest, by the span and what the first loop says
full_with : (span : Option ℕ) (rest : ℕ) (given : Option ℕ) (l : ReadLoop) (more : List ReadLoop) → l.given ≡ given → (durations_check span more ≡ Ok tt → full_length rest more ≡ total_duration more + rest_share rest more) → durations_check span (l ∷ more) ≡ Ok tt → full_length rest (l ∷ more) ≡ total_duration (l ∷ more) + rest_share rest (l ∷ more)
full_with span rest (Some d) l more is behind last =
    let all = sum_by-cons (λ (m : ReadLoop). unwrap_or m.given rest) l more in
    let some = sum_by-cons (λ (m : ReadLoop). unwrap_or m.given 0) l more in
    let a : unwrap_or l.given rest ≡ d = ap (λ (g : Option ℕ). unwrap_or g rest) is in
    let b : unwrap_or l.given 0 ≡ d = ap (λ (g : Option ℕ). unwrap_or g 0) is in
    let share : rest_share rest (l ∷ more) ≡ rest_share rest more = ap (λ (g : Option ℕ). cond (not (is_some g) || has_rest more) rest 0) is in
    let most = behind (rw is at last) in
    omega arith
full_with span rest None l [] is behind last =
    let a : unwrap_or l.given rest ≡ rest = ap (λ (g : Option ℕ). unwrap_or g rest) is in
    let b : unwrap_or l.given 0 ≡ 0 = ap (λ (g : Option ℕ). unwrap_or g 0) is in
    let all = sum_by-cons (λ (m : ReadLoop). unwrap_or m.given rest) l [] in
    let some = sum_by-cons (λ (m : ReadLoop). unwrap_or m.given 0) l [] in
    let none : full_length rest [] ≡ 0 = refl in
    let nothing : total_duration [] ≡ 0 = refl in
    let share : rest_share rest (l ∷ []) ≡ rest = ap (λ (g : Option ℕ). cond (not (is_some g) || false) rest 0) is in
    omega arith
full_with None rest None l (m ∷ ms) is behind last = let bad = rw is at last in absurd (cc)
full_with (Some span) rest None l (m ∷ ms) is behind last = let bad = rw is at last in absurd (cc)

-- at most one loop takes the rest
full_length-total : (span : Option ℕ) (rest : ℕ) (loops : List ReadLoop) → durations_check span loops ≡ Ok tt → full_length rest loops ≡ total_duration loops + rest_share rest loops
full_length-total span rest [] last = refl
full_length-total span rest (l ∷ more) last = full_with span rest l.given l more refl (full_length-total span rest more) last

-- without a span none does
no_rest : (loops : List ReadLoop) → durations_check None loops ≡ Ok tt → has_rest loops ≡ false
no_rest [] last = refl
no_rest (l ∷ more) last = elim (cases_Bool (is_some l.given)) [
  | inl e ↦ rw e (no_rest more (rw e at last))
  | inr e ↦ let bad : Err (DurationMissing l.line) ≡ Ok tt = rw e at last in absurd (cc)
]

-- all loops together last as long as the run
pub full_length-is : (span : Option ℕ) (room : ℕ) (loops : List ReadLoop) (length : ℕ) → durations_check span loops ≡ Ok tt → span_of span room loops ≡ Ok length → full_length (length - total_duration loops) loops ≡ length
full_length-is None room loops length last is =
    let all = full_length-total None (length - total_duration loops) loops last in
    let none : rest_share (length - total_duration loops) loops ≡ 0 = ap (λ b. cond b (length - total_duration loops) 0) (no_rest loops last) in
    elim (cases_Bool (ltb 0 (total_duration loops) && ltb (total_duration loops) room)) [
      | inl e ↦ let same : Ok (total_duration loops) ≡ Ok length = rw e at is in let eq : total_duration loops ≡ length = cc in omega arith
      | inr e ↦ let bad : Err (SpanTooLong (total_duration loops)) ≡ Ok length = rw e at is in absurd (cc)
    ]
full_length-is (Some span) room loops length last is =
    let made = test_ok (makes_up span loops) (SpanMismatch (total_duration loops) (pos span)) (λ _. rest_check (span - total_duration loops) loops >>= (λ _. Ok span)) length is in
    let even = first_ok (λ (u : Unit {0}). Ok span) (rest_check (span - total_duration loops) loops) length made.1 in
    let same : span ≡ length = cc (even.2) in
    let all = full_length-total (Some span) (length - total_duration loops) loops last in
    elim (cases_Bool (has_rest loops)) [
      | inl e ↦
          let less = ltb-true (total_duration loops) span (rw e at made.0) in
          let share : rest_share (length - total_duration loops) loops ≡ length - total_duration loops = ap (λ b. cond b (length - total_duration loops) 0) e in
          omega arith
      | inr e ↦
          let exact = eqb-true (total_duration loops) span (rw e at made.0) in
          let share : rest_share (length - total_duration loops) loops ≡ 0 = ap (λ b. cond b (length - total_duration loops) 0) e in
          omega arith
    ]
