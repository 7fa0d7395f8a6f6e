-- Loops that stand in no other.
use Rattle.std.proofs.Common.{◌≡◌, ℕ, zero, suc, ◌+◌, ◌^◌, ◌<◌, ◌≤◌, true, eqb, List, [], ◌∷◌, length, get_or, ap, ◌∙◌, arith, unsigned_abs}
use Rattle.std.proofs.lemmas.Bool.{and_parts, eqb-true}
use Rattle.cpl_sequence.specs.Sequence.{Sequence}
use Rattle.cpl_sequence.specs.Sound.{are_end_to_end, is_timed, is_timed_top, IsSound}
use Rattle.cpl_sequence.specs.declared.element.TopLoop.{TopLoop}
use Rattle.cpl_sequence.proofs.SoundFacts.{IsLoop, list_all-get_or, loop_from}

-- what the test of such a loop says
pub top_from : (top : TopLoop) → is_timed_top top ≡ true → IsLoop (λ e. is_timed e top.step) top.step top.duration top.body
top_from top passed = loop_from (λ e. is_timed e top.step) top.step top.duration top.body passed

-- loops end to end don't end before they begin
end_to_end-le : (from : ℕ) (tops : List TopLoop) (to : ℕ) → are_end_to_end from tops to ≡ true → from ≤ to
end_to_end-le from [] to joined = omega (arith, eqb-true from to joined)
end_to_end-le from (top ∷ tops) to joined =
    let parts = and_parts (eqb top.begin from) (are_end_to_end (top.begin + top.duration) tops to) joined in
    omega (arith, eqb-true top.begin from parts.0, end_to_end-le (top.begin + top.duration) tops to parts.1)

-- each of them ends by the end
end_to_end-get : (from : ℕ) (tops : List TopLoop) (to at : ℕ) (d : TopLoop) → at < length tops → are_end_to_end from tops to ≡ true → (get_or tops at d).begin + (get_or tops at d).duration ≤ to
end_to_end-get from [] to at d inside joined = absurd (omega arith)
end_to_end-get from (top ∷ tops) to zero d inside joined =
    let parts = and_parts (eqb top.begin from) (are_end_to_end (top.begin + top.duration) tops to) joined in
    end_to_end-le (top.begin + top.duration) tops to parts.1
end_to_end-get from (top ∷ tops) to (suc at) d inside joined =
    let parts = and_parts (eqb top.begin from) (are_end_to_end (top.begin + top.duration) tops to) joined in
    end_to_end-get (top.begin + top.duration) tops to at d (omega arith) parts.1

-- a loop of a sound sequence
pub record IsTop (seq : Sequence) (top : TopLoop) : Type 0 where
  pub timed : is_timed_top top ≡ true
  pub ends : top.begin + top.duration ≤ unsigned_abs seq.span
  pub early : top.begin + top.duration ≤ 2 ^ 40

-- each of its loops is one
pub top_of_sound : (seq : Sequence) (at : ℕ) (d : TopLoop) → IsSound seq → at < length seq.loops → IsTop seq (get_or seq.loops at d)
top_of_sound seq at d sound inside =
    let ends = end_to_end-get 0 seq.loops (unsigned_abs seq.span) at d inside sound.end_to_end in
    record {
      timed = list_all-get_or is_timed_top seq.loops at d inside sound.timed;
      ends = ends;
      early = omega (arith, ends, sound.short);
    }

-- so is what stands at a place of the list that code has of them
pub top_at : (seq : Sequence) (tops : List TopLoop) (at : ℕ) (top : TopLoop) → tops ≡ seq.loops → IsSound seq → at < length tops → top ≡ get_or tops at top → IsTop seq top
top_at seq tops at top is sound inside here =
    let same : top ≡ get_or seq.loops at top = here ∙ ap (λ xs. get_or xs at top) is in
    rw same (top_of_sound seq at top sound (rw (← is) inside))
