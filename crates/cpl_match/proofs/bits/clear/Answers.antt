use Rattle.std.proofs.Common.{◌≡◌, ◌≤◌, length, inl, inr, arith, ap, ◌∙◌}
use Rattle.std.proofs.lemmas.Bool.{cases_lt}
use Rattle.std.proofs.lemmas.List.{get_or_past}
use Rattle.std.specs.Prelude.{slice_index}
use Rattle.cpl_match.specs.Marks.{is_set}
use Rattle.cpl_match.proofs.BitFacts.{is_set-zero}
use Rattle.cpl_match.proofs.bits.clear.Goals as goal

pub returns-clause-none : goal.returns-clause-none
returns-clause-none c = λ place bit.
    let words = c.loop-place.words.items in
    let zero : slice_index words place ≡ 0 =
    elim (cases_lt place c.loop-place.place) [
      | inl before ↦ c.loop-place.invariant.none place before
      | inr behind ↦ let past : length words ≤ place = grind arith in get_or_past words place 0 past
    ] in
    ap (λ word. is_set word bit) zero ∙ is_set-zero bit
