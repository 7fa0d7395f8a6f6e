use Rattle.std.proofs.Common.{◌≡◌, ◌+◌, ◌≤◌, ◌∙◌, ◌++◌, ◌∷◌, [], ℕ, ap, arith, max, subst, sym, take}
use Rattle.std.specs.List.{All}
use Rattle.std.proofs.lemmas.List.{take_more}
use Rattle.std.proofs.lemmas.List.Elements.{All-push, All-weaker}
use Rattle.std.proofs.lemmas.List.Sums.{fold_push}
use Rattle.cpl_build.specs.Outlines.{pet_count, pets_asked}
use Rattle.cpl_build.specs.declared.components.Candidate.{Candidate}
use Rattle.cpl_build.proofs.realising.pet_count.Goals as goal

pub loop-candidate-preserved : goal.loop-candidate-preserved
loop-candidate-preserved c =
    let all = c.args.candidates.now in
    let k = c.loop-candidate.candidate-index in
    let next = c.candidate-item.result in
    let now = c.loop-candidate.invariant in
    let asked = c.pets_asked.ensures in
    let f = λ (most : ℕ) (candidate : Candidate). max most (pets_asked candidate) in
    let more : take (k + 1) all ≡ take k all ++ next ∷ [] = take_more all k next c.loop-candidate-test.true ∙ ap (λ x. take k all ++ x ∷ []) (sym c.candidate-item.is) in
    let P : Candidate → Type 0 = λ candidate. pets_asked candidate ≤ c.greater-pets.result in
    record {
      value = c.greater-pets.ensures ∙ (λ i. max (now.value i) (asked.value i)) ∙ sym (fold_push f 1 (take k all) next) ∙ sym (ap pet_count more);
      some = omega (arith, c.greater-pets.ensures, now.some);
      few = omega (arith, c.greater-pets.ensures, now.few, asked.few);
      above = subst (All P) (sym more) (All-push P (take k all) next
          (All-weaker (λ (candidate : Candidate). pets_asked candidate ≤ c.loop-candidate.pets) P (λ candidate is. omega (arith, is, c.greater-pets.ensures)) (take k all) now.above)
          (omega (arith, asked.value, c.greater-pets.ensures)));
    }
