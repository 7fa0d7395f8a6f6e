use Rattle.std.proofs.Common.{◌≡◌, ◌∙◌, ◌+◌, ◌++◌, ◌∷◌, [], List, ℕ, ap, arith, map, sym, drop}
use Rattle.std.proofs.lemmas.List.FromFn.{map-range_with_len_more}
use Rattle.std.specs.List.{range_with_len}
use Rattle.cpl_smm.specs.Kept.{count_upto}
use Rattle.cpl_smm.proofs.CountFacts.{count_upto-on}
use Rattle.cpl_smm.proofs.rows.starts_of.Goals as goal

pub loop-dst-preserved : goal.loop-dst-preserved
loop-dst-preserved c =
    let dsts = c.args.dsts.now in
    let dst = c.loop-dst.dst in
    let place : c.past-place.result ≡ count_upto dst dsts = c.past-place.ensures.value ∙ sym (c.loop-dst.invariant.on dst (omega arith)) in
    record {
      starts =
          c.in_ok-push.ensures.items
          ∙ ap (λ (xs : List ℕ). xs ++ c.past-place.result ∷ []) c.loop-dst.invariant.starts
          ∙ ap (λ n. map (λ d. count_upto d dsts) (range_with_len 0 dst) ++ n ∷ []) place
          ∙ sym (map-range_with_len_more (λ d. count_upto d dsts) 0 dst dst (omega arith));
      within = c.past-place.ensures.within;
      on = λ d more. count_upto-on dst d dsts (omega arith) ∙ ap (λ n. n + count_upto d (drop n dsts)) (sym place);
    }
