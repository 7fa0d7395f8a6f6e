use Rattle.std.proofs.Common.{◌≡◌, ◌∙◌, ◌+◌, ◌++◌, ◌∷◌, [], List, ap, arith, map, sym}
use Rattle.std.proofs.lemmas.List.FromFn.{map-range_with_len_more}
use Rattle.std.specs.List.{range_with_len}
use Rattle.cpl_route.specs.declared.need.Need.{Need}
use Rattle.cpl_smm.specs.Needs.{need_of}
use Rattle.cpl_smm.proofs.weights.Weights.needs.Goals as goal

pub loop-k-preserved : goal.loop-k-preserved
loop-k-preserved c =
    let first = c.first_pet-first.result in
    let need : c.in_ok-need.field-0 ≡ need_of c.args.self.now c.args.dst.now (first + c.loop-k.k) = c.in_ok-need.ensures in
    c.in_ok-push.ensures.items
    ∙ ap (λ (ns : List Need). ns ++ c.in_ok-need.field-0 ∷ []) c.loop-k.invariant
    ∙ ap (λ (n : Need). map (need_of c.args.self.now c.args.dst.now) (range_with_len first c.loop-k.k) ++ n ∷ []) need
    ∙ sym (map-range_with_len_more (need_of c.args.self.now c.args.dst.now) first c.loop-k.k (first + c.loop-k.k) (omega arith))
