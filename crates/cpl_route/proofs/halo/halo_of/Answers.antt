use Rattle.std.proofs.Common.{◌≡◌, ◌+◌, arith, ap, ◌∙◌}
use Rattle.cpl_route.proofs.PairFacts.{pairs-more}
use Rattle.cpl_route.proofs.halo.halo_of.Goals as goal

pub loop-k-preserved : goal.loop-k-preserved
loop-k-preserved c =
    let first = c.first_pet-first.ensures.value in
    let count = c.pets-k-end.ensures.value in
    let few = c.pets-k-end.ensures.layout.pets in
    let place : c.from.result ≡ c.loop-k.k = c.from.ensures in
    rw place (pairs-more c.args.decomp.now c.args.offsets.now c.loop-k.pairs c.loop-k.k c.new.result c.loop-k.invariant (omega arith)
    (record {
      sound = c.new.ensures.sound;
      of_layout = c.new.ensures.decomp;
      of_offsets = c.new.ensures.offsets;
      of_pet = c.new.ensures.pet ∙ ap (λ n. n + c.loop-k.k) first;
    }))
