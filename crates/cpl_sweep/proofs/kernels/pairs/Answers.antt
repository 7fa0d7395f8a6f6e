use Rattle.std.proofs.Common.{◌≡◌, ◌<◌, ap, ◌∙◌, arith, length, pos}
use Rattle.std.proofs.lemmas.Int.{ints, to_z-of_z}
use Rattle.std.proofs.lemmas.List.Elements.{All-get_or}
use Rattle.std.specs.Int.{w64}
use Rattle.cpl_base.specs.Numbers.{IsValue}
use Rattle.cpl_sweep.specs.Kernels.{number_at}
use Rattle.cpl_sweep.proofs.KernelsFacts.{IsMadeUpTo-more}
use Rattle.cpl_sweep.proofs.kernels.pairs.Goals as goal
use mir.Val.{SFits}

pub loop-k-preserved : goal.loop-k-preserved
loop-k-preserved g c =
    let k = c.loop-k.k in
    let inside : k < length c.loop-k.these = omega arith in
    let this_is = All-get_or IsValue c.loop-k.these k (pos 0) inside c.loop-k.invariant.within in
    let other_is = All-get_or IsValue c.args.others.now k (pos 0) (omega arith) c.requires.others in
    let fits_this : SFits w64 (number_at c.loop-k.these k) = omega (arith, ints, this_is) in
    let fits_other : SFits w64 (number_at c.args.others.now k) = omega (arith, ints, other_is) in
    let within = c.join.ensures.within in
    let fits : SFits w64 c.join.result = omega (arith, ints, within) in
    let value : c.join.result ≡ g.J.Join.joins c.args.by.now (number_at c.loop-k.these k) (number_at c.args.others.now k) = simp to_z-of_z at c.join.ensures.value in
    let same = c.loop-k.invariant.ahead k (omega arith) in
    rw (to_z-of_z w64 c.join.result fits) (IsMadeUpTo-more k _ c.args.these.now c.loop-k.these c.join.result inside (value ∙ ap (λ z. g.J.Join.joins c.args.by.now z (number_at c.args.others.now k)) same) within c.loop-k.invariant)
