use Rattle.std.proofs.Common.{◌≤◌, ◌+◌, ◌*◌, ◌+ℤ◌, FitsSigned, arith, rules, pos, to_z-of_z, unsigned_abs}
use Rattle.std.proofs.lemmas.Int.{ints}
use Rattle.std.specs.Int.{w128}
use Rattle.cpl_smm.proofs.SumFacts.{row_sum-next}
use Rattle.cpl_smm.proofs.sums.apply_row.Goals as goal

pub loop-k-preserved : goal.loop-k-preserved
loop-k-preserved c =
    let product = c.product-sum.result in
    let fits : FitsSigned w128 product = search rules in
    let fits_sum : FitsSigned w128 (c.loop-k.sum +ℤ product) = search rules in
    let within : unsigned_abs (c.loop-k.sum +ℤ product) ≤ (c.loop-k.k + 1) * 1000000000000000000000000000 = omega (arith, ints) in
    rw (c.loop-k.sum-is, to_z-of_z fits, to_z-of_z fits_sum) (record {
      sum = row_sum-next c.args.row.now c.args.values.now c.loop-k.k (0, pos 0) (pos 0) c.loop-k.sum product _ c.loop-k-test.true (omega (arith, c.requires.count)) c.product-sum.ensures.value (rw c.loop-k.sum-is at c.loop-k.invariant.sum);
      within = within;
    })
