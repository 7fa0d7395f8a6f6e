use Rattle.std.proofs.Common.{◌<◌, ◌+◌, length, pos, arith, rules, below_more}
use Rattle.std.proofs.lemmas.Int.{ints}
use Rattle.std.proofs.lemmas.List.Elements.{All-get_or, All-same}
use Rattle.std.specs.Int.{w64}
use Rattle.cpl_mediator.specs.Averages.{IsSumOf, number_at}
use Rattle.cpl_mediator.proofs.AveragesFacts.{IsAddedUpTo-all, IsAddedUpTo-more, IsSumOf-sums_with}
use Rattle.cpl_mediator.proofs.sums.add_numbers.Goals as goal
use mir.Val.{SFits}

pub loop-cell-preserved : goal.loop-cell-preserved
loop-cell-preserved c =
    let within : c.loop-cell.cell < length c.loop-cell.sums = omega arith in
    let fits : SFits w64 (number_at c.args.numbers.now c.loop-cell.cell) = search rules in
    let old = All-get_or (IsSumOf c.args.count) c.args.sums.now c.loop-cell.cell (pos 0) (omega arith) c.requires.sums in
    let same = c.loop-cell.invariant.added.ahead c.loop-cell.cell (omega arith) in
    record {
      added = IsAddedUpTo-more c.args.sums.now c.args.numbers.now c.loop-cell.sums c.loop-cell.cell _ within (omega (arith, ints, old.low, old.high, same, fits, c.from.ensures)) c.loop-cell.invariant.added;
      fits = below_more _ _ c.loop-cell.invariant.fits fits;
    }

pub returns-clause-sums : goal.returns-clause-sums
returns-clause-sums c = IsAddedUpTo-all c.args.sums.now c.args.numbers.now c.loop-cell.sums c.loop-cell.cell (omega arith) c.loop-cell.auto.sums c.loop-cell.invariant.added

pub returns-clause-still : goal.returns-clause-still
returns-clause-still c =
    let is = IsAddedUpTo-all c.args.sums.now c.args.numbers.now c.loop-cell.sums c.loop-cell.cell (omega arith) c.loop-cell.auto.sums c.loop-cell.invariant.added in
    All-same (IsSumOf (c.args.count + 1)) _ _ is (IsSumOf-sums_with c.args.count c.args.sums.now c.args.numbers.now c.requires.sums (λ k below. c.loop-cell.invariant.fits k (omega arith)))
