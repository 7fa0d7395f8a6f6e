use Rattle.std.proofs.Common.{FitsSigned, w64, to_z-of_z, arith, ◌+ℤ◌}
use Rattle.std.proofs.lemmas.Int.{ints}
use Rattle.cpl_calendar.proofs.Months.{all_days_le}
use Rattle.cpl_rule.proofs.moment.parts_after.Goals as goal

pub overflow_add-start : goal.overflow_add-start
overflow_add-start c =
    let start = c.ranges.start in
    let seconds = c.ranges.seconds in
    let end = c.requires.within.not_over in
    let begun = c.requires.within.begun in
    rw (to_z-of_z start, to_z-of_z seconds) (omega (arith, ints, all_days_le c.args.cal))

pub parts-requires : goal.parts-requires
parts-requires c =
    let start = c.ranges.start in
    let seconds = c.ranges.seconds in
    let end = c.requires.within.not_over in
    let begun = c.requires.within.begun in
    let sum : FitsSigned w64 (c.args.start +ℤ c.args.seconds) = omega (arith, ints, all_days_le c.args.cal) in
    rw (to_z-of_z start, to_z-of_z seconds, to_z-of_z sum) c.requires.within

pub returns-clause-value : goal.returns-clause-value
returns-clause-value c =
    let start = c.ranges.start in
    let seconds = c.ranges.seconds in
    let end = c.requires.within.not_over in
    let begun = c.requires.within.begun in
    let sum : FitsSigned w64 (c.args.start +ℤ c.args.seconds) = omega (arith, ints, all_days_le c.args.cal) in
    rw (to_z-of_z start, to_z-of_z seconds, to_z-of_z sum) at c.parts.ensures.numbers

pub returns-clause-few : goal.returns-clause-few
returns-clause-few c =
    let start = c.requires.start in
    let end = c.requires.within.not_over in
    omega (arith, ints, all_days_le c.args.cal)
