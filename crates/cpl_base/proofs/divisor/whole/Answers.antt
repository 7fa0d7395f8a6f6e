use Rattle.std.proofs.Common.{◌≡◌, ◌+◌, ◌*◌, ◌-◌, ◌/◌, ◌^◌, ◌≤◌, ◌<◌, arith, ap, ◌∙◌}
use Rattle.cpl_base.proofs.PreparedFacts.{guess, guess-is, guess-less, guess-low}
use Rattle.cpl_base.proofs.divisor.whole.Goals as goal

pub overflow_sub-number : goal.overflow_sub-number
overflow_sub-number c =
    let by = c.args.by in
    let n = c.args.number in
    let is : c.from.result * c.from-2.result / 2 ^ 64 ≡ guess by n = λ j. c.from.ensures j * (c.from-2.ensures ∙ c.requires.reciprocal) j / 2 ^ 64 in
    omega (arith, guess-low by n c.requires.some, ap (λ g. g * by) is)

pub returns-then-number-guess : goal.returns-then-number-guess
returns-then-number-guess c =
    let by = c.args.by in
    let n = c.args.number in
    let is : c.from.result * c.from-2.result / 2 ^ 64 ≡ guess by n = λ j. c.from.ensures j * (c.from-2.ensures ∙ c.requires.reciprocal) j / 2 ^ 64 in
    let short : n - guess by n * by < by = omega (arith, ap (λ g. g * by) is, c.if-number-guess.true) in
    is ∙ guess-is by n c.requires.some short

pub returns-else-number-guess : goal.returns-else-number-guess
returns-else-number-guess c =
    let by = c.args.by in
    let n = c.args.number in
    let is : c.from.result * c.from-2.result / 2 ^ 64 ≡ guess by n = λ j. c.from.ensures j * (c.from-2.ensures ∙ c.requires.reciprocal) j / 2 ^ 64 in
    let long : by ≤ n - guess by n * by = omega (arith, ap (λ g. g * by) is, c.if-number-guess.false) in
    ap (λ g. g + 1) is ∙ guess-less by n c.requires.some c.ranges.number.fits long
