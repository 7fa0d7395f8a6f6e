-- A formula counts twice its parts, and a call of an operator twice the parts of its operands and one more:
-- less than the formula that it stands for, and more than each operand.
use Rattle.std.proofs.Common.{ℕ, ◌+◌, ◌*◌}
use Rattle.cpl_formula.specs.declared.formula.Formula.{Formula}
use Rattle.cpl_formula.specs.declared.formula.Formula.TheOpen.{Formula-F, Number, Input, Minus, Abs, Plus, Less, Times, Over, Min, Max, Select}
use Rattle.cpl_formula.specs.declared.formula.Formula.TheFolds.{fold-Formula}
use Rattle.cpl_formula.proofs.worth.+worth.Given as goal

-- the parts of one level, by the counts of its parts
abbrev pub count_step : Formula-F ℕ → ℕ
count_step (Number z) = 1
count_step (Input k) = 1
count_step (Minus a) = a + 1
count_step (Abs a) = a + 1
count_step (Plus a b) = a + b + 1
count_step (Less a b) = a + b + 1
count_step (Times a b) = a + b + 1
count_step (Over a b) = a + b + 1
count_step (Min a b) = a + b + 1
count_step (Max a b) = a + b + 1
count_step (Select c a b) = c + a + b + 1

-- how many parts a formula has
abbrev pub parts : Formula → ℕ
parts = fold-Formula ℕ count_step

abbrev pub decreases-value : goal.decreases-value
decreases-value l = 2 * parts l.tree.now

abbrev pub decreases-minus : goal.decreases-minus
decreases-minus l = 2 * parts l.a.now + 1

abbrev pub decreases-absolute : goal.decreases-absolute
decreases-absolute l = 2 * parts l.a.now + 1

abbrev pub decreases-plus : goal.decreases-plus
decreases-plus l = 2 * (parts l.a.now + parts l.b.now) + 1

abbrev pub decreases-less : goal.decreases-less
decreases-less l = 2 * (parts l.a.now + parts l.b.now) + 1

abbrev pub decreases-times : goal.decreases-times
decreases-times l = 2 * (parts l.a.now + parts l.b.now) + 1

abbrev pub decreases-over : goal.decreases-over
decreases-over l = 2 * (parts l.a.now + parts l.b.now) + 1

abbrev pub decreases-least : goal.decreases-least
decreases-least l = 2 * (parts l.a.now + parts l.b.now) + 1

abbrev pub decreases-greater : goal.decreases-greater
decreases-greater l = 2 * (parts l.a.now + parts l.b.now) + 1

abbrev pub decreases-select : goal.decreases-select
decreases-select l = 2 * (parts l.condition.now + parts l.a.now + parts l.b.now) + 1
