-- A formula counts twice its parts, and a call of an operator twice the parts of its operands and one more.
use Rattle.std.proofs.Common.{ℕ, ◌+◌, ◌*◌}
use Rattle.cpl_formula.specs.declared.formula.Formula.{Formula}
use Rattle.cpl_formula.specs.declared.formula.Formula.TheOpen.{Formula-F, Number, Input, Minus, Abs, Plus, Less, Times, Over, Min, Max, Select}
use Rattle.cpl_formula.specs.declared.formula.Formula.TheFolds.{fold-Formula}
use Rattle.cpl_sweep.proofs.filling.+filling.Given as goal

-- the parts of one level, by the counts of its parts
abbrev pub count_step : Formula-F ℕ → ℕ
count_step (Number z) = 1
count_step (Input k) = 1
count_step (Minus a) = a + 1
count_step (Abs a) = a + 1
count_step (Plus a b) = a + b + 1
count_step (Less a b) = a + b + 1
count_step (Times a b) = a + b + 1
count_step (Over a b) = a + b + 1
count_step (Min a b) = a + b + 1
count_step (Max a b) = a + b + 1
count_step (Select c a b) = c + a + b + 1

-- how many parts a formula has
abbrev pub parts : Formula → ℕ
parts = fold-Formula ℕ count_step

abbrev pub decreases-fill : goal.decreases-fill
decreases-fill l = 3 * parts l.tree.now

abbrev pub decreases-fill_two : goal.decreases-fill_two
decreases-fill_two l = 3 * (parts l.a.now + parts l.b.now) + 1

abbrev pub decreases-fill_product : goal.decreases-fill_product
decreases-fill_product l = 3 * (parts l.a.now + parts l.b.now) + 2

abbrev pub decreases-fill_choice : goal.decreases-fill_choice
decreases-fill_choice l = 3 * (parts l.condition.now + parts l.a.now + parts l.b.now) + 1
