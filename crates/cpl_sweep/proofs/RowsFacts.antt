-- The strips of a formula: one equation for each kind of tree that is written out.
use Rattle.std.proofs.Common.{◌≡◌, ℕ}
use Rattle.cpl_formula.specs.declared.formula.Formula.{Formula, roll-Formula}
use Rattle.cpl_formula.specs.declared.formula.Formula.TheFolds.{fold-roll-Formula}
use Rattle.cpl_formula.specs.declared.formula.Formula.TheOpen.{Input, Plus, Less, Times}
use Rattle.cpl_sweep.specs.Rows.{Rows, no_rows, rows_of, rows_of_two, rows_step}

pub rows_of-Input : (k : ℕ) → rows_of (roll-Formula (Input k)) ≡ no_rows
rows_of-Input k = fold-roll-Formula Rows rows_step (Input k)

pub rows_of-Plus : (a b : Formula) → rows_of (roll-Formula (Plus a b)) ≡ rows_of_two (rows_of a) (rows_of b)
rows_of-Plus a b = fold-roll-Formula Rows rows_step (Plus a b)

pub rows_of-Less : (a b : Formula) → rows_of (roll-Formula (Less a b)) ≡ rows_of_two (rows_of a) (rows_of b)
rows_of-Less a b = fold-roll-Formula Rows rows_step (Less a b)

pub rows_of-Times : (a b : Formula) → rows_of (roll-Formula (Times a b)) ≡ rows_of_two (rows_of a) (rows_of b)
rows_of-Times a b = fold-roll-Formula Rows rows_step (Times a b)
