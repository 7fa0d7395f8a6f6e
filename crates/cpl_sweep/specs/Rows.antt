-- How many strips a formula is worked out in.
use Rattle.std.specs.Prelude.{ℕ, ◌+◌, max}
use Rattle.cpl_formula.specs.declared.formula.Formula.{Formula}
use Rattle.cpl_formula.specs.declared.formula.Formula.TheOpen.{Formula-F, Number, Input, Minus, Abs, Plus, Less, Times, Over, Min, Max, Select}
use Rattle.cpl_formula.specs.declared.formula.Formula.TheFolds.{fold-Formula}

-- the strips of a part: its own, where it stands on the right of an operator, and those that its own parts take beside
pub record Rows : Type 0 where
  pub own : ℕ
  pub beside : ℕ

-- numbers and inputs are read where they stand
abbrev pub no_rows : Rows
no_rows = record { own = 0; beside = 0 }

-- the left part is worked out in the strip of the whole, the right one in a strip beside it
abbrev pub rows_of_two : Rows → Rows → Rows
rows_of_two a b = record { own = 1; beside = max a.beside (b.own + b.beside) }

-- both parts of a choice take a strip, wherever they stand
abbrev pub rows_of_choice : Rows → Rows → Rows → Rows
rows_of_choice c a b = record { own = 1; beside = max c.beside (max (1 + a.beside) (2 + b.beside)) }

-- the strips of one level, by those of its parts
abbrev pub rows_step : Formula-F Rows → Rows
rows_step (Number z) = no_rows
rows_step (Input k) = no_rows
rows_step (Minus a) = record { own = 1; beside = a.beside }
rows_step (Abs a) = record { own = 1; beside = a.beside }
rows_step (Plus a b) = rows_of_two a b
rows_step (Less a b) = rows_of_two a b
rows_step (Times a b) = rows_of_two a b
rows_step (Over a b) = rows_of_two a b
rows_step (Min a b) = rows_of_two a b
rows_step (Max a b) = rows_of_two a b
rows_step (Select c a b) = rows_of_choice c a b

-- the strips of a formula
abbrev pub rows_of : Formula → Rows
rows_of = fold-Formula Rows rows_step

-- how many strips a formula is worked out in, beside the one that it is swept into
abbrev pub scratch_rows : Formula → ℕ
scratch_rows tree = (rows_of tree).beside
