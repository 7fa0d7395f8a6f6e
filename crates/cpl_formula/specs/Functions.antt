-- The table of functions: their names, how many arguments each takes, and what it makes of their trees.
use Rattle.std.specs.Prelude.{ℕ, List, [], ◌∷◌, codes}
use Rattle.cpl_formula.specs.declared.formula.Formula.{Formula, roll-Formula}
use Rattle.cpl_formula.specs.declared.formula.Formula.TheOpen as tree
use Rattle.cpl_formula.specs.declared.functions.Binary.{Binary}
use Rattle.cpl_formula.specs.declared.functions.Binary.TheVariants.{Min, Max}
use Rattle.cpl_formula.specs.declared.functions.Function.{Function}
use Rattle.cpl_formula.specs.declared.functions.Function.TheVariants as function
use Rattle.cpl_formula.specs.declared.functions.Ternary.{Ternary}
use Rattle.cpl_formula.specs.declared.functions.Ternary.TheVariants.{Select}
use Rattle.cpl_formula.specs.declared.functions.Unary.{Unary}
use Rattle.cpl_formula.specs.declared.functions.Unary.TheVariants.{Abs}

-- the functions, by their names: of one argument, of two, of three
abbrev pub functions : List (List ℕ × Function)
functions =
    (codes "abs", function.Unary Abs) ∷ (codes "min", function.Binary Min) ∷ (codes "max", function.Binary Max)
    ∷ (codes "sel", function.Ternary Select) ∷ []

-- a function of one tree, of two, of three
abbrev pub tree_of_unary : Unary → Formula → Formula
tree_of_unary Abs a = roll-Formula (tree.Abs a)

-- a function of two arguments, at these
abbrev pub tree_of_binary : Binary → Formula → Formula → Formula
tree_of_binary Min a b = roll-Formula (tree.Min a b)
tree_of_binary Max a b = roll-Formula (tree.Max a b)

-- a function of three arguments, at these
abbrev pub tree_of_ternary : Ternary → Formula → Formula → Formula → Formula
tree_of_ternary Select c a b = roll-Formula (tree.Select c a b)
