-- The formula that is measured.
use Rattle.std.specs.Prelude.{ℕ, pos}
use Rattle.cpl_formula.specs.declared.formula.Formula.{Formula, roll-Formula}
use Rattle.cpl_formula.specs.declared.formula.Formula.TheOpen.{Number, Input, Plus, Less, Times, Over}

-- a number of millionths
abbrev pub number : ℕ → Formula
number n = roll-Formula (Number (pos n))

-- an input, by its place
abbrev pub input : ℕ → Formula
input k = roll-Formula (Input k)

abbrev pub plus_tree : Formula → Formula → Formula
plus_tree a b = roll-Formula (Plus a b)

abbrev pub less_tree : Formula → Formula → Formula
less_tree a b = roll-Formula (Less a b)

abbrev pub times_tree : Formula → Formula → Formula
times_tree a b = roll-Formula (Times a b)

abbrev pub over_tree : Formula → Formula → Formula
over_tree a b = roll-Formula (Over a b)

-- the sum over the four neighbours
abbrev pub neighbours_tree : Formula
neighbours_tree = plus_tree (plus_tree (plus_tree (input 1) (input 2)) (input 3)) (input 4)

-- `flux + 0.05 * (flux[1,0] + flux[-1,0] + flux[0,1] + flux[0,-1] - 4 * flux) - temp / 100`
abbrev pub flux : Formula
flux = less_tree (plus_tree (input 0) (times_tree (number 50000) (less_tree neighbours_tree (times_tree (number 4000000) (input 0))))) (over_tree (input 5) (number 100000000))
