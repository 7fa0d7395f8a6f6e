-- The definitions of formulas, evaluated on examples.
use Rattle.std.specs.Prelude.{◌≡◌, ◌*◌, ℕ, zero, suc, ℤ, pos, neg_ℤ, true, List, [], ◌∷◌, ◌++◌, Result, Ok, Err, codes}
use Rattle.std.specs.Result.{is_ok}
use Rattle.cpl_base.specs.Numbers.{greatest, million}
use Rattle.cpl_formula.specs.Arguments.{argument_of}
use Rattle.cpl_formula.specs.Formulas.{kinds, formula_of}
use Rattle.cpl_formula.specs.Grammar.{Expr, Term, Atom, depth_of_expr, yield_of_expr}
use Rattle.cpl_formula.specs.Grammar.Atom.{binary, digit, field, group, neighbour, unary}
use Rattle.cpl_formula.specs.Grammar.Expr.{sum, term}
use Rattle.cpl_formula.specs.Grammar.Factor.{atom, minus as minus_of}
use Rattle.cpl_formula.specs.Grammar.Near.{one, two}
use Rattle.cpl_formula.specs.Grammar.Offset.{ahead, back}
use Rattle.cpl_formula.specs.Grammar.Term.{factor, product}
use Rattle.cpl_formula.specs.Reads.{read_at}
use Rattle.cpl_formula.specs.Steps.{parsed_of}
use Rattle.cpl_formula.specs.Tokens.{Placed, tokens_of}
use Rattle.cpl_formula.specs.Tree.{value_of}
use Rattle.cpl_formula.specs.declared.formula.Formula.{Formula, roll-Formula}
use Rattle.cpl_formula.specs.declared.formula.Formula.TheOpen as tree
use Rattle.cpl_formula.specs.declared.arguments.Argument.{Argument}
use Rattle.cpl_formula.specs.declared.arguments.Argument.TheVariants.{Number, Cell}
use Rattle.cpl_formula.specs.declared.fault.FormulaFault.{FormulaFault}
use Rattle.cpl_formula.specs.declared.fault.FormulaFault.TheVariants.{Syntax, BadNumber, NameUnknown, FarNeighbour, DeepFormula}
use Rattle.cpl_formula.specs.declared.formula.Parsed.{Parsed}
use Rattle.cpl_formula.specs.declared.formula.Read.{Read}
use Rattle.cpl_formula.specs.declared.formula.ReadName.TheVariants as names
use Rattle.cpl_formula.specs.declared.functions.Binary.TheVariants.{Min}
use Rattle.cpl_formula.specs.declared.functions.Unary.TheVariants.{Abs}
use Rattle.cpl_formula.specs.declared.tokens.ProductSign.TheVariants.{Times}
use Rattle.cpl_formula.specs.declared.tokens.SumSign.TheVariants.{Plus, Less}
use Rattle.cpl_formula.specs.declared.tokens.Token.{Token}
use Rattle.cpl_formula.specs.declared.tokens.Token.TheVariants as token

-- what is read of a text over the fields `x` and `y` and the alarm `a`
abbrev pub outcome_of : List ℕ → Result Parsed FormulaFault
outcome_of = parsed_of (codes "x" ∷ codes "y" ∷ []) (codes "a" ∷ [])

-- a tree with its reads
abbrev pub formula : Formula → List Read → Result Parsed FormulaFault
formula tree reads = Ok record { tree = tree; reads = reads }

-- a text, so many times
abbrev pub copies_of : ℕ → List ℕ → List ℕ
copies_of zero text = []
copies_of (suc n) text = text ++ copies_of n text

-- ---- trees

-- a number of millionths
abbrev pub number : ℤ → Formula
number z = roll-Formula (tree.Number z)

-- a number of units
abbrev pub units : ℕ → Formula
units n = number (pos (n * million))

-- an input, by its place
abbrev pub input : ℕ → Formula
input k = roll-Formula (tree.Input k)

-- minus a tree
abbrev pub minus_tree : Formula → Formula
minus_tree a = roll-Formula (tree.Minus a)

-- a tree without its sign
abbrev pub abs_tree : Formula → Formula
abs_tree a = roll-Formula (tree.Abs a)

-- the sum of two trees
abbrev pub plus_tree : Formula → Formula → Formula
plus_tree a b = roll-Formula (tree.Plus a b)

-- their difference
abbrev pub less_tree : Formula → Formula → Formula
less_tree a b = roll-Formula (tree.Less a b)

-- their product
abbrev pub times_tree : Formula → Formula → Formula
times_tree a b = roll-Formula (tree.Times a b)

-- their quotient
abbrev pub over_tree : Formula → Formula → Formula
over_tree a b = roll-Formula (tree.Over a b)

-- the lesser of the two
abbrev pub min_tree : Formula → Formula → Formula
min_tree a b = roll-Formula (tree.Min a b)

-- the greater
abbrev pub max_tree : Formula → Formula → Formula
max_tree a b = roll-Formula (tree.Max a b)

-- the second tree where the first is above 0, else the third
abbrev pub select_tree : Formula → Formula → Formula → Formula
select_tree c a b = roll-Formula (tree.Select c a b)

-- ---- reads

-- the field `x` at the cell itself
abbrev pub x_here : Read
x_here = read_at (names.Field 0) (pos 0) (pos 0)

-- the field `y` at the cell itself
abbrev pub y_here : Read
y_here = read_at (names.Field 1) (pos 0) (pos 0)

-- ---- examples

-- texts that are formulas, with their trees and reads
pub record FormulaTexts : Type 0 where
  pub digit : outcome_of (codes "3") ≡ formula (units 3) []
  pub long_number : outcome_of (codes "012.50") ≡ formula (number (pos 12500000)) []
  pub field : outcome_of (codes "y") ≡ formula (input 0) (y_here ∷ [])
  pub sum : outcome_of (codes "x + 1") ≡ formula (plus_tree (input 0) (units 1)) (x_here ∷ [])
  pub difference : outcome_of (codes "x - 1") ≡ formula (less_tree (input 0) (units 1)) (x_here ∷ [])
  pub product : outcome_of (codes "x * y") ≡ formula (times_tree (input 0) (input 1)) (x_here ∷ y_here ∷ [])
  pub quotient : outcome_of (codes "x/2") ≡ formula (over_tree (input 0) (units 2)) (x_here ∷ [])
  pub chain_of_sums : outcome_of (codes "x - 1 - 2") ≡ formula (less_tree (less_tree (input 0) (units 1)) (units 2)) (x_here ∷ [])
  pub chain_of_products : outcome_of (codes "x / 2 / 3") ≡ formula (over_tree (over_tree (input 0) (units 2)) (units 3)) (x_here ∷ [])
  pub product_before_sum : outcome_of (codes "1 + x * 2 - 3") ≡ formula (less_tree (plus_tree (units 1) (times_tree (input 0) (units 2))) (units 3)) (x_here ∷ [])
  pub brackets : outcome_of (codes "(1 + x) * 2") ≡ formula (times_tree (plus_tree (units 1) (input 0)) (units 2)) (x_here ∷ [])
  pub minus_number : outcome_of (codes "-2") ≡ formula (minus_tree (units 2)) []
  pub minus_brackets : outcome_of (codes "-(x - 1)") ≡ formula (minus_tree (less_tree (input 0) (units 1))) (x_here ∷ [])
  pub minus_factor : outcome_of (codes "-x * -y") ≡ formula (times_tree (minus_tree (input 0)) (minus_tree (input 1))) (x_here ∷ y_here ∷ [])
  pub two_minuses : outcome_of (codes "--x") ≡ formula (minus_tree (minus_tree (input 0))) (x_here ∷ [])
  pub less_minus : outcome_of (codes "x--1") ≡ formula (less_tree (input 0) (minus_tree (units 1))) (x_here ∷ [])
  pub neighbour : outcome_of (codes "x[1,-2]") ≡ formula (input 0) (read_at (names.Field 0) (pos 1) (neg_ℤ (pos 2)) ∷ [])
  pub neighbour_spaced : outcome_of (codes "x [ - 1 , 2 ]") ≡ formula (input 0) (read_at (names.Field 0) (neg_ℤ (pos 1)) (pos 2) ∷ [])
  pub neighbour_here : outcome_of (codes "x + x[-0,0]") ≡ formula (plus_tree (input 0) (input 0)) (x_here ∷ [])
  pub reads_in_order : outcome_of (codes "y + x + y") ≡ formula (plus_tree (plus_tree (input 0) (input 1)) (input 0)) (y_here ∷ x_here ∷ [])
  pub minimum : outcome_of (codes "min(x, 1)") ≡ formula (min_tree (input 0) (units 1)) (x_here ∷ [])
  pub maximum : outcome_of (codes "max(1, y)") ≡ formula (max_tree (units 1) (input 0)) (y_here ∷ [])
  pub magnitude : outcome_of (codes "abs(-x)") ≡ formula (abs_tree (minus_tree (input 0))) (x_here ∷ [])
  pub selection : outcome_of (codes "sel (x, 1, abs(y))") ≡ formula (select_tree (input 0) (units 1) (abs_tree (input 1))) (x_here ∷ y_here ∷ [])
  pub quantities : outcome_of (codes "i + daysec") ≡ formula (plus_tree (input 0) (input 1)) (read_at names.I (pos 0) (pos 0) ∷ read_at names.DaySecond (pos 0) (pos 0) ∷ [])
  pub alarm : outcome_of (codes "ring_a") ≡ formula (input 0) (read_at (names.Ring 0) (pos 0) (pos 0) ∷ [])

-- texts that aren't, with their first faults
pub record FaultyTexts : Type 0 where
  pub empty : outcome_of (codes "") ≡ Err (Syntax 0)
  pub first : outcome_of (codes " * x") ≡ Err (Syntax 1)
  pub middle : outcome_of (codes "x + * 2") ≡ Err (Syntax 4)
  pub last : outcome_of (codes "x + 1 )") ≡ Err (Syntax 6)
  pub early : outcome_of (codes "x + ") ≡ Err (Syntax 4)
  pub left_open : outcome_of (codes "(x") ≡ Err (Syntax 2)
  pub two_operands : outcome_of (codes "x y") ≡ Err (Syntax 2)
  pub plus_in_front : outcome_of (codes "+x") ≡ Err (Syntax 0)
  pub stray : outcome_of (codes "x & y") ≡ Err (Syntax 2)
  pub point_last : outcome_of (codes "1.") ≡ Err (Syntax 1)
  pub argument_too_many : outcome_of (codes "abs(x, 1)") ≡ Err (Syntax 5)
  pub argument_too_few : outcome_of (codes "sel(x, 1)") ≡ Err (Syntax 8)
  pub function_bracket : outcome_of (codes "min[0,0]") ≡ Err (Syntax 3)
  pub function_alone : outcome_of (codes "x + abs") ≡ Err (Syntax 7)
  pub seven_places : outcome_of (codes "x + 1.0000001") ≡ Err (BadNumber 4)
  pub past_range : outcome_of (codes "1000000001") ≡ Err (BadNumber 0)
  pub bad_number_elsewhere : outcome_of (codes "x 1.0000001") ≡ Err (Syntax 2)
  pub unknown : outcome_of (codes "z") ≡ Err (NameUnknown 0)
  pub unknown_behind : outcome_of (codes "x + z") ≡ Err (NameUnknown 4)
  pub unknown_alarm : outcome_of (codes "ring_b") ≡ Err (NameUnknown 0)
  pub quantity_bracket : outcome_of (codes "i[0,0]") ≡ Err (NameUnknown 0)
  pub unknown_bracket : outcome_of (codes "z [0,0]") ≡ Err (NameUnknown 0)
  pub unknown_elsewhere : outcome_of (codes "x z") ≡ Err (Syntax 2)
  pub far : outcome_of (codes "x[3,0]") ≡ Err (FarNeighbour 2)
  pub far_behind_minus : outcome_of (codes "x[0,-3]") ≡ Err (FarNeighbour 4)
  pub long_offset : outcome_of (codes "x[12,0]") ≡ Err (Syntax 2)
  pub two_minuses_offset : outcome_of (codes "x[--1,0]") ≡ Err (Syntax 3)

-- texts at the ends of what is allowed, and past them
pub record DeepTexts : Type 0 where
  pub brackets_33 : outcome_of (codes "* " ++ copies_of 33 (codes "(")) ≡ Err DeepFormula
  pub brackets_32 : outcome_of (codes "* " ++ copies_of 32 (codes "(")) ≡ Err (Syntax 0)
  pub minuses_33 : outcome_of (codes "z" ++ copies_of 33 (codes "- ")) ≡ Err DeepFormula
  pub minuses_32 : outcome_of (codes "z" ++ copies_of 32 (codes "- ")) ≡ Err (NameUnknown 0)
  pub chain_32 : is_ok (outcome_of (codes "x" ++ copies_of 31 (codes "+x"))) ≡ true
  pub chain_33 : outcome_of (codes "x" ++ copies_of 32 (codes "+x")) ≡ Err DeepFormula
  pub minuses_31 : is_ok (outcome_of (copies_of 31 (codes "-") ++ codes "x")) ≡ true
  pub brackets_31 : is_ok (outcome_of (copies_of 31 (codes "(") ++ codes "1" ++ copies_of 31 (codes ")"))) ≡ true
  pub deep_minuses : outcome_of (copies_of 32 (codes "-") ++ codes "x") ≡ Err DeepFormula
  pub deep_brackets : outcome_of (copies_of 32 (codes "(") ++ codes "1" ++ copies_of 32 (codes ")")) ≡ Err DeepFormula
  pub fault_before_deep : outcome_of (codes "x" ++ copies_of 32 (codes "+x") ++ codes "+") ≡ Err (Syntax 66)

-- trees with their values
pub record FormulaValues : Type 0 where
  pub an_input : value_of (pos 5 ∷ pos 7 ∷ []) (input 1) ≡ pos 7
  pub sum_clipped : value_of (pos greatest ∷ []) (plus_tree (input 0) (number (pos 1))) ≡ pos greatest
  pub difference_clipped : value_of (neg_ℤ (pos greatest) ∷ []) (less_tree (input 0) (number (pos 1))) ≡ neg_ℤ (pos greatest)
  pub product_rounded : value_of (pos 1 ∷ []) (times_tree (input 0) (number (pos 500000))) ≡ pos 1
  pub product_rounded_up : value_of (neg_ℤ (pos 1) ∷ []) (times_tree (input 0) (number (pos 500000))) ≡ pos 0
  pub product_clipped : value_of (pos greatest ∷ []) (times_tree (input 0) (input 0)) ≡ pos greatest
  pub quotient_rounded : value_of [] (over_tree (units 2) (units 3)) ≡ pos 666667
  pub quotient_by_zero : value_of (pos 5 ∷ []) (over_tree (input 0) (units 0)) ≡ pos 0
  pub of_minus : value_of (pos 5 ∷ []) (minus_tree (input 0)) ≡ neg_ℤ (pos 5)
  pub of_abs : value_of (neg_ℤ (pos 5) ∷ []) (abs_tree (input 0)) ≡ pos 5
  pub of_min : value_of [] (min_tree (minus_tree (units 1)) (units 2)) ≡ neg_ℤ (pos million)
  pub of_max : value_of [] (max_tree (minus_tree (units 1)) (units 2)) ≡ pos (2 * million)
  pub selected_above : value_of (pos 1 ∷ []) (select_tree (input 0) (units 2) (units 3)) ≡ pos (2 * million)
  pub selected_at_zero : value_of (pos 0 ∷ []) (select_tree (input 0) (units 2) (units 3)) ≡ pos (3 * million)
  pub selected_below : value_of (neg_ℤ (pos 1) ∷ []) (select_tree (input 0) (units 2) (units 3)) ≡ pos (3 * million)

-- ---- derivations

-- the tokens of a text
abbrev pub tokens : List ℕ → List Placed
tokens = tokens_of (codes "x" ∷ codes "y" ∷ []) (codes "a" ∷ [])

-- a token at a place
abbrev pub placed_token : ℕ → Token → Placed
placed_token at token = record { at = at; token = token }

-- an atom as a term
abbrev pub term_of_atom : Atom → Term
term_of_atom a = factor (atom a)

-- an atom as an expr
abbrev pub expr_of_atom : Atom → Expr
expr_of_atom a = term (term_of_atom a)

-- x - 1 - 2
abbrev pub chain_expr : Expr
chain_expr = sum (sum (expr_of_atom (field 0)) Less (term_of_atom (digit 1))) Less (term_of_atom (digit 2))

-- -(x[1,-2] + x * y)
abbrev pub group_expr : Expr
group_expr = term (factor (minus_of (atom (group (sum (expr_of_atom (neighbour 0 (ahead one) (back two))) Plus (product (term_of_atom (field 0)) Times (atom (field 1))))))))

-- min(x, abs(y))
abbrev pub nested_expr : Expr
nested_expr = expr_of_atom (binary Min (expr_of_atom (field 0)) (expr_of_atom (unary Abs (expr_of_atom (field 1)))))

-- derivations with what they yield and what they stand for
pub record DerivationExamples : Type 0 where
  pub places : tokens (codes "x[-1, 2]")
      ≡ placed_token 0 (token.Field 0) ∷ placed_token 1 token.OpenBracket ∷ placed_token 2 (token.Sum Less) ∷ placed_token 3 (token.Digit 1)
      ∷ placed_token 4 token.Comma ∷ placed_token 6 (token.Digit 2) ∷ placed_token 7 token.CloseBracket ∷ []
  pub longest : tokens (codes "x1 1.5x1.") ≡ placed_token 0 token.Unknown ∷ placed_token 3 (token.Number (pos 1500000)) ∷ placed_token 6 token.Unknown ∷ placed_token 8 token.Stray ∷ []
  pub chain_spelled : kinds (tokens (codes "x - 1 - 2")) ≡ yield_of_expr chain_expr
  pub chain_parsed : formula_of chain_expr ≡ record { tree = less_tree (less_tree (input 0) (units 1)) (units 2); reads = x_here ∷ [] }
  pub chain_depth : depth_of_expr chain_expr ≡ 3
  pub grouped_spelled : kinds (tokens (codes "-(x[1,-2] + x * y)")) ≡ yield_of_expr group_expr
  pub grouped_parsed : formula_of group_expr
      ≡ record {
        tree = minus_tree (plus_tree (input 0) (times_tree (input 1) (input 2)));
        reads = read_at (names.Field 0) (pos 1) (neg_ℤ (pos 2)) ∷ x_here ∷ y_here ∷ [];
      }
  pub grouped_depth : depth_of_expr group_expr ≡ 5
  pub nested_spelled : kinds (tokens (codes "min(x, abs(y))")) ≡ yield_of_expr nested_expr
  pub nested_depth : depth_of_expr nested_expr ≡ 3

-- ---- arguments of native rules

-- the argument that a word at byte 7 is, over the same names
abbrev pub argument : List ℕ → Result Argument FormulaFault
argument = argument_of (codes "x" ∷ codes "y" ∷ []) (codes "a" ∷ []) 7

-- words with what they stand for, or with their faults
pub record ArgumentExamples : Type 0 where
  pub a_number : argument (codes "1.5") ≡ Ok (Number (pos 1500000))
  pub below_zero : argument (codes "-2") ≡ Ok (Number (neg_ℤ (pos 2000000)))
  pub leading_zeros : argument (codes "007") ≡ Ok (Number (pos 7000000))
  pub a_field : argument (codes "y") ≡ Ok (Cell y_here)
  pub a_quantity : argument (codes "dt") ≡ Ok (Cell (read_at names.Dt (pos 0) (pos 0)))
  pub an_alarm : argument (codes "ring_a") ≡ Ok (Cell (read_at (names.Ring 0) (pos 0) (pos 0)))
  pub a_neighbour : argument (codes "x[1,-2]") ≡ Ok (Cell (read_at (names.Field 0) (pos 1) (neg_ℤ (pos 2))))
  pub at_the_cell : argument (codes "x[-0,0]") ≡ Ok (Cell x_here)
  pub seven_places : argument (codes "1.0000001") ≡ Err (BadNumber 7)
  pub past_range : argument (codes "-1000000001") ≡ Err (BadNumber 7)
  pub empty : argument (codes "") ≡ Err (Syntax 7)
  pub sum : argument (codes "zz+1") ≡ Err (Syntax 7)
  pub brackets : argument (codes "(1)") ≡ Err (Syntax 7)
  pub minus_name : argument (codes "-x") ≡ Err (Syntax 7)
  pub two_minuses : argument (codes "--1") ≡ Err (Syntax 7)
  pub long_offset : argument (codes "zz[12,0]") ≡ Err (Syntax 7)
  pub number_bracket : argument (codes "1[0,0]") ≡ Err (Syntax 7)
  pub behind_bracket : argument (codes "x[0,0]1") ≡ Err (Syntax 7)
  pub form_before_name : argument (codes "zz[0]") ≡ Err (Syntax 7)
  pub unknown : argument (codes "zz") ≡ Err (NameUnknown 7)
  pub a_function : argument (codes "min") ≡ Err (NameUnknown 7)
  pub unknown_bracket : argument (codes "dt[0,0]") ≡ Err (NameUnknown 7)
  pub name_before_far : argument (codes "zz[9,0]") ≡ Err (NameUnknown 7)
  pub far : argument (codes "x[0,-3]") ≡ Err (FarNeighbour 7)

-- all of these
pub record FormulaExamples : Type 0 where
  pub texts : FormulaTexts
  pub faulty : FaultyTexts
  pub deep : DeepTexts
  pub values : FormulaValues
  pub derivations : DerivationExamples
  pub arguments : ArgumentExamples
