-- The code's own steps, continued: the levels that it makes, as functions of trees, and what each step answers.
use Rattle.std.specs.Prelude.{◌≡◌, ℕ, pos, List, Result, Ok, Err}
use Rattle.cpl_formula.specs.Functions.{tree_of_binary, tree_of_unary}
use Rattle.cpl_formula.specs.Grammar.{tree_of_product, tree_of_sum}
use Rattle.cpl_formula.specs.Reads.{read_at}
use Rattle.cpl_formula.specs.Steps.{At, state_after_read}
use Rattle.cpl_formula.specs.declared.formula.Formula.{Formula, roll-Formula}
use Rattle.cpl_formula.specs.declared.formula.Formula.TheOpen as tree
use Rattle.cpl_formula.specs.declared.fault.FormulaFault.{FormulaFault}
use Rattle.cpl_formula.specs.declared.fault.FormulaFault.TheVariants as faults
use Rattle.cpl_formula.specs.declared.formula.Parsed.{Parsed}
use Rattle.cpl_formula.specs.declared.formula.Read.{Read}
use Rattle.cpl_formula.specs.declared.formula.ReadName.TheVariants as names
use Rattle.cpl_formula.specs.declared.parts.Wrap.{Wrap}
use Rattle.cpl_formula.specs.declared.parts.Wrap.TheVariants.{Brackets, Minus}
use Rattle.cpl_formula.specs.declared.parts.Wrap.TheVariants as wrap
use Rattle.cpl_formula.specs.declared.parts.Join.{Join}
use Rattle.cpl_formula.specs.declared.parts.Join.TheVariants.{Sum, Product}
use Rattle.cpl_formula.specs.declared.parts.Join.TheVariants as join
use Rattle.cpl_formula.specs.declared.state.Frame.{Frame}
use Rattle.cpl_formula.specs.declared.state.Level.{Level}
use Rattle.cpl_formula.specs.declared.state.State.{State}
use Rattle.cpl_formula.specs.declared.fault.Stop.{Stop}
use Rattle.cpl_formula.specs.declared.fault.Stop.TheVariants as stop
use Rattle.cpl_formula.specs.declared.tokens.Token.{Token}
use Rattle.cpl_formula.specs.declared.tokens.Token.TheVariants as token

-- a level around a tree; brackets leave none
abbrev pub tree_around : Wrap → Formula → Formula
tree_around Brackets t = t
tree_around Minus t = roll-Formula (tree.Minus t)
tree_around (wrap.Call f) t = tree_of_unary f t

-- a level around two trees
abbrev pub tree_joined : Join → Formula → Formula → Formula
tree_joined (Sum sign) a b = tree_of_sum sign a b
tree_joined (Product sign) a b = tree_of_product sign a b
tree_joined (join.Call f) a b = tree_of_binary f a b

-- What a step of the code answered, with the reads behind it, is what the definition gives, unless memory ran out.
abbrev pub StepGives : Result State Stop → List Read → Result At Stop → Type 0
StepGives (Ok s) reads given = given ≡ Ok (reads, s)
StepGives (Err stop.Memory) reads given = Unit {0}
StepGives (Err e) reads given = given ≡ Err e

-- The same of many steps.
abbrev pub WalkGives : Result State FormulaFault → List Read → Result At FormulaFault → Type 0
WalkGives (Ok s) reads given = given ≡ Ok (reads, s)
WalkGives (Err faults.Memory) reads given = Unit {0}
WalkGives (Err e) reads given = given ≡ Err e

-- The same of a whole text.
abbrev pub TextGives : Result Parsed FormulaFault → Result Parsed FormulaFault → Type 0
TextGives (Ok p) given = given ≡ Ok p
TextGives (Err faults.Memory) given = Unit {0}
TextGives (Err e) given = given ≡ Err e

-- a field at the cell itself
abbrev pub read_here : ℕ → Read
read_here k = read_at (names.Field k) (pos 0) (pos 0)

-- behind the offsets of this read
abbrev pub step_behind_offsets : List Read → List Frame → Level → Read → Token → Result At Stop
step_behind_offsets reads frames level r token.CloseBracket = Ok (state_after_read reads frames level r)
step_behind_offsets reads frames level r t = Err stop.Syntax
