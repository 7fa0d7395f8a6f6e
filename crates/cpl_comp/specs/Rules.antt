-- The rules of a component: formulas, and calls of native entries.
use Rattle.std.specs.Prelude.{ℕ, ◌+◌, ◌==◌, if◌then◌else◌, List, [], ◌∷◌, ◌++◌, length, codes, position, Option, Some, None, Result, Ok, Err}
use Rattle.std.specs.List.{join_with_byte, slice_get}
use Rattle.std.specs.Str.{bytes_eq}
use Rattle.cpl_base.specs.ResultChain.{◌>>=◌, ok_if}
use Rattle.cpl_formula.specs.Arguments.{argument_of}
use Rattle.cpl_formula.specs.Steps.{parsed_of}
use Rattle.cpl_formula.specs.declared.arguments.Argument.{Argument}
use Rattle.cpl_formula.specs.declared.fault.FormulaFault.{FormulaFault}
use Rattle.cpl_formula.specs.declared.fault.FormulaFault.TheVariants as formula_fault
use Rattle.cpl_formula.specs.declared.formula.EntrySign.{EntrySign}
use Rattle.cpl_comp.specs.declared.component.Rule.{Rule}
use Rattle.cpl_comp.specs.declared.component.Rule.TheVariants.{Plain, Native}
use Rattle.cpl_comp.specs.declared.fault.CompFault.{CompFault}
use Rattle.cpl_comp.specs.declared.fault.CompFault.TheVariants as fault

-- What a rule may name: fields, alarms, and native entries with their numbers of inputs.
pub record Scope : Type 0 where
  pub fields : List (List ℕ)
  pub alarms : List (List ℕ)
  pub signs : List EntrySign

-- the fault of a rule in this line
abbrev pub rule_fault : ℕ → FormulaFault → CompFault
rule_fault line (formula_fault.Syntax at) = fault.Syntax line at
rule_fault line (formula_fault.BadNumber at) = fault.BadNumber line at
rule_fault line (formula_fault.NameUnknown at) = fault.NameUnknown line
rule_fault line (formula_fault.FarNeighbour at) = fault.FarNeighbour line at
rule_fault line formula_fault.DeepFormula = fault.DeepFormula line
rule_fault line formula_fault.Memory = fault.Memory

-- an answer whose fault stands in this line
abbrev pub in_line : {A : Type 0} → ℕ → Result A FormulaFault → Result A CompFault
in_line line (Ok value) = Ok value
in_line line (Err e) = Err (rule_fault line e)

-- ---- formulas

-- the formula that words joined by blanks are
abbrev pub plain_rule : Scope → ℕ → List (List ℕ) → Result Rule CompFault
plain_rule scope line words =
    in_line line (parsed_of scope.fields scope.alarms (join_with_byte 32 words)) >>= (λ parsed. Ok (Plain parsed))

-- ---- calls of native entries

-- these arguments and those that further words are, of which the first begins at this place of the rule's text
abbrev pub arguments_with : Scope → List Argument → ℕ → List (List ℕ) → Result (List Argument) FormulaFault
arguments_with scope before at [] = Ok before
arguments_with scope before at (word ∷ words) =
    argument_of scope.fields scope.alarms at word >>= (λ argument. arguments_with scope (before ++ argument ∷ []) (at + length word + 1) words)

-- the place of the first entry of a label, if there is one
abbrev pub entry_of : List EntrySign → List ℕ → Option ℕ
entry_of signs label = position (λ sign. bytes_eq sign.label label) signs

-- how many inputs an entry takes
abbrev pub inputs_in : Option EntrySign → ℕ
inputs_in None = 0
inputs_in (Some sign) = sign.inputs

-- a call of the entry of a place with these arguments
abbrev pub native_call : List EntrySign → ℕ → List Argument → Option ℕ → Result Rule CompFault
native_call signs line arguments None = Err (fault.EntryUnknown line)
native_call signs line arguments (Some entry) =
    ok_if (inputs_in (slice_get signs entry) == length arguments) (fault.InputsDiffer line) >>= (λ _. Ok (Native entry arguments))

-- the call that the words behind `call` are: a label, and at least one argument
abbrev pub native_rule : Scope → ℕ → List (List ℕ) → Result Rule CompFault
native_rule scope line [] = Err (fault.Syntax line 4)
native_rule scope line (label ∷ []) = Err (fault.Syntax line (5 + length label))
native_rule scope line (label ∷ word ∷ words) =
    in_line line (arguments_with scope [] (6 + length label) (word ∷ words)) >>= (λ arguments.
    native_call scope.signs line arguments (entry_of scope.signs label))

-- ---- a rule

-- the rule that words are, or its first fault: a call where the first is `call`, else a formula
abbrev pub rule_of : Scope → ℕ → List (List ℕ) → Result Rule CompFault
rule_of scope line [] = plain_rule scope line []
rule_of scope line (word ∷ words) =
    if bytes_eq word (codes "call") then native_rule scope line words else plain_rule scope line (word ∷ words)
