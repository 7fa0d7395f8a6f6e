-- Which texts are formulas, what they stand for, and which is the first fault of one that is none.
use Rattle.std.specs.Prelude.{◌≡◌, ℕ, ◌<◌, ◌≤◌, ◌⊎◌, Bool, true, false, List, [], ◌∷◌, ◌++◌, map, fold, length, Result, Ok, Err}
use Rattle.cpl_base.specs.Gives.{Gives}
use Rattle.cpl_formula.specs.Grammar.{Expr, Atom, yield_of_expr, yield_of_atom, tree_of_expr, reads_of_expr, depth_of_expr}
use Rattle.cpl_formula.specs.Reads.{distinct_reads}
use Rattle.cpl_formula.specs.Tokens.{Placed, is_tangled, tokens_of}
use Rattle.cpl_formula.specs.declared.fault.FormulaFault.{FormulaFault}
use Rattle.cpl_formula.specs.declared.fault.FormulaFault.TheVariants.{Syntax, BadNumber, NameUnknown, FarNeighbour, DeepFormula, Memory}
use Rattle.cpl_formula.specs.declared.formula.Parsed.{Parsed}
use Rattle.cpl_formula.specs.declared.tokens.SumSign.TheVariants.{Less}
use Rattle.cpl_formula.specs.declared.tokens.Token.{Token}
use Rattle.cpl_formula.specs.declared.tokens.Token.TheVariants as token

-- what tokens are, without their places
abbrev pub kinds : List Placed → List Token
kinds = map (λ t. t.token)

-- the tokens begin a formula
abbrev pub IsViable : List Token → Type 0
IsViable tokens = (more : List Token) × (e : Expr) × (tokens ++ more ≡ yield_of_expr e)

-- any atom may stand behind the tokens
abbrev pub TakesAtoms : List Token → Type 0
TakesAtoms tokens = (a : Atom) → IsViable (tokens ++ yield_of_atom a)

-- it is the first fault where that holds, else the second
abbrev pub IsWhere : Type 0 → FormulaFault → FormulaFault → FormulaFault → Type 0
IsWhere P x y fault = (P × (fault ≡ x)) ⊎ ((P → ⊥) × (fault ≡ y))

-- the place of a token where it is a minus, else the other place
abbrev pub minus_or : Token → ℕ → ℕ → ℕ
minus_or (token.Sum Less) minus at = minus
minus_or t minus at = at

-- the place where an offset begins whose digit stands behind these tokens: that of its minus, if it has one
abbrev pub begin_of_offset : List Placed → ℕ → ℕ
begin_of_offset before at = fold (λ begin t. minus_or t.token t.at at) at before

-- Which fault a token is, behind these. A number that is no value and a name that stands for nothing are faults
-- of their own where an atom may stand, and a digit is one where another digit may stand.
abbrev pub IsFaultOf : List Placed → ℕ → Token → FormulaFault → Type 0
IsFaultOf before at token.BadNumber fault = IsWhere (TakesAtoms (kinds before)) (BadNumber at) (Syntax at) fault
IsFaultOf before at token.Unknown fault = IsWhere (TakesAtoms (kinds before)) (NameUnknown at) (Syntax at) fault
IsFaultOf before at (token.Digit d) fault =
    IsWhere (IsViable (kinds before ++ token.Digit 0 ∷ [])) (FarNeighbour (begin_of_offset before at)) (Syntax at) fault
IsFaultOf before at t fault = fault ≡ Syntax at

-- The fault is that of the first token with which no formula begins: those before it begin one.
pub record IsFirstFault (tokens : List Placed) (fault : FormulaFault) : Type 0 where
  pub before : List Placed
  pub at : ℕ
  pub token : Token
  pub after : List Placed
  pub tokens_are : tokens ≡ before ++ (record { at = at; token = token } ∷ after)
  pub viable : IsViable (kinds before)
  pub not_viable : IsViable (kinds before ++ token ∷ []) → ⊥
  pub fault_is : IsFaultOf before at token fault

-- what a derivation stands for: its tree, and each of its reads once
abbrev pub formula_of : Expr → Parsed
formula_of e = let reads = distinct_reads (reads_of_expr e) in record { tree = tree_of_expr reads e; reads = reads }

-- What a text is, from its tokens, its length and whether it is tangled: a formula, or its first fault.
pub data Outcome (tangled : Bool) (tokens : List Placed) (end : ℕ) : Result Parsed FormulaFault → Type 0 where
  tangles : tangled ≡ true → Outcome tangled tokens end (Err DeepFormula)
  is_faulty : (fault : FormulaFault) → tangled ≡ false → IsFirstFault tokens fault → Outcome tangled tokens end (Err fault)
  ends_early : tangled ≡ false → IsViable (kinds tokens) → ((e : Expr) → kinds tokens ≡ yield_of_expr e → ⊥) → Outcome tangled tokens end (Err (Syntax end))
  is_deep : (e : Expr) → tangled ≡ false → kinds tokens ≡ yield_of_expr e → 32 < depth_of_expr e → Outcome tangled tokens end (Err DeepFormula)
  is_formula : (e : Expr) → tangled ≡ false → kinds tokens ≡ yield_of_expr e → depth_of_expr e ≤ 32 → Outcome tangled tokens end (Ok (formula_of e))

-- what a text is, over these names of fields and alarms
abbrev pub OutcomeOf : List (List ℕ) → List (List ℕ) → List ℕ → Result Parsed FormulaFault → Type 0
OutcomeOf fields alarms text = Outcome (is_tangled text) (tokens_of fields alarms text) (length text)

-- What `parse` answers to a text: its outcome, which is the only one, unless memory ran out.
pub record IsAnswer (fields alarms : List (List ℕ)) (text : List ℕ) (result : Result Parsed FormulaFault) : Type 0 where
  pub given : Result Parsed FormulaFault
  pub outcome : OutcomeOf fields alarms text given
  pub unique : (other : Result Parsed FormulaFault) → OutcomeOf fields alarms text other → other ≡ given
  pub gives : Gives Memory (λ p. p) result given
