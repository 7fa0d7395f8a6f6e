-- An argument that a word stands for is in range.
use Rattle.std.proofs.Common.{◌≡◌, ℕ, ◌<◌, ℤ, unsigned_abs, Bool, true, false, ◌&&◌, if◌then◌else◌, List, length, Option, Some, None, Result, Ok, Err, IfOk, IfSome, refl, arith}
use Rattle.std.proofs.lemmas.Bool.{and_parts, leb-true}
use Rattle.cpl_base.specs.Numbers.{IsValue, greatest}
use Rattle.cpl_base.specs.Numerals.{value_of}
use Rattle.cpl_base.specs.Words.{place_of}
use Rattle.cpl_base.specs.declared.value.ValFault.{ValFault}
use Rattle.cpl_base.specs.declared.value.ValFault.TheVariants as val_fault
use Rattle.cpl_base.proofs.NumeralsFacts.{numeral_of-bound}
use Rattle.cpl_formula.specs.Arguments.{IsArgument, argument_beside, argument_by, argument_here, argument_of, cell_argument, is_near, name_word}
use Rattle.cpl_formula.specs.Reads.{read_at}
use Rattle.cpl_formula.specs.Tokens.{token_of}
use Rattle.cpl_formula.specs.declared.arguments.Argument.TheVariants.{Cell}
use Rattle.cpl_formula.specs.declared.fault.FormulaFault.TheVariants.{FarNeighbour}
use Rattle.cpl_formula.specs.declared.formula.ReadName.TheVariants as names
use Rattle.cpl_formula.specs.declared.tokens.Token.{Token}
use Rattle.cpl_formula.specs.declared.tokens.Token.TheVariants as token
use Rattle.cpl_formula.proofs.TokenFacts.{IsToken, place-within, token-word}
use Rattle.cpl_formula.proofs.TreeFacts.{read-field, read-quantity}

here-among : (n m at : ℕ) (t : Token) → IsToken n m t → IfOk (argument_here at t) (IsArgument n m)
here-among n m at (token.Field k) is = read-field n m k _ _ is (omega arith) (omega arith)
here-among n m at (token.Quantity q) is = read-quantity n m q is
here-among n m at t is = tt

near-among : (n m at k : ℕ) (dx dy : ℤ) (b : Bool) → k < n → (is_near dx && is_near dy) ≡ b
    → IfOk (if b then Ok (Cell (read_at (names.Field k) dx dy)) else Err (FarNeighbour at)) (IsArgument n m)
near-among n m at k dx dy true below near =
    let parts = and_parts (is_near dx) (is_near dy) near in
    read-field n m k dx dy below (leb-true (unsigned_abs dx) 2 parts.0) (leb-true (unsigned_abs dy) 2 parts.1)
near-among n m at k dx dy false below near = tt

beside-among : (n m at : ℕ) (offsets : ℤ × ℤ) (place : Option ℕ) → IfSome place (λ k. k < n) → IfOk (argument_beside at offsets place) (IsArgument n m)
beside-among n m at offsets None within = tt
beside-among n m at offsets (Some k) within = near-among n m at k offsets.0 offsets.1 (is_near offsets.0 && is_near offsets.1) within refl

-- what a word that is no number stands for
pub cell_argument-among : (fields alarms : List (List ℕ)) (at : ℕ) (parts : Option (List ℕ × Option (ℤ × ℤ))) → IfOk (cell_argument fields alarms at parts) (IsArgument (length fields) (length alarms))
cell_argument-among fields alarms at None = tt
cell_argument-among fields alarms at (Some (name, None)) = here-among (length fields) (length alarms) at (token_of fields alarms name false) (token-word fields alarms name false)
cell_argument-among fields alarms at (Some (name, Some offsets)) = beside-among (length fields) (length alarms) at offsets (place_of fields name) (place-within fields name)

-- what a word stands for, by what it denotes as a number
argument_by-among : (fields alarms : List (List ℕ)) (at : ℕ) (word : List ℕ) (read : Result ℤ ValFault) → IfOk read IsValue → IfOk (argument_by fields alarms at word read) (IsArgument (length fields) (length alarms))
argument_by-among fields alarms at word (Ok z) within = within
argument_by-among fields alarms at word (Err val_fault.Digits) within = cell_argument-among fields alarms at (name_word word)
argument_by-among fields alarms at word (Err fault) within = tt

-- ---- for crates above

-- what a word stands for is among the names given
pub argument-among : (fields alarms : List (List ℕ)) (at : ℕ) (word : List ℕ) → IfOk (argument_of fields alarms at word) (IsArgument (length fields) (length alarms))
argument-among fields alarms at word = argument_by-among fields alarms at word (value_of word) (numeral_of-bound 6 greatest word)
