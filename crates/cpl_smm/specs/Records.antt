-- What one record of a file of weights says: a factor of a weighted sum, or why it is refused.
use Rattle.std.specs.Prelude.{ℕ, ℤ, ◌≤◌, Bool, ◌&&◌, nat_le, List, [], ◌∷◌, Option, Some, None, Result, Ok, Err, option_and_then, unsigned_abs}
use Rattle.cpl_base.specs.Numerals.{number_word, numeral_of}
use Rattle.cpl_base.specs.ResultChain.{◌>>=◌, ok_if}
use Rattle.cpl_base.specs.declared.value.ValFault.{ValFault}
use Rattle.cpl_base.specs.declared.value.ValFault.TheVariants.{Digits, Places, Range}
use Rattle.cpl_smm.specs.declared.fault.WeightFault.{WeightFault}
use Rattle.cpl_smm.specs.declared.fault.WeightFault.TheVariants.{BadRecord, IndexRange, WeightRange, TooManyWeights}
use Rattle.cpl_smm.specs.declared.records.Fields.{Fields}
use Rattle.cpl_smm.specs.declared.numbers.TheConstants.{GREATEST_WEIGHT}
use Rattle.cpl_smm.specs.declared.records.TheConstants.{MOST_RECORDS}

-- a file has so many records at most
abbrev pub most_records : ℕ
most_records = MOST_RECORDS

-- the greatest weight: a thousand, in billionths
abbrev pub greatest_weight : ℕ
greatest_weight = GREATEST_WEIGHT

-- a weight lies between minus the greatest and the greatest, both included
abbrev pub IsWeight : ℤ → Type 0
IsWeight z = unsigned_abs z ≤ greatest_weight

-- One factor of a weighted sum: the source cell, the destination cell, and the weight in billionths.
pub record Factor : Type 0 where
  pub src : ℕ
  pub dst : ℕ
  pub weight : ℤ

-- a weight of nine places at most, if it is in range; nothing at all where the text hasn't the form of one
abbrev pub weight_in_range : Result ℤ ValFault → Option (Option ℤ)
weight_in_range (Ok weight) = Some (Some weight)
weight_in_range (Err Range) = Some None
weight_in_range (Err Digits) = None
weight_in_range (Err Places) = None

-- the fields of a record that has just three
abbrev pub three_of : List (List ℕ) → Option (List ℕ × List ℕ × List ℕ)
three_of [] = None
three_of (a ∷ []) = None
three_of (a ∷ b ∷ []) = None
three_of (a ∷ b ∷ c ∷ []) = Some (a, b, c)
three_of (a ∷ b ∷ c ∷ d ∷ more) = None

-- two numbers and a weight together, where all three have their forms
abbrev pub fields_from : Option ℕ → Option ℕ → Option (Option ℤ) → Option Fields
fields_from None dst weight = None
fields_from (Some src) None weight = None
fields_from (Some src) (Some dst) None = None
fields_from (Some src) (Some dst) (Some weight) = Some (record { src = src; dst = dst; weight = weight })

-- what a record of just three fields of their forms says: two numbers, and a weight if it is in range
abbrev pub fields_in : List (List ℕ) → Option Fields
fields_in fields = option_and_then
    (λ f. fields_from (number_word f.0) (number_word f.1) (weight_in_range (numeral_of 9 greatest_weight f.2)))
    (three_of fields)

-- a value, or a fault where there is none
abbrev pub value_or : {A : Type 0} → WeightFault → Option A → Result A WeightFault
value_or fault None = Err fault
value_or fault (Some value) = Ok value

-- a cell of so many
abbrev pub is_cell : ℕ → ℕ → Bool
is_cell cells s = nat_le 1 s && nat_le s cells

-- The factor that the record of this number says, or why it says none: the first of too many records, three fields of their forms, cells in range, and a weight in range.
unfoldable pub record_factor : ℕ → ℕ → ℕ → List (List ℕ) → Result Factor WeightFault
record_factor src_cells dst_cells n fields =
    ok_if (nat_le n most_records) (TooManyWeights n) >>= (λ _. value_or (BadRecord n) (fields_in fields) >>= (λ f.
    ok_if (is_cell src_cells f.src && is_cell dst_cells f.dst) (IndexRange n) >>= (λ _. value_or (WeightRange n) f.weight >>= (λ weight.
    Ok (record { src = f.src; dst = f.dst; weight = weight })))))
