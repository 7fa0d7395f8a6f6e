-- The line of a refusal: its number, its name, and the words on what is refused.
use Rattle.std.specs.Prelude.{ℕ, ◌-◌, List, [], ◌∷◌, ◌++◌, codes, decimal, slice_index_or}
use Rattle.std.specs.List.{join_with_byte}

-- the names, the first that of number 1
abbrev pub refusal_names : List (List ℕ)
refusal_names =
    codes "TooLong" ∷ codes "NotAscii" ∷ codes "BadLine" ∷ codes "StrayClose" ∷ codes "LabelTwice" ∷
    codes "Unclosed" ∷ codes "MissingLabel" ∷ codes "BadValue" ∷ codes "TooManyComponents" ∷ codes "BadTime" ∷
    codes "YearRange" ∷ codes "NoSuchDay" ∷ codes "StopNotAfter" ∷ codes "NameTwice" ∷ codes "NameUnknown" ∷
    codes "UnitsDiffer" ∷ codes "PetOutOfRange" ∷ codes "StandardUnknown" ∷ codes "FieldTwice" ∷
    codes "TooManyFields" ∷ codes "PhaseTwice" ∷ codes "TooManyPhases" ∷ codes "NoGrid" ∷ codes "TooManyCells" ∷
    codes "BlocksMismatch" ∷ codes "Syntax" ∷ codes "BadNumber" ∷ codes "FarNeighbour" ∷ codes "DeepFormula" ∷
    codes "EntryUnknown" ∷ codes "InputsDiffer" ∷ codes "TooManyValues" ∷ codes "BadElement" ∷ codes "LoopStray" ∷
    codes "OutsideLoop" ∷ codes "LoopTooDeep" ∷ codes "BadStep" ∷ codes "StepUnset" ∷ codes "StepUneven" ∷
    codes "ComponentUnknown" ∷ codes "PhaseUnknown" ∷ codes "SubstepUneven" ∷ codes "SelfLink" ∷
    codes "MethodUnsupported" ∷ codes "OptionsDiffer" ∷ codes "LoopUnclosed" ∷ codes "DurationMissing" ∷
    codes "SpanMismatch" ∷ codes "SpanTooLong" ∷ codes "Ambiguous" ∷ codes "Unmatched" ∷ codes "SizeDiffers" ∷
    codes "Waiting" ∷ codes "BadRecord" ∷ codes "IndexRange" ∷ codes "WeightRange" ∷ codes "PairTwice" ∷
    codes "TooManyWeights" ∷ codes "TooManyOps" ∷ codes "TooManyRoutes" ∷ codes "TraceTooLong" ∷
    codes "NotYetBuilt" ∷ codes "UnmappedCell" ∷ codes "MigrateTooLong" ∷ codes "MomentUneven" ∷ codes "StateBad" ∷
    codes "EdgesMissing" ∷ codes "TooManyFactors" ∷ codes "BadSeries" ∷ codes "SeriesOrder" ∷ codes "SeriesEmpty" ∷
    codes "TooManyRecords" ∷ codes "SeriesTooLarge" ∷ []

-- the name of a refusal by its number, which is counted from 1
abbrev pub refusal_name : ℕ → List ℕ
refusal_name number = slice_index_or refusal_names (number - 1) []

-- the words of the line
abbrev pub refusal_words : ℕ → List (List ℕ) → List (List ℕ)
refusal_words number words = codes "refused" ∷ decimal number ∷ refusal_name number ∷ words

-- the line of a refusal: its words, joined by single blanks, and LF
abbrev pub refusal_line : ℕ → List (List ℕ) → List ℕ
refusal_line number words = join_with_byte 32 (refusal_words number words) ++ 10 ∷ []
