-- Which refusal each fault of the readers is: its number, and the words on what is refused.
use Rattle.std.specs.Prelude.{◌≡◌, ℕ, ◌⊎◌, List, [], ◌∷◌, ◌++◌, codes, decimal, map, slice_get, unsigned_abs, Result}
use Rattle.std.specs.Option.{option_map_or}
use Rattle.std.specs.Result.{result_map_both}
use Rattle.cpl_build.specs.declared.fault.Rejection.{Rejection}
use Rattle.cpl_build.specs.declared.fault.Rejection.TheVariants.{Refused, Memory}
use Rattle.cpl_comp.specs.declared.component.Comp.{Comp}
use Rattle.cpl_comp.specs.declared.component.Field.{Field}
use Rattle.cpl_comp.specs.declared.fault.CompFault.{CompFault}
use Rattle.cpl_comp.specs.declared.fault.CompFault.TheVariants as comp
use Rattle.cpl_config.specs.declared.fault.ItemFault.{ItemFault}
use Rattle.cpl_config.specs.declared.fault.ItemFault.TheVariants as item
use Rattle.cpl_head.specs.declared.fault.HeadFault.{HeadFault}
use Rattle.cpl_head.specs.declared.fault.HeadFault.TheVariants as head
use Rattle.cpl_head.specs.declared.fault.TableFault.{TableFault}
use Rattle.cpl_head.specs.declared.fault.TableFault.TheVariants as table
use Rattle.cpl_match.specs.declared.fault.MatchFault.{MatchFault}
use Rattle.cpl_match.specs.declared.fault.MatchFault.TheVariants as match
use Rattle.cpl_runseq.specs.declared.fault.SeqFault.{SeqFault}
use Rattle.cpl_runseq.specs.declared.fault.SeqFault.TheVariants as sequence
use Rattle.cpl_script.specs.declared.fault.SystemFault.{SystemFault}
use Rattle.cpl_script.specs.declared.fault.SystemFault.TheVariants as system
use Rattle.cpl_smm.specs.declared.fault.WeightFault.{WeightFault}
use Rattle.cpl_smm.specs.declared.fault.WeightFault.TheVariants as weight

-- ---- the forms of refusals

-- the refusal of a number with these words
abbrev pub refusal : ℕ → List (List ℕ) → Rejection
refusal number words = Refused (record { number = number; words = words })

-- one that says a number: a line, a count
abbrev pub number_refusal : ℕ → ℕ → Rejection
number_refusal number n = refusal number (decimal n ∷ [])

-- one that says two numbers
abbrev pub numbers_refusal : ℕ → ℕ → ℕ → Rejection
numbers_refusal number m n = refusal number (decimal m ∷ decimal n ∷ [])

-- one that says a name and a number
abbrev pub named_refusal : ℕ → List ℕ → ℕ → Rejection
named_refusal number name n = refusal number (name ∷ decimal n ∷ [])

-- what a reader answers, its fault taken as the refusal that it is
abbrev pub refused_by : {X F : Type 0} → (F → Rejection) → Result X F → Result X Rejection
refused_by refusal_of answer = result_map_both (λ x. x) refusal_of answer

-- A fault is the refusal that it should be, or memory ran out.
abbrev pub IsOrMemory : Rejection → Rejection → Type 0
IsOrMemory wanted fault = (fault ≡ Memory) ⊎ (fault ≡ wanted)

-- ---- the file as a whole

-- a file that is too long
abbrev pub too_long : List ℕ → Rejection
too_long name = refusal 1 (name ∷ [])

-- a line with a byte that isn't allowed
abbrev pub not_ascii : ℕ → Rejection
not_ascii line = number_refusal 2 line

-- lines that are no items
abbrev pub item_refusal : ItemFault → Rejection
item_refusal (item.BadLine line) = number_refusal 3 line
item_refusal (item.StrayClose line) = number_refusal 4 line
item_refusal (item.LabelTwice line) = number_refusal 5 line
item_refusal (item.Unclosed line) = number_refusal 6 line
item_refusal item.Memory = Memory

-- what is said of the run as a whole
abbrev pub head_refusal : HeadFault → Rejection
head_refusal (head.MissingLabel label) = refusal 7 (label ∷ [])
head_refusal (head.BadValue line) = number_refusal 8 line
head_refusal (head.TooManyComponents count) = number_refusal 9 count
head_refusal (head.BadTime line) = number_refusal 10 line
head_refusal (head.YearRange line) = number_refusal 11 line
head_refusal (head.NoSuchDay line) = number_refusal 12 line
head_refusal (head.StopNotAfter line) = number_refusal 13 line
head_refusal head.Memory = Memory

-- the rows of the dictionary and of the alarms
abbrev pub table_refusal : TableFault → Rejection
table_refusal (table.BadValue line) = number_refusal 8 line
table_refusal (table.NameTwice line) = number_refusal 14 line
table_refusal (table.NameUnknown line) = number_refusal 15 line
table_refusal (table.UnitsDiffer line) = number_refusal 16 line
table_refusal table.Memory = Memory

-- ---- components

-- the component of a name
abbrev pub comp_refusal : List ℕ → CompFault → Rejection
comp_refusal name (comp.BadValue line) = number_refusal 8 line
comp_refusal name (comp.PetOutOfRange line) = number_refusal 17 line
comp_refusal name (comp.FieldTwice line) = number_refusal 19 line
comp_refusal name (comp.StandardUnknown line) = number_refusal 18 line
comp_refusal name (comp.UnitsDiffer line) = number_refusal 16 line
comp_refusal name (comp.TooManyFields count) = named_refusal 20 name count
comp_refusal name (comp.PhaseTwice line) = number_refusal 21 line
comp_refusal name (comp.TooManyPhases count) = named_refusal 22 name count
comp_refusal name comp.NoGrid = refusal 23 (name ∷ [])
comp_refusal name (comp.TooManyCells line) = number_refusal 24 line
comp_refusal name (comp.BlocksMismatch blocks pets) = refusal 25 (name ∷ decimal blocks ∷ decimal pets ∷ [])
comp_refusal name (comp.MissingLabel label) = refusal 7 (label ∷ [])
comp_refusal name (comp.NameUnknown line) = number_refusal 15 line
comp_refusal name (comp.Syntax line at) = numbers_refusal 26 line at
comp_refusal name (comp.BadNumber line at) = numbers_refusal 27 line at
comp_refusal name (comp.FarNeighbour line at) = numbers_refusal 28 line at
comp_refusal name (comp.DeepFormula line) = number_refusal 29 line
comp_refusal name (comp.EntryUnknown line) = number_refusal 30 line
comp_refusal name (comp.InputsDiffer line) = number_refusal 31 line
comp_refusal name comp.Memory = Memory

-- components of too many values
abbrev pub too_many_values : ℕ → Rejection
too_many_values count = number_refusal 32 count

-- ---- the run sequence

-- rows that are no run sequence
abbrev pub sequence_refusal : SeqFault → Rejection
sequence_refusal (sequence.BadElement line) = number_refusal 33 line
sequence_refusal (sequence.LoopStray line) = number_refusal 34 line
sequence_refusal (sequence.OutsideLoop line) = number_refusal 35 line
sequence_refusal (sequence.LoopTooDeep line) = number_refusal 36 line
sequence_refusal (sequence.BadStep line) = number_refusal 37 line
sequence_refusal (sequence.StepUnset line) = number_refusal 38 line
sequence_refusal (sequence.StepUneven line) = number_refusal 39 line
sequence_refusal (sequence.ComponentUnknown line) = number_refusal 40 line
sequence_refusal (sequence.PhaseUnknown line) = number_refusal 41 line
sequence_refusal (sequence.SubstepUneven line) = number_refusal 42 line
sequence_refusal (sequence.SelfLink line) = number_refusal 43 line
sequence_refusal (sequence.MethodUnsupported line) = number_refusal 44 line
sequence_refusal (sequence.OptionsDiffer line) = number_refusal 45 line
sequence_refusal (sequence.LoopUnclosed line) = number_refusal 46 line
sequence_refusal (sequence.DurationMissing line) = number_refusal 47 line
sequence_refusal (sequence.SpanMismatch have want) = numbers_refusal 48 have (unsigned_abs want)
sequence_refusal (sequence.SpanTooLong span) = number_refusal 49 span
sequence_refusal sequence.Memory = Memory

-- ---- matching, and the order of initialisation

-- the name of the component of a place
abbrev pub name_at : List Comp → ℕ → List ℕ
name_at comps component = option_map_or (λ found. found.name) (slice_get comps component) []

-- the fields of the component of a place
abbrev pub fields_at : List Comp → ℕ → List Field
fields_at comps component = option_map_or (λ found. found.fields) (slice_get comps component) []

-- the name of a field by its place
abbrev pub field_name_at : List Field → ℕ → List ℕ
field_name_at fields field = option_map_or (λ found. found.name) (slice_get fields field) []

-- the name of a component and that of its field, a point between them
abbrev pub field_word : List Comp → ℕ → ℕ → List ℕ
field_word comps component field = name_at comps component ++ codes "." ++ field_name_at (fields_at comps component) field

-- imports that aren't matched
abbrev pub match_refusal : List Comp → MatchFault → Rejection
match_refusal comps (match.Ambiguous dst field first second) =
    refusal 50 (field_word comps dst field ∷ field_word comps first.0 first.1 ∷ field_word comps second.0 second.1 ∷ [])
match_refusal comps (match.Unmatched dst field) = refusal 51 (field_word comps dst field ∷ [])
match_refusal comps (match.SizeDiffers src dst) = refusal 52 (name_at comps src ∷ name_at comps dst ∷ [])
match_refusal comps match.Memory = Memory

-- components that wait for one another
abbrev pub waiting_refusal : List Comp → List ℕ → Rejection
waiting_refusal comps numbers = refusal 53 (map (name_at comps) numbers)

-- ---- weights, and the size of the system

-- the records of a file of weights
abbrev pub weight_refusal : List ℕ → WeightFault → Rejection
weight_refusal file (weight.BadRecord n) = named_refusal 54 file n
weight_refusal file (weight.IndexRange n) = named_refusal 55 file n
weight_refusal file (weight.WeightRange n) = named_refusal 56 file n
weight_refusal file (weight.PairTwice n) = named_refusal 57 file n
weight_refusal file (weight.TooManyWeights n) = named_refusal 58 file n
weight_refusal file weight.Memory = Memory

-- a system that is too large
abbrev pub system_refusal : SystemFault → Rejection
system_refusal (system.TooManyOps count) = number_refusal 59 count
system_refusal (system.TooManyRoutes count) = number_refusal 60 count
system_refusal system.Memory = Memory

-- a trace of too many rows
abbrev pub trace_too_long : ℕ → Rejection
trace_too_long count = number_refusal 61 count
