-- The weights of connectors, from further files: which are asked for, and what they give.
use Rattle.std.specs.Prelude.{◌≡◌, ℕ, ◌+◌, ◌-◌, ◌^◌, if◌then◌else◌, true, nat_le, List, [], ◌∷◌, ◌++◌, length, sum_by, IfSome, Option, Some, None, Result, Ok, Err}
use Rattle.std.specs.Option.{option_map_or, ok_or}
use Rattle.cpl_base.specs.Outside.{Files}
use Rattle.cpl_base.specs.ResultChain.{◌>>=◌, ok_if}
use Rattle.cpl_build.specs.Faults.{in_build}
use Rattle.cpl_build.specs.Refusals.{refused_by, too_long, weight_refusal}
use Rattle.cpl_build.specs.declared.fault.BuildFault.{BuildFault}
use Rattle.cpl_build.specs.declared.fault.BuildFault.TheVariants.{ReadFault}
use Rattle.cpl_build.specs.declared.fault.Rejection.{Rejection}
use Rattle.cpl_comp.specs.declared.component.Comp.{Comp}
use Rattle.cpl_script.specs.Matched.{is_redist}
use Rattle.cpl_script.specs.Sound.{IsBetween, cells_at}
use Rattle.cpl_sequence.specs.declared.link_line.LinkLine.{LinkLine}
use Rattle.cpl_smm.specs.Files.{weights_of}
use Rattle.cpl_smm.specs.Rows.{Table}
use Rattle.cpl_smm.specs.declared.fault.WeightFault.{WeightFault}
use Rattle.cpl_smm.specs.declared.fault.WeightFault.TheVariants.{BadRecord, IndexRange, WeightRange, PairTwice, TooManyWeights, Memory}

-- ---- a file

-- the bytes of a file of at most so many
abbrev pub file_bytes : Files → List ℕ → ℕ → Result (List ℕ) BuildFault
file_bytes files name most =
    ok_or (files name) (ReadFault name) >>= (λ bytes.
    in_build (ok_if (nat_le (length bytes) most) (too_long name)) >>= (λ _.
    Ok bytes))

-- a file of weights has at most so many bytes: 64 MiB
abbrev pub most_weight_bytes : ℕ
most_weight_bytes = 67108864

-- ---- the limit over all files

-- all files of weights together have at most so many records
abbrev pub most_records : ℕ
most_records = 2 ^ 24

-- the record of a fault; past all records, where there is none
abbrev pub fault_record : WeightFault → Option ℕ
fault_record (BadRecord n) = Some n
fault_record (IndexRange n) = Some n
fault_record (WeightRange n) = Some n
fault_record (PairTwice n) = Some n
fault_record (TooManyWeights n) = Some n
fault_record Memory = None

-- the fault at the record that passes the limit, behind so many records of other files
abbrev pub record_past : ℕ → WeightFault
record_past spent = TooManyWeights (most_records - spent + 1)

-- a fault at a record that is still within the limit, or else that of the record which passes it
abbrev pub fault_within : ℕ → WeightFault → WeightFault
fault_within spent fault =
    option_map_or (λ n. if nat_le (spent + n) most_records then fault else record_past spent) (fault_record fault) fault

-- what a file of weights gives, behind so many records of other files: its first fault, where a record that passes the
-- limit has one before all others
abbrev pub weights_within : ℕ → Result Table WeightFault → Result Table WeightFault
weights_within spent (Ok table) = if nat_le (spent + table.records) most_records then Ok table else Err (record_past spent)
weights_within spent (Err fault) = Err (fault_within spent fault)

-- ---- connectors

-- how many records these weights have
abbrev pub record_count : Option Table → ℕ
record_count given = option_map_or (λ table. table.records) given 0

-- how many records all these have
abbrev pub record_total : List (Option Table) → ℕ
record_total given = sum_by record_count given

-- the weights that a file gives a connector, behind so many records of other files
abbrev pub weights_from : List Comp → ℕ → LinkLine → List ℕ → Result Table Rejection
weights_from comps spent line bytes =
    refused_by (weight_refusal line.file) (weights_within spent (weights_of (cells_at comps line.src) (cells_at comps line.dst) bytes))

-- the weights of a connector that has some, behind so many records of other files
abbrev pub weights_by : Files → List Comp → ℕ → LinkLine → Result Table BuildFault
weights_by files comps spent line =
    file_bytes files line.file most_weight_bytes >>= (λ bytes.
    in_build (weights_from comps spent line bytes))

-- the weights of a connector: none where it redistributes
abbrev pub weights_for : Files → List Comp → ℕ → LinkLine → Result (Option Table) BuildFault
weights_for files comps spent line =
    if is_redist line.method then Ok None
    else (weights_by files comps spent line >>= (λ table. Ok (Some table)))

-- these weights and those of further connectors
abbrev pub weights_with : Files → List Comp → List (Option Table) → List LinkLine → Result (List (Option Table)) BuildFault
weights_with files comps before [] = Ok before
weights_with files comps before (line ∷ lines) =
    weights_for files comps (record_total before) line >>= (λ given.
    weights_with files comps (before ++ given ∷ []) lines)

-- ---- the files that are asked for

-- the file of a connector: none where it redistributes
abbrev pub file_asked : LinkLine → List (List ℕ)
file_asked line = if is_redist line.method then [] else line.file ∷ []

-- what follows a value; nothing follows a fault
abbrev pub asked_behind : {X : Type 0} → Result X BuildFault → (X → List (List ℕ)) → List (List ℕ)
asked_behind (Ok x) asked = asked x
asked_behind (Err fault) asked = []

-- the files of connectors that are asked for, behind these weights: up to the first that gives none
abbrev pub files_asked_with : Files → List Comp → List (Option Table) → List LinkLine → List (List ℕ)
files_asked_with files comps before [] = []
files_asked_with files comps before (line ∷ lines) =
    file_asked line ++ asked_behind (weights_for files comps (record_total before) line) (λ given.
    files_asked_with files comps (before ++ given ∷ []) lines)

-- The weights of a connector: none where it redistributes, else some over the cells of its components.
pub record IsWeighed (comps : List Comp) (given : LinkLine × Option Table) : Type 0 where
  pub redist : is_redist given.0.method ≡ true → given.1 ≡ None
  pub weighed : given.1 ≡ None → is_redist given.0.method ≡ true
  pub between : IfSome given.1 (IsBetween comps given.0.src given.0.dst)
