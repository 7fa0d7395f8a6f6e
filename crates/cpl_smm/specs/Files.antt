-- The weights that a file has: its records in order, up to the first that is refused.
use Rattle.std.specs.Prelude.{ℕ, ◌+◌, not, List, [], ◌∷◌, ◌++◌, length, Result, Ok}
use Rattle.std.specs.List.{list_any}
use Rattle.cpl_base.specs.ResultChain.{◌>>=◌, ok_if}
use Rattle.csv.specs.Reading.{default_config, records, strip_bom}
use Rattle.cpl_smm.specs.Records.{Factor, record_factor}
use Rattle.cpl_smm.specs.Rows.{Table, is_pair, table_of}
use Rattle.cpl_smm.specs.declared.fault.WeightFault.{WeightFault}
use Rattle.cpl_smm.specs.declared.fault.WeightFault.TheVariants.{PairTwice}

-- the records of a text, as the reader of CSV gives them: behind a byte order mark, without a header, of any number of fields
abbrev pub records_of : List ℕ → List (List (List ℕ))
records_of bytes = records default_config (strip_bom bytes)

-- the factor that a record says behind those of earlier records, if none of these has its two cells
abbrev pub next_factor : ℕ → ℕ → List Factor → List (List ℕ) → Result Factor WeightFault
next_factor src_cells dst_cells before fields =
    let n = length before + 1 in
    record_factor src_cells dst_cells n fields >>= (λ factor.
    ok_if (not (list_any (is_pair factor.src factor.dst) before)) (PairTwice n) >>= (λ _. Ok factor))

-- these factors and those of further records, one after another, up to the first fault
abbrev pub factors_with : ℕ → ℕ → List Factor → List (List (List ℕ)) → Result (List Factor) WeightFault
factors_with src_cells dst_cells before [] = Ok before
factors_with src_cells dst_cells before (fields ∷ more) =
    next_factor src_cells dst_cells before fields >>= (λ factor. factors_with src_cells dst_cells (before ++ factor ∷ []) more)

-- the factors of a text, in the order of its records, or the fault of the first record that has one
abbrev pub factors_of : ℕ → ℕ → List ℕ → Result (List Factor) WeightFault
factors_of src_cells dst_cells bytes = factors_with src_cells dst_cells [] (records_of bytes)

-- the weights of a text, row by row, or the fault of the first record that has one
abbrev pub weights_of : ℕ → ℕ → List ℕ → Result Table WeightFault
weights_of src_cells dst_cells bytes = factors_of src_cells dst_cells bytes >>= (λ factors. Ok (table_of src_cells dst_cells factors))
