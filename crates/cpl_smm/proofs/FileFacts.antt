-- What a file says, by its sorted factors.
use Rattle.std.proofs.Common.{◌≡◌, ◌∙◌, ℕ, ◌<◌, List, [], length, map, Option, None, Some, Result, Ok, Err, true, refl, sym, ap, subst, arith}
use Rattle.std.proofs.lemmas.List.Sorted.{IsPermutation-refl, length_permutation}
use Rattle.std.specs.List.{range_with_len}
use Rattle.std.specs.List.Sorted.{IsPermutation}
use Rattle.cpl_base.specs.ResultChain.{◌>>=◌}
use Rattle.cpl_smm.specs.Files.{records_of, weights_of}
use Rattle.cpl_smm.specs.Kept.{AreSorted, Ascends, Judged, ascend_from, dst_of, entry_of, judged_of, kept_from, least_repeat, numbered, sorted_table, table_or}
use Rattle.cpl_smm.specs.Records.{Factor}
use Rattle.cpl_smm.specs.Rows.{Entry, Table, table_of}
use Rattle.cpl_smm.specs.declared.entries.KeptFactor.{KeptFactor}
use Rattle.cpl_smm.specs.declared.fault.WeightFault.{WeightFault}
use Rattle.cpl_smm.specs.declared.fault.WeightFault.TheVariants.{PairTwice}
use Rattle.cpl_smm.proofs.ColumnFacts.{ascends-kept, numbered-kept, renumbered, renumbered-sorted, renumbered-table}
use Rattle.cpl_smm.proofs.JudgedFacts.{answer_behind, factors_with-judged, fault_or, judged-factor, judged-few, repeat_behind, repeat_or}
use Rattle.cpl_smm.proofs.RowFacts.{row_in-file}
use Rattle.cpl_smm.proofs.SortFacts.{AreFactors, IsSortOf, kept-once, kept-sorted, least_repeat-file, length-kept, sorted-ascends}

-- the factors of a file are in range
pub file-factors : (src_cells dst_cells : ℕ) (bytes : List ℕ) → src_cells < 4294967296 → AreFactors src_cells dst_cells (judged_of src_cells dst_cells bytes).factors
file-factors src_cells dst_cells bytes cells = record {
  each = λ x here. judged-factor src_cells dst_cells 1 (records_of bytes) x here;
  few = let few = judged-few src_cells dst_cells 1 (records_of bytes) (omega arith) in omega (arith, few);
  cells = cells;
}

-- what a file says, where a repeat is this
file-is : (src_cells dst_cells : ℕ) (bytes : List ℕ) (judged : Judged) (repeat : Option ℕ) → judged_of src_cells dst_cells bytes ≡ judged → repeat_behind [] judged.factors ≡ repeat
    → weights_of src_cells dst_cells bytes ≡ (repeat_or repeat (fault_or judged.fault judged.factors) >>= (λ factors. Ok (table_of src_cells dst_cells factors)))
file-is src_cells dst_cells bytes judged repeat is there =
    ap (λ (r : Result (List Factor) WeightFault). r >>= (λ factors. Ok (table_of src_cells dst_cells factors))) (factors_with-judged src_cells dst_cells [] (records_of bytes))
    ∙ ap (λ j. answer_behind [] j >>= (λ factors. Ok (table_of src_cells dst_cells factors))) is
    ∙ ap (λ r. repeat_or r (fault_or judged.fault judged.factors) >>= (λ factors. Ok (table_of src_cells dst_cells factors))) there

-- a pair that stands twice
pub file-twice : (src_cells dst_cells : ℕ) (bytes : List ℕ) (sorted : List KeptFactor) (n : ℕ) → src_cells < 4294967296
    → IsSortOf (judged_of src_cells dst_cells bytes).factors sorted → least_repeat sorted ≡ Some n → weights_of src_cells dst_cells bytes ≡ Err (PairTwice n)
file-twice src_cells dst_cells bytes sorted n cells sort least =
    let factors = (judged_of src_cells dst_cells bytes).factors in
    let there = sym (least_repeat-file src_cells dst_cells factors sorted (file-factors src_cells dst_cells bytes cells) sort) ∙ least in
    file-is src_cells dst_cells bytes (judged_of src_cells dst_cells bytes) (Some n) refl there

-- the rows of sorted factors are those of the file
file-rows : (src_cells dst_cells : ℕ) (factors : List Factor) (sorted : List KeptFactor) → AreFactors src_cells dst_cells factors
    → IsPermutation (kept_from 1 factors) sorted → Ascends 0 sorted → sorted_table src_cells dst_cells sorted ≡ table_of src_cells dst_cells factors
file-rows src_cells dst_cells factors sorted ranged moved up =
    let count : length sorted ≡ length factors = length_permutation (kept_from 1 factors) sorted moved ∙ length-kept 1 factors in
    λ i. record {
      src_cells = src_cells;
      records = count i;
      rows = map (λ dst. row_in-file src_cells factors sorted dst ranged.cells (λ x here. ((ranged.each x here).src_from, (ranged.each x here).src_within)) moved up i)
          (range_with_len 1 dst_cells);
    }

-- a fault, or the table of factors
table-behind : (src_cells dst_cells : ℕ) (factors : List Factor) (table : Table) (fault : Option WeightFault) → table ≡ table_of src_cells dst_cells factors
    → (fault_or fault factors >>= (λ factors. Ok (table_of src_cells dst_cells factors))) ≡ table_or fault table
table-behind src_cells dst_cells factors table (Some fault) same = refl
table-behind src_cells dst_cells factors table None same = ap Ok (sym same)

-- a file in which no pair stands twice before a fault: its factors ascend in some order
pub file-once : (src_cells dst_cells : ℕ) (bytes : List ℕ) (sorted : List KeptFactor) → src_cells < 4294967296
    → IsPermutation (kept_from 1 (judged_of src_cells dst_cells bytes).factors) sorted → Ascends 0 sorted
    → weights_of src_cells dst_cells bytes ≡ table_or (judged_of src_cells dst_cells bytes).fault (sorted_table src_cells dst_cells sorted)
file-once src_cells dst_cells bytes sorted cells moved up =
    let judged = judged_of src_cells dst_cells bytes in
    let ranged = file-factors src_cells dst_cells bytes cells in
    file-is src_cells dst_cells bytes judged None refl (kept-once src_cells dst_cells judged.factors sorted ranged moved up)
    ∙ table-behind src_cells dst_cells judged.factors (sorted_table src_cells dst_cells sorted) judged.fault (file-rows src_cells dst_cells judged.factors sorted ranged moved up)

-- What sorted factors in two lists are of a file in which no pair stands twice before a fault.
pub record AreOfFile (src_cells dst_cells : ℕ) (bytes dsts : List ℕ) (entries : List Entry) : Type 0 where
  pub sorted : AreSorted src_cells (numbered 1 dsts entries)
  pub answer : table_or (judged_of src_cells dst_cells bytes).fault (sorted_table src_cells dst_cells (numbered 1 dsts entries)) ≡ weights_of src_cells dst_cells bytes

-- what was read ascends
pub ascending-read : (src_cells dst_cells : ℕ) (bytes dsts : List ℕ) (entries : List Entry) → src_cells < 4294967296
    → dsts ≡ map dst_of (kept_from 1 (judged_of src_cells dst_cells bytes).factors) → entries ≡ map entry_of (kept_from 1 (judged_of src_cells dst_cells bytes).factors)
    → ascend_from 0 dsts entries ≡ true → AreOfFile src_cells dst_cells bytes dsts entries
ascending-read src_cells dst_cells bytes dsts entries cells is_dsts are_entries holds =
    let judged = judged_of src_cells dst_cells bytes in
    let kept = kept_from 1 judged.factors in
    let ranged = file-factors src_cells dst_cells bytes cells in
    let same : numbered 1 dsts entries ≡ kept = (λ i. numbered 1 (is_dsts i) (are_entries i)) ∙ numbered-kept 1 judged.factors in
    let up : Ascends 0 kept = ascends-kept 0 1 judged.factors
    (λ x here. let factor = ranged.each x here in let within = factor.src_within in omega (arith, within, cells))
    ((λ i. ascend_from 0 (sym is_dsts i) (sym are_entries i)) ∙ holds) in
    let P : List KeptFactor → Type 0 = λ ks. AreSorted src_cells ks in
    record {
      sorted = subst P (sym same) (kept-sorted src_cells dst_cells judged.factors kept ranged (IsPermutation-refl kept) up);
      answer = ap (λ ks. table_or judged.fault (sorted_table src_cells dst_cells ks)) same ∙ sym (file-once src_cells dst_cells bytes kept cells (IsPermutation-refl kept) up);
    }

-- what was read and sorted has no repeat
pub sorted-read : (src_cells dst_cells : ℕ) (bytes dsts : List ℕ) (entries : List Entry) (sorted : List KeptFactor) → src_cells < 4294967296
    → IsSortOf (judged_of src_cells dst_cells bytes).factors sorted → least_repeat sorted ≡ None → dsts ≡ map dst_of sorted → entries ≡ map entry_of sorted
    → AreOfFile src_cells dst_cells bytes dsts entries
sorted-read src_cells dst_cells bytes dsts entries sorted cells sort none is_dsts are_entries =
    let judged = judged_of src_cells dst_cells bytes in
    let ranged = file-factors src_cells dst_cells bytes cells in
    let same : numbered 1 dsts entries ≡ renumbered 1 sorted = λ i. numbered 1 (is_dsts i) (are_entries i) in
    let up = sorted-ascends src_cells dst_cells judged.factors sorted ranged sort none in
    let P : List KeptFactor → Type 0 = λ ks. AreSorted src_cells ks in
    record {
      sorted = subst P (sym same) (renumbered-sorted src_cells sorted (kept-sorted src_cells dst_cells judged.factors sorted ranged sort.moved up));
      answer =
          ap (λ ks. table_or judged.fault (sorted_table src_cells dst_cells ks)) same
          ∙ ap (table_or judged.fault) (renumbered-table src_cells dst_cells sorted)
          ∙ sym (file-once src_cells dst_cells bytes sorted cells sort.moved up);
    }
