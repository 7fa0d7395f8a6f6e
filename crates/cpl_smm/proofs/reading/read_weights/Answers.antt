use Rattle.std.proofs.Common.{◌≡◌, ◌∙◌, ℕ, List, Result, Some, None, ap, arith, inr, map, subst, sym}
use Rattle.std.specs.List.Sorted.{IsNonDecreasingBy, IsPermutation, IsStableByKey}
use Rattle.std.specs.Ordering.{nat_cmp}
use Rattle.cpl_base.specs.Gives.{Gives}
use Rattle.cpl_smm.specs.Kept.{ascend_from, dst_of, entry_of, judged_of, kept_from, least_repeat, numbered, pair_of, sorted_table, table_or}
use Rattle.cpl_smm.specs.Records.{Factor}
use Rattle.cpl_smm.specs.Rows.{Entry, Table}
use Rattle.cpl_smm.specs.declared.entries.KeptFactor.{KeptFactor}
use Rattle.cpl_smm.specs.declared.fault.WeightFault.{WeightFault}
use Rattle.cpl_smm.specs.declared.fault.WeightFault.TheVariants.{Memory}
use Rattle.cpl_smm.proofs.ColumnFacts.{numbered-kept}
use Rattle.cpl_smm.proofs.FileFacts.{ascending-read, file-twice, sorted-read}
use Rattle.cpl_smm.proofs.SortFacts.{IsSortOf}
use Rattle.cpl_smm.proofs.reading.read_weights.Goals as goal

-- what was read, numbered and sorted
sort-of : (factors : List Factor) (dsts : List ℕ) (entries : List Entry) (read sorted : List KeptFactor) → dsts ≡ map dst_of (kept_from 1 factors) → entries ≡ map entry_of (kept_from 1 factors)
    → read ≡ numbered 1 dsts entries → IsPermutation read sorted → IsNonDecreasingBy (λ (k : KeptFactor). pair_of k) sorted
    → IsStableByKey (λ (k : KeptFactor). pair_of k) nat_cmp read sorted → IsSortOf factors sorted
sort-of factors dsts entries read sorted is_dsts are_entries is moved pairs stable =
    let same : read ≡ kept_from 1 factors = is ∙ (λ i. numbered 1 (is_dsts i) (are_entries i)) ∙ numbered-kept 1 factors in
    let P : List KeptFactor → Type 0 = λ xs. IsPermutation xs sorted in
    let Q : List KeptFactor → Type 0 = λ xs. IsStableByKey (λ (k : KeptFactor). pair_of k) nat_cmp xs sorted in
    record { moved = subst P same moved; pairs = pairs; stable = subst Q same stable }

pub weights_or-requires-clause-sorted : goal.weights_or-requires-clause-sorted
weights_or-requires-clause-sorted c =
    let columns = c.in_ok-reading.reading.columns in
    let holds = (λ i. ascend_from 0 (sym c.as_slice.ensures.value i) (sym c.as_slice-2.ensures.value i)) ∙ sym c.are_ascending.ensures ∙ c.if-are_ascending.true in
    (ascending-read c.args.src_cells c.args.dst_cells c.args.bytes.now columns.dsts.items columns.entries.items (omega arith)
    c.in_ok-reading.ensures.dsts c.in_ok-reading.ensures.entries holds).sorted

pub returns-then-are_ascending : goal.returns-then-are_ascending
returns-then-are_ascending c =
    let columns = c.in_ok-reading.reading.columns in
    let holds = (λ i. ascend_from 0 (sym c.as_slice.ensures.value i) (sym c.as_slice-2.ensures.value i)) ∙ sym c.are_ascending.ensures ∙ c.if-are_ascending.true in
    let of_file = ascending-read c.args.src_cells c.args.dst_cells c.args.bytes.now columns.dsts.items columns.entries.items (omega arith)
    c.in_ok-reading.ensures.dsts c.in_ok-reading.ensures.entries holds in
    let P : Result Table WeightFault → Type 0 = λ answer. Gives Memory (λ weights. weights) c.weights_or.result answer in
    let table = sorted_table c.args.src_cells c.args.dst_cells (numbered 1 columns.dsts.items columns.entries.items) in
    record { answer = subst P (ap (λ fault. table_or fault table) c.in_ok-reading.ensures.fault ∙ of_file.answer) c.weights_or.ensures }

pub returns-in-Some : goal.returns-in-Some
returns-in-Some c =
    let columns = c.in_ok-reading.reading.columns in
    let sorted = c.sort_factors.new.factors.items in
    let sort = sort-of (judged_of c.args.src_cells c.args.dst_cells c.args.bytes.now).factors columns.dsts.items columns.entries.items c.in_ok-factors.factors.items sorted
    c.in_ok-reading.ensures.dsts c.in_ok-reading.ensures.entries (c.in_ok-factors.ensures ∙ (λ i. numbered 1 (c.as_slice-3.ensures.value i) (c.as_slice-4.ensures.value i))) c.sort_factors.ensures.moved c.in_ok-sort_factors.ensures.sorted c.sort_factors.ensures.stable in
    let least : least_repeat sorted ≡ Some c.in-Some.n = sym (c.least_repeat.ensures ∙ ap least_repeat c.as_slice-5.ensures.value) ∙ c.in-Some.is in
    record {
      answer = record {
        value = tt;
        fault = inr (file-twice c.args.src_cells c.args.dst_cells c.args.bytes.now sorted c.in-Some.n (omega arith) sort least);
      };
    }

pub weights_or-requires-2-clause-sorted : goal.weights_or-requires-2-clause-sorted
weights_or-requires-2-clause-sorted c =
    let columns = c.in_ok-reading.reading.columns in
    let made = c.in_ok-sorted.sorted in
    let sorted = c.sort_factors.new.factors.items in
    let sort = sort-of (judged_of c.args.src_cells c.args.dst_cells c.args.bytes.now).factors columns.dsts.items columns.entries.items c.in_ok-factors.factors.items sorted
    c.in_ok-reading.ensures.dsts c.in_ok-reading.ensures.entries (c.in_ok-factors.ensures ∙ (λ i. numbered 1 (c.as_slice-3.ensures.value i) (c.as_slice-4.ensures.value i))) c.sort_factors.ensures.moved c.in_ok-sort_factors.ensures.sorted c.sort_factors.ensures.stable in
    let least : least_repeat sorted ≡ None = sym (c.least_repeat.ensures ∙ ap least_repeat c.as_slice-5.ensures.value) ∙ c.in_default.is in
    (sorted-read c.args.src_cells c.args.dst_cells c.args.bytes.now made.dsts.items made.entries.items sorted (omega arith) sort least
    (c.in_ok-sorted.ensures.dsts ∙ ap (map dst_of) c.as_slice-6.ensures.value) (c.in_ok-sorted.ensures.entries ∙ ap (map entry_of) c.as_slice-6.ensures.value)).sorted

pub returns : goal.returns
returns c =
    let columns = c.in_ok-reading.reading.columns in
    let made = c.in_ok-sorted.sorted in
    let sorted = c.sort_factors.new.factors.items in
    let sort = sort-of (judged_of c.args.src_cells c.args.dst_cells c.args.bytes.now).factors columns.dsts.items columns.entries.items c.in_ok-factors.factors.items sorted
    c.in_ok-reading.ensures.dsts c.in_ok-reading.ensures.entries (c.in_ok-factors.ensures ∙ (λ i. numbered 1 (c.as_slice-3.ensures.value i) (c.as_slice-4.ensures.value i))) c.sort_factors.ensures.moved c.in_ok-sort_factors.ensures.sorted c.sort_factors.ensures.stable in
    let least : least_repeat sorted ≡ None = sym (c.least_repeat.ensures ∙ ap least_repeat c.as_slice-5.ensures.value) ∙ c.in_default.is in
    let of_file = sorted-read c.args.src_cells c.args.dst_cells c.args.bytes.now made.dsts.items made.entries.items sorted (omega arith) sort least
    (c.in_ok-sorted.ensures.dsts ∙ ap (map dst_of) c.as_slice-6.ensures.value) (c.in_ok-sorted.ensures.entries ∙ ap (map entry_of) c.as_slice-6.ensures.value) in
    let P : Result Table WeightFault → Type 0 = λ answer. Gives Memory (λ weights. weights) c.weights_or-2.result answer in
    let table = sorted_table c.args.src_cells c.args.dst_cells (numbered 1 made.dsts.items made.entries.items) in
    record { answer = subst P (ap (λ fault. table_or fault table) c.in_ok-reading.ensures.fault ∙ of_file.answer) c.weights_or-2.ensures }
