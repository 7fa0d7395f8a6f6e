use Rattle.std.proofs.Common.{◌≡◌, ◌∙◌, ◌+◌, ℕ, List, All, ap, arith, length, map, subst, sym}
use Rattle.std.proofs.lemmas.List.{length-map}
use Rattle.std.proofs.lemmas.List.Elements.{All-map}
use Rattle.std.specs.List.{range_with_len}
use Rattle.cpl_smm.specs.Kept.{AreStarts, count_upto, dst_of, entry_of, numbered, row_in, rows_between}
use Rattle.cpl_smm.specs.Rows.{Entry, IsRow}
use Rattle.cpl_smm.proofs.ColumnFacts.{dsts-numbered, entries-numbered}
use Rattle.cpl_smm.proofs.CountFacts.{AreStarts-counts}
use Rattle.cpl_smm.proofs.RowFacts.{row_in-row, rows_between-rows}
use Rattle.cpl_smm.proofs.weights.Weights.of.Goals as goal

pub starts_of-requires : goal.starts_of-requires
starts_of-requires c =
    let dsts = c.args.columns.dsts.items in
    let factors = numbered 1 dsts c.args.columns.entries.items in
    let few = c.requires.sorted.few in
    let count : length dsts ≡ length factors = sym (ap (λ (ds : List ℕ). length ds) (dsts-numbered 1 dsts c.args.columns.entries.items c.requires.sizes)) ∙ length-map factors dst_of in
    rw c.as_slice.ensures.value (omega (arith, few, count))

pub invariant_of-result : goal.invariant_of-result
invariant_of-result c =
    let dst_cells = c.args.dst_cells in
    let dsts = c.args.columns.dsts.items in
    let entries = c.args.columns.entries.items in
    let factors = numbered 1 dsts entries in
    let starts = c.in_ok-starts.ensures in
    let same = c.as_slice.ensures.value ∙ sym (dsts-numbered 1 dsts entries c.requires.sizes) in
    let those = sym (entries-numbered 1 dsts entries c.requires.sizes) in
    let counts = starts ∙ ap (λ ds. map (λ dst. count_upto dst ds) (range_with_len 0 (dst_cells + 1))) same in
    let rows = (λ i. rows_between (counts i) (those i) dst_cells) ∙ rows_between-rows dst_cells factors c.requires.sorted.ascend in
    let P : List (List Entry) → Type 0 = λ rows. All (IsRow c.args.src_cells) rows in
    let each : P (map (row_in factors) (range_with_len 1 dst_cells)) =
    All-map (IsRow c.args.src_cells) (row_in factors) (range_with_len 1 dst_cells) (λ k d few. row_in-row c.args.src_cells factors _ c.requires.sorted) in
    let count : length c.as_slice.result.now ≡ length entries = ap (λ (ds : List ℕ). length ds) c.as_slice.ensures.value ∙ c.requires.sizes in
    let Q : List ℕ → Type 0 = λ starts. AreStarts starts dst_cells (length entries) in
    let R : ℕ → Type 0 = λ count. AreStarts (map (λ dst. count_upto dst c.as_slice.result.now) (range_with_len 0 (dst_cells + 1))) dst_cells count in
    record {
      starts = subst Q (sym starts) (subst R count (AreStarts-counts dst_cells c.as_slice.result.now));
      rows = subst P (sym rows) each;
    }

pub returns : goal.returns
returns c =
    let dst_cells = c.args.dst_cells in
    let dsts = c.args.columns.dsts.items in
    let entries = c.args.columns.entries.items in
    let factors = numbered 1 dsts entries in
    let same = c.as_slice.ensures.value ∙ sym (dsts-numbered 1 dsts entries c.requires.sizes) in
    let those = sym (entries-numbered 1 dsts entries c.requires.sizes) in
    let counts = c.in_ok-starts.ensures ∙ ap (λ ds. map (λ dst. count_upto dst ds) (range_with_len 0 (dst_cells + 1))) same in
    let rows = (λ i. rows_between (counts i) (those i) dst_cells) ∙ rows_between-rows dst_cells factors c.requires.sorted.ascend in
    let count : length entries ≡ length factors = ap (λ (es : List Entry). length es) those ∙ length-map factors entry_of in
    λ i. record { src_cells = c.args.src_cells; records = count i; rows = rows i }
