-- Factors in two lists.
use Rattle.std.proofs.Common.{◌≡◌, ℕ, suc, ◌+◌, ◌<◌, true, ltb, List, [], ◌∷◌, length, map, refl, sym, ap, subst, inl, inr, arith}
use borrow.Author.Tests.{ltb-true}
use Rattle.std.proofs.lemmas.Bool.{and_parts, cases_Bool}
use Rattle.std.specs.List.{range_with_len}
use Rattle.cpl_smm.specs.Kept.{AreSorted, Ascends, IsRanged, ascend_from, dst_of, entry_of, is_dst, kept_factor, kept_from, numbered, pair_number, pair_of, row_in, sorted_table}
use Rattle.cpl_smm.specs.Records.{Factor}
use Rattle.cpl_smm.specs.Rows.{Entry}
use Rattle.cpl_smm.specs.declared.entries.KeptFactor.{KeptFactor}
use Rattle.cpl_smm.proofs.MemberFacts.{All-from_in, All-in, IsIn}

-- the cells of factors in two lists
pub dsts-numbered : (n : ℕ) (dsts : List ℕ) (entries : List Entry) → length dsts ≡ length entries → map dst_of (numbered n dsts entries) ≡ dsts
dsts-numbered n [] entries same = refl
dsts-numbered n (dst ∷ dsts) [] same = absurd (omega (arith, same))
dsts-numbered n (dst ∷ dsts) (entry ∷ entries) same = ap (λ ds. dst ∷ ds) (dsts-numbered (n + 1) dsts entries (omega (arith, same)))

-- and their entries
pub entries-numbered : (n : ℕ) (dsts : List ℕ) (entries : List Entry) → length dsts ≡ length entries → map entry_of (numbered n dsts entries) ≡ entries
entries-numbered n [] [] same = refl
entries-numbered n [] (entry ∷ entries) same = absurd (omega (arith, same))
entries-numbered n (dst ∷ dsts) [] same = absurd (omega (arith, same))
entries-numbered n (dst ∷ dsts) (entry ∷ entries) same = ap (λ es. entry ∷ es) (entries-numbered (n + 1) dsts entries (omega (arith, same)))

-- factors of records that follow one another are those in their two lists
pub numbered-kept : (n : ℕ) (factors : List Factor) → numbered n (map dst_of (kept_from n factors)) (map entry_of (kept_from n factors)) ≡ kept_from n factors
numbered-kept n [] = refl
numbered-kept n (factor ∷ factors) = ap (λ ks. kept_factor n factor ∷ ks) (numbered-kept (n + 1) factors)

-- ascending pairs
pub ascends-kept : (low n : ℕ) (factors : List Factor) → ((x : Factor) → IsIn x factors → x.src < 4294967296)
    → ascend_from low (map dst_of (kept_from n factors)) (map entry_of (kept_from n factors)) ≡ true → Ascends low (kept_from n factors)
unfolding Ascends
ascends-kept low n [] narrow holds = tt
ascends-kept low n (factor ∷ factors) narrow holds =
    let pair = pair_number factor.dst factor.src in
    let (here, rest) = and_parts (ltb low pair) (ascend_from pair (map dst_of (kept_from (n + 1) factors)) (map entry_of (kept_from (n + 1) factors))) holds in
    (ltb-true low pair here, narrow factor (inl refl), ascends-kept pair (n + 1) factors (λ x there. narrow x (inr there)) rest)

-- factors with other numbers
abbrev pub renumbered : ℕ → List KeptFactor → List KeptFactor
renumbered n factors = numbered n (map dst_of factors) (map entry_of factors)

-- they ascend alike
renumbered-ascends : (n low : ℕ) (factors : List KeptFactor) → Ascends low factors → Ascends low (renumbered n factors)
unfolding Ascends
renumbered-ascends n low [] up = tt
renumbered-ascends n low (factor ∷ factors) up = (up.0, up.1, renumbered-ascends (n + 1) (pair_of factor) factors up.2)

-- they are in range alike
renumbered-ranged : (n src_cells : ℕ) (factors : List KeptFactor) → ((k : KeptFactor) → IsIn k factors → IsRanged src_cells k) → (k : KeptFactor) → IsIn k (renumbered n factors) → IsRanged src_cells k
renumbered-ranged n src_cells [] each k here = absurd here
renumbered-ranged n src_cells (factor ∷ factors) each k (inl same) =
    let first = each factor (inl refl) in
    let P : KeptFactor → Type 0 = λ k. IsRanged src_cells k in
    subst P (sym same) (record { from_one = first.from_one; within = first.within; weight = first.weight })
renumbered-ranged n src_cells (factor ∷ factors) each k (inr there) = renumbered-ranged (n + 1) src_cells factors (λ k there. each k (inr there)) k there

-- there are as many
renumbered-length : (n : ℕ) (factors : List KeptFactor) → length (renumbered n factors) ≡ length factors
renumbered-length n [] = refl
renumbered-length n (factor ∷ factors) = ap suc (renumbered-length (n + 1) factors)

-- a destination cell has the same row
renumbered-row : (n dst : ℕ) (factors : List KeptFactor) → row_in (renumbered n factors) dst ≡ row_in factors dst
renumbered-row n dst [] = refl
renumbered-row n dst (factor ∷ factors) =
    let rest = renumbered-row (n + 1) dst factors in
    elim (cases_Bool (is_dst dst factor)) [
      | inl here ↦ rw here (ap (λ es. entry_of factor ∷ es) rest)
      | inr other ↦ rw other rest
    ]

-- sorted factors stay sorted
pub renumbered-sorted : (src_cells : ℕ) (factors : List KeptFactor) → AreSorted src_cells factors → AreSorted src_cells (renumbered 1 factors)
renumbered-sorted src_cells factors sorted = record {
  ascend = renumbered-ascends 1 0 factors sorted.ascend;
  ranged = All-from_in (IsRanged src_cells) (renumbered 1 factors) (renumbered-ranged 1 src_cells factors (λ k here. All-in (IsRanged src_cells) factors k sorted.ranged here));
  few = let count = renumbered-length 1 factors in let few = sorted.few in omega (arith, count, few);
}

-- and make the same table
pub renumbered-table : (src_cells dst_cells : ℕ) (factors : List KeptFactor) → sorted_table src_cells dst_cells (renumbered 1 factors) ≡ sorted_table src_cells dst_cells factors
renumbered-table src_cells dst_cells factors =
    λ i. record {
      src_cells = src_cells;
      records = renumbered-length 1 factors i;
      rows = map (λ dst. renumbered-row 1 dst factors i) (range_with_len 1 dst_cells);
    }
