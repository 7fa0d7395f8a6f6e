-- Rows of sorted factors.
use Rattle.std.proofs.Common.{◌≡◌, ◌∙◌, ℕ, zero, suc, ◌+◌, ◌-◌, ◌*◌, ◌<◌, ◌≤◌, ◌==◌, List, [], ◌∷◌, All, length, map, take, drop, filter, find, get_or, slice_index, Option, Some, None, option_map, refl, sym, ap, subst, inl, inr, arith, add-one}
use Rattle.std.proofs.lemmas.Bool.{cases_eq, cases_lt, eq-eqb, ne_eqb, eqb-true, false≢true, cases_Bool}
use Rattle.std.proofs.lemmas.List.{drop-map, length-map, take-map}
use Rattle.std.proofs.lemmas.List.Elements.{All-filter, All-map, All-weaker}
use Rattle.std.proofs.lemmas.List.FromFn.{get_or-map-range_with_len}
use Rattle.std.proofs.lemmas.List.Sorted.{IsPermutation-sym}
use Rattle.std.specs.List.{filter_map, range_with_len}
use Rattle.std.specs.List.Sorted.{IsPermutation}
use Rattle.cpl_smm.specs.Kept.{Ascends, AreSorted, IsRanged, count_upto, dst_of, entry_of, is_dst, kept_factor, kept_from, pair_number, pair_of, row_between, row_in, rows_between, src_of}
use Rattle.cpl_smm.specs.Records.{Factor, IsWeight}
use Rattle.cpl_smm.specs.Rows.{Entry, IsRow, entry_between, is_pair, row_of}
use Rattle.cpl_smm.specs.declared.entries.KeptFactor.{KeptFactor}
use Rattle.cpl_smm.proofs.CountFacts.{count_upto-above, count_upto-here}
use Rattle.cpl_smm.proofs.JudgedFacts.{is_pair-from, is_pair-number, kept_from-of}
use Rattle.cpl_smm.proofs.MemberFacts.{All-in, IsIn, find-filter, find-permutation, is_in-filter, is_in-permutation}
use Rattle.cpl_smm.proofs.OrderFacts.{Ascends-filter, Ascends-find_none, Ascends-narrow, Ascends-raise, Ascends-unique}

-- ---- a row is a part of the factors

-- no factor has a destination cell below those that ascend
filter-below : (dst low : ℕ) (factors : List KeptFactor) → (dst + 1) * 4294967296 ≤ low + 1 → Ascends low factors → filter (is_dst dst) factors ≡ []
unfolding Ascends
filter-below dst low [] below up = refl
filter-below dst low (factor ∷ factors) below up =
    rw (ne_eqb (dst_of factor) dst (λ e. omega (arith, below, up.0, up.1, e))) (filter-below dst (pair_of factor) factors (omega (arith, below, up.0, up.1)) up.2)

-- the first factors, where none has a lesser destination cell
take-first : (dst low : ℕ) (factors : List KeptFactor) → dst * 4294967296 ≤ low + 1 → Ascends low factors → take (count_upto dst (map dst_of factors)) factors ≡ filter (is_dst dst) factors
unfolding Ascends
take-first dst low [] from up = refl
take-first dst low (factor ∷ factors) from up =
    elim (cases_lt dst (dst_of factor)) [
      | inl above ↦
          rw (count_upto-above dst (dst_of factor) (map dst_of factors) above, ne_eqb (dst_of factor) dst (λ e. omega (arith, above, e)))
          (sym (filter-below dst (pair_of factor) factors (omega (arith, above)) up.2))
      | inr upto ↦
          let here : dst_of factor ≡ dst = omega (arith, upto, from, up.0, up.1) in
          rw (count_upto-here dst (dst_of factor) (map dst_of factors) upto, eq-eqb (dst_of factor) dst here)
          (ap (λ fs. factor ∷ fs) (take-first dst (pair_of factor) factors (omega (arith, from, up.0, up.1)) up.2))
    ]

-- the factors of a destination cell stand together
take-row : (dst low : ℕ) (factors : List KeptFactor) → Ascends low factors
    → take (count_upto (dst + 1) (map dst_of factors) - count_upto dst (map dst_of factors)) (drop (count_upto dst (map dst_of factors)) factors) ≡ filter (is_dst (dst + 1)) factors
unfolding Ascends
take-row dst low [] up = refl
take-row dst low (factor ∷ factors) up =
    elim (cases_lt dst (dst_of factor)) [
      | inl above ↦
          let all : count_upto (dst + 1) (map dst_of (factor ∷ factors)) - 0 ≡ count_upto (dst + 1) (map dst_of (factor ∷ factors)) = omega arith in
          rw (count_upto-above dst (dst_of factor) (map dst_of factors) above)
          (ap (λ n. take n (factor ∷ factors)) all
          ∙ take-first (dst + 1) (pair_of factor - 1) (factor ∷ factors) (omega (arith, above)) (omega (arith, up.0, up.1), up.1, up.2))
      | inr upto ↦
          let less : suc (count_upto (dst + 1) (map dst_of factors)) - suc (count_upto dst (map dst_of factors)) ≡ count_upto (dst + 1) (map dst_of factors) - count_upto dst (map dst_of factors) = omega arith in
          rw (
            count_upto-here dst (dst_of factor) (map dst_of factors) upto,
            count_upto-here (dst + 1) (dst_of factor) (map dst_of factors) (omega (arith, upto)),
            less,
            ne_eqb (dst_of factor) (dst + 1) (λ e. omega (arith, upto, e)),
          )
          (take-row dst (pair_of factor) factors up.2)
    ]

-- the counts from one cell to the next
abbrev pub starts_in : ℕ → List KeptFactor → List ℕ
starts_in dst_cells factors = map (λ dst. count_upto dst (map dst_of factors)) (range_with_len 0 (dst_cells + 1))

-- a start
pub slice_index-starts : (dst_cells : ℕ) (factors : List KeptFactor) (k : ℕ) → k ≤ dst_cells → slice_index (starts_in dst_cells factors) k ≡ count_upto k (map dst_of factors)
slice_index-starts dst_cells factors k within = get_or-map-range_with_len (λ dst. count_upto dst (map dst_of factors)) 0 (dst_cells + 1) k k 0 (omega arith) (omega arith)

-- the entries from one start to the next
row_between-row : (dst_cells : ℕ) (factors : List KeptFactor) (k : ℕ) → Ascends 0 factors → k < dst_cells
    → row_between (starts_in dst_cells factors) (map entry_of factors) k ≡ row_in factors (k + 1)
row_between-row dst_cells factors k up within =
    let here = slice_index-starts dst_cells factors k (omega arith) in
    let next = slice_index-starts dst_cells factors (k + 1) (omega arith) in
    let from = count_upto k (map dst_of factors) in
    let count = count_upto (k + 1) (map dst_of factors) - from in
    (λ i. take (next i - here i) (drop (here i) (map entry_of factors)))
    ∙ ap (take count) (drop-map entry_of from factors)
    ∙ take-map entry_of count (drop from factors)
    ∙ ap (map entry_of) (take-row k 0 factors up)

-- two functions that agree along two ranges
map-ranges : (f g : ℕ → List Entry) (a n m : ℕ) → a + n ≤ m → ((k : ℕ) → k < m → f k ≡ g (k + 1)) → map f (range_with_len a n) ≡ map g (range_with_len (a + 1) n)
map-ranges f g a zero m few same = refl
map-ranges f g a (suc n) m few same = λ i. same a (omega arith) i ∷ map-ranges f g (a + 1) n m (omega arith) same i

-- all rows
pub rows_between-rows : (dst_cells : ℕ) (factors : List KeptFactor) → Ascends 0 factors
    → rows_between (starts_in dst_cells factors) (map entry_of factors) dst_cells ≡ map (row_in factors) (range_with_len 1 dst_cells)
rows_between-rows dst_cells factors up =
    map-ranges (row_between (starts_in dst_cells factors) (map entry_of factors)) (row_in factors) 0 dst_cells dst_cells (omega arith)
    (λ k within. row_between-row dst_cells factors k up within)

-- ---- a row has the source cells in their order

-- a row, cell by cell
row-range : (dst n a low : ℕ) (factors : List KeptFactor) (entry_at : ℕ → Option Entry) → dst * 4294967296 + a ≡ low + 1 → Ascends low factors
    → ((factor : KeptFactor) → IsIn factor factors → pair_of factor < dst * 4294967296 + (a + n))
    → ((src : ℕ) → a ≤ src → src < a + n → entry_at src ≡ option_map entry_of (find (λ factor. pair_of factor == dst * 4294967296 + src) factors))
    → map entry_of factors ≡ filter_map entry_at (range_with_len a n)
unfolding Ascends
row-range dst zero a low [] entry_at from up within at = refl
row-range dst zero a low (factor ∷ factors) entry_at from up within at =
    let above = within factor (inl refl) in absurd (omega (arith, from, up.0, up.1, above))
row-range dst (suc n) a low [] entry_at from up within at =
    rw (at a (omega arith) (omega arith)) (row-range dst n (a + 1) (low + 1) [] entry_at (omega (arith, from)) tt (λ factor here. absurd here) (λ src more less. at src (omega arith) (omega arith)))
row-range dst (suc n) a low (factor ∷ factors) entry_at from up within at =
    elim (cases_eq (pair_of factor) (dst * 4294967296 + a)) [
      | inl same ↦
          let here : entry_at a ≡ Some (entry_of factor) = at a (omega arith) (omega arith) ∙ rw (eq-eqb (pair_of factor) (dst * 4294967296 + a) same) refl in
          rw here (ap (λ es. entry_of factor ∷ es)
          (row-range dst n (a + 1) (pair_of factor) factors entry_at (omega (arith, same)) up.2
          (λ other there. let few = within other (inr there) in omega (arith, few))
          (λ src more less.
          at src (omega arith) (omega arith) ∙ rw (ne_eqb (pair_of factor) (dst * 4294967296 + src) (λ e. omega (arith, e, same, more))) refl)))
      | inr other ↦
          let higher : Ascends (dst * 4294967296 + a) (factor ∷ factors) = (omega (arith, from, up.0, up.1, other), up.1, up.2) in
          let none : entry_at a ≡ None =
          at a (omega arith) (omega arith) ∙ ap (option_map entry_of) (Ascends-find_none (dst * 4294967296 + a) (dst * 4294967296 + a) (factor ∷ factors) (omega arith) higher) in
          rw none (row-range dst n (a + 1) (low + 1) (factor ∷ factors) entry_at (omega (arith, from)) (omega (arith, from, up.0, up.1, other), up.1, up.2)
          (λ one there. let few = within one there in omega (arith, few))
          (λ src more less. at src (omega arith) (omega arith)))
    ]

-- what is found among factors, and among those that are kept
find-kept : (n src dst : ℕ) (factors : List Factor) → src < 4294967296 → ((x : Factor) → IsIn x factors → x.src < 4294967296)
    → option_map (λ factor. (src, factor.weight)) (find (is_pair src dst) factors) ≡ option_map entry_of (find (λ factor. pair_of factor == pair_number dst src) (kept_from n factors))
find-kept n src dst [] small ranged = refl
find-kept n src dst (factor ∷ factors) small ranged =
    elim (cases_Bool (is_pair src dst factor)) [
      | inl here ↦
          let same = is_pair-number src dst factor here in
          let few = ranged factor (inl refl) in
          let source : src ≡ factor.src = omega (arith, same, small, few) in
          rw (here, eq-eqb (pair_number factor.dst factor.src) (pair_number dst src) same) (ap (λ s. Some (s, factor.weight)) source)
      | inr other ↦
          let differs = ne_eqb (pair_number factor.dst factor.src) (pair_number dst src)
          (λ e. false≢true (sym other ∙ is_pair-from src dst factor small (ranged factor (inl refl)) e)) in
          rw (other, differs) (find-kept (n + 1) src dst factors small (λ x there. ranged x (inr there)))
    ]

-- the entry from a source cell, among sorted factors
entry_between-sorted : (factors : List Factor) (sorted : List KeptFactor) (dst src : ℕ) → src < 4294967296 → ((x : Factor) → IsIn x factors → x.src < 4294967296)
    → IsPermutation (kept_from 1 factors) sorted → Ascends 0 sorted
    → entry_between factors dst src ≡ option_map entry_of (find (λ factor. pair_of factor == pair_number dst src) (filter (is_dst dst) sorted))
entry_between-sorted factors sorted dst src small ranged moved up =
    let p = λ (factor : KeptFactor). pair_of factor == pair_number dst src in
    find-kept 1 src dst factors small ranged
    ∙ ap (option_map entry_of) (
    find-permutation p (kept_from 1 factors) sorted moved
    (λ x y here there passes other. Ascends-unique 0 sorted x y up here there (eqb-true (pair_of x) (pair_number dst src) passes ∙ sym (eqb-true (pair_of y) (pair_number dst src) other)))
    ∙ sym (find-filter p (is_dst dst) sorted (λ x there passes.
    let same = eqb-true (pair_of x) (pair_number dst src) passes in
    let few = Ascends-narrow 0 sorted x up there in
    let here : dst_of x ≡ dst = omega (arith, same, small, few) in
    eq-eqb (dst_of x) dst here))
    )

-- ---- rows of a file

-- a source cell of so many
abbrev pub AreSources : ℕ → List Factor → Type 0
AreSources src_cells factors = (x : Factor) → IsIn x factors → (1 ≤ x.src) × (x.src ≤ src_cells)

-- a factor that is kept and sorted
pub sorted-of : (factors : List Factor) (sorted : List KeptFactor) (k : KeptFactor) → IsPermutation (kept_from 1 factors) sorted → IsIn k sorted
    → (x : Factor) × IsIn x factors × (k ≡ kept_factor k.number x)
sorted-of factors sorted k moved here =
    kept_from-of 1 factors k (is_in-permutation sorted (kept_from 1 factors) k (IsPermutation-sym (kept_from 1 factors) sorted moved) here)

-- its source cell is one of so many
sorted-source : (src_cells : ℕ) (factors : List Factor) (sorted : List KeptFactor) (k : KeptFactor) → src_cells < 4294967296 → AreSources src_cells factors
    → IsPermutation (kept_from 1 factors) sorted → IsIn k sorted → (1 ≤ src_of k) × (src_of k ≤ src_cells)
sorted-source src_cells factors sorted k small ranged moved here =
    let (x, there, is) = sorted-of factors sorted k moved here in
    let (from, to) = ranged x there in
    let source : k.src ≡ x.src = ap (λ (k : KeptFactor). k.src) is in
    (omega (arith, source, from), omega (arith, source, to))

-- the row of a destination cell among sorted factors is that of the file
pub row_in-file : (src_cells : ℕ) (factors : List Factor) (sorted : List KeptFactor) (dst : ℕ) → src_cells < 4294967296 → AreSources src_cells factors
    → IsPermutation (kept_from 1 factors) sorted → Ascends 0 sorted → row_in sorted dst ≡ row_of src_cells factors dst
unfolding row_of
row_in-file src_cells factors sorted dst small ranged moved up =
    let row = filter (is_dst dst) sorted in
    let member : (k : KeptFactor) → IsIn k row → (dst * 4294967296 < pair_of k) × (pair_of k < dst * 4294967296 + (1 + src_cells)) =
    λ k here.
    let (there, passes) = is_in-filter (is_dst dst) sorted k here in
    let same = eqb-true (dst_of k) dst passes in
    let (from, to) = sorted-source src_cells factors sorted k small ranged moved there in
    (omega (arith, same, from), omega (arith, same, to)) in
    row-range dst src_cells 1 (dst * 4294967296) row (entry_between factors dst) (omega arith)
    (Ascends-raise 0 (dst * 4294967296) row (Ascends-filter (is_dst dst) 0 sorted up) (λ k here. (member k here).0))
    (λ k here. (member k here).1)
    (λ src more less. entry_between-sorted factors sorted dst src (omega (arith, less, small)) (λ x here. let (from, to) = ranged x here in omega (arith, to, small)) moved up)

-- ---- what holds of a row

-- the source cells of factors
abbrev sources_of : List KeptFactor → List ℕ
sources_of factors = map (λ (entry : Entry). entry.0) (map entry_of factors)

-- the next factor of a destination cell has a greater source cell
source-next : (dst : ℕ) (factor : KeptFactor) (factors : List KeptFactor) → dst_of factor ≡ dst → ((k : KeptFactor) → IsIn k factors → dst_of k ≡ dst)
    → Ascends (pair_of factor) factors → 0 < length (sources_of factors) → src_of factor < get_or (sources_of factors) 0 0
unfolding Ascends
source-next dst factor [] here same up some = absurd (omega arith)
source-next dst factor (next ∷ factors) here same up some = let there = same next (inl refl) in omega (arith, here, there, up.0, up.1)

-- source cells ascend
source-ascends : (dst low : ℕ) (factors : List KeptFactor) (k : ℕ) → ((k : KeptFactor) → IsIn k factors → dst_of k ≡ dst) → Ascends low factors
    → suc k < length (sources_of factors) → get_or (sources_of factors) k 0 < get_or (sources_of factors) (suc k) 0
unfolding Ascends
source-ascends dst low [] k same up few = absurd (omega arith)
source-ascends dst low (factor ∷ factors) zero same up few = source-next dst factor factors (same factor (inl refl)) (λ k here. same k (inr here)) up.2 (omega (arith, few))
source-ascends dst low (factor ∷ factors) (suc k) same up few = source-ascends dst (pair_of factor) factors k (λ k here. same k (inr here)) up.2 (omega (arith, few))

-- so there are no more than source cells
source-few : (dst low from src_cells : ℕ) (factors : List KeptFactor) → ((k : KeptFactor) → IsIn k factors → (dst_of k ≡ dst) × (src_of k ≤ src_cells)) → Ascends low factors
    → dst * 4294967296 + from ≤ low → from ≤ src_cells → from + length factors ≤ src_cells
unfolding Ascends
source-few dst low from src_cells [] same up above within = omega (arith, within)
source-few dst low from src_cells (factor ∷ factors) same up above within =
    let (here, few) = same factor (inl refl) in
    let rest = source-few dst (pair_of factor) (src_of factor) src_cells factors (λ k there. same k (inr there)) up.2 (omega (arith, here)) few in
    omega (arith, rest, here, above, up.0, up.1)

-- the row of a destination cell among sorted factors
pub row_in-row : (src_cells : ℕ) (factors : List KeptFactor) (dst : ℕ) → AreSorted src_cells factors → IsRow src_cells (row_in factors dst)
row_in-row src_cells factors dst sorted =
    let row = filter (is_dst dst) factors in
    let up = Ascends-filter (is_dst dst) 0 factors sorted.ascend in
    let ranged : All (IsRanged src_cells) row = All-filter (is_dst dst) (IsRanged src_cells) factors sorted.ranged in
    let same : (k : KeptFactor) → IsIn k row → dst_of k ≡ dst = λ k here. eqb-true (dst_of k) dst (is_in-filter (is_dst dst) factors k here).1 in
    let member : (k : KeptFactor) → IsIn k row → IsRanged src_cells k = λ k here. All-in (IsRanged src_cells) row k ranged here in
    record {
      ascending = λ k few.
          let P : ℕ → Type 0 = λ n. get_or (sources_of row) k 0 < get_or (sources_of row) n 0 in
          subst P (sym (add-one k)) (source-ascends dst 0 row k same up (omega (arith, few)));
      sources = All-map (λ (entry : Entry). (1 ≤ entry.0) × (entry.0 ≤ src_cells)) entry_of row
          (All-weaker (IsRanged src_cells) (λ k. (1 ≤ src_of k) × (src_of k ≤ src_cells)) (λ k here. (here.from_one, here.within)) row ranged);
      weights = All-map (λ (entry : Entry). IsWeight entry.1) entry_of row (All-weaker (IsRanged src_cells) (λ k. IsWeight k.weight) (λ k here. here.weight) row ranged);
      few =
          let count : length (row_in factors dst) ≡ length row = length-map row entry_of in
          let few = source-few dst (dst * 4294967296) 0 src_cells row (λ k here. (same k here, (member k here).within))
          (Ascends-raise 0 (dst * 4294967296) row up (λ k here. let is = same k here in let from = (member k here).from_one in omega (arith, is, from)))
          (omega arith) (omega arith) in
          omega (arith, count, few);
    }
