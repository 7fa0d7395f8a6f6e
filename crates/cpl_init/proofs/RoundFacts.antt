-- What each round looks up, after a row is added and after a component is placed.
use Rattle.std.proofs.Common.{◌≡◌, ℕ, ◌+◌, ◌-◌, ◌*◌, ◌/◌, ◌%◌, ◌<◌, ◌≤◌, Bool, true, false, not, ◌&&◌, List, [], ◌∷◌, ◌++◌, length, get_or, replicate, set, take, Option, refl, sym, ap, ◌∙◌, inl, inr, arith, length-set}
use Rattle.std.proofs.lemmas.Bool.{cases_Bool, cases_eq, not_from_false, not_from_true}
use Rattle.std.proofs.lemmas.List.{get_or-set_other, get_or-set_same, get_or-replicate, get_or_read, length-replicate, take_more}
use Rattle.std.proofs.lemmas.Nat.{div-add-mod', div-mul-add, mod-mul-add, mul-add-lt}
use Rattle.std.specs.Prelude.{◌==◌}
use Rattle.std.specs.List.{slice_index, slice_index_or}
use Rattle.cpl_init.specs.Orders.{AreNeeds, IsListed, can_follow, has_number, is_needed, is_ready, next_of, other_components}
use Rattle.cpl_init.specs.Rounds.{IsLowered, IsLoweredBelow, IsRounds, MissesEach, first_free_component, free_components, missing_of, is_in_table}
use Rattle.cpl_init.specs.declared.needs.Needs.{Needs}
use Rattle.cpl_init.proofs.MissingFacts.{is_ready-missing, missing_of-added, missing_of-le, missing_of-none, missing_of-placed, missing_of-same, missing_of-unneeded}
use Rattle.cpl_init.proofs.NeedFacts.{has_number-pushed, has_number-pushed_other, is_needed-pushed, is_needed-pushed_other}
use Rattle.cpl_init.proofs.RangeFacts.{filter-range_kept, filter-range_left, filter-range_same, find-range_same}

-- a place in the table
pub record IsCell (count i c p : ℕ) : Type 0 where
  pub within : i < count * count
  pub row : i / count ≡ c
  pub column : i % count ≡ p

-- that of a component and a producer
pub cell-is : (count c p : ℕ) → c < count → p < count → IsCell count (c * count + p) c p
cell-is count c p row column = record {
  within = mul-add-lt c count p count row column;
  row = div-mul-add c count p column;
  column = mod-mul-add c count p column;
}

-- what the table says of these two
pub is_in_table-is : (count : ℕ) (needs : List Needs) (before : List ℕ) (needed : List Bool) (missing : List ℕ) (placed : List Bool) (c p : ℕ) → IsRounds count needs before needed missing placed → c < count → p < count → is_in_table count needed c p ≡ is_needed needs c p
is_in_table-is count needs before needed missing placed c p rounds row column =
    let cell = cell-is count c p row column in
    rounds.cell (c * count + p) cell.within ∙ ap (λ k. is_needed needs k ((c * count + p) % count)) cell.row ∙ ap (is_needed needs c) cell.column

-- a row that is there already changes nothing
pub IsRounds-again : (count : ℕ) (needs : List Needs) (row : Needs) (needed : List Bool) (missing : List ℕ) (placed : List Bool) → IsListed count row → IsRounds count needs [] needed missing placed → is_in_table count needed row.component row.producer ≡ true → IsRounds count (needs ++ row ∷ []) [] needed missing placed
IsRounds-again count needs row needed missing placed listed rounds is =
    let there : is_needed needs row.component row.producer ≡ true = sym (is_in_table-is count needs [] needed missing placed row.component row.producer rounds listed.component listed.producer) ∙ is in
    let same : (c p : ℕ) → is_needed (needs ++ row ∷ []) c p ≡ is_needed needs c p = λ c p. elim (cases_eq row.component c) [
      | inl component ↦ elim (cases_eq row.producer p) [
        | inl producer ↦ rw (← component, ← producer) (is_needed-pushed needs row ∙ sym there)
        | inr other ↦ is_needed-pushed_other needs row c p (λ _ producer. other producer)
      ]
      | inr other ↦ is_needed-pushed_other needs row c p (λ component _. other component)
    ] in
    record {
      cells = rounds.cells;
      counts = rounds.counts;
      places = rounds.places;
      cell = λ i within. rounds.cell i within ∙ sym (same (i / count) (i % count));
      misses = λ c within. rounds.misses c within ∙ sym (missing_of-same count needs (needs ++ row ∷ []) [] c (same c));
      is_placed = rounds.is_placed;
    }

-- the table with a row more
added-cell : (count : ℕ) (needs : List Needs) (row : Needs) (needed : List Bool) (missing : List ℕ) (placed : List Bool) (i : ℕ) → IsListed count row → IsRounds count needs [] needed missing placed → i < count * count → slice_index_or (set needed (row.component * count + row.producer) true) i true ≡ is_needed (needs ++ row ∷ []) (i / count) (i % count)
added-cell count needs row needed missing placed i listed rounds within =
    let at = row.component * count + row.producer in
    let cell = cell-is count row.component row.producer listed.component listed.producer in
    elim (cases_eq i at) [
      | inl here ↦
          let inside : at < length needed = omega (arith, rounds.cells, cell.within) in
          let c : i / count ≡ row.component = ap (λ k. k / count) here ∙ cell.row in
          let p : i % count ≡ row.producer = ap (λ k. k % count) here ∙ cell.column in
          rw (c, p, here) (get_or-set_same needed at true true inside ∙ sym (is_needed-pushed needs row))
      | inr other ↦
          let differs : row.component ≡ i / count → row.producer ≡ i % count → ⊥ = λ c p.
          let parts = div-add-mod' i count in
          let product : row.component * count ≡ i / count * count = ap (λ k. k * count) c in
          other (omega arith) in
          get_or-set_other needed at i true true other ∙ rounds.cell i within ∙ sym (is_needed-pushed_other needs row (i / count) (i % count) differs)
    ]

-- the counts with a row more that wasn't there
added-misses : (count : ℕ) (needs : List Needs) (row : Needs) (needed : List Bool) (missing : List ℕ) (placed : List Bool) (c more : ℕ) → IsListed count row → IsRounds count needs [] needed missing placed → is_needed needs row.component row.producer ≡ false → more ≡ slice_index missing row.component + 1 → c < count → slice_index (set missing row.component more) c ≡ missing_of count (needs ++ row ∷ []) [] c
added-misses count needs row needed missing placed c more listed rounds new one_more within = elim (cases_eq c row.component) [
  | inl here ↦
      let inside : row.component < length missing = omega (arith, rounds.counts, listed.component) in
      let before = rounds.misses row.component listed.component in
      let added = missing_of-added count needs row listed.producer new in
      rw here (get_or-set_same missing row.component more 0 inside ∙ omega arith)
  | inr other ↦
      let same = missing_of-same count needs (needs ++ row ∷ []) [] c (λ p. is_needed-pushed_other needs row c p (λ component _. other (sym component))) in
      get_or-set_other missing row.component c more 0 other ∙ rounds.misses c within ∙ sym same
]

-- a row that wasn't there is added to both
pub IsRounds-added : (count : ℕ) (needs : List Needs) (row : Needs) (needed : List Bool) (missing : List ℕ) (placed : List Bool) (more : ℕ) → IsListed count row → IsRounds count needs [] needed missing placed → is_in_table count needed row.component row.producer ≡ false → more ≡ slice_index missing row.component + 1 → IsRounds count (needs ++ row ∷ []) [] (set needed (row.component * count + row.producer) true) (set missing row.component more) placed
IsRounds-added count needs row needed missing placed more listed rounds isnt one_more =
    let new : is_needed needs row.component row.producer ≡ false = sym (is_in_table-is count needs [] needed missing placed row.component row.producer rounds listed.component listed.producer) ∙ isnt in
    record {
      cells = length-set needed (row.component * count + row.producer) true ∙ rounds.cells;
      counts = length-set missing row.component more ∙ rounds.counts;
      places = rounds.places;
      cell = λ i within. added-cell count needs row needed missing placed i listed rounds within;
      misses = λ c within. added-misses count needs row needed missing placed c more listed rounds new one_more within;
      is_placed = rounds.is_placed;
    }

-- who needs a component that isn't placed misses one
pub MissesEach-rounds : (count : ℕ) (needs : List Needs) (before : List ℕ) (needed : List Bool) (missing : List ℕ) (placed : List Bool) (k : ℕ) → IsRounds count needs before needed missing placed → k < count → has_number before k ≡ false → MissesEach count k needed missing
MissesEach-rounds count needs before needed missing placed k rounds within new = record {
  some = λ c row needs_it.
      let is = sym (is_in_table-is count needs before needed missing placed c k rounds row within) ∙ needs_it in
      let one = missing_of-placed count needs before c k within new is in
      let misses = rounds.misses c row in
      omega arith;
}

-- the counts behind a newcomer
placed-misses : (count : ℕ) (needs : List Needs) (before : List ℕ) (needed : List Bool) (missing : List ℕ) (placed : List Bool) (k : ℕ) (lowered : List ℕ) (c : ℕ) → IsRounds count needs before needed missing placed → k < count → has_number before k ≡ false → IsLowered count k needed missing lowered → c < count → slice_index lowered c ≡ missing_of count needs (before ++ k ∷ []) c
placed-misses count needs before needed missing placed k lowered c rounds within new less row =
    let is = is_in_table-is count needs before needed missing placed c k rounds row within in
    let misses = rounds.misses c row in
    let here = less.below c row in
    elim (cases_Bool (is_needed needs c k)) [
      | inl needed_is ↦
          let one = missing_of-placed count needs before c k within new needed_is in
          let lower = rw (is ∙ needed_is) at here in
          omega arith
      | inr unneeded ↦
          let same = missing_of-unneeded count needs before c k unneeded in
          let lower = rw (is ∙ unneeded) at here in
          omega arith
    ]

-- a component that is placed
pub IsRounds-placed : (count : ℕ) (needs : List Needs) (before : List ℕ) (needed : List Bool) (missing : List ℕ) (placed : List Bool) (k : ℕ) (lowered : List ℕ) → IsRounds count needs before needed missing placed → k < count → has_number before k ≡ false → IsLowered count k needed missing lowered → length lowered ≡ count → IsRounds count needs (before ++ k ∷ []) needed lowered (set placed k true)
IsRounds-placed count needs before needed missing placed k lowered rounds within new less counts = record {
  cells = rounds.cells;
  counts = counts;
  places = length-set placed k true ∙ rounds.places;
  cell = rounds.cell;
  misses = λ c row. placed-misses count needs before needed missing placed k lowered c rounds within new less row;
  is_placed = λ c row. elim (cases_eq c k) [
    | inl here ↦
        let inside : k < length placed = omega (arith, rounds.places) in
        rw here (get_or-set_same placed k true true inside ∙ sym (has_number-pushed before k))
    | inr other ↦
        get_or-set_other placed k c true true other ∙ rounds.is_placed c row ∙ sym (has_number-pushed_other before k c other)
  ];
}

-- the first free component is the next one
pub next_of-rounds : (count : ℕ) (needs : List Needs) (before : List ℕ) (needed : List Bool) (missing : List ℕ) (placed : List Bool) (next : Option ℕ) → AreNeeds count needs → IsRounds count needs before needed missing placed → next ≡ first_free_component count missing placed → next_of count needs before ≡ next
unfolding first_free_component
next_of-rounds count needs before needed missing placed next listed rounds is =
    sym (find-range_same (λ c. not (slice_index_or placed c true) && (slice_index missing c == 0)) (can_follow needs before) 0 count (λ c from to.
    let row : c < count = omega arith in
    let free : not (slice_index_or placed c true) ≡ not (has_number before c) = ap not (rounds.is_placed c row) in
    let ready : (slice_index missing c == 0) ≡ is_ready needs before c = ap (λ n. n == 0) (rounds.misses c row) ∙ sym (is_ready-missing count needs before c listed) in
    rw (free, ready) refl))
    ∙ sym is

-- the free ones are the others
pub other_components-rounds : (count : ℕ) (needs : List Needs) (before : List ℕ) (needed : List Bool) (missing : List ℕ) (placed : List Bool) → IsRounds count needs before needed missing placed → free_components count placed ≡ other_components count before
unfolding free_components
other_components-rounds count needs before needed missing placed rounds =
    filter-range_same (λ c. not (slice_index_or placed c true)) (λ c. not (has_number before c)) 0 count (λ c from to.
    let row : c < count = omega arith in ap not (rounds.is_placed c row))

-- one free component more
pub free_components-more : (k : ℕ) (placed : List Bool) → slice_index_or placed k true ≡ false → free_components (k + 1) placed ≡ free_components k placed ++ k ∷ []
unfolding free_components
free_components-more k placed free = filter-range_kept (λ c. not (slice_index_or placed c true)) k (not_from_false _ free)

-- and one that isn't free
pub free_components-same : (k : ℕ) (placed : List Bool) → slice_index_or placed k true ≡ true → free_components (k + 1) placed ≡ free_components k placed
unfolding free_components
free_components-same k placed there = filter-range_left (λ c. not (slice_index_or placed c true)) k (not_from_true _ there)

-- one more that needs the component misses one less
pub IsLoweredBelow-less : (high count component : ℕ) (needed : List Bool) (before after : List ℕ) (had : ℕ) → high < length after → is_in_table count needed high component ≡ true → had ≡ slice_index_or after high had → IsLoweredBelow high count component needed before after → IsLoweredBelow (high + 1) count component needed before (set after high (had - 1))
IsLoweredBelow-less high count component needed before after had inside is read lowered =
    let here : had ≡ slice_index before high = get_or_read after high had inside read 0 ∙ lowered.above high (omega arith) in
    record {
      below = λ c within. elim (cases_eq c high) [
        | inl same ↦ rw (same, is) (get_or-set_same after high (had - 1) 0 inside ∙ ap (λ n. n - 1) here)
        | inr other ↦ get_or-set_other after high c (had - 1) 0 other ∙ lowered.below c (omega (arith, other))
      ];
      above = λ c from. get_or-set_other after high c (had - 1) 0 (λ same. omega arith) ∙ lowered.above c (omega arith);
    }

-- one more that doesn't misses as many
pub IsLoweredBelow-same : (high count component : ℕ) (needed : List Bool) (before after : List ℕ) → is_in_table count needed high component ≡ false → IsLoweredBelow high count component needed before after → IsLoweredBelow (high + 1) count component needed before after
IsLoweredBelow-same high count component needed before after isnt lowered = record {
  below = λ c within. elim (cases_eq c high) [
    | inl same ↦ rw (same, isnt) (lowered.above high (omega arith) ∙ omega arith)
    | inr other ↦ lowered.below c (omega (arith, other))
  ];
  above = λ c from. lowered.above c (omega arith);
}

-- a row more that wasn't there, as the code adds it
pub IsRounds-more : (count : ℕ) (needs : List Needs) (i : ℕ) (d : Needs) (needed : List Bool) (missing : List ℕ) (placed : List Bool) (c w p : ℕ) (flag : Bool) (had : ℕ) → AreNeeds count needs → i < length needs → IsRounds count (take i needs) [] needed missing placed → c ≡ (get_or needs i d).component → w ≡ count → p ≡ (get_or needs i d).producer → flag ≡ slice_index_or needed (c * w + p) flag → flag ≡ false → had ≡ slice_index_or missing c had → (IsRounds count (take (i + 1) needs) [] (set needed (c * w + p) true) (set missing c (had + 1)) placed) × (had + 1 ≤ count)
IsRounds-more count needs i d needed missing placed c w p flag had all inside rounds component wide producer read isnt read_count =
    let row = get_or needs i d in
    let listed : IsListed count row = all i d inside in
    let within : c < count = omega (arith, listed.component) in
    let row_listed : p < count = omega (arith, listed.producer) in
    let place = cell-is count c p within row_listed in
    let at : c * w + p ≡ row.component * count + row.producer = λ j. component j * wide j + producer j in
    let cell : c * w + p < length needed = omega (arith, rounds.cells, place.within, ap (λ n. c * n) wide) in
    let flag_is : is_in_table count needed row.component row.producer ≡ false = ap (λ n. slice_index_or needed n true) (sym at) ∙ sym (get_or_read needed (c * w + p) flag cell read true) ∙ isnt in
    let had_is : had ≡ slice_index missing row.component = get_or_read missing c had (omega (arith, rounds.counts)) read_count 0 ∙ ap (slice_index missing) component in
    let added = IsRounds-added count (take i needs) row needed missing placed (had + 1) listed rounds flag_is (ap (λ n. n + 1) had_is) in
    let fits = added.misses row.component listed.component in
    let most = missing_of-le count (take i needs ++ row ∷ []) [] row.component in
    let there : slice_index (set missing row.component (had + 1)) row.component ≡ had + 1 = get_or-set_same missing row.component (had + 1) 0 (omega (arith, rounds.counts)) in
    (rw (at, component, take_more needs i d inside) added, omega arith)

-- a row more that was there, as the code reads it
pub IsRounds-no_more : (count : ℕ) (needs : List Needs) (i : ℕ) (d : Needs) (needed : List Bool) (missing : List ℕ) (placed : List Bool) (c w p : ℕ) (flag : Bool) → AreNeeds count needs → i < length needs → IsRounds count (take i needs) [] needed missing placed → c ≡ (get_or needs i d).component → w ≡ count → p ≡ (get_or needs i d).producer → flag ≡ slice_index_or needed (c * w + p) flag → flag ≡ true → IsRounds count (take (i + 1) needs) [] needed missing placed
IsRounds-no_more count needs i d needed missing placed c w p flag all inside rounds component wide producer read is =
    let row = get_or needs i d in
    let listed : IsListed count row = all i d inside in
    let place = cell-is count c p (omega (arith, listed.component)) (omega (arith, listed.producer)) in
    let at : c * w + p ≡ row.component * count + row.producer = λ j. component j * wide j + producer j in
    let cell : c * w + p < length needed = omega (arith, rounds.cells, place.within, ap (λ n. c * n) wide) in
    let flag_is : is_in_table count needed row.component row.producer ≡ true = ap (λ n. slice_index_or needed n true) (sym at) ∙ sym (get_or_read needed (c * w + p) flag cell read true) ∙ is in
    rw (take_more needs i d inside) (IsRounds-again count (take i needs) row needed missing placed listed rounds flag_is)

-- rounds over no rows
pub IsRounds-start : (count : ℕ) (needed : List Bool) (missing : List ℕ) (placed : List Bool) → needed ≡ replicate (count * count) false → missing ≡ replicate count 0 → placed ≡ replicate count false → IsRounds count [] [] needed missing placed
IsRounds-start count needed missing placed none zeros free = record {
  cells = ap (λ (xs : List Bool). length xs) none ∙ length-replicate (count * count) false;
  counts = ap (λ (xs : List ℕ). length xs) zeros ∙ length-replicate count 0;
  places = ap (λ (xs : List Bool). length xs) free ∙ length-replicate count false;
  cell = λ i within. ap (λ xs. slice_index_or xs i true) none ∙ get_or-replicate (count * count) i false true within;
  misses = λ c within. ap (λ xs. slice_index xs c) zeros ∙ get_or-replicate count c 0 0 within ∙ sym (missing_of-none count c);
  is_placed = λ c within. ap (λ xs. slice_index_or xs c true) free ∙ get_or-replicate count c false true within;
}
