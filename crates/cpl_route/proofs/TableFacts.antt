-- Tables of legs: what one more leg does, and how many cells they have.
use Rattle.std.proofs.Common.{◌≡◌, ℕ, suc, ◌+◌, ◌-◌, ◌*◌, ◌<◌, ◌≤◌, ◌^◌, Bool, true, false, List, [], ◌∷◌, ◌++◌, length, get_or, take, drop, map, filter, refl, sym, ap, ◌∙◌, inl, inr, arith, append_assoc, length-append, length-drop, take_all}
use Rattle.std.specs.Prelude.{if◌then◌else◌, nat_lt, slice_range}
use Rattle.std.specs.List.{All, flat_map, range_with_len}
use Rattle.std.proofs.lemmas.Bool.{cases_lt, lt-ltb, le-ltb}
use Rattle.std.proofs.lemmas.Grind.{flat_map-append}
use Rattle.std.proofs.lemmas.List.{append-nil, drop-append-le, map-append, take-append-le, take_more}
use Rattle.std.proofs.lemmas.List.Concat.{length-flat_map}
use Rattle.std.proofs.lemmas.List.Elements.{All-append, All-cons, All-head, All-nil, All-tail, All-weaker, filter-append}
use Rattle.std.proofs.lemmas.List.Sums.{sum_by-append}
use Rattle.std.proofs.Math.Seq.{drop-append_seam}
use Rattle.cpl_grid.proofs.RangeFacts.{range-suc}
use Rattle.cpl_grid.specs.Owners.{Layout, pets_in}
use Rattle.cpl_route.specs.Routes.{Leg, cells_sent, has_cells, leg_between, legs_from, route_of, shared_cells}
use Rattle.cpl_route.specs.Tables.{HasLegs, HasReceivers, HasSenders, IsSpan, IsTable, leg_at, legs_at}
use Rattle.cpl_route.specs.declared.table.Span.{Span}

-- a span has the same cells in a longer list
leg_at-kept : (cells more : List ℕ) (span : Span) → IsSpan (length cells) span → leg_at (cells ++ more) span ≡ leg_at cells span
leg_at-kept cells more span is =
    let order = is.order in
    let within = is.within in
    let start : span.start ≤ length cells = omega arith in
    let rest : span.end - span.start ≤ length (drop span.start cells) = omega (arith, length-drop span.start cells) in
    ap (λ xs. record { from = span.from; to = span.to; cells = xs })
    (ap (take (span.end - span.start)) (drop-append-le span.start cells more start)
    ∙ take-append-le (span.end - span.start) (drop span.start cells) more rest)

-- legs have the same cells in a longer list
legs_at-kept : (spans : List Span) (cells more : List ℕ) → All (IsSpan (length cells)) spans → legs_at spans (cells ++ more) ≡ legs_at spans cells
unfolding legs_at
legs_at-kept [] cells more within = refl
legs_at-kept (span ∷ spans) cells more within =
    ap (λ leg. leg ∷ map (leg_at (cells ++ more)) spans) (leg_at-kept cells more span (All-head (IsSpan (length cells)) span spans within))
    ∙ ap (λ legs. leg_at cells span ∷ legs) (legs_at-kept spans cells more (All-tail (IsSpan (length cells)) span spans within))

-- legs behind legs
legs_at-append : (spans more : List Span) (cells : List ℕ) → legs_at (spans ++ more) cells ≡ legs_at spans cells ++ legs_at more cells
unfolding legs_at
legs_at-append spans more cells = map-append (leg_at cells) spans more

-- a table has its legs and no further
pub legs-none : (spans : List Span) (cells : List ℕ) → IsTable spans cells → HasLegs spans cells [] spans cells
legs-none spans cells table = record { table = table; added = sym (append-nil (legs_at spans cells)) }

-- a table without legs
pub table-empty : IsTable [] []
unfolding legs_at
table-empty = record { within = All-nil (IsSpan 0); whole = refl }

-- further legs, and others behind them
pub legs-append : (s0 : List Span) (c0 : List ℕ) (l1 : List Leg) (s1 : List Span) (c1 : List ℕ) (l2 : List Leg) (s2 : List Span) (c2 : List ℕ) → HasLegs s0 c0 l1 s1 c1 → HasLegs s1 c1 l2 s2 c2 → HasLegs s0 c0 (l1 ++ l2) s2 c2
legs-append s0 c0 l1 s1 c1 l2 s2 c2 first second = record {
  table = second.table;
  added = second.added ∙ ap (λ legs. legs ++ l2) first.added ∙ append_assoc (legs_at s0 c0) l1 l2;
}

-- a list without members
empty-from_length : (xs : List ℕ) → length xs ≡ 0 → xs ≡ []
empty-from_length [] none = refl
empty-from_length (x ∷ xs) none = absurd (omega arith)

-- the cells of a new span
slice-added : (cells added : List ℕ) → slice_range (cells ++ added) (length cells) (length (cells ++ added)) ≡ added
slice-added cells added =
    let long = length-append cells added in
    ap (take (length (cells ++ added) - length cells)) (drop-append_seam cells added)
    ∙ take_all (length (cells ++ added) - length cells) added (omega arith)

-- a leg is added where it has cells
pub legs-add : (spans : List Span) (cells : List ℕ) (from to : ℕ) (added after : List ℕ) (span : Span) (more : List Span) → IsTable spans cells → from < 256 → to < 256 → after ≡ cells ++ added → span ≡ record { from = from; to = to; start = length cells; end = length after } → more ≡ spans ++ (if nat_lt span.start span.end then span ∷ [] else []) → HasLegs spans cells (filter has_cells (record { from = from; to = to; cells = added } ∷ [])) more after
unfolding legs_at
legs-add spans cells from to added after span more table from_byte to_byte is_after is_span is_more =
    let long : length after ≡ length cells + length added = ap length is_after ∙ length-append cells added in
    let start : span.start ≡ length cells = ap (λ s. s.start) is_span in
    let end : span.end ≡ length after = ap (λ s. s.end) is_span in
    let leg : Leg = record { from = from; to = to; cells = added } in
    let wider = All-weaker (IsSpan (length cells)) (IsSpan (length after)) (λ s is. let order = is.order in let within = is.within in record { order = order; within = omega arith; from = is.from; to = is.to }) spans table.within in
    let kept : legs_at spans after ≡ legs_at spans cells = ap (legs_at spans) is_after ∙ legs_at-kept spans cells added table.within in
    elim (cases_lt 0 (length added)) [
      | inl some ↦
          let test : nat_lt span.start span.end ≡ true = lt-ltb span.start span.end (omega arith) in
          let one : more ≡ spans ++ span ∷ [] = is_more ∙ ap (λ b. spans ++ (if b then span ∷ [] else [])) test in
          let is_leg : leg_at after span ≡ leg =
          ap (leg_at after) is_span ∙ ap (λ xs. record { from = from; to = to; cells = slice_range xs (length cells) (length xs) }) is_after
          ∙ ap (λ xs. record { from = from; to = to; cells = xs }) (slice-added cells added) in
          let legs : legs_at more after ≡ legs_at spans cells ++ leg ∷ [] =
          ap (λ ss. legs_at ss after) one ∙ legs_at-append spans (span ∷ []) after ∙ ap (λ l. l ++ leg_at after span ∷ []) kept ∙ ap (λ l. legs_at spans cells ++ l ∷ []) is_leg in
          record {
            table = record {
              within = rw one (All-append (IsSpan (length after)) spans (span ∷ []) wider (All-cons (IsSpan (length after)) span [] (record { order = omega arith; within = omega arith; from = rw is_span from_byte; to = rw is_span to_byte }) (All-nil (IsSpan (length after)))));
              whole = ap (flat_map (λ l. l.cells)) legs ∙ flat_map-append (λ (l : Leg). l.cells) (legs_at spans cells) (leg ∷ []) ∙ ap (λ xs. xs ++ flat_map (λ (l : Leg). l.cells) (leg ∷ [])) table.whole ∙ ap (λ xs. cells ++ xs) (append-nil added) ∙ sym is_after;
            };
            added = rw (lt-ltb 0 (length added) some) legs;
          }
      | inr none ↦
          let empty : added ≡ [] = empty-from_length added (omega arith) in
          let test : nat_lt span.start span.end ≡ false = le-ltb span.start span.end (omega arith) in
          let one : more ≡ spans = is_more ∙ ap (λ b. spans ++ (if b then span ∷ [] else [])) test ∙ append-nil spans in
          let legs : legs_at more after ≡ legs_at spans cells = ap (λ ss. legs_at ss after) one ∙ kept in
          record {
            table = record {
              within = rw one wider;
              whole = ap (flat_map (λ l. l.cells)) legs ∙ table.whole ∙ sym (is_after ∙ ap (λ xs. cells ++ xs) empty ∙ append-nil cells);
            };
            added = rw (le-ltb 0 (length added) none) (legs ∙ sym (append-nil (legs_at spans cells)));
          }
    ]

-- what is sent to one receiver more
pub legs_from-more : (src : Layout) (is_needed : ℕ → ℕ → Bool) (receivers : List ℕ) (from place : ℕ) → place < length receivers → legs_from src is_needed (take (place + 1) receivers) from ≡ legs_from src is_needed (take place receivers) from ++ legs_from src is_needed (get_or receivers place 0 ∷ []) from
legs_from-more src is_needed receivers from place inside =
    let between = leg_between src is_needed from in
    ap (λ to. filter has_cells (map between to)) (take_more receivers place 0 inside)
    ∙ ap (filter has_cells) (map-append between (take place receivers) (get_or receivers place 0 ∷ []))
    ∙ filter-append has_cells (map between (take place receivers)) (map between (get_or receivers place 0 ∷ []))

-- the legs of one sender more
pub route-more : (legs : ℕ → List Leg) (first from : ℕ) → first ≤ from → flat_map legs (range_with_len first (from + 1 - first)) ≡ flat_map legs (range_with_len first (from - first)) ++ legs from
route-more legs first from started =
    let more : from + 1 - first ≡ suc (from - first) = omega arith in
    let at : first + (from - first) ≡ from = omega arith in
    ap (λ k. flat_map legs (range_with_len first k)) more
    ∙ ap (flat_map legs) (range-suc first (from - first))
    ∙ flat_map-append legs (range_with_len first (from - first)) ((first + (from - first)) ∷ [])
    ∙ ap (λ xs. flat_map legs (range_with_len first (from - first)) ++ xs) (append-nil (legs (first + (from - first))) ∙ ap legs at)

-- no sender yet
pub route-none : (legs : ℕ → List Leg) (first : ℕ) → flat_map legs (range_with_len first (first - first)) ≡ []
route-none legs first =
    let none : first - first ≡ 0 = omega arith in
    ap (λ k. flat_map legs (range_with_len first k)) none

-- all senders
pub route-all : (src : Layout) (is_needed : ℕ → ℕ → Bool) (receivers : List ℕ) (from : ℕ) → from ≡ src.first_pet + pets_in src → flat_map (legs_from src is_needed receivers) (range_with_len src.first_pet (from - src.first_pet)) ≡ route_of src is_needed receivers
unfolding route_of
route-all src is_needed receivers from is =
    let all : from - src.first_pet ≡ pets_in src = omega arith in
    ap (λ k. flat_map (legs_from src is_needed receivers) (range_with_len src.first_pet k)) all

-- how many cells a leg has, where only legs with cells count
pub sent-one : (leg : Leg) → cells_sent (filter has_cells (leg ∷ [])) ≡ length leg.cells
sent-one leg = elim (cases_lt 0 (length leg.cells)) [
  | inl some ↦ rw (lt-ltb 0 (length leg.cells) some) (omega arith)
  | inr none ↦ rw (le-ltb 0 (length leg.cells) none) (omega arith)
]

-- the cells of legs together
pub sent-append : (legs more : List Leg) → cells_sent (legs ++ more) ≡ cells_sent legs + cells_sent more
sent-append legs more = sum_by-append (λ leg. length leg.cells) legs more

-- a table's list has the cells that are sent
pub sent-table : (spans : List Span) (cells : List ℕ) → IsTable spans cells → cells_sent (legs_at spans cells) ≡ length cells
sent-table spans cells table =
    sym (length-flat_map (λ (leg : Leg). leg.cells) (legs_at spans cells)) ∙ ap length table.whole

-- one receiver more is counted
pub receivers-more : (src : Layout) (is_needed : ℕ → ℕ → Bool) (receivers : List ℕ) (from place total count : ℕ) → HasReceivers src is_needed receivers from place total → place < length receivers → count ≡ length (shared_cells src is_needed from (get_or receivers place 0)) → count ≤ 2 ^ 20 → HasReceivers src is_needed receivers from (place + 1) (total + count)
receivers-more src is_needed receivers from place total count so_far inside is few =
    let to = get_or receivers place 0 in
    let before = legs_from src is_needed (take place receivers) from in
    let value = so_far.value in
    let bound = so_far.few in
    record {
      value =
          ap (λ n. n + count) value
          ∙ ap (λ n. cells_sent before + n) (is ∙ sym (sent-one (leg_between src is_needed from to)))
          ∙ sym (sent-append before (legs_from src is_needed (to ∷ []) from))
          ∙ ap cells_sent (sym (legs_from-more src is_needed receivers from place inside));
      few = omega arith;
    }

-- one sender more is counted
pub senders-more : (src : Layout) (is_needed : ℕ → ℕ → Bool) (receivers : List ℕ) (from total count : ℕ) → HasSenders src is_needed receivers from total → src.first_pet ≤ from → count ≡ cells_sent (legs_from src is_needed receivers from) → count ≤ 2 ^ 28 → HasSenders src is_needed receivers (from + 1) (total + count)
senders-more src is_needed receivers from total count so_far started is few =
    let legs = legs_from src is_needed receivers in
    let before = flat_map legs (range_with_len src.first_pet (from - src.first_pet)) in
    let bound = so_far.few in
    let more : from + 1 - src.first_pet ≡ suc (from - src.first_pet) = omega arith in
    let grows : suc (from - src.first_pet) * 268435456 ≡ 268435456 + (from - src.first_pet) * 268435456 = omega arith in
    record {
      value =
          ap (λ n. n + count) so_far.value
          ∙ ap (λ n. cells_sent before + n) is
          ∙ sym (sent-append before (legs from))
          ∙ ap cells_sent (sym (route-more legs src.first_pet from started));
      few = rw more (omega arith);
    }

-- the legs of a table that began empty
pub legs-all : (legs : List Leg) (spans : List Span) (cells : List ℕ) → HasLegs [] [] legs spans cells → legs_at spans cells ≡ legs
unfolding legs_at
legs-all legs spans cells has = has.added
