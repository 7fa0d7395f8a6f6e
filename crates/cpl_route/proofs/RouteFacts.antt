-- Routes: their pairs ascend, and a pair is found by halving.
use Rattle.std.proofs.Common.{◌≡◌, ℕ, zero, suc, ◌+◌, ◌*◌, ◌<◌, ◌≤◌, ◌&&◌, Bool, true, false, eqb, ltb, List, [], ◌∷◌, ◌++◌, length, get_or, map, filter, Ok, Some, refl, sym, ap, subst, ◌∙◌, inl, inr, arith, eqb-true}
use Rattle.std.specs.Prelude.{slice_get, slice_range}
use Rattle.std.specs.List.{All, flat_map, range_with_len}
use Rattle.std.proofs.lemmas.Bool.{and_parts, cases_Bool, cases_lt, cases_order, eq-eqb, lt-ltb, le-ltb}
use Rattle.std.proofs.lemmas.List.{get_or_default, map-append}
use borrow.Author.Tests.{ltb-false, ltb-true}
use Rattle.std.proofs.lemmas.List.Elements.{All-append, All-cons, All-head, All-nil, All-tail}
use Rattle.std.proofs.lemmas.List.Sorted.{IsNonDecreasingBy-from_default, IsPartitionedBy-ltb}
use Rattle.std.proofs.lemmas.Option.{none-some}
use Rattle.std.specs.List.Sorted.{IsNonDecreasingBy, IsPartitionPoint, IsPartitionedBy}
use Rattle.cpl_grid.proofs.RangeFacts.{All-range}
use Rattle.cpl_grid.specs.Grid.{cells_in}
use Rattle.cpl_grid.specs.Owners.{IsLayout, Layout, pets_in}
use Rattle.cpl_route.specs.Routes.{AreLegs, IsRising, Leg, cells_between, ends_of, has_cells, is_before, is_between, leg_between, legs_from, pets_of, redist_answer, redist_route, route_of}
use Rattle.cpl_route.specs.Tables.{AreRankedLegs, IsSpan, leg_at, leg_rank, legs_at, pairs_of, rank_of, span_rank}
use Rattle.cpl_route.specs.declared.table.Span.{Span}

-- numbers that rise from one on, rise from a lower one on
rising-lower : (low free : ℕ) (xs : List ℕ) → low ≤ free → IsRising free xs → IsRising low xs
rising-lower low free [] below rising = tt
rising-lower low free (x ∷ xs) below rising = let first = rising.0 in (omega arith, rising.1)

-- numbers that rise, and others that rise from a bound on
rising-append : (free bound : ℕ) (xs ys : List ℕ) → free ≤ bound → IsRising free xs → All (λ x. x < bound) xs → IsRising bound ys → IsRising free (xs ++ ys)
rising-append free bound [] ys below rising small more = rising-lower free bound ys below more
rising-append free bound (x ∷ xs) ys below rising small more =
    let head = All-head (λ x. x < bound) x xs small in
    (rising.0, rising-append (x + 1) bound xs ys (omega arith) rising.1 (All-tail (λ x. x < bound) x xs small) more)

-- numbers that follow one another rise
pub rising-range : (a n : ℕ) → IsRising a (range_with_len a n)
rising-range a zero = tt
rising-range a (suc n) = (omega arith, rising-range (a + 1) n)

-- what a filter keeps of numbers that rise, rises
pub rising-filter : (p : ℕ → Bool) (free : ℕ) (xs : List ℕ) → IsRising free xs → IsRising free (filter p xs)
rising-filter p free [] rising = tt
rising-filter p free (x ∷ xs) rising =
    let first = rising.0 in
    let rest = rising-filter p (x + 1) xs rising.1 in
    elim (cases_Bool (p x)) [
      | inl passes ↦ rw passes (first, rest)
      | inr fails ↦ rw fails (rising-lower free (x + 1) (filter p xs) (omega arith) rest)
    ]

-- the legs of one sender are ranked
sender-rising : (src : Layout) (is_needed : ℕ → ℕ → Bool) (receivers : List ℕ) (from free base : ℕ) → base ≡ from * 256 → IsRising free receivers → IsRising (base + free) (map leg_rank (legs_from src is_needed receivers from))
sender-rising src is_needed [] from free base is_base rising = tt
sender-rising src is_needed (to ∷ receivers) from free base is_base rising =
    let first = rising.0 in
    let rest = sender-rising src is_needed receivers from (to + 1) base is_base rising.1 in
    let here : rank_of from to ≡ base + to = omega arith in
    let next : base + (to + 1) ≡ rank_of from to + 1 = omega arith in
    let further : IsRising (rank_of from to + 1) (map leg_rank (legs_from src is_needed receivers from)) = subst (λ k. IsRising k (map leg_rank (legs_from src is_needed receivers from))) next rest in
    elim (cases_Bool (has_cells (leg_between src is_needed from to))) [
      | inl some ↦ rw some (omega arith, further)
      | inr none ↦ rw none (rising-lower (base + free) (base + (to + 1)) (map leg_rank (legs_from src is_needed receivers from)) (omega arith) rest)
    ]

-- what holds of each leg that one sender may send, holds of those that it sends
legs_from-all : (P : Leg → Type 0) (src : Layout) (is_needed : ℕ → ℕ → Bool) (receivers : List ℕ) (from : ℕ) → ((to : ℕ) → to < 256 → has_cells (leg_between src is_needed from to) ≡ true → P (leg_between src is_needed from to)) → All (λ to. to < 256) receivers → All P (legs_from src is_needed receivers from)
legs_from-all P src is_needed [] from each bytes = All-nil P
legs_from-all P src is_needed (to ∷ receivers) from each bytes =
    let rest = legs_from-all P src is_needed receivers from each (All-tail (λ to. to < 256) to receivers bytes) in
    let byte = All-head (λ to. to < 256) to receivers bytes in
    elim (cases_Bool (has_cells (leg_between src is_needed from to))) [
      | inl some ↦ rw some (All-cons P (leg_between src is_needed from to) (legs_from src is_needed receivers from) (each to byte some) rest)
      | inr none ↦ rw none rest
    ]

-- a fact on the ranks of legs
ranks-all : (P : ℕ → Type 0) (legs : List Leg) → All (λ leg. P (leg_rank leg)) legs → All P (map leg_rank legs)
ranks-all P [] all = All-nil P
ranks-all P (leg ∷ legs) all =
    All-cons P (leg_rank leg) (map leg_rank legs) (All-head (λ leg. P (leg_rank leg)) leg legs all) (ranks-all P legs (All-tail (λ leg. P (leg_rank leg)) leg legs all))

-- the legs of senders that follow one another are ranked
senders-rising : (src : Layout) (is_needed : ℕ → ℕ → Bool) (receivers : List ℕ) (a n base : ℕ) → base ≡ a * 256 → IsRising 0 receivers → All (λ to. to < 256) receivers → IsRising base (map leg_rank (flat_map (legs_from src is_needed receivers) (range_with_len a n)))
senders-rising src is_needed receivers a zero base is_base rising bytes = tt
senders-rising src is_needed receivers a (suc n) base is_base rising bytes =
    let rest = senders-rising src is_needed receivers (a + 1) n (base + 256) (omega arith) rising bytes in
    let legs = legs_from src is_needed receivers in
    let here : base + 0 ≡ base = omega arith in
    let first : IsRising base (map leg_rank (legs a)) = subst (λ k. IsRising k (map leg_rank (legs a))) here (sender-rising src is_needed receivers a 0 base is_base rising) in
    let small = ranks-all (λ x. x < base + 256) (legs a) (legs_from-all (λ leg. leg_rank leg < base + 256) src is_needed receivers a (λ to byte some. omega arith) bytes) in
    rw (map-append leg_rank (legs a) (flat_map legs (range_with_len (a + 1) n)))
    (rising-append base (base + 256) (map leg_rank (legs a)) (map leg_rank (flat_map legs (range_with_len (a + 1) n))) (omega arith) first small rest)

-- what holds of each leg that senders may send, holds of those that they send
senders-all : (P : Leg → Type 0) (src : Layout) (is_needed : ℕ → ℕ → Bool) (receivers : List ℕ) (a n : ℕ) → ((from to : ℕ) → to < 256 → has_cells (leg_between src is_needed from to) ≡ true → P (leg_between src is_needed from to)) → All (λ to. to < 256) receivers → All P (flat_map (legs_from src is_needed receivers) (range_with_len a n))
senders-all P src is_needed receivers a zero each bytes = All-nil P
senders-all P src is_needed receivers a (suc n) each bytes =
    All-append P (legs_from src is_needed receivers a) (flat_map (legs_from src is_needed receivers) (range_with_len (a + 1) n))
    (legs_from-all P src is_needed receivers a (each a) bytes) (senders-all P src is_needed receivers (a + 1) n each bytes)

-- a leg with cells has some
some-cells : (leg : Leg) → has_cells leg ≡ true → 0 < length leg.cells
some-cells leg has = elim (cases_lt 0 (length leg.cells)) [
  | inl some ↦ some
  | inr none ↦ absurd (let fails = le-ltb 0 (length leg.cells) none in cc)
]

-- the legs of a route are ranked
pub route-ranked : (src : Layout) (is_needed : ℕ → ℕ → Bool) (receivers : List ℕ) → IsRising 0 receivers → All (λ to. to < 256) receivers → AreRankedLegs (route_of src is_needed receivers)
unfolding route_of
route-ranked src is_needed receivers rising bytes =
    let first = src.first_pet in
    record {
      rising = rising-lower 0 (first * 256) (map leg_rank (flat_map (legs_from src is_needed receivers) (pets_of src))) (omega arith)
          (senders-rising src is_needed receivers first (pets_in src) (first * 256) refl rising bytes);
      bytes = senders-all (λ leg. leg.to < 256) src is_needed receivers first (pets_in src) (λ from to byte some. byte) bytes;
      some = senders-all (λ leg. 0 < length leg.cells) src is_needed receivers first (pets_in src) (λ from to byte has. some-cells (leg_between src is_needed from to) has) bytes;
    }

-- a number behind another is greater
rising-at : (free : ℕ) (xs : List ℕ) (j x : ℕ) → IsRising free xs → slice_get xs j ≡ Some x → free ≤ x
rising-at free [] j x rising is = absurd (none-some x is)
rising-at free (y ∷ xs) zero x rising is = let first = rising.0 in let same : y ≡ x = cc in omega arith
rising-at free (y ∷ xs) (suc j) x rising is =
    let rest = rising-at (y + 1) xs j x rising.1 is in let first = rising.0 in omega arith

-- the rank of a pair, by its place
ends-rank : (free : ℕ) (legs : List Leg) (j : ℕ) (b : ℕ × ℕ) → IsRising free (map leg_rank legs) → All (λ leg. leg.to < 256) legs → slice_get (ends_of legs) j ≡ Some b → (free ≤ rank_of b.0 b.1) × (b.1 < 256)
ends-rank free [] j b rising bytes is = absurd (none-some b is)
ends-rank free (leg ∷ legs) zero b rising bytes is =
    let first = rising.0 in
    let byte = All-head (λ leg. leg.to < 256) leg legs bytes in
    let same : (leg.from, leg.to) ≡ b = cc in
    let from : leg.from ≡ b.0 = ap (λ p. p.0) same in
    let to : leg.to ≡ b.1 = ap (λ p. p.1) same in
    (omega arith, omega arith)
ends-rank free (leg ∷ legs) (suc j) b rising bytes is =
    let rest = ends-rank (leg_rank leg + 1) legs j b rising.1 (All-tail (λ leg. leg.to < 256) leg legs bytes) is in
    let first = rising.0 in
    let above = rest.0 in
    (omega arith, rest.1)

-- legs whose ranks rise have pairs that ascend
legs-before : (free : ℕ) (legs : List Leg) (i j : ℕ) (a b : ℕ × ℕ) → IsRising free (map leg_rank legs) → All (λ leg. leg.to < 256) legs → i < j → slice_get (ends_of legs) i ≡ Some a → slice_get (ends_of legs) j ≡ Some b → (rank_of a.0 a.1 < rank_of b.0 b.1) × (a.1 < 256) × (b.1 < 256)
legs-before free [] i j a b rising bytes before at_i at_j = absurd (none-some a at_i)
legs-before free (leg ∷ legs) i zero a b rising bytes before at_i at_j = absurd (omega arith)
legs-before free (leg ∷ legs) zero (suc j) a b rising bytes before at_i at_j =
    let behind = ends-rank (leg_rank leg + 1) legs j b rising.1 (All-tail (λ leg. leg.to < 256) leg legs bytes) at_j in
    let byte = All-head (λ leg. leg.to < 256) leg legs bytes in
    let same : (leg.from, leg.to) ≡ a = cc in
    let from : leg.from ≡ a.0 = ap (λ p. p.0) same in
    let to : leg.to ≡ a.1 = ap (λ p. p.1) same in
    let above = behind.0 in
    let below = behind.1 in
    (omega arith, omega arith, below)
legs-before free (leg ∷ legs) (suc i) (suc j) a b rising bytes before at_i at_j =
    legs-before (leg_rank leg + 1) legs i j a b rising.1 (All-tail (λ leg. leg.to < 256) leg legs bytes) (omega arith) at_i at_j

-- a pair of lower rank comes before
before-from_rank : (a b : ℕ × ℕ) → rank_of a.0 a.1 < rank_of b.0 b.1 → a.1 < 256 → b.1 < 256 → is_before a b ≡ true
before-from_rank a b lower byte_a byte_b = elim (cases_order a.0 b.0) [
  | inl same ↦
      let second : a.1 < b.1 = omega arith in
      let not_less : b.0 ≤ a.0 = omega arith in
      rw (le-ltb a.0 b.0 not_less, eq-eqb a.0 b.0 same, lt-ltb a.1 b.1 second) refl
  | inr other ↦ elim other [
    | inl less ↦ rw (lt-ltb a.0 b.0 less) refl
    | inr greater ↦ absurd (omega arith)
  ]
]

-- ranked legs are legs of a route
pub legs-ranked : (legs : List Leg) → AreRankedLegs legs → AreLegs legs
legs-ranked legs ranked = record {
  ascending = λ i j a b before at_i at_j.
      let order = legs-before 0 legs i j a b ranked.rising ranked.bytes before at_i at_j in
      before-from_rank a b order.0 order.1 order.2;
  some = ranked.some;
}

-- the pairs of a table are those of its legs
pub pairs-ends : (spans : List Span) (cells : List ℕ) → pairs_of spans ≡ ends_of (legs_at spans cells)
unfolding legs_at
pairs-ends [] cells = refl
pairs-ends (span ∷ spans) cells = ap (λ pairs. (span.from, span.to) ∷ pairs) (pairs-ends spans cells)

-- and so are its ranks
pub ranks-spans : (spans : List Span) (cells : List ℕ) → map span_rank spans ≡ map leg_rank (legs_at spans cells)
unfolding legs_at
ranks-spans [] cells = refl
ranks-spans (span ∷ spans) cells = ap (λ ranks. span_rank span ∷ ranks) (ranks-spans spans cells)

-- equal PETs have equal ranks
rank-same : (from to from' to' : ℕ) → eqb from from' ≡ true → eqb to to' ≡ true → rank_of from to ≡ rank_of from' to'
rank-same from to from' to' same same' =
    (λ i. rank_of (eqb-true from from' same i) (eqb-true to to' same' i))

-- a span of another rank is another pair's
other-pair : (span : Span) (cells : List ℕ) (from to : ℕ) → (span_rank span ≡ rank_of from to → ⊥) → is_between from to (leg_at cells span) ≡ false
other-pair span cells from to other = elim (cases_Bool (eqb span.from from)) [
  | inl same ↦ elim (cases_Bool (eqb span.to to)) [
    | inl same' ↦ absurd (other (rank-same span.from span.to from to same same'))
    | inr differs ↦ rw (same, differs) refl
  ]
  | inr differs ↦ rw differs refl
]

-- no span has the rank of a pair
between-none : (spans : List Span) (cells : List ℕ) (from to : ℕ) → All (λ span. span_rank span ≡ rank_of from to → ⊥) spans → cells_between (legs_at spans cells) from to ≡ []
unfolding cells_between legs_at
between-none [] cells from to none = refl
between-none (span ∷ spans) cells from to none =
    let head = All-head (λ span. span_rank span ≡ rank_of from to → ⊥) span spans none in
    let rest = between-none spans cells from to (All-tail (λ span. span_rank span ≡ rank_of from to → ⊥) span spans none) in
    rw (other-pair span cells from to head) rest

-- spans whose ranks rise from above one's rank have other ranks
above-none : (free from to : ℕ) (spans : List Span) → rank_of from to < free → IsRising free (map span_rank spans) → All (λ span. span_rank span ≡ rank_of from to → ⊥) spans
above-none free from to [] above rising = All-nil (λ span. span_rank span ≡ rank_of from to → ⊥)
above-none free from to (span ∷ spans) above rising =
    let first = rising.0 in
    All-cons (λ span. span_rank span ≡ rank_of from to → ⊥) span spans (λ same. omega arith) (above-none (span_rank span + 1) from to spans (omega arith) rising.1)

-- where a pair's cells stand: at the place before which the ranks are lower
pub between-at : (free : ℕ) (spans : List Span) (cells : List ℕ) (from to place : ℕ) (span : Span) → IsRising free (map span_rank spans) → ((k : ℕ) (other : Span) → k < place → span_rank (get_or spans k other) < rank_of from to) → place < length spans → span ≡ get_or spans place span → span.from ≡ from → span.to ≡ to → slice_range cells span.start span.end ≡ cells_between (legs_at spans cells) from to
unfolding cells_between legs_at
between-at free [] cells from to place span rising lower inside is same_from same_to = absurd (omega arith)
between-at free (first ∷ spans) cells from to zero span rising lower inside is same_from same_to =
    let here : first.from ≡ from = ap (λ s. s.from) (sym is) ∙ same_from in
    let there : first.to ≡ to = ap (λ s. s.to) (sym is) ∙ same_to in
    rw (eq-eqb first.from from here, eq-eqb first.to to there) (ap (λ s. slice_range cells s.start s.end) is)
between-at free (first ∷ spans) cells from to (suc place) span rising lower inside is same_from same_to =
    let less = lower 0 span (omega arith) in
    let rest = between-at (span_rank first + 1) spans cells from to place span rising.1 (λ k other below. lower (suc k) other (omega arith)) (omega arith) is same_from same_to in
    rw (other-pair first cells from to (λ same. omega arith)) rest

-- where a pair has no span: the ranks are lower before a place, and from there on not its rank
pub between-nowhere : (free : ℕ) (spans : List Span) (cells : List ℕ) (from to place : ℕ) → IsRising free (map span_rank spans) → ((k : ℕ) (other : Span) → k < place → k < length spans → span_rank (get_or spans k other) < rank_of from to) → ((other : Span) → place < length spans → rank_of from to < span_rank (get_or spans place other)) → cells_between (legs_at spans cells) from to ≡ []
unfolding cells_between legs_at
between-nowhere free [] cells from to place rising lower above = refl
between-nowhere free (first ∷ spans) cells from to zero rising lower above =
    let more = above first (omega arith) in
    between-none (first ∷ spans) cells from to (All-cons (λ span. span_rank span ≡ rank_of from to → ⊥) first spans (λ same. omega arith) (above-none (span_rank first + 1) from to spans (omega arith) rising.1))
between-nowhere free (first ∷ spans) cells from to (suc place) rising lower above =
    let less = lower 0 first (omega arith) (omega arith) in
    rw (other-pair first cells from to (λ same. omega arith))
    (between-nowhere (span_rank first + 1) spans cells from to place rising.1 (λ k other below inside. lower (suc k) other (omega arith) (omega arith)) (λ other inside. above other (omega arith)))

-- a span's rank is at least the one from which the ranks rise
rising-get : (free : ℕ) (spans : List Span) (j : ℕ) (other : Span) → IsRising free (map span_rank spans) → j < length spans → free ≤ span_rank (get_or spans j other)
rising-get free [] j other rising inside = absurd (omega arith)
rising-get free (span ∷ spans) zero other rising inside = rising.0
rising-get free (span ∷ spans) (suc j) other rising inside =
    let rest = rising-get (span_rank span + 1) spans j other rising.1 (omega arith) in let first = rising.0 in omega arith

-- spans whose ranks rise are in the order of their ranks
rising-order : (free : ℕ) (spans : List Span) (i j : ℕ) (other : Span) → IsRising free (map span_rank spans) → i ≤ j → j < length spans → span_rank (get_or spans i other) ≤ span_rank (get_or spans j other)
rising-order free [] i j other rising below inside = absurd (omega arith)
rising-order free (span ∷ spans) zero zero other rising below inside = omega arith
rising-order free (span ∷ spans) zero (suc j) other rising below inside =
    let behind = rising-get (span_rank span + 1) spans j other rising.1 (omega arith) in omega arith
rising-order free (span ∷ spans) (suc i) zero other rising below inside = absurd (omega arith)
rising-order free (span ∷ spans) (suc i) (suc j) other rising below inside =
    rising-order (span_rank span + 1) spans i j other rising.1 (omega arith) (omega arith)

-- the same, as halving asks for it
pub spans-order : (spans : List Span) (other : Span) → IsRising 0 (map span_rank spans) → IsNonDecreasingBy span_rank spans
spans-order spans other rising =
    IsNonDecreasingBy-from_default span_rank spans other (λ i j below inside. rising-order 0 spans i j other rising below inside)

-- the PETs that own cells rise
pub pets-rising : (layout : Layout) → IsRising 0 (pets_of layout)
pets-rising layout =
    rising-lower 0 layout.first_pet (pets_of layout) (omega arith) (rising-range layout.first_pet (pets_in layout))

-- and are bytes
pub pets-bytes : (layout : Layout) → IsLayout layout → All (λ to. to < 256) (pets_of layout)
pets-bytes layout is =
    let pets = is.pets in
    All-range (λ to. to < 256) layout.first_pet (pets_in layout) (λ to from end. omega arith)

-- the rank before which halving divides
pub ranks-parted : (spans : List Span) (rank : ℕ) → IsRising 0 (map span_rank spans) → IsPartitionedBy (λ span. ltb (span_rank span) rank) spans
ranks-parted spans rank rising =
    IsPartitionedBy-ltb span_rank spans rank (spans-order spans (record { from = 0; to = 0; start = 0; end = 0 }) rising)

-- before the place that halving finds, ranks are lower
point-lower : (spans : List Span) (rank place : ℕ) → IsPartitionPoint (λ span. ltb (span_rank span) rank ≡ true) (λ span. ltb (span_rank span) rank ≡ false) spans place → (k : ℕ) (other : Span) → k < place → span_rank (get_or spans k other) < rank
point-lower spans rank place point k other below = ltb-true (span_rank (get_or spans k other)) rank (point.0 k other (omega arith) below)

-- a pair has the span that halving finds
pub found-at : (spans : List Span) (from to rank place : ℕ) (span : Span) → IsRising 0 (map span_rank spans) → rank ≡ rank_of from to → IsPartitionPoint (λ s. ltb (span_rank s) rank ≡ true) (λ s. ltb (span_rank s) rank ≡ false) spans place → place < length spans → span ≡ get_or spans place span → (eqb span.from from && eqb span.to to) ≡ true → (cells : List ℕ) → slice_range cells span.start span.end ≡ cells_between (legs_at spans cells) from to
found-at spans from to rank place span rising is_rank point inside is same cells =
    let parts = and_parts (eqb span.from from) (eqb span.to to) same in
    between-at 0 spans cells from to place span rising (λ k other below. let lower = point-lower spans rank place point k other below in omega arith) inside is
    (eqb-true span.from from parts.0) (eqb-true span.to to parts.1)

-- equal ranks are of equal PETs
ranks-equal : (from to from' to' : ℕ) → to < 256 → to' < 256 → rank_of from to ≡ rank_of from' to' → (from ≡ from') × (to ≡ to')
ranks-equal from to from' to' byte byte' same =
    let froms : from ≡ from' = omega arith in
    (froms, omega arith)

-- a pair has no span where the one that halving finds is another's
pub not_found-at : (spans : List Span) (size from to rank place : ℕ) (span : Span) → All (IsSpan size) spans → to < 256 → IsRising 0 (map span_rank spans) → rank ≡ rank_of from to → IsPartitionPoint (λ s. ltb (span_rank s) rank ≡ true) (λ s. ltb (span_rank s) rank ≡ false) spans place → place < length spans → span ≡ get_or spans place span → (eqb span.from from && eqb span.to to) ≡ false → (cells : List ℕ) → [] ≡ cells_between (legs_at spans cells) from to
not_found-at spans size from to rank place span spans_in byte rising is_rank point inside is differ cells =
    sym (between-nowhere 0 spans cells from to place rising
    (λ k other below within. let lower = point-lower spans rank place point k other below in omega arith)
    (λ other within.
    let at_least = ltb-false (span_rank (get_or spans place other)) rank (point.1 place other (omega arith) within) in
    let same_span : get_or spans place other ≡ span = get_or_default spans place other span within ∙ sym is in
    let span_in : IsSpan size (get_or spans place other) = spans_in place other within in
    let its_byte = span_in.to in
    elim (cases_order (span_rank (get_or spans place other)) (rank_of from to)) [
      | inl equal ↦
          let parts = ranks-equal (get_or spans place other).from (get_or spans place other).to from to its_byte byte equal in
          let same_from : eqb span.from from ≡ true = eq-eqb span.from from (ap (λ s. s.from) (sym same_span) ∙ parts.0) in
          let same_to : eqb span.to to ≡ true = eq-eqb span.to to (ap (λ s. s.to) (sym same_span) ∙ parts.1) in
          let both : (eqb span.from from && eqb span.to to) ≡ true = rw (same_from, same_to) refl in
          absurd (cc)
      | inr other_rank ↦ elim other_rank [ inl less ↦ absurd (omega arith) | inr greater ↦ greater ]
    ]))

-- a pair has no span where halving finds the end
pub not_found-end : (spans : List Span) (from to rank place : ℕ) → IsRising 0 (map span_rank spans) → rank ≡ rank_of from to → IsPartitionPoint (λ s. ltb (span_rank s) rank ≡ true) (λ s. ltb (span_rank s) rank ≡ false) spans place → length spans ≤ place → (cells : List ℕ) → [] ≡ cells_between (legs_at spans cells) from to
not_found-end spans from to rank place rising is_rank point end cells =
    sym (between-nowhere 0 spans cells from to place rising
    (λ k other below within. let lower = point-lower spans rank place point k other below in omega arith)
    (λ other within. absurd (omega arith)))

-- grids of equal numbers of cells have a redistribution
pub answer-ok : (src dst : Layout) → cells_in src.grid ≡ cells_in dst.grid → redist_answer src dst ≡ Ok (redist_route src dst)
answer-ok src dst same = rw (eq-eqb (cells_in src.grid) (cells_in dst.grid) same) refl
