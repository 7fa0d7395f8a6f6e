-- The places that lie at an offset from those of a block.
use Rattle.std.proofs.Common.{◌≡◌, ℕ, zero, suc, ◌+◌, ◌-◌, ◌*◌, ◌%◌, ◌<◌, ◌≤◌, ◌^◌, min, eqb, Bool, true, false, ℤ, pos, negsuc, ◌+ℤ◌, ◌-ℤ◌, List, [], ◌∷◌, length, get_or, take, refl, sym, ap, ◌∙◌, inl, inr, arith}
use Rattle.std.specs.List.{All, Any, list_any, range_with_len}
use Rattle.std.proofs.lemmas.Bool.{cases_eq, cases_lt, eq-eqb, eqb-true, false_from_ne_true, or_cases, or_left, or_right, true≢false}
use Rattle.std.proofs.lemmas.Bool.Decides.{nat_tests}
use Rattle.std.proofs.lemmas.Int.{clamps, int_rem_euclid_is, ints}
use Rattle.std.proofs.lemmas.List.Folds.{Any-from_list_any, list_any_at}
use Rattle.std.proofs.lemmas.List.Elements.{All-cons, All-more, All-nil, All-weaker}
use Rattle.std.proofs.lemmas.List.FromFn.{get_or-range_with_len, length-range_with_len}
use Rattle.std.proofs.lemmas.Nat.{mod-mul-add, mod_below}
use Rattle.std.proofs.Math.ListN.{get_or-eq_default}
use Rattle.std.proofs.Math.Nat.{mod-add-mod}
use Rattle.cpl_grid.specs.Grid.{IsOffset, column_at, nearest_number, ring_number, row_at}
use Rattle.cpl_grid.specs.declared.blocks.Block.{Block}
use Rattle.cpl_grid.specs.declared.grid.Grid.{Grid}
use Rattle.cpl_route.specs.Places.{is_held}
use Rattle.cpl_route.specs.Reach.{AreReaches, AreSteady, IsImage, IsReachIn, IsSteady, IsWithin, edge_place, is_reached, is_used_across, is_used_down, nowhere, reach_for, reaches_place, ring_place, steps_from_least}
use Rattle.cpl_route.specs.declared.reach.Reach.{Reach}
use Rattle.cpl_route.specs.declared.reach.Reaches.{Reaches}

-- two tests are one where each passes with the other
pub same_test : (x y : Bool) → (x ≡ true → y ≡ true) → (y ≡ true → x ≡ true) → x ≡ y
same_test true true there back = refl
same_test true false there back = sym (there refl)
same_test false true there back = back refl
same_test false false there back = refl

-- a block holds a place between its ends
pub held-from : (block : Block) (i : ℕ) → block.start ≤ i → i < block.start + block.length → is_held block i ≡ true
held-from block i from to = grind (arith, nat_tests)

-- what a block holds is between its ends
pub held-to : (block : Block) (i : ℕ) → is_held block i ≡ true → (block.start ≤ i) × (i < block.start + block.length)
held-to block i held = (grind (arith, nat_tests), grind (arith, nat_tests))

-- a place comes from one of a block
pub reaches-from : (number_at : ℤ → ℕ) (block : Block) (offset : ℤ) (place a : ℕ) → block.start ≤ a → a < block.start + block.length → number_at (pos (a + 1) +ℤ offset) ≡ place + 1 → reaches_place number_at block offset place ≡ true
unfolding reaches_place
reaches-from number_at block offset place a from to is =
    let test : ℕ → Bool = λ a. eqb (number_at (pos (a + 1) +ℤ offset)) (place + 1) in
    let inside : a - block.start < block.length = omega arith in
    let within : a - block.start < length (range_with_len block.start block.length) = rw length-range_with_len inside in
    let at : get_or (range_with_len block.start block.length) (a - block.start) 0 ≡ a = get_or-range_with_len block.start block.length (a - block.start) 0 inside ∙ omega arith in
    list_any_at test (range_with_len block.start block.length) (a - block.start) 0 within
    (ap test at ∙ eq-eqb (number_at (pos (a + 1) +ℤ offset)) (place + 1) is)

-- the place of a block that it comes from
pub reaches-to : (number_at : ℤ → ℕ) (block : Block) (offset : ℤ) (place : ℕ) → reaches_place number_at block offset place ≡ true → (a : ℕ) × (block.start ≤ a) × (a < block.start + block.length) × (number_at (pos (a + 1) +ℤ offset) ≡ place + 1)
unfolding reaches_place
reaches-to number_at block offset place reaches =
    let test : ℕ → Bool = λ a. eqb (number_at (pos (a + 1) +ℤ offset)) (place + 1) in
    let some : Any (λ a. test a ≡ true) (range_with_len block.start block.length) = Any-from_list_any test (range_with_len block.start block.length) reaches in
    let inside : some.0 < block.length = omega (arith, some.2, length-range_with_len block.start block.length) in
    let at : some.1 ≡ block.start + some.0 = sym some.3 ∙ get_or-range_with_len block.start block.length some.0 some.1 inside in
    (some.1, omega arith, omega arith, eqb-true (number_at (pos (some.1 + 1) +ℤ offset)) (place + 1) some.4)

-- a reach has just the places at an offset, where it has the places that those of the block come to
pub image-reaches : (number_at : ℤ → ℕ) (place_at : ℕ → ℕ) (block : Block) (offset : ℤ) (reach : Reach) → ((a : ℕ) → number_at (pos (a + 1) +ℤ offset) ≡ place_at a + 1) → IsImage place_at block reach → (i : ℕ) → is_reached reach i ≡ reaches_place number_at block offset i
image-reaches number_at place_at block offset reach each image i =
    same_test (is_reached reach i) (reaches_place number_at block offset i)
    (λ reached.
    let from = image.only i reached in
    reaches-from number_at block offset i from.0 from.1 from.2 (each from.0 ∙ ap (λ k. k + 1) from.3))
    (λ reaches.
    let from = reaches-to number_at block offset i reaches in
    let same : place_at from.0 ≡ i = omega (arith, each from.0, from.3) in
    ap (is_reached reach) (sym same) ∙ image.has from.0 from.1 from.2)

-- the nearest of the numbers from 1 on, by places from 0
pub nearest_number-place : (n a : ℕ) (offset : ℤ) → 1 ≤ n → IsOffset offset → nearest_number n (pos (a + 1) +ℤ offset) ≡ edge_place n (steps_from_least offset) a + 1
unfolding nearest_number
nearest_number-place n a offset some within = omega (arith, ints, clamps)

-- the number on a ring, by places from 0
pub ring_number-place : (n a : ℕ) (offset : ℤ) → 1 ≤ n → IsOffset offset → ring_number n (pos (a + 1) +ℤ offset) ≡ ring_place n (steps_from_least offset) a + 1
unfolding ring_number
ring_number-place n a offset some within =
    let turned : pos (a + 1) +ℤ offset -ℤ pos 1 +ℤ pos (2 * n) ≡ pos (a + steps_from_least offset + 2 * n - 2) = omega (arith, ints) in
    let rest = int_rem_euclid_is (pos (a + 1) +ℤ offset -ℤ pos 1) (pos n) n 2 (a + steps_from_least offset + 2 * n - 2) some refl turned in
    rw rest (omega arith)

-- the columns on a ring
pub column_at-ring_place : (grid : Grid) (offset : ℤ) (a : ℕ) → grid.periodic ≡ true → 1 ≤ grid.nx → IsOffset offset → column_at grid (pos (a + 1) +ℤ offset) ≡ ring_place grid.nx (steps_from_least offset) a + 1
unfolding column_at
column_at-ring_place grid offset a periodic some within = rw periodic (ring_number-place grid.nx a offset some within)

-- the columns between edges
pub column_at-edge_place : (grid : Grid) (offset : ℤ) (a : ℕ) → grid.periodic ≡ false → 1 ≤ grid.nx → IsOffset offset → column_at grid (pos (a + 1) +ℤ offset) ≡ edge_place grid.nx (steps_from_least offset) a + 1
unfolding column_at
column_at-edge_place grid offset a periodic some within = rw periodic (nearest_number-place grid.nx a offset some within)

-- the rows
pub row_at-edge_place : (grid : Grid) (offset : ℤ) (a : ℕ) → 1 ≤ grid.ny → IsOffset offset → row_at grid (pos (a + 1) +ℤ offset) ≡ edge_place grid.ny (steps_from_least offset) a + 1
unfolding row_at
row_at-edge_place grid offset a some within = nearest_number-place grid.ny a offset some within

-- between edges the places of a block come to one stretch
pub edge-image : (n steps start last : ℕ) (block : Block) → 1 ≤ n → (block.length ≡ 0 → ⊥) → start ≡ edge_place n steps block.start → last ≡ edge_place n steps (block.start + block.length - 1) → IsImage (edge_place n steps) block (record { first = record { start = start; length = last + 1 - start }; wrapped = record { start = 0; length = 0 } })
edge-image n steps start last block some full start_is last_is =
    let first : Block = record { start = start; length = last + 1 - start } in
    let none : Block = record { start = 0; length = 0 } in
    record {
      has = λ a from to. or_left (is_held first (edge_place n steps a)) (is_held none (edge_place n steps a)) (held-from first (edge_place n steps a) (omega arith) (omega arith));
      only = λ i reached. elim (or_cases (is_held first i) (is_held none i) reached) [
        | inl held ↦
            let ends = held-to first i held in
            elim (cases_eq i start) [
              | inl same ↦ (block.start, omega arith, omega arith, sym (same ∙ start_is))
              | inr other ↦ elim (cases_eq i last) [
                | inl same ↦ (block.start + block.length - 1, omega arith, omega arith, sym (same ∙ last_is))
                | inr inner ↦ (i + 2 - steps, omega arith, omega arith, omega arith)
              ]
            ]
        | inr held ↦ let ends = held-to none i held in absurd (omega arith)
      ];
    }

-- a block without places comes to none
pub edge-image_none : (n steps : ℕ) (block : Block) → block.length ≡ 0 → IsImage (edge_place n steps) block nowhere
edge-image_none n steps block empty = record {
  has = λ a from to. absurd (omega arith);
  only = λ i reached.
      let none : Block = record { start = 0; length = 0 } in
      elim (or_cases (is_held none i) (is_held none i) reached) [
        | inl held ↦ let ends = held-to none i held in absurd (omega arith)
        | inr held ↦ let ends = held-to none i held in absurd (omega arith)
      ];
}

-- so many places further on a ring, before its end
ring_place-ahead : (n steps s k : ℕ) → ring_place n steps s + k < n → 1 ≤ n → ring_place n steps (s + k) ≡ ring_place n steps s + k
ring_place-ahead n steps s k below some =
    let sum : s + k + steps + 2 * n - 2 ≡ s + steps + 2 * n - 2 + k = omega arith in
    let none : ring_place n steps s + k ≡ 0 * n + (ring_place n steps s + k) = omega arith in
    ap (λ m. m % n) sum ∙ sym (mod-add-mod (s + steps + 2 * n - 2) n k) ∙ ap (λ m. m % n) none ∙ mod-mul-add 0 n (ring_place n steps s + k) below

-- and past it
ring_place-wrapped : (n steps s k : ℕ) → n ≤ ring_place n steps s + k → k < n → 1 ≤ n → ring_place n steps (s + k) ≡ ring_place n steps s + k - n
ring_place-wrapped n steps s k above short some =
    let sum : s + k + steps + 2 * n - 2 ≡ s + steps + 2 * n - 2 + k = omega arith in
    let below = mod_below (s + steps + 2 * n - 2) n some in
    let once : ring_place n steps s + k ≡ 1 * n + (ring_place n steps s + k - n) = omega arith in
    let inside : ring_place n steps s + k - n < n = omega arith in
    ap (λ m. m % n) sum ∙ sym (mod-add-mod (s + steps + 2 * n - 2) n k) ∙ ap (λ m. m % n) once ∙ mod-mul-add 1 n (ring_place n steps s + k - n) inside

-- on a ring the places of a block come to a stretch, and to one from the first place on
pub ring-image : (n steps start kept : ℕ) (block : Block) → 1 ≤ n → block.length ≤ n → start ≡ ring_place n steps block.start → kept ≡ min block.length (n - start) → IsImage (ring_place n steps) block (record { first = record { start = start; length = kept }; wrapped = record { start = 0; length = block.length - kept } })
ring-image n steps start kept block some short start_is kept_is =
    let first : Block = record { start = start; length = kept } in
    let wrapped : Block = record { start = 0; length = block.length - kept } in
    let below = mod_below (block.start + steps + 2 * n - 2) n some in
    record {
      has = λ a from to.
          let k = a - block.start in
          let at : a ≡ block.start + k = omega arith in
          elim (cases_lt (start + k) n) [
            | inl before ↦
                let is : ring_place n steps a ≡ start + k = ap (ring_place n steps) at ∙ ring_place-ahead n steps block.start k (omega arith) some ∙ ap (λ t. t + k) (sym start_is) in
                or_left (is_held first (ring_place n steps a)) (is_held wrapped (ring_place n steps a)) (held-from first (ring_place n steps a) (omega arith) (omega arith))
            | inr past ↦
                let is : ring_place n steps a ≡ start + k - n = ap (ring_place n steps) at ∙ ring_place-wrapped n steps block.start k (omega arith) (omega arith) some ∙ ap (λ t. t + k - n) (sym start_is) in
                or_right (is_held first (ring_place n steps a)) (is_held wrapped (ring_place n steps a)) (held-from wrapped (ring_place n steps a) (omega arith) (omega arith))
          ];
      only = λ i reached. elim (or_cases (is_held first i) (is_held wrapped i) reached) [
        | inl held ↦
            let ends = held-to first i held in
            let k = i - start in
            (block.start + k, omega arith, omega arith, ring_place-ahead n steps block.start k (omega arith) some ∙ omega arith)
        | inr held ↦
            let ends = held-to wrapped i held in
            let k = i + n - start in
            (block.start + k, omega arith, omega arith, ring_place-wrapped n steps block.start k (omega arith) (omega arith) some ∙ omega arith)
      ];
    }

-- what holds at each offset from -2 to 2
each_offset : (P : ℤ → Type 0) → P (negsuc 1) → P (negsuc 0) → P (pos 0) → P (pos 1) → P (pos 2) → (offset : ℤ) → IsOffset offset → P offset
each_offset P far_back back here ahead far_ahead (negsuc zero) within = back
each_offset P far_back back here ahead far_ahead (negsuc (suc zero)) within = far_back
each_offset P far_back back here ahead far_ahead (negsuc (suc (suc n))) within = absurd (omega arith)
each_offset P far_back back here ahead far_ahead (pos zero) within = here
each_offset P far_back back here ahead far_ahead (pos (suc zero)) within = ahead
each_offset P far_back back here ahead far_ahead (pos (suc (suc zero))) within = far_ahead
each_offset P far_back back here ahead far_ahead (pos (suc (suc (suc n)))) within = absurd (omega arith)

-- a reach is that of an offset, where the offset is used
abbrev pub IsReachAt : (ℤ → ℕ) → (ℤ → Bool) → Block → ℤ → Reach → Type 0
IsReachAt number_at is_used block offset reach =
    is_used offset ≡ true → (i : ℕ) → is_reached reach i ≡ reaches_place number_at block offset i

-- the reaches at the five offsets
pub reaches-each : (number_at : ℤ → ℕ) (is_used : ℤ → Bool) (block : Block) (reaches : Reaches) (far_back back here ahead far_ahead : Reach) → reaches.each ≡ far_back ∷ back ∷ here ∷ ahead ∷ far_ahead ∷ [] → All (IsReachIn (2 ^ 20)) reaches.each → reaches.hull.start + reaches.hull.length ≤ 2 ^ 20 → All (IsWithin reaches.hull) reaches.each → IsReachAt number_at is_used block (negsuc 1) far_back → IsReachAt number_at is_used block (negsuc 0) back → IsReachAt number_at is_used block (pos 0) here → IsReachAt number_at is_used block (pos 1) ahead → IsReachAt number_at is_used block (pos 2) far_ahead → AreReaches number_at is_used block reaches
reaches-each number_at is_used block reaches far_back back here ahead far_ahead five small hull_small hull is_far_back is_back is_here is_ahead is_far_ahead =
    let P : ℤ → Type 0 = λ offset. IsReachAt number_at is_used block offset (reach_for reaches offset) in
    let long = ap length five in
    record {
      small = small;
      places = each_offset P
          (λ used i. ap (λ each. is_reached (get_or each 0 nowhere) i) five ∙ is_far_back used i)
          (λ used i. ap (λ each. is_reached (get_or each 1 nowhere) i) five ∙ is_back used i)
          (λ used i. ap (λ each. is_reached (get_or each 2 nowhere) i) five ∙ is_here used i)
          (λ used i. ap (λ each. is_reached (get_or each 3 nowhere) i) five ∙ is_ahead used i)
          (λ used i. ap (λ each. is_reached (get_or each 4 nowhere) i) five ∙ is_far_ahead used i);
      hull_small = hull_small;
      hull = λ offset within i reached. (hull (steps_from_least offset) nowhere (omega (arith, ints))).held i reached;
    }

-- an offset along the columns that is used, by its steps
pub used_across-steps : (offsets : List (ℤ × ℤ)) (dx : ℤ) (steps : ℕ) → steps ≡ steps_from_least dx → list_any (λ offset. eqb (steps_from_least offset.0) steps) offsets ≡ is_used_across offsets dx
unfolding is_used_across
used_across-steps offsets dx steps is = ap (λ k. list_any (λ offset. eqb (steps_from_least offset.0) k) offsets) is

-- and along the rows
pub used_down-steps : (offsets : List (ℤ × ℤ)) (dy : ℤ) (steps : ℕ) → steps ≡ steps_from_least dy → list_any (λ offset. eqb (steps_from_least offset.1) steps) offsets ≡ is_used_down offsets dy
unfolding is_used_down
used_down-steps offsets dy steps is = ap (λ k. list_any (λ offset. eqb (steps_from_least offset.1) k) offsets) is

-- an offset that isn't used
pub used-clash : {A : Type 0} (result any used : Bool) → result ≡ any → any ≡ used → result ≡ false → used ≡ true → A
used-clash result any used is same none some = absurd (true≢false (sym some ∙ sym same ∙ sym is ∙ none))

-- a block around one that has a reach has it too
pub within-around : (block hull : Block) (reach : Reach) → IsWithin block reach → ((i : ℕ) → is_held block i ≡ true → is_held hull i ≡ true) → IsWithin hull reach
within-around block hull reach is around = record { held = λ i reached. around i (is.held i reached) }

-- what holds of each of five
pub All-five : (P : Reach → Type 0) (a b c d e : Reach) → P a → P b → P c → P d → P e → All P (a ∷ b ∷ c ∷ d ∷ e ∷ [])
All-five P a b c d e is_a is_b is_c is_d is_e =
    All-cons P a (b ∷ c ∷ d ∷ e ∷ []) is_a
    (All-cons P b (c ∷ d ∷ e ∷ []) is_b (All-cons P c (d ∷ e ∷ []) is_c (All-cons P d (e ∷ []) is_d (All-cons P e [] is_e (All-nil P)))))

-- one reach more is steady, up to an end that isn't further
pub steady-more : (reaches : List Reach) (k place limit end next : ℕ) (d : Reach) → AreSteady (take k reaches) place limit end → k < length reaches → IsSteady (is_reached (get_or reaches k d)) place end next → AreSteady (take (k + 1) reaches) place limit next
steady-more reaches k place limit end next d before inside steady =
    let P : Reach → Type 0 = λ one. (i : ℕ) → place ≤ i → i < next → is_reached one i ≡ is_reached one place in
    let Q : Reach → Type 0 = λ one. (i : ℕ) → place ≤ i → i < end → is_reached one i ≡ is_reached one place in
    let nearer = steady.within in
    let further = before.within in
    record {
      some = steady.some;
      within = omega arith;
      same = All-more P reaches k d inside (All-weaker Q P (λ one same i from to. same i from (omega arith)) (take k reaches) before.same) steady.same;
    }

-- nothing is reached nowhere
nowhere-none : (i : ℕ) → is_reached nowhere i ≡ false
nowhere-none i =
    let none : Block = record { start = 0; length = 0 } in
    false_from_ne_true (is_reached nowhere i) (λ reached. elim (or_cases (is_held none i) (is_held none i) reached) [
      | inl held ↦ let ends = held-to none i held in omega arith
      | inr held ↦ let ends = held-to none i held in omega arith
    ])

-- steady reaches are steady at each offset
pub steady-reach : (reaches : Reaches) (place limit end : ℕ) → AreSteady reaches.each place limit end → (offset : ℤ) (i : ℕ) → place ≤ i → i < end → is_reached (reach_for reaches offset) i ≡ is_reached (reach_for reaches offset) place
steady-reach reaches place limit end steady offset i from to =
    let k = steps_from_least offset in
    elim (cases_lt k (length reaches.each)) [
      | inl inside ↦ steady.same k nowhere inside i from to
      | inr outside ↦
          let none : get_or reaches.each k nowhere ≡ nowhere = get_or-eq_default reaches.each nowhere outside in
          ap (λ reach. is_reached reach i) none ∙ nowhere-none i ∙ sym (ap (λ reach. is_reached reach place) none ∙ nowhere-none place)
    ]
