-- What comes one after another: how it goes on, what stays true of it, and where it ends.
use Rattle.std.proofs.Common.{◌≡◌, ◌⊎◌, ℕ, zero, suc, ◌+◌, ◌<◌, Bool, true, false, not, List, [], ◌∷◌, ◌++◌, length, take, get_or, Option, Some, None, Err, refl, sym, ap, subst, ◌∙◌, inl, inr, arith, length-append}
use Rattle.std.proofs.Math.Seq.{take-append_seam}
use Rattle.std.proofs.lemmas.Bool.{and_parts, cases_eq, cases_lt, ne_eqb, not-true, not_from_false, not_from_true}
use Rattle.std.proofs.lemmas.List.{get_or_at, take-append-le}
use Rattle.std.specs.Prelude.{slice_index}
use Rattle.std.specs.Option.{option_map_or}
use Rattle.cpl_init.specs.Orders.{can_follow, complete_order, has_number, initial_order, is_needed, is_ready, next_of, order_behind, other_components}
use Rattle.cpl_init.specs.Waiting.{IsSelfNeeding}
use Rattle.cpl_init.specs.declared.needs.Needs.{Needs}
use Rattle.cpl_init.proofs.NeedFacts.{has_number-pushed, has_number-pushed_other, is_ready-has}
use Rattle.cpl_init.proofs.RangeFacts.{find-range_passes, length-filter_all, length-filter_one_more}

-- there is a next one or none
pub cases_next : (next : Option ℕ) → (next ≡ None) ⊎ ((c : ℕ) × (next ≡ Some c))
cases_next None = inl refl
cases_next (Some c) = inr (c, refl)

-- where there is a next one the order goes on behind it
pub order_behind-some : (fuel count : ℕ) (needs : List Needs) (before : List ℕ) (c : ℕ) → next_of count needs before ≡ Some c → order_behind (suc fuel) count needs before ≡ order_behind fuel count needs (before ++ c ∷ [])
order_behind-some fuel count needs before c is =
    ap (λ (next : Option ℕ). option_map_or (λ k. order_behind fuel count needs (before ++ k ∷ [])) next before) is

-- where there is none it ends
pub order_behind-none : (fuel count : ℕ) (needs : List Needs) (before : List ℕ) → next_of count needs before ≡ None → order_behind fuel count needs before ≡ before
order_behind-none zero count needs before is = refl
order_behind-none (suc fuel) count needs before is =
    ap (λ (next : Option ℕ). option_map_or (λ k. order_behind fuel count needs (before ++ k ∷ [])) next before) is

-- what a next one keeps true holds of the order
pub order_behind-keeps : (P : List ℕ → Type 0) (fuel count : ℕ) (needs : List Needs) (before : List ℕ) → ((so_far : List ℕ) (c : ℕ) → next_of count needs so_far ≡ Some c → P so_far → P (so_far ++ c ∷ [])) → P before → P (order_behind fuel count needs before)
order_behind-keeps P zero count needs before more holds = holds
order_behind-keeps P (suc fuel) count needs before more holds = elim (cases_next (next_of count needs before)) [
  | inl none ↦ subst P (sym (order_behind-none (suc fuel) count needs before none)) holds
  | inr some ↦
      let rest = order_behind-keeps P fuel count needs (before ++ some.0 ∷ []) more (more before some.0 some.1 holds) in
      subst P (sym (order_behind-some fuel count needs before some.0 some.1)) rest
]

-- where it ends nothing comes next, or all fuel is spent
pub order_behind-ends : (fuel count : ℕ) (needs : List Needs) (before : List ℕ) → (next_of count needs (order_behind fuel count needs before) ≡ None) ⊎ (length (order_behind fuel count needs before) ≡ length before + fuel)
order_behind-ends zero count needs before = inr (omega arith)
order_behind-ends (suc fuel) count needs before =
    let Ends : List ℕ → Type 0 = λ order. (next_of count needs order ≡ None) ⊎ (length order ≡ length before + suc fuel) in
    elim (cases_next (next_of count needs before)) [
      | inl none ↦
          subst Ends (sym (order_behind-none (suc fuel) count needs before none)) (inl none)
      | inr some ↦
          let longer : length (before ++ some.0 ∷ []) ≡ length before + 1 = length-append before (some.0 ∷ []) in
          let rest : Ends (order_behind fuel count needs (before ++ some.0 ∷ [])) = elim (order_behind-ends fuel count needs (before ++ some.0 ∷ [])) [
            | inl end ↦ inl end
            | inr spent ↦ inr (omega arith)
          ] in
          subst Ends (sym (order_behind-some fuel count needs before some.0 some.1)) rest
    ]

-- a component that comes next
pub record IsNext (count : ℕ) (needs : List Needs) (before : List ℕ) (c : ℕ) : Type 0 where
  pub within : c < count
  pub new : has_number before c ≡ false
  pub ready : is_ready needs before c ≡ true

-- is listed, new and ready
pub next_of-is : (count : ℕ) (needs : List Needs) (before : List ℕ) (c : ℕ) → next_of count needs before ≡ Some c → IsNext count needs before c
next_of-is count needs before c is =
    let found = find-range_passes (can_follow needs before) 0 count c is in
    let both = and_parts (not (has_number before c)) (is_ready needs before c) found.2 in
    let within = found.1 in
    record { within = omega arith; new = not-true _ both.0; ready = both.1 }

-- an order so far: each is what comes next behind those before it, and no member of a self-needing set is there
pub record IsSoFar (count : ℕ) (needs : List Needs) (before : List ℕ) : Type 0 where
  pub places : (k : ℕ) → k < length before → next_of count needs (take k before) ≡ Some (slice_index before k)
  pub adds_up : length before + length (other_components count before) ≡ count
  pub apart : (set : ℕ → Bool) → IsSelfNeeding count needs set → (c : ℕ) → set c ≡ true → has_number before c ≡ false

-- what stands in the first of two lists
get_or-append : (xs ys : List ℕ) (k : ℕ) → k < length xs → get_or (xs ++ ys) k 0 ≡ get_or xs k 0
get_or-append [] ys k inside = absurd (omega arith)
get_or-append (x ∷ xs) ys zero inside = refl
get_or-append (x ∷ xs) ys (suc k) inside = get_or-append xs ys k (omega arith)

-- at its start
IsSoFar-start : (count : ℕ) (needs : List Needs) → IsSoFar count needs []
IsSoFar-start count needs = record {
  places = λ k inside. absurd (omega arith);
  adds_up = let all = length-filter_all (λ c. not (has_number [] c)) 0 count (λ j. refl) in omega arith;
  apart = λ set self c has. refl;
}

-- with a next one each place is right
places-next : (count : ℕ) (needs : List Needs) (before : List ℕ) (c : ℕ) → next_of count needs before ≡ Some c → IsSoFar count needs before → (k : ℕ) → k < length (before ++ c ∷ []) → next_of count needs (take k (before ++ c ∷ [])) ≡ Some (slice_index (before ++ c ∷ []) k)
places-next count needs before c is so_far k inside =
    let longer : length (before ++ c ∷ []) ≡ length before + 1 = length-append before (c ∷ []) in
    elim (cases_lt k (length before)) [
      | inl early ↦
          let front : take k (before ++ c ∷ []) ≡ take k before = take-append-le k before (c ∷ []) (omega arith) in
          let here : slice_index (before ++ c ∷ []) k ≡ slice_index before k = get_or-append before (c ∷ []) k early in
          ap (next_of count needs) front ∙ so_far.places k early ∙ ap Some (sym here)
      | inr late ↦
          let last : k ≡ length before = omega arith in
          let front : take k (before ++ c ∷ []) ≡ before = ap (λ n. take n (before ++ c ∷ [])) last ∙ take-append_seam before (c ∷ []) in
          let here : slice_index (before ++ c ∷ []) k ≡ c = get_or_at before c [] 0 k (sym last) in
          ap (next_of count needs) front ∙ is ∙ ap Some (sym here)
    ]

-- and there is one other less
adds_up-next : (count : ℕ) (needs : List Needs) (before : List ℕ) (c : ℕ) → IsNext count needs before c → IsSoFar count needs before → length (before ++ c ∷ []) + length (other_components count (before ++ c ∷ [])) ≡ count
adds_up-next count needs before c next so_far =
    let after = before ++ c ∷ [] in
    let longer : length after ≡ length before + 1 = length-append before (c ∷ []) in
    let within = next.within in
    let gone = not_from_true _ (has_number-pushed before c) in
    let there = not_from_false _ next.new in
    let less = length-filter_one_more (λ j. not (has_number after j)) (λ j. not (has_number before j)) c 0 count (omega arith) (omega arith) gone there (λ j other. ap not (has_number-pushed_other before c j other)) in
    omega (arith, so_far.adds_up)

-- a component that comes next is in no self-needing set
apart-next : (count : ℕ) (needs : List Needs) (before : List ℕ) (c : ℕ) → IsNext count needs before c → IsSoFar count needs before → (set : ℕ → Bool) → IsSelfNeeding count needs set → (d : ℕ) → set d ≡ true → has_number (before ++ c ∷ []) d ≡ false
apart-next count needs before c next so_far set self d member = elim (cases_eq d c) [
  | inl here ↦
      let producer = self.needs_member d member in
      let needed : is_needed needs c producer.0 ≡ true = subst (λ n. is_needed needs n producer.0 ≡ true) here producer.2 in
      let has = is_ready-has needs before c producer.0 next.ready needed in
      let hasnt = so_far.apart set self producer.0 producer.1 in
      absurd (cc)
  | inr other ↦ has_number-pushed_other before c d other ∙ so_far.apart set self d member
]

-- a next one leaves it an order so far
IsSoFar-next : (count : ℕ) (needs : List Needs) (before : List ℕ) (c : ℕ) → next_of count needs before ≡ Some c → IsSoFar count needs before → IsSoFar count needs (before ++ c ∷ [])
IsSoFar-next count needs before c is so_far =
    let next = next_of-is count needs before c is in
    record {
      places = places-next count needs before c is so_far;
      adds_up = adds_up-next count needs before c next so_far;
      apart = apart-next count needs before c next so_far;
    }

-- all of it is one
pub IsSoFar-order : (count : ℕ) (needs : List Needs) → IsSoFar count needs (order_behind count count needs [])
IsSoFar-order count needs =
    order_behind-keeps (IsSoFar count needs) count count needs [] (IsSoFar-next count needs) (IsSoFar-start count needs)

-- the answer where some components are left
pub initial_order-err : (count : ℕ) (needs : List Needs) (order : List ℕ) → order ≡ complete_order count needs → length order < count → initial_order count needs ≡ Err (other_components count order)
initial_order-err count needs order is short =
    rw (← is, ne_eqb (length order) count (λ whole. omega arith)) refl
