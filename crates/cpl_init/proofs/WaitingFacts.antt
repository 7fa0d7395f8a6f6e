-- An order has all components or leaves those that wait.
use Rattle.std.proofs.Common.{◌≡◌, ◌≢◌, ℕ, ◌<◌, Bool, true, false, cond, not, List, [], length, None, Result, Ok, Err, IfOk, refl, inl, inr, arith, subst}
use Rattle.std.proofs.lemmas.Bool.{and_cases, eqb-false, eqb-true, not-false, not-true, not_from_false, true_from_ne_false}
use Rattle.std.specs.Prelude.{◌==◌, IsTrue, IfErr, MatchResult}
use Rattle.cpl_init.specs.Gives.{Gives}
use Rattle.cpl_init.specs.Orders.{AreNeeds, can_follow, complete_order, has_number, initial_order, is_needed, is_ready, next_of, other_components}
use Rattle.cpl_init.specs.Waiting.{IsInitialOrder, IsSelfNeeding, IsWaitingFault, IsWaitingSet, OrderLaws}
use Rattle.cpl_init.specs.declared.fault.InitFault.{InitFault}
use Rattle.cpl_init.specs.declared.fault.InitFault.TheVariants.{Waiting, Memory}
use Rattle.cpl_init.specs.declared.needs.Needs.{Needs}
use Rattle.cpl_init.proofs.NeedFacts.{has_number-some, is_needed-listed, is_ready-misses}
use Rattle.cpl_init.proofs.OrderFacts.{IsSoFar, IsSoFar-order, order_behind-ends}
use Rattle.cpl_init.proofs.RangeFacts.{filter_range-ascends, filter_range-passes, find-range_fails, has_number-filter_range}

-- a listed component that isn't among numbers is one of the others
others-has : (count : ℕ) (numbers : List ℕ) (c : ℕ) → c < count → has_number numbers c ≡ false → has_number (other_components count numbers) c ≡ true
others-has count numbers c within new =
    has_number-filter_range (λ k. not (has_number numbers k)) 0 count c (omega arith) (omega arith) (not_from_false _ new)

-- one of the others is listed and isn't among the numbers
others-are : (count : ℕ) (numbers : List ℕ) (c : ℕ) → has_number (other_components count numbers) c ≡ true → (c < count) × (has_number numbers c ≡ false)
others-are count numbers c has =
    let passes = filter_range-passes (λ k. not (has_number numbers k)) 0 count c has in
    let within = passes.1 in
    (omega arith, not-true _ passes.2)

-- where nothing comes next, one of the others needs one of the others
others-need : (count : ℕ) (needs : List Needs) (order : List ℕ) (c : ℕ) → AreNeeds count needs → next_of count needs order ≡ None → has_number (other_components count order) c ≡ true → (p : ℕ) × IsTrue (has_number (other_components count order) p) × IsTrue (is_needed needs c p)
others-need count needs order c listed end has =
    let other = others-are count order c has in
    let within = other.0 in
    let stays = find-range_fails (can_follow needs order) 0 count c end (omega arith) (omega arith) in
    let unready : is_ready needs order c ≡ false = elim (and_cases (not (has_number order c)) (is_ready needs order c) stays) [
      | inl placed ↦ let is = not-false _ placed in let isnt = other.1 in absurd (cc)
      | inr unready ↦ unready
    ] in
    let missing = is_ready-misses needs order c unready in
    let producer = is_needed-listed count needs c missing.0 listed missing.1.needed in
    (missing.0, others-has count order missing.0 producer missing.1.behind, missing.1.needed)

-- so they are a self-needing set
others-self_needing : (count : ℕ) (needs : List Needs) (order : List ℕ) → AreNeeds count needs → next_of count needs order ≡ None → IsSelfNeeding count needs (has_number (other_components count order))
others-self_needing count needs order listed end = record {
  listed = λ c has. (others-are count order c has).0;
  needs_member = λ c has. others-need count needs order c listed end has;
}

-- an order that has all components
order-initial : (count : ℕ) (needs : List Needs) (order : List ℕ) → IsSoFar count needs order → length order ≡ count → IsInitialOrder count needs order
order-initial count needs order so_far whole =
    let all : (c : ℕ) → c < count → has_number order c ≡ true = λ c within. true_from_ne_false _ (λ new.
    let some = has_number-some _ c (others-has count order c within new) in omega (arith, so_far.adds_up)) in
    record {
      size = whole;
      all = all;
      places = λ k within. so_far.places k (omega arith);
      none_waits = λ c waits.
          let has = all c (waits.1.listed c waits.2) in
          let hasnt = so_far.apart waits.0 waits.1 c waits.2 in
          cc;
    }

-- an order that ends early leaves those that wait
order-waiting : (count : ℕ) (needs : List Needs) (order : List ℕ) → AreNeeds count needs → IsSoFar count needs order → next_of count needs order ≡ None → length order ≢ count → IsWaitingSet count needs (other_components count order)
order-waiting count needs order listed so_far end short =
    let self = others-self_needing count needs order listed end in
    record {
      ascending = filter_range-ascends (λ k. not (has_number order k)) 0 count;
      some = omega (arith, so_far.adds_up, short);
      members = λ c. (λ has. (has_number (other_components count order), self, has), λ waits. others-has count order c (waits.1.listed c waits.2) (so_far.apart waits.0 waits.1 c waits.2));
    }

-- the answer by whether all are placed
answer-is : (count : ℕ) (needs : List Needs) (order : List ℕ) (b : Bool) → (b ≡ true → IsInitialOrder count needs order) → (b ≡ false → IsWaitingSet count needs (other_components count order)) → MatchResult {T = List ℕ} {E = List ℕ} (cond b (Ok order) (Err (other_components count order))) (IsInitialOrder count needs) (IsWaitingSet count needs)
answer-is count needs order true whole short = whole refl
answer-is count needs order false whole short = short refl

-- what holds of every order
pub order-laws : OrderLaws
order-laws count needs listed =
    let order = complete_order count needs in
    let so_far = IsSoFar-order count needs in
    let waiting : length order ≢ count → IsWaitingSet count needs (other_components count order) = λ short. elim (order_behind-ends count count needs []) [
      | inl end ↦ order-waiting count needs order listed so_far end short
      | inr spent ↦ absurd (short (omega arith))
    ] in
    answer-is count needs order (length order == count) (λ is. order-initial count needs order so_far (eqb-true _ _ is)) (λ isnt. waiting (eqb-false _ _ isnt))

-- an answer that is the definition's is an initial order, where it is one
pub gives-order : (count : ℕ) (needs : List Needs) (result : Result (List ℕ) InitFault) → AreNeeds count needs → Gives result (initial_order count needs) → IfOk result (IsInitialOrder count needs)
gives-order count needs (Ok order) listed gives = let P : Result (List ℕ) (List ℕ) → Type 0 = λ given. MatchResult given (IsInitialOrder count needs) (IsWaitingSet count needs) in subst P gives.order (order-laws count needs listed)
gives-order count needs (Err fault) listed gives = tt

-- and its components are those that wait, where it has some
pub gives-waiting : (count : ℕ) (needs : List Needs) (result : Result (List ℕ) InitFault) → AreNeeds count needs → Gives result (initial_order count needs) → IfErr result (IsWaitingFault count needs)
gives-waiting count needs (Ok order) listed gives = tt
gives-waiting count needs (Err (Waiting components)) listed gives = let P : Result (List ℕ) (List ℕ) → Type 0 = λ given. MatchResult given (IsInitialOrder count needs) (IsWaitingSet count needs) in subst P gives.waiting (order-laws count needs listed)
gives-waiting count needs (Err Memory) listed gives = tt
