-- The numbers of the groups that have a place, and a dictionary's parts once it changes.
use Rattle.std.proofs.Common.{◌≡◌, ℕ, ◌+◌, ◌<◌, Bool, true, false, cond, ◌&&◌, ◌||◌, suc, List, [], ◌∷◌, ◌++◌, length, get_or, All, refl, sym, ap, subst, ◌∙◌, arith, zero}
use Rattle.std.proofs.lemmas.List.{length_push}
use Rattle.std.proofs.lemmas.List.Elements.{All-cons, All-from_get_or, All-nil, All-push, All-weaker}
use Rattle.std.specs.List.{list_any}
use Rattle.cpl_dict.proofs.AscendingFacts.{IsAscending-lower, has_number-below, have_common-below, have_common-equal}
use Rattle.cpl_dict.specs.Numbers.{have_common}
use Rattle.cpl_dict.specs.Kept.{IsAscending, IsKept, IsNotedAt}
use Rattle.cpl_dict.specs.Numbers.{has_number, places_from}

module _ {G : Type 0} where
  -- the numbers ascend
  pub IsAscending-places_from : (n : ℕ) (test : G → Bool) (groups : List G) → IsAscending n (places_from n test groups)
  IsAscending-places_from n test [] = tt
  IsAscending-places_from n test (g ∷ gs) = step (test g) (IsAscending-places_from (suc n) test gs)
    where
      step : (b : Bool) → IsAscending (suc n) (places_from (suc n) test gs) → IsAscending n (cond b (n ∷ places_from (suc n) test gs) (places_from (suc n) test gs))
      step true h = (omega arith, h)
      step false h = IsAscending-lower n (suc n) (places_from (suc n) test gs) (omega arith) h

  -- they are below the number of the next group
  pub places_from-below : (n m : ℕ) (test : G → Bool) (groups : List G) → m ≡ n + length groups → All (λ x. x < m) (places_from n test groups)
  places_from-below n m test [] is = All-nil (λ x. x < m)
  places_from-below n m test (g ∷ gs) is = step (test g) (places_from-below (suc n) m test gs (omega arith))
    where
      step : (b : Bool) → All (λ x. x < m) (places_from (suc n) test gs) → All (λ x. x < m) (cond b (n ∷ places_from (suc n) test gs) (places_from (suc n) test gs))
      step true h = All-cons (λ x. x < m) n (places_from (suc n) test gs) (omega arith) h
      step false h = h

  -- one more group adds its number where it passes
  places_from-push : (n m : ℕ) (test : G → Bool) (groups : List G) (g : G) → m ≡ n + length groups → places_from n test (groups ++ g ∷ []) ≡ places_from n test groups ++ cond (test g) (m ∷ []) []
  places_from-push n m test [] g is =
      let same : n ≡ m = omega arith in ap (λ k. cond (test g) (k ∷ []) []) same
  places_from-push n m test (h ∷ hs) g is = step (test h) (places_from-push (suc n) m test hs g (omega arith))
    where
      step : (b : Bool) → places_from (suc n) test (hs ++ g ∷ []) ≡ places_from (suc n) test hs ++ cond (test g) (m ∷ []) []
          → cond b (n ∷ places_from (suc n) test (hs ++ g ∷ [])) (places_from (suc n) test (hs ++ g ∷ [])) ≡ cond b (n ∷ places_from (suc n) test hs) (places_from (suc n) test hs) ++ cond (test g) (m ∷ []) []
      step true e = ap (λ xs. n ∷ xs) e
      step false e = e

  -- two tests have a number in common exactly where some group passes both
  pub have_common-places_from : (n : ℕ) (p q : G → Bool) (groups : List G) → have_common (places_from n p groups) (places_from n q groups) ≡ list_any (λ g. p g && q g) groups
  have_common-places_from n p q [] = refl
  have_common-places_from n p q (g ∷ gs) = step (p g) (q g) (have_common-places_from (suc n) p q gs)
    where
      of : (G → Bool) → List ℕ
      of test = places_from (suc n) test gs

      step : (a b : Bool) → have_common (of p) (of q) ≡ list_any (λ g. p g && q g) gs → have_common (cond a (n ∷ of p) (of p)) (cond b (n ∷ of q) (of q)) ≡ ((a && b) || list_any (λ g. p g && q g) gs)
      step true true e = have_common-equal n n (of p) (of q) refl
      step true false e = ap (λ b. b || have_common (of p) (of q)) (has_number-below n (suc n) (of q) (omega arith) (IsAscending-places_from (suc n) q gs)) ∙ e
      step false true e = have_common-below n (suc n) (of p) (of q) (omega arith) (IsAscending-places_from (suc n) p gs) ∙ e
      step false false e = e

-- an empty list at the end changes no look-up
get_or-push_nil : (lists : List (List ℕ)) (p : ℕ) → get_or (lists ++ [] ∷ []) p [] ≡ get_or lists p []
get_or-push_nil [] zero = refl
get_or-push_nil [] (suc p) = refl
get_or-push_nil (x ∷ xs) zero = refl
get_or-push_nil (x ∷ xs) (suc p) = get_or-push_nil xs p

-- what is kept once a name is with_name
pub IsKept-add : (n m : ℕ) (groups lists : List (List ℕ)) → m ≡ n + 1 → IsKept n groups lists → IsKept m groups (lists ++ [] ∷ [])
IsKept-add n m groups lists is h = record {
  counted = omega (arith, h.counted, length_push lists []);
  placed = All-weaker (All (λ p. p < n)) (All (λ p. p < m)) (All-weaker (λ p. p < n) (λ p. p < m) (λ p lt. omega arith)) groups h.placed;
  noted = λ p. get_or-push_nil lists p ∙ h.noted p;
}

-- all that is noted is below the number of the next group
pub noted_below : (n number : ℕ) (groups lists : List (List ℕ)) → number ≡ length groups → IsKept n groups lists → All (All (λ x. x < number)) lists
noted_below n number groups lists is h =
    All-from_get_or (All (λ x. x < number)) lists [] (λ p inside.
    subst (All (λ x. x < number)) (sym (h.noted p)) (places_from-below 0 number (λ g. has_number g p) groups (omega arith)))

-- what is kept once a group is noted
pub IsKept-note : (n number : ℕ) (groups lists new : List (List ℕ)) (places : List ℕ) → number ≡ length groups → All (λ p. p < n) places → IsNotedAt places number lists new → IsKept n groups lists → IsKept n (groups ++ places ∷ []) new
IsKept-note n number groups lists new places is placed noted h = record {
  counted = noted.counted ∙ h.counted;
  placed = All-push (All (λ p. p < n)) groups places h.placed placed;
  noted = λ p.
      noted.noted p ∙ ap (λ xs. xs ++ cond (has_number places p) (number ∷ []) []) (h.noted p)
      ∙ sym (places_from-push 0 number (λ g. has_number g p) groups places (omega arith));
}
