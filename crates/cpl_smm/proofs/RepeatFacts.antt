-- Which factor is the first that has the cells of an earlier one: by the order of the file, and among sorted factors.
use Rattle.std.proofs.Common.{◌≡◌, ◌⊎◌, ◌∙◌, ℕ, ◌+◌, ◌*◌, ◌<◌, ◌≤◌, min, List, [], ◌∷◌, Option, Some, None, refl, sym, ap, inl, inr, arith}
use Rattle.std.proofs.lemmas.Bool.{cases_eq, cases_lt, eq-eqb, ne_eqb}
use Rattle.cpl_smm.specs.Kept.{least_behind, least_repeat, lesser, pair_of, repeat_number}
use Rattle.cpl_smm.specs.declared.entries.KeptFactor.{KeptFactor}
use Rattle.cpl_smm.proofs.MemberFacts.{IsIn}

-- a factor has the cells of an earlier one
pub record IsRepeat (factors : List KeptFactor) (a b : KeptFactor) : Type 0 where
  pub earlier : IsIn a factors
  pub later : IsIn b factors
  pub same : pair_of a ≡ pair_of b
  pub before : a.number < b.number

-- the number is the least of factors that have the cells of an earlier one, if there is one
pub record IsLeastRepeat (factors : List KeptFactor) (least : Option ℕ) : Type 0 where
  pub found : (n : ℕ) → least ≡ Some n → (a : KeptFactor) × (b : KeptFactor) × IsRepeat factors a b × (b.number ≡ n)
  pub least_of : (a b : KeptFactor) → IsRepeat factors a b → (n : ℕ) × (least ≡ Some n) × (n ≤ b.number)

-- there is one such number at most, whatever the order of the factors
pub IsLeastRepeat-same : (xs ys : List KeptFactor) (p q : Option ℕ) → ((a : KeptFactor) → IsIn a xs → IsIn a ys) → ((a : KeptFactor) → IsIn a ys → IsIn a xs)
    → IsLeastRepeat xs p → IsLeastRepeat ys q → p ≡ q
IsLeastRepeat-same xs ys None None to from one other = refl
IsLeastRepeat-same xs ys (Some n) q to from one other =
    let (a, b, repeat, is) = one.found n refl in
    let (m, there, less) = other.least_of a b (record { earlier = to a repeat.earlier; later = to b repeat.later; same = repeat.same; before = repeat.before }) in
    let (c, d, again, is_there) = other.found m there in
    let (k, here, lesser) = one.least_of c d (record { earlier = from c again.earlier; later = from d again.later; same = again.same; before = again.before }) in
    let alike : n ≡ k = cc in
    let equal : n ≡ m = omega (arith, less, lesser, is, is_there, alike) in
    ap Some equal ∙ sym there
IsLeastRepeat-same xs ys None (Some m) to from one other =
    let (c, d, again, is_there) = other.found m refl in
    let (k, here, lesser) = one.least_of c d (record { earlier = from c again.earlier; later = from d again.later; same = again.same; before = again.before }) in
    absurd (cc)

-- ---- among sorted factors

-- a factor's place in the order: its pair, and its number among those of equal pairs
abbrev pub rank : KeptFactor → ℕ
rank factor = pair_of factor * 8388608 + factor.number

-- ranks ascend, from above this one
unfoldable pub Climbs : ℕ → List KeptFactor → Type 0
Climbs low [] = Unit {0}
Climbs low (factor ∷ factors) = (low < rank factor) × (factor.number < 8388608) × Climbs (rank factor) factors

-- each member is above
pub Climbs-member : (low : ℕ) (factors : List KeptFactor) (factor : KeptFactor) → Climbs low factors → IsIn factor factors → (low < rank factor) × (factor.number < 8388608)
unfolding Climbs
Climbs-member low [] factor up here = absurd here
Climbs-member low (first ∷ factors) factor up (inl same) = rw same (up.0, up.1)
Climbs-member low (first ∷ factors) factor up (inr there) =
    let above = Climbs-member (rank first) factors factor up.2 there in (omega (arith, up.0, above.0), above.1)

-- the lesser of three
lesser-again : (a b c : Option ℕ) → lesser (lesser a b) c ≡ lesser a (lesser b c)
lesser-again None b c = refl
lesser-again (Some a) None c = refl
lesser-again (Some a) (Some b) None = refl
lesser-again (Some a) (Some b) (Some c) = let same : min (min a b) c ≡ min a (min b c) = omega arith in ap Some same

-- what stands in front of a search
least_behind-from : (least : Option ℕ) (before : ℕ) (factors : List KeptFactor) → least_behind least before factors ≡ lesser least (least_behind None before factors)
least_behind-from None before factors = refl
least_behind-from (Some n) before [] = refl
least_behind-from (Some n) before (factor ∷ factors) =
    let r = repeat_number before factor in
    least_behind-from (lesser (Some n) r) (pair_of factor) factors
    ∙ lesser-again (Some n) r (least_behind None (pair_of factor) factors)
    ∙ ap (lesser (Some n)) (sym (least_behind-from r (pair_of factor) factors))

-- a search with one factor more in front
least_behind-next : (before : ℕ) (factor : KeptFactor) (factors : List KeptFactor)
    → least_behind None before (factor ∷ factors) ≡ lesser (repeat_number before factor) (least_behind None (pair_of factor) factors)
least_behind-next before factor factors = least_behind-from (repeat_number before factor) (pair_of factor) factors

-- the lesser of two is one of them
lesser-is : (a b : Option ℕ) (n : ℕ) → lesser a b ≡ Some n → (a ≡ Some n) ⊎ (b ≡ Some n)
lesser-is None b n is = inr is
lesser-is (Some a) None n is = inl is
lesser-is (Some a) (Some b) n is =
    let value : min a b ≡ n = cc in
    elim (cases_lt b a) [
      | inl less ↦ inr (let e : b ≡ n = omega arith in ap Some e)
      | inr more ↦ inl (let e : a ≡ n = omega arith in ap Some e)
    ]

-- it is no greater than the first
lesser-first : (a : ℕ) (b : Option ℕ) → (n : ℕ) × (lesser (Some a) b ≡ Some n) × (n ≤ a)
lesser-first a None = (a, refl, omega arith)
lesser-first a (Some b) = (min a b, refl, omega arith)

-- nor than the second
lesser-second : (a : Option ℕ) (b : ℕ) → (n : ℕ) × (lesser a (Some b) ≡ Some n) × (n ≤ b)
lesser-second None b = (b, refl, omega arith)
lesser-second (Some a) b = (min a b, refl, omega arith)

-- a factor that has the cells of the one before it
repeat_number-is : (before : ℕ) (factor : KeptFactor) (n : ℕ) → repeat_number before factor ≡ Some n → (pair_of factor ≡ before) × (factor.number ≡ n)
repeat_number-is before factor n is =
    elim (cases_eq (pair_of factor) before) [
      | inl same ↦ let e = rw (eq-eqb (pair_of factor) before same) at is in let number : factor.number ≡ n = cc in (same, number)
      | inr other ↦ let e = rw (ne_eqb (pair_of factor) before other) at is in absurd (cc)
    ]

-- one member more in front
IsRepeat-more : (first : KeptFactor) (factors : List KeptFactor) (a b : KeptFactor) → IsRepeat factors a b → IsRepeat (first ∷ factors) a b
IsRepeat-more first factors a b repeat = record { earlier = inr repeat.earlier; later = inr repeat.later; same = repeat.same; before = repeat.before }

-- the least behind a factor, among it and those that climb from it
least_behind-least : (first : KeptFactor) (factors : List KeptFactor) → first.number < 8388608 → Climbs (rank first) factors
    → IsLeastRepeat (first ∷ factors) (least_behind None (pair_of first) factors)
unfolding Climbs
least_behind-least first [] few up = record {
  found = λ n is. absurd (cc);
  least_of = λ a b repeat. absurd (alone a b repeat);
}
  where
    alone : (a b : KeptFactor) → IsRepeat (first ∷ []) a b → ⊥
    alone a b repeat = elim repeat.earlier [
      | inl one ↦ elim repeat.later [
        | inl other ↦
            let same : a.number ≡ b.number = ap (λ (f : KeptFactor). f.number) (one ∙ sym other) in
            omega (arith, repeat.before, same)
        | inr none ↦ none
      ]
      | inr none ↦ none
    ]
least_behind-least first (factor ∷ factors) few up =
    let rest = least_behind-least factor factors up.1 up.2 in
    let next = least_behind-next (pair_of first) factor factors in
    record {
      found = λ n is. elim (lesser-is (repeat_number (pair_of first) factor) (least_behind None (pair_of factor) factors) n (sym next ∙ is)) [
        | inl here ↦
            let (same, number) = repeat_number-is (pair_of first) factor n here in
            (first, factor, record { earlier = inl refl; later = inr (inl refl); same = sym same; before = omega (arith, up.0, same) }, number)
        | inr there ↦
            let (a, b, repeat, number) = rest.found n there in
            (a, b, IsRepeat-more first (factor ∷ factors) a b repeat, number)
      ];
      least_of = λ a b repeat. elim repeat.earlier [
        | inl one ↦ elim repeat.later [
          | inl other ↦
              let same : a.number ≡ b.number = ap (λ (f : KeptFactor). f.number) (one ∙ sym other) in
              absurd (omega (arith, repeat.before, same))
          | inr there ↦
              let from : rank factor ≤ rank b = at_least b there in
              let (above, small) = Climbs-member (rank first) (factor ∷ factors) b (up.0, up.1, up.2) there in
              let pair : pair_of a ≡ pair_of first = ap (λ (f : KeptFactor). pair_of f) one in
              let same : pair_of factor ≡ pair_of first = omega (arith, from, small, pair, repeat.same, up.0, up.1) in
              let number : factor.number ≤ b.number = omega (arith, from, small, pair, repeat.same, same) in
              let (n, is, less) = lesser-first factor.number (least_behind None (pair_of factor) factors) in
              let repeats : repeat_number (pair_of first) factor ≡ Some factor.number = rw (eq-eqb (pair_of factor) (pair_of first) same) refl in
              (n, next ∙ ap (λ r. lesser r (least_behind None (pair_of factor) factors)) repeats ∙ is, omega (arith, less, number))
        ]
        | inr there ↦ elim repeat.later [
          | inl other ↦
              let (above, small) = Climbs-member (rank first) (factor ∷ factors) a (up.0, up.1, up.2) there in
              let pair : pair_of b ≡ pair_of first = ap (λ (f : KeptFactor). pair_of f) other in
              let number : b.number ≡ first.number = ap (λ (f : KeptFactor). f.number) other in
              absurd (omega (arith, above, repeat.before, repeat.same, pair, number))
          | inr later ↦
              let (m, is, less) = rest.least_of a b (record { earlier = there; later = later; same = repeat.same; before = repeat.before }) in
              let (n, both, under) = lesser-second (repeat_number (pair_of first) factor) m in
              (n, next ∙ ap (lesser (repeat_number (pair_of first) factor)) is ∙ both, omega (arith, less, under))
        ]
      ];
    }
  where
    at_least : (b : KeptFactor) → IsIn b (factor ∷ factors) → rank factor ≤ rank b
    at_least b (inl same) = rw same (omega arith)
    at_least b (inr there) = let (above, small) = Climbs-member (rank factor) factors b up.2 there in omega (arith, above)

-- the least among factors that climb
pub least_repeat-least : (low : ℕ) (factors : List KeptFactor) → Climbs low factors → IsLeastRepeat factors (least_repeat factors)
unfolding Climbs
least_repeat-least low [] up = record {
  found = λ n is. absurd (cc);
  least_of = λ a b repeat. absurd repeat.earlier;
}
least_repeat-least low (factor ∷ factors) up = least_behind-least factor factors up.1 up.2
