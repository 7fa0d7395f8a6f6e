-- Lists that are sorted into parts by a number of each member.
use Rattle.std.proofs.Common.{◌≡◌, ℕ, zero, suc, ◌+◌, ◌<◌, ◌≤◌, Bool, true, false, eqb, ltb, List, [], ◌∷◌, length, filter, sum_by, refl, sym, ap, ◌∙◌, inl, inr, arith, zero-add}
use Rattle.std.specs.List.{range_with_len, All}
use Rattle.std.proofs.lemmas.Bool.{cases_order, eq-eqb, ne_eqb, lt-ltb, le-ltb}
use Rattle.std.proofs.lemmas.List.Elements.{All-head, All-tail, All-weaker}
use Rattle.cpl_grid.proofs.RangeFacts.{sum_by-range_suc}

-- how many members pass
abbrev passing : {A : Type 0} → (A → Bool) → List A → ℕ
passing p xs = length (filter p xs)

-- where none passes
none_passing : (p : ℕ → Bool) (xs : List ℕ) → All (λ x. p x ≡ false) xs → passing p xs ≡ 0
none_passing p [] each = refl
none_passing p (x ∷ xs) each = rw (All-head (λ x. p x ≡ false) x xs each) (none_passing p xs (All-tail (λ x. p x ≡ false) x xs each))

-- where all pass
all_passing : (p : ℕ → Bool) (xs : List ℕ) → All (λ x. p x ≡ true) xs → passing p xs ≡ length xs
all_passing p [] each = refl
all_passing p (x ∷ xs) each = rw (All-head (λ x. p x ≡ true) x xs each) (ap (λ n. suc n) (all_passing p xs (All-tail (λ x. p x ≡ true) x xs each)))

-- the members of one part more
one_part_more : (part : ℕ → ℕ) (m : ℕ) (xs : List ℕ) → passing (λ x. ltb (part x) (suc m)) xs ≡ passing (λ x. ltb (part x) m) xs + passing (λ x. eqb (part x) m) xs
one_part_more part m [] = refl
one_part_more part m (x ∷ xs) =
    let rest = one_part_more part m xs in
    elim (cases_order (part x) m) [
      | inl here ↦
          let below : part x < suc m = omega arith in
          let reached : m ≤ part x = omega arith in
          rw (lt-ltb (part x) (suc m) below, le-ltb (part x) m reached, eq-eqb (part x) m here) (omega arith)
      | inr other ↦ elim other [
        | inl before ↦
            let below : part x < suc m = omega arith in
            rw (lt-ltb (part x) (suc m) below, lt-ltb (part x) m before, ne_eqb (part x) m (λ is. omega arith)) (omega arith)
        | inr behind ↦
            let past : suc m ≤ part x = omega arith in
            let reached : m ≤ part x = omega arith in
            rw (le-ltb (part x) (suc m) past, le-ltb (part x) m reached, ne_eqb (part x) m (λ is. omega arith)) (omega arith)
      ]
    ]

-- the first parts together
parts_so_far : (part : ℕ → ℕ) (first m : ℕ) (xs : List ℕ) → All (λ x. first ≤ part x) xs → sum_by (λ b. passing (λ x. eqb (part x) (first + b)) xs) (range_with_len 0 m) ≡ passing (λ x. ltb (part x) (first + m)) xs
parts_so_far part first zero xs from =
    let none = All-weaker (λ x. first ≤ part x) (λ x. ltb (part x) (first + 0) ≡ false) (λ x above. le-ltb (part x) (first + 0) (omega arith)) xs from in
    sym (none_passing (λ x. ltb (part x) (first + 0)) xs none)
parts_so_far part first (suc m) xs from =
    let longer : suc (first + m) ≡ first + suc m = omega arith in
    sum_by-range_suc (λ b. passing (λ x. eqb (part x) (first + b)) xs) 0 m
    ∙ ap (λ k. k + passing (λ x. eqb (part x) (first + (0 + m))) xs) (parts_so_far part first m xs from)
    ∙ ap (λ k. passing (λ x. ltb (part x) (first + m)) xs + passing (λ x. eqb (part x) (first + k)) xs) (zero-add m)
    ∙ sym (one_part_more part (first + m) xs)
    ∙ ap (λ k. passing (λ x. ltb (part x) k) xs) longer

-- the parts are together as long as the list
pub all_parts : (part : ℕ → ℕ) (first m : ℕ) (xs : List ℕ) → All (λ x. first ≤ part x) xs → All (λ x. part x < first + m) xs → sum_by (λ b. passing (λ x. eqb (part x) (first + b)) xs) (range_with_len 0 m) ≡ length xs
all_parts part first m xs from to =
    let all = All-weaker (λ x. part x < first + m) (λ x. ltb (part x) (first + m) ≡ true) (λ x below. lt-ltb (part x) (first + m) below) xs to in
    parts_so_far part first m xs from ∙ all_passing (λ x. ltb (part x) (first + m)) xs all
