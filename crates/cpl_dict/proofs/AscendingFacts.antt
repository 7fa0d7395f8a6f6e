-- Lists of ascending numbers, and what two of them have in common.
use Rattle.std.proofs.Common.{◌≡◌, ℕ, ◌<◌, ◌≤◌, true, false, ◌||◌, eqb, suc, List, [], ◌∷◌, length, get_or, drop, refl, sym, ap, ◌∙◌, arith, ◌+◌}
use Rattle.std.proofs.lemmas.Bool.{eq-eqb, ne_eqb}
use Rattle.std.proofs.lemmas.List.{drop_more}
use Rattle.cpl_dict.specs.Kept.{IsAscending}
use Rattle.cpl_dict.specs.Numbers.{has_number, have_common}

-- numbers from a bound on are numbers from a lower one on
pub IsAscending-lower : (m n : ℕ) (xs : List ℕ) → m ≤ n → IsAscending n xs → IsAscending m xs
IsAscending-lower m n [] le h = tt
IsAscending-lower m n (x ∷ xs) le h = (omega (arith, h.0), h.1)

-- a number below the bound isn't among them
pub has_number-below : (x n : ℕ) (ys : List ℕ) → x < n → IsAscending n ys → has_number ys x ≡ false
has_number-below x n [] lt h = refl
has_number-below x n (y ∷ ys) lt h =
    let ne : eqb y x ≡ false = ne_eqb y x (λ e. omega (arith, h.0)) in
    rw ne (has_number-below x (suc y) ys (omega (arith, h.0)) h.1)

-- equal first numbers
pub have_common-equal : (x y : ℕ) (xs ys : List ℕ) → x ≡ y → have_common (x ∷ xs) (y ∷ ys) ≡ true
have_common-equal x y xs ys e = rw (eq-eqb y x (sym e)) refl

-- the first number of the first list is below all of the second
pub have_common-less : (x y : ℕ) (xs ys : List ℕ) → x < y → IsAscending 0 (y ∷ ys) → have_common (x ∷ xs) (y ∷ ys) ≡ have_common xs (y ∷ ys)
have_common-less x y xs ys lt h =
    let no : has_number (y ∷ ys) x ≡ false = has_number-below x y (y ∷ ys) lt (omega arith, h.1) in
    ap (λ b. b || have_common xs (y ∷ ys)) no

-- a number of the second list that is below all of the first changes nothing
pub have_common-below : (y n : ℕ) (xs ys : List ℕ) → y < n → IsAscending n xs → have_common xs (y ∷ ys) ≡ have_common xs ys
have_common-below y n [] ys lt h = refl
have_common-below y n (x ∷ xs) ys lt h =
    let ne : eqb y x ≡ false = ne_eqb y x (λ e. omega (arith, h.0)) in
    rw (ne, have_common-below y (suc x) xs ys (omega (arith, h.0)) h.1) refl

-- the first number of the second list is below all of the first
pub have_common-greater : (x y : ℕ) (xs ys : List ℕ) → y < x → IsAscending 0 (x ∷ xs) → have_common (x ∷ xs) (y ∷ ys) ≡ have_common (x ∷ xs) ys
have_common-greater x y xs ys lt h = have_common-below y x (x ∷ xs) ys lt (omega arith, h.1)

-- what is left behind a place ascends
pub IsAscending-rest : (xs : List ℕ) (i : ℕ) → i < length xs → IsAscending 0 (drop i xs) → IsAscending 0 (drop (i + 1) xs)
IsAscending-rest xs i inside h =
    let parts = rw (drop_more xs i 0 inside) at h in
    IsAscending-lower 0 (suc (get_or xs i 0)) (drop (i + 1) xs) (omega arith) parts.1

-- a number that the second list is above is passed
pub have_common-pass_first : (a b : List ℕ) (i j : ℕ) → i < length a → j < length b → get_or a i 0 < get_or b j 0 → IsAscending 0 (drop j b) → have_common (drop (i + 1) a) (drop j b) ≡ have_common (drop i a) (drop j b)
have_common-pass_first a b i j in_a in_b lt h =
    let parts = rw (drop_more b j 0 in_b) at h in
    let rest_a = drop_more a i 0 in_a in
    let rest_b = drop_more b j 0 in_b in
    ap (have_common (drop (i + 1) a)) rest_b
    ∙ sym (have_common-less (get_or a i 0) (get_or b j 0) (drop (i + 1) a) (drop (j + 1) b) lt parts)
    ∙ sym (λ k. have_common (rest_a k) (rest_b k))

-- a number that the first list is above is passed
pub have_common-pass_second : (a b : List ℕ) (i j : ℕ) → i < length a → j < length b → get_or b j 0 < get_or a i 0 → IsAscending 0 (drop i a) → have_common (drop i a) (drop (j + 1) b) ≡ have_common (drop i a) (drop j b)
have_common-pass_second a b i j in_a in_b lt h =
    let parts = rw (drop_more a i 0 in_a) at h in
    let rest_a = drop_more a i 0 in_a in
    let rest_b = drop_more b j 0 in_b in
    ap (λ xs. have_common xs (drop (j + 1) b)) rest_a
    ∙ sym (have_common-greater (get_or a i 0) (get_or b j 0) (drop (i + 1) a) (drop (j + 1) b) lt parts)
    ∙ sym (λ k. have_common (rest_a k) (rest_b k))

-- nothing is in common with no numbers
pub have_common-nil : (xs : List ℕ) → have_common xs [] ≡ false
have_common-nil [] = refl
have_common-nil (x ∷ xs) = have_common-nil xs
