-- What is picked from a list, one member after another.
use Rattle.std.proofs.Common.{◌≡◌, ℕ, suc, zero, ◌+◌, ◌<◌, Bool, true, false, cond, List, [], ◌∷◌, ◌++◌, length, get_or, take, Option, Some, None, refl, sym, ap, ◌∙◌, arith}
use Rattle.std.proofs.lemmas.List.{append-nil, take_more}
use Rattle.std.proofs.lemmas.List.Elements.{filter-append, filter_map-append}
use Rattle.std.specs.List.{cons_option, filter, filter_map, range_with_len, slice_get}
use Rattle.std.specs.Option.{option_to_list}

-- one number more behind others
range_with_len-suc : (a n : ℕ) → range_with_len a (suc n) ≡ range_with_len a n ++ (a + n) ∷ []
range_with_len-suc a zero = let same : a ≡ a + 0 = omega arith in ap (λ k. k ∷ []) same
range_with_len-suc a (suc n) =
    let same : (a + 1) + n ≡ a + suc n = omega arith in
    ap (λ (ks : List ℕ). a ∷ ks) (range_with_len-suc (a + 1) n ∙ ap (λ k. range_with_len (a + 1) n ++ k ∷ []) same)

-- one number more behind those from 0
range_with_len-next : (k : ℕ) → range_with_len 0 k ++ k ∷ [] ≡ range_with_len 0 (k + 1)
range_with_len-next k =
    let same : k ≡ 0 + k = omega arith in
    let next : suc k ≡ k + 1 = omega arith in
    ap (λ j. range_with_len 0 k ++ j ∷ []) same ∙ sym (range_with_len-suc 0 k) ∙ ap (range_with_len 0) next

module _ {A : Type 0} (test : A → Bool) where
  -- a member more that passes the test
  pub filter-passes : (xs done after : List A) (x : A) → test x ≡ true → done ≡ filter test xs → after ≡ done ++ x ∷ [] → after ≡ filter test (xs ++ x ∷ [])
  filter-passes xs done after x passes is more =
      more ∙ ap (λ (ys : List A). ys ++ x ∷ []) is ∙ ap (λ b. filter test xs ++ cond b (x ∷ []) []) (sym passes) ∙ sym (filter-append test xs (x ∷ []))

  -- and one that doesn't
  pub filter-fails : (xs done : List A) (x : A) → test x ≡ false → done ≡ filter test xs → done ≡ filter test (xs ++ x ∷ [])
  filter-fails xs done x fails is =
      is ∙ sym (append-nil (filter test xs)) ∙ ap (λ b. filter test xs ++ cond b (x ∷ []) []) (sym fails) ∙ sym (filter-append test xs (x ∷ []))

-- one number more that passes the test
pub filter-range_passes : (test : ℕ → Bool) (k : ℕ) (done after : List ℕ) → test k ≡ true → done ≡ filter test (range_with_len 0 k) → after ≡ done ++ k ∷ [] → after ≡ filter test (range_with_len 0 (k + 1))
filter-range_passes test k done after passes is more =
    filter-passes test (range_with_len 0 k) done after k passes is more ∙ ap (filter test) (range_with_len-next k)

-- and one that doesn't
pub filter-range_fails : (test : ℕ → Bool) (k : ℕ) (done : List ℕ) → test k ≡ false → done ≡ filter test (range_with_len 0 k) → done ≡ filter test (range_with_len 0 (k + 1))
filter-range_fails test k done fails is =
    filter-fails test (range_with_len 0 k) done k fails is ∙ ap (filter test) (range_with_len-next k)

-- the members up to one
take-member : {A : Type 0} (xs : List A) (k : ℕ) (x : A) → slice_get xs k ≡ Some x → take (k + 1) xs ≡ take k xs ++ x ∷ []
take-member [] k x is = absurd (cc)
take-member (y ∷ ys) zero x is = let same : y ≡ x = cc in ap (λ z. z ∷ []) same
take-member (y ∷ ys) (suc k) x is = let next : suc k + 1 ≡ suc (k + 1) = omega arith in ap (λ n. take n (y ∷ ys)) next ∙ ap (λ (zs : List _). y ∷ zs) (take-member ys k x is)

-- one member more of a list that passes the test
pub filter-take_passes : {A : Type 0} (test : A → Bool) (xs : List A) (k : ℕ) (x : A) (done after : List A) → slice_get xs k ≡ Some x → test x ≡ true → done ≡ filter test (take k xs) → after ≡ done ++ x ∷ [] → after ≡ filter test (take (k + 1) xs)
filter-take_passes test xs k x done after there passes so_far more =
    filter-passes test (take k xs) done after x passes so_far more ∙ ap (filter test) (sym (take-member xs k x there))

-- and one that doesn't
pub filter-take_fails : {A : Type 0} (test : A → Bool) (xs : List A) (k : ℕ) (x : A) (done : List A) → slice_get xs k ≡ Some x → test x ≡ false → done ≡ filter test (take k xs) → done ≡ filter test (take (k + 1) xs)
filter-take_fails test xs k x done there fails so_far =
    filter-fails test (take k xs) done x fails so_far ∙ ap (filter test) (sym (take-member xs k x there))

-- an answer in front of none
cons_option-nil : {B : Type 0} (o : Option B) → cons_option o [] ≡ option_to_list o
cons_option-nil None = refl
cons_option-nil (Some y) = refl

-- the answers of one member more of a list
pub filter_map-take : {A B : Type 0} (f : A → Option B) (xs : List A) (k : ℕ) (x : A) → k < length xs → x ≡ get_or xs k x → filter_map f (take (k + 1) xs) ≡ filter_map f (take k xs) ++ option_to_list (f x)
filter_map-take {A} {B} f xs k x there is =
    ap (filter_map f) (take_more xs k x there) ∙ filter_map-append f (take k xs) (get_or xs k x ∷ []) ∙ ap (λ y. filter_map f (take k xs) ++ filter_map f (y ∷ [])) (sym is)
    ∙ ap (λ (zs : List B). filter_map f (take k xs) ++ zs) (cons_option-nil (f x))
