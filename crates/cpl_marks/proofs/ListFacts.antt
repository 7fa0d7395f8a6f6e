-- Lists picked and changed, one member after another.
use Rattle.std.proofs.Common.{◌≡◌, ℕ, suc, zero, ◌+◌, ◌<◌, Bool, true, false, cond, List, [], ◌∷◌, ◌++◌, get_or, length, set, take, Option, Some, None, refl, sym, ap, ◌∙◌, arith}
use Rattle.std.proofs.lemmas.List.{append-nil, length-take, take_more}
use Rattle.std.proofs.lemmas.List.Elements.{filter-append, filter_map-append}
use Rattle.std.proofs.lemmas.List.Sums.{fold-append}
use Rattle.std.specs.Prelude.{ℤ}
use Rattle.std.specs.List.{cons_option, enumerate_from, filter, filter_map, flat_map, range_with_len}
use Rattle.std.specs.Option.{option_map_or, option_to_list}
use Rattle.cpl_comp.specs.Marks.{stamps_at}
use Rattle.cpl_comp.specs.Worlds.{changed}

-- ---- numbers

-- one number more behind others
range_with_len-suc : (a n : ℕ) → range_with_len a (suc n) ≡ range_with_len a n ++ (a + n) ∷ []
range_with_len-suc a zero = let same : a ≡ a + 0 = omega arith in ap (λ k. k ∷ []) same
range_with_len-suc a (suc n) =
    let same : (a + 1) + n ≡ a + suc n = omega arith in
    ap (λ (ks : List ℕ). a ∷ ks) (range_with_len-suc (a + 1) n ∙ ap (λ k. range_with_len (a + 1) n ++ k ∷ []) same)

-- one number more behind those from 0
range_with_len-next : (k : ℕ) → range_with_len 0 k ++ k ∷ [] ≡ range_with_len 0 (k + 1)
range_with_len-next k =
    let same : k ≡ 0 + k = omega arith in
    let next : suc k ≡ k + 1 = omega arith in
    ap (λ j. range_with_len 0 k ++ j ∷ []) same ∙ sym (range_with_len-suc 0 k) ∙ ap (range_with_len 0) next

-- members with their numbers, and one more
enumerate_from-push : {A : Type 0} (n : ℕ) (xs : List A) (x : A) → enumerate_from n (xs ++ x ∷ []) ≡ enumerate_from n xs ++ (n + length xs, x) ∷ []
enumerate_from-push n [] x = let same : n ≡ n + 0 = omega arith in ap (λ k. (k, x) ∷ []) same
enumerate_from-push n (y ∷ ys) x =
    let same : (n + 1) + length ys ≡ n + suc (length ys) = omega arith in
    ap (λ zs. (n, y) ∷ zs) (enumerate_from-push (n + 1) ys x ∙ ap (λ k. enumerate_from (n + 1) ys ++ (k, x) ∷ []) same)

-- ---- what is picked

-- a member more, whether or not it passes the test
filter-next : {A : Type 0} (test : A → Bool) (xs : List A) (x : A) → filter test (xs ++ x ∷ []) ≡ filter test xs ++ cond (test x) (x ∷ []) []
filter-next test xs x = filter-append test xs (x ∷ [])

-- a member that passes the test
filter-passes : {A : Type 0} (test : A → Bool) (xs done after : List A) (x : A) → test x ≡ true → done ≡ filter test xs → after ≡ done ++ x ∷ [] → after ≡ filter test (xs ++ x ∷ [])
filter-passes {A} test xs done after x passes is more =
    more ∙ ap (λ (ys : List A). ys ++ x ∷ []) is ∙ ap (λ b. filter test xs ++ cond b (x ∷ []) []) (sym passes) ∙ sym (filter-next test xs x)

-- and one that doesn't
filter-fails : {A : Type 0} (test : A → Bool) (xs done : List A) (x : A) → test x ≡ false → done ≡ filter test xs → done ≡ filter test (xs ++ x ∷ [])
filter-fails test xs done x fails is =
    is ∙ sym (append-nil (filter test xs)) ∙ ap (λ b. filter test xs ++ cond b (x ∷ []) []) (sym fails) ∙ sym (filter-next test xs x)

-- one number more that passes the test
pub filter-range_passes : (test : ℕ → Bool) (k : ℕ) (done after : List ℕ) → test k ≡ true → done ≡ filter test (range_with_len 0 k) → after ≡ done ++ k ∷ [] → after ≡ filter test (range_with_len 0 (k + 1))
filter-range_passes test k done after passes is more =
    filter-passes test (range_with_len 0 k) done after k passes is more ∙ ap (filter test) (range_with_len-next k)

-- and one that doesn't
pub filter-range_fails : (test : ℕ → Bool) (k : ℕ) (done : List ℕ) → test k ≡ false → done ≡ filter test (range_with_len 0 k) → done ≡ filter test (range_with_len 0 (k + 1))
filter-range_fails test k done fails is =
    filter-fails test (range_with_len 0 k) done k fails is ∙ ap (filter test) (range_with_len-next k)

-- one member more of a list that passes the test
pub filter-take_passes : (test : ℕ → Bool) (xs : List ℕ) (k d : ℕ) (done after : List ℕ) → k < length xs → test (get_or xs k d) ≡ true → done ≡ filter test (take k xs) → after ≡ done ++ get_or xs k d ∷ [] → after ≡ filter test (take (k + 1) xs)
filter-take_passes test xs k d done after below passes so_far more =
    filter-passes test (take k xs) done after (get_or xs k d) passes so_far more ∙ ap (filter test) (sym (take_more xs k d below))

-- and one that doesn't
pub filter-take_fails : (test : ℕ → Bool) (xs : List ℕ) (k d : ℕ) (done : List ℕ) → k < length xs → test (get_or xs k d) ≡ false → done ≡ filter test (take k xs) → done ≡ filter test (take (k + 1) xs)
filter-take_fails test xs k d done below fails so_far =
    filter-fails test (take k xs) done (get_or xs k d) fails so_far ∙ ap (filter test) (sym (take_more xs k d below))

-- an answer in front of none
cons_option-nil : {B : Type 0} (o : Option B) → cons_option o [] ≡ option_to_list o
cons_option-nil None = refl
cons_option-nil (Some y) = refl

-- what is found of one that may be picked, and of others
flat_map-picked : {B C : Type 0} (g : B → List C) (o : Option B) (ys : List B) → option_map_or g o [] ++ flat_map g ys ≡ flat_map g (cons_option o ys)
flat_map-picked g None ys = refl
flat_map-picked g (Some y) ys = refl

-- what is found in a list of what is picked
pub flat_map-filter_map : {A B C : Type 0} (f : A → List C) (g : B → List C) (pick : A → Option B) → ((x : A) → f x ≡ option_map_or g (pick x) []) → (xs : List A) → flat_map f xs ≡ flat_map g (filter_map pick xs)
flat_map-filter_map f g pick same [] = refl
flat_map-filter_map f g pick same (x ∷ xs) =
    (λ i. same x i ++ flat_map-filter_map f g pick same xs i) ∙ flat_map-picked g (pick x) (filter_map pick xs)

-- what is picked of numbered members, and of one more
pub filter_map-take : {A B : Type 0} (pick : ℕ × A → Option B) (xs : List A) (k : ℕ) (d : A) → k < length xs
    → filter_map pick (enumerate_from 0 (take (k + 1) xs)) ≡ filter_map pick (enumerate_from 0 (take k xs)) ++ option_to_list (pick (k, get_or xs k d))
filter_map-take {A} {B} pick xs k d below =
    let number : 0 + length (take k xs) ≡ k = omega (arith, length-take k xs) in
    ap (λ ys. filter_map pick (enumerate_from 0 ys)) (take_more xs k d below)
    ∙ ap (filter_map pick) (enumerate_from-push 0 (take k xs) (get_or xs k d))
    ∙ ap (λ n. filter_map pick (enumerate_from 0 (take k xs) ++ (n, get_or xs k d) ∷ [])) number
    ∙ filter_map-append pick (enumerate_from 0 (take k xs)) ((k, get_or xs k d) ∷ [])
    ∙ ap (λ (zs : List B). filter_map pick (enumerate_from 0 (take k xs)) ++ zs) (cons_option-nil (pick (k, get_or xs k d)))

-- ---- what is changed

-- a list with another member at a place
changed-set : {A : Type 0} (y : A) (k : ℕ) (xs : List A) → changed (λ x. y) k xs ≡ set xs k y
changed-set y k [] = refl
changed-set y zero (x ∷ xs) = refl
changed-set y (suc k) (x ∷ xs) = ap (λ ys. x ∷ ys) (changed-set y k xs)

-- one stamp more
pub stamps-next : (time : ℤ) (stamps now : List (Option ℤ)) (places : List ℕ) (k d : ℕ) → k < length places → now ≡ stamps_at time stamps (take k places)
    → set now (get_or places k d) (Some time) ≡ stamps_at time stamps (take (k + 1) places)
stamps-next time stamps now places k d below is =
    let one : List (Option ℤ) → ℕ → List (Option ℤ) = λ xs k. changed (λ stamp. Some time) k xs in
    let place = get_or places k d in
    sym (changed-set (Some time) place now) ∙ ap (λ xs. changed (λ stamp. Some time) place xs) is
    ∙ sym (fold-append one stamps (take k places) (place ∷ []))
    ∙ ap (stamps_at time stamps) (sym (take_more places k d below))
