-- Cells of a box of columns and rows: what a filter keeps of all cells, where it keeps those of a box.
use Rattle.std.proofs.Common.{◌≡◌, ℕ, zero, suc, ◌+◌, ◌-◌, ◌*◌, ◌<◌, ◌≤◌, Bool, true, List, [], ◌∷◌, ◌++◌, length, filter, Some, refl, sym, ap, ◌∙◌, inl, inr, ◌⊎◌, arith, length-append}
use Rattle.std.proofs.lemmas.List.{append-nil}
use Rattle.std.specs.Prelude.{slice_get}
use Rattle.std.specs.List.{flat_map, range_with_len}
use Rattle.std.proofs.lemmas.Bool.{false_from_ne_true}
use Rattle.cpl_grid.proofs.RangeFacts.{filter-range_all, filter-range_append, filter-range_none}

-- what stands in the first of two lists
slice_get-append_left : (xs ys : List ℕ) (k s : ℕ) → slice_get xs k ≡ Some s → slice_get (xs ++ ys) k ≡ Some s
slice_get-append_left [] ys k s is = absurd (cc)
slice_get-append_left (x ∷ xs) ys zero s is = is
slice_get-append_left (x ∷ xs) ys (suc k) s is = slice_get-append_left xs ys k s is

-- what stands in the second
slice_get-append_right : (xs ys : List ℕ) (k l : ℕ) → l ≡ length xs + k → slice_get (xs ++ ys) l ≡ slice_get ys k
slice_get-append_right [] ys k l at = ap (slice_get ys) (omega arith)
slice_get-append_right (x ∷ xs) ys k zero at = absurd (omega arith)
slice_get-append_right (x ∷ xs) ys k (suc l) at = slice_get-append_right xs ys k l (omega arith)

-- how long rows of w numbers are together
pub length-rows : (f : ℕ → List ℕ) (w a h : ℕ) → ((j : ℕ) → length (f j) ≡ w) → length (flat_map f (range_with_len a h)) ≡ w * h
length-rows f w a zero wide = omega arith
length-rows f w a (suc h) wide =
    length-append (f a) (flat_map f (range_with_len (a + 1) h)) ∙ rw (wide a, length-rows f w (a + 1) h wide) (omega arith)

-- a number of a row, by its place among all
pub slice_get-rows : (f : ℕ → List ℕ) (w a h i j s : ℕ) → ((k : ℕ) → length (f k) ≡ w) → j < h → slice_get (f (a + j)) i ≡ Some s → slice_get (flat_map f (range_with_len a h)) (i + j * w) ≡ Some s
slice_get-rows f w a zero i j s wide below is = absurd (omega arith)
slice_get-rows f w a (suc h) i zero s wide below is =
    let here : a + 0 ≡ a = omega arith in
    let at : i + 0 * w ≡ i = omega arith in
    let first : slice_get (f a) i ≡ Some s = rw here at is in
    rw at (slice_get-append_left (f a) (flat_map f (range_with_len (a + 1) h)) i s first)
slice_get-rows f w a (suc h) i (suc j) s wide below is =
    let next : a + suc j ≡ a + 1 + j = omega arith in
    let at : i + suc j * w ≡ length (f a) + (i + j * w) = rw (wide a) (omega arith) in
    let rest : slice_get (f (a + 1 + j)) i ≡ Some s = rw next at is in
    slice_get-append_right (f a) (flat_map f (range_with_len (a + 1) h)) (i + j * w) (i + suc j * w) at
    ∙ slice_get-rows f w (a + 1) h i j s wide (omega arith) rest

-- the cells that pass are those of a box: w columns from x on and h rows from y on
pub record IsBox (p : ℕ → Bool) (nx ny x w y h : ℕ) : Type 0 where
  pub columns : x + w ≤ nx
  pub rows : y + h ≤ ny
  pub has : (i j : ℕ) → x ≤ i → i < x + w → y ≤ j → j < y + h → p (1 + j * nx + i) ≡ true
  pub only : (i j : ℕ) → i < nx → j < ny → p (1 + j * nx + i) ≡ true → (x ≤ i) × (i < x + w) × (y ≤ j) × (j < y + h)

-- in other columns of a row no cell passes
none_in_columns : (p : ℕ → Bool) (nx ny x w y h j a b n : ℕ) → IsBox p nx ny x w y h → j < ny → b ≡ 1 + j * nx + a → a + n ≤ nx → (a + n ≤ x) ⊎ (x + w ≤ a) → filter p (range_with_len b n) ≡ []
none_in_columns p nx ny x w y h j a b n box row at within other =
    filter-range_none p b n (λ s from to. false_from_ne_true (p s) (λ passes.
    let i = s - (1 + j * nx) in
    let is : s ≡ 1 + j * nx + i = omega arith in
    let inside = box.only i j (omega arith) row (rw is at passes) in omega arith))

-- in a row of the box its columns pass
filter-row : (p : ℕ → Bool) (nx ny x w y h j : ℕ) → IsBox p nx ny x w y h → y ≤ j → j < y + h → filter p (range_with_len (1 + j * nx) nx) ≡ range_with_len (1 + j * nx + x) w
filter-row p nx ny x w y h j box below above =
    let columns = box.columns in
    let rows = box.rows in
    let start = 1 + j * nx in
    let e = nx - (x + w) in
    let all : nx ≡ x + (w + e) = omega arith in
    let left = none_in_columns p nx ny x w y h j 0 start x box (omega arith) (omega arith) (omega arith) (inl (omega arith)) in
    let right = none_in_columns p nx ny x w y h j (x + w) (start + x + w) e box (omega arith) (omega arith) (omega arith) (inr (omega arith)) in
    let middle = filter-range_all p (start + x) w (λ s from to.
    let i = s - start in
    let is : s ≡ 1 + j * nx + i = omega arith in
    let passes = box.has i j (omega arith) (omega arith) below above in rw is passes) in
    ap (λ k. filter p (range_with_len start k)) all
    ∙ filter-range_append p start x (w + e)
    ∙ ap (λ xs. xs ++ filter p (range_with_len (start + x) (w + e))) left
    ∙ filter-range_append p (start + x) w e
    ∙ ap (λ xs. filter p (range_with_len (start + x) w) ++ xs) right
    ∙ append-nil (filter p (range_with_len (start + x) w))
    ∙ middle

-- what passes in rows that follow one another, from what passes in each
filter-each_row : (p : ℕ → Bool) (f : ℕ → List ℕ) (nx b a n : ℕ) → ((j : ℕ) → a ≤ j → j < a + n → filter p (range_with_len (1 + (b + j) * nx) nx) ≡ f j) → filter p (range_with_len (1 + (b + a) * nx) (n * nx)) ≡ flat_map f (range_with_len a n)
filter-each_row p f nx b a zero each =
    let none : zero * nx ≡ 0 = omega arith in
    rw none refl
filter-each_row p f nx b a (suc n) each =
    let more : suc n * nx ≡ nx + n * nx = omega arith in
    let next : 1 + (b + a) * nx + nx ≡ 1 + (b + (a + 1)) * nx = omega arith in
    let start = 1 + (b + a) * nx in
    let rest = filter-each_row p f nx b (a + 1) n (λ j from to. each j (omega arith) (omega arith)) in
    ap (λ k. filter p (range_with_len start k)) more
    ∙ filter-range_append p start nx (n * nx)
    ∙ ap (λ k. filter p (range_with_len start nx) ++ filter p (range_with_len k (n * nx))) next
    ∙ ap (λ xs. xs ++ filter p (range_with_len (1 + (b + (a + 1)) * nx) (n * nx))) (each a (omega arith) (omega arith))
    ∙ ap (λ xs. f a ++ xs) rest

-- a row without numbers
no_row : ℕ → List ℕ
no_row j = []

-- rows without numbers
flat_map-no_row : (xs : List ℕ) → flat_map no_row xs ≡ []
unfolding no_row
flat_map-no_row [] = refl
flat_map-no_row (x ∷ xs) = flat_map-no_row xs

-- in other rows no cell passes
none_in_rows : (p : ℕ → Bool) (nx ny x w y h a n : ℕ) → IsBox p nx ny x w y h → a + n ≤ ny → (a + n ≤ y) ⊎ (y + h ≤ a) → filter p (range_with_len (1 + a * nx) (n * nx)) ≡ []
unfolding no_row
none_in_rows p nx ny x w y h a n box within other =
    let each : (j : ℕ) → 0 ≤ j → j < 0 + n → filter p (range_with_len (1 + (a + j) * nx) nx) ≡ no_row j = λ j from to.
    filter-range_none p (1 + (a + j) * nx) nx (λ s at_least below. false_from_ne_true (p s) (λ passes.
    let i = s - (1 + (a + j) * nx) in
    let is : s ≡ 1 + (a + j) * nx + i = omega arith in
    let inside = box.only i (a + j) (omega arith) (omega arith) (rw is at passes) in omega arith)) in
    let start : 1 + a * nx ≡ 1 + (a + 0) * nx = omega arith in
    ap (λ k. filter p (range_with_len k (n * nx))) start
    ∙ filter-each_row p no_row nx a 0 n each
    ∙ flat_map-no_row (range_with_len 0 n)

-- what passes are the rows of the box, end to end
pub filter-box : (p : ℕ → Bool) (f : ℕ → List ℕ) (nx ny x w y h : ℕ) → IsBox p nx ny x w y h → ((j : ℕ) → f j ≡ range_with_len (1 + (y + j) * nx + x) w) → filter p (range_with_len 1 (nx * ny)) ≡ flat_map f (range_with_len 0 h)
filter-box p f nx ny x w y h box row =
    let rows = box.rows in
    let e = ny - (y + h) in
    let all : ny ≡ y + (h + e) = omega arith in
    let cells : nx * (y + (h + e)) ≡ y * nx + (h * nx + e * nx) = omega arith in
    let first : 1 ≡ 1 + 0 * nx = omega arith in
    let second : 1 + y * nx ≡ 1 + (y + 0) * nx = omega arith in
    let third : 1 + y * nx + h * nx ≡ 1 + (y + h) * nx = omega arith in
    let above = none_in_rows p nx ny x w y h 0 y box (omega arith) (inl (omega arith)) in
    let below = none_in_rows p nx ny x w y h (y + h) e box (omega arith) (inr (omega arith)) in
    let each : (j : ℕ) → 0 ≤ j → j < 0 + h → filter p (range_with_len (1 + (y + j) * nx) nx) ≡ f j = λ j from to.
    filter-row p nx ny x w y h (y + j) box (omega arith) (omega arith) ∙ sym (row j) in
    let inside = filter-each_row p f nx y 0 h each in
    ap (λ k. filter p (range_with_len 1 (nx * k))) all
    ∙ ap (λ k. filter p (range_with_len 1 k)) cells
    ∙ filter-range_append p 1 (y * nx) (h * nx + e * nx)
    ∙ ap (λ k. filter p (range_with_len k (y * nx)) ++ filter p (range_with_len (1 + y * nx) (h * nx + e * nx))) first
    ∙ ap (λ xs. xs ++ filter p (range_with_len (1 + y * nx) (h * nx + e * nx))) above
    ∙ filter-range_append p (1 + y * nx) (h * nx) (e * nx)
    ∙ ap (λ k. filter p (range_with_len (1 + y * nx) (h * nx)) ++ filter p (range_with_len k (e * nx))) third
    ∙ ap (λ xs. filter p (range_with_len (1 + y * nx) (h * nx)) ++ xs) below
    ∙ append-nil (filter p (range_with_len (1 + y * nx) (h * nx)))
    ∙ ap (λ k. filter p (range_with_len k (h * nx))) second
    ∙ inside
