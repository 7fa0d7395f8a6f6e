-- The sum, the least and the greatest of a block's values, row by row.
use Rattle.std.proofs.Common.{◌≡◌, ℕ, zero, suc, ◌+◌, ◌-◌, ◌*◌, ◌<◌, ◌≤◌, Bool, true, false, cond, List, [], ◌∷◌, ◌++◌, ℤ, pos, drop, fold, get_or, length, take, ◌+ℤ◌, refl, sym, ap, ◌∙◌, arith, zero-add}
use Rattle.std.proofs.lemmas.Grind.{flat_map-append}
use Rattle.std.proofs.lemmas.List.{append-nil}
use Rattle.std.proofs.lemmas.List.Sums.{fold-append}
use Rattle.std.proofs.Math.Seq.{drop-cons}
use Rattle.std.specs.Int.{int_max, int_min}
use Rattle.std.specs.List.{flat_map, range_with_len}
use Rattle.cpl_grid.specs.Blocks.{numbers_below}
use Rattle.cpl_grid.proofs.RangeFacts.{range-suc}
use Rattle.cpl_block.specs.Frames.{IsFrame, first_of, places_in, row_length, value_at, values_in}
use Rattle.cpl_block.specs.Laws.{IsInRows, row_at_places}
use Rattle.cpl_block.specs.Totals.{greatest_of, least_of, total_of}
use Rattle.cpl_block.specs.declared.frame.Frame.{Frame}
use Rattle.cpl_block.proofs.SizeFacts.{row-few}

-- one row more
rows_more : (g : ℕ → List ℤ) (b : ℕ) → flat_map g (numbers_below (b + 1)) ≡ flat_map g (numbers_below b) ++ g b
rows_more g b =
    let next : b + 1 ≡ suc b = omega arith in
    ap (λ k. flat_map g (numbers_below k)) next
    ∙ ap (flat_map g) (range-suc 0 b)
    ∙ flat_map-append g (numbers_below b) ((0 + b) ∷ [])
    ∙ ap (λ xs. flat_map g (numbers_below b) ++ xs) (append-nil (g (0 + b)) ∙ ap g (zero-add b))

-- what a fold comes to with one row more
pub fold-row : (f : ℤ → ℤ → ℤ) (x z r : ℤ) (row : List ℤ) (g : ℕ → List ℤ) (b : ℕ) → z ≡ fold f x (flat_map g (numbers_below b)) → row ≡ g b → r ≡ fold f z row → r ≡ fold f x (flat_map g (numbers_below (b + 1)))
fold-row f x z r row g b so_far row_is is =
    is
    ∙ (λ i. fold f (so_far i) (row_is i))
    ∙ sym (fold-append f x (flat_map g (numbers_below b)) (g b))
    ∙ ap (fold f x) (sym (rows_more g b))

-- a run begins with the value at its first place
run_begins : (w start : ℕ) (field : List ℤ) → 1 ≤ w → start < length field → take w (drop start field) ≡ get_or field start (pos 0) ∷ take (w - 1) (drop (suc start) field)
run_begins zero start field some inside = absurd (omega arith)
run_begins (suc w) start field some inside =
    let less : w ≡ suc w - 1 = omega arith in
    ap (take (suc w)) (drop-cons field start (pos 0) inside)
    ∙ ap (λ k. get_or field start (pos 0) ∷ take k (drop (suc start) field)) less

-- rows begin with the first
rows_begin : (g : ℕ → List ℤ) (h : ℕ) → 1 ≤ h → flat_map g (numbers_below h) ≡ g 0 ++ flat_map g (range_with_len (0 + 1) (h - 1))
rows_begin g zero some = absurd (omega arith)
rows_begin g (suc h) some =
    let less : h ≡ suc h - 1 = omega arith in ap (λ k. g 0 ++ flat_map g (range_with_len (0 + 1) k)) less

-- the values of a block begin with that at its first cell's place
record HasFirst (x : ℤ) (values : List ℤ) : Type 0 where
  rest : List ℤ
  is : values ≡ x ∷ rest

values_begin : (frame : Frame) (field : List ℤ) → IsFrame frame → length field ≡ places_in frame → IsInRows frame → HasFirst (value_at field (first_of frame (pos 0) (pos 0))) (values_in frame field)
values_begin frame field is long rows =
    let some_columns = is.columns in
    let some_rows = is.rows in
    let row = row-few frame 0 is (omega arith) in
    let start = first_of frame (pos 0) (pos 0) + 0 * row_length frame in
    let here : start ≡ first_of frame (pos 0) (pos 0) = omega arith in
    let others = flat_map (row_at_places frame field) (range_with_len (0 + 1) (frame.part.rows.length - 1)) in
    let first = run_begins frame.part.columns.length start field is.columns (omega (arith, row, long, some_columns)) in
    record {
      rest = take (frame.part.columns.length - 1) (drop (suc start) field) ++ others;
      is =
          rows field long
          ∙ rows_begin (row_at_places frame field) frame.part.rows.length is.rows
          ∙ ap (λ xs. xs ++ others) first
          ∙ ap (λ k. get_or field k (pos 0) ∷ (take (frame.part.columns.length - 1) (drop (suc start) field) ++ others)) here;
    }

-- a choice between a number and itself
one_choice : (b : Bool) (x : ℤ) → cond b x x ≡ x
one_choice true x = refl
one_choice false x = refl

least_first : (x : ℤ) (values : List ℤ) → HasFirst x values → fold int_min x values ≡ least_of values
least_first x values first =
    ap (fold int_min x) first.is
    ∙ ap (λ z. fold int_min z first.rest) (one_choice _ x)
    ∙ ap least_of (sym first.is)

greatest_first : (x : ℤ) (values : List ℤ) → HasFirst x values → fold int_max x values ≡ greatest_of values
greatest_first x values first =
    ap (fold int_max x) first.is
    ∙ ap (λ z. fold int_max z first.rest) (one_choice _ x)
    ∙ ap greatest_of (sym first.is)

-- a fold over all rows is one over the values
all_rows : (f : ℤ → ℤ → ℤ) (x z : ℤ) (frame : Frame) (field : List ℤ) (n : ℕ) → length field ≡ places_in frame → IsInRows frame → n ≡ frame.part.rows.length → z ≡ fold f x (flat_map (row_at_places frame field) (numbers_below n)) → z ≡ fold f x (values_in frame field)
all_rows f x z frame field n long rows all is =
    is
    ∙ ap (λ k. fold f x (flat_map (row_at_places frame field) (numbers_below k))) all
    ∙ ap (fold f x) (sym (rows field long))

pub total-all : (z : ℤ) (frame : Frame) (field : List ℤ) (n : ℕ) → length field ≡ places_in frame → IsInRows frame → n ≡ frame.part.rows.length → z ≡ total_of (flat_map (row_at_places frame field) (numbers_below n)) → z ≡ total_of (values_in frame field)
total-all z frame field n = all_rows ◌+ℤ◌ (pos 0) z frame field n

pub least-all : (z : ℤ) (frame : Frame) (field : List ℤ) (n : ℕ) → IsFrame frame → length field ≡ places_in frame → IsInRows frame → n ≡ frame.part.rows.length → z ≡ fold int_min (value_at field (first_of frame (pos 0) (pos 0))) (flat_map (row_at_places frame field) (numbers_below n)) → z ≡ least_of (values_in frame field)
least-all z frame field n frame_is long rows all is =
    all_rows int_min (value_at field (first_of frame (pos 0) (pos 0))) z frame field n long rows all is
    ∙ least_first _ (values_in frame field) (values_begin frame field frame_is long rows)

pub greatest-all : (z : ℤ) (frame : Frame) (field : List ℤ) (n : ℕ) → IsFrame frame → length field ≡ places_in frame → IsInRows frame → n ≡ frame.part.rows.length → z ≡ fold int_max (value_at field (first_of frame (pos 0) (pos 0))) (flat_map (row_at_places frame field) (numbers_below n)) → z ≡ greatest_of (values_in frame field)
greatest-all z frame field n frame_is long rows all is =
    all_rows int_max (value_at field (first_of frame (pos 0) (pos 0))) z frame field n long rows all is
    ∙ greatest_first _ (values_in frame field) (values_begin frame field frame_is long rows)
