-- Members of lists, lists that were lent, and the cells of a block.
use Rattle.std.proofs.Common.{◌≡◌, ◌≢◌, ◌∙◌, ℕ, ◌<◌, false, ◌==◌, List, ◌++◌, length, get_or, take, drop, Some, refl, sym, ap}
use Rattle.std.proofs.lemmas.Bool.{eq-eqb, false≢true}
use Rattle.std.proofs.lemmas.List.{length-map}
use Rattle.std.proofs.lemmas.List.Folds.{list_any_at}
use Rattle.std.proofs.lemmas.Option.{get_or_from_slice_get, slice_get_read}
use Rattle.std.specs.List.{All, slice_get}
use Rattle.cpl_block.specs.Frames.{home_of}
use Rattle.cpl_block.specs.declared.frame.Frame.{Frame}
use Rattle.cpl_comp.specs.Turns.{is_among}
use Rattle.cpl_grid.specs.Parts.{cells_of_part}
use Rattle.cpl_phase.specs.Rooms.{cell_count}
use Rattle.cpl_phase.specs.Sites.{AreSites}
use Rattle.cpl_phase.specs.declared.sites.Sites.{Sites}
use lib.Seq.{take-append_seam}

-- what was read at a place of the same list stands there
pub read-member : {A : Type 0} (xs ys : List A) (k : ℕ) (x : A) → ys ≡ xs → x ≡ get_or ys k x → k < length xs → slice_get xs k ≡ Some x
read-member xs ys k x same is below = slice_get_read xs (length xs) k x refl below (is ∙ ap (λ zs. get_or zs k x) same)

-- only one stands there
pub same-member : {A : Type 0} (xs : List A) (k : ℕ) (x y : A) → slice_get xs k ≡ Some x → slice_get xs k ≡ Some y → x ≡ y
same-member xs k x y one two = sym (get_or_from_slice_get xs k x x one) ∙ get_or_from_slice_get xs k y x two

-- a number that isn't among others differs from each
pub not-among : (numbers : List ℕ) (k : ℕ) → is_among numbers k ≡ false → All (λ j. k ≢ j) numbers
not-among numbers k none = λ i d inside same.
    false≢true (sym none ∙ list_any_at (λ j. j == k) numbers i d inside (eq-eqb (get_or numbers i d) k (sym same)))

-- a list that was lent whole, and came back as long as it was
pub back-same : {A : Type 0} (old new : List A) → length new ≡ length old → take (length old) (new ++ drop (length new) old) ≡ new
back-same old new same =
    ap (λ n. take n (new ++ drop (length new) old)) (sym same) ∙ take-append_seam new (drop (length new) old)

-- a block has as many places as cells
pub homes-count : (frame : Frame) (sites : Sites) → AreSites frame sites → cell_count frame ≡ length sites.homes.items
homes-count frame sites are = sym (ap length are.homes ∙ length-map (cells_of_part frame.grid frame.part) (home_of frame))
