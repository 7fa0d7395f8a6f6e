-- Images of source values: what a row takes, one cell more, and images over the cells of a grid.
use Rattle.std.proofs.Common.{◌≡◌, ℕ, zero, suc, ◌+◌, ◌-◌, ◌<◌, ◌≤◌, List, [], ◌∷◌, ◌++◌, ℤ, pos, Option, None, get_or, length, map, set, take, refl, sym, ap, subst, ◌∙◌, arith}
use Rattle.std.specs.List.{All, range_with_len}
use Rattle.std.proofs.lemmas.List.{ext_get_or, length-set, take_more_set}
use Rattle.std.proofs.lemmas.List.Elements.{All-append, All-map}
use Rattle.std.proofs.lemmas.List.FromFn.{get_or-map-range_with_len, length-map-range_with_len, map-range_with_len_more}
use Rattle.cpl_base.specs.Numbers.{IsValue}
use Rattle.cpl_comp.specs.Worlds.{cell_value, over_cells}
use Rattle.cpl_grid.specs.Grid.{cells_in}
use Rattle.cpl_grid.specs.Owners.{Layout}
use Rattle.cpl_script.specs.Transfers.{image_at}
use Rattle.cpl_smm.specs.Rows.{Entry, IsRow, Table}
use Rattle.cpl_serial.specs.Images.{IsImagedTo, gathered_value, row_value}

-- ---- a row

-- a number from 1 on, as a place from 0 on
in_place : (s n : ℕ) → 1 ≤ s → s ≤ n → s - 1 < n
in_place s n from to = omega arith

-- what a row takes of values are values
pub gathered-values : (row : List Entry) (source : List ℤ) → IsRow (length source) row → All IsValue source → All IsValue (map (gathered_value source) row)
gathered-values row source is values =
    All-map IsValue (gathered_value source) row (λ i d below.
    let entry = is.sources i d below in
    values ((get_or row i d).0 - 1) (pos 0) (in_place (get_or row i d).0 (length source) entry.0 entry.1))

-- ---- one cell more

-- a list of one value
one-value : (v : ℤ) → IsValue v → All IsValue (v ∷ [])
one-value v is zero d below = is
one-value v is (suc i) d below = absurd (omega (arith, below))

-- the image of one cell more
pub image-next : (table : Table) (source old now : List ℤ) (k : ℕ) (v : ℤ) → k < length now → IsValue v → v ≡ row_value table source (k + 1) → IsImagedTo k table source old now → IsImagedTo (k + 1) table source old (set now k v)
image-next table source old now k v below within is so_far =
    let more = take_more_set now k v below in
    let next : 1 + k ≡ k + 1 = omega arith in
    record {
      values = more ∙ (λ i. so_far.values i ++ is i ∷ []) ∙ sym (map-range_with_len_more (row_value table source) 1 k (k + 1) next);
      within = subst (All IsValue) (sym more) (All-append IsValue (take k now) (v ∷ []) so_far.within (one-value v within));
      count = length-set now k v ∙ so_far.count;
    }

-- ---- whole grids

-- the numbers of a list, by the places from 1 on
values-again : (source : List ℤ) (n : ℕ) → length source ≡ n → map (cell_value source) (range_with_len 1 n) ≡ source
values-again source n fits =
    ext_get_or (pos 0) (map (cell_value source) (range_with_len 1 n)) source (length-map-range_with_len (cell_value source) 1 n ∙ sym fits) (λ i inside.
    let below : i < n = rw length-map-range_with_len at inside in
    let same : 1 + i - 1 ≡ i = omega arith in
    get_or-map-range_with_len (cell_value source) 1 n i (1 + i) (pos 0) below refl ∙ ap (λ k. get_or source k (pos 0)) same)

-- equal cells take the values themselves
pub image-equal : (weights : Option Table) (source image : List ℤ) (n : ℕ) → weights ≡ None → length source ≡ n → image ≡ source → image ≡ map (image_at weights (cell_value source)) (range_with_len 1 n)
image-equal weights source image n none fits is =
    is ∙ sym (values-again source n fits) ∙ ap (λ (w : Option Table). map (image_at w (cell_value source)) (range_with_len 1 n)) (sym none)

-- the images at the cells of a grid
pub image-over_cells : (layout : Layout) (weights : Option Table) (source image : List ℤ) (n : ℕ) → cells_in layout.grid ≡ n → image ≡ map (image_at weights (cell_value source)) (range_with_len 1 n) → image ≡ over_cells layout (image_at weights (cell_value source))
unfolding over_cells
image-over_cells layout weights source image n fits is =
    is ∙ ap (λ k. map (image_at weights (cell_value source)) (range_with_len 1 k)) (sym fits)
