-- Values of the cells of a block, gathered from their places and scattered to them.
use Rattle.std.proofs.Common.{◌≡◌, ℕ, ◌+◌, ◌<◌, ◌≤◌, List, [], ◌∷◌, ℤ, pos, get_or, length, map, refl, set, sym, ap, ◌∙◌, inl, inr, arith}
use Rattle.std.proofs.lemmas.Bool.{cases_eq}
use Rattle.std.proofs.lemmas.List.{get_or-map, get_or-set_other, get_or-set_same, length-map, same_lists}
use Rattle.std.specs.Prelude.{slice_index}
use Rattle.cpl_block.specs.Frames.{home_of, stands_for, value_at, values_in}
use Rattle.cpl_block.specs.declared.frame.Frame.{Frame}
use Rattle.cpl_grid.specs.Parts.{cells_of_part}
use Rattle.cpl_phase.specs.Sites.{AreSites}
use Rattle.cpl_phase.specs.declared.sites.Sites.{Sites}

-- one function after another
map-twice : (f : ℕ → ℤ) (g : ℕ → ℕ) (xs : List ℕ) → map f (map g xs) ≡ map (λ x. f (g x)) xs
map-twice f g [] = refl
map-twice f g (x ∷ xs) = λ i. f (g x) ∷ map-twice f g xs i

module _ (frame : Frame) (sites : Sites) (are : AreSites frame sites) where
  -- what stands at the places of the cells
  pub at-homes : (field : List ℤ) → map (value_at field) sites.homes.items ≡ values_in frame field
  at-homes field = ap (map (value_at field)) are.homes ∙ map-twice (value_at field) (home_of frame) (cells_of_part frame.grid frame.part)

  -- as many places as cells
  pub many-homes : length sites.homes.items ≡ length sites.cells.items
  many-homes = sym (length-map sites.homes.items (stands_for frame)) ∙ ap length (are.stands ∙ sym are.listed)

  -- the cell of a place
  cell-of : (j : ℕ) → j < length sites.homes.items → stands_for frame (slice_index sites.homes.items j) ≡ slice_index sites.cells.items j
  cell-of j inside =
      sym (get_or-map (stands_for frame) sites.homes.items j 0 0 inside) ∙ ap (λ xs. get_or xs j 0) (are.stands ∙ sym are.listed)

  -- one value more is at its place
  pub scattered-more : (value : ℕ → ℤ) (k : ℕ) (cells field : List ℤ) → cells ≡ map value sites.cells.items → k < length sites.homes.items
      → slice_index sites.homes.items k < length field
      → ((j : ℕ) → j < k → value_at field (slice_index sites.homes.items j) ≡ value (slice_index sites.cells.items j))
      → (j : ℕ) → j < k + 1 → value_at (set field (slice_index sites.homes.items k) (get_or cells k (pos 0)))
      (slice_index sites.homes.items j) ≡ value (slice_index sites.cells.items j)
  scattered-more value k cells field is inside there before j below =
      let home = slice_index sites.homes.items k in
      let put = set field home (get_or cells k (pos 0)) in
      elim (cases_eq (slice_index sites.homes.items j) home) [
        | inl same ↦
            let also : j < length sites.homes.items = omega arith in
            let within : k < length sites.cells.items = omega (arith, many-homes) in
            ap (value_at put) same
            ∙ get_or-set_same field home (get_or cells k (pos 0)) (pos 0) there
            ∙ ap (λ xs. get_or xs k (pos 0)) is
            ∙ get_or-map value sites.cells.items k 0 (pos 0) within
            ∙ ap value (sym (cell-of k inside) ∙ ap (stands_for frame) (sym same) ∙ cell-of j also)
        | inr other ↦
            elim (cases_eq j k) [
              | inl at ↦ absurd (other (ap (slice_index sites.homes.items) at))
              | inr not ↦ get_or-set_other field home (slice_index sites.homes.items j) (get_or cells k (pos 0)) (pos 0) other
                  ∙ before j (omega arith)
            ]
      ]

  -- all values are at their places
  pub scattered-all : (value : ℕ → ℤ) (k : ℕ) (field : List ℤ) → length sites.homes.items ≤ k
      → ((j : ℕ) → j < k → value_at field (slice_index sites.homes.items j) ≡ value (slice_index sites.cells.items j))
      → values_in frame field ≡ map value sites.cells.items
  scattered-all value k field all each =
      sym (at-homes field)
      ∙ same_lists (map (value_at field) sites.homes.items) (map value sites.cells.items)
      (length-map sites.homes.items (value_at field) ∙ many-homes ∙ sym (length-map sites.cells.items value))
      (λ j d inside.
      let below : j < length sites.homes.items = rw length-map at inside in
      let within : j < length sites.cells.items = omega (arith, many-homes) in
      get_or-map (value_at field) sites.homes.items j 0 d below ∙ each j (omega arith) ∙ sym (get_or-map value sites.cells.items j 0 d within))
