-- The definitions of blocks with a ring, evaluated on examples.
use Rattle.std.specs.Prelude.{◌≡◌, ℤ, pos, neg_ℤ, List, [], ◌∷◌, filter, map}
use Rattle.cpl_grid.specs.Examples.{part, plain_grid, ring_grid}
use Rattle.cpl_block.specs.Aims.{is_aimed}
use Rattle.cpl_block.specs.Frames.{all_places, first_of, places_in, row_length, span_of, stands_for, step_to, values_in}
use Rattle.cpl_block.specs.Rings.{is_far, is_near, source_of}
use Rattle.cpl_block.specs.Totals.{greatest_of, least_of, total_of}
use Rattle.cpl_block.specs.declared.frame.Frame.{Frame}

-- two cells in the corner of three columns and two rows, with a ring of one all around
abbrev pub corner : Frame
corner = record { grid = plain_grid 3 2; part = part 0 2 0 1; rx = 1; ry = 1 }

-- the whole of a ring of two cells, with a ring of places that goes twice around
abbrev pub whole_ring : Frame
whole_ring = record { grid = ring_grid 2 1; part = part 0 2 0 1; rx = 2; ry = 0 }

-- the middle one of three cells on a ring
abbrev pub middle : Frame
middle = record { grid = ring_grid 3 1; part = part 1 1 0 1; rx = 2; ry = 0 }

-- the numbers of the places of the corner, as a field
abbrev pub numbers : List ℤ
numbers = map pos (all_places corner)

-- places, cells, what is filled from where, what waits for a parcel, and values over a block
pub record BlockExamples : Type 0 where
  pub row : row_length corner ≡ 4
  pub places : places_in corner ≡ 12
  pub here : first_of corner (pos 0) (pos 0) ≡ 5
  pub below_left : first_of corner (neg_ℤ (pos 1)) (pos 1) ≡ 8
  pub step : step_to corner 1 0 ≡ 1
  pub span : span_of corner ≡ 2
  pub cells : map (stands_for corner) (all_places corner) ≡ 1 ∷ 1 ∷ 2 ∷ 3 ∷ 1 ∷ 1 ∷ 2 ∷ 3 ∷ 4 ∷ 4 ∷ 5 ∷ 6 ∷ []
  pub near : filter (is_near corner) (all_places corner) ≡ 0 ∷ 1 ∷ 2 ∷ 4 ∷ []
  pub sources : map (source_of corner) (filter (is_near corner) (all_places corner)) ≡ 5 ∷ 5 ∷ 6 ∷ 5 ∷ []
  pub far : filter (is_far corner) (all_places corner) ≡ 3 ∷ 7 ∷ 8 ∷ 9 ∷ 10 ∷ 11 ∷ []
  pub aimed : filter (is_aimed corner (3 ∷ 6 ∷ [])) (all_places corner) ≡ 3 ∷ 7 ∷ 11 ∷ []
  pub values : values_in corner numbers ≡ pos 5 ∷ pos 6 ∷ []
  pub ring_cells : map (stands_for whole_ring) (all_places whole_ring) ≡ 1 ∷ 2 ∷ 1 ∷ 2 ∷ 1 ∷ 2 ∷ []
  pub ring_near : filter (is_near whole_ring) (all_places whole_ring) ≡ 0 ∷ 1 ∷ 4 ∷ 5 ∷ []
  pub ring_far : filter (is_far whole_ring) (all_places whole_ring) ≡ []
  pub middle_cells : map (stands_for middle) (all_places middle) ≡ 3 ∷ 1 ∷ 2 ∷ 3 ∷ 1 ∷ []
  pub middle_far : filter (is_far middle) (all_places middle) ≡ 0 ∷ 1 ∷ 3 ∷ 4 ∷ []
  pub total : total_of (pos 3 ∷ neg_ℤ (pos 1) ∷ pos 2 ∷ []) ≡ pos 4
  pub least : least_of (pos 3 ∷ neg_ℤ (pos 1) ∷ pos 2 ∷ []) ≡ neg_ℤ (pos 1)
  pub greatest : greatest_of (pos 3 ∷ neg_ℤ (pos 1) ∷ pos 2 ∷ []) ≡ pos 3
