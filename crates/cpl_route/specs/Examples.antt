-- The definitions of routes, evaluated on examples.
use Rattle.std.specs.Prelude.{◌≡◌, ℕ, pos, neg_ℤ, false, true, Bool, List, [], ◌∷◌}
use Rattle.cpl_grid.specs.Owners.{Layout}
use Rattle.cpl_route.specs.Routes.{Leg, cells_between, cells_sent, ends_of, halo_route, is_owned, pick_route, redist_route, shared_cells}
use Rattle.cpl_route.specs.declared.need.Need.{Need}

-- a grid on so many by so many PETs from one on
abbrev pub layout : ℕ → ℕ → Bool → ℕ → ℕ → ℕ → Layout
layout nx ny periodic px py first_pet =
    record { grid = record { nx = nx; ny = ny; periodic = periodic }; px = px; py = py; first_pet = first_pet }

-- a leg
abbrev pub leg : ℕ → ℕ → List ℕ → Leg
leg from to cells = record { from = from; to = to; cells = cells }

-- what a PET needs
abbrev pub need : ℕ → List ℕ → Need
need pet cells = record { pet = pet; cells = cells }

-- five cells on PETs 0 to 2, and on PETs 1 and 2
abbrev pub five : List Leg
five = redist_route (layout 5 1 false 3 1 0) (layout 5 1 false 2 1 1)

-- three cells in a ring, one to a PET, with the next cell and the second before it
abbrev pub ring_of_three : List Leg
ring_of_three = halo_route (layout 3 1 true 3 1 0) ((pos 1, pos 0) ∷ (neg_ℤ (pos 2), pos 0) ∷ [])

-- redistributions, halos and picks
pub record RouteExamples : Type 0 where
  pub five_cells : five ≡ leg 0 1 (1 ∷ 2 ∷ []) ∷ leg 1 1 (3 ∷ []) ∷ leg 1 2 (4 ∷ []) ∷ leg 2 2 (5 ∷ []) ∷ []
  pub five_ends : ends_of five ≡ (0, 1) ∷ (1, 1) ∷ (1, 2) ∷ (2, 2) ∷ []
  pub five_sent : cells_sent five ≡ 5
  pub five_shared : shared_cells (layout 5 1 false 3 1 0) (is_owned (layout 5 1 false 2 1 1)) 0 1 ≡ 1 ∷ 2 ∷ []
  pub five_there : cells_between five 0 1 ≡ 1 ∷ 2 ∷ []
  pub five_not_there : cells_between five 0 2 ≡ []
  pub other_shape : redist_route (layout 6 1 false 2 1 0) (layout 3 2 false 3 1 0)
      ≡ leg 0 0 (1 ∷ []) ∷ leg 0 1 (2 ∷ []) ∷ leg 0 2 (3 ∷ []) ∷ leg 1 0 (4 ∷ []) ∷ leg 1 1 (5 ∷ []) ∷ leg 1 2 (6 ∷ []) ∷ []
  pub no_cells : redist_route (layout 1 1 false 2 1 0) (layout 1 1 false 2 1 4) ≡ leg 0 4 (1 ∷ []) ∷ []
  pub ring : ring_of_three ≡ leg 0 2 (1 ∷ []) ∷ leg 1 0 (2 ∷ []) ∷ leg 2 1 (3 ∷ []) ∷ []
  pub alone : halo_route (layout 3 1 true 1 1 0) ((pos 1, pos 0) ∷ []) ≡ []
  pub column : halo_route (layout 1 4 false 1 2 0) ((pos 0, pos 2) ∷ (pos 0, neg_ℤ (pos 1)) ∷ []) ≡ leg 0 1 (2 ∷ []) ∷ leg 1 0 (3 ∷ 4 ∷ []) ∷ []
  pub corner : halo_route (layout 2 2 false 2 2 0) ((pos 1, pos 1) ∷ []) ≡ leg 3 0 (4 ∷ []) ∷ leg 3 1 (4 ∷ []) ∷ leg 3 2 (4 ∷ []) ∷ []
  pub picked : pick_route (layout 5 1 false 2 1 0) (need 7 (5 ∷ 1 ∷ 5 ∷ []) ∷ need 3 (4 ∷ []) ∷ []) ≡ leg 0 7 (1 ∷ []) ∷ leg 1 3 (4 ∷ []) ∷ leg 1 7 (5 ∷ []) ∷ []
