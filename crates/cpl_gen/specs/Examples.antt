-- The definition of a configuration, evaluated on seeds.
use Rattle.std.specs.Prelude.{◌≡◌, [], ◌∷◌, codes, take}
use Rattle.cpl_gen.specs.Config.{config_of, grid_line, text_of}
use Rattle.cpl_gen.specs.Draws.{next_state, numbers_of}

-- states, the numbers that seeds give, and how a text begins
pub record ConfigExamples : Type 0 where
  pub state : next_state 0 ≡ 1442695040888963407
  pub of_zero : numbers_of 0 ≡ record { columns = 126; rows = 47; hundredths = 2; seconds = 129600 }
  pub a_line : text_of (grid_line (codes "ATM") (numbers_of 0) ∷ []) ≡ codes "ATM_grid: 126 47 periodic\n"
  pub beginning : take 12 (config_of 0) ≡ codes "EARTH_compon"
