-- The code's own: the table in which ways are found.
use Rattle.std.specs.Prelude.{◌≡◌, ℕ, ◌+◌, ◌*◌, ◌<◌, List, length, Option, Some, position}
use Rattle.std.specs.List.{slice_get}
use Rattle.cpl_match.specs.Matching.{is_between}
use Rattle.cpl_match.specs.declared.port.Way.{Way}

-- The table has the place of the first way between each two components.
pub record IsIndexed (ways : List Way) (places : List (Option ℕ)) : Type 0 where
  pub size : length places ≡ 65536
  pub finds : (src dst : ℕ) → src < 256 → dst < 256 → slice_get places (256 * dst + src) ≡ Some (position (is_between src dst) ways)
