-- The code's own: the table in which connectors are found.
use Rattle.std.specs.Prelude.{◌≡◌, ℕ, ◌+◌, ◌*◌, ◌<◌, List, filter, length, Option, Some, is_some}
use Rattle.std.specs.List.{slice_get}
use Rattle.cpl_sequence.specs.declared.link_line.LinkLine.{LinkLine}
use Rattle.cpl_runseq.specs.Links.{link_at}

-- The table has the place of each connector, for 32 components.
pub record IsIndexed (links : List LinkLine) (places : List (Option ℕ)) : Type 0 where
  pub size : length places ≡ 1024
  pub finds : (src dst : ℕ) → src < 32 → dst < 32 → slice_get places (32 * src + dst) ≡ Some (link_at src dst links)
  pub count : length (filter is_some places) ≡ length links
