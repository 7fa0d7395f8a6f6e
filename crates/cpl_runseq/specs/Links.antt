-- Connectors by their two components.
use Rattle.std.specs.Prelude.{ℕ, Bool, ◌&&◌, ◌==◌, List, position, Option}
use Rattle.cpl_sequence.specs.declared.link_line.LinkLine.{LinkLine}

-- whether a connector links two components
abbrev pub is_of : ℕ → ℕ → LinkLine → Bool
is_of src dst l = l.src == src && l.dst == dst

-- the place of a connector, by its two components
abbrev pub link_at : ℕ → ℕ → List LinkLine → Option ℕ
link_at src dst links = position (is_of src dst) links
