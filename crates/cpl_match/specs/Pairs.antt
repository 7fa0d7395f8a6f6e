-- What holds of pairs that were matched.
use Rattle.std.specs.Prelude.{◌≡◌, ℕ, Bool, true, not, ◌&&◌, ◌==◌, List, filter, map, slice_index, All, IsTrue, IsSomeAnd}
use Rattle.std.specs.List.{list_any}
use Rattle.cpl_base.specs.Words.{is_some_of}
use Rattle.cpl_dict.specs.Dict.{Dictionary}
use Rattle.cpl_match.specs.Matching.{best_ports, is_import, way_between}
use Rattle.cpl_match.specs.declared.port.Pair.{Pair}
use Rattle.cpl_match.specs.declared.port.Port.{Port}
use Rattle.cpl_match.specs.declared.port.Way.{Way}

-- a port is this field
abbrev pub is_at : ℕ → ℕ → Port → Bool
is_at component field port = port.component == component && port.field == field

-- A pair leads from an export to an import along a way, between equal numbers of cells where that redistributes.
pub record IsPair (cells : List ℕ) (ways : List Way) (ports : List Port) (pair : Pair) : Type 0 where
  pub export : IsTrue (list_any (λ port. not port.import && is_at pair.src pair.src_field port) ports)
  pub import : IsTrue (list_any (λ port. port.import && is_at pair.dst pair.dst_field port) ports)
  pub way : IsSomeAnd (way_between ways pair.src pair.dst) (λ way. way.redist ≡ true → slice_index cells pair.src ≡ slice_index cells pair.dst)

-- an import has a pair: some port fits it
abbrev pub has_pair : Dictionary → List Way → List Port → Port → Bool
has_pair dict ways ports import = is_some_of (best_ports dict ways ports import)

-- the component and the field of the import of a pair
abbrev pub import_of : Pair → ℕ × ℕ
import_of pair = (pair.dst, pair.dst_field)

-- the component and the field of a port
abbrev pub field_of : Port → ℕ × ℕ
field_of port = (port.component, port.field)

-- Each is a pair, and their imports are those that some port fits, in the order of the ports: so each import has one pair at most.
pub record ArePairs (dict : Dictionary) (cells : List ℕ) (ways : List Way) (ports : List Port) (pairs : List Pair) : Type 0 where
  pub each : All (IsPair cells ways ports) pairs
  pub imports : map import_of pairs ≡ map field_of (filter (has_pair dict ways ports) (filter is_import ports))
