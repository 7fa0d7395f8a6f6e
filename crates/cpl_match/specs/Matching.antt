-- Which export feeds each import: the one that fits best, by standard names, along a way between the components.
use Rattle.std.specs.Prelude.{ℕ, Bool, false, not, ◌&&◌, ◌==◌, if◌then◌else◌, max, nat_lt, List, [], ◌∷◌, ◌++◌, filter, find, fold, slice_index, Option, Some, None, is_some, Result, Ok, Err}
use Rattle.std.specs.Option.{option_to_list}
use Rattle.cpl_base.specs.ResultChain.{◌>>=◌}
use Rattle.cpl_dict.specs.Dict.{Dictionary, bond_of}
use Rattle.cpl_match.specs.declared.fault.MatchFault.{MatchFault}
use Rattle.cpl_match.specs.declared.fault.MatchFault.TheVariants.{Ambiguous, Unmatched, SizeDiffers}
use Rattle.cpl_match.specs.declared.port.Pair.{Pair}
use Rattle.cpl_match.specs.declared.port.Port.{Port}
use Rattle.cpl_match.specs.declared.port.Way.{Way}

-- a port is an import
abbrev pub is_import : Port → Bool
is_import port = port.import

-- a way leads from one component to another
abbrev pub is_between : ℕ → ℕ → Way → Bool
is_between src dst way = way.src == src && way.dst == dst

-- the first way from one component to another
abbrev pub way_between : List Way → ℕ → ℕ → Option Way
way_between ways src dst = find (is_between src dst) ways

-- how well a port fits an import: the bond of their standard names where it is an export of a component with a way to the import's, else 0
abbrev pub fit : Dictionary → List Way → Port → Port → ℕ
fit dict ways import port =
    if not port.import && is_some (way_between ways port.component import.component) then bond_of dict port.standard import.standard else 0

-- how well those ports fit an import that fit it best; 0 where none does
abbrev pub best_fit : Dictionary → List Way → List Port → Port → ℕ
best_fit dict ways ports import = fold (λ best port. max best (fit dict ways import port)) 0 ports

-- a port fits an import, and none of the others fits it better
abbrev pub is_best : Dictionary → List Way → List Port → Port → Port → Bool
is_best dict ways ports import port = nat_lt 0 (fit dict ways import port) && fit dict ways import port == best_fit dict ways ports import

-- the ports that fit an import best, in their order
abbrev pub best_ports : Dictionary → List Way → List Port → Port → List Port
best_ports dict ways ports import = filter (is_best dict ways ports import) ports

-- a way redistributes values between unequal numbers of cells
abbrev pub is_uneven : Option Way → ℕ → ℕ → Bool
is_uneven None count other = false
is_uneven (Some way) count other = way.redist && not (count == other)

-- the pair of an import and the ports that fit it best, or why there is none
abbrev pub pair_of : List ℕ → List Way → Port → List Port → Result (Option Pair) MatchFault
pair_of cells ways import [] = if import.optional then Ok None else Err (Unmatched import.component import.field)
pair_of cells ways import (port ∷ []) =
    if is_uneven (way_between ways port.component import.component) (slice_index cells port.component) (slice_index cells import.component) then Err (SizeDiffers port.component import.component)
    else Ok (Some (record { src = port.component; src_field = port.field; dst = import.component; dst_field = import.field }))
pair_of cells ways import (first ∷ second ∷ more) =
    Err (Ambiguous import.component import.field (first.component, first.field) (second.component, second.field))

-- these pairs and those of further imports, one after another, up to the first fault
abbrev pub pairs_with : Dictionary → List ℕ → List Way → List Port → List Pair → List Port → Result (List Pair) MatchFault
pairs_with dict cells ways ports before [] = Ok before
pairs_with dict cells ways ports before (import ∷ imports) =
    pair_of cells ways import (best_ports dict ways ports import) >>= (λ pair. pairs_with dict cells ways ports (before ++ option_to_list pair) imports)

-- the pairs of all imports, in their order, or the first fault
abbrev pub matched_pairs : Dictionary → List ℕ → List Way → List Port → Result (List Pair) MatchFault
matched_pairs dict cells ways ports = pairs_with dict cells ways ports [] (filter is_import ports)
