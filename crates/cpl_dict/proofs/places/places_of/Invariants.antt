use Rattle.std.proofs.Common.{take}
use Rattle.cpl_dict.specs.Kept.{IsPlacedAs, names_of}
use Rattle.cpl_dict.proofs.places.places_of.Given as goal

-- the places so far are those of the names that were passed
abbrev pub invariant-loop-name : goal.invariant-loop-name
invariant-loop-name l = IsPlacedAs (names_of l.names.entries) l.places.items (take l.name-index l.group)
