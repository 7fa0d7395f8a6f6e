-- The pairs that a connector has carried, when it has come to a place among its pairs.
use Rattle.std.specs.Prelude.{ℕ, Bool, true, false, List, filter, take}
use Rattle.cpl_comp.specs.declared.component.Comp.{Comp}
use Rattle.cpl_match.specs.declared.port.Pair.{Pair}
use Rattle.cpl_script.specs.Operations.{is_init_pair}
use Rattle.cpl_script.specs.declared.link.Link.{Link}

-- whether an operation of a connector carries a pair: each, or at an initialisation one whose import is taken then
abbrev pub is_passed : List Comp → Bool → Pair → Bool
is_passed comps true pair = is_init_pair comps pair
is_passed comps false pair = true

-- those of the first j pairs that an operation of a connector carries
abbrev pub pairs_passed : List Comp → Link → Bool → ℕ → List Pair
pairs_passed comps link true j = filter (is_init_pair comps) (take j link.pairs)
pairs_passed comps link false j = take j link.pairs
