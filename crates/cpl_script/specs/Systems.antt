-- The system that parts make, or why it is too large.
use Rattle.std.specs.Prelude.{ℕ, ◌+◌, ◌*◌, ◌-◌, ◌^◌, ◌&&◌, ◌==◌, Bool, nat_le, min, List, [], ◌∷◌, length, filter, map, sum_by, Option, Some, None, Result, Ok, Err}
use Rattle.std.specs.List.{zip}
use Rattle.cpl_base.specs.ResultChain.{◌>>=◌, ok_if}
use Rattle.cpl_comp.specs.Timing.{Timing}
use Rattle.cpl_comp.specs.declared.component.Comp.{Comp}
use Rattle.cpl_grid.specs.Owners.{Layout}
use Rattle.cpl_match.specs.declared.port.Pair.{Pair}
use Rattle.cpl_route.specs.Routes.{Leg, cells_sent, pick_route, redist_route}
use Rattle.cpl_sequence.specs.declared.link_line.LinkLine.{LinkLine}
use Rattle.cpl_smm.specs.Needs.{needs_of}
use Rattle.cpl_smm.specs.Rows.{Table}
use Rattle.cpl_script.specs.Couplings.{Coupling, layout_at}
use Rattle.cpl_script.specs.Halos.{comp_numbers}
use Rattle.cpl_script.specs.Operations.{ops_of}
use Rattle.cpl_script.specs.declared.fault.SystemFault.{SystemFault}
use Rattle.cpl_script.specs.declared.fault.SystemFault.TheVariants.{TooManyOps, TooManyRoutes}
use Rattle.cpl_script.specs.declared.link.Link.{Link}
use Rattle.cpl_script.specs.declared.parts.SystemParts.{SystemParts}

-- ---- connectors

-- a pair leads between the components of a connector
abbrev pub is_pair_of : LinkLine → Pair → Bool
is_pair_of line pair = pair.src == line.src && pair.dst == line.dst

-- which source cells each PET sends to each other: those of equal index, or those from which its weights take
abbrev pub cells_route : Layout → Layout → Option Table → List Leg
cells_route src dst None = redist_route src dst
cells_route src dst (Some table) = pick_route src (needs_of table dst)

-- the route of a connector, which is empty where it has no pair
abbrev pub link_route : Layout → Layout → Option Table → List Pair → List Leg
link_route src dst weights [] = []
link_route src dst weights (pair ∷ pairs) = cells_route src dst weights

-- the connector of a line, with its weights
abbrev pub link_of : List Comp → List Pair → LinkLine × Option Table → Link
link_of comps pairs given =
    let own = filter (is_pair_of given.0) pairs in
    record {
      line = given.0;
      pairs = own;
      route = link_route (layout_at comps given.0.src) (layout_at comps given.0.dst) given.1 own;
      weights = given.1;
    }

-- ---- the system

-- the system of these parts
unfoldable pub coupling_of : SystemParts → Coupling
coupling_of parts = record {
  comps = parts.comps;
  links = map (link_of parts.comps parts.pairs) (zip parts.seq.links parts.weights);
  init = parts.init;
  sequence = parts.seq;
  timing = record { cal = parts.cal; start = parts.start; alarms = parts.alarms };
  pets = parts.pets;
}

-- ---- limits

-- a number, capped at the greatest that 64 bits hold
abbrev pub capped : ℕ → ℕ
capped n = min n (2 ^ 64 - 1)

-- how many operations a system has
abbrev pub op_total : Coupling → ℕ
op_total coupling = length (ops_of coupling)

-- how many numbers a connector moves: the cells of its route for each of its pairs
abbrev pub link_numbers : Link → ℕ
link_numbers link = cells_sent link.route * length link.pairs

-- how many numbers all connectors, initialisations and phases move, each once
abbrev pub route_total : Coupling → ℕ
route_total coupling = sum_by link_numbers coupling.links + sum_by comp_numbers coupling.comps

-- the system of these parts, if it has at most 2^24 operations and moves at most 2^25 numbers
abbrev pub system_of : SystemParts → Result Coupling SystemFault
system_of parts =
    let coupling = coupling_of parts in
    ok_if (nat_le (op_total coupling) (2 ^ 24)) (TooManyOps (capped (op_total coupling))) >>= (λ _.
    ok_if (nat_le (route_total coupling) (2 ^ 25)) (TooManyRoutes (capped (route_total coupling))) >>= (λ _.
    Ok coupling))
