-- What holds of parts that were read and accepted step by step, and what holds of every system.
use Rattle.std.specs.Prelude.{◌≡◌, ◌≢◌, ℕ, ℤ, pos, ◌+◌, ◌*◌, ◌+ℤ◌, ◌<◌, ◌≤◌, ◌≤ℤ◌, ◌<ℤ◌, ◌^◌, true, List, [], length, filter, map, sum_by, slice_get, Option, Some, None, is_some, IfSome, IsSomeAnd, IsTrue, unwrap_or}
use Rattle.std.specs.List.{All, zip}
use Rattle.cpl_calendar.specs.Calendar.{InTime, end_of_time}
use Rattle.cpl_clock.specs.Alarm.{IsRegular}
use Rattle.cpl_comp.specs.Components.{IsComponent, Limits}
use Rattle.cpl_comp.specs.Timing.{Timing}
use Rattle.cpl_comp.specs.Turns.{has_role}
use Rattle.cpl_comp.specs.declared.component.Comp.{Comp}
use Rattle.cpl_comp.specs.declared.component.Role.TheVariants.{Import, Export}
use Rattle.cpl_dict.specs.Dict.{Dictionary}
use Rattle.cpl_grid.specs.Grid.{cells_in}
use Rattle.cpl_init.specs.Orders.{has_number}
use Rattle.cpl_init.specs.Waiting.{IsInitialOrder}
use Rattle.cpl_match.specs.Pairs.{ArePairs}
use Rattle.cpl_match.specs.declared.port.Pair.{Pair}
use Rattle.cpl_sequence.specs.Bounds.{IsLinkOver, IsOver, IsRunWithin}
use Rattle.cpl_sequence.specs.Sound.{IsSound}
use Rattle.cpl_sequence.specs.declared.link_line.LinkLine.{LinkLine}
use Rattle.cpl_sequence.specs.declared.op.Op.{Op}
use Rattle.cpl_sequence.specs.declared.op.Op.TheVariants.{Init, Link as LinkOp, Run}
use Rattle.cpl_smm.specs.Rows.{Table}
use Rattle.cpl_script.specs.Couplings.{Coupling, layout_at}
use Rattle.cpl_script.specs.Matched.{cell_counts, is_redist, names_of, ports_of, way_of}
use Rattle.cpl_script.specs.Operations.{needs_in, ops_of}
use Rattle.cpl_script.specs.Systems.{is_pair_of, link_route, op_total, route_total}
use Rattle.cpl_script.specs.declared.link.Link.{Link}
use Rattle.cpl_script.specs.declared.parts.SystemParts.{SystemParts}

-- ---- what parts and systems share

-- Components over so many PETs, these alarms and native entries with so many inputs each.
pub record AreComponents (pets : ℕ) (timing : Timing) (inputs : List ℕ) (comps : List Comp) : Type 0 where
  pub some : 1 ≤ length comps
  pub few : length comps ≤ 32
  pub some_pets : 1 ≤ pets
  pub few_pets : pets ≤ 64
  pub each : All (IsComponent (record { pets = pets; alarms = length timing.alarms; inputs = inputs })) comps
  pub few_values : sum_by (λ comp. length comp.fields * cells_in comp.decomp.grid) comps ≤ 2 ^ 24

-- A start in the calendar, so many seconds before whose end the calendar doesn't end, and at most 64 alarms.
pub record IsTiming (timing : Timing) (span : ℤ) : Type 0 where
  pub start : InTime timing.cal timing.start
  pub end : (timing.start +ℤ span) <ℤ pos (end_of_time timing.cal)
  pub few_alarms : length timing.alarms ≤ 64
  pub alarms : All IsRegular timing.alarms

-- how many cells the component of a place has
abbrev pub cells_at : List Comp → ℕ → ℕ
cells_at comps component = cells_in (layout_at comps component).grid

-- Weights from the cells of one component to those of another.
pub record IsBetween (comps : List Comp) (src dst : ℕ) (table : Table) : Type 0 where
  pub from : table.src_cells ≡ cells_at comps src
  pub to : length table.rows ≡ cells_at comps dst

-- ---- parts

-- The weights of a connector: none where it redistributes; some where it doesn't and has a pair; and over the cells
-- of its components.
pub record AreWeights (comps : List Comp) (pairs : List Pair) (given : LinkLine × Option Table) : Type 0 where
  pub redist : is_redist given.0.method ≡ true → given.1 ≡ None
  pub needed : given.1 ≡ None → filter (is_pair_of given.0) pairs ≢ [] → is_redist given.0.method ≡ true
  pub between : IfSome given.1 (IsBetween comps given.0.src given.0.dst)

-- the timing of parts
abbrev pub timing_of : SystemParts → Timing
timing_of parts = record { cal = parts.cal; start = parts.start; alarms = parts.alarms }

-- Parts that were accepted: components, a sequence over them, pairs matched by a dictionary, the order of
-- initialisation, and weights.
pub record AreParts (parts : SystemParts) : Type 0 where
  pub inputs : List ℕ
  pub comps : AreComponents parts.pets (timing_of parts) inputs parts.comps
  pub timing : IsTiming (timing_of parts) parts.seq.span
  pub over : IsOver (names_of parts.comps) parts.seq
  pub dict : Dictionary
  pub pairs : ArePairs dict (cell_counts parts.comps) (map way_of parts.seq.links) (ports_of parts.comps) parts.pairs
  pub init : IsInitialOrder (length parts.comps) (needs_in parts.comps parts.pairs) parts.init
  pub weight_count : length parts.weights ≡ length parts.seq.links
  pub weights : All (AreWeights parts.comps parts.pairs) (zip parts.seq.links parts.weights)

-- ---- systems

-- A pair of a connector: from an export of the one component to an import of the other.
pub record IsCarried (comps : List Comp) (line : LinkLine) (pair : Pair) : Type 0 where
  pub src : pair.src ≡ line.src
  pub dst : pair.dst ≡ line.dst
  pub export : IfSome (slice_get comps pair.src) (λ comp. IsTrue (has_role Export comp.fields pair.src_field))
  pub import : IfSome (slice_get comps pair.dst) (λ comp. IsTrue (has_role Import comp.fields pair.dst_field))

-- A connector of a system.
pub record IsConnector (comps : List Comp) (link : Link) : Type 0 where
  pub src_below : link.line.src < length comps
  pub dst_below : link.line.dst < length comps
  pub differ : link.line.src ≢ link.line.dst
  pub pairs : All (IsCarried comps link.line) link.pairs
  pub route : link.route ≡ link_route (layout_at comps link.line.src) (layout_at comps link.line.dst) link.weights link.pairs
  pub even : link.weights ≡ None → link.pairs ≢ [] → cells_at comps link.line.src ≡ cells_at comps link.line.dst
  pub between : IfSome link.weights (IsBetween comps link.line.src link.line.dst)

-- A run of a system: its component and phase are there, it leads on by the component's substep, or by the step where it
-- has none, and it lies in its step, which lies in the span.
pub record IsRunOf (coupling : Coupling) (component phase : ℕ) (time step at substep : ℤ) : Type 0 where
  pub comp : Comp
  pub there : slice_get coupling.comps component ≡ Some comp
  pub phase_below : phase < length comp.phases
  pub substep_is : substep ≡ unwrap_or comp.substep step
  pub within : IsRunWithin coupling.sequence.span time step at substep

-- an operation of a system
abbrev pub IsOpOf : Coupling → Op → Type 0
IsOpOf coupling (Init component) = component < length coupling.comps
IsOpOf coupling (LinkOp link at_init) = link < length coupling.links
IsOpOf coupling (Run component phase time step at substep first last) = IsRunOf coupling component phase time step at substep

-- A component of a system, and one of its phases where a phase is given.
abbrev pub IsPhaseOf : Coupling → ℕ → Option ℕ → Type 0
IsPhaseOf coupling component phase =
    IsSomeAnd (slice_get coupling.comps component) (λ comp. IfSome phase (λ p. p < length comp.phases))

-- What holds of every system.
pub record IsCoupling (coupling : Coupling) : Type 0 where
  pub inputs : List ℕ
  pub comps : AreComponents coupling.pets coupling.timing inputs coupling.comps
  pub timing : IsTiming coupling.timing coupling.sequence.span
  pub sound : IsSound coupling.sequence
  pub over : IsOver (names_of coupling.comps) coupling.sequence
  pub lines : map (λ link. link.line) coupling.links ≡ coupling.sequence.links
  pub links : All (IsConnector coupling.comps) coupling.links
  pub init_size : length coupling.init ≡ length coupling.comps
  pub init_all : (c : ℕ) → c < length coupling.comps → IsTrue (has_number coupling.init c)
  pub ops : All (IsOpOf coupling) (ops_of coupling)
  pub few_ops : op_total coupling ≤ 2 ^ 24
  pub few_routes : route_total coupling ≤ 2 ^ 25

-- The native rules of a system call entries of a book that have so many inputs each: each is there, and takes as many
-- inputs as the rule has arguments.
abbrev pub CallsEntries : List ℕ → Coupling → Type 0
CallsEntries inputs coupling =
    All (IsComponent (record { pets = coupling.pets; alarms = length coupling.timing.alarms; inputs = inputs })) coupling.comps
