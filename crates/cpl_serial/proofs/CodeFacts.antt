-- The faults of an operation are numbered within it, and the least by its place is the least by its number.
use Rattle.std.proofs.Common.{◌≡◌, ℕ, zero, suc, ◌+◌, ◌-◌, ◌*◌, ◌<◌, ◌≤◌, Bool, true, false, List, [], ◌∷◌, ◌++◌, length, refl, sym, ap, ◌∙◌, inl}
use Rattle.std.proofs.Common.{inr, arith}
use Rattle.std.specs.Prelude.{ℤ, ◌^◌, nat_lt, filter, fold, map, slice_get, Option, Some, None, if◌then◌else◌}
use Rattle.std.specs.List.{All, enumerate_from, flat_map, range_with_len}
use Rattle.std.specs.Option.{option_map, option_map_or}
use Rattle.std.proofs.lemmas.Bool.{cases_lt, le-ltb, lt-ltb}
use Rattle.std.proofs.lemmas.List.Elements.{All-append, All-cons, All-map, All-nil}
use Rattle.std.proofs.lemmas.List.FromFn.{length-range_with_len}
use Rattle.std.proofs.lemmas.List.Sums.{count_by-le-length, length-filter}
use Rattle.cpl_comp.specs.Components.{IsComponent, IsPhase, Limits, roles_of}
use Rattle.cpl_comp.specs.Readings.{EntryAnswers}
use Rattle.cpl_comp.specs.RunFaults.{Fault, average_fault, average_faults, cell_faults, clock_faults, first_faults, has_kept, import_fault}
use Rattle.cpl_comp.specs.RunFaults.{import_faults, is_in_range, is_stamp, lesser, range_fault, range_faults, run_faults, unless, wanted_of}
use Rattle.cpl_comp.specs.Turns.{Turn, fields_after_run, has_role, places_of}
use Rattle.cpl_comp.specs.Worlds.{CompWorld, FieldWorld, active_cells, field_at, field_value}
use Rattle.cpl_comp.specs.declared.component.Comp.{Comp}
use Rattle.cpl_comp.specs.declared.component.Field.{Field}
use Rattle.cpl_comp.specs.declared.component.Kind.{Kind}
use Rattle.cpl_comp.specs.declared.component.Kind.TheVariants.{Model, Mediator}
use Rattle.cpl_comp.specs.declared.component.Phase.{Phase}
use Rattle.cpl_comp.specs.declared.component.RangeRow.{RangeRow}
use Rattle.cpl_comp.specs.declared.component.Role.{Role}
use Rattle.cpl_comp.specs.declared.component.Role.TheVariants.{Import as ImportRole}
use Rattle.cpl_comp.specs.declared.found.FoundKind.{FoundKind}
use Rattle.cpl_comp.specs.declared.found.FoundKind.TheVariants.{Clock, Import, Average, Range}
use Rattle.cpl_grid.specs.Grid.{cells_in}
use Rattle.cpl_grid.specs.Owners.{Layout}
use Rattle.cpl_sequence.specs.declared.op.Op.{Op}
use Rattle.cpl_sequence.specs.declared.op.Op.TheVariants.{Init, Link, Run}
use Rattle.cpl_script.proofs.WorldFacts.{All-slice_get}
use Rattle.cpl_script.specs.Couplings.{Coupling, is_connected}
use Rattle.cpl_script.specs.SerialRun.{found_by, found_in, op_factor, phase_faults}
use Rattle.cpl_script.specs.Sound.{IsCoupling}
use Rattle.cpl_script.specs.Transfers.{World, comp_at}
use Rattle.cpl_script.specs.declared.outcome.Found.{Found}
use Rattle.cpl_serial.specs.Codes.{AreNumbered, IsFoundBy, IsPlaced}

-- ---- lists

-- what holds of all that is given for numbered members
All-flat_numbered : {A B : Type 0} (P : B → Type 0) (f : ℕ × A → List B) (m k : ℕ) (xs : List A) → k + length xs ≤ m
    → ((i : ℕ) (x : A) → i < m → All P (f (i, x))) → All P (flat_map f (enumerate_from k xs))
All-flat_numbered P f m k [] within each = All-nil P
All-flat_numbered P f m k (x ∷ xs) within each =
    All-append P (f (k, x)) (flat_map f (enumerate_from (k + 1) xs)) (each k x (omega arith)) (All-flat_numbered P f m (k + 1) xs (omega arith) each)

-- and for the numbers of a run
All-flat_range : {B : Type 0} (P : B → Type 0) (f : ℕ → List B) (a n : ℕ) → ((s : ℕ) → a ≤ s → s < a + n → All P (f s))
    → All P (flat_map f (range_with_len a n))
All-flat_range P f a zero each = All-nil P
All-flat_range P f a (suc n) each =
    All-append P (f a) (flat_map f (range_with_len (a + 1) n)) (each a (omega arith) (omega arith))
    (All-flat_range P f (a + 1) n (λ s from below. each s (omega arith) (omega arith)))

-- and for what was looked up
pub All-found : {A B : Type 0} (P : B → Type 0) (f : A → List B) (o : Option A) → ((x : A) → o ≡ Some x → All P (f x)) → All P (option_map_or f o [])
All-found P f None given = All-nil P
All-found P f (Some x) given = given x refl

-- at most as many pass a test as there are
few-passing : {A : Type 0} (test : A → Bool) (xs : List A) → length (filter test xs) ≤ length xs
few-passing test xs = omega (arith, length-filter test xs, count_by-le-length test xs)

few-places : (role : Role) (fields : List Field) → length (places_of role fields) ≤ length fields
few-places role fields = omega (arith, few-passing (has_role role fields) (range_with_len 0 (length fields)), length-range_with_len 0 (length fields))

-- ---- the places of faults

unless-placed : (holds : Bool) (place : ℕ) (kind : FoundKind) → place < op_factor → All IsPlaced (unless holds place kind)
unless-placed true place kind few = All-nil IsPlaced
unless-placed false place kind few = All-cons IsPlaced (record { place = place; kind = kind }) [] few (All-nil IsPlaced)

clock-placed : (kind : Kind) (turn : Turn) (clock : ℤ) → All IsPlaced (clock_faults kind turn clock)
clock-placed Model turn clock = unless-placed _ 0 (Clock clock turn.time) (omega arith)
clock-placed Mediator turn clock = All-nil IsPlaced

import-placed : (comp : Comp) (phase : Phase) (turn : Turn) (connected : ℕ → Bool) (fields : List FieldWorld) (i k : ℕ) → i < 64
    → All IsPlaced (import_fault comp phase turn connected fields (i, k))
import-placed comp phase turn connected fields i k few =
    let stamp = (field_at fields k).stamp in
    All-found IsPlaced (λ time. unless (is_stamp stamp time) (1 + i) (Import k stamp time)) (wanted_of comp phase turn connected k)
    (λ time wanted. unless-placed (is_stamp stamp time) (1 + i) (Import k stamp time) (omega arith))

imports-placed : (comp : Comp) (phase : Phase) (turn : Turn) (connected : ℕ → Bool) (fields : List FieldWorld) → length comp.fields ≤ 64
    → All IsPlaced (import_faults comp phase turn connected fields)
imports-placed comp phase turn connected fields few =
    All-flat_numbered IsPlaced (import_fault comp phase turn connected fields) 64 0 (places_of ImportRole comp.fields)
    (omega (arith, few-places ImportRole comp.fields, few))
    (λ i k below. import-placed comp phase turn connected fields i k below)

first-placed_by : (first : Bool) (faults : List Fault) → All IsPlaced faults → All IsPlaced (if first then faults else [])
first-placed_by true faults each = each
first-placed_by false faults each = All-nil IsPlaced

first-placed : (comp : Comp) (phase : Phase) (turn : Turn) (connected : ℕ → Bool) (world : CompWorld) → length comp.fields ≤ 64
    → All IsPlaced (first_faults comp phase turn connected world)
first-placed comp phase turn connected world few =
    first-placed_by turn.first (clock_faults comp.kind turn world.clock ++ import_faults comp phase turn connected world.fields)
    (All-append IsPlaced (clock_faults comp.kind turn world.clock) (import_faults comp phase turn connected world.fields)
    (clock-placed comp.kind turn world.clock) (imports-placed comp phase turn connected world.fields few))

averages-placed : (fields : List FieldWorld) (phase : Phase) → length phase.averages ≤ 64 → All IsPlaced (average_faults fields phase)
averages-placed fields phase few =
    All-flat_numbered IsPlaced (average_fault fields) 64 0 phase.averages (omega arith)
    (λ i k below. unless-placed (has_kept (field_at fields k).kept) (65 + i) (Average k) (omega arith))

range-placed : (fields : List FieldWorld) (cells s i : ℕ) (row : RangeRow) → cells ≤ 2 ^ 20 → 1 ≤ s → s < 1 + cells → i < 8
    → All IsPlaced (range_fault fields s (i, row))
range-placed fields cells s i row few from below few_rows =
    unless-placed (is_in_range row (field_value fields row.field s)) (129 + (s - 1) * 8 + i)
    (Range row.field s (field_value fields row.field s) row.low row.high) (omega arith)

ranges-placed : (layout : Layout) (fields : List FieldWorld) (rows : List RangeRow) → cells_in layout.grid ≤ 2 ^ 20 → length rows ≤ 8
    → All IsPlaced (range_faults layout fields rows)
unfolding active_cells
ranges-placed layout fields rows few few_rows =
    All-flat_range IsPlaced (cell_faults fields rows) 1 (cells_in layout.grid)
    (λ s from below. All-flat_numbered IsPlaced (range_fault fields s) 8 0 rows (omega arith)
    (λ i row inside. range-placed fields (cells_in layout.grid) s i row few from below inside))

-- the faults of an operation of a phase have places below the factor of an operation
pub run_faults-places : (limits : Limits) (comp : Comp) → IsComponent limits comp → (phase : Phase)
    → IsPhase limits comp.kind (roles_of comp.fields) phase
    → (turn : Turn) (connected : ℕ → Bool) (world : CompWorld) (after : List FieldWorld)
    → All IsPlaced (run_faults comp phase turn connected world after)
run_faults-places limits comp is phase phase_is turn connected world after =
    All-append IsPlaced (first_faults comp phase turn connected world ++ average_faults world.fields phase)
    (range_faults comp.decomp after phase.ranges)
    (All-append IsPlaced (first_faults comp phase turn connected world) (average_faults world.fields phase)
    (first-placed comp phase turn connected world is.few_fields) (averages-placed world.fields phase phase_is.few_averages))
    (ranges-placed comp.decomp after phase.ranges is.decomposition.grid.cells phase_is.few_ranges)

-- ---- the numbers of faults

-- a fault in an operation is numbered within it
pub placed-numbered : (k component : ℕ) (fault : Fault) → IsPlaced fault → IsFoundBy k (found_in k component fault)
placed-numbered k component fault few = record { from = omega arith; below = omega arith }

module _ (coupling : Coupling) (entries : EntryAnswers) (is : IsCoupling coupling) where
  -- the faults that a phase of a system finds have places below the factor of an operation
  pub phase_faults-places : (world : World) (component phase : ℕ) (turn : Turn)
      → All IsPlaced (phase_faults coupling entries world component phase turn)
  phase_faults-places world component phase turn =
      let limits : Limits = record { pets = coupling.pets; alarms = length coupling.timing.alarms; inputs = is.inputs } in
      All-found IsPlaced _ (slice_get coupling.comps component) (λ comp there.
      let comp_is : IsComponent limits comp = All-slice_get (IsComponent limits) coupling.comps component comp is.comps.each there in
      All-found IsPlaced _ (slice_get comp.phases phase) (λ p found.
      run_faults-places limits comp comp_is p
      (All-slice_get (IsPhase limits comp.kind (roles_of comp.fields)) comp.phases phase p comp_is.phases found)
      turn (is_connected coupling component) (comp_at world component)
      (fields_after_run coupling.timing entries comp p turn (comp_at world component).fields)))

  -- each operation finds faults that are numbered within it
  pub found_by-numbered : (world : World) (k : ℕ) (op : Op) → All (IsFoundBy k) (found_by coupling entries world k op)
  found_by-numbered world k (Init component) = All-nil (IsFoundBy k)
  found_by-numbered world k (Link link at_init) = All-nil (IsFoundBy k)
  found_by-numbered world k (Run component phase time step at substep first last) =
      let turn : Turn = record { time = time; step = step; at = at; substep = substep; first = first; last = last } in
      All-map (IsFoundBy k) (found_in k component) (phase_faults coupling entries world component phase turn)
      (λ i d inside. placed-numbered k component _ (phase_faults-places world component phase turn i d inside))

  -- so do all of any operations
  pub all-numbered : (ops : List Op) → AreNumbered coupling entries ops
  all-numbered ops = λ k op there world. found_by-numbered world k op

-- ---- the least

below-same : (n a b : ℕ) → nat_lt (n + a) (n + b) ≡ nat_lt a b
below-same n a b = elim (cases_lt a b) [
  | inl less ↦ lt-ltb (n + a) (n + b) (omega arith) ∙ sym (lt-ltb a b less)
  | inr more ↦ le-ltb (n + a) (n + b) (omega arith) ∙ sym (le-ltb a b more)
]

choice-mapped : {A B : Type 0} (f : A → B) (test : Bool) (x y : A)
    → (if test then Some (f x) else Some (f y)) ≡ option_map f (if test then Some x else Some y)
choice-mapped f true x y = refl
choice-mapped f false x y = refl

-- the lesser of two faults of an operation
pub lesser-numbered : (k component : ℕ) (found : Option Fault) (fault : Fault)
    → lesser (λ (f : Found). f.code) (option_map (found_in k component) found) (found_in k component fault)
    ≡ option_map (found_in k component) (lesser (λ (f : Fault). f.place) found fault)
lesser-numbered k component None fault = refl
lesser-numbered k component (Some best) fault =
    ap (λ test. if test then Some (found_in k component fault) else Some (found_in k component best))
    (below-same (k * op_factor) fault.place best.place)
    ∙ choice-mapped (found_in k component) (nat_lt fault.place best.place) fault best

-- the least of a fault of an operation, if there is one, and others
pub least-numbered_from : (k component : ℕ) (found : Option Fault) (faults : List Fault)
    → fold (lesser (λ (f : Found). f.code)) (option_map (found_in k component) found) (map (found_in k component) faults)
    ≡ option_map (found_in k component) (fold (lesser (λ (f : Fault). f.place)) found faults)
least-numbered_from k component found [] = refl
least-numbered_from k component found (fault ∷ faults) =
    ap (λ o. fold (lesser (λ (f : Found). f.code)) o (map (found_in k component) faults)) (lesser-numbered k component found fault)
    ∙ least-numbered_from k component (lesser (λ (f : Fault). f.place) found fault) faults

-- the least of the faults of an operation
pub least-numbered : (k component : ℕ) (faults : List Fault)
    → fold (lesser (λ (f : Found). f.code)) None (map (found_in k component) faults)
    ≡ option_map (found_in k component) (fold (lesser (λ (f : Fault). f.place)) None faults)
least-numbered k component faults = least-numbered_from k component None faults
