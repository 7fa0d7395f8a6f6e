-- What the demand of a component's rules gives: its rules can be carried out over a block with such a ring, in room of such
-- sizes, and what they read beside the cell is of the halo.
use Rattle.std.proofs.Common.{◌≡◌, ℕ, zero, suc, ◌+◌, ◌-◌, ◌*◌, ◌^◌, ◌<◌, ◌≤◌, Bool, true, false, ◌||◌, ◌==◌, List, [], ◌∷◌, length, map, filter, get_or, Option, Some, min, refl, sym, ap, subst, ◌∙◌, arith, inl, inr}
use Rattle.std.proofs.Math.Nat.{min-eq_left, min-eq_right}
use Rattle.std.proofs.lemmas.Bool.{cases_lt, eq-eqb, eqb-true}
use Rattle.std.proofs.lemmas.List.Elements.{All-filter, All-from_get_or, All-map}
use Rattle.std.proofs.lemmas.List.Folds.{list_any_at}
use Rattle.std.proofs.lemmas.List.FromFn.{get_or-range_with_len, length-range_with_len}
use Rattle.std.proofs.lemmas.Map.Views.{any-filter_same}
use Rattle.std.specs.List.{All, list_any, range_with_len, slice_get}
use Rattle.std.specs.Option.{ForSome, option_map}
use Rattle.std.specs.Prelude.{slice_index, pos}
use Rattle.cpl_comp.specs.Components.{IsComponent, IsField, IsRule, IsStart, Limits, roles_of}
use Rattle.cpl_comp.specs.Halos.{halo_of, has_read, is_cell_of, is_here, is_read_beside}
use Rattle.cpl_comp.specs.Turns.{is_among}
use Rattle.cpl_comp.specs.declared.component.Comp.{Comp}
use Rattle.cpl_comp.specs.declared.component.Field.{Field}
use Rattle.cpl_comp.specs.declared.component.Role.{Role}
use Rattle.cpl_comp.specs.declared.component.Rule.{Rule}
use Rattle.cpl_comp.specs.declared.component.Rule.TheVariants.{Plain, Native}
use Rattle.cpl_entry.specs.Entries.{NativeEntry}
use Rattle.cpl_formula.specs.Arguments.{IsArgument}
use Rattle.cpl_formula.specs.Reads.{IsRead, read_at}
use Rattle.cpl_formula.specs.declared.arguments.Argument.{Argument}
use Rattle.cpl_formula.specs.declared.arguments.Argument.TheVariants.{Number, Cell}
use Rattle.cpl_formula.specs.declared.formula.Read.{Read}
use Rattle.cpl_formula.specs.declared.formula.ReadName.TheVariants as names
use Rattle.cpl_block.specs.declared.frame.Frame.{Frame}
use Rattle.cpl_sweep.specs.Rows.{scratch_rows}
use Rattle.cpl_rule.specs.Assigned.{HasRoom, IsRuleOn, TakesInputs}
use Rattle.cpl_rule.specs.Demands.{CanBeMet, IsArgumentWithin, IsCovered, IsDemandOf, IsReadWithin, IsStartCovered, IsWider}
use Rattle.cpl_rule.specs.Inputs.{IsArgumentNear, IsHaloed, IsReadNear, arguments_of}
use Rattle.cpl_rule.specs.declared.demand.Demand.{Demand}
use Rattle.cpl_rule.specs.declared.room.Room.{Room}
use Rattle.cpl_rule.specs.declared.scene.Scene.{Scene}
use Rattle.cpl_rule.proofs.InputsFacts.{of-cells}

-- ---- carried out over a block

module _ (frame : Frame) (fields alarms : ℕ) (demand : Demand) (rx : frame.rx ≡ demand.rx) (ry : frame.ry ≡ demand.ry) where
  near-read : (read : Read) → IsRead fields alarms read → IsReadWithin demand read → IsReadNear frame fields alarms read
  near-read read is within = record { among = is; across = rw rx within.across; down = rw ry within.down }

  near-reads_of : (reads : List Read) → All (IsRead fields alarms) reads → All (λ read. IsReadWithin demand read) reads
      → All (λ read. IsReadNear frame fields alarms read) reads
  near-reads_of reads each within = λ k d below. near-read _ (each k d below) (within k d below)

  near-argument : (argument : Argument) → IsArgument fields alarms argument → IsArgumentWithin demand argument → IsArgumentNear frame fields alarms argument
  near-argument (Number number) is within = is
  near-argument (Cell read) is within = near-read read is within

-- the parts of a call
abbrev entry_of : Rule → ℕ
entry_of (Plain parsed) = 0
entry_of (Native entry arguments) = entry

abbrev given_of : Rule → List Argument
given_of (Plain parsed) = []
given_of (Native entry arguments) = arguments

-- an entry takes as many inputs as one call gives it, and so does that of the same call
taken-inputs : (book : List NativeEntry) (place entry : ℕ) (given arguments : List Argument) → option_map (λ (e : NativeEntry). e.inputs) (slice_get book place) ≡ Some (length given)
    → Native place given ≡ Native entry arguments → TakesInputs book entry (length arguments)
taken-inputs book place entry given arguments taken same =
    let at : place ≡ entry = ap entry_of same in
    let with : given ≡ arguments = ap given_of same in
    ap (λ k. option_map (λ (e : NativeEntry). e.inputs) (slice_get book k)) (sym at) ∙ taken ∙ ap (λ (list : List Argument). Some (length list)) with

-- how many inputs the entry of a place takes
takes-count : (book : List NativeEntry) (entry n : ℕ) → entry < length (map (λ (e : NativeEntry). e.inputs) book) → slice_index (map (λ (e : NativeEntry). e.inputs) book) entry ≡ n
    → option_map (λ (e : NativeEntry). e.inputs) (slice_get book entry) ≡ Some n
takes-count [] entry n below is = absurd (omega arith)
takes-count (first ∷ more) zero n below is = λ i. Some (is i)
takes-count (first ∷ more) (suc entry) n below is = takes-count more entry n (omega arith) is

-- a rule that is covered by the demand from which the ring comes can be carried out
pub rule-on : (limits : Limits) (scene : Scene) (book : List NativeEntry) (demand : Demand) (rule : Rule)
    → scene.frame.rx ≡ demand.rx → scene.frame.ry ≡ demand.ry
    → limits.alarms ≡ length scene.moment.times.alarms.now → limits.inputs ≡ map (λ (e : NativeEntry). e.inputs) book
    → IsRule limits scene.fields rule → IsCovered demand rule → IsRuleOn scene book rule
rule-on limits scene book demand (Plain parsed) rx ry alarms inputs is covered =
    let formula = is.formula parsed refl in
    let alarm_count = length scene.moment.times.alarms.now in
    let reads : All (IsRead scene.fields alarm_count) parsed.reads = subst (λ n. All (IsRead scene.fields n) parsed.reads) alarms formula.reads.among in
    let within = of-cells (IsArgumentWithin demand) parsed.reads covered.reads in
    record {
      near = All-map (IsArgumentNear scene.frame scene.fields alarm_count) Cell parsed.reads (near-reads_of scene.frame scene.fields alarm_count demand rx ry parsed.reads reads within);
      formula = λ other same. (is.formula other same).over;
      call = λ entry arguments same. absurd (cc);
    }
rule-on limits scene book demand (Native place given) rx ry alarms inputs is covered =
    let alarm_count = length scene.moment.times.alarms.now in
    let called = is.call place given refl in
    let each : All (IsArgument scene.fields alarm_count) given = subst (λ n. All (IsArgument scene.fields n) given) alarms called.arguments_are in
    let below : place < length (map (λ (e : NativeEntry). e.inputs) book) = subst (λ (list : List ℕ). place < length list) inputs called.there in
    let counted : slice_index (map (λ (e : NativeEntry). e.inputs) book) place ≡ length given = subst (λ (list : List ℕ). slice_index list place ≡ length given) inputs called.inputs in
    record {
      near = λ k d there. near-argument scene.frame scene.fields alarm_count demand rx ry (get_or given k d) (each k d there) (covered.reads k d there);
      formula = λ other same. absurd (cc);
      call = λ entry arguments same. taken-inputs book place entry given arguments (takes-count book place (length given) below counted) same;
    }

-- ---- room

strips-below : (rows strips : ℕ) → strips < 2 ^ 32 → min rows (2 ^ 64 - 1) ≤ strips → 128 * rows ≤ 128 * strips
strips-below rows strips few least = elim (cases_lt rows (2 ^ 64 - 1)) [
  | inl below ↦ let same : min rows (2 ^ 64 - 1) ≡ rows = min-eq_left (omega (arith, below)) in omega (arith, same, least)
  | inr above ↦ let same : min rows (2 ^ 64 - 1) ≡ 2 ^ 64 - 1 = min-eq_right above in absurd (omega (arith, same, least, few))
]

-- there is room for a rule that is covered by the demand from which the room's sizes come
pub rule-roomy : (demand : Demand) (room : Room) (rule : Rule) → CanBeMet demand
    → length room.places ≡ demand.inputs → length room.inputs ≡ demand.inputs → length room.scratch ≡ 128 * demand.strips
    → IsCovered demand rule → HasRoom room rule
rule-roomy demand room rule few places inputs scratch covered = record {
  places = rw places covered.inputs;
  inputs = rw inputs covered.inputs;
  scratch = λ parsed same. rw scratch (strips-below (scratch_rows parsed.tree) demand.strips few (covered.strips parsed same));
}

-- ---- the halo

-- a number that passes a test is among those below another that do
among-filter : (test : ℕ → Bool) (n k : ℕ) → k < n → test k ≡ true → is_among (filter test (range_with_len 0 n)) k ≡ true
among-filter test n k below passes =
    let same : (j : ℕ) → (j == k) ≡ true → test j ≡ test k = λ j is. ap test (eqb-true j k is) in
    let there : list_any (λ j. j == k) (range_with_len 0 n) ≡ true =
    list_any_at (λ j. j == k) (range_with_len 0 n) k 0 (rw (length-range_with_len 0 n) below) (ap (λ (j : ℕ). j == k) (get_or-range_with_len 0 n k 0 below) ∙ eq-eqb (0 + k) k (omega arith)) in
    any-filter_same (λ j. j == k) test (test k) same (range_with_len 0 n) ∙ rw (passes, there) refl

-- a field that a read names beside the cell is read there
beside-read : (k : ℕ) (read : Read) → read.name ≡ names.Field k → is_here (read.dx, read.dy) ≡ false → is_read_beside k read ≡ true
beside-read k read is there = rw (is, there, eq-eqb k k refl) refl

-- the read that an argument is
abbrev read_of : Argument → Read
read_of (Number number) = read_at names.I (pos 0) (pos 0)
read_of (Cell read) = read

or-yes : (b : Bool) → (b || true) ≡ true
or-yes true = refl
or-yes false = refl

-- a rule that reads a field beside the cell has such a read
plain-has : (test : Read → Bool) (reads : List Read) (n : ℕ) (d : Argument) → n < length (map Cell reads) → (read : Read) → get_or (map Cell reads) n d ≡ Cell read → test read ≡ true → list_any test reads ≡ true
plain-has test [] n d below read is passes = absurd (omega arith)
plain-has test (first ∷ more) zero d below read is passes =
    let same : first ≡ read = ap read_of is in
    let here : test first ≡ true = ap test same ∙ passes in
    rw here refl
plain-has test (first ∷ more) (suc n) d below read is passes = ap (λ b. test first || b) (plain-has test more n d (omega arith) read is passes) ∙ or-yes (test first)

native-has : (test : Read → Bool) (given : List Argument) (n : ℕ) (d : Argument) → n < length given → (read : Read) → get_or given n d ≡ Cell read → test read ≡ true → list_any (is_cell_of test) given ≡ true
native-has test given n d below read is passes = list_any_at (is_cell_of test) given n d below (ap (is_cell_of test) is ∙ passes)

rule-has : (rule : Rule) (test : Read → Bool) (n : ℕ) (d : Argument) → n < length (arguments_of rule) → (read : Read) → get_or (arguments_of rule) n d ≡ Cell read → test read ≡ true → has_read test rule ≡ true
rule-has (Plain parsed) test n d below read is passes = plain-has test parsed.reads n d below read is passes
rule-has (Native entry given) test n d below read is passes = native-has test given n d below read is passes

-- what a rule is given is among the fields
rule-arguments : (limits : Limits) (count : ℕ) (rule : Rule) → IsRule limits count rule → All (IsArgument count limits.alarms) (arguments_of rule)
rule-arguments limits count (Plain parsed) is = All-map (IsArgument count limits.alarms) Cell parsed.reads (is.formula parsed refl).reads.among
rule-arguments limits count (Native entry given) is = (is.call entry given refl).arguments_are

-- an argument whose read beside the cell is of a halo
haloed-argument : (fields : List ℕ) (argument : Argument)
    → ((read : Read) (k : ℕ) → argument ≡ Cell read → read.name ≡ names.Field k → is_here (read.dx, read.dy) ≡ false → is_among fields k ≡ true)
    → IsHaloed fields argument
haloed-argument fields (Number number) there = tt
haloed-argument fields (Cell read) there = λ k named beside. there read k refl named beside

-- what a rule reads beside the cell is of the halo of all rules
pub rule-haloed : (limits : Limits) (count : ℕ) (rules : List Rule) (n : ℕ) (d : Rule) → n < length rules → IsRule limits count (get_or rules n d)
    → All (IsHaloed (halo_of count rules).fields) (arguments_of (get_or rules n d))
unfolding halo_of
rule-haloed limits count rules n d below is =
    let rule = get_or rules n d in
    let each = rule-arguments limits count rule is in
    λ m e there. haloed-argument (halo_of count rules).fields (get_or (arguments_of rule) m e)
    (λ read k same named beside.
    let among : IsRead count limits.alarms read = subst (IsArgument count limits.alarms) same (each m e there) in
    let has : has_read (is_read_beside k) rule ≡ true = rule-has rule (is_read_beside k) m e there read same (beside-read k read named beside) in
    among-filter (λ field. list_any (has_read (is_read_beside field)) rules) count k (among.field k named) (list_any_at (has_read (is_read_beside k)) rules n d below has))

-- the fields of a halo are there
pub halo-below : (count : ℕ) (rules : List Rule) → All (λ k. k < count) (halo_of count rules).fields
unfolding halo_of
halo-below count rules =
    let below : All (λ k. k < count) (range_with_len 0 count) = All-from_get_or (λ k. k < count) (range_with_len 0 count) 0
    (λ i there. let inside : i < count = subst (λ n. i < n) (length-range_with_len 0 count) there in let at = get_or-range_with_len 0 count i 0 inside in omega (arith, at, inside)) in
    All-filter (λ field. list_any (has_read (is_read_beside field)) rules) (λ k. k < count) (range_with_len 0 count) below

-- ---- how wide a ring is

within-two : (demand : Demand) (limits : Limits) (count : ℕ) (argument : Argument) → demand.rx ≡ 2 → demand.ry ≡ 2 → IsArgument count limits.alarms argument → IsArgumentWithin demand argument
within-two demand limits count (Number number) rx ry is = tt
within-two demand limits count (Cell read) rx ry is = record { across = rw rx is.columns; down = rw ry is.rows }

-- A rule of a component reads at most two columns and two rows away.
near-two : (limits : Limits) (count : ℕ) (demand : Demand) (rule : Rule) → IsRule limits count rule → IsCovered demand rule
    → IsCovered (record { rx = 2; ry = 2; inputs = demand.inputs; strips = demand.strips }) rule
near-two limits count demand rule is covered = record {
  reads = λ k d below. within-two (record { rx = 2; ry = 2; inputs = demand.inputs; strips = demand.strips }) limits count (get_or (arguments_of rule) k d) refl refl (rule-arguments limits count rule is k d below);
  inputs = covered.inputs;
  strips = covered.strips;
}

start-some : (limits : Limits) (roles : List Role) (demand : Demand) (start : Option Rule) → ForSome start (IsStart limits roles) → ForSome start (IsCovered demand)
    → ForSome start (IsCovered (record { rx = 2; ry = 2; inputs = demand.inputs; strips = demand.strips }))
start-some limits roles demand start is covered = λ rule same. near-two limits (length roles) demand rule (is rule same).rule_is (covered rule same)

start-near : (limits : Limits) (roles : List Role) (demand : Demand) (field : Field) → IsField limits roles field → IsStartCovered demand field
    → IsStartCovered (record { rx = 2; ry = 2; inputs = demand.inputs; strips = demand.strips }) field
start-near limits roles demand field is covered = start-some limits roles demand field.start is.start covered

-- the demand of a component asks for a ring of at most two columns and two rows
pub demand-near : (limits : Limits) (comp : Comp) (demand : Demand) → IsComponent limits comp → IsDemandOf comp demand
    → ((other : Demand) → IsDemandOf comp other → IsWider demand other) → (demand.rx ≤ 2) × (demand.ry ≤ 2)
demand-near limits comp demand is covers least =
    let count = length (roles_of comp.fields) in
    let other : Demand = record { rx = 2; ry = 2; inputs = demand.inputs; strips = demand.strips } in
    let covered : IsDemandOf comp other = record {
      starts = λ k d below. start-near limits (roles_of comp.fields) demand (get_or comp.fields k d) (is.fields k d below) (covers.starts k d below);
      phases = λ k d below. λ m e there. near-two limits count demand _ ((is.phases k d below).rules m e there) (covers.phases k d below m e there);
    } in
    let wider = least other covered in
    (wider.rx, wider.ry)
