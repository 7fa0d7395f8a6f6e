-- The start rules of a component on a block: they can be carried out, and what they leave.
use Rattle.std.proofs.Common.{◌≡◌, ◌≢◌, ◌∙◌, ◌<◌, ◌≤◌, ℕ, zero, suc, false, List, [], ◌∷◌, ℤ, Option, Some, None, pos, ap, arith, get_or, length, map, refl, subst, sym, inl, inr}
use Rattle.std.proofs.lemmas.Bool.{cases_Bool}
use Rattle.std.proofs.lemmas.List.{length-map}
use Rattle.std.proofs.lemmas.List.Elements.{All-filter, All-from_get_or, All-map}
use Rattle.std.proofs.lemmas.List.FromFn.{get_or-range_with_len, length-range_with_len}
use Rattle.std.specs.List.{All, cons_option, enumerate_from, filter_map, range_with_len}
use Rattle.std.specs.Option.{ForSome}
use Rattle.cpl_base.specs.Numbers.{IsValue}
use Rattle.cpl_block.specs.declared.frame.Frame.{Frame}
use Rattle.cpl_comp.proofs.ChangeFacts.{changed-other, fold-keeps_all}
use Rattle.cpl_comp.proofs.HeldFacts.{All-unmap}
use Rattle.cpl_comp.proofs.MarkFacts.{stamps-started}
use Rattle.cpl_comp.specs.Components.{IsComponent, IsRule, Limits}
use Rattle.cpl_comp.specs.Halos.{halo_of}
use Rattle.cpl_comp.specs.Marks.{CompMarks, marks_of}
use Rattle.cpl_comp.specs.Readings.{EntryAnswers, Reading}
use Rattle.cpl_comp.specs.Realised.{start_rules}
use Rattle.cpl_comp.specs.Timing.{Timing}
use Rattle.cpl_comp.specs.Turns.{has_role, is_among, places_of, reading_of}
use Rattle.cpl_comp.specs.Worlds.{CompWorld, FieldWorld, field_at as world_at, no_field}
use Rattle.cpl_comp.specs.Writes.{Write, fields_started, set_write, start_write, written}
use Rattle.cpl_comp.specs.declared.component.Comp.{Comp}
use Rattle.cpl_comp.specs.declared.component.Field.{Field}
use Rattle.cpl_comp.specs.declared.component.Halo.{Halo}
use Rattle.cpl_comp.specs.declared.component.Role.{Role}
use Rattle.cpl_comp.specs.declared.component.Rule.{Rule}
use Rattle.cpl_comp.specs.declared.component.SetRow.{SetRow}
use Rattle.cpl_entry.specs.Entries.{NativeEntry}
use Rattle.cpl_rule.proofs.DemandLaws.{halo-below, rule-haloed, rule-on, rule-roomy}
use Rattle.cpl_rule.specs.Assigned.{HasRoom, IsAsRoomy, IsRuleOn}
use Rattle.cpl_rule.specs.Demands.{CanBeMet, IsDemandOf}
use Rattle.cpl_rule.specs.Inputs.{AreFields, HaveNumbers, IsHaloed, arguments_of}
use Rattle.cpl_rule.specs.declared.demand.Demand.{Demand}
use Rattle.cpl_rule.specs.declared.room.Room.{Room}
use Rattle.cpl_rule.specs.declared.scene.Scene.{Scene}
use Rattle.cpl_sweep.specs.Places.{field_at}
use Rattle.cpl_marks.specs.Held.{marks_in}
use Rattle.cpl_marks.specs.declared.marks.Marks.{Marks}
use Rattle.cpl_phase.specs.Locals.{IsLocal, comp_started}
use Rattle.cpl_phase.specs.Refreshed.{AreOnBlock}
use Rattle.cpl_phase.specs.Rooms.{IsRoomFor, IsSpareFor, cell_count, further_fields}
use Rattle.cpl_phase.specs.Shown.{AreShownFor}
use Rattle.cpl_phase.specs.Starts.{places_started, rows_started}
use Rattle.cpl_phase.specs.Worlds.{HoldFields, block_values}
use Rattle.cpl_phase.specs.declared.local.LocalComp.{LocalComp}
use Rattle.cpl_phase.proofs.ListFacts.{not-among}
use Rattle.cpl_phase.proofs.StampedFacts.{values_at}
use Rattle.cpl_phase.proofs.StartFacts.{fields-started, writes-from}

-- ---- the start rules of a component

-- A rule stands among rules.
record IsAmongRules (rules : List Rule) (rule : Rule) : Type 0 where
  n : ℕ
  within : n < length rules
  is : get_or rules n rule ≡ rule

-- one among rules is among more of them
rule-later : (first : Option Rule) (rules : List Rule) (rule : Rule) → IsAmongRules rules rule → IsAmongRules (cons_option first rules) rule
rule-later None rules rule there = there
rule-later (Some first) rules rule there = record { n = suc there.n; within = (let within = there.within in omega (arith, within)); is = there.is }

-- the first is among them
rule-first : (first : Option Rule) (rules : List Rule) (rule : Rule) → first ≡ Some rule → IsAmongRules (cons_option first rules) rule
rule-first None rules rule same = absurd (cc)
rule-first (Some first) rules rule same = record { n = 0; within = omega arith; is = cc }

-- the start rule of a field is one of all
rule-among : (described : List Field) (k : ℕ) (d : Field) (rule : Rule) → k < length described → (get_or described k d).start ≡ Some rule
    → IsAmongRules (start_rules described) rule
rule-among [] k d rule below same = absurd (omega arith)
rule-among (field ∷ described) zero d rule below same = rule-first field.start (start_rules described) rule same
rule-among (field ∷ described) (suc k) d rule below same =
    rule-later field.start (start_rules described) rule (rule-among described k d rule (omega arith) same)

module _ (limits : Limits) (comp : Comp) (accepted : IsComponent limits comp) where
  -- what start rules read beside the cell are fields of the component
  pub start-halo-below : All (λ k. k < length comp.fields) comp.start_halo.fields
  start-halo-below =
      subst (λ (halo : Halo). All (λ k. k < length comp.fields) halo.fields) (sym accepted.start_halo)
      (halo-below (length comp.fields) (start_rules comp.fields))

  -- a start rule is a rule over the fields of the component
  start-rule : (k : ℕ) (d : Field) → k < length comp.fields → (rule : Rule) → (get_or comp.fields k d).start ≡ Some rule
      → IsRule limits (length comp.fields) rule
  start-rule k d below rule same =
      subst (λ n. IsRule limits n rule) (length-map comp.fields (λ (field : Field). field.role)) ((accepted.fields k d below).start rule same).rule_is

  -- start rules read beside the cell what is of their halo
  pub starts-haloed : All (λ field. ForSome field.start (λ rule. All (IsHaloed comp.start_halo.fields) (arguments_of rule))) comp.fields
  starts-haloed = λ k d below rule same.
      let count = length comp.fields in
      let rules = start_rules comp.fields in
      let found = rule-among comp.fields k d rule below same in
      let is : IsRule limits count (get_or rules found.n rule) = subst (IsRule limits count) (sym found.is) (start-rule k d below rule same) in
      subst (λ (halo : Halo). All (IsHaloed halo.fields) (arguments_of rule)) (sym accepted.start_halo)
      (subst (λ (other : Rule). All (IsHaloed (halo_of count rules).fields) (arguments_of other)) found.is
      (rule-haloed limits count rules found.n rule found.within is))

  module _ (demand : Demand) (asked : IsDemandOf comp demand) where
    -- start rules can be carried out over a block with the demand's ring
    pub starts-on : (scene : Scene) (book : List NativeEntry) → scene.frame.rx ≡ demand.rx → scene.frame.ry ≡ demand.ry
        → scene.fields ≡ length comp.fields
        → limits.alarms ≡ length scene.moment.times.alarms.now → limits.inputs ≡ map (λ (e : NativeEntry). e.inputs) book
        → All (λ field. ForSome field.start (IsRuleOn scene book)) comp.fields
    starts-on scene book rx ry number alarms inputs = λ k d below rule same.
        let is : IsRule limits scene.fields rule = subst (λ n. IsRule limits n rule) (sym number) (start-rule k d below rule same) in
        rule-on limits scene book demand rule rx ry alarms inputs is (asked.starts k d below rule same)

    -- there is room for them
    pub starts-roomy : (room : Room) → CanBeMet demand → IsRoomFor demand room → All (λ field. ForSome field.start (HasRoom room)) comp.fields
    starts-roomy room met is = λ k d below rule same.
        rule-roomy demand room rule met is.places is.inputs is.scratch (asked.starts k d below rule same)

-- ---- what start rules leave

-- start rules write to the places of fields with a start rule
starts-elsewhere : (reading : Reading) (described : List Field) (k : ℕ) → is_among (places_started described) k ≡ false
    → All (λ (write : Write). k ≢ write.field) (filter_map (start_write reading) (enumerate_from 0 described))
starts-elsewhere reading described k none =
    let rows = rows_started described in
    let Other : ℕ → Type 0 = λ j. k ≢ j in
    let OtherWrite : Write → Type 0 = λ write. k ≢ write.field in
    let others : All Other (map (λ (row : SetRow). row.field) rows) =
    subst (All Other) (sym (fields-started described)) (not-among (places_started described) k none) in
    subst (All OtherWrite) (writes-from reading 0 described)
    (All-map OtherWrite (set_write reading) rows (All-unmap Other (λ (row : SetRow). row.field) rows others))

-- a field without a start rule keeps its values
pub values-unstarted : (reading : Reading) (world : List FieldWorld) (described : List Field) (k : ℕ) → is_among (places_started described) k ≡ false
    → (world_at (fields_started reading world described) k).values ≡ (world_at world k).values
values-unstarted reading world described k none =
    let Same : List FieldWorld → Type 0 = λ fields. (world_at fields k).values ≡ (world_at world k).values in
    let step : (fields : List FieldWorld) (write : Write) → k ≢ write.field
    → (world_at (written fields write) k).values ≡ (world_at fields k).values = λ fields write other.
    ap (λ (field : FieldWorld). field.values) (changed-other (λ field. record field { values = write.values }) write.field k fields no_field other) in
    fold-keeps_all Same (λ (write : Write). k ≢ write.field) written (λ fields write other same. step fields write other ∙ same)
    world (filter_map (start_write reading) (enumerate_from 0 described)) (starts-elsewhere reading described k none) refl

-- fields that are lined up anew where they have a start rule
pub shown-started : (frame : Frame) (cells count : ℕ) (reading : Reading) (described : List Field) (started : List ℕ) (world : List FieldWorld)
    (fields old new : List (List ℤ))
    → started ≡ places_started described → AreShownFor frame cells started fields old new → length old ≡ count
    → HoldFields frame count (fields_started reading world described) fields
    → ((k : ℕ) → k < count → field_at old k ≡ block_values frame (world_at world k))
    → (k : ℕ) → k < count → field_at new k ≡ block_values frame (world_at (fields_started reading world described) k)
shown-started frame cells count reading described started world fields old new are shown long hold before k below =
    elim (cases_Bool (is_among started k)) [
      | inl among ↦ shown.fresh k (subst (λ n. k < n) (sym long) below) among ∙ hold.values k below
      | inr none ↦
          let same = values-unstarted reading world described k (subst (λ (places : List ℕ). is_among places k ≡ false) are none) in
          shown.kept k none ∙ before k below ∙ ap (values_at frame) (sym same)
    ]

-- start rules leave clock, number of runs and stamps
pub marks-started : (timing : Timing) (entries : EntryAnswers) (comp : Comp) (world : CompWorld) (marks : Marks) → marks_of world ≡ marks_in marks
    → marks_of (comp_started timing entries comp world) ≡ marks_in marks
marks-started timing entries comp world marks are =
    let reading = reading_of timing entries comp world.fields (pos 0) (pos 0) in
    λ i. record {
      clock = (are i).clock;
      runs = (are i).runs;
      stamps = (stamps-started reading world.fields comp.fields ∙ ap (λ (these : CompMarks). these.stamps) are) i;
    }

-- ---- what holds of the component

module _ (comp : Comp) (local : LocalComp) (is : IsLocal comp local) where
  -- with other fields to work in, as many and on the same block, and as much room
  spare-with : (others : List (List ℤ)) (room : Room) → AreOnBlock local.frame (length local.spare.fields) others → IsAsRoomy local.spare.room room
      → IsSpareFor comp local.frame local.demand (record local.spare { fields = others; room = room })
  spare-with others room on roomy =
      let long : length local.spare.fields ≡ length others = sym on.count in
      record {
        fields = record { count = refl; places = on.places; values = on.values };
        phases = subst (λ n. All (λ phase. further_fields phase ≤ n) comp.phases) long is.spare.phases;
        starts = subst (λ n. length (places_started comp.fields) ≤ n) long is.spare.starts;
        cells = is.spare.cells;
        room = record {
          places = roomy.places ∙ is.spare.room.places;
          inputs = roomy.inputs ∙ is.spare.room.inputs;
          scratch = roomy.scratch ∙ is.spare.room.scratch;
        };
      }

  -- with other values in its fields
  local-with : (fields shown others : List (List ℤ)) (room : Room)
      → AreFields local.frame (length comp.fields) fields → HaveNumbers local.frame (length comp.fields) fields
      → length shown ≡ length comp.fields → All (λ values. length values ≡ cell_count local.frame) shown → All (All IsValue) shown
      → AreOnBlock local.frame (length local.spare.fields) others → IsAsRoomy local.spare.room room
      → IsLocal comp (record local { fields = fields; shown = shown; spare = record local.spare { fields = others; room = room } })
  local-with fields shown others room are numbers long cells within on roomy = record {
    frame = is.frame;
    over = is.over;
    demand = is.demand;
    met = is.met;
    rx = is.rx;
    ry = is.ry;
    ring = is.ring;
    sites = is.sites;
    connected = is.connected;
    plans = is.plans;
    exports = is.exports;
    started = is.started;
    stamps = is.stamps;
    fields = are;
    numbers = numbers;
    accums = is.accums;
    sums = is.sums;
    shown = long;
    shown_cells = cells;
    shown_values = within;
    spare = spare-with others room on roomy;
  }

  -- with lists that were lent, and came back
  pub local-left : (fields shown others fields_left shown_left others_left : List (List ℤ)) (room : Room)
      → fields ≡ fields_left → shown ≡ shown_left → others ≡ others_left
      → AreFields local.frame (length comp.fields) fields_left → HaveNumbers local.frame (length comp.fields) fields_left
      → length shown_left ≡ length comp.fields → All (λ values. length values ≡ cell_count local.frame) shown_left → All (All IsValue) shown_left
      → AreOnBlock local.frame (length local.spare.fields) others_left → IsAsRoomy local.spare.room room
      → IsLocal comp (record local { fields = fields; shown = shown; spare = record local.spare { fields = others; room = room } })
  local-left fields shown others fields_left shown_left others_left room same_fields same_shown same_others are numbers long cells within on roomy =
      subst (λ (other : LocalComp). IsLocal comp other)
      (λ i. record local {
        fields = sym same_fields i;
        shown = sym same_shown i;
        spare = record local.spare { fields = sym same_others i; room = room };
      })
      (local-with fields_left shown_left others_left room are numbers long cells within on roomy)

-- the places of the fields of a role are there
pub places-below : (role : Role) (described : List Field) → All (λ k. k < length described) (places_of role described)
places-below role described =
    let count = length described in
    let below : All (λ k. k < count) (range_with_len 0 count) = All-from_get_or (λ k. k < count) (range_with_len 0 count) 0
    (λ i there.
    let inside : i < count = subst (λ n. i < n) (length-range_with_len 0 count) there in
    let at = get_or-range_with_len 0 count i 0 inside in
    omega (arith, at, inside)) in
    All-filter (has_role role described) (λ k. k < count) (range_with_len 0 count) below
