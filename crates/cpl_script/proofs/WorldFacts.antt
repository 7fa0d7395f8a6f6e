-- What operations keep of the world: its shape and that all values are values; and that clocks, runs and stamps don't
-- depend on values.
use Rattle.std.proofs.Common.{◌≡◌, ◌≢◌, ℕ, zero, suc, ◌-◌, ◌<◌, ◌≤◌, Bool, true, false, List, [], ◌∷◌, length, get_or, refl, sym, ap, subst, ◌∙◌, inl, inr, arith}
use Rattle.std.specs.Prelude.{ℤ, pos, fold, map, take, slice_get, Option, Some, None}
use Rattle.std.specs.List.{All}
use Rattle.std.specs.Option.{option_map_or}
use Rattle.std.proofs.Math.ListN.{get_or-map}
use Rattle.std.proofs.lemmas.Bool.{cases_eq, cases_lt}
use Rattle.std.proofs.lemmas.List.{get_or-map as get_or-map_inside, get_or_past, length-map}
use Rattle.std.proofs.lemmas.List.Elements.{All-map}
use Rattle.std.proofs.lemmas.Option.{get_or_from_slice_get, none-some, slice_get_past, slice_get_within}
use Rattle.cpl_base.specs.Numbers.{IsValue, clip}
use Rattle.cpl_base.specs.Rounding.{near_of}
use Rattle.cpl_comp.proofs.CellFacts.{All-over_cells, cells-of_over_cells, length-over_cells}
use Rattle.cpl_comp.proofs.ChangeFacts.{All-changed, changed-here, changed-other, changed-past, fold-keeps, fold-seen, length-changed, map-changed}
use Rattle.cpl_comp.proofs.HeldFacts.{clip-within, from-some, get_or-within, held-after_init, held-after_run, held-first, held-values, none-within}
use Rattle.cpl_comp.proofs.MarkFacts.{marks-after_init, marks-after_run}
use Rattle.cpl_comp.specs.Components.{IsComponent, IsPhase, Limits, roles_of}
use Rattle.cpl_comp.specs.Held.{AreAnswers, AreHeld, IsHeld}
use Rattle.cpl_comp.specs.Marks.{CompMarks, marks_after_init, marks_after_run, marks_of}
use Rattle.cpl_comp.specs.Readings.{EntryAnswers}
use Rattle.cpl_comp.specs.Turns.{Turn, comp_after_init, comp_after_run}
use Rattle.cpl_comp.specs.Worlds.{CompWorld, FieldWorld, cell_value, changed, field_at, first_comp, first_field, no_field, over_cells}
use Rattle.cpl_comp.specs.declared.component.Comp.{Comp}
use Rattle.cpl_comp.specs.declared.component.Phase.{Phase}
use Rattle.cpl_grid.specs.Grid.{IsCell, cells_in}
use Rattle.cpl_grid.specs.Owners.{Layout, cells_of}
use Rattle.cpl_match.specs.declared.port.Pair.{Pair}
use Rattle.cpl_sequence.specs.declared.op.Op.{Op}
use Rattle.cpl_sequence.specs.declared.op.Op.TheVariants.{Init, Link as LinkOp, Run}
use Rattle.cpl_smm.specs.Rows.{Table, row_at}
use Rattle.cpl_smm.specs.Sums.{billion, row_sum}
use Rattle.cpl_script.specs.Couplings.{Coupling, layout_at, no_layout}
use Rattle.cpl_script.specs.Held.{IsHeldWorld, marks_after, marks_after_link, marks_carried, no_marks, stamp_in}
use Rattle.cpl_script.specs.SerialRun.{first_world, world_after, world_after_init, world_after_run, world_before, world_of}
use Rattle.cpl_script.specs.Sound.{AreComponents}
use Rattle.cpl_script.specs.Transfers.{World, carried, carried_pairs, comp_at, image_at, imported, no_comp, world_after_link}
use Rattle.cpl_script.specs.declared.link.Link.{Link}

-- what holds of each, of the one of a place
pub All-slice_get : {A : Type 0} (P : A → Type 0) (xs : List A) (i : ℕ) (x : A) → All P xs → slice_get xs i ≡ Some x → P x
All-slice_get P xs i x each there = subst P (get_or_from_slice_get xs i x x there) (each i x (slice_get_within xs i x there))

-- where nothing is found, the list has ended
pub slice_get-none : {A : Type 0} (xs : List A) (i : ℕ) → slice_get xs i ≡ None → length xs ≤ i
slice_get-none [] i none = omega arith
slice_get-none (x ∷ xs) zero none = absurd (none-some x (sym none))
slice_get-none (x ∷ xs) (suc i) none = let more = slice_get-none xs i none in omega arith

-- ---- shape and values

module _ (comps : List Comp) where
  -- a component of a held world, changed so that it stays held
  held-changed : (world : World) (place : ℕ) (comp : Comp) → slice_get comps place ≡ Some comp → IsHeldWorld comps world → (change : CompWorld → CompWorld)
      → AreHeld (cells_in comp.decomp.grid) (length comp.fields) (change (comp_at world place)).fields → IsHeldWorld comps (changed change place world)
  held-changed world place comp there held change is = record {
    size = length-changed change place world ∙ held.size;
    each = λ c other found. elim (cases_eq place c) [
      | inl same ↦ subst (λ k. slice_get comps k ≡ Some other → AreHeld (cells_in other.decomp.grid) (length other.fields) (comp_at (changed change place world) k).fields) same
          (λ again. from-some (λ (comp : Comp). AreHeld (cells_in comp.decomp.grid) (length comp.fields) (comp_at (changed change place world) place).fields) comp other (sym there ∙ again)
          (subst (λ (w : CompWorld). AreHeld (cells_in comp.decomp.grid) (length comp.fields) w.fields)
          (sym (changed-here change place world no_comp (subst (λ n. place < n) (sym held.size) (slice_get_within comps place comp there)))) is)) found
      | inr differ ↦ subst (λ (w : CompWorld). AreHeld (cells_in other.decomp.grid) (length other.fields) w.fields)
          (sym (changed-other change place c world no_comp (λ same. differ (sym same)))) (held.each c other found)
    ];
  }

  -- the values of a field of a held world, none where there is no such field
  held_values-at : (world : World) → IsHeldWorld comps world → (c k : ℕ) → (o : Option Comp) → slice_get comps c ≡ o → All IsValue (field_at (comp_at world c).fields k).values
  held_values-at world held c k None none =
      let past : length world ≤ c = subst (λ n. n ≤ c) (sym held.size) (slice_get-none comps c none) in
      subst (λ (w : CompWorld). All IsValue (field_at w.fields k).values) (sym (get_or_past world c no_comp past)) none-within
  held_values-at world held c k (Some comp) there = held-values (cells_in comp.decomp.grid) (comp_at world c).fields (held.each c comp there).each k

  -- a value of a held world, or 0 where there is no such component, field or cell
  pub world_value-within : (world : World) → IsHeldWorld comps world → (c k s : ℕ) → IsValue (cell_value (field_at (comp_at world c).fields k).values s)
  world_value-within world held c k s = get_or-within (field_at (comp_at world c).fields k).values (held_values-at world held c k (slice_get comps c) refl) (s - 1)

-- an image of values is a value
image-within : (weights : Option Table) (values : List ℤ) → All IsValue values → (s : ℕ) → IsValue (image_at weights (cell_value values) s)
image-within None values each s = get_or-within values each (s - 1)
image-within (Some table) values each s = clip-within (near_of (row_sum (row_at table s) (map (λ entry. cell_value values entry.0) (row_at table s))) (pos billion))

module _ (comps : List Comp) (link : Link) (before : World) (held_before : IsHeldWorld comps before) where
  -- an import that takes an export's image has a value for each cell again
  imported-held : (layout : Layout) (cells src src_field : ℕ) → cells_in layout.grid ≡ cells → (field : FieldWorld) → IsHeld cells field
      → IsHeld cells (imported link.weights layout (field_at (comp_at before src).fields src_field) field)
  imported-held layout cells src src_field same field is =
      let values = (field_at (comp_at before src).fields src_field).values in
      record {
        count = length-over_cells layout (image_at link.weights (cell_value values)) ∙ same;
        values = All-over_cells layout IsValue (image_at link.weights (cell_value values))
            (λ s cell. image-within link.weights values (held_values-at comps before held_before src src_field (slice_get comps src) refl) s);
        kept_counts = is.kept_counts;
        kept_values = is.kept_values;
      }

  carried-held_by : (world : World) → IsHeldWorld comps world → (pair : Pair) → (o : Option Comp) → slice_get comps pair.dst ≡ o → IsHeldWorld comps (carried comps link before world pair)
  carried-held_by world held pair None none =
      subst (IsHeldWorld comps) (sym (changed-past _ pair.dst world (subst (λ n. n ≤ pair.dst) (sym held.size) (slice_get-none comps pair.dst none)))) held
  carried-held_by world held pair (Some comp) there =
      let export = field_at (comp_at before pair.src).fields pair.src_field in
      let layout = layout_at comps pair.dst in
      let same : cells_in layout.grid ≡ cells_in comp.decomp.grid = ap (λ o. cells_in (option_map_or (λ (comp : Comp). comp.decomp) o no_layout).grid) there in
      let is = held.each pair.dst comp there in
      held-changed comps world pair.dst comp there held (λ w. record w { fields = changed (imported link.weights layout export) pair.dst_field w.fields })
      (record {
        size = length-changed (imported link.weights layout export) pair.dst_field (comp_at world pair.dst).fields ∙ is.size;
        each = All-changed (IsHeld (cells_in comp.decomp.grid)) (imported link.weights layout export) pair.dst_field (comp_at world pair.dst).fields
            (λ inside d field. imported-held layout (cells_in comp.decomp.grid) pair.src pair.src_field same _ field) is.each;
      })

  carried-held : (world : World) (pair : Pair) → IsHeldWorld comps world → IsHeldWorld comps (carried comps link before world pair)
  carried-held world pair held = carried-held_by world held pair (slice_get comps pair.dst) refl

module _ (coupling : Coupling) (entries : EntryAnswers) (inputs : List ℕ) (are : AreComponents coupling.pets coupling.timing inputs coupling.comps) (answers : AreAnswers inputs entries) where
  held-init_by : (world : World) → IsHeldWorld coupling.comps world → (c : ℕ) (o : Option Comp) → slice_get coupling.comps c ≡ o
      → IsHeldWorld coupling.comps (option_map_or (λ comp. changed (comp_after_init coupling.timing entries comp) c world) o world)
  held-init_by world held c None none = held
  held-init_by world held c (Some comp) there =
      let limits : Limits = record { pets = coupling.pets; alarms = length coupling.timing.alarms; inputs = inputs } in
      let is : IsComponent limits comp = All-slice_get (IsComponent limits) coupling.comps c comp are.each there in
      let old = held.each c comp there in
      let new = held-after_init limits coupling.timing entries comp is answers (comp_at world c) old.each in
      held-changed coupling.comps world c comp there held (comp_after_init coupling.timing entries comp)
      (record { size = new.size ∙ old.size; each = new.each })

  held-phase_by : (world : World) → IsHeldWorld coupling.comps world → (c p : ℕ) (turn : Turn) (comp : Comp) → slice_get coupling.comps c ≡ Some comp → (o : Option Phase) → slice_get comp.phases p ≡ o
      → IsHeldWorld coupling.comps (option_map_or (λ phase. changed (comp_after_run coupling.timing entries comp phase turn) c world) o world)
  held-phase_by world held c p turn comp there None none = held
  held-phase_by world held c p turn comp there (Some phase) found =
      let limits : Limits = record { pets = coupling.pets; alarms = length coupling.timing.alarms; inputs = inputs } in
      let is : IsComponent limits comp = All-slice_get (IsComponent limits) coupling.comps c comp are.each there in
      let phase_is = All-slice_get (IsPhase limits comp.kind (roles_of comp.fields)) comp.phases p phase is.phases found in
      let old = held.each c comp there in
      let new = held-after_run limits coupling.timing entries comp is answers phase phase_is turn (comp_at world c) old.each in
      held-changed coupling.comps world c comp there held (comp_after_run coupling.timing entries comp phase turn)
      (record { size = new.size ∙ old.size; each = new.each })

  held-run_by : (world : World) → IsHeldWorld coupling.comps world → (c p : ℕ) (turn : Turn) (o : Option Comp) → slice_get coupling.comps c ≡ o
      → IsHeldWorld coupling.comps (option_map_or (λ comp. option_map_or (λ phase. changed (comp_after_run coupling.timing entries comp phase turn) c world) (slice_get comp.phases p) world) o world)
  held-run_by world held c p turn None none = held
  held-run_by world held c p turn (Some comp) there = held-phase_by world held c p turn comp there (slice_get comp.phases p) refl

  held-link_by : (world : World) → IsHeldWorld coupling.comps world → (at_init : Bool) (o : Option Link) → IsHeldWorld coupling.comps (option_map_or (λ line. world_after_link coupling.comps line at_init world) o world)
  held-link_by world held at_init None = held
  held-link_by world held at_init (Some link) =
      fold-keeps (IsHeldWorld coupling.comps) (carried coupling.comps link world) (carried-held coupling.comps link world held) world (carried_pairs coupling.comps link at_init) held

  -- every operation keeps the shape of the world, and that all values are values
  pub held-after : (world : World) (op : Op) → IsHeldWorld coupling.comps world → IsHeldWorld coupling.comps (world_after coupling entries world op)
  held-after world (Init c) held = held-init_by world held c (slice_get coupling.comps c) refl
  held-after world (LinkOp link at_init) held = held-link_by world held at_init (slice_get coupling.links link)
  held-after world (Run c p time step at substep first last) held =
      held-run_by world held c p (record { time = time; step = step; at = at; substep = substep; first = first; last = last }) (slice_get coupling.comps c) refl

  -- the world at the start has them
  pub held-first_world : IsHeldWorld coupling.comps (first_world coupling)
  held-first_world = record {
    size = length-map coupling.comps first_comp;
    each = λ c comp there.
        let inside : c < length coupling.comps = slice_get_within coupling.comps c comp there in
        let same : comp_at (first_world coupling) c ≡ first_comp comp =
        get_or-map_inside first_comp coupling.comps c comp no_comp inside ∙ ap first_comp (get_or_from_slice_get coupling.comps c comp comp there) in
        subst (λ (w : CompWorld). AreHeld (cells_in comp.decomp.grid) (length comp.fields) w.fields) (sym same)
        (record {
          size = length-map comp.fields (λ field. first_field comp.decomp);
          each = All-map (IsHeld (cells_in comp.decomp.grid)) (λ field. first_field comp.decomp) comp.fields (λ k d inside. held-first comp.decomp);
        });
  }

  -- and so has the world after any operations
  pub held-world_of : (ops : List Op) → IsHeldWorld coupling.comps (world_of coupling entries ops)
  unfolding world_of
  held-world_of ops = fold-keeps (IsHeldWorld coupling.comps) (world_after coupling entries) held-after (first_world coupling) ops held-first_world

-- ---- without values

module _ (comps : List Comp) (link : Link) (before : World) where
  stamp-same : (c k : ℕ) → (field_at (comp_at before c).fields k).stamp ≡ stamp_in (map marks_of before) c k
  stamp-same c k =
      sym (get_or-map (λ (field : FieldWorld). field.stamp) (comp_at before c).fields k no_field)
      ∙ ap (λ (marks : CompMarks). get_or marks.stamps k None) (sym (get_or-map marks_of before c no_comp))

  marks-carried : (world : World) (pair : Pair) → map marks_of (carried comps link before world pair) ≡ marks_carried (map marks_of before) (map marks_of world) pair
  marks-carried world pair =
      let export = field_at (comp_at before pair.src).fields pair.src_field in
      let taken = imported link.weights (layout_at comps pair.dst) export in
      map-changed marks_of (λ w. record w { fields = changed taken pair.dst_field w.fields })
      (λ marks. record marks { stamps = changed (λ stamp. export.stamp) pair.dst_field marks.stamps })
      (λ w i. record { clock = w.clock; runs = w.runs; stamps = map-changed (λ (field : FieldWorld). field.stamp) taken (λ stamp. export.stamp) (λ field. refl) pair.dst_field w.fields i })
      pair.dst world
      ∙ ap (λ (given : Option ℤ). changed (λ marks. record marks { stamps = changed (λ stamp. given) pair.dst_field marks.stamps }) pair.dst (map marks_of world)) (stamp-same pair.src pair.src_field)

module _ (coupling : Coupling) (entries : EntryAnswers) where
  marks-init_by : (world : World) (c : ℕ) (o : Option Comp)
      → map marks_of (option_map_or (λ comp. changed (comp_after_init coupling.timing entries comp) c world) o world)
      ≡ option_map_or (λ comp. changed (marks_after_init comp) c (map marks_of world)) o (map marks_of world)
  marks-init_by world c None = refl
  marks-init_by world c (Some comp) =
      map-changed marks_of (comp_after_init coupling.timing entries comp) (marks_after_init comp) (marks-after_init coupling.timing entries comp) c world

  marks-phase_by : (world : World) (c : ℕ) (turn : Turn) (comp : Comp) (o : Option Phase)
      → map marks_of (option_map_or (λ phase. changed (comp_after_run coupling.timing entries comp phase turn) c world) o world)
      ≡ option_map_or (λ phase. changed (marks_after_run comp phase turn) c (map marks_of world)) o (map marks_of world)
  marks-phase_by world c turn comp None = refl
  marks-phase_by world c turn comp (Some phase) =
      map-changed marks_of (comp_after_run coupling.timing entries comp phase turn) (marks_after_run comp phase turn) (marks-after_run coupling.timing entries comp phase turn) c world

  marks-run_by : (world : World) (c p : ℕ) (turn : Turn) (o : Option Comp)
      → map marks_of (option_map_or (λ comp. option_map_or (λ phase. changed (comp_after_run coupling.timing entries comp phase turn) c world) (slice_get comp.phases p) world) o world)
      ≡ option_map_or (λ comp. option_map_or (λ phase. changed (marks_after_run comp phase turn) c (map marks_of world)) (slice_get comp.phases p) (map marks_of world)) o (map marks_of world)
  marks-run_by world c p turn None = refl
  marks-run_by world c p turn (Some comp) = marks-phase_by world c turn comp (slice_get comp.phases p)

  marks-link_by : (world : World) (at_init : Bool) (o : Option Link)
      → map marks_of (option_map_or (λ line. world_after_link coupling.comps line at_init world) o world)
      ≡ option_map_or (λ line. marks_after_link coupling.comps line at_init (map marks_of world)) o (map marks_of world)
  marks-link_by world at_init None = refl
  marks-link_by world at_init (Some link) =
      fold-seen (map marks_of) (carried coupling.comps link world) (marks_carried (map marks_of world)) (marks-carried coupling.comps link world) world (carried_pairs coupling.comps link at_init)

  -- clocks, runs and stamps after an operation are those after it of clocks, runs and stamps before
  pub marks-after : (world : World) (op : Op) → map marks_of (world_after coupling entries world op) ≡ marks_after coupling (map marks_of world) op
  marks-after world (Init c) = marks-init_by world c (slice_get coupling.comps c)
  marks-after world (LinkOp link at_init) = marks-link_by world at_init (slice_get coupling.links link)
  marks-after world (Run c p time step at substep first last) =
      marks-run_by world c p (record { time = time; step = step; at = at; substep = substep; first = first; last = last }) (slice_get coupling.comps c)

-- ---- what stays

-- what an operation of one component leaves: all others
pub others-stay : (change : CompWorld → CompWorld) (place c : ℕ) (world : World) → c ≢ place → comp_at (changed change place world) c ≡ comp_at world c
others-stay change place c world other = changed-other change place c world no_comp other
