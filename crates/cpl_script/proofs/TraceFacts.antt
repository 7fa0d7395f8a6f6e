-- The trace of a whole run has as many rows as the operations that end runs say.
use Rattle.std.proofs.Common.{◌≡◌, ℕ, ◌+◌, ◌<◌, Bool, true, false, cond, List, [], ◌∷◌, ◌++◌, length, get_or, refl, sym, ap, ◌∙◌, arith}
use Rattle.std.specs.Prelude.{map, fold, filter, slice_get, slice_index_or, Option, Some, None, unwrap_or, if◌then◌else◌}
use Rattle.std.specs.List.{enumerate_from, range_with_len}
use Rattle.std.specs.Option.{option_map, option_map_or}
use Rattle.std.proofs.lemmas.List.{length-append, length-map}
use Rattle.std.proofs.lemmas.Option.{slice_get-map, slice_get_read, unwrap_or-slice_get}
use Rattle.cpl_comp.specs.Components.{is_role}
use Rattle.cpl_comp.specs.Readings.{EntryAnswers}
use Rattle.cpl_comp.specs.Turns.{has_role, places_of}
use Rattle.cpl_comp.specs.declared.component.Comp.{Comp}
use Rattle.cpl_comp.specs.declared.component.Field.{Field}
use Rattle.cpl_comp.specs.declared.component.Role.TheVariants.{Export}
use Rattle.cpl_sequence.specs.Operations.{operations_of}
use Rattle.cpl_sequence.specs.RunEnds.{end_count, end_total}
use Rattle.cpl_sequence.specs.declared.op.Op.{Op}
use Rattle.cpl_sequence.specs.declared.op.Op.TheVariants.{Init, Link, Run}
use Rattle.cpl_script.specs.Couplings.{Coupling}
use Rattle.cpl_script.specs.Operations.{comp_init_ops, init_ops, needed_links, ops_of}
use Rattle.cpl_script.specs.declared.link.Link as Links
use Rattle.cpl_script.proofs.RangeFacts.{filter-next}
use Rattle.cpl_script.specs.SerialRun.{Total, first_total, phase_rows, rows_of, total_after, total_of, total_run, trace_row, world_after}
use Rattle.cpl_script.specs.TraceLengths.{export_counts, trace_length}
use Rattle.cpl_script.specs.Transfers.{World, comp_at}

-- a look-up in what a function gives of a list
unwrap-map : {A : Type 0} (f : A → ℕ) (o : Option A) → unwrap_or (option_map f o) 0 ≡ option_map_or f o 0
unwrap-map f None = refl
unwrap-map f (Some x) = refl

counts-at : (comps : List Comp) (c : ℕ) → slice_index_or (export_counts comps) c 0 ≡ option_map_or (λ comp. length (places_of Export comp.fields)) (slice_get comps c) 0
counts-at comps c =
    let count : Comp → ℕ = λ comp. length (places_of Export comp.fields) in
    sym (unwrap_or-slice_get (export_counts comps) c 0)
    ∙ ap (λ o. unwrap_or o 0) (slice_get-map count comps c)
    ∙ unwrap-map count (slice_get comps c)

phase-length_by : (world : World) (k c phase : ℕ) (o : Option Comp)
    → length (option_map_or (λ comp. map (trace_row k c phase comp.decomp (comp_at world c).fields) (places_of Export comp.fields)) o []) ≡ option_map_or (λ comp. length (places_of Export comp.fields)) o 0
phase-length_by world k c phase None = refl
phase-length_by world k c phase (Some comp) = length-map (places_of Export comp.fields) (trace_row k c phase comp.decomp (comp_at world c).fields)

last-length : (coupling : Coupling) (world : World) (k c phase : ℕ) (last : Bool)
    → length (if last then phase_rows coupling world k c phase else []) ≡ (if last then slice_index_or (export_counts coupling.comps) c 0 else 0)
last-length coupling world k c phase true = phase-length_by world k c phase (slice_get coupling.comps c) ∙ sym (counts-at coupling.comps c)
last-length coupling world k c phase false = refl

-- the rows of an operation are as many as it counts
rows-length : (coupling : Coupling) (world : World) (k : ℕ) (op : Op) → length (rows_of coupling world k op) ≡ end_count (export_counts coupling.comps) op
rows-length coupling world k (Init c) = refl
rows-length coupling world k (Link link at_init) = refl
rows-length coupling world k (Run c phase time step at substep first last) = last-length coupling world k c phase last

-- and those of several are as many as they count together
total-length : (coupling : Coupling) (entries : EntryAnswers) (k : ℕ) (ops : List Op) (total : Total)
    → length (fold (total_after coupling entries) total (enumerate_from k ops)).rows ≡ length total.rows + end_total (export_counts coupling.comps) ops
total-length coupling entries k [] total = omega arith
total-length coupling entries k (op ∷ ops) total =
    let next = total_after coupling entries total (k, op) in
    let world = world_after coupling entries total.world op in
    omega (arith, total-length coupling entries (k + 1) ops next, length-append total.rows (rows_of coupling world k op), rows-length coupling world k op)

-- the trace of a run of all operations has this length
pub length-rows : (coupling : Coupling) (entries : EntryAnswers) → length (total_run coupling entries).rows ≡ trace_length coupling
unfolding total_of
length-rows coupling entries = let all = total-length coupling entries 0 (ops_of coupling) (first_total coupling) in omega (arith, all)

-- ---- by arithmetic

-- what two lists of operations count
end_total-append : (counts : List ℕ) (xs ys : List Op) → end_total counts (xs ++ ys) ≡ end_total counts xs + end_total counts ys
end_total-append counts [] ys = omega arith
end_total-append counts (x ∷ xs) ys = omega (arith, end_total-append counts xs ys)

-- connectors count nothing, nor does an initialisation
end_total-links : (counts places : List ℕ) → end_total counts (map (λ n. Link n true) places) ≡ 0
end_total-links counts [] = refl
end_total-links counts (n ∷ places) = omega (arith, end_total-links counts places)

end_total-init : (counts : List ℕ) (comps : List Comp) (links : List Links.Link) (order : List ℕ) → end_total counts (init_ops comps links order) ≡ 0
end_total-init counts comps links [] = refl
end_total-init counts comps links (c ∷ order) =
    let own = map (λ n. Link n true) (needed_links comps links c) in
    omega (
      arith,
      end_total-append counts (comp_init_ops comps links c) (init_ops comps links order),
      end_total-append counts own (Init c ∷ []),
      end_total-links counts (needed_links comps links c),
      end_total-init counts comps links order,
    )

-- so the trace is as long as the run sequence says
pub trace_length-sequence : (coupling : Coupling) → trace_length coupling ≡ end_total (export_counts coupling.comps) (operations_of coupling.sequence)
trace_length-sequence coupling =
    let counts = export_counts coupling.comps in
    omega (arith, end_total-append counts (init_ops coupling.comps coupling.links coupling.init) (operations_of coupling.sequence), end_total-init counts coupling.comps coupling.links coupling.init)

-- one place more among those of a role
pub places-next : (fields : List Field) (k count : ℕ) (b : Bool) → b ≡ has_role Export fields k → count ≡ length (filter (has_role Export fields) (range_with_len 0 k))
    → count + length (cond b (k ∷ []) []) ≡ length (filter (has_role Export fields) (range_with_len 0 (k + 1)))
places-next fields k count b is so_far =
    let next = filter-next (has_role Export fields) k in
    let more = ap (λ (ks : List ℕ). length ks) next ∙ length-append (filter (has_role Export fields) (range_with_len 0 k)) (cond (has_role Export fields k) (k ∷ []) []) in
    ap (λ b. count + length (cond b (k ∷ []) [])) is ∙ ap (λ n. n + length (cond (has_role Export fields k) (k ∷ []) [])) so_far ∙ sym more

-- whether the field of a place is an export
pub export-at : (fields : List Field) (k : ℕ) (field : Field) → k < length fields → field ≡ get_or fields k field → is_role Export field.role ≡ has_role Export fields k
export-at fields k field inside is = ap (λ o. option_map_or (λ (field : Field). is_role Export field.role) o false) (sym (slice_get_read fields (length fields) k field refl inside is))
