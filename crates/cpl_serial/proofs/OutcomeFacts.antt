-- A run may stop at its first fault: no later operation changes which fault is the least, nor what had ended before it.
use Rattle.std.proofs.Common.{◌≡◌, ℕ, zero, suc, ◌+◌, ◌-◌, ◌*◌, ◌/◌, ◌<◌, ◌≤◌, Bool, true, false, List, [], ◌∷◌, ◌++◌, length, get_or, refl, sym}
use Rattle.std.proofs.Common.{ap, subst, ◌∙◌, arith}
use Rattle.std.specs.Prelude.{nat_lt, filter, fold, map, take, slice_get, Option, Some, None, if◌then◌else◌}
use Rattle.std.specs.List.{All, enumerate_from}
use Rattle.std.specs.Option.{ForSome, option_map, option_map_or}
use Rattle.std.proofs.Math.Seq.{take-length}
use Rattle.std.proofs.lemmas.Bool.{le-ltb, lt-ltb}
use Rattle.std.proofs.lemmas.List.{append-nil, length-take-le, take_more}
use Rattle.std.proofs.lemmas.List.Elements.{All-append, All-head, All-map, All-nil, All-tail, filter-append}
use Rattle.std.proofs.lemmas.List.Sums.{fold-append, fold_more}
use Rattle.std.proofs.lemmas.Nat.{div-mul-add}
use Rattle.std.proofs.lemmas.Option.{get_or_from_slice_get, none-some, slice_get_within}
use Rattle.cpl_comp.proofs.HeldFacts.{from-some}
use Rattle.cpl_comp.specs.Readings.{EntryAnswers}
use Rattle.cpl_comp.specs.RunFaults.{Fault, lesser}
use Rattle.cpl_comp.specs.Turns.{Turn, places_of}
use Rattle.cpl_comp.specs.declared.component.Role.TheVariants.{Export}
use Rattle.cpl_sequence.specs.declared.op.Op.{Op}
use Rattle.cpl_sequence.specs.declared.op.Op.TheVariants.{Init, Link, Run}
use Rattle.cpl_script.specs.Couplings.{Coupling}
use Rattle.cpl_script.specs.Operations.{ops_of}
use Rattle.cpl_script.specs.SerialRun.{Total, asked_rows, comp_stop, end_outcome, fault_outcome, first_total, first_world, found_by, found_in}
use Rattle.cpl_script.specs.SerialRun.{op_factor, op_of, outcome_of, phase_faults, phase_rows, rows_of, serial_outcome, total_after, total_of}
use Rattle.cpl_script.specs.SerialRun.{trace_row, world_after, world_before, world_of}
use Rattle.cpl_script.specs.Sound.{IsCoupling}
use Rattle.cpl_script.specs.Transfers.{World, comp_at}
use Rattle.cpl_script.specs.declared.outcome.Found.{Found}
use Rattle.cpl_trace.specs.declared.row.TraceRow.{TraceRow}
use Rattle.cpl_serial.proofs.CodeFacts.{All-found, all-numbered, least-numbered}
use Rattle.cpl_serial.specs.Codes.{AreNumbered, IsFoundBy}

-- ---- lists

-- members with their numbers, and one more
enumerate-push : {A : Type 0} (n : ℕ) (xs : List A) (x : A) → enumerate_from n (xs ++ x ∷ []) ≡ enumerate_from n xs ++ (n + length xs, x) ∷ []
enumerate-push n [] x = let same : n ≡ n + 0 = omega arith in ap (λ k. (k, x) ∷ []) same
enumerate-push n (y ∷ ys) x =
    let same : (n + 1) + length ys ≡ n + suc (length ys) = omega arith in
    ap (λ zs. (n, y) ∷ zs) (enumerate-push (n + 1) ys x ∙ ap (λ k. enumerate_from (n + 1) ys ++ (k, x) ∷ []) same)

-- the first members with their numbers, and one more
pub enumerate-next : {A : Type 0} (xs : List A) (k : ℕ) (x : A) → slice_get xs k ≡ Some x
    → enumerate_from 0 (take (k + 1) xs) ≡ enumerate_from 0 (take k xs) ++ (k, x) ∷ []
enumerate-next {A} xs k x there =
    let below : k < length xs = slice_get_within xs k x there in
    let is : get_or xs k x ≡ x = get_or_from_slice_get xs k x x there in
    let within : k ≤ length xs = omega arith in
    let number : 0 + length (take k xs) ≡ k = omega (arith, length-take-le k xs within) in
    ap (enumerate_from 0) (take_more xs k x below)
    ∙ enumerate-push 0 (take k xs) (get_or xs k x)
    ∙ (λ i. enumerate_from 0 (take k xs) ++ (number i, is i) ∷ [])

-- A member and where it stands.
record StandsAt {A : Type 0} (xs : List A) (k : ℕ) : Type 0 where
  member : A
  there : slice_get xs k ≡ Some member

stands-at : {A : Type 0} (xs : List A) (k : ℕ) → k < length xs → StandsAt xs k
stands-at [] k below = absurd (omega arith)
stands-at (x ∷ xs) zero below = record { member = x; there = refl }
stands-at (x ∷ xs) (suc k) below =
    let rest = stands-at xs k (omega arith) in record { member = rest.member; there = rest.there }

-- all pass a test, or none
filter-all : {A : Type 0} (test : A → Bool) (xs : List A) → All (λ x. test x ≡ true) xs → filter test xs ≡ xs
filter-all test [] pass = refl
filter-all test (x ∷ xs) pass =
    rw (All-head (λ x. test x ≡ true) x xs pass) (ap (λ ys. x ∷ ys) (filter-all test xs (All-tail (λ x. test x ≡ true) x xs pass)))

filter-none : {A : Type 0} (test : A → Bool) (xs : List A) → All (λ x. test x ≡ false) xs → filter test xs ≡ []
filter-none test [] fail = refl
filter-none test (x ∷ xs) fail =
    rw (All-head (λ x. test x ≡ false) x xs fail) (filter-none test xs (All-tail (λ x. test x ≡ false) x xs fail))

-- ---- the least

-- the best stays among others that are no better
lesser-keeps : {A : Type 0} (number : A → ℕ) (best : A) (xs : List A) → All (λ x. number best ≤ number x) xs
    → fold (lesser number) (Some best) xs ≡ Some best
lesser-keeps number best [] others = refl
lesser-keeps number best (x ∷ xs) others =
    ap (λ test. fold (lesser number) (if test then Some x else Some best) xs)
    (le-ltb (number x) (number best) (All-head (λ x. number best ≤ number x) x xs others))
    ∙ lesser-keeps number best xs (All-tail (λ x. number best ≤ number x) x xs others)

chosen-has : {A : Type 0} (P : A → Type 0) (test : Bool) (x y : A) → P x → P y → ForSome (if test then Some x else Some y) P
chosen-has P true x y one other = λ z same. from-some P x z same one
chosen-has P false x y one other = λ z same. from-some P y z same other

lesser-has : {A : Type 0} (number : A → ℕ) (P : A → Type 0) (o : Option A) (x : A) → ForSome o P → P x → ForSome (lesser number o x) P
lesser-has number P None x holds one = λ z same. from-some P x z same one
lesser-has number P (Some best) x holds one = chosen-has P (nat_lt (number x) (number best)) x best one (holds best refl)

-- the least has what all have
least-has : {A : Type 0} (number : A → ℕ) (P : A → Type 0) (o : Option A) (xs : List A) → ForSome o P → All P xs
    → ForSome (fold (lesser number) o xs) P
least-has number P o [] holds each = holds
least-has number P o (x ∷ xs) holds each =
    least-has number P (lesser number o x) xs (lesser-has number P o x holds (All-head P x xs each)) (All-tail P x xs each)

-- the operation of a fault that is numbered within it
pub op-found : (k : ℕ) (found : Found) → IsFoundBy k found → op_of found ≡ k
op-found k found is =
    let from = is.from in
    let below = is.below in
    let rest = found.code - k * op_factor in
    let same : found.code ≡ k * op_factor + rest = omega arith in
    let few : rest < op_factor = omega arith in
    ap (λ n. n / op_factor) same ∙ div-mul-add k op_factor rest few

-- ---- one operation more

module _ (coupling : Coupling) (entries : EntryAnswers) where
  -- a run before its first operation
  pub total-first : (ops : List Op) → total_of coupling entries (take 0 ops) ≡ first_total coupling
  unfolding total_of
  total-first ops = refl

  pub world-first : (ops : List Op) → world_of coupling entries (take 0 ops) ≡ first_world coupling
  unfolding world_of
  world-first ops = refl

  -- a run with one operation more
  pub total-next : (ops : List Op) (k : ℕ) (op : Op) → slice_get ops k ≡ Some op
      → total_of coupling entries (take (k + 1) ops) ≡ total_after coupling entries (total_of coupling entries (take k ops)) (k, op)
  unfolding total_of
  total-next ops k op there =
      ap (fold (total_after coupling entries) (first_total coupling)) (enumerate-next ops k op there)
      ∙ fold-append (total_after coupling entries) (first_total coupling) (enumerate_from 0 (take k ops)) ((k, op) ∷ [])

  -- the world with one operation more
  pub world-next : (ops : List Op) (k : ℕ) (op : Op) → slice_get ops k ≡ Some op
      → world_of coupling entries (take (k + 1) ops) ≡ world_after coupling entries (world_of coupling entries (take k ops)) op
  unfolding world_of
  world-next ops k op there =
      fold_more (world_after coupling entries) (first_world coupling) ops k op (slice_get_within ops k op there)
      ∙ ap (world_after coupling entries (fold (world_after coupling entries) (first_world coupling) (take k ops)))
      (get_or_from_slice_get ops k op op there)

  total-world_from : (total : Total) (n : ℕ) (ops : List Op)
      → (fold (total_after coupling entries) total (enumerate_from n ops)).world ≡ fold (world_after coupling entries) total.world ops
  total-world_from total n [] = refl
  total-world_from total n (op ∷ ops) = total-world_from (total_after coupling entries total (n, op)) (n + 1) ops

  -- the world of a run is that after its operations
  pub total-world : (ops : List Op) → (total_of coupling entries ops).world ≡ world_of coupling entries ops
  unfolding total_of world_of
  total-world ops = total-world_from (first_total coupling) 0 ops

  -- all operations
  pub total-whole : (ops : List Op) → total_of coupling entries (take (length ops) ops) ≡ total_of coupling entries ops
  total-whole ops = ap (total_of coupling entries) (take-length ops)

  pub world-whole : (ops : List Op) → world_of coupling entries (take (length ops) ops) ≡ world_of coupling entries ops
  world-whole ops = ap (world_of coupling entries) (take-length ops)

  -- what is found with one operation more
  pub found-next : (ops : List Op) (k : ℕ) (op : Op) → slice_get ops k ≡ Some op
      → (total_of coupling entries (take (k + 1) ops)).found
      ≡ fold (lesser (λ (f : Found). f.code)) (total_of coupling entries (take k ops)).found
      (found_by coupling entries (world_of coupling entries (take k ops)) k op)
  found-next ops k op there =
      ap (λ (total : Total). total.found) (total-next ops k op there)
      ∙ ap (λ (world : World). fold (lesser (λ (f : Found). f.code)) (total_of coupling entries (take k ops)).found
      (found_by coupling entries world k op))
      (total-world (take k ops))

  -- the rows with one operation more
  pub rows-next : (ops : List Op) (k : ℕ) (op : Op) → slice_get ops k ≡ Some op
      → (total_of coupling entries (take (k + 1) ops)).rows
      ≡ (total_of coupling entries (take k ops)).rows ++ rows_of coupling (world_of coupling entries (take (k + 1) ops)) k op
  rows-next ops k op there =
      ap (λ (total : Total). total.rows) (total-next ops k op there)
      ∙ ap (λ (world : World). (total_of coupling entries (take k ops)).rows ++ rows_of coupling world k op)
      (ap (λ (world : World). world_after coupling entries world op) (total-world (take k ops)) ∙ sym (world-next ops k op there))

  -- the first fault of a run: the least of its operation
  pub found-first : (ops : List Op) (k : ℕ) (op : Op) → slice_get ops k ≡ Some op → (total_of coupling entries (take k ops)).found ≡ None
      → (total_of coupling entries (take (k + 1) ops)).found
      ≡ fold (lesser (λ (f : Found). f.code)) None (found_by coupling entries (world_of coupling entries (take k ops)) k op)
  found-first ops k op there none =
      found-next ops k op there
      ∙ ap (λ o. fold (lesser (λ (f : Found). f.code)) o (found_by coupling entries (world_of coupling entries (take k ops)) k op)) none

  -- a run without a fault, and an operation without one
  pub found-none-more : (ops : List Op) (k : ℕ) (op : Op) → slice_get ops k ≡ Some op → (total_of coupling entries (take k ops)).found ≡ None
      → fold (lesser (λ (f : Found). f.code)) None (found_by coupling entries (world_of coupling entries (take k ops)) k op) ≡ None
      → (total_of coupling entries (take (k + 1) ops)).found ≡ None
  found-none-more ops k op there none least = found-first ops k op there none ∙ least

  -- the same, where it finds nothing at all, as an initialisation and a connector do
  pub found-none-empty : (ops : List Op) (k : ℕ) (op : Op) → slice_get ops k ≡ Some op → (total_of coupling entries (take k ops)).found ≡ None
      → found_by coupling entries (world_of coupling entries (take k ops)) k op ≡ []
      → (total_of coupling entries (take (k + 1) ops)).found ≡ None
  found-none-empty ops k op there none empty =
      found-none-more ops k op there none (ap (fold (lesser (λ (f : Found). f.code)) None) empty)

  -- the least that an operation of a phase finds, by the places of its faults
  pub found_by-run : (world : World) (k component phase : ℕ) (turn : Turn)
      → fold (lesser (λ (f : Found). f.code)) None
      (found_by coupling entries world k (Run component phase turn.time turn.step turn.at turn.substep turn.first turn.last))
      ≡ option_map (found_in k component) (fold (lesser (λ (f : Fault). f.place)) None (phase_faults coupling entries world component phase turn))
  found_by-run world k component phase turn = least-numbered k component (phase_faults coupling entries world component phase turn)

  -- ---- rows

  rows-numbered_by : (world : World) (k component phase : ℕ) (last : Bool)
      → All (λ (row : TraceRow). row.op ≡ k) (if last then phase_rows coupling world k component phase else [])
  rows-numbered_by world k component phase true =
      All-found (λ (row : TraceRow). row.op ≡ k) _ (slice_get coupling.comps component)
      (λ comp there. All-map (λ (row : TraceRow). row.op ≡ k) (trace_row k component phase comp.decomp (comp_at world component).fields)
      (places_of Export comp.fields) (λ i d inside. refl))
  rows-numbered_by world k component phase false = All-nil (λ (row : TraceRow). row.op ≡ k)

  -- the rows of an operation have its number
  pub rows-numbered : (world : World) (k : ℕ) (op : Op) → All (λ (row : TraceRow). row.op ≡ k) (rows_of coupling world k op)
  rows-numbered world k (Init component) = All-nil (λ (row : TraceRow). row.op ≡ k)
  rows-numbered world k (Link link at_init) = All-nil (λ (row : TraceRow). row.op ≡ k)
  rows-numbered world k (Run component phase time step at substep first last) = rows-numbered_by world k component phase last

  -- the rows of the first operations have lesser numbers
  pub rows-before : (ops : List Op) (k : ℕ) → k ≤ length ops → All (λ (row : TraceRow). row.op < k) (total_of coupling entries (take k ops)).rows
  rows-before ops zero within =
      subst (λ (total : Total). All (λ (row : TraceRow). row.op < 0) total.rows) (sym (total-first ops))
      (All-nil (λ (row : TraceRow). row.op < 0))
  rows-before ops (suc k) within =
      let op = stands-at ops k (omega arith) in
      let next : k + 1 ≡ suc k = omega arith in
      let before = rows-before ops k (omega arith) in
      let world = world_of coupling entries (take (k + 1) ops) in
      subst (λ j. All (λ (row : TraceRow). row.op < suc k) (total_of coupling entries (take j ops)).rows) next
      (subst (All (λ (row : TraceRow). row.op < suc k)) (sym (rows-next ops k op.member op.there))
      (All-append (λ (row : TraceRow). row.op < suc k) (total_of coupling entries (take k ops)).rows (rows_of coupling world k op.member)
      (λ i d inside. let less = before i d inside in omega arith)
      (λ i d inside. let same = rows-numbered world k op.member i d inside in omega arith)))

-- ---- the first fault

-- A run with this least fault, in an operation of this number: these are its rows of earlier operations.
pub record IsSettled (k : ℕ) (fault : Found) (before : List TraceRow) (total : Total) : Type 0 where
  pub found : total.found ≡ Some fault
  pub rows : filter (λ row. nat_lt row.op k) total.rows ≡ before

module _ (coupling : Coupling) (entries : EntryAnswers) (ops : List Op) (numbered : AreNumbered coupling entries ops)
    (k : ℕ) (op : Op) (there : slice_get ops k ≡ Some op) (fault : Found)
    (none : (total_of coupling entries (take k ops)).found ≡ None)
    (least : fold (lesser (λ (f : Found). f.code)) None (found_by coupling entries (world_of coupling entries (take k ops)) k op) ≡ Some fault) where
  -- the fault is numbered within its operation
  pub fault-within : IsFoundBy k fault
  fault-within =
      least-has (λ (f : Found). f.code) (IsFoundBy k) None (found_by coupling entries (world_of coupling entries (take k ops)) k op)
      (λ f same. absurd (none-some f same)) (numbered k op there (world_of coupling entries (take k ops))) fault least

  -- with its operation
  settled-first : IsSettled k fault (total_of coupling entries (take k ops)).rows (total_of coupling entries (take (k + 1) ops))
  settled-first =
      let before = (total_of coupling entries (take k ops)).rows in
      let more = rows_of coupling (world_of coupling entries (take (k + 1) ops)) k op in
      let below = slice_get_within ops k op there in
      let within : k ≤ length ops = omega arith in
      let early = filter-all (λ (row : TraceRow). nat_lt row.op k) before
      (λ i d inside. lt-ltb _ k (rows-before coupling entries ops k within i d inside)) in
      let late = filter-none (λ (row : TraceRow). nat_lt row.op k) more
      (λ i d inside.
      let same = rows-numbered coupling entries (world_of coupling entries (take (k + 1) ops)) k op i d inside in
      le-ltb _ k (omega arith)) in
      record {
        found = found-first coupling entries ops k op there none ∙ least;
        rows =
            ap (filter (λ (row : TraceRow). nat_lt row.op k)) (rows-next coupling entries ops k op there)
            ∙ filter-append (λ (row : TraceRow). nat_lt row.op k) before more
            ∙ (λ i. early i ++ late i)
            ∙ append-nil before;
      }

  -- with any later one
  settled-next : (j : ℕ) → k < j → (next : Op) → slice_get ops j ≡ Some next
      → IsSettled k fault (total_of coupling entries (take k ops)).rows (total_of coupling entries (take j ops))
      → IsSettled k fault (total_of coupling entries (take k ops)).rows (total_of coupling entries (take (j + 1) ops))
  settled-next j later next here is =
      let world = world_of coupling entries (take j ops) in
      let found = found_by coupling entries world j next in
      let below = fault-within.below in
      let each = numbered j next here world in
      let before = (total_of coupling entries (take j ops)).rows in
      let more = rows_of coupling (world_of coupling entries (take (j + 1) ops)) j next in
      let late = filter-none (λ (row : TraceRow). nat_lt row.op k) more
      (λ i d inside.
      let same = rows-numbered coupling entries (world_of coupling entries (take (j + 1) ops)) j next i d inside in
      le-ltb _ k (omega arith)) in
      record {
        found =
            found-next coupling entries ops j next here
            ∙ ap (λ o. fold (lesser (λ (f : Found). f.code)) o found) is.found
            ∙ lesser-keeps (λ (f : Found). f.code) fault found (λ i d inside. let from = (each i d inside).from in omega arith);
        rows =
            ap (filter (λ (row : TraceRow). nat_lt row.op k)) (rows-next coupling entries ops j next here)
            ∙ filter-append (λ (row : TraceRow). nat_lt row.op k) before more
            ∙ (λ i. is.rows i ++ late i)
            ∙ append-nil (total_of coupling entries (take k ops)).rows;
      }

  settled-by : (m : ℕ) → k + 1 + m ≤ length ops
      → IsSettled k fault (total_of coupling entries (take k ops)).rows (total_of coupling entries (take (k + 1 + m) ops))
  settled-by zero within =
      let same : k + 1 ≡ k + 1 + 0 = omega arith in
      subst (λ j. IsSettled k fault (total_of coupling entries (take k ops)).rows (total_of coupling entries (take j ops))) same settled-first
  settled-by (suc m) within =
      let j = k + 1 + m in
      let same : j + 1 ≡ k + 1 + suc m = omega arith in
      let later : k < j = omega arith in
      let inside : j < length ops = omega arith in
      let within : j ≤ length ops = omega arith in
      let next = stands-at ops j inside in
      subst (λ j. IsSettled k fault (total_of coupling entries (take k ops)).rows (total_of coupling entries (take j ops))) same
      (settled-next j later next.member next.there (settled-by m within))

  -- the first fault of a run is its least, whatever comes after; the rows of earlier operations are those that there
  -- were before
  pub settled-fault : IsSettled k fault (total_of coupling entries (take k ops)).rows (total_of coupling entries ops)
  settled-fault =
      let below = slice_get_within ops k op there in
      let m = length ops - (k + 1) in
      let same : k + 1 + m ≡ length ops = omega arith in
      let within : k + 1 + m ≤ length ops = omega arith in
      subst (IsSettled k fault (total_of coupling entries (take k ops)).rows)
      (ap (λ j. total_of coupling entries (take j ops)) same ∙ total-whole coupling entries ops)
      (settled-by m within)

  -- the outcome, where the operation of a number finds the first fault: what there was before it
  pub fault-settles : (trace : Bool) → outcome_of coupling entries ops trace
      ≡ record {
        done = k;
        comps = map comp_stop (world_of coupling entries (take k ops));
        fault = Some fault;
        trace = asked_rows trace (total_of coupling entries (take k ops)).rows;
      }
  fault-settles trace =
      let total = total_of coupling entries ops in
      let is = op-found k fault fault-within in
      ap (λ o. option_map_or (fault_outcome coupling entries ops trace total.rows) o (end_outcome coupling ops trace total)) settled-fault.found
      ∙ (λ i. record {
        done = is i;
        comps = map comp_stop (world_of coupling entries (take (is i) ops));
        fault = Some fault;
        trace = asked_rows trace (filter (λ (row : TraceRow). nat_lt row.op (is i)) total.rows);
      })
      ∙ (λ i. record {
        done = k;
        comps = map comp_stop (world_of coupling entries (take k ops));
        fault = Some fault;
        trace = asked_rows trace (settled-fault.rows i);
      })

-- the outcome of a run in which nothing is found
pub no-fault : (coupling : Coupling) (entries : EntryAnswers) (ops : List Op) (trace : Bool) → (total_of coupling entries ops).found ≡ None
    → outcome_of coupling entries ops trace ≡ end_outcome coupling ops trace (total_of coupling entries ops)
no-fault coupling entries ops trace none =
    let total = total_of coupling entries ops in
    ap (λ o. option_map_or (fault_outcome coupling entries ops trace total.rows) o (end_outcome coupling ops trace total)) none

-- ---- the run of a system

-- a system's run whose operation of a number finds its first fault
pub run-settles : (coupling : Coupling) (entries : EntryAnswers) → IsCoupling coupling → (k : ℕ) (op : Op) → slice_get (ops_of coupling) k ≡ Some op
    → (fault : Found)
    → (total_of coupling entries (take k (ops_of coupling))).found ≡ None
    → fold (lesser (λ (f : Found). f.code)) None (found_by coupling entries (world_before coupling entries k) k op) ≡ Some fault
    → (trace : Bool) → serial_outcome coupling entries trace
    ≡ record {
      done = k;
      comps = map comp_stop (world_before coupling entries k);
      fault = Some fault;
      trace = asked_rows trace (total_of coupling entries (take k (ops_of coupling))).rows;
    }
run-settles coupling entries is k op there fault none least trace =
    fault-settles coupling entries (ops_of coupling) (all-numbered coupling entries is (ops_of coupling)) k op there fault none least trace

-- a system's run in which nothing is found
pub run-ends : (coupling : Coupling) (entries : EntryAnswers) (trace : Bool)
    → (total_of coupling entries (take (length (ops_of coupling)) (ops_of coupling))).found ≡ None
    → serial_outcome coupling entries trace
    ≡ end_outcome coupling (ops_of coupling) trace (total_of coupling entries (take (length (ops_of coupling)) (ops_of coupling)))
run-ends coupling entries trace none =
    let whole = total-whole coupling entries (ops_of coupling) in
    no-fault coupling entries (ops_of coupling) trace (ap (λ (total : Total). total.found) (sym whole) ∙ none)
    ∙ ap (end_outcome coupling (ops_of coupling) trace) (sym whole)
