use Rattle.std.proofs.Common.{◌≡◌, ◌∙◌, ◌≤◌, Bool, List, ℤ, pos, replicate, ap, arith, length, subst, sym, rules}
use Rattle.std.proofs.lemmas.List.{length-replicate}
use Rattle.std.proofs.lemmas.List.Elements.{All-replicate}
use Rattle.std.specs.List.{All}
use Rattle.cpl_base.specs.Numbers.{IsValue}
use Rattle.cpl_comp.specs.Marks.{CompMarks}
use Rattle.cpl_comp.specs.Worlds.{first_comp}
use Rattle.cpl_comp.specs.declared.component.Field.{Field}
use Rattle.cpl_mediator.specs.Averages.{RunningSums}
use Rattle.cpl_rule.specs.Demands.{CanBeMet}
use Rattle.cpl_phase.specs.Kept.{AreAccums, StandForKept, accum_at}
use Rattle.cpl_phase.specs.Locals.{ArePlans}
use Rattle.cpl_phase.specs.Rooms.{cell_count}
use Rattle.cpl_phase.proofs.OpenFacts.{first-accums, first-aged, first-hold, first-kept, first-shown, first-sums}
use Rattle.cpl_phase.proofs.local.LocalComp.new.Goals as goal

pub returns-clause-local : goal.returns-clause-local
returns-clause-local c =
    let comp = c.args.comp.now in
    let frame = c.frame_of-frame.result in
    let made = c.frame_of-frame.ensures in
    let lists = c.in_ok-lists.ensures in
    let values = c.in_ok-values.ensures in
    let cells = cell_count frame in
    let count = length comp.fields in
    let Planned : List Bool → Type 0 = λ xs. ArePlans comp xs c.in_ok-lists.lists.plans in
    let Summed : List RunningSums → Type 0 = AreAccums cells count in
    let Long : List ℤ → Type 0 = λ xs. length xs ≡ cells in
    let AllLong : List (List ℤ) → Type 0 = All Long in
    let zero : IsValue (pos 0) = omega arith in
    let fewest : CanBeMet c.near_demand-demand.result = search rules in
    record {
      frame = made.frame;
      over = made.over;
      demand = c.near_demand-demand.ensures.covers;
      met = fewest;
      rx = made.rx;
      ry = made.ry;
      ring = c.in_ok-area.ensures.ring;
      sites = c.in_ok-area.ensures.sites;
      connected = ap (λ (xs : List Bool). length xs) lists.connected ∙ c.requires.connected;
      plans = subst Planned (sym lists.connected) lists.plans;
      exports = lists.exports;
      started = lists.started;
      stamps = ap (λ (m : CompMarks). length m.stamps) c.in_ok-marks.ensures.value ∙ length-replicate _ _
          ∙ ap (λ (xs : List Field). length xs) c.items.ensures;
      fields = values.fields.are;
      numbers = values.fields.numbers;
      accums = subst Summed (sym values.accums) (first-accums comp cells);
      sums = λ k below kept. ap (λ (xs : List RunningSums). length (accum_at xs k).sums) values.accums ∙ first-sums comp cells k below kept;
      shown = ap (λ (xs : List (List ℤ)). length xs) values.shown ∙ length-replicate count (replicate cells (pos 0));
      shown_values = subst (All (All IsValue)) (sym values.shown)
          (All-replicate (All IsValue) count (replicate cells (pos 0)) (All-replicate IsValue cells (pos 0) zero));
      shown_cells = subst AllLong (sym values.shown) (All-replicate Long count (replicate cells (pos 0)) (length-replicate cells (pos 0)));
      spare = c.in_ok-spare.ensures;
    }

pub returns-clause-start : goal.returns-clause-start
returns-clause-start c =
    let comp = c.args.comp.now in
    let frame = c.frame_of-frame.result in
    let values = c.in_ok-values.ensures in
    let Kept : List RunningSums → Type 0 = StandForKept frame (length comp.fields) (first_comp comp).fields in
    record {
      marks = sym (c.in_ok-marks.ensures.first comp (ap (λ (xs : List Field). length xs) c.items.ensures));
      values = first-hold frame comp c.in_ok-values.values.fields values.fields;
      kept = subst Kept (sym values.accums) (first-kept comp (cell_count frame) frame);
      shown = first-shown frame comp c.in_ok-values.values.shown values.shown;
    }

pub returns-clause-young : goal.returns-clause-young
returns-clause-young c =
    let Young : List RunningSums → Type 0 = All (λ accum. accum.count ≤ 0) in
    let none = ap (λ (m : CompMarks). m.runs) c.in_ok-marks.ensures.value in
    record {
      runs = omega (arith, none);
      kept = subst Young (sym c.in_ok-values.ensures.accums) (first-aged c.args.comp.now (cell_count c.frame_of-frame.result));
    }
