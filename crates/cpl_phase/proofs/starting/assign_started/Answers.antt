use Rattle.std.proofs.Common.{◌∙◌, ◌<◌, ℕ, List, ap, arith, get_or, length, subst, sym}
use Rattle.std.specs.List.{All}
use Rattle.std.specs.Option.{ForSome}
use Rattle.std.specs.Prelude.{slice_index}
use Rattle.cpl_comp.specs.declared.component.Field.{Field}
use Rattle.cpl_entry.specs.Books.{entries_of}
use Rattle.cpl_rule.specs.Assigned.{IsRuleOn}
use Rattle.cpl_phase.specs.Starts.{rows_started}
use Rattle.cpl_phase.proofs.AssignmentFacts.{assigned-more}
use Rattle.cpl_phase.proofs.RefreshedFacts.{on-block-set}
use Rattle.cpl_phase.proofs.StartFacts.{length-started, places-within, roomy, started-row}
use Rattle.cpl_phase.proofs.starting.assign_started.Goals as goal

pub bounds-described-k : goal.bounds-described-k
bounds-described-k g c =
    let P : List ℕ → Type 0 = All (λ k. k < length c.args.described.now) in
    subst P (sym c.requires.started) (places-within c.args.described.now) c.loop-j.j 0 c.loop-j-test.true

pub assign_one-requires-clause-rule : goal.assign_one-requires-clause-rule
assign_one-requires-clause-rule g c =
    let described = c.args.described.now in
    let k = slice_index c.args.started.now c.loop-j.j in
    let Places : List ℕ → Type 0 = All (λ k. k < length described) in
    let there : k < length described = subst Places (sym c.requires.started) (places-within described) c.loop-j.j 0 c.loop-j-test.true in
    let P : Field → Type 0 = λ field. ForSome field.start (IsRuleOn c.args.scene.now (entries_of c.args.book.now)) in
    subst P (sym c.index-described-k.is) (c.requires.rules k c.index-described-k.result there)

pub assign_one-requires-clause-room : goal.assign_one-requires-clause-room
assign_one-requires-clause-room g c = λ rule is.
    let described = c.args.described.now in
    let k = slice_index c.args.started.now c.loop-j.j in
    let Places : List ℕ → Type 0 = All (λ k. k < length described) in
    let there : k < length described = subst Places (sym c.requires.started) (places-within described) c.loop-j.j 0 c.loop-j-test.true in
    roomy c.args.room.now c.loop-j.room rule c.loop-j.invariant.room
    (c.requires.room k c.index-described-k.result there rule (ap (λ (field : Field). field.start) (sym c.index-described-k.is) ∙ is))

pub loop-j-preserved : goal.loop-j-preserved
loop-j-preserved g c =
    let scene = c.args.scene.now in
    let book = entries_of c.args.book.now in
    let described = c.args.described.now in
    let started = c.args.started.now in
    let rows = rows_started described in
    let j = c.loop-j.j in
    let others = c.loop-j.others in
    let out = c.assign_one.new.out in
    let inside : j < length started = c.loop-j-test.true in
    let many = ap length c.requires.started in
    let among : j < length rows = omega (arith, inside, many, length-started described) in
    let there : j < length others = omega (arith, inside, c.requires.count, c.loop-j.auto.others) in
    record {
      assigned = λ i row below within.
          let made = c.assign_one.ensures.value (get_or rows j row).rule
          (started-row described started j row c.index-described-k.result c.requires.started inside c.index-described-k.is) in
          assigned-more scene book rows c.args.fields.now others j out row among there c.loop-j.invariant.assigned made i row below within;
      others = on-block-set scene.frame
          (length c.args.others.now) others j out c.loop-j.invariant.others c.assign_one.ensures.out c.assign_one.ensures.out_values;
      room = record {
        places = c.assign_one.ensures.room.places ∙ c.loop-j.invariant.room.places;
        inputs = c.assign_one.ensures.room.inputs ∙ c.loop-j.invariant.room.inputs;
        scratch = c.assign_one.ensures.room.scratch ∙ c.loop-j.invariant.room.scratch;
      };
    }

pub returns-clause-values : goal.returns-clause-values
returns-clause-values g c = λ i row below within.
    let many = ap length c.requires.started in
    let within_rows = length-started c.args.described.now in
    c.loop-j.invariant.assigned i row (omega (arith, within, within_rows, many, c.loop-j-test.false)) within
