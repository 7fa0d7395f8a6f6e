use Rattle.std.proofs.Common.{◌∙◌, ◌<◌, arith, length}
use Rattle.cpl_entry.specs.Books.{entries_of}
use Rattle.cpl_phase.proofs.AssignmentFacts.{assigned-more}
use Rattle.cpl_phase.proofs.RefreshedFacts.{on-block-set}
use Rattle.cpl_phase.proofs.filling.assign_all.Goals as goal

pub loop-j-preserved : goal.loop-j-preserved
loop-j-preserved g c =
    let j = c.loop-j.j in
    let made = c.assign.ensures.value in
    let there : j < length c.loop-j.others = omega (arith, c.loop-j-test.true, c.requires.count, c.loop-j.auto.others) in
    record {
      values = assigned-more c.args.scene.now (entries_of c.args.book.now) c.args.rows.now c.args.fields.now c.loop-j.others j c.assign.new.out
          c.index-rows-j.result c.loop-j-test.true there c.loop-j.invariant.values
          made;
      others = on-block-set c.args.scene.now.frame
          (length c.args.others.now) c.loop-j.others j c.assign.new.out c.loop-j.invariant.others made.places made.values;
      room = record {
        places = c.assign.ensures.room.places ∙ c.loop-j.invariant.room.places;
        inputs = c.assign.ensures.room.inputs ∙ c.loop-j.invariant.room.inputs;
        scratch = c.assign.ensures.room.scratch ∙ c.loop-j.invariant.room.scratch;
      };
    }

pub returns-clause-values : goal.returns-clause-values
returns-clause-values g c = λ i row below within. c.loop-j.invariant.values i row (omega (arith, below, c.loop-j-test.false)) within
