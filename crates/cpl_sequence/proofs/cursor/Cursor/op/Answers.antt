use Rattle.std.proofs.Common.{◌∙◌, sym}
use Rattle.cpl_sequence.proofs.BoundFacts.{op-over, op-within}
use Rattle.cpl_sequence.proofs.PlaceFacts.{IsSought, tops-inside, tops-rising, tops-top}
use Rattle.cpl_sequence.proofs.cursor.Cursor.op.Goals as goal

pub last_up_to-place-requires : goal.last_up_to-place-requires
last_up_to-place-requires c = tops-rising c.args.seq.now c.marks.result.now c.args.k c.marks.ensures c.requires

pub bounds-loops-place : goal.bounds-loops-place
bounds-loops-place c = tops-inside c.args.seq.now c.loops.result.now c.marks.result.now c.last_up_to-place.result c.loops.ensures.value c.marks.ensures c.last_up_to-place.ensures.inside

pub top_op-requires : goal.top_op-requires
top_op-requires c =
    let sought : IsSought c.args.seq.now c.loops.result.now c.marks.result.now c.args.k = record { sound = c.loops.ensures.sound; loops_are = c.loops.ensures.value; marks_are = c.marks.ensures; below = c.requires } in
    let same = c.marks-2.ensures ∙ sym c.marks.ensures in
    (tops-top c.args.seq.now c.loops.result.now c.marks.result.now c.args.k c.last_up_to-place.result c.index-loops-place.result c.index-marks-place.result sought c.last_up_to-place.ensures c.index-loops-place.is (rw (← same) c.index-marks-place.is)).at

pub returns : goal.returns
returns c =
    let sought : IsSought c.args.seq.now c.loops.result.now c.marks.result.now c.args.k = record { sound = c.loops.ensures.sound; loops_are = c.loops.ensures.value; marks_are = c.marks.ensures; below = c.requires } in
    let same = c.marks-2.ensures ∙ sym c.marks.ensures in
    let got = (tops-top c.args.seq.now c.loops.result.now c.marks.result.now c.args.k c.last_up_to-place.result c.index-loops-place.result c.index-marks-place.result sought c.last_up_to-place.ensures c.index-loops-place.is (rw (← same) c.index-marks-place.is)).same ∙ c.top_op.ensures in
    record {
      value = got;
      within = op-within c.args.seq.now c.args.k c.top_op.result c.loops.ensures.sound got;
      over = op-over c.args.seq.now c.args.k c.top_op.result got;
    }
