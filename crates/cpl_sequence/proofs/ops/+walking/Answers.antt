use Rattle.std.proofs.Common.{rules, arith, ◌∙◌}
use Rattle.cpl_sequence.specs.declared.element.Element.TheViews.{the_lemmas}
use Rattle.cpl_sequence.proofs.PlaceFacts.{body-element, body-inside, body-rising, element-body}
use Rattle.cpl_sequence.proofs.ops.+walking.Goals as goal

pub body_op-last_up_to-place-requires : goal.body_op-last_up_to-place-requires
body_op-last_up_to-place-requires t c = body-rising c.args.body.now c.args.marks.now c.args.time c.args.step c.args.k c.requires

pub body_op-bounds-body-place : goal.body_op-bounds-body-place
body_op-bounds-body-place t c = body-inside c.args.body.now c.args.marks.now c.args.time c.args.step c.args.k c.last_up_to-place.result c.requires c.last_up_to-place.ensures.inside

pub body_op-element_op-requires : goal.body_op-element_op-requires
body_op-element_op-requires t c =
    let inside = body-inside c.args.body.now c.args.marks.now c.args.time c.args.step c.args.k c.last_up_to-place.result c.requires c.last_up_to-place.ensures.inside in
    (search (rules, the_lemmas), (body-element c.args.body.now c.args.marks.now c.args.time c.args.step c.args.k c.last_up_to-place.result c.index-body-place.result c.index-marks-place.result c.requires c.last_up_to-place.ensures c.index-body-place.is c.index-marks-place.is).at)

pub body_op-returns : goal.body_op-returns
body_op-returns t c =
    (body-element c.args.body.now c.args.marks.now c.args.time c.args.step c.args.k c.last_up_to-place.result c.index-body-place.result c.index-marks-place.result c.requires c.last_up_to-place.ensures c.index-body-place.is c.index-marks-place.is).same ∙ c.element_op.ensures

pub element_op-nonzero_div-begin : goal.element_op-nonzero_div-begin
element_op-nonzero_div-begin t c = (element-body c.args.element.now c.in-Loop.inner c.in-Loop.duration c.in-Loop.body c.args.mark.now c.args.time c.args.step c.args.k c.in-Loop.is c.requires).some

pub element_op-nonzero_rem-within : goal.element_op-nonzero_rem-within
element_op-nonzero_rem-within t c = (element-body c.args.element.now c.in-Loop.inner c.in-Loop.duration c.in-Loop.body c.args.mark.now c.args.time c.args.step c.args.k c.in-Loop.is c.requires).some

pub element_op-overflow_mul-begin : goal.element_op-overflow_mul-begin
element_op-overflow_mul-begin t c =
    let op = element-body c.args.element.now c.in-Loop.inner c.in-Loop.duration c.in-Loop.body c.args.mark.now c.args.time c.args.step c.args.k c.in-Loop.is c.requires in
    let early = op.at.early in
    omega arith

pub element_op-overflow_add-begin : goal.element_op-overflow_add-begin
element_op-overflow_add-begin t c =
    let op = element-body c.args.element.now c.in-Loop.inner c.in-Loop.duration c.in-Loop.body c.args.mark.now c.args.time c.args.step c.args.k c.in-Loop.is c.requires in
    let early = op.at.early in
    omega arith

pub element_op-body_op-requires : goal.element_op-body_op-requires
element_op-body_op-requires t c =
    (search (rules, the_lemmas), rw (c.as_slice.ensures, c.as_slice-in-Loop.ensures) (element-body c.args.element.now c.in-Loop.inner c.in-Loop.duration c.in-Loop.body c.args.mark.now c.args.time c.args.step c.args.k c.in-Loop.is c.requires).at)

pub element_op-returns-in-Loop : goal.element_op-returns-in-Loop
element_op-returns-in-Loop t c =
    (element-body c.args.element.now c.in-Loop.inner c.in-Loop.duration c.in-Loop.body c.args.mark.now c.args.time c.args.step c.args.k c.in-Loop.is c.requires).same ∙ rw (← c.as_slice.ensures) c.body_op.ensures
