use Rattle.std.proofs.Common.{rules, arith, length, drop, take, ◌-◌}
use Rattle.std.proofs.lemmas.List.{take_rest}
use Rattle.std.proofs.lemmas.Option.{slice_get_within}
use Rattle.cpl_sequence.specs.declared.element.Element.TheViews.{the_lemmas}
use Rattle.cpl_sequence.proofs.StepFacts.{entered, entered_element, first, returns_Link, returns_Loop, returns_Run, returns_in, round_few, stands_inside}
use Rattle.cpl_sequence.proofs.turns.+stepping.Goals as goal

pub step_element-turn_of-requires-clause-round : goal.step_element-turn_of-requires-clause-round
step_element-turn_of-requires-clause-round t c =
    omega (arith, round_few c.args.frames.now c.args.element.now c.in-Run.component c.in-Run.phase c.in-Run.substep c.args.step c.in-Run.is c.requires.fits c.requires.some)

pub step_element-step_loop-requires : goal.step_element-step_loop-requires
step_element-step_loop-requires t c =
    let into = entered c.args.frames.now c.args.element.now c.in-Loop.inner c.in-Loop.duration c.as_slice.result.now c.args.time c.args.step (rw c.as_slice.ensures c.in-Loop.is) c.requires.timed c.requires.nested c.requires.early c.requires.fits in
    (search (rules, the_lemmas), (into.timed, (into.nested, (into.early, into.fits))))

pub step_element-returns-in-Link : goal.step_element-returns-in-Link
step_element-returns-in-Link t c = returns_Link c.args.frames.now c.args.element.now c.in-Link.link c.args.time c.args.step c.in-Link.is c.requires.fits

pub step_element-returns-in-Run : goal.step_element-returns-in-Run
step_element-returns-in-Run t c =
    returns_Run c.args.frames.now c.args.element.now c.in-Run.component c.in-Run.phase c.in-Run.substep c.args.time c.args.step c.unwrap_or.result c.run_op.result c.turn_of.result c.in-Run.is c.requires.fits c.requires.some c.unwrap_or.ensures c.run_op.ensures c.turn_of.ensures

pub step_element-returns-in-Loop : goal.step_element-returns-in-Loop
step_element-returns-in-Loop t c =
    returns_Loop c.args.frames.now c.args.element.now c.in-Loop.inner c.in-Loop.duration c.as_slice.result.now c.args.time c.args.step c.step_loop.result (rw c.as_slice.ensures c.in-Loop.is) c.step_loop.ensures

pub step_loop-step_element-inside-requires : goal.step_loop-step_element-inside-requires
step_loop-step_element-inside-requires t c =
    let inside = stands_inside c.args.frames.now c.args.step c.args.duration c.args.body.now c.index-body-frame.result c.requires.fits c.index-body-frame.is in
    let within = slice_get_within c.args.body.now (first c.args.frames.now).place c.index-body-frame.result inside.stands.got in
    let into = entered_element c.args.frames.now (take (length c.args.frames.now - 1) (drop 1 c.args.frames.now)) c.args.step c.args.duration c.args.body.now c.args.time c.index-body-frame.result (take_rest c.args.frames.now 1) c.requires.timed c.requires.nested c.requires.early inside in
    (search (rules, the_lemmas), (into.timed, (into.nested, (into.some, (into.early, into.fits)))))

pub step_loop-turn_of-requires-clause-place : goal.step_loop-turn_of-requires-clause-place
step_loop-turn_of-requires-clause-place t c =
    let inside = stands_inside c.args.frames.now c.args.step c.args.duration c.args.body.now c.index-body-frame.result c.requires.fits c.index-body-frame.is in
    let within = slice_get_within c.args.body.now (first c.args.frames.now).place c.index-body-frame.result inside.stands.got in
    search rules

pub step_loop-returns : goal.step_loop-returns
step_loop-returns t c =
    let inside = stands_inside c.args.frames.now c.args.step c.args.duration c.args.body.now c.index-body-frame.result c.requires.fits c.index-body-frame.is in
    returns_in c.args.frames.now (take (length c.args.frames.now - 1) (drop 1 c.args.frames.now)) c.args.step c.args.duration c.args.body.now c.args.time c.index-body-frame.result c.step_element-inside.result c.turn_of.result (take_rest c.args.frames.now 1) c.requires.timed c.requires.nested inside c.step_element-inside.ensures c.turn_of.ensures
