use Rattle.std.proofs.Common.{Some, None}
use Rattle.cpl_sequence.proofs.CursorFacts.{IsHeld, asked, given_none, given_of, given_top, given_turn}
use Rattle.cpl_sequence.proofs.cursor.Cursor.next.Goals as goal

pub step_loop-made-requires : goal.step_loop-made-requires
step_loop-made-requires c =
    let held : IsHeld c.args.seq.now c.args.self.now c.loops.result.now c.self.inside.top c.self.inside.frames = record { sound = c.loops.ensures.sound; of = c.requires; loops_are = c.loops.ensures.value; stands = c.self.view_is } in
    let met = asked c.args.seq.now c.args.self.now c.loops.result.now c.self.inside.top c.self.inside.frames c.as_slice-2.result.now c.in-Some.top.now c.as_slice.result.now held c.in-Some.ensures c.as_slice-2.ensures c.as_slice.ensures in
    record { timed = met.timed; nested = met.nested; early = met.early; fits = met.fits }

pub returns-in_default : goal.returns-in_default
returns-in_default c =
    let held : IsHeld c.args.seq.now c.args.self.now c.loops.result.now c.self.inside.top c.self.inside.frames = record { sound = c.loops.ensures.sound; of = c.requires; loops_are = c.loops.ensures.value; stands = c.self.view_is } in
    let next = given_none c.args.seq.now c.args.self.now c.loops.result.now c.self.inside.top c.self.inside.frames held c.in_default.ensures in
    let given = given_of c.args.seq.now c.args.self.now c.args.self.now None c.loops.ensures.sound c.requires next in
    record { of = given.of; gives = given.gives; in_order = given.in_order; within = given.within; over = given.over }

pub returns-in-Some-turn : goal.returns-in-Some-turn
returns-in-Some-turn c =
    let held : IsHeld c.args.seq.now c.args.self.now c.loops.result.now c.self.inside.top c.self.inside.frames = record { sound = c.loops.ensures.sound; of = c.requires; loops_are = c.loops.ensures.value; stands = c.self.view_is } in
    let next = given_turn c.args.seq.now c.args.self.now c.loops.result.now c.self.inside.top c.self.inside.frames c.as_slice-2.result.now c.turn_to.new.frames c.in-Some.top.now c.as_slice.result.now c.step_loop-made.result c.in-Some-turn.turn held c.in-Some.ensures c.as_slice-2.ensures c.as_slice.ensures c.in-Some-turn.is c.step_loop-made.ensures c.turn_to.ensures in
    let given = given_of c.args.seq.now c.args.self.now (record { top = c.self.inside.top; frames = c.turn_to.new.frames }) (Some c.step_loop-made.result.op) c.loops.ensures.sound c.requires next in
    record { of = given.of; gives = given.gives; in_order = given.in_order; within = given.within; over = given.over }

pub returns-in-None : goal.returns-in-None
returns-in-None c =
    let held : IsHeld c.args.seq.now c.args.self.now c.loops.result.now c.self.inside.top c.self.inside.frames = record { sound = c.loops.ensures.sound; of = c.requires; loops_are = c.loops.ensures.value; stands = c.self.view_is } in
    let next = given_top c.args.seq.now c.args.self.now c.loops.result.now c.loops-in-None.result.now c.self.inside.top c.filled_from-self-inside.result c.self.inside.frames c.as_slice-2.result.now c.turn_to-in-None.new.frames c.in-Some.top.now c.as_slice.result.now c.step_loop-made.result held c.in-Some.ensures c.as_slice-2.ensures c.as_slice.ensures c.in-None.is c.step_loop-made.ensures c.loops-in-None.ensures.value c.filled_from-self-inside.ensures c.turn_to-in-None.ensures in
    let given = given_of c.args.seq.now c.args.self.now (record { top = c.filled_from-self-inside.result; frames = c.turn_to-in-None.new.frames }) (Some c.step_loop-made.result.op) c.loops.ensures.sound c.requires next in
    record { of = given.of; gives = given.gives; in_order = given.in_order; within = given.within; over = given.over }
