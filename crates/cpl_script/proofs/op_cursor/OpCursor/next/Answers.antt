use Rattle.std.proofs.Common.{sym}
use Rattle.cpl_sequence.specs.declared.op.Op.TheVariants.{Init}
use Rattle.cpl_script.proofs.OpCursorFacts.{init-given, run-given}
use Rattle.cpl_script.proofs.op_cursor.OpCursor.next.Goals as goal

pub returns-then-self-ops-clause-of : goal.returns-then-self-ops-clause-of
returns-then-self-ops-clause-of c =
    (init-given c.args.system.now c.args.self.now c.self.inside.place c.self.inside.run c.init_ops-ops.result.now (Init 0) c.init_ops-ops.ensures.coupling c.requires (sym c.self.view_is) c.init_ops-ops.ensures.value c.if-self-ops.true).of

pub returns-then-self-ops-clause-in_order : goal.returns-then-self-ops-clause-in_order
returns-then-self-ops-clause-in_order c =
    (init-given c.args.system.now c.args.self.now c.self.inside.place c.self.inside.run c.init_ops-ops.result.now (Init 0) c.init_ops-ops.ensures.coupling c.requires (sym c.self.view_is) c.init_ops-ops.ensures.value c.if-self-ops.true).in_order

pub returns-then-self-ops-clause-op : goal.returns-then-self-ops-clause-op
returns-then-self-ops-clause-op c =
    (init-given c.args.system.now c.args.self.now c.self.inside.place c.self.inside.run c.init_ops-ops.result.now (Init 0) c.init_ops-ops.ensures.coupling c.requires (sym c.self.view_is) c.init_ops-ops.ensures.value c.if-self-ops.true).op

pub returns-clause-of : goal.returns-clause-of
returns-clause-of c =
    (run-given c.args.system.now c.args.self.now c.self.inside.place c.self.inside.run c.next.new.self c.init_ops-ops.result.now c.next.result c.init_ops-ops.ensures.coupling c.requires (sym c.self.view_is) c.init_ops-ops.ensures.value c.if-self-ops.false (rw c.seq.ensures at c.next.ensures.of) (rw c.seq.ensures at c.next.ensures.gives)).of

pub returns-clause-in_order : goal.returns-clause-in_order
returns-clause-in_order c =
    (run-given c.args.system.now c.args.self.now c.self.inside.place c.self.inside.run c.next.new.self c.init_ops-ops.result.now c.next.result c.init_ops-ops.ensures.coupling c.requires (sym c.self.view_is) c.init_ops-ops.ensures.value c.if-self-ops.false (rw c.seq.ensures at c.next.ensures.of) (rw c.seq.ensures at c.next.ensures.gives)).in_order

pub returns-clause-op : goal.returns-clause-op
returns-clause-op c =
    (run-given c.args.system.now c.args.self.now c.self.inside.place c.self.inside.run c.next.new.self c.init_ops-ops.result.now c.next.result c.init_ops-ops.ensures.coupling c.requires (sym c.self.view_is) c.init_ops-ops.ensures.value c.if-self-ops.false (rw c.seq.ensures at c.next.ensures.of) (rw c.seq.ensures at c.next.ensures.gives)).op
