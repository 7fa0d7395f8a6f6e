use Rattle.std.proofs.Common.{length}
use Rattle.cpl_field.specs.Copies.{IsCopied}
use Rattle.cpl_block.proofs.RingFacts.{from-within, refilled, to-apart, to-within}
use Rattle.cpl_block.proofs.ring.refill.Goals as goal

pub copy_within-requires-clause-to : goal.copy_within-requires-clause-to
copy_within-requires-clause-to c =
    rw c.deref.ensures.value (to-within c.args.frame.now c.args.ring.now (length c.args.field.now) c.frame_laws.ensures c.requires.ring c.requires.places)

pub copy_within-requires-clause-from : goal.copy_within-requires-clause-from
copy_within-requires-clause-from c =
    rw c.deref-2.ensures.value (from-within c.args.frame.now c.args.ring.now (length c.args.field.now) c.frame_laws.ensures c.requires.ring c.requires.places)

pub copy_within-requires-clause-apart : goal.copy_within-requires-clause-apart
copy_within-requires-clause-apart c =
    rw (c.deref.ensures.value, c.deref-2.ensures.value) (to-apart c.args.frame.now c.args.ring.now c.frame_laws.ensures c.requires.ring)

pub returns : goal.returns
returns c =
    let copied : IsCopied c.args.ring.now.to.items c.args.ring.now.from.items c.args.field.now c.args.field.now c.copy_within.new.field = rw (c.deref.ensures.value, c.deref-2.ensures.value) at c.copy_within.ensures in
    refilled c.args.frame.now c.args.ring.now c.args.field.now c.copy_within.new.field c.frame_laws.ensures c.requires.ring c.requires.places copied
