use Rattle.cpl_field.specs.Copies.{IsCopied}
use Rattle.cpl_block.proofs.AimFacts.{put-all, put-own, put-values}
use Rattle.cpl_block.proofs.aim.put.Goals as goal

pub returns-clause-parcel : goal.returns-clause-parcel
returns-clause-parcel c =
    let copied : IsCopied c.args.aim.now.to.items c.args.aim.now.from.items c.args.values.now c.args.field.now c.copy_from.new.field = rw (c.deref.ensures.value, c.deref-2.ensures.value) at c.copy_from.ensures in
    put-all c.args.frame.now c.args.aim.now c.args.values.now c.args.field.now c.copy_from.new.field copied

pub returns-clause-own : goal.returns-clause-own
returns-clause-own c =
    let copied : IsCopied c.args.aim.now.to.items c.args.aim.now.from.items c.args.values.now c.args.field.now c.copy_from.new.field = rw (c.deref.ensures.value, c.deref-2.ensures.value) at c.copy_from.ensures in
    put-own c.args.frame.now _ c.args.aim.now c.args.values.now c.args.field.now c.copy_from.new.field c.requires.aim copied

pub returns-clause-values : goal.returns-clause-values
returns-clause-values c =
    let copied : IsCopied c.args.aim.now.to.items c.args.aim.now.from.items c.args.values.now c.args.field.now c.copy_from.new.field = rw (c.deref.ensures.value, c.deref-2.ensures.value) at c.copy_from.ensures in
    put-values c.args.frame.now c.args.aim.now c.args.values.now c.args.field.now c.copy_from.new.field c.requires.aim copied
