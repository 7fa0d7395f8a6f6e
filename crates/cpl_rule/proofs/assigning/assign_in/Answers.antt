use Rattle.std.proofs.Common.{◌∙◌, ap, sym, subst, length, List}
use Rattle.std.specs.List.{All}
use Rattle.cpl_block.specs.Frames.{span_of}
use Rattle.cpl_comp.specs.declared.component.Rule.TheVariants.{Plain}
use Rattle.cpl_entry.specs.Books.{entries_of}
use Rattle.cpl_sweep.specs.Places.{IsPlace}
use Rattle.cpl_sweep.specs.declared.place.Place.{Place}
use Rattle.cpl_rule.specs.Inputs.{arguments_of}
use Rattle.cpl_rule.proofs.AssignedFacts.{assigned-native, assigned-plain}
use Rattle.cpl_rule.proofs.PlaceFacts.{placed-all}
use Rattle.cpl_rule.proofs.assigning.assign_in.Goals as goal

pub sweep_block-requires-clause-places : goal.sweep_block-requires-clause-places
sweep_block-requires-clause-places g c =
    let scene = c.args.scene.now in
    let P : List Place → Type 0 = All (IsPlace c.args.fields.now (span_of scene.frame)) in
    subst P (sym c.place_inputs.ensures) (placed-all scene.frame scene.fields scene.moment c.args.fields.now c.frame_laws.ensures c.requires.fields (length scene.moment.times.alarms.now) (arguments_of c.args.rule.now) c.requires.rule.near)

pub call_block-requires-clause-places : goal.call_block-requires-clause-places
call_block-requires-clause-places g c =
    let scene = c.args.scene.now in
    let P : List Place → Type 0 = All (IsPlace c.args.fields.now (span_of scene.frame)) in
    subst P (sym c.place_inputs.ensures) (placed-all scene.frame scene.fields scene.moment c.args.fields.now c.frame_laws.ensures c.requires.fields (length scene.moment.times.alarms.now) (arguments_of c.args.rule.now) c.requires.rule.near)

pub returns-in-Plain : goal.returns-in-Plain
returns-in-Plain g c =
    assigned-plain c.args.scene.now (entries_of c.args.book.now) c.args.rule.now c.args.fields.now c.sweep_block.new.out c.place_inputs.new.places c.frame_laws.ensures c.requires.rule c.place_inputs.ensures
    c.get.result.now (c.in-Plain.is ∙ ap Plain (sym c.get.ensures)) c.sweep_block.ensures

pub returns-in-Native : goal.returns-in-Native
returns-in-Native g c =
    assigned-native c.args.scene.now (entries_of c.args.book.now) c.args.rule.now c.args.fields.now c.call_block.new.out c.place_inputs.new.places c.frame_laws.ensures c.requires.rule c.place_inputs.ensures
    c.in-Native.entry c.in-Native.reads c.in-Native.is c.call_block.ensures
