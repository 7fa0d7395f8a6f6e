use Rattle.std.proofs.Common.{[], Ok, Err, inl, inr, subst, sym, refl}
use Rattle.cpl_build.specs.Builds.{files_asked_in, system_in}
use Rattle.cpl_build.specs.Causes.{IsAmong, IsCause, request, visit}
use Rattle.cpl_build.specs.Outlines.{inputs_of}
use Rattle.cpl_build.specs.WeightFiles.{files_asked_with, weights_with}
use Rattle.cpl_build.proofs.BuildFacts.{asked-made, outline-fails, system-made, weights-fail}
use Rattle.cpl_build.proofs.FileFacts.{follows-failed, follows-rejected, told-any, told-one}
use Rattle.cpl_build.proofs.PartFacts.{parts-accepted}
use Rattle.cpl_script.specs.Couplings.{Coupling}
use Rattle.cpl_script.specs.Sound.{CallsEntries}
use Rattle.cpl_script.specs.Systems.{coupling_of}
use Rattle.cpl_build.proofs.building.system_in.Goals as goal

pub returns-in_err-outline-clause-causes : goal.returns-in_err-outline-clause-causes
returns-in_err-outline-clause-causes g c =
    let signs = c.args.signs.now in
    let bytes = c.args.bytes.now in
    let told = g.H.Shelf.files c.args.shelf.now in
    let n = g.H.Shelf.faults c.args.shelf.now in
    let e = c.in_err-outline.field-0.0 in
    let whole = request (λ files. system_in files signs c.args.trace bytes) (λ files. files_asked_in files signs bytes) in
    follows-rejected told n n whole (λ (system : Coupling). system) c.from_residual.result e c.from_residual.ensures.0 c.from_residual.ensures.1 refl
    (elim c.in_err-outline.ensures.answer.fault [ inl memory ↦ inl memory | inr is ↦ inr (told-any told (λ files. outline-fails files signs c.args.trace bytes e is)) ])

pub returns-in_err-weights-clause-causes : goal.returns-in_err-weights-clause-causes
returns-in_err-weights-clause-causes g c =
    let signs = c.args.signs.now in
    let bytes = c.args.bytes.now in
    let told = g.H.Shelf.files c.args.shelf.now in
    let before = g.H.Shelf.faults c.args.shelf.now in
    let after = g.H.Shelf.faults c.weights_in.new.shelf in
    let outline = c.in_ok-outline.outline in
    let made = c.in_ok-outline.ensures.answer.value in
    let e = c.in_err-weights.field-0.0 in
    let first = request (λ files. weights_with files outline.comps [] outline.seq.links) (λ files. files_asked_with files outline.comps [] outline.seq.links) in
    let whole = request (λ files. system_in files signs c.args.trace bytes) (λ files. files_asked_in files signs bytes) in
    let cause : IsCause (visit told before after) first e = rw (c.items.ensures, c.links.ensures.value) at c.in_err-weights.ensures.answer.fault in
    follows-failed told before after first whole (λ (system : Coupling). system) c.from_residual-in_err-weights.result e c.from_residual-in_err-weights.ensures.0 c.from_residual-in_err-weights.ensures.1
    (told-any told (λ files f is. weights-fail files signs c.args.trace bytes outline f made is))
    (told-any told (λ files name among. subst (IsAmong name) (sym (asked-made files signs bytes outline made)) among))
    cause

pub returns-in_err-system-clause-causes : goal.returns-in_err-system-clause-causes
returns-in_err-system-clause-causes g c =
    let signs = c.args.signs.now in
    let bytes = c.args.bytes.now in
    let told = g.H.Shelf.files c.args.shelf.now in
    let before = g.H.Shelf.faults c.args.shelf.now in
    let after = g.H.Shelf.faults c.weights_in.new.shelf in
    let outline = c.in_ok-outline.outline in
    let weights = c.in_ok-weights.weights.items in
    let made = c.in_ok-outline.ensures.answer.value in
    let e = c.in_err-system.field-0.0 in
    let whole = request (λ files. system_in files signs c.args.trace bytes) (λ files. files_asked_in files signs bytes) in
    let have = rw (c.items.ensures, c.links.ensures.value) at c.in_ok-weights.ensures.answer.value.1 in
    follows-rejected told before after whole (λ (system : Coupling). system) c.from_residual-in_err-system.result e c.from_residual-in_err-system.ensures.0 c.from_residual-in_err-system.ensures.1 c.in_ok-weights.ensures.answer.value.0
    (elim c.in_err-system.ensures.answer.fault [ inl memory ↦ inl memory | inr is ↦ inr (told-one told (λ files h. system-made files signs c.args.trace bytes outline weights (Err e) made h is) have) ])

pub traced_system-requires : goal.traced_system-requires
traced_system-requires g c =
    let count = rw c.links.ensures.value at c.in_ok-weights.ensures.count in
    let each = rw (c.items.ensures, c.links.ensures.value) at c.in_ok-weights.ensures.each in
    parts-accepted (inputs_of c.args.signs.now) c.in_ok-outline.outline c.in_ok-weights.weights.items c.in_ok-outline.ensures.outline count each

pub returns-clause-causes : goal.returns-clause-causes
returns-clause-causes g c =
    let signs = c.args.signs.now in
    let bytes = c.args.bytes.now in
    let told = g.H.Shelf.files c.args.shelf.now in
    let outline = c.in_ok-outline.outline in
    let weights = c.in_ok-weights.weights.items in
    let made = c.in_ok-outline.ensures.answer.value in
    let have = rw (c.items.ensures, c.links.ensures.value) at c.in_ok-weights.ensures.answer.value.1 in
    record {
      value = (c.in_ok-weights.ensures.answer.value.0, told-one told (λ files h. system-made files signs c.args.trace bytes outline weights (Ok c.in_ok-system.system) made h c.in_ok-system.ensures.answer.value) have);
      fault = tt;
    }

pub returns-clause-entries : goal.returns-clause-entries
unfolding coupling_of
returns-clause-entries g c = subst (CallsEntries (inputs_of c.args.signs.now)) (sym c.in_ok-system.ensures.parts) c.in_ok-outline.ensures.outline.comps.each
