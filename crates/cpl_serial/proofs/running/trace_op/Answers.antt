use Rattle.std.proofs.Common.{◌∙◌, ap, get_or, refl, subst, sym}
use Rattle.std.specs.Prelude.{◌≡◌, ◌<◌, ◌++◌, IfOk, List, map, length}
use Rattle.std.proofs.lemmas.Option.{slice_get_read, slice_get_within}
use Rattle.cpl_comp.specs.Turns.{places_of}
use Rattle.cpl_comp.specs.declared.component.Role.TheVariants.{Export}
use Rattle.cpl_script.specs.SerialRun.{trace_row}
use Rattle.cpl_script.specs.Sound.{IsOpOf, IsRunOf}
use Rattle.cpl_script.specs.Transfers.{comp_at}
use Rattle.cpl_trace.specs.declared.row.TraceRow.{TraceRow}
use Rattle.cpl_serial.proofs.RunFacts.{rows-asked}
use Rattle.cpl_serial.proofs.running.trace_op.Goals as goal

pub push_rows-requires-clause-local : goal.push_rows-requires-clause-local
push_rows-requires-clause-local c =
    let coupling = c.args.system.now in
    let place = c.in-Run.component in
    let of : IsRunOf coupling place c.in-Run.phase c.in-Run.time c.in-Run.step c.in-Run.at c.in-Run.substep = subst (IsOpOf coupling) c.in-Run.is c.requires.op in
    let comp = c.index-comps-place.result in
    let local = c.index-items-place.result in
    let locals = c.args.world.now.comps in
    let below : place < length coupling.comps = slice_get_within coupling.comps place of.comp of.there in
    let there = slice_get_read coupling.comps (length coupling.comps) place comp refl below (c.index-comps-place.is ∙ ap (λ xs. get_or xs place comp) c.comps.ensures) in
    let inside : place < length locals = subst (λ n. place < n) (sym c.requires.made.whole.size) below in
    let stands = slice_get_read locals (length locals) place local refl inside (c.index-items-place.is ∙ ap (λ xs. get_or xs place local) c.items.ensures) in
    (c.requires.made.whole.each place comp local there stands).is

pub push_rows-requires-clause-whole : goal.push_rows-requires-clause-whole
push_rows-requires-clause-whole c =
    let coupling = c.args.system.now in
    let place = c.in-Run.component in
    let of : IsRunOf coupling place c.in-Run.phase c.in-Run.time c.in-Run.step c.in-Run.at c.in-Run.substep = subst (IsOpOf coupling) c.in-Run.is c.requires.op in
    let comp = c.index-comps-place.result in
    let local = c.index-items-place.result in
    let locals = c.args.world.now.comps in
    let below : place < length coupling.comps = slice_get_within coupling.comps place of.comp of.there in
    let there = slice_get_read coupling.comps (length coupling.comps) place comp refl below (c.index-comps-place.is ∙ ap (λ xs. get_or xs place comp) c.comps.ensures) in
    let inside : place < length locals = subst (λ n. place < n) (sym c.requires.made.whole.size) below in
    let stands = slice_get_read locals (length locals) place local refl inside (c.index-items-place.is ∙ ap (λ xs. get_or xs place local) c.items.ensures) in
    (c.requires.made.whole.each place comp local there stands).whole

pub returns-in_ok-push_rows-in-Run : goal.returns-in_ok-push_rows-in-Run
returns-in_ok-push_rows-in-Run c = λ w stand.
    let coupling = c.args.system.now in
    let place = c.in-Run.component in
    let of : IsRunOf coupling place c.in-Run.phase c.in-Run.time c.in-Run.step c.in-Run.at c.in-Run.substep = subst (IsOpOf coupling) c.in-Run.is c.requires.op in
    let comp = c.index-comps-place.result in
    let local = c.index-items-place.result in
    let locals = c.args.world.now.comps in
    let below : place < length coupling.comps = slice_get_within coupling.comps place of.comp of.there in
    let there = slice_get_read coupling.comps (length coupling.comps) place comp refl below (c.index-comps-place.is ∙ ap (λ xs. get_or xs place comp) c.comps.ensures) in
    let inside : place < length locals = subst (λ n. place < n) (sym c.requires.made.whole.size) below in
    let stands = slice_get_read locals (length locals) place local refl inside (c.index-items-place.is ∙ ap (λ xs. get_or xs place local) c.items.ensures) in
    let old = c.args.rows.now.items in
    let rows = map (trace_row c.args.k place c.in-Run.phase comp.decomp (comp_at w place).fields) (places_of Export comp.fields) in
    let made = subst (λ r. IfOk r (λ unit. c.push_rows.new.rows.items ≡ old ++ rows)) c.in_ok-push_rows-in-Run.was
    (c.push_rows.ensures (comp_at w place) (stand.each place comp local there stands)) in
    made ∙ ap (λ (xs : List TraceRow). old ++ xs) (sym (rows-asked coupling w c.args.k c.args.op place c.in-Run.phase c.in-Run.time c.in-Run.step c.in-Run.at c.in-Run.substep
    c.in-Run.first c.in-Run.last c.args.trace c.in-Run.is c.if-trace.true c.if-last.true comp there))
