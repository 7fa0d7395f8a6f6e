use Rattle.std.proofs.Common.{◌≡◌, ◌∙◌, Ok, List, ℤ, FitsSigned, arith, of_z, rules, subst, sym, to_z, w64}
use Rattle.std.proofs.lemmas.Int.{ints, to_z-of_z}
use Rattle.cpl_build.proofs.ComponentFacts.{names-asked}
use Rattle.cpl_build.proofs.SpanFacts.{sequence-below}
use Rattle.cpl_head.specs.Times.{room_after}
use Rattle.cpl_runseq.specs.Asked.{IsAsked}
use Rattle.cpl_runseq.specs.EmptyLoops.{filled_sequence}
use Rattle.cpl_script.specs.Matched.{names_of}
use Rattle.cpl_sequence.specs.declared.seq_name.SeqName.{SeqName}
use Rattle.cpl_build.proofs.reading.sequence_in.Goals as goal

pub read_sequence-requires : goal.read_sequence-requires
read_sequence-requires c =
    let head = c.args.head.now in
    let room = c.room_after-room.result in
    let fits : FitsSigned w64 room = search rules in
    let same : to_z w64 (of_z w64 room) ≡ room_after head.cal head.start = to_z-of_z w64 room fits ∙ c.room_after-room.ensures in
    let asked = names-asked c.args.comps.now head c.requires.few c.requires.comps c.requires.head in
    subst (λ (r : ℤ). IsAsked c.as_slice.result.now head.span head.time_step r) (sym same)
    (subst (λ (names : List SeqName). IsAsked names head.span head.time_step (room_after head.cal head.start)) (sym (c.as_slice.ensures.value ∙ c.in_ok-names.ensures)) asked)

pub returns-in-Ok-clause-end : goal.returns-in-Ok-clause-end
returns-in-Ok-clause-end c =
    let head = c.args.head.now in
    let room = c.room_after-room.result in
    let rows = c.sequence_rows-rows.result.now in
    let fits : FitsSigned w64 room = search rules in
    let same : to_z w64 (of_z w64 room) ≡ room_after head.cal head.start = to_z-of_z w64 room fits ∙ c.room_after-room.ensures in
    let asked = names-asked c.args.comps.now head c.requires.few c.requires.comps c.requires.head in
    let names : c.as_slice.result.now ≡ names_of c.args.comps.now = c.as_slice.ensures.value ∙ c.in_ok-names.ensures in
    let is = subst (λ (r : ℤ). filled_sequence c.as_slice.result.now head.span head.time_step r rows ≡ Ok c.in-Ok.seq) same c.in-Ok.ensures.answer.value in
    let named = subst (λ (given : List SeqName). filled_sequence given head.span head.time_step (room_after head.cal head.start) rows ≡ Ok c.in-Ok.seq) names is in
    let below = sequence-below (names_of c.args.comps.now) head.span head.time_step (room_after head.cal head.start) rows c.in-Ok.seq asked named in
    omega (arith, ints, below)
