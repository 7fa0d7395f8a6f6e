use Rattle.std.proofs.Common.{◌≡◌, ◌∙◌, List, None, ℤ, pos, ◌≤ℤ◌, arith, rules, subst, sym, to_z, of_z, w64, FitsSigned}
use Rattle.std.proofs.lemmas.Int.{ints, to_z-of_z}
use Rattle.cpl_runseq.specs.Asked.{IsAsked}
use Rattle.cpl_sequence.specs.declared.seq_name.SeqName.{SeqName}
use Rattle.test_system.proofs.MakingFacts.{names-asked}
use Rattle.test_system.proofs.making.sequence_of.Goals as goal

pub read_sequence-requires : goal.read_sequence-requires
read_sequence-requires c =
    let room = c.end_of-room.result in
    let least : pos 1 ≤ℤ room = omega (arith, ints) in
    let fits : FitsSigned w64 room = search rules in
    let same : to_z w64 (of_z w64 room) ≡ room = to_z-of_z w64 room fits in
    let asked = names-asked c.args.pets c.args.comps.now room c.requires least c.end_of-room.ensures.small in
    subst (λ (r : ℤ). IsAsked c.as_slice.result.now None None r) (sym same)
    (subst (λ (names : List SeqName). IsAsked names None None room) (sym (c.as_slice.ensures.value ∙ c.in_ok-names.ensures)) asked)
