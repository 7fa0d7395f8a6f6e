use Rattle.std.proofs.Common.{◌≡◌, ◌∙◌, length, subst, sym, ap, List}
use Rattle.std.proofs.lemmas.List.{length-map}
use Rattle.cpl_sequence.specs.Bounds.{IsOpOver, IsOpWithin, IsOver}
use Rattle.cpl_sequence.specs.Sequence.{Sequence}
use Rattle.cpl_script.specs.Couplings.{Coupling}
use Rattle.cpl_sequence.specs.declared.link_line.LinkLine.{LinkLine}
use Rattle.cpl_script.specs.Matched.{names_of}
use Rattle.cpl_script.specs.Sound.{IsCoupling}
use Rattle.cpl_script.proofs.InitFacts.{run-op}
use Rattle.cpl_script.proofs.system.System.op.Goals as goal

pub returns-clause-of : goal.returns-clause-of
returns-clause-of c =
    let coupling = c.args.self.now in
    let sound : IsCoupling coupling = subst IsCoupling c.self.view_is c.self.invariant.coupling_is in
    let lines : length coupling.links ≡ length coupling.sequence.links = sym (length-map coupling.links (λ link. link.line)) ∙ ap (λ (lines : List LinkLine). length lines) sound.lines in
    let seq : c.self.inside.seq ≡ coupling.sequence = ap (λ (kept : Coupling). kept.sequence) c.self.view_is in
    let within : IsOpWithin coupling.sequence c.op.result = subst (λ (s : Sequence). IsOpWithin s c.op.result) seq c.op.ensures.within in
    let over : IsOpOver (names_of coupling.comps) c.op.result = c.op.ensures.over (names_of coupling.comps) (subst (IsOver (names_of coupling.comps)) (sym seq) sound.over) in
    run-op coupling c.op.result lines over within
