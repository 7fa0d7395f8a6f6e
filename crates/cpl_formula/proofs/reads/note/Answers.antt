-- The set's comparison of two reads is that of the definition.
use Rattle.std.proofs.Common.{ap, ◌∙◌, Bool, ◌∷◌, [], ◌++◌, if◌then◌else◌}
use Rattle.std.specs.List.{list_any, position_or_len}
use Rattle.cpl_formula.specs.declared.formula.Read.{Read}
use Rattle.cpl_formula.proofs.SameRead.{same}
use Rattle.cpl_formula.proofs.reads.note.Goals as goal

pub returns-clause-reads : goal.returns-clause-reads
returns-clause-reads c =
    c.in_ok-place.ensures.keys
    ∙ ap (λ (equal : Read → Bool). if list_any equal c.args.reads.now.keys then c.args.reads.now.keys else c.args.reads.now.keys ++ c.args.read ∷ []) (same c.args.read)

pub returns-clause-place : goal.returns-clause-place
returns-clause-place c =
    c.in_ok-place.ensures.index
    ∙ ap (λ (equal : Read → Bool). position_or_len equal c.args.reads.now.keys) (same c.args.read)
