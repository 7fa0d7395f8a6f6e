use Rattle.std.proofs.Common.{◌≡◌, [], length}
use Rattle.cpl_comp.specs.PhaseRows.{terms_with}
use Rattle.cpl_comp.specs.Views.{phase_scope_view}
use Rattle.cpl_comp.proofs.phase_rows.terms_of.Given as goal

-- the products so far and those of the rest are those of all words
abbrev pub invariant-loop-rest : goal.invariant-loop-rest
invariant-loop-rest l = terms_with (phase_scope_view l.scope) l.terms.items l.rest ≡ terms_with (phase_scope_view l.scope) [] l.words

abbrev pub decreases-loop-rest : goal.decreases-loop-rest
decreases-loop-rest l = length l.rest
