use Rattle.std.proofs.Common.{◌≡◌, take}
use Rattle.std.specs.Prelude.{sum_by}
use Rattle.cpl_script.specs.Drafts.{draft_numbers}
use Rattle.cpl_script.specs.Systems.{capped}
use Rattle.cpl_script.proofs.routes.numbers_of_drafts.Given as goal

-- the numbers of the drafts so far
abbrev pub invariant-loop-draft : goal.invariant-loop-draft
invariant-loop-draft l = l.total ≡ capped (sum_by (draft_numbers l.comps) (take l.draft-index l.drafts))
