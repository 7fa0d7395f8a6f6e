-- How a text begins.
use Rattle.std.proofs.Common.{◌≡◌, ℕ, List, ◌++◌}
use Rattle.cpl_base.specs.Chain.{◌>>=◌}
use Rattle.cpl_base.specs.Words.{rest_behind}
use Rattle.cpl_base.proofs.WordsFacts.{rest_behind-append}

-- what stands behind two texts, one after the other
pub rest_behind_both : (first second text : List ℕ) → rest_behind (first ++ second) text ≡ (rest_behind first text >>= rest_behind second)
rest_behind_both = rest_behind-append
