use Rattle.std.proofs.Common.{◌≡◌, ℕ, ◌<◌, get_or, suc}
use Rattle.cpl_runseq.proofs.words.cut_arrow.Given as goal

-- no arrow ends among the bytes that were passed
abbrev pub invariant-loop-end : goal.invariant-loop-end
invariant-loop-end l = (k : ℕ) → suc k < l.end → get_or l.text k 0 ≡ 45 → get_or l.text (suc k) 0 ≡ 62 → ⊥
