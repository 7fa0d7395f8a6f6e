use Rattle.std.proofs.Common.{◌≡◌, map, filter}
use Rattle.cpl_base.specs.Words.{is_some_of}
use Rattle.cpl_base.proofs.cuts.words.Given as goal

-- of the pieces so far those that aren't empty
abbrev pub invariant-loop-piece : goal.invariant-loop-piece
invariant-loop-piece l = map (λ word. word.now) l.words.items ≡ filter is_some_of (map (λ piece. piece.now) l.yielded)
