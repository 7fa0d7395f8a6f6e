use Rattle.std.proofs.Common.{◌≡◌, ◌+◌, ◌++◌, drop, length, map}
use Rattle.std.specs.List.{zip}
use Rattle.std.specs.Vec.Iter.{into_iter_items}
use Rattle.cpl_script.specs.Drafts.{draft_of}
use Rattle.cpl_script.proofs.draft.drafts_of.Given as goal

-- the drafts so far and those of the lines left are those of all lines
abbrev pub invariant-loop-given : goal.invariant-loop-given
invariant-loop-given l = record {
  rest : l.drafts.items ++ map (draft_of l.pairs) (zip (drop l.place l.lines) (into_iter_items l.given-iterator)) ≡ map (draft_of l.pairs) (zip l.lines l.fn.weights);
  count : l.place + length (into_iter_items l.given-iterator) ≡ length l.lines;
}
