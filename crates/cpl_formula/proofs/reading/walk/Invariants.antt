-- What is left is read as the rest of the whole text, and no more reads are noted than bytes are behind.
use Rattle.std.proofs.Common.{◌≡◌, ◌≤◌, ◌-◌, length, drop, []}
use Rattle.cpl_formula.specs.Steps.{start_state, walk}
use Rattle.cpl_formula.specs.Tokens.{tokens_from, tokens_of}
use Rattle.cpl_formula.proofs.reading.walk.Given as goal

abbrev pub invariant-loop-at : goal.invariant-loop-at
invariant-loop-at l = record {
  rest : walk l.before (l.reads.keys, l.state) (tokens_from l.fields l.alarms l.at 0 (drop l.at l.text)) ≡ walk 0 ([], start_state) (tokens_of l.fields l.alarms l.text);
  within : l.at ≤ length l.text;
  few : length l.reads.keys ≤ l.at;
}

abbrev pub decreases-loop-at : goal.decreases-loop-at
decreases-loop-at l = length l.text - l.at
