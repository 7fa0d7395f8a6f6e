use Rattle.std.proofs.Common.{◌≡◌, drop}
use Rattle.cpl_head.specs.Dictionaries.{empty_dictionary, with_rows}
use Rattle.cpl_head.proofs.dictionary.read_dictionary.Given as goal

-- reading on gives what reading all gives
abbrev pub invariant-loop-row : goal.invariant-loop-row
invariant-loop-row l = with_rows l.dict (drop l.row-index l.row-items) ≡ with_rows empty_dictionary l.row-items
