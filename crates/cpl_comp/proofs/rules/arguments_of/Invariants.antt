use Rattle.std.proofs.Common.{◌≡◌, ◌+◌, ◌<◌, ◌≤◌, ◌^◌, [], drop, length}
use Rattle.std.specs.List.{join_with_byte}
use Rattle.cpl_comp.specs.Rules.{arguments_with}
use Rattle.cpl_comp.specs.Views.{scope_view}
use Rattle.cpl_comp.proofs.rules.arguments_of.Given as goal

-- the arguments so far and those of the words left are those of all words, and the place stays within the text
abbrev pub invariant-loop-word : goal.invariant-loop-word
invariant-loop-word l = record {
  rest : arguments_with (scope_view l.scope) l.arguments.items l.place (drop l.word-index l.words) ≡ arguments_with (scope_view l.scope) [] l.at l.words;
  ahead : l.word-index < length l.words → l.place + length (join_with_byte 32 (drop l.word-index l.words)) < 2 ^ 32;
  within : l.place ≤ 2 ^ 32;
}
