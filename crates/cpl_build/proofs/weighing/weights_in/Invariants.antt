use Rattle.std.proofs.Common.{◌≡◌, ◌≤◌, [], drop, length, take}
use Rattle.std.specs.Prelude.{IfSome}
use Rattle.std.specs.List.{All, zip}
use Rattle.cpl_build.specs.Causes.{IsAmong}
use Rattle.cpl_build.specs.WeightFiles.{IsWeighed, files_asked_with, most_records, record_total, weights_with}
use Rattle.cpl_build.proofs.weighing.weights_in.Given as goal

-- reading on gives what reading all gives, and what it asks for is asked for; no load failed so far
abbrev pub invariant-loop-line : goal.invariant-loop-line
invariant-loop-line g l = record {
  told : g.H.Shelf.files l.shelf ≡ g.H.Shelf.files l.fn.shelf;
  quiet : g.H.Shelf.faults l.shelf ≡ g.H.Shelf.faults l.fn.shelf;
  spent : l.spent ≡ record_total l.weights.items;
  few : l.spent ≤ most_records;
  count : length l.weights.items ≡ l.line-index;
  rest : IfSome (g.H.Shelf.files l.shelf) (λ files. weights_with files l.comps l.weights.items (drop l.line-index l.lines) ≡ weights_with files l.comps [] l.lines);
  asked : IfSome (g.H.Shelf.files l.shelf) (λ files. (name : _) → IsAmong name (files_asked_with files l.comps l.weights.items (drop l.line-index l.lines)) → IsAmong name (files_asked_with files l.comps [] l.lines));
  each : All (IsWeighed l.comps) (zip (take l.line-index l.lines) l.weights.items);
}
