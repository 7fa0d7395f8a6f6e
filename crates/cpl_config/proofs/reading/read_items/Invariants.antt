use Rattle.std.proofs.Common.{◌≡◌, IfSome, drop, map, option_map}
use Rattle.cpl_text.specs.Lines.{lines_of}
use Rattle.cpl_text.specs.Spans.{line_in}
use Rattle.cpl_config.specs.Items.{items_of, word_line}
use Rattle.cpl_config.specs.Steps.{CanJoin, table_so_far}
use Rattle.cpl_config.proofs.StepsFacts.{entries_from}
use Rattle.cpl_config.proofs.reading.read_items.Given as goal

-- reading on gives what reading all gives, and the table that is open can be added
abbrev pub invariant-loop-line : goal.invariant-loop-line
invariant-loop-line l =
    record {
      read_is : entries_from (map (λ line. word_line (line_in l.bytes line)) (drop l.line-index l.lines)) l.items (option_map table_so_far l.table) ≡ items_of (map word_line (lines_of l.bytes));
      joins : IfSome l.table (CanJoin l.items);
    }
