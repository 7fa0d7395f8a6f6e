-- What contracts see of a run sequence.
use Rattle.std.specs.Prelude.{ℤ, List}
use Rattle.cpl_sequence.specs.declared.element.TopLoop.{TopLoop}
use Rattle.cpl_sequence.specs.declared.link_line.LinkLine.{LinkLine}

-- The connectors in the order of their first lines, the loops that stand in no other, and how many seconds all lasts.
pub record Sequence : Type 0 where
  pub links : List LinkLine
  pub loops : List TopLoop
  pub span : ℤ
