-- What steps of reading answer, and what they ensure of a system.
use Rattle.std.specs.Prelude.{◌≡◌, ℕ, ◌<◌, ◌≤◌, ◌/◌, List, map, length, Option, Some, None, Result, Ok, Err, IsTrue}
use Rattle.std.specs.Borrow.{Bor}
use Rattle.std.specs.declared.alloc.Global.{Global}
use Rattle.std.specs.declared.vec.Vec.{Vec}
use Rattle.cpl_base.specs.Numbers.{IsValue}
use Rattle.cpl_formula.specs.Tree.{is_over}
use Rattle.cpl_base.specs.Words.{texts}
use Rattle.cpl_driver.specs.declared.system.System.{System}
use Rattle.cpl_driver.specs.declared.unread.Unread.{Unread}
use Rattle.cpl_driver.specs.declared.unread.Unread.TheVariants.{Memory, NotYetBuilt}

-- What a step of reading answered, seen by view, is what the definition gives, unless memory ran out.
abbrev pub Reads : {X Y : Type 0} → (X → Y) → Result X Unread → Option Y → Type 0
Reads view (Ok x) read = read ≡ Some (view x)
Reads view (Err NotYetBuilt) read = read ≡ None
Reads view (Err Memory) read = Unit {0}

-- the words of lines
abbrev pub line_texts : List (Vec (Bor (List ℕ)) Global) → List (List (List ℕ))
line_texts lines = map (λ line. texts line.items) lines

-- What a run needs of a system: its rule can be evaluated, its start is a value, and its loop is short
-- enough.
pub record IsSound (system : System) : Type 0 where
  pub over : IsTrue (is_over (length system.rule.reads) system.rule.tree)
  pub start : IsValue system.start
  pub step : 0 < system.sequence.step
  pub duration : system.sequence.duration ≤ 100000000000
  pub count : system.sequence.duration / system.sequence.step < 16777216
