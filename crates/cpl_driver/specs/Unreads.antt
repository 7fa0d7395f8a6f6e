-- What a fault of a formula means for the file that has it.
use Rattle.cpl_formula.specs.declared.fault.FormulaFault.{FormulaFault}
use Rattle.cpl_formula.specs.declared.fault.FormulaFault.TheVariants as formula
use Rattle.cpl_driver.specs.declared.unread.Unread.{Unread}
use Rattle.cpl_driver.specs.declared.unread.Unread.TheVariants.{Memory, NotYetBuilt}

-- want of memory stays so, and a text that no formula can be is a file of a form that is not built yet
abbrev pub unread_of : FormulaFault → Unread
unread_of formula.Memory = Memory
unread_of fault = NotYetBuilt
