-- The marks that are held.
use Rattle.cpl_comp.specs.Marks.{CompMarks}
use Rattle.cpl_marks.specs.declared.marks.Marks.{Marks}

-- the same marks in the words of components
abbrev pub marks_in : Marks → CompMarks
marks_in marks = record { clock = marks.clock; runs = marks.runs; stamps = marks.stamps }
