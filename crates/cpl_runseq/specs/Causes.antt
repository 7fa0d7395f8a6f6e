-- The code's own: the causes of faults.
use Rattle.std.specs.Prelude.{◌≡◌, Result, Err}
use Rattle.cpl_runseq.specs.declared.fault.SeqFault.{SeqFault}
use Rattle.cpl_runseq.specs.declared.fault.SeqFault.TheVariants.{Memory}

-- A fault with its cause: the definition gives it. Running out of memory needs none.
abbrev pub IsCaused : {A : Type 0} → Result A SeqFault → SeqFault → Type 0
IsCaused given Memory = Unit {0}
IsCaused given fault = given ≡ Err fault
