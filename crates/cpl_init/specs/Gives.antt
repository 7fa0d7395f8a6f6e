-- What finding an order promises: its answer is that of a definition, unless memory ran out.
use Rattle.std.specs.Prelude.{◌≡◌, ⊤, ℕ, List, Result, Ok, Err, IfOk, IfErr}
use Rattle.cpl_init.specs.declared.fault.InitFault.{InitFault}
use Rattle.cpl_init.specs.declared.fault.InitFault.TheVariants.{Waiting, Memory}

-- the fault has the components that the definition gives; want of memory needs no cause
abbrev pub IsCause : Result (List ℕ) (List ℕ) → InitFault → Type 0
IsCause given (Waiting components) = given ≡ Err components
IsCause given Memory = ⊤

-- the answer is what the definition gives: its order, or the components that wait
pub record Gives (result : Result (List ℕ) InitFault) (given : Result (List ℕ) (List ℕ)) : Type 0 where
  pub order : IfOk result (λ order. given ≡ Ok order)
  pub waiting : IfErr result (IsCause given)
