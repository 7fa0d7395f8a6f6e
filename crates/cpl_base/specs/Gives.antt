-- What a reader of some format promises: its answer is that of a definition, unless memory ran out.
use Rattle.std.specs.Prelude.{◌≡◌, ◌⊎◌, Result, Ok, Err, IfOk, IfErr}

-- The answer, seen by a view, is what the definition gives: its value or its fault. Want of memory needs no cause.
pub record Gives {R A F : Type 0} (memory : F) (view : R → A) (result : Result R F) (given : Result A F) : Type 0 where
  pub value : IfOk result (λ x. given ≡ Ok (view x))
  pub fault : IfErr result (λ e. (e ≡ memory) ⊎ (given ≡ Err e))
