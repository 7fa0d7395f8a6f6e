-- Steps of a definition that may have a fault: what `?` is in code.
use Rattle.std.specs.Prelude.{Bool, true, false, Result, Ok, Err}

infixl 10 ◌>>=◌
-- goes on with the value, unless there is a fault
abbrev pub ◌>>=◌ : {A B F : Type 0} → Result A F → (A → Result B F) → Result B F
Ok value >>= f = f value
Err fault >>= f = Err fault

-- goes on only where the test holds
abbrev pub ok_if : {F : Type 0} → Bool → F → Result (Unit {0}) F
ok_if true fault = Ok tt
ok_if false fault = Err fault
