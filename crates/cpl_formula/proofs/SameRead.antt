-- The comparison of reads that the code makes is the one that the definitions make.
use Rattle.std.proofs.Common.{◌≡◌, ℤ, refl}
use Rattle.cpl_formula.specs.Reads.{same_read, read_at}
use Rattle.cpl_formula.specs.declared.formula.Read.{Read}
use Rattle.cpl_formula.specs.declared.formula.ReadName.{ReadName}
use Rattle.cpl_formula.specs.declared.formula.ReadName.TheVariants.{Field, I, J, S, Nx, Ny, Year, Month, Day, Hour, Minute, Second, Days, DaySecond, Dt, Ring}
use Rattle.cpl_formula.specs.contracts.formula.ReadPartialEq.TheImpl as derived

parts : (n m : ReadName) (dx dy ex ey : ℤ) → (derived.eq-value).it (read_at n dx dy) (read_at m ex ey) ≡ same_read (read_at n dx dy) (read_at m ex ey)
parts (Field k) (Field l) dx dy ex ey = refl
parts I I dx dy ex ey = refl
parts J J dx dy ex ey = refl
parts S S dx dy ex ey = refl
parts Nx Nx dx dy ex ey = refl
parts Ny Ny dx dy ex ey = refl
parts Year Year dx dy ex ey = refl
parts Month Month dx dy ex ey = refl
parts Day Day dx dy ex ey = refl
parts Hour Hour dx dy ex ey = refl
parts Minute Minute dx dy ex ey = refl
parts Second Second dx dy ex ey = refl
parts Days Days dx dy ex ey = refl
parts DaySecond DaySecond dx dy ex ey = refl
parts Dt Dt dx dy ex ey = refl
parts (Ring k) (Ring l) dx dy ex ey = refl
parts n m dx dy ex ey = refl

pub same : (a : Read) → (derived.eq-value).it a ≡ same_read a
same a = λ i b. parts a.name b.name a.dx a.dy b.dx b.dy i
