-- The code's own: what holds of that over which imports are matched, and of an import for which an export is sought.
use Rattle.std.specs.Prelude.{◌≡◌, ℕ, ◌<◌, List, length, map, Option, Some}
use Rattle.cpl_dict.specs.Dict.{Dictionary}
use Rattle.cpl_dict.specs.Numbers.{calls_of, have_common, number_of}
use Rattle.cpl_match.specs.Marks.{has_bit}
use Rattle.cpl_match.specs.declared.fits.Sought.{Sought}
use Rattle.cpl_match.specs.declared.port.Port.{Port}

-- the numbers are those of the standard names of ports
abbrev pub AreNumbered : Dictionary → List Port → List (Option ℕ) → Type 0
AreNumbered d ports numbers = numbers ≡ map (λ port. number_of d port.standard) ports

-- The number is that of the import's name, and its bit stands where a synonym call gave both names.
pub record IsSought (d : Dictionary) (import : Sought) : Type 0 where
  pub number : import.number ≡ number_of d import.port.now.standard
  pub size : length import.shared.now ≡ length d.names
  pub bit : import.bit < 64
  pub marked : (name own : ℕ) → name < length d.names → import.number ≡ Some own
      → has_bit import.shared.now name import.bit ≡ have_common (calls_of d name) (calls_of d own)
