-- The code's own steps: two digits at a place in a text.
use Rattle.std.specs.Prelude.{◌≡◌, ℕ, ◌+◌, ◌/◌, ◌%◌, ◌≤◌, List, slice_index}

-- The text has the two digits of the number at the place.
pub record HasNumber (text : List ℕ) (place number : ℕ) : Type 0 where
  pub tens : slice_index text place ≡ 48 + number / 10
  pub ones : slice_index text (place + 1) ≡ 48 + number % 10
  pub small : number ≤ 99

-- The text has the separator at the place, and behind it the two digits of the number.
pub record HasNumberAfter (separator : ℕ) (text : List ℕ) (place number : ℕ) : Type 0 where
  pub separator_is : slice_index text place ≡ separator
  pub number_is : HasNumber text (place + 1) number
