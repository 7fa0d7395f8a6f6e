-- How a text is cut into tokens, each as long as it can be, and what they stand for.
use Rattle.std.specs.Prelude.{ℕ, zero, suc, pred, ℤ, ◌+◌, ◌-◌, ◌==◌, Bool, true, false, ◌||◌, if◌then◌else◌, nat_lt, List, [], ◌∷◌, length, take, drop, take_while, codes, Option, Some, None, Result, Ok, Err}
use Rattle.std.specs.Map.{lookup}
use Rattle.std.specs.Str.{bytes_eq}
use Rattle.cpl_base.specs.Numerals.{is_digit, value_of}
use Rattle.cpl_base.specs.Words.{is_blank, is_letter, is_name_byte, place_of, rest_behind}
use Rattle.cpl_base.specs.declared.value.ValFault.{ValFault}
use Rattle.cpl_formula.specs.Functions.{functions}
use Rattle.cpl_formula.specs.declared.formula.ReadName.{ReadName}
use Rattle.cpl_formula.specs.declared.formula.ReadName.TheVariants as names
use Rattle.cpl_formula.specs.declared.functions.Function.{Function}
use Rattle.cpl_formula.specs.declared.tokens.ProductSign.TheVariants.{Times, Over}
use Rattle.cpl_formula.specs.declared.tokens.SumSign.TheVariants.{Plus, Less}
use Rattle.cpl_formula.specs.declared.tokens.Token.{Token}
use Rattle.cpl_formula.specs.declared.tokens.Token.TheVariants.{Sum, Product, Open, Close, OpenBracket, CloseBracket, Comma, Digit, Number, BadNumber, Field, Quantity, Unknown, Stray}
use Rattle.cpl_formula.specs.declared.tokens.Token.TheVariants as token

-- ---- how long the token at the front of a text is

-- a point counts with its places alone
abbrev pub with_point : ℕ → ℕ
with_point zero = 0
with_point (suc places) = suc (suc places)

-- how long a point with places is at the front of a text
abbrev pub places_length : List ℕ → ℕ
places_length [] = 0
places_length (c ∷ text) = if c == 46 then with_point (length (take_while is_digit text)) else 0

-- digits, and a point and digits where they follow
abbrev pub number_length : List ℕ → ℕ
number_length text = let digits = length (take_while is_digit text) in digits + places_length (drop digits text)

-- a number, a name, or one byte
abbrev pub token_length : List ℕ → ℕ
token_length [] = 0
token_length (c ∷ text) =
    if is_digit c then number_length (c ∷ text)
    else if is_letter c then length (take_while is_name_byte (c ∷ text))
    else 1

-- ---- what it stands for

-- a number in millionths, where it is a value
abbrev pub value_token : Result ℤ ValFault → Token
value_token (Ok z) = Number z
value_token (Err fault) = BadNumber

-- a number: of one byte, or longer
abbrev pub number_token : List ℕ → Token
number_token [] = BadNumber
number_token (c ∷ []) = Digit (c - 48)
number_token (c ∷ d ∷ more) = value_token (value_of (c ∷ d ∷ more))

-- a token of one byte that is no digit
abbrev pub sign_token : ℕ → Token
sign_token c =
    if c == 43 then Sum Plus
    else if c == 45 then Sum Less
    else if c == 42 then Product Times
    else if c == 47 then Product Over
    else if c == 40 then Open
    else if c == 41 then Close
    else if c == 91 then OpenBracket
    else if c == 93 then CloseBracket
    else if c == 44 then Comma
    else Stray

-- what the cell and the moment give, by their names
abbrev pub quantities : List (List ℕ × ReadName)
quantities =
    (codes "i", names.I) ∷ (codes "j", names.J) ∷ (codes "s", names.S) ∷ (codes "nx", names.Nx) ∷ (codes "ny", names.Ny)
    ∷ (codes "year", names.Year) ∷ (codes "month", names.Month) ∷ (codes "day", names.Day) ∷ (codes "hour", names.Hour)
    ∷ (codes "minute", names.Minute) ∷ (codes "second", names.Second) ∷ (codes "days", names.Days)
    ∷ (codes "daysec", names.DaySecond) ∷ (codes "dt", names.Dt) ∷ []

-- an alarm, where the name is `ring_` and that alarm's name
abbrev pub alarm_of : List (List ℕ) → Option (List ℕ) → Option ℕ
alarm_of alarms None = None
alarm_of alarms (Some alarm) = place_of alarms alarm

-- a name that is no field's and no function's
abbrev pub quantity_token : Option ReadName → Option ℕ → Token
quantity_token (Some quantity) alarm = Quantity quantity
quantity_token None (Some alarm) = Quantity (names.Ring alarm)
quantity_token None None = Unknown

-- a name that is no field's; one with brackets stands for nothing
abbrev pub other_token : List (List ℕ) → List ℕ → Bool → Option Function → Token
other_token alarms name bracketed (Some f) = token.Function f
other_token alarms name true None = Unknown
other_token alarms name false None = quantity_token (lookup (bytes_eq name) quantities) (alarm_of alarms (rest_behind (codes "ring_") name))

-- a name, with brackets behind it or not
abbrev pub name_token : List (List ℕ) → List (List ℕ) → List ℕ → Bool → Option ℕ → Token
name_token fields alarms name bracketed (Some place) = Field place
name_token fields alarms name bracketed None = other_token alarms name bracketed (lookup (bytes_eq name) functions)

-- a token, by its bytes
abbrev pub token_of : List (List ℕ) → List (List ℕ) → List ℕ → Bool → Token
token_of fields alarms [] bracketed = Stray
token_of fields alarms (c ∷ more) bracketed =
    if is_digit c then number_token (c ∷ more)
    else if is_letter c then name_token fields alarms (c ∷ more) bracketed (place_of fields (c ∷ more))
    else sign_token c

-- whether `[` comes next, blanks before it or not
abbrev pub is_bracketed : List ℕ → Bool
is_bracketed [] = false
is_bracketed (c ∷ more) = if is_blank c then is_bracketed more else c == 91

-- ---- a whole text

-- a token with the place of its first byte
pub record Placed : Type 0 where
  pub at : ℕ
  pub token : Token

-- the token at the front of a text
abbrev pub first_token : List (List ℕ) → List (List ℕ) → List ℕ → Token
first_token fields alarms text =
    let n = token_length text in token_of fields alarms (take n text) (is_bracketed (drop n text))

-- the tokens of a text that begins at this place, behind bytes of a token that was taken already
abbrev pub tokens_from : List (List ℕ) → List (List ℕ) → ℕ → ℕ → List ℕ → List Placed
tokens_from fields alarms at taken [] = []
tokens_from fields alarms at (suc taken) (c ∷ more) = tokens_from fields alarms (suc at) taken more
tokens_from fields alarms at zero (c ∷ more) =
    if is_blank c then tokens_from fields alarms (suc at) 0 more
    else record { at = at; token = first_token fields alarms (c ∷ more) } ∷ tokens_from fields alarms (suc at) (pred (token_length (c ∷ more))) more

-- the tokens of a text
abbrev pub tokens_of : List (List ℕ) → List (List ℕ) → List ℕ → List Placed
tokens_of fields alarms text = tokens_from fields alarms 0 0 text

-- ---- what no text may have anywhere

-- how many `(` are open behind a byte; a `)` that closes nothing changes nothing
abbrev pub open_after : ℕ → ℕ → ℕ
open_after opened c = if c == 40 then suc opened else if c == 41 then pred opened else opened

-- how many minus signs stand in a row behind a byte; blanks between them don't count
abbrev pub row_after : ℕ → ℕ → ℕ
row_after row c = if c == 45 then suc row else if is_blank c then row else 0

-- whether more than 32 `(` are open somewhere, or more than 32 minus signs stand in a row
abbrev pub is_tangled_from : ℕ → ℕ → List ℕ → Bool
is_tangled_from opened row [] = false
is_tangled_from opened row (c ∷ more) =
    nat_lt 32 (open_after opened c) || nat_lt 32 (row_after row c) || is_tangled_from (open_after opened c) (row_after row c) more

-- the same of a whole text
abbrev pub is_tangled : List ℕ → Bool
is_tangled text = is_tangled_from 0 0 text
