-- What the tokens of a text hold: digits and values, and places below the numbers of fields and alarms.
use Rattle.std.proofs.Common.{◌≡◌, ℕ, zero, suc, pred, ◌<◌, ◌≤◌, ◌==◌, inl, inr, ℤ, Bool, true, false, if◌then◌else◌, List, [], ◌∷◌, take, drop, length, Option, Some, None, Result, Ok, Err, IfOk, IfSome, refl, arith}
use Rattle.std.specs.Prelude.{codes, nat_le}
use Rattle.std.specs.List.{AllByRecursion}
use Rattle.std.specs.Map.{lookup}
use Rattle.std.specs.Str.{bytes_eq}
use Rattle.std.proofs.lemmas.Bool.{cases_Bool, and_parts, leb-true}
use Rattle.std.proofs.lemmas.List.Quantifiers.{position-Some}
use Rattle.cpl_base.specs.Numbers.{IsValue, greatest}
use Rattle.cpl_base.specs.Numerals.{is_digit, value_of}
use Rattle.cpl_base.specs.Words.{is_blank, is_letter, place_of, rest_behind}
use Rattle.cpl_base.specs.declared.value.ValFault.{ValFault}
use Rattle.cpl_base.proofs.NumeralsFacts.{numeral_of-bound}
use Rattle.cpl_formula.specs.Formulas.{kinds}
use Rattle.cpl_formula.specs.Functions.{functions}
use Rattle.cpl_formula.specs.Tokens.{alarm_of, is_bracketed, name_token, number_token, other_token, quantities, quantity_token, sign_token, token_length, token_of, tokens_from, tokens_of, value_token}
use Rattle.cpl_formula.specs.declared.formula.ReadName.{ReadName}
use Rattle.cpl_formula.specs.declared.formula.ReadName.TheVariants as names
use Rattle.cpl_formula.specs.declared.functions.Function.{Function}
use Rattle.cpl_formula.specs.declared.tokens.Token.{Token}
use Rattle.cpl_formula.specs.declared.tokens.Token.TheVariants as token

-- a name that is no field's, and whose place is among so many alarms
abbrev pub IsQuantity : ℕ → ReadName → Type 0
IsQuantity alarms (names.Field k) = ⊥
IsQuantity alarms (names.Ring k) = k < alarms
IsQuantity alarms name = Unit {0}

-- a digit, a value, or a name among so many fields and alarms
abbrev pub IsToken : ℕ → ℕ → Token → Type 0
IsToken fields alarms (token.Digit d) = d < 10
IsToken fields alarms (token.Number z) = IsValue z
IsToken fields alarms (token.Field k) = k < fields
IsToken fields alarms (token.Quantity q) = IsQuantity alarms q
IsToken fields alarms t = Unit {0}

-- ---- numbers

token-value_token : (fields alarms : ℕ) (read : Result ℤ ValFault) → IfOk read IsValue → IsToken fields alarms (value_token read)
token-value_token fields alarms (Ok z) within = within
token-value_token fields alarms (Err fault) within = tt

token-number : (fields alarms c : ℕ) (more : List ℕ) → is_digit c ≡ true → IsToken fields alarms (number_token (c ∷ more))
token-number fields alarms c [] is =
    let parts = and_parts (nat_le 48 c) (nat_le c 57) is in
    let least : 48 ≤ c = leb-true 48 c parts.0 in
    let most : c ≤ 57 = leb-true c 57 parts.1 in
    omega arith
token-number fields alarms c (d ∷ more) is = token-value_token fields alarms (value_of (c ∷ d ∷ more)) (numeral_of-bound 6 greatest (c ∷ d ∷ more))

-- ---- names

-- what holds of each entry of a table holds of what is found in it
lookup-all : {K V : Type 0} (P : V → Type 0) (test : K → Bool) (entries : List (K × V)) → AllByRecursion (λ e. P e.1) entries → IfSome (lookup test entries) P
lookup-all P test [] all = tt
lookup-all P test (e ∷ entries) all = elim (cases_Bool (test e.0)) [
  | inl is ↦ rw is all.0
  | inr other ↦ rw other (lookup-all P test entries all.1)
]

-- what the cell and the moment give is no field's and no alarm's
quantities-all : (alarms : ℕ) → AllByRecursion (λ e. IsQuantity alarms e.1) quantities
quantities-all alarms = (tt, (tt, (tt, (tt, (tt, (tt, (tt, (tt, (tt, (tt, (tt, (tt, (tt, (tt, tt))))))))))))))

-- a place among names is below their number
place-found : (among : List (List ℕ)) (name : List ℕ) (found : Option ℕ) → place_of among name ≡ found → IfSome found (λ k. k < length among)
place-found among name None is = tt
place-found among name (Some k) is = (position-Some (λ other. bytes_eq other name) among k [] is).0

pub place-within : (among : List (List ℕ)) (name : List ℕ) → IfSome (place_of among name) (λ k. k < length among)
place-within among name = place-found among name (place_of among name) refl

alarm-within : (alarms : List (List ℕ)) (name : Option (List ℕ)) → IfSome (alarm_of alarms name) (λ k. k < length alarms)
alarm-within alarms None = tt
alarm-within alarms (Some name) = place-within alarms name

token-quantity : (fields alarms : ℕ) (found : Option ReadName) (alarm : Option ℕ) → IfSome found (IsQuantity alarms) → IfSome alarm (λ k. k < alarms) → IsToken fields alarms (quantity_token found alarm)
token-quantity fields alarms (Some name) alarm quantity ring = quantity
token-quantity fields alarms None (Some k) quantity ring = ring
token-quantity fields alarms None None quantity ring = tt

token-other : (fields : ℕ) (alarms : List (List ℕ)) (name : List ℕ) (bracketed : Bool) (f : Option Function) → IsToken fields (length alarms) (other_token alarms name bracketed f)
token-other fields alarms name bracketed (Some f) = tt
token-other fields alarms name true None = tt
token-other fields alarms name false None =
    token-quantity fields (length alarms) (lookup (bytes_eq name) quantities) (alarm_of alarms (rest_behind (codes "ring_") name))
    (lookup-all (IsQuantity (length alarms)) (bytes_eq name) quantities (quantities-all (length alarms))) (alarm-within alarms (rest_behind (codes "ring_") name))

token-name : (fields alarms : List (List ℕ)) (name : List ℕ) (bracketed : Bool) (place : Option ℕ) → IfSome place (λ k. k < length fields) → IsToken (length fields) (length alarms) (name_token fields alarms name bracketed place)
token-name fields alarms name bracketed (Some k) within = within
token-name fields alarms name bracketed None within = token-other (length fields) alarms name bracketed (lookup (bytes_eq name) functions)

-- ---- any token

token-if : (fields alarms : ℕ) (b : Bool) (s t : Token) → IsToken fields alarms s → IsToken fields alarms t → IsToken fields alarms (if b then s else t)
token-if fields alarms true s t first second = first
token-if fields alarms false s t first second = second

token-sign : (fields alarms c : ℕ) → IsToken fields alarms (sign_token c)
token-sign fields alarms c =
    token-if fields alarms (c == 43) _ _ tt (token-if fields alarms (c == 45) _ _ tt (token-if fields alarms (c == 42) _ _ tt
    (token-if fields alarms (c == 47) _ _ tt (token-if fields alarms (c == 40) _ _ tt (token-if fields alarms (c == 41) _ _ tt
    (token-if fields alarms (c == 91) _ _ tt (token-if fields alarms (c == 93) _ _ tt (token-if fields alarms (c == 44) _ _ tt tt))))))))

-- what a word stands for
pub token-word : (fields alarms : List (List ℕ)) (word : List ℕ) (bracketed : Bool) → IsToken (length fields) (length alarms) (token_of fields alarms word bracketed)
token-word fields alarms [] bracketed = tt
token-word fields alarms (c ∷ more) bracketed =
    elim (cases_Bool (is_digit c)) [
      | inl is ↦ rw is (token-number (length fields) (length alarms) c more is)
      | inr other ↦
          rw other (token-if (length fields) (length alarms) (is_letter c) _ _
          (token-name fields alarms (c ∷ more) bracketed (place_of fields (c ∷ more)) (place-within fields (c ∷ more)))
          (token-sign (length fields) (length alarms) c))
    ]

tokens-from : (fields alarms : List (List ℕ)) (at taken : ℕ) (text : List ℕ) → AllByRecursion (IsToken (length fields) (length alarms)) (kinds (tokens_from fields alarms at taken text))
tokens-from fields alarms at taken [] = tt
tokens-from fields alarms at (suc taken) (c ∷ more) = tokens-from fields alarms (suc at) taken more
tokens-from fields alarms at zero (c ∷ more) =
    elim (cases_Bool (is_blank c)) [
      | inl blank ↦ rw blank (tokens-from fields alarms (suc at) 0 more)
      | inr other ↦
          let n = token_length (c ∷ more) in
          rw other (token-word fields alarms (take n (c ∷ more)) (is_bracketed (drop n (c ∷ more))), tokens-from fields alarms (suc at) (pred n) more)
    ]

-- the tokens of a text
pub tokens-all : (fields alarms : List (List ℕ)) (text : List ℕ) → AllByRecursion (IsToken (length fields) (length alarms)) (kinds (tokens_of fields alarms text))
tokens-all fields alarms text = tokens-from fields alarms 0 0 text
