-- A field that is read has a name that can be written: an empty name is never read.
use Rattle.std.proofs.Common.{◌≡◌, ℕ, zero, suc, pred, ◌==◌, inl, inr, ℤ, pos, Bool, true, false, ◌&&◌, if◌then◌else◌, List, [], ◌∷◌, ◌++◌, take, drop, length, Option, Some, None, Result, Ok, Err, IfOk, IfSome, refl, subst}
use Rattle.std.specs.Prelude.{codes}
use Rattle.std.specs.List.{All, AllByRecursion}
use Rattle.std.specs.Map.{lookup}
use Rattle.std.specs.Str.{bytes_eq}
use Rattle.std.proofs.lemmas.Bool.{cases_Bool}
use Rattle.std.proofs.lemmas.List.Elements.{All-from_recursion}
use Rattle.cpl_base.specs.Chain.{◌>>=◌}
use Rattle.cpl_base.specs.Numerals.{cut_at, is_digit, value_of}
use Rattle.cpl_base.specs.Words.{is_blank, is_letter, is_some_of, place_of, rest_behind}
use Rattle.cpl_base.specs.declared.value.ValFault.{ValFault}
use Rattle.cpl_base.specs.declared.value.ValFault.TheVariants as val_fault
use Rattle.cpl_formula.specs.Arguments.{argument_beside, argument_by, argument_here, argument_of, cell_argument, is_long_name, is_near, name_parts, name_word, offset_words}
use Rattle.cpl_formula.specs.Formulas.{Outcome, kinds}
use Rattle.cpl_formula.specs.Formulas.Outcome.{tangles, is_faulty, ends_early, is_deep, is_formula}
use Rattle.cpl_formula.specs.Functions.{functions}
use Rattle.cpl_formula.specs.Grammar.{Expr, Term, Factor, Atom, yield_of_expr, yield_of_term, yield_of_factor, yield_of_atom, reads_of_expr, reads_of_term, reads_of_factor, reads_of_atom, offset_number}
use Rattle.cpl_formula.specs.Grammar.Expr.{term, sum}
use Rattle.cpl_formula.specs.Grammar.Term.{factor, product}
use Rattle.cpl_formula.specs.Grammar.Factor.{minus, atom}
use Rattle.cpl_formula.specs.Grammar.Atom.{digit, number, quantity, field, neighbour, group, unary, binary, ternary}
use Rattle.cpl_formula.specs.Reads.{distinct_reads, read_at}
use Rattle.cpl_formula.specs.Steps.{parsed_of}
use Rattle.cpl_formula.specs.Tokens.{Placed, alarm_of, is_bracketed, name_token, number_token, other_token, quantities, quantity_token, sign_token, token_length, token_of, tokens_from, tokens_of, value_token}
use Rattle.cpl_formula.specs.declared.arguments.Argument.{Argument}
use Rattle.cpl_formula.specs.declared.arguments.Argument.TheVariants.{Number, Cell}
use Rattle.cpl_formula.specs.declared.fault.FormulaFault.{FormulaFault}
use Rattle.cpl_formula.specs.declared.fault.FormulaFault.TheVariants.{FarNeighbour}
use Rattle.cpl_formula.specs.declared.formula.Parsed.{Parsed}
use Rattle.cpl_formula.specs.declared.formula.Read.{Read}
use Rattle.cpl_formula.specs.declared.formula.ReadName.{ReadName}
use Rattle.cpl_formula.specs.declared.formula.ReadName.TheVariants as names
use Rattle.cpl_formula.specs.declared.functions.Function.{Function}
use Rattle.cpl_formula.specs.declared.tokens.Token.{Token}
use Rattle.cpl_formula.specs.declared.tokens.Token.TheVariants as token
use Rattle.cpl_formula.proofs.Outcomes.{outcome}
use Rattle.cpl_formula.proofs.ReadsFacts.{distinct_reads-all}
use Rattle.cpl_formula.proofs.TokenFacts.{IsQuantity, IsToken, token-word}
use Rattle.cpl_formula.proofs.TreeFacts.{around, all-append}

-- A place of a field that was found by a name of at least one byte.
pub record IsNamedPlace (fields : List (List ℕ)) (place : ℕ) : Type 0 where
  pub name : List ℕ
  pub some : is_some_of name ≡ true
  pub found : place_of fields name ≡ Some place

-- A read whose field, if it is one, is at such a place.
pub record IsNamedRead (fields : List (List ℕ)) (read : Read) : Type 0 where
  pub named : (k : ℕ) → read.name ≡ names.Field k → IsNamedPlace fields k

-- an argument whose field, if it reads one, is at such a place
abbrev pub IsNamedArgument : List (List ℕ) → Argument → Type 0
IsNamedArgument fields (Number z) = Unit {0}
IsNamedArgument fields (Cell read) = IsNamedRead fields read

-- a token whose field, if it is one, is at such a place
abbrev IsFieldToken : List (List ℕ) → Token → Type 0
IsFieldToken fields (token.Field k) = IsNamedPlace fields k
IsFieldToken fields t = Unit {0}

-- the same, and of no more alarms than there are
record IsNamedToken (fields : List (List ℕ)) (alarms : ℕ) (t : Token) : Type 0 where
  is : IsToken (length fields) alarms t
  named : IsFieldToken fields t

-- ---- tokens

-- a number that was read stands for no field
value_token-field : (fields : List (List ℕ)) (read : Result ℤ ValFault) → IsFieldToken fields (value_token read)
value_token-field fields (Ok z) = tt
value_token-field fields (Err fault) = tt

-- nor does the word of a number
number_token-field : (fields : List (List ℕ)) (word : List ℕ) → IsFieldToken fields (number_token word)
number_token-field fields [] = tt
number_token-field fields (c ∷ []) = tt
number_token-field fields (c ∷ d ∷ more) = value_token-field fields (value_of (c ∷ d ∷ more))

-- nor does a quantity
quantity_token-field : (fields : List (List ℕ)) (found : Option ReadName) (alarm : Option ℕ) → IsFieldToken fields (quantity_token found alarm)
quantity_token-field fields (Some name) alarm = tt
quantity_token-field fields None (Some k) = tt
quantity_token-field fields None None = tt

-- nor another name
other_token-field : (fields alarms : List (List ℕ)) (name : List ℕ) (bracketed : Bool) (f : Option Function) → IsFieldToken fields (other_token alarms name bracketed f)
other_token-field fields alarms name bracketed (Some f) = tt
other_token-field fields alarms name true None = tt
other_token-field fields alarms name false None = quantity_token-field fields (lookup (bytes_eq name) quantities) (alarm_of alarms (rest_behind (codes "ring_") name))

-- a name that is found is that of its place
name_token-field : (fields alarms : List (List ℕ)) (name : List ℕ) (bracketed : Bool) (place : Option ℕ) → is_some_of name ≡ true → place_of fields name ≡ place → IsFieldToken fields (name_token fields alarms name bracketed place)
name_token-field fields alarms name bracketed (Some k) some found = record { name = name; some = some; found = found }
name_token-field fields alarms name bracketed None some found = other_token-field fields alarms name bracketed (lookup (bytes_eq name) functions)

-- either of two tokens
either-field : (fields : List (List ℕ)) (b : Bool) (s t : Token) → IsFieldToken fields s → IsFieldToken fields t → IsFieldToken fields (if b then s else t)
either-field fields true s t first second = first
either-field fields false s t first second = second

-- a byte that is no letter and no digit stands for no field
sign_token-field : (fields : List (List ℕ)) (c : ℕ) → IsFieldToken fields (sign_token c)
sign_token-field fields c =
    either-field fields (c == 43) _ _ tt (either-field fields (c == 45) _ _ tt (either-field fields (c == 42) _ _ tt
    (either-field fields (c == 47) _ _ tt (either-field fields (c == 40) _ _ tt (either-field fields (c == 41) _ _ tt
    (either-field fields (c == 91) _ _ tt (either-field fields (c == 93) _ _ tt (either-field fields (c == 44) _ _ tt tt))))))))

-- what a word stands for, where that is a field
token_of-field : (fields alarms : List (List ℕ)) (word : List ℕ) (bracketed : Bool) → IsFieldToken fields (token_of fields alarms word bracketed)
token_of-field fields alarms [] bracketed = tt
token_of-field fields alarms (c ∷ more) bracketed =
    either-field fields (is_digit c) _ _ (number_token-field fields (c ∷ more))
    (either-field fields (is_letter c) _ _ (name_token-field fields alarms (c ∷ more) bracketed (place_of fields (c ∷ more)) refl refl) (sign_token-field fields c))

-- and what it stands for in all
token_of-named : (fields alarms : List (List ℕ)) (word : List ℕ) (bracketed : Bool) → IsNamedToken fields (length alarms) (token_of fields alarms word bracketed)
token_of-named fields alarms word bracketed = record { is = token-word fields alarms word bracketed; named = token_of-field fields alarms word bracketed }

-- the tokens of a text
tokens_from-named : (fields alarms : List (List ℕ)) (at taken : ℕ) (text : List ℕ) → AllByRecursion (IsNamedToken fields (length alarms)) (kinds (tokens_from fields alarms at taken text))
tokens_from-named fields alarms at taken [] = tt
tokens_from-named fields alarms at (suc taken) (c ∷ more) = tokens_from-named fields alarms (suc at) taken more
tokens_from-named fields alarms at zero (c ∷ more) =
    elim (cases_Bool (is_blank c)) [
      | inl blank ↦ rw blank (tokens_from-named fields alarms (suc at) 0 more)
      | inr other ↦
          let n = token_length (c ∷ more) in
          rw other (token_of-named fields alarms (take n (c ∷ more)) (is_bracketed (drop n (c ∷ more))), tokens_from-named fields alarms (suc at) (pred n) more)
    ]

-- ---- derivations

-- a field's read, by its token
field-named : (fields : List (List ℕ)) (alarms k : ℕ) (dx dy : ℤ) → IsNamedToken fields alarms (token.Field k) → IsNamedRead fields (read_at (names.Field k) dx dy)
field-named fields alarms k dx dy is = record { named = λ l same. let at : k ≡ l = cc in subst (IsNamedPlace fields) at is.named }

-- a quantity's read is no field's
quantity-named : (fields : List (List ℕ)) (alarms : ℕ) (q : ReadName) → IsNamedToken fields alarms (token.Quantity q) → IsNamedRead fields (read_at q (pos 0) (pos 0))
quantity-named fields alarms q is = record { named = λ k same. absurd (subst (IsQuantity alarms) same is.is) }

-- a derivation's reads, by its tokens
mutual
  reads-expr : (fields : List (List ℕ)) (m : ℕ) (e : Expr) → AllByRecursion (IsNamedToken fields m) (yield_of_expr e) → AllByRecursion (IsNamedRead fields) (reads_of_expr e)
  reads-expr fields m (term t) tokens = reads-term fields m t tokens
  reads-expr fields m (sum e sign t) tokens =
      let parts = around (IsNamedToken fields m) (yield_of_expr e) (yield_of_term t) (token.Sum sign) tokens in
      all-append (IsNamedRead fields) (reads_of_expr e) (reads_of_term t) (reads-expr fields m e parts.0) (reads-term fields m t parts.1)

  reads-term : (fields : List (List ℕ)) (m : ℕ) (t : Term) → AllByRecursion (IsNamedToken fields m) (yield_of_term t) → AllByRecursion (IsNamedRead fields) (reads_of_term t)
  reads-term fields m (factor f) tokens = reads-factor fields m f tokens
  reads-term fields m (product t sign f) tokens =
      let parts = around (IsNamedToken fields m) (yield_of_term t) (yield_of_factor f) (token.Product sign) tokens in
      all-append (IsNamedRead fields) (reads_of_term t) (reads_of_factor f) (reads-term fields m t parts.0) (reads-factor fields m f parts.1)

  reads-factor : (fields : List (List ℕ)) (m : ℕ) (f : Factor) → AllByRecursion (IsNamedToken fields m) (yield_of_factor f) → AllByRecursion (IsNamedRead fields) (reads_of_factor f)
  reads-factor fields m (minus f) tokens = reads-factor fields m f tokens.1
  reads-factor fields m (atom a) tokens = reads-atom fields m a tokens

  reads-atom : (fields : List (List ℕ)) (m : ℕ) (a : Atom) → AllByRecursion (IsNamedToken fields m) (yield_of_atom a) → AllByRecursion (IsNamedRead fields) (reads_of_atom a)
  reads-atom fields m (digit d) tokens = tt
  reads-atom fields m (number z) tokens = tt
  reads-atom fields m (quantity q) tokens = (quantity-named fields m q tokens.0, tt)
  reads-atom fields m (field k) tokens = (field-named fields m k (pos 0) (pos 0) tokens.0, tt)
  reads-atom fields m (neighbour k x y) tokens = (field-named fields m k (offset_number x) (offset_number y) tokens.0, tt)
  reads-atom fields m (group e) tokens = reads-expr fields m e (around (IsNamedToken fields m) (yield_of_expr e) [] token.Close tokens.1).0
  reads-atom fields m (unary f a) tokens = reads-expr fields m a (around (IsNamedToken fields m) (yield_of_expr a) [] token.Close tokens.1.1).0
  reads-atom fields m (binary f a b) tokens =
      let parts = around (IsNamedToken fields m) (yield_of_expr a) (yield_of_expr b ++ token.Close ∷ []) token.Comma tokens.1.1 in
      let last = around (IsNamedToken fields m) (yield_of_expr b) [] token.Close parts.1 in
      all-append (IsNamedRead fields) (reads_of_expr a) (reads_of_expr b) (reads-expr fields m a parts.0) (reads-expr fields m b last.0)
  reads-atom fields m (ternary f a b c) tokens =
      let parts = around (IsNamedToken fields m) (yield_of_expr a) (yield_of_expr b ++ (token.Comma ∷ (yield_of_expr c ++ token.Close ∷ []))) token.Comma tokens.1.1 in
      let rest = around (IsNamedToken fields m) (yield_of_expr b) (yield_of_expr c ++ token.Close ∷ []) token.Comma parts.1 in
      let last = around (IsNamedToken fields m) (yield_of_expr c) [] token.Close rest.1 in
      all-append (IsNamedRead fields) (reads_of_expr a) (reads_of_expr b ++ reads_of_expr c) (reads-expr fields m a parts.0)
      (all-append (IsNamedRead fields) (reads_of_expr b) (reads_of_expr c) (reads-expr fields m b rest.0) (reads-expr fields m c last.0))

-- ---- a text that is a formula

-- what a text is, if it is a formula
outcome-named : (fields : List (List ℕ)) (m : ℕ) (tangled : Bool) (tokens : List Placed) (end : ℕ) (read : Result Parsed FormulaFault) → AllByRecursion (IsNamedToken fields m) (kinds tokens) → Outcome tangled tokens end read → IfOk read (λ p. All (IsNamedRead fields) p.reads)
outcome-named fields m tangled tokens end read all (tangles a) = tt
outcome-named fields m tangled tokens end read all (is_faulty fault a b) = tt
outcome-named fields m tangled tokens end read all (ends_early a b c) = tt
outcome-named fields m tangled tokens end read all (is_deep e a b c) = tt
outcome-named fields m tangled tokens end read all (is_formula e a spelled c) =
    All-from_recursion (IsNamedRead fields) (distinct_reads (reads_of_expr e))
    (distinct_reads-all (IsNamedRead fields) (reads_of_expr e) (reads-expr fields m e (subst (AllByRecursion (IsNamedToken fields m)) spelled all)))

-- ---- for crates above

-- what a formula reads of fields has a name that can be written
pub parsed-named : (fields alarms : List (List ℕ)) (text : List ℕ) → IfOk (parsed_of fields alarms text) (λ p. All (IsNamedRead fields) p.reads)
parsed-named fields alarms text =
    outcome-named fields (length alarms) _ (tokens_of fields alarms text) (length text) (parsed_of fields alarms text) (tokens_from-named fields alarms 0 0 text) (outcome fields alarms text)

-- ---- arguments

-- a name alone
argument_here-named : (fields : List (List ℕ)) (m at : ℕ) (t : Token) → IsNamedToken fields m t → IfOk (argument_here at t) (IsNamedArgument fields)
argument_here-named fields m at (token.Field k) is = field-named fields m k (pos 0) (pos 0) is
argument_here-named fields m at (token.Quantity q) is = quantity-named fields m q is
argument_here-named fields m at t is = tt

-- a field at a neighbour that is near enough
near-named : (fields : List (List ℕ)) (at k : ℕ) (dx dy : ℤ) (b : Bool) → IsNamedPlace fields k → IfOk (if b then Ok (Cell (read_at (names.Field k) dx dy)) else Err (FarNeighbour at)) (IsNamedArgument fields)
near-named fields at k dx dy true is = record { named = λ l same. let there : k ≡ l = cc in subst (IsNamedPlace fields) there is }
near-named fields at k dx dy false is = tt

-- a field at a neighbour, if there is one of that name
argument_beside-named : (fields : List (List ℕ)) (at : ℕ) (offsets : ℤ × ℤ) (name : List ℕ) (place : Option ℕ) → is_some_of name ≡ true → place_of fields name ≡ place → IfOk (argument_beside at offsets place) (IsNamedArgument fields)
argument_beside-named fields at offsets name None some found = tt
argument_beside-named fields at offsets name (Some k) some found =
    near-named fields at k offsets.0 offsets.1 (is_near offsets.0 && is_near offsets.1) (record { name = name; some = some; found = found })

-- a long name has a byte
is_long_name-some : (name : List ℕ) → is_long_name name ≡ true → is_some_of name ≡ true
is_long_name-some [] is = is
is_long_name-some (c ∷ more) is = refl

-- a part of a word that is a name
abbrev HasName : Option (List ℕ × Option (ℤ × ℤ)) → Type 0
HasName parts = IfSome parts (λ p. is_some_of p.0 ≡ true)

-- a name that passed the test, and its offsets
offset-some : (name : List ℕ) (offsets : Option (ℤ × ℤ)) → is_some_of name ≡ true → HasName (offsets >>= (λ o. Some (name, Some o)))
offset-some name None some = tt
offset-some name (Some o) some = some

-- a word before a `[`, or a word without one
name_parts-some : (word : List ℕ) (halves : Option (List ℕ × List ℕ)) → HasName (name_parts word halves)
name_parts-some word None =
    elim (cases_Bool (is_long_name word)) [
      | inl is ↦ rw is (is_long_name-some word is)
      | inr other ↦ rw other tt
    ]
name_parts-some word (Some halves) =
    elim (cases_Bool (is_long_name halves.0)) [
      | inl is ↦ rw is (offset-some halves.0 (offset_words halves.1) (is_long_name-some halves.0 is))
      | inr other ↦ rw other tt
    ]

-- a word that is no number
cell_argument-named : (fields alarms : List (List ℕ)) (at : ℕ) (parts : Option (List ℕ × Option (ℤ × ℤ))) → HasName parts → IfOk (cell_argument fields alarms at parts) (IsNamedArgument fields)
cell_argument-named fields alarms at None some = tt
cell_argument-named fields alarms at (Some (name, None)) some = argument_here-named fields (length alarms) at (token_of fields alarms name false) (token_of-named fields alarms name false)
cell_argument-named fields alarms at (Some (name, Some offsets)) some = argument_beside-named fields at offsets name (place_of fields name) some refl

-- a word, by what it denotes as a number
argument_by-named : (fields alarms : List (List ℕ)) (at : ℕ) (word : List ℕ) (read : Result ℤ ValFault) → IfOk (argument_by fields alarms at word read) (IsNamedArgument fields)
argument_by-named fields alarms at word (Ok z) = tt
argument_by-named fields alarms at word (Err val_fault.Digits) = cell_argument-named fields alarms at (name_word word) (name_parts-some word (cut_at 91 word))
argument_by-named fields alarms at word (Err fault) = tt

-- what an argument reads of fields has a name that can be written
pub argument-named : (fields alarms : List (List ℕ)) (at : ℕ) (word : List ℕ) → IfOk (argument_of fields alarms at word) (IsNamedArgument fields)
argument-named fields alarms at word = argument_by-named fields alarms at word (value_of word)
