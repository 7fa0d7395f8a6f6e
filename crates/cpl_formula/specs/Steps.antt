-- The code's own steps: reading one token after another, with what has been read and what may come next. What `parse`
-- promises is said without them (`Formulas`); that `parsed_of` gives each text its outcome is a law (`grammar_laws`).
use Rattle.std.specs.Prelude.{ℕ, zero, suc, ℤ, pos, ◌+◌, ◌*◌, max, Bool, true, false, if◌then◌else◌, nat_le, nat_lt, List, [], ◌∷◌, ◌++◌, length, Option, Some, None, Result, Ok, Err}
use Rattle.cpl_base.specs.Numbers.{million}
use Rattle.cpl_base.specs.Numerals.{signed_integer}
use Rattle.cpl_formula.specs.Functions.{tree_of_binary, tree_of_ternary, tree_of_unary}
use Rattle.cpl_formula.specs.Grammar.{tree_of_sum, tree_of_product, input_of}
use Rattle.cpl_formula.specs.Reads.{with_read, read_at}
use Rattle.cpl_formula.specs.Tokens.{Placed, is_tangled, tokens_of}
use Rattle.cpl_formula.specs.declared.formula.Formula.{Formula, roll-Formula}
use Rattle.cpl_formula.specs.declared.formula.Formula.TheOpen as tree
use Rattle.cpl_formula.specs.declared.fault.FormulaFault.{FormulaFault}
use Rattle.cpl_formula.specs.declared.fault.FormulaFault.TheVariants as faults
use Rattle.cpl_formula.specs.declared.formula.Parsed.{Parsed}
use Rattle.cpl_formula.specs.declared.formula.Read.{Read}
use Rattle.cpl_formula.specs.declared.formula.ReadName.TheVariants as names
use Rattle.cpl_formula.specs.declared.functions.Function.{Function}
use Rattle.cpl_formula.specs.declared.functions.Function.TheVariants as function
use Rattle.cpl_formula.specs.declared.state.Frame.{Frame}
use Rattle.cpl_formula.specs.declared.state.Level.{Level}
use Rattle.cpl_formula.specs.declared.state.Mode.{Mode}
use Rattle.cpl_formula.specs.declared.state.Mode.TheVariants.{Wanted, Called, Named, Column, Between, Row, Ending, Behind}
use Rattle.cpl_formula.specs.declared.state.Opening.{Opening}
use Rattle.cpl_formula.specs.declared.state.Opening.TheVariants.{Group, OnlyOf, FirstOfTwo, SecondOfTwo, FirstOfThree, SecondOfThree, ThirdOfThree}
use Rattle.cpl_formula.specs.declared.state.Part.{Part}
use Rattle.cpl_formula.specs.declared.state.Part.TheVariants.{Kept, Deep}
use Rattle.cpl_formula.specs.declared.state.Product.{Product}
use Rattle.cpl_formula.specs.declared.state.State.{State}
use Rattle.cpl_formula.specs.declared.state.Sum.{Sum}
use Rattle.cpl_formula.specs.declared.fault.Stop.{Stop}
use Rattle.cpl_formula.specs.declared.fault.Stop.TheVariants as stop
use Rattle.cpl_formula.specs.declared.tokens.SumSign.TheVariants.{Less}
use Rattle.cpl_formula.specs.declared.tokens.Token.{Token}
use Rattle.cpl_formula.specs.declared.tokens.Token.TheVariants as token

-- ---- parts, none of them deeper than formulas may be

-- how deep a formula may be
abbrev pub depth_limit : ℕ
depth_limit = 32

-- a part of one level
abbrev pub leaf : Formula → Part
leaf tree = Kept tree 1

-- a level around a part
abbrev pub part_around : (Formula → Formula) → Part → Part
part_around make Deep = Deep
part_around make (Kept tree depth) = if nat_lt depth depth_limit then Kept (make tree) (depth + 1) else Deep

-- a level around two parts
abbrev pub joined_part : (Formula → Formula → Formula) → Part → Part → Part
joined_part make Deep b = Deep
joined_part make (Kept a m) Deep = Deep
joined_part make (Kept a m) (Kept b n) = if nat_lt (max m n) depth_limit then Kept (make a b) (max m n + 1) else Deep

-- a level around three parts
abbrev pub joined_part_of_three : (Formula → Formula → Formula → Formula) → Part → Part → Part → Part
joined_part_of_three make Deep b c = Deep
joined_part_of_three make (Kept a l) Deep c = Deep
joined_part_of_three make (Kept a l) (Kept b m) Deep = Deep
joined_part_of_three make (Kept a l) (Kept b m) (Kept c n) =
    if nat_lt (max l (max m n)) depth_limit then Kept (make a b c) (max l (max m n) + 1) else Deep

-- so many minus signs in front of a part
abbrev pub part_with_minuses : ℕ → Part → Part
part_with_minuses zero operand = operand
part_with_minuses (suc n) operand = part_around (λ t. roll-Formula (tree.Minus t)) (part_with_minuses n operand)

-- one more minus sign; more than 33 count as 33
abbrev pub next_minus_count : ℕ → ℕ
next_minus_count n = if nat_lt depth_limit n then n else n + 1

-- ---- what waits for an operand

-- nothing
abbrev pub fresh_level : Level
fresh_level = record { sum = None; product = None; minus = 0 }

-- the product that waits, with its last factor
abbrev pub with_product : Option Product → Part → Part
with_product None right = right
with_product (Some product) right = joined_part (tree_of_product product.sign) product.left right

-- the sum that waits, with its last term
abbrev pub with_sum : Option Sum → Part → Part
with_sum None right = right
with_sum (Some sum) right = joined_part (tree_of_sum sum.sign) sum.left right

-- the term that an operand ends
abbrev pub term_at : Level → Part → Part
term_at level operand = with_product level.product (part_with_minuses level.minus operand)

-- the expr that an operand ends
abbrev pub expr_at : Level → Part → Part
expr_at level operand = with_sum level.sum (term_at level operand)

-- ---- open brackets

-- what is read behind a function's `(`
abbrev pub opening_of : Function → Opening
opening_of (function.Unary f) = OnlyOf f
opening_of (function.Binary f) = FirstOfTwo f
opening_of (function.Ternary f) = FirstOfThree f

-- what a `)` makes, with the last argument
abbrev pub closed_part : Opening → Part → Option Part
closed_part Group e = Some (part_around (λ t. t) e)
closed_part (OnlyOf f) e = Some (part_around (tree_of_unary f) e)
closed_part (SecondOfTwo f a) e = Some (joined_part (tree_of_binary f) a e)
closed_part (ThirdOfThree f a b) e = Some (joined_part_of_three (tree_of_ternary f) a b e)
closed_part opening e = None

-- what is read behind a `,`, with one more argument
abbrev pub next_opening : Opening → Part → Option Opening
next_opening (FirstOfTwo f) e = Some (SecondOfTwo f e)
next_opening (FirstOfThree f) e = Some (SecondOfThree f e)
next_opening (SecondOfThree f a) e = Some (ThirdOfThree f a e)
next_opening opening e = None

-- one more item in front
abbrev pub onto_front : {A : Type 0} → A → Option (List A × A) → Option (List A × A)
onto_front x None = Some ([], x)
onto_front x (Some s) = Some (x ∷ s.0, s.1)

-- the last item, and those before it
abbrev pub split_last : {A : Type 0} → List A → Option (List A × A)
split_last [] = None
split_last (x ∷ xs) = onto_front x (split_last xs)

-- ---- steps

-- a state with the reads so far
abbrev pub At : Type 0
At = List Read × State

-- a state
abbrev pub state : List Frame → Level → Mode → State
state frames level mode = record { frames = frames; level = level; mode = mode }

-- behind a `(`
abbrev pub state_in_bracket : List Frame → Level → Opening → State
state_in_bracket frames level opening = state (frames ++ record { level = level; opening = opening } ∷ []) fresh_level Wanted

-- behind a read
abbrev pub state_after_read : List Read → List Frame → Level → Read → At
state_after_read reads frames level r = (with_read reads r, state frames level (Behind (leaf (input_of reads r))))

-- an operand may stand here
abbrev pub step_at_operand : List Read → List Frame → Level → Token → Result At Stop
step_at_operand reads frames level (token.Sum Less) = Ok (reads, state frames (record level { minus = next_minus_count level.minus }) Wanted)
step_at_operand reads frames level token.Open = Ok (reads, state_in_bracket frames level Group)
step_at_operand reads frames level (token.Function f) = Ok (reads, state frames level (Called f))
step_at_operand reads frames level (token.Digit d) = Ok (reads, state frames level (Behind (leaf (roll-Formula (tree.Number (pos (d * million)))))))
step_at_operand reads frames level (token.Number z) = Ok (reads, state frames level (Behind (leaf (roll-Formula (tree.Number z)))))
step_at_operand reads frames level (token.Field k) = Ok (reads, state frames level (Named k))
step_at_operand reads frames level (token.Quantity q) = Ok (state_after_read reads frames level (read_at q (pos 0) (pos 0)))
step_at_operand reads frames level token.BadNumber = Err stop.BadNumber
step_at_operand reads frames level token.Unknown = Err stop.NameUnknown
step_at_operand reads frames level t = Err stop.Syntax

-- behind a function's name
abbrev pub step_at_call : List Read → List Frame → Level → Function → Token → Result At Stop
step_at_call reads frames level f token.Open = Ok (reads, state_in_bracket frames level (opening_of f))
step_at_call reads frames level f t = Err stop.Syntax

-- an offset, where it is near enough
abbrev pub near_offset : Bool → ℕ → Result ℤ Stop
near_offset minus d = if nat_le d 2 then Ok (signed_integer minus d) else Err (stop.FarNeighbour minus)

-- behind the column's offset
abbrev pub after_column : List Read → List Frame → Level → ℕ → Result ℤ Stop → Result At Stop
after_column reads frames level k (Err e) = Err e
after_column reads frames level k (Ok dx) = Ok (reads, state frames level (Between k dx))

-- before the digit of the column's offset
abbrev pub step_in_column : List Read → List Frame → Level → ℕ → Bool → Token → Result At Stop
step_in_column reads frames level k minus (token.Digit d) = after_column reads frames level k (near_offset minus d)
step_in_column reads frames level k false (token.Sum Less) = Ok (reads, state frames level (Column k true))
step_in_column reads frames level k minus t = Err stop.Syntax

-- between the offsets
abbrev pub step_between_offsets : List Read → List Frame → Level → ℕ → ℤ → Token → Result At Stop
step_between_offsets reads frames level k dx token.Comma = Ok (reads, state frames level (Row k dx false))
step_between_offsets reads frames level k dx t = Err stop.Syntax

-- behind the row's offset
abbrev pub after_row : List Read → List Frame → Level → ℕ → ℤ → Result ℤ Stop → Result At Stop
after_row reads frames level k dx (Err e) = Err e
after_row reads frames level k dx (Ok dy) = Ok (reads, state frames level (Ending k dx dy))

-- before the digit of the row's offset
abbrev pub step_in_row : List Read → List Frame → Level → ℕ → ℤ → Bool → Token → Result At Stop
step_in_row reads frames level k dx minus (token.Digit d) = after_row reads frames level k dx (near_offset minus d)
step_in_row reads frames level k dx false (token.Sum Less) = Ok (reads, state frames level (Row k dx true))
step_in_row reads frames level k dx minus t = Err stop.Syntax

-- behind the offsets
abbrev pub step_at_bracket : List Read → List Frame → Level → ℕ → ℤ → ℤ → Token → Result At Stop
step_at_bracket reads frames level k dx dy token.CloseBracket = Ok (state_after_read reads frames level (read_at (names.Field k) dx dy))
step_at_bracket reads frames level k dx dy t = Err stop.Syntax

-- behind a `)`, outside of its brackets
abbrev pub after_close : List Read → List Frame → Level → Option Part → Result At Stop
after_close reads frames level None = Err stop.Syntax
after_close reads frames level (Some part) = Ok (reads, state frames level (Behind part))

-- a `)`
abbrev pub step_at_close : List Read → Part → Option (List Frame × Frame) → Result At Stop
step_at_close reads e None = Err stop.Syntax
step_at_close reads e (Some s) = after_close reads s.0 s.1.level (closed_part s.1.opening e)

-- behind a `,`
abbrev pub after_comma : List Read → List Frame → Level → Option Opening → Result At Stop
after_comma reads frames level None = Err stop.Syntax
after_comma reads frames level (Some opening) = Ok (reads, state_in_bracket frames level opening)

-- a `,`
abbrev pub step_at_comma : List Read → Part → Option (List Frame × Frame) → Result At Stop
step_at_comma reads e None = Err stop.Syntax
step_at_comma reads e (Some s) = after_comma reads s.0 s.1.level (next_opening s.1.opening e)

-- behind an operand
abbrev pub step_after_operand : List Read → List Frame → Level → Part → Token → Result At Stop
step_after_operand reads frames level operand (token.Sum sign) =
    Ok (reads, state frames (record { sum = Some (record { left = expr_at level operand; sign = sign }); product = None; minus = 0 }) Wanted)
step_after_operand reads frames level operand (token.Product sign) =
    Ok (reads, state frames (record { sum = level.sum; product = Some (record { left = term_at level operand; sign = sign }); minus = 0 }) Wanted)
step_after_operand reads frames level operand token.Close = step_at_close reads (expr_at level operand) (split_last frames)
step_after_operand reads frames level operand token.Comma = step_at_comma reads (expr_at level operand) (split_last frames)
step_after_operand reads frames level operand t = Err stop.Syntax

-- behind a field's name: a read at the cell itself, unless brackets follow
abbrev pub step_after_name : List Read → List Frame → Level → ℕ → Token → Result At Stop
step_after_name reads frames level k token.OpenBracket = Ok (reads, state frames level (Column k false))
step_after_name reads frames level k t =
    let r = read_at (names.Field k) (pos 0) (pos 0) in step_after_operand (with_read reads r) frames level (leaf (input_of reads r)) t

-- one step, by what the last token was
abbrev pub step_by : List Read → List Frame → Level → Mode → Token → Result At Stop
step_by reads frames level Wanted t = step_at_operand reads frames level t
step_by reads frames level (Called f) t = step_at_call reads frames level f t
step_by reads frames level (Named k) t = step_after_name reads frames level k t
step_by reads frames level (Column k minus) t = step_in_column reads frames level k minus t
step_by reads frames level (Between k dx) t = step_between_offsets reads frames level k dx t
step_by reads frames level (Row k dx minus) t = step_in_row reads frames level k dx minus t
step_by reads frames level (Ending k dx dy) t = step_at_bracket reads frames level k dx dy t
step_by reads frames level (Behind operand) t = step_after_operand reads frames level operand t

-- a token more
abbrev pub step : List Read → State → Token → Result At Stop
step reads s t = step_by reads s.frames s.level s.mode t

-- ---- a whole text

-- before the first token
abbrev pub start_state : State
start_state = state [] fresh_level Wanted

-- The fault at a token, with the place of the one before it: an offset begins with its minus.
abbrev pub fault_at : Stop → ℕ → ℕ → FormulaFault
fault_at stop.Syntax before at = faults.Syntax at
fault_at stop.BadNumber before at = faults.BadNumber at
fault_at stop.NameUnknown before at = faults.NameUnknown at
fault_at (stop.FarNeighbour true) before at = faults.FarNeighbour before
fault_at (stop.FarNeighbour false) before at = faults.FarNeighbour at
fault_at stop.Memory before at = faults.Memory

-- goes on behind a token, or stops there
abbrev pub continuation : ℕ → ℕ → Result At Stop → (At → Result At FormulaFault) → Result At FormulaFault
continuation before at (Err e) rest = Err (fault_at e before at)
continuation before at (Ok here) rest = rest here

-- goes over tokens, behind one at the place `before`
abbrev pub walk : ℕ → At → List Placed → Result At FormulaFault
walk before here [] = Ok here
walk before here (t ∷ more) = continuation before t.at (step here.0 here.1 t.token) (λ next. walk t.at next more)

-- the operand at the end of a text, with all reads
abbrev pub last_operand : List Read → Mode → Option (List Read × Part)
last_operand reads (Behind operand) = Some (reads, operand)
last_operand reads (Named k) = let r = read_at (names.Field k) (pos 0) (pos 0) in Some (with_read reads r, leaf (input_of reads r))
last_operand reads mode = None

-- what was read, unless it is too deep
abbrev pub outcome_of_part : List Read → Part → Result Parsed FormulaFault
outcome_of_part reads Deep = Err faults.DeepFormula
outcome_of_part reads (Kept tree depth) = Ok (record { tree = tree; reads = reads })

-- what was read where all brackets are closed; else the text ended too early
abbrev pub outcome_at_end : ℕ → List Frame → Level → Option (List Read × Part) → Result Parsed FormulaFault
outcome_at_end length frames level None = Err (faults.Syntax length)
outcome_at_end length [] level (Some last) = outcome_of_part last.0 (expr_at level last.1)
outcome_at_end length (f ∷ frames) level (Some last) = Err (faults.Syntax length)

-- the end of a text of this length
abbrev pub outcome_of_walk : ℕ → Result At FormulaFault → Result Parsed FormulaFault
outcome_of_walk length (Err fault) = Err fault
outcome_of_walk length (Ok here) = outcome_at_end length here.1.frames here.1.level (last_operand here.0 here.1.mode)

-- what reading makes of a text
unfoldable pub parsed_of : List (List ℕ) → List (List ℕ) → List ℕ → Result Parsed FormulaFault
parsed_of fields alarms text =
    if is_tangled text then Err faults.DeepFormula
    else outcome_of_walk (length text) (walk 0 ([], start_state) (tokens_of fields alarms text))
