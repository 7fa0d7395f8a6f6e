-- Start rules as assignments.
use Rattle.std.proofs.Common.{◌≡◌, ◌∙◌, ◌+◌, ℕ, suc, ◌<◌, List, [], ◌∷◌, ap, arith, get_or, length, map, refl, subst, sym}
use Rattle.std.proofs.lemmas.List.{get_or-map, length-map}
use Rattle.std.proofs.lemmas.List.Elements.{All-cons, All-map, All-nil}
use Rattle.std.specs.List.{All, cons_option, enumerate_from, filter_map}
use Rattle.std.specs.Option.{ForSome}
use Rattle.std.specs.Prelude.{Option, Some, None, option_map}
use Rattle.cpl_comp.specs.Readings.{Reading, rule_values}
use Rattle.cpl_comp.specs.Writes.{Write, set_write, start_write}
use Rattle.cpl_comp.specs.declared.component.Field.{Field}
use Rattle.cpl_comp.specs.declared.component.Rule.{Rule}
use Rattle.cpl_comp.specs.declared.component.SetRow.{SetRow}
use Rattle.cpl_rule.specs.Assigned.{HasRoom, IsAsRoomy}
use Rattle.cpl_rule.specs.declared.room.Room.{Room}
use Rattle.cpl_phase.specs.Starts.{place_started, places_started, row_started, rows_started}

-- the rows of fields from a place on
abbrev rows_from : ℕ → List Field → List SetRow
rows_from n described = filter_map row_started (enumerate_from n described)

-- the row of a rule
abbrev row_of : ℕ → Rule → SetRow
row_of n rule = record { field = n; rule = rule }

-- ---- their fields, and their writes

-- one field more
cons-fields : (n : ℕ) (o : Option Rule) (rows : List SetRow) (places : List ℕ) → map (λ (row : SetRow). row.field) rows ≡ places
    → map (λ (row : SetRow). row.field) (cons_option (option_map (row_of n) o) rows) ≡ cons_option (option_map (λ rule. n) o) places
cons-fields n None rows places same = same
cons-fields n (Some rule) rows places same = ap (λ ks. n ∷ ks) same

-- all
fields-from : (n : ℕ) (described : List Field)
    → map (λ (row : SetRow). row.field) (rows_from n described) ≡ filter_map place_started (enumerate_from n described)
fields-from n [] = refl
fields-from n (field ∷ described) =
    cons-fields n field.start (rows_from (n + 1) described) (filter_map place_started (enumerate_from (n + 1) described))
    (fields-from (n + 1) described)

-- the places of start rules
pub fields-started : (described : List Field) → map (λ (row : SetRow). row.field) (rows_started described) ≡ places_started described
fields-started described = fields-from 0 described

-- one write more
cons-writes : (reading : Reading) (n : ℕ) (o : Option Rule) (rows : List SetRow) (writes : List Write) → map (set_write reading) rows ≡ writes
    → map (set_write reading) (cons_option (option_map (row_of n) o) rows) ≡ cons_option
    (option_map (λ rule. record { field = n; values = rule_values reading rule }) o) writes
cons-writes reading n None rows writes same = same
cons-writes reading n (Some rule) rows writes same = ap (λ ws. record { field = n; values = rule_values reading rule } ∷ ws) same

-- all
pub writes-from : (reading : Reading) (n : ℕ) (described : List Field)
    → map (set_write reading) (rows_from n described) ≡ filter_map (start_write reading) (enumerate_from n described)
writes-from reading n [] = refl
writes-from reading n (field ∷ described) =
    cons-writes reading n field.start (rows_from (n + 1) described) (filter_map (start_write reading) (enumerate_from (n + 1) described))
    (writes-from reading (n + 1) described)

-- ---- the field of a row

-- A row is the start rule of a field.
pub record StartsIn (n : ℕ) (described : List Field) (row : SetRow) : Type 0 where
  pub i : ℕ
  pub at : row.field ≡ n + i
  pub within : i < length described
  pub field : Field
  pub here : (d : Field) → get_or described i d ≡ field
  pub start : field.start ≡ Some row.rule

-- what holds of the row of a field, and of the others
cons-starts : (P : SetRow → Type 0) (n : ℕ) (o : Option Rule) (rows : List SetRow) → ((rule : Rule) → o ≡ Some rule → P (row_of n rule)) → All P rows
    → All P (cons_option (option_map (row_of n) o) rows)
cons-starts P n None rows first each = each
cons-starts P n (Some rule) rows first each = All-cons P (row_of n rule) rows (first rule refl) each

-- each is
pub starts-from : (n : ℕ) (described : List Field) → All (StartsIn n described) (rows_from n described)
starts-from n [] = All-nil (StartsIn n [])
starts-from n (field ∷ described) =
    cons-starts (StartsIn n (field ∷ described)) n field.start (rows_from (n + 1) described)
    (λ rule is. record { i = 0; at = omega arith; within = omega arith; field = field; here = λ d. refl; start = is })
    (λ k d inside.
    let later = starts-from (n + 1) described k d inside in
    let at = later.at in
    let within = later.within in
    record { i = suc later.i; at = omega (arith, at); within = omega (arith, within); field = later.field; here = later.here; start = later.start })

-- ---- what holds of fields, of rows and of places

-- what holds of the start rules of fields
pub rows-each : (P : Rule → Type 0) (described : List Field) → All (λ field. ForSome field.start P) described
    → All (λ row. P row.rule) (rows_started described)
rows-each P described each = λ j d inside.
    let found = starts-from 0 described j d inside in
    each found.i found.field found.within (get_or (rows_started described) j d).rule
    (ap (λ (field : Field). field.start) (found.here found.field) ∙ found.start)

-- the fields of rows are there
pub rows-within : (described : List Field) → All (λ row. row.field < length described) (rows_started described)
rows-within described = λ j d inside.
    let found = starts-from 0 described j d inside in
    let at = found.at in
    let within = found.within in
    omega (arith, at, within)

-- so are the places
pub places-within : (described : List Field) → All (λ k. k < length described) (places_started described)
places-within described =
    let P : List ℕ → Type 0 = All (λ k. k < length described) in
    subst P (fields-started described)
    (All-map (λ k. k < length described) (λ (row : SetRow). row.field) (rows_started described) (rows-within described))

-- ---- one rule of a run

-- as many rows as places
pub length-started : (described : List Field) → length (rows_started described) ≡ length (places_started described)
length-started described = sym (length-map (rows_started described) (λ (row : SetRow). row.field)) ∙ ap length (fields-started described)

-- the field of a place has the rule of the row
pub started-row : (described : List Field) (places : List ℕ) (j : ℕ) (row : SetRow) (field : Field) → places ≡ places_started described
    → j < length places
    → field ≡ get_or described (get_or places j 0) field → field.start ≡ Some (get_or (rows_started described) j row).rule
started-row described places j row field are inside is =
    let rows = rows_started described in
    let many = ap length are in
    let among : j < length rows = omega (arith, inside, many, length-started described) in
    let found = starts-from 0 described j row among in
    let place : get_or places j 0 ≡ (get_or rows j row).field =
    ap (λ ks. get_or ks j 0) (are ∙ sym (fields-started described)) ∙ get_or-map (λ (r : SetRow). r.field) rows j row 0 among in
    let at = found.at in
    let there : get_or places j 0 ≡ found.i = omega (arith, place, at) in
    ap (λ (f : Field). f.start) (is ∙ ap (λ n. get_or described n field) there ∙ found.here field) ∙ found.start

-- room stays room
pub roomy : (old new : Room) (rule : Rule) → IsAsRoomy old new → HasRoom old rule → HasRoom new rule
roomy old new rule same has = record {
  places = omega (arith, same.places, has.places);
  inputs = omega (arith, same.inputs, has.inputs);
  scratch = λ parsed is.
      let enough = has.scratch parsed is in
      omega (arith, same.scratch, enough);
}
