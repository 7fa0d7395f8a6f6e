-- The fields of a component's tables: their names, the words of their rules and their order.
use Rattle.std.proofs.Common.{◌≡◌, ◌≢◌, ℕ, suc, ◌≤◌, Bool, true, false, not, ◌&&◌, ◌||◌, leb, List, [], ◌∷◌, ◌++◌, length, map, Some, IfOk, codes, refl, sym, ap, subst, arith, ◌∙◌}
use Rattle.std.proofs.lemmas.Bool.{and_parts, and_from, leb-true, not-true}
use Rattle.std.proofs.lemmas.Bool.Decides.{Decides-like, same_from_decides}
use Rattle.std.proofs.lemmas.List.{append_assoc, append-nil, map-append}
use Rattle.std.proofs.lemmas.List.Elements.{All-head, All-nil, All-push, All-tail}
use Rattle.std.proofs.lemmas.List.Folds.{list_all-append}
use Rattle.std.proofs.lemmas.Slice.Eq.{bytes_eq-Decides}
use Rattle.std.specs.List.{All, join_with_byte, list_all, list_any}
use Rattle.std.specs.Str.{bytes_eq}
use Rattle.cpl_base.specs.Words.{are_distinct, is_some_of}
use Rattle.cpl_config.specs.Items.{HasShortRows, IsShort}
use Rattle.cpl_config.specs.declared.entry.Entry.{Entry}
use Rattle.cpl_config.specs.declared.row.Row.{Row}
use Rattle.cpl_dict.specs.Dict.{Dictionary}
use Rattle.cpl_formula.specs.FieldNames.{is_field_name}
use Rattle.cpl_comp.specs.Components.{AreInOrder, HasShortRule, IsUnaskedRow}
use Rattle.cpl_comp.specs.FieldRows.{FieldParts, are_options, demand_in, export_parts, few_fields, field_of, field_parts, fields_in, fields_with, has_field, import_parts, is_equals, is_standard_name, no_demand, parts_if, standard_check, var_parts}
use Rattle.cpl_comp.specs.Labels.{own_rows}
use Rattle.cpl_comp.specs.Scopes.{AreShort}
use Rattle.cpl_comp.specs.declared.component.Role.{Role}
use Rattle.cpl_comp.specs.declared.component.Role.TheVariants.{Var, Import, Export}
use Rattle.cpl_comp.specs.declared.fault.CompFault.TheVariants.{BadValue, FieldTwice, TooManyFields}
use Rattle.cpl_comp.specs.declared.field_rows.FieldRow.{FieldRow}
use Rattle.cpl_comp.proofs.RepeatFacts.{are_distinct-push}
use Rattle.cpl_comp.proofs.ResultFacts.{bind-IfOk, bind-fact, cond-IfOk, map-IfOk, some-IfOk, test-IfOk}
use Rattle.cpl_comp.proofs.RoleFacts.{copies, order-three}
use Rattle.cpl_comp.proofs.ShortFacts.{join-tail, own_rows-short, short-below}

-- ---- one row

-- What holds of the parts that the words of a row of a table give.
pub record ArePartsOf (role : Role) (words : List (List ℕ)) (parts : FieldParts) : Type 0 where
  pub named : is_field_name parts.name ≡ true
  pub shorter : length (join_with_byte 32 parts.rule) ≤ length (join_with_byte 32 words)
  pub unasked : role ≢ Import → parts.demand ≡ no_demand

-- parts that are given where a row has the form
parts_if-are : (role : Role) (words : List (List ℕ)) (b : Bool) (made parts : FieldParts) → (b ≡ true → ArePartsOf role words made) → parts_if b made ≡ Some parts → ArePartsOf role words parts
parts_if-are role words true made parts holds is =
    let same : made ≡ parts = cc in
    subst (ArePartsOf role words) same (holds refl)
parts_if-are role words false made parts holds is = absurd (cc)

-- the parts of a variable
var_parts-are : (words : List (List ℕ)) (parts : FieldParts) → var_parts words ≡ Some parts → ArePartsOf Var words parts
var_parts-are (name ∷ equals ∷ rule) parts is =
    parts_if-are Var (name ∷ equals ∷ rule) (is_field_name name && is_equals equals && is_some_of rule)
    (record { name = name; standard = []; units = []; demand = no_demand; rule = rule })
    parts (λ form. record {
      named = (and_parts (is_field_name name) (is_equals equals) (and_parts (is_field_name name && is_equals equals) (is_some_of rule) form).0).0;
      shorter = let one = join-tail equals rule in let two = join-tail name (equals ∷ rule) in omega arith;
      unasked = λ other. refl;
    }) is
var_parts-are words parts is = absurd (cc)

-- of an import
import_parts-are : (words : List (List ℕ)) (parts : FieldParts) → import_parts words ≡ Some parts → ArePartsOf Import words parts
import_parts-are (name ∷ standard ∷ units ∷ options) parts is =
    parts_if-are Import (name ∷ standard ∷ units ∷ options) (is_field_name name && is_standard_name standard && are_options options)
    (record { name = name; standard = standard; units = units; demand = demand_in options; rule = [] })
    parts (λ form. record {
      named = (and_parts (is_field_name name) (is_standard_name standard) (and_parts (is_field_name name && is_standard_name standard) (are_options options) form).0).0;
      shorter = omega arith;
      unasked = λ other. absurd (other refl);
    }) is
import_parts-are words parts is = absurd (cc)

-- of an export
export_parts-are : (words : List (List ℕ)) (parts : FieldParts) → export_parts words ≡ Some parts → ArePartsOf Export words parts
export_parts-are (name ∷ standard ∷ units ∷ equals ∷ rule) parts is =
    parts_if-are Export (name ∷ standard ∷ units ∷ equals ∷ rule) (is_field_name name && is_standard_name standard && is_equals equals && is_some_of rule)
    (record { name = name; standard = standard; units = units; demand = no_demand; rule = rule })
    parts (λ form. record {
      named =
          let three = (and_parts (is_field_name name && is_standard_name standard && is_equals equals) (is_some_of rule) form).0 in
          let two = (and_parts (is_field_name name && is_standard_name standard) (is_equals equals) three).0 in
          (and_parts (is_field_name name) (is_standard_name standard) two).0;
      shorter =
          let one = join-tail equals rule in
          let two = join-tail units (equals ∷ rule) in
          let three = join-tail standard (units ∷ equals ∷ rule) in
          let four = join-tail name (standard ∷ units ∷ equals ∷ rule) in
          omega arith;
      unasked = λ other. refl;
    }) is
export_parts-are words parts is = absurd (cc)

-- the parts of a row of a table
field_parts-are : (role : Role) (words : List (List ℕ)) (parts : FieldParts) → field_parts role words ≡ Some parts → ArePartsOf role words parts
field_parts-are Var words parts is = var_parts-are words parts is
field_parts-are Import words parts is = import_parts-are words parts is
field_parts-are Export words parts is = export_parts-are words parts is

-- ---- fields

-- What holds of the fields so far.
pub record AreFields (fields : List FieldRow) : Type 0 where
  pub named : list_all (λ row. is_field_name row.name) fields ≡ true
  pub names : are_distinct (map (λ row. row.name) fields) ≡ true
  pub short : All HasShortRule fields
  pub unasked : All IsUnaskedRow fields

-- The field of a row: its role, its name, which none of those before has, and its rule.
pub record IsFieldBehind (role : Role) (before : List FieldRow) (field : FieldRow) : Type 0 where
  pub role_is : field.role ≡ role
  pub named : is_field_name field.name ≡ true
  pub new : has_field field.name before ≡ false
  pub short : AreShort field.rule
  pub unasked : IsUnaskedRow field

-- the field of a short row
field_of-is : (dict : Dictionary) (role : Role) (before : List FieldRow) (row : Row) → IsShort row → IfOk (field_of dict role before row) (IsFieldBehind role before)
field_of-is dict role before row short =
    some-IfOk (IsFieldBehind role before) (field_parts role row.words) (BadValue row.line) _ (λ parts is.
    test-IfOk (IsFieldBehind role before) (not (has_field parts.name before)) (FieldTwice row.line) _ (λ new.
    bind-IfOk (IsFieldBehind role before) (standard_check dict role row.line parts) _ (λ _ _.
    let are = field_parts-are role row.words parts is in
    record {
      role_is = refl;
      named = are.named;
      new = not-true (has_field parts.name before) new;
      short = short-below parts.rule row.words are.shorter short;
      unasked = are.unasked;
    })))

-- texts compare alike either way
bytes_eq-swap : (a b : List ℕ) → bytes_eq a b ≡ bytes_eq b a
bytes_eq-swap a b = same_from_decides (bytes_eq a b) (bytes_eq b a) (bytes_eq-Decides a b) (Decides-like (bytes_eq b a) sym sym (bytes_eq-Decides b a))

-- a name that no field has is none of their names
has_field-names : (name : List ℕ) (fields : List FieldRow) → list_any (λ other. bytes_eq other name) (map (λ row. row.name) fields) ≡ has_field name fields
has_field-names name [] = refl
has_field-names name (field ∷ fields) =
    let first = bytes_eq-swap field.name name in
    let others = has_field-names name fields in
    λ i. (first i || others i)

-- one field more
fields-push : (role : Role) (before : List FieldRow) (field : FieldRow) → AreFields before → IsFieldBehind role before field → AreFields (before ++ field ∷ [])
fields-push role before field are is = record {
  named =
      list_all-append (λ row. is_field_name row.name) before (field ∷ [])
      ∙ and_from (list_all (λ row. is_field_name row.name) before) (is_field_name field.name && true) are.named (and_from (is_field_name field.name) true is.named refl);
  names =
      let both : map (λ row. row.name) (before ++ field ∷ []) ≡ map (λ row. row.name) before ++ field.name ∷ [] = map-append (λ row. row.name) before (field ∷ []) in
      ap are_distinct both ∙ are_distinct-push (map (λ row. row.name) before) field.name are.names (has_field-names field.name before ∙ is.new);
  short = All-push HasShortRule before field are.short is.short;
  unasked = All-push IsUnaskedRow before field are.unasked is.unasked;
}

-- Fields behind others: what holds of them all, and how many more there are, all of one role.
pub record AreFieldsBehind (role : Role) (before fields : List FieldRow) : Type 0 where
  pub are : AreFields fields
  pub more : ℕ
  pub roles : map (λ row. row.role) fields ≡ map (λ row. row.role) before ++ copies more role

-- fields behind one more are behind those before it
fields-behind : (role : Role) (before : List FieldRow) (field : FieldRow) (fields : List FieldRow) → field.role ≡ role → AreFieldsBehind role (before ++ field ∷ []) fields → AreFieldsBehind role before fields
fields-behind role before field fields is behind = record {
  are = behind.are;
  more = suc behind.more;
  roles =
      behind.roles
      ∙ ap (λ roles. roles ++ copies behind.more role) (map-append (λ row. row.role) before (field ∷ []))
      ∙ append_assoc (map (λ row. row.role) before) (field.role ∷ []) (copies behind.more role)
      ∙ ap (λ r. map (λ row. row.role) before ++ r ∷ copies behind.more role) is;
}

-- the fields of further rows
pub fields_with-are : (dict : Dictionary) (role : Role) (before : List FieldRow) (rows : List Row) → All IsShort rows → AreFields before → IfOk (fields_with dict role before rows) (AreFieldsBehind role before)
fields_with-are dict role before [] short are = record { are = are; more = 0; roles = sym (append-nil (map (λ row. row.role) before)) }
fields_with-are dict role before (row ∷ rows) short are =
    bind-fact (AreFieldsBehind role before) (IsFieldBehind role before) (field_of dict role before row) _
    (field_of-is dict role before row (All-head IsShort row rows short))
    (λ field is.
    map-IfOk (AreFieldsBehind role (before ++ field ∷ [])) (AreFieldsBehind role before) (fields_with dict role (before ++ field ∷ []) rows)
    (λ fields behind. fields-behind role before field fields is.role_is behind)
    (fields_with-are dict role (before ++ field ∷ []) rows (All-tail IsShort row rows short) (fields-push role before field are is)))

-- ---- all tables

-- What holds of the fields of a component.
pub record AreOwnFields (fields : List FieldRow) : Type 0 where
  pub are : AreFields fields
  pub few : length fields ≤ 64
  pub order : AreInOrder (map (λ row. row.role) fields)

-- fields of three tables are in order
fields-order : (vars imports fields : List FieldRow) → AreFieldsBehind Var [] vars → AreFieldsBehind Import vars imports → AreFieldsBehind Export imports fields → AreInOrder (map (λ row. row.role) fields)
fields-order vars imports fields first second third =
    let roles : map (λ row. row.role) fields ≡ copies first.more Var ++ copies second.more Import ++ copies third.more Export =
    third.roles
    ∙ ap (λ roles. roles ++ copies third.more Export) (second.roles ∙ ap (λ roles. roles ++ copies second.more Import) first.roles)
    in
    let P : List Role → Type 0 = λ roles. AreInOrder roles in
    subst P (sym roles) (order-three first.more second.more third.more)

-- the fields of a component
pub fields_in-are : (dict : Dictionary) (entries : List Entry) (component : List ℕ) → All (λ entry. HasShortRows entry.item) entries → IfOk (fields_in dict entries component) AreOwnFields
unfolding fields_in
fields_in-are dict entries component short =
    bind-fact AreOwnFields (AreFieldsBehind Var []) (fields_with dict Var [] (own_rows entries component (codes "_vars"))) _
    (fields_with-are dict Var [] (own_rows entries component (codes "_vars")) (own_rows-short entries component (codes "_vars") short)
    (record { named = refl; names = refl; short = All-nil HasShortRule; unasked = All-nil IsUnaskedRow }))
    (λ vars first.
    bind-fact AreOwnFields (AreFieldsBehind Import vars) (fields_with dict Import vars (own_rows entries component (codes "_import"))) _
    (fields_with-are dict Import vars (own_rows entries component (codes "_import")) (own_rows-short entries component (codes "_import") short) first.are)
    (λ imports second.
    bind-fact AreOwnFields (AreFieldsBehind Export imports) (fields_with dict Export imports (own_rows entries component (codes "_export"))) few_fields
    (fields_with-are dict Export imports (own_rows entries component (codes "_export")) (own_rows-short entries component (codes "_export") short) second.are)
    (λ fields third.
    cond-IfOk AreOwnFields (leb (length fields) 64) fields (TooManyFields (length fields)) (λ few. record {
      are = third.are;
      few = leb-true (length fields) 64 few;
      order = fields-order vars imports fields first second third;
    }))))
