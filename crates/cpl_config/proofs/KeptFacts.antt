-- What stands under a label, by the place that a map has of it.
use Rattle.std.proofs.Common.{◌≡◌, ℕ, ◌+◌, Bool, true, false, cond, List, [], ◌∷◌, ◌++◌, length, Option, Some, None, is_some, option_and_then, option_map, slice_get, refl, sym, ap, ◌∙◌, arith, suc, append_assoc}
use Rattle.std.proofs.lemmas.Bool.{true≢false}
use Rattle.std.proofs.lemmas.List.{append-nil, length_push, map_push}
use Rattle.std.proofs.lemmas.List.Elements.{All-push}
use Rattle.std.specs.List.{All}
use Rattle.std.specs.Map.{lookup}
use Rattle.std.specs.Option.{option_or}
use Rattle.std.specs.Str.{bytes_eq}
use Rattle.std.specs.declared.alloc.Global.{Global}
use Rattle.std.specs.declared.vec.Vec.{Vec}
use Rattle.cpl_config.specs.declared.entry.Entry.{Entry}
use Rattle.cpl_config.specs.declared.entry.Item.{Item}
use Rattle.cpl_config.specs.declared.row.Row.{Row}
use Rattle.cpl_config.specs.declared.row.Table.{Table}
use Rattle.cpl_config.specs.Items.{HasShortRows, IsShort, first_under, row_in, table_entry, table_in, value_entry}
use Rattle.cpl_config.specs.Kept.{IsKept, by_label, item_at, label_places}

-- a look-up by the bytes of a label
pub lookup-by_label : (label : List ℕ) (places : List (Vec ℕ Global × ℕ)) → lookup (λ key. bytes_eq label key.items) places ≡ lookup (bytes_eq label) (by_label places)
lookup-by_label label [] = refl
lookup-by_label label (p ∷ ps) = ap (cond (bytes_eq label p.0.items) (Some p.1)) (lookup-by_label label ps)

-- a look-up that finds nothing gives nothing
none-from : {X : Type 0} (o : Option X) → is_some o ≡ false → o ≡ None
none-from None missing = refl
none-from (Some x) missing = absurd (true≢false missing)

-- what stands at a place behind others
slice_get-append : (front : List Entry) (e : Entry) (es : List Entry) → slice_get (front ++ e ∷ es) (length front) ≡ Some e
slice_get-append [] e es = refl
slice_get-append (f ∷ fs) e es = slice_get-append fs e es

module _ {A : Type 0} (part : Item → Option A) where
  -- the place of a label among the labels from n on
  place_from : List ℕ → ℕ → List Entry → Option ℕ
  place_from label n entries = lookup (bytes_eq label) (label_places part n entries)

  -- a label has a place exactly where something stands under it
  is_some-place_from : (label : List ℕ) (n : ℕ) (entries : List Entry) → is_some (place_from label n entries) ≡ is_some (first_under part label entries)
  unfolding place_from
  is_some-place_from label n [] = refl
  is_some-place_from label n (e ∷ es) = step (part e.item) (bytes_eq label e.label) refl (is_some-place_from label (suc n) es)
    where
      later : List (List ℕ × ℕ)
      later = label_places part (suc n) es

      step : (x : Option A) (b : Bool) → bytes_eq label e.label ≡ b → is_some (lookup (bytes_eq label) later) ≡ is_some (first_under part label es)
          → is_some (lookup (bytes_eq label) (cond (is_some x) ((e.label, n) ∷ later) later)) ≡ is_some (option_or (cond b x None) (first_under part label es))
      step None true is same = same
      step None false is same = same
      step (Some x) true is same = rw is refl
      step (Some x) false is same = rw is same

  -- the item at the place of a label, behind others, is what stands under it
  first_under-behind : (label : List ℕ) (front entries : List Entry) (n : ℕ) → n ≡ length front → option_and_then part (item_at (front ++ entries) (place_from label n entries)) ≡ first_under part label entries
  unfolding place_from
  first_under-behind label front [] n is = refl
  first_under-behind label front (e ∷ es) n is =
      step (part e.item) refl (bytes_eq label e.label) refl
      (ap (λ (xs : List Entry). option_and_then part (item_at xs (lookup (bytes_eq label) (label_places part (suc n) es)))) (sym (append_assoc front (e ∷ []) es))
      ∙ first_under-behind label (front ++ e ∷ []) es (suc n) (omega (arith, length_push front e)))
    where
      all : List Entry
      all = front ++ e ∷ es

      later : List (List ℕ × ℕ)
      later = label_places part (suc n) es

      here : item_at all (Some n) ≡ Some e.item
      here = ap (λ k. item_at all (Some k)) is ∙ ap (option_map (λ (entry : Entry). entry.item)) (slice_get-append front e es)

      step : (x : Option A) → part e.item ≡ x → (b : Bool) → bytes_eq label e.label ≡ b → option_and_then part (item_at all (lookup (bytes_eq label) later)) ≡ first_under part label es
          → option_and_then part (item_at all (lookup (bytes_eq label) (cond (is_some x) ((e.label, n) ∷ later) later))) ≡ option_or (cond b x None) (first_under part label es)
      step None is_x true is same = same
      step None is_x false is same = same
      step (Some x) is_x true is same = rw is (ap (option_and_then part) here ∙ is_x)
      step (Some x) is_x false is same = rw is same

  -- a look-up in a map of the places
  lookup-place : (label : List ℕ) (entries : List Entry) (places : List (Vec ℕ Global × ℕ)) → by_label places ≡ label_places part 0 entries → lookup (λ key. bytes_eq label key.items) places ≡ place_from label 0 entries
  unfolding place_from
  lookup-place label entries places are = lookup-by_label label places ∙ ap (lookup (bytes_eq label)) are

  -- it finds something exactly where something stands under the label
  pub is_some-lookup : (label : List ℕ) (entries : List Entry) (places : List (Vec ℕ Global × ℕ)) → by_label places ≡ label_places part 0 entries → is_some (lookup (λ key. bytes_eq label key.items) places) ≡ is_some (first_under part label entries)
  is_some-lookup label entries places are = ap is_some (lookup-place label entries places are) ∙ is_some-place_from label 0 entries

  -- and nothing where nothing does
  pub lookup-missing : (label : List ℕ) (entries : List Entry) (places : List (Vec ℕ Global × ℕ)) → by_label places ≡ label_places part 0 entries → first_under part label entries ≡ None → lookup (λ key. bytes_eq label key.items) places ≡ None
  lookup-missing label entries places are missing = none-from _ (is_some-lookup label entries places are ∙ ap is_some missing)

  -- the item at the place that is found is what stands under the label
  pub first_under-at : (label : List ℕ) (entries : List Entry) (places : List (Vec ℕ Global × ℕ)) (place : Option ℕ) → by_label places ≡ label_places part 0 entries → place ≡ lookup (λ key. bytes_eq label key.items) places → option_and_then part (item_at entries place) ≡ first_under part label entries
  first_under-at label entries places place are is =
      ap (λ o. option_and_then part (item_at entries o)) (is ∙ lookup-place label entries places are) ∙ first_under-behind label [] entries 0 refl

  -- one more entry has its place behind the others, where it has the part
  label_places-push : (n m : ℕ) (entries : List Entry) (e : Entry) → m ≡ n + length entries → label_places part n (entries ++ e ∷ []) ≡ label_places part n entries ++ cond (is_some (part e.item)) ((e.label, m) ∷ []) []
  label_places-push n m [] e is =
      let same : n ≡ m = omega arith in ap (λ k. cond (is_some (part e.item)) ((e.label, k) ∷ []) []) same
  label_places-push n m (h ∷ hs) e is = step (is_some (part h.item)) (label_places-push (suc n) m hs e (omega arith))
    where
      step : (b : Bool) → label_places part (suc n) (hs ++ e ∷ []) ≡ label_places part (suc n) hs ++ cond (is_some (part e.item)) ((e.label, m) ∷ []) []
          → cond b ((h.label, n) ∷ label_places part (suc n) (hs ++ e ∷ [])) (label_places part (suc n) (hs ++ e ∷ [])) ≡ cond b ((h.label, n) ∷ label_places part (suc n) hs) (label_places part (suc n) hs) ++ cond (is_some (part e.item)) ((e.label, m) ∷ []) []
      step true same = ap (λ (places : List (List ℕ × ℕ)). (h.label, n) ∷ places) same
      step false same = same

  -- the map has the place of an entry with the part, once it is put there
  label_places-with : (entries : List Entry) (e : Entry) (places after : List (Vec ℕ Global × ℕ)) (key : Vec ℕ Global) → by_label places ≡ label_places part 0 entries → after ≡ places ++ (key, length entries) ∷ [] → key.items ≡ e.label → is_some (part e.item) ≡ true → by_label after ≡ label_places part 0 (entries ++ e ∷ [])
  label_places-with entries e places after key are is bytes some =
      let place = length entries in
      ap by_label is ∙ map_push (λ (p : Vec ℕ Global × ℕ). (p.0.items, p.1)) places (key, place)
      ∙ (λ j. are j ++ (bytes j, place) ∷ [])
      ∙ ap (λ b. label_places part 0 entries ++ cond b ((e.label, place) ∷ []) []) (sym some)
      ∙ sym (label_places-push 0 place entries e (omega arith))

  -- a map stays as it is where an entry has no such part
  label_places-without : (entries : List Entry) (e : Entry) (places : List (Vec ℕ Global × ℕ)) → by_label places ≡ label_places part 0 entries → is_some (part e.item) ≡ false → by_label places ≡ label_places part 0 (entries ++ e ∷ [])
  label_places-without entries e places are none =
      are ∙ sym (append-nil (label_places part 0 entries))
      ∙ ap (λ b. label_places part 0 entries ++ cond b ((e.label, length entries) ∷ []) []) (sym none)
      ∙ sym (label_places-push 0 (length entries) entries e (omega arith))

-- what is kept once a value item is added
pub IsKept-value : (entries : List Entry) (values tables after : List (Vec ℕ Global × ℕ)) (key : Vec ℕ Global) (label : List ℕ) (row : Row) → IsKept entries values tables → after ≡ values ++ (key, length entries) ∷ [] → key.items ≡ label → IsShort row → IsKept (entries ++ value_entry label row ∷ []) after tables
IsKept-value entries values tables after key label row kept is bytes short = record {
  values_are = label_places-with row_in entries (value_entry label row) values after key kept.values_are is bytes refl;
  tables_are = label_places-without table_in entries (value_entry label row) tables kept.tables_are refl;
  short = All-push (λ (e : Entry). HasShortRows e.item) entries (value_entry label row) kept.short short;
}

-- what is kept once a table is added
pub IsKept-table : (entries : List Entry) (values tables after : List (Vec ℕ Global × ℕ)) (key : Vec ℕ Global) (label : List ℕ) (table : Table) → IsKept entries values tables → after ≡ tables ++ (key, length entries) ∷ [] → key.items ≡ label → All IsShort table.rows → IsKept (entries ++ table_entry label table ∷ []) values after
IsKept-table entries values tables after key label table kept is bytes short = record {
  values_are = label_places-without row_in entries (table_entry label table) values kept.values_are refl;
  tables_are = label_places-with table_in entries (table_entry label table) tables after key kept.tables_are is bytes refl;
  short = All-push (λ (e : Entry). HasShortRows e.item) entries (table_entry label table) kept.short short;
}
