-- The code's own: how items are kept, a list of entries and two maps from labels to places in it.
use Rattle.std.specs.Prelude.{◌≡◌, ℕ, suc, if◌then◌else◌, List, [], ◌∷◌, map, Option, Some, None, is_some, option_map, slice_get}
use Rattle.std.specs.List.{All}
use Rattle.std.specs.declared.alloc.Global.{Global}
use Rattle.std.specs.declared.vec.Vec.{Vec}
use Rattle.cpl_config.specs.declared.entry.Entry.{Entry}
use Rattle.cpl_config.specs.declared.entry.Item.{Item}
use Rattle.cpl_config.specs.Items.{HasShortRows, row_in, table_in}

-- the item at a place, if both are there
abbrev pub item_at : List Entry → Option ℕ → Option Item
item_at entries None = None
item_at entries (Some place) = option_map (λ entry. entry.item) (slice_get entries place)

-- the entries of a map by the bytes of their labels
abbrev pub by_label : List (Vec ℕ Global × ℕ) → List (List ℕ × ℕ)
by_label places = map (λ place. (place.0.items, place.1)) places

-- the labels of the items that have such a part, with their places from n on
abbrev pub label_places : {A : Type 0} → (Item → Option A) → ℕ → List Entry → List (List ℕ × ℕ)
label_places part n [] = []
label_places part n (entry ∷ entries) =
    if is_some (part entry.item) then (entry.label, n) ∷ label_places part (suc n) entries else label_places part (suc n) entries

-- The maps have the places of the value items and of the tables, and all rows are short.
pub record IsKept (entries : List Entry) (values tables : List (Vec ℕ Global × ℕ)) : Type 0 where
  pub values_are : by_label values ≡ label_places row_in 0 entries
  pub tables_are : by_label tables ≡ label_places table_in 0 entries
  pub short : All (λ entry. HasShortRows entry.item) entries
