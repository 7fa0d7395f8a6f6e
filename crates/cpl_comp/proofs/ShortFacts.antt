-- Rows whose words are short, and what stands in them.
use Rattle.std.proofs.Common.{ℕ, ◌≤◌, Bool, true, false, cond, List, [], ◌∷◌, ◌++◌, length, Option, None, length-append, arith}
use Rattle.std.proofs.lemmas.List.Elements.{All-head, All-nil, All-tail}
use Rattle.std.specs.List.{All, join_with_byte}
use Rattle.std.specs.Option.{option_or}
use Rattle.std.specs.Str.{bytes_eq}
use Rattle.cpl_config.specs.Items.{HasShortRows, IsShort, table_in, table_under}
use Rattle.cpl_config.specs.declared.entry.Entry.{Entry}
use Rattle.cpl_config.specs.declared.entry.Item.{Item}
use Rattle.cpl_config.specs.declared.entry.Item.TheVariants.{Rows, Values}
use Rattle.cpl_config.specs.declared.row.Table.{Table}
use Rattle.cpl_comp.specs.Labels.{own_rows, rows_in}
use Rattle.cpl_comp.specs.Scopes.{AreShort}

-- words without the first are no longer than with it
pub join-tail : (word : List ℕ) (words : List (List ℕ)) → length (join_with_byte 32 words) ≤ length (join_with_byte 32 (word ∷ words))
join-tail word [] = omega arith
join-tail word (next ∷ words) =
    let both = length-append word (32 ∷ join_with_byte 32 (next ∷ words)) in
    omega arith

-- words that are no longer than short ones are short
pub short-below : (fewer words : List (List ℕ)) → length (join_with_byte 32 fewer) ≤ length (join_with_byte 32 words) → AreShort words → AreShort fewer
short-below fewer words below short = omega arith

-- the rows of the first table that there is
rows_in-first : (b : Bool) (item : Item) (more : Option Table) → HasShortRows item → All IsShort (rows_in more) → All IsShort (rows_in (option_or (cond b (table_in item) None) more))
rows_in-first true (Rows table) more here others = here
rows_in-first true (Values row) more here others = others
rows_in-first false item more here others = others

-- the rows of a label's table are short where those of all items are
rows_under-short : (label : List ℕ) (entries : List Entry) → All (λ entry. HasShortRows entry.item) entries → All IsShort (rows_in (table_under label entries))
rows_under-short label [] short = All-nil IsShort
rows_under-short label (entry ∷ entries) short =
    rows_in-first (bytes_eq label entry.label) entry.item (table_under label entries)
    (All-head (λ (e : Entry). HasShortRows e.item) entry entries short)
    (rows_under-short label entries (All-tail (λ (e : Entry). HasShortRows e.item) entry entries short))

-- so are those of a component's table
pub own_rows-short : (entries : List Entry) (component part : List ℕ) → All (λ entry. HasShortRows entry.item) entries → All IsShort (own_rows entries component part)
own_rows-short entries component part short = rows_under-short (component ++ part) entries short
