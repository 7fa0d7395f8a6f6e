-- Fields that have a start rule.
use Rattle.std.specs.Prelude.{ℕ, List, Option, option_map}
use Rattle.std.specs.List.{enumerate_from, filter_map}
use Rattle.cpl_comp.specs.declared.component.Field.{Field}
use Rattle.cpl_comp.specs.declared.component.SetRow.{SetRow}

-- the place of a field that has one
abbrev pub place_started : ℕ × Field → Option ℕ
place_started numbered = option_map (λ rule. numbered.0) numbered.1.start

-- the places of all, ascending
abbrev pub places_started : List Field → List ℕ
places_started described = filter_map place_started (enumerate_from 0 described)

-- the start rule of a field, as an assignment
abbrev pub row_started : ℕ × Field → Option SetRow
row_started numbered = option_map (λ rule. record { field = numbered.0; rule = rule }) numbered.1.start

-- those of all, in the order of the fields
abbrev pub rows_started : List Field → List SetRow
rows_started described = filter_map row_started (enumerate_from 0 described)
