-- What rules read beside the cell.
use Rattle.std.specs.Prelude.{ℕ, ℤ, pos, negsuc, Bool, false, not, ◌&&◌, ◌==◌, List, [], ◌∷◌, filter, map}
use Rattle.std.specs.List.{flat_map, list_any, range_with_len}
use Rattle.std.specs.Ordering.{int_eq}
use Rattle.cpl_formula.specs.declared.arguments.Argument.{Argument}
use Rattle.cpl_formula.specs.declared.arguments.Argument.TheVariants.{Number, Cell}
use Rattle.cpl_formula.specs.declared.formula.Read.{Read}
use Rattle.cpl_formula.specs.declared.formula.ReadName.{ReadName}
use Rattle.cpl_formula.specs.declared.formula.ReadName.TheVariants as names
use Rattle.cpl_comp.specs.declared.component.Halo.{Halo}
use Rattle.cpl_comp.specs.declared.halos.ReadKind.{ReadKind}
use Rattle.cpl_comp.specs.declared.halos.ReadKind.TheVariants.{At, Beside}
use Rattle.cpl_comp.specs.declared.component.Rule.{Rule}
use Rattle.cpl_comp.specs.declared.component.Rule.TheVariants.{Plain, Native}

-- offsets in one direction
abbrev pub steps : List ℤ
steps = negsuc 1 ∷ negsuc 0 ∷ pos 0 ∷ pos 1 ∷ pos 2 ∷ []

-- whether offsets lead to the cell itself
abbrev pub is_here : ℤ × ℤ → Bool
is_here offset = int_eq offset.0 (pos 0) && int_eq offset.1 (pos 0)

-- columns and rows to the neighbours, row by row
abbrev pub near_offsets : List (ℤ × ℤ)
near_offsets = filter (λ offset. not (is_here offset)) (flat_map (λ dy. map (λ dx. (dx, dy)) steps) steps)

-- whether an argument is a read of that kind
abbrev pub is_cell_of : (Read → Bool) → Argument → Bool
is_cell_of test (Number number) = false
is_cell_of test (Cell read) = test read

-- whether a rule has a read of that kind
abbrev pub has_read : (Read → Bool) → Rule → Bool
has_read test (Plain parsed) = list_any test parsed.reads
has_read test (Native entry arguments) = list_any (is_cell_of test) arguments

-- whether a neighbour is read
abbrev pub is_read_at : ℤ × ℤ → Read → Bool
is_read_at offset read = int_eq read.dx offset.0 && int_eq read.dy offset.1

-- whether a name is that of a field
abbrev pub is_field_at : ℕ → ReadName → Bool
is_field_at field (names.Field k) = k == field
is_field_at field name = false

-- whether a field is read at a neighbour
abbrev pub is_read_beside : ℕ → Read → Bool
is_read_beside field read = is_field_at field read.name && not (is_here (read.dx, read.dy))

-- which reads are looked for: those of a neighbour, or those of a field beside the cell
abbrev pub is_wanted : ReadKind → Read → Bool
is_wanted (At offset) = is_read_at offset
is_wanted (Beside field) = is_read_beside field

-- what rules over so many fields read beside the cell
unfoldable pub halo_of : ℕ → List Rule → Halo
halo_of count rules = record {
  offsets = filter (λ offset. list_any (has_read (is_read_at offset)) rules) near_offsets;
  fields = filter (λ field. list_any (has_read (is_read_beside field)) rules) (range_with_len 0 count);
}
