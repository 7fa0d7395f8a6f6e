-- The code's own: the names of fields that were read, kept beside them.
use Rattle.std.specs.Prelude.{◌≡◌, ℕ, List, map}
use Rattle.std.specs.declared.alloc.Global.{Global}
use Rattle.std.specs.declared.vec.Vec.{Vec}
use Rattle.cpl_comp.specs.declared.field_rows.FieldRow.{FieldRow}

-- the names are those of the fields, in their order
abbrev pub HasNames : List (Vec ℕ Global) → List FieldRow → Type 0
HasNames names rows = map (λ name. name.items) names ≡ map (λ row. row.name) rows
