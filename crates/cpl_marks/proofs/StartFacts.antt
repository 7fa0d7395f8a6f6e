-- The marks of a component at the start.
use Rattle.std.proofs.Common.{◌≡◌, List, [], ◌∷◌, length, refl, ap}
use Rattle.std.specs.Prelude.{pos, map, replicate, None}
use Rattle.cpl_comp.specs.Marks.{marks_of}
use Rattle.cpl_comp.specs.Worlds.{first_comp, first_field}
use Rattle.cpl_comp.specs.declared.component.Comp.{Comp}
use Rattle.cpl_comp.specs.declared.component.Field.{Field}
use Rattle.cpl_grid.specs.Owners.{Layout}

-- no field has a stamp
stamps-first : (layout : Layout) (fields : List Field) → map (λ field. field.stamp) (map (λ (field : Field). first_field layout) fields) ≡ replicate (length fields) None
stamps-first layout [] = refl
stamps-first layout (field ∷ fields) = ap (λ stamps. None ∷ stamps) (stamps-first layout fields)

-- all marks
pub marks-first_comp : (comp : Comp) → marks_of (first_comp comp) ≡ record { clock = pos 0; runs = 0; stamps = replicate (length comp.fields) None }
marks-first_comp comp = λ i. record { clock = pos 0; runs = 0; stamps = stamps-first comp.decomp comp.fields i }
