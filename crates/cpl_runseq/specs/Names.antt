-- Components and their phases, by name.
use Rattle.std.specs.Prelude.{ℕ, List, position, unsigned_abs, Option, Some, None, option_map}
use Rattle.std.specs.List.{slice_get}
use Rattle.std.specs.Str.{bytes_eq}
use Rattle.cpl_base.specs.Chain.{◌>>=◌}
use Rattle.cpl_base.specs.Words.{place_of}
use Rattle.cpl_sequence.specs.declared.seq_name.SeqName.{SeqName}

-- the component of a name, with its place
abbrev pub component_of : List SeqName → List ℕ → Option (ℕ × SeqName)
component_of names word = position (λ name. bytes_eq name.name word) names >>= (λ place. option_map (λ name. (place, name)) (slice_get names place))

-- the place of a phase among a component's; the first, where none is named
abbrev pub phase_of : SeqName → Option (List ℕ) → Option ℕ
phase_of name None = Some 0
phase_of name (Some word) = place_of name.phases word

-- a component's substep
abbrev pub substep_of : SeqName → Option ℕ
substep_of name = option_map unsigned_abs name.substep
