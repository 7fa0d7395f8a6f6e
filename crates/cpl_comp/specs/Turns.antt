-- What an initialisation or a run makes of its component: fields, clock, time stamps and the number of runs.
use Rattle.std.specs.Prelude.{ℕ, ◌+◌, ℤ, pos, ◌+ℤ◌, Bool, false, ◌==◌, if◌then◌else◌, List, filter, fold, length, slice_get, Some}
use Rattle.std.specs.List.{list_any, range_with_len}
use Rattle.std.specs.Option.{option_map_or}
use Rattle.cpl_comp.specs.Components.{is_role, written_fields}
use Rattle.cpl_comp.specs.Readings.{EntryAnswers, Reading}
use Rattle.cpl_comp.specs.Timing.{Timing}
use Rattle.cpl_comp.specs.Worlds.{CompWorld, FieldWorld, changed, field_value}
use Rattle.cpl_comp.specs.Writes.{fields_after, fields_started}
use Rattle.cpl_comp.specs.declared.component.Comp.{Comp}
use Rattle.cpl_comp.specs.declared.component.Field.{Field}
use Rattle.cpl_comp.specs.declared.component.Kind.{Kind}
use Rattle.cpl_comp.specs.declared.component.Kind.TheVariants.{Model, Mediator}
use Rattle.cpl_comp.specs.declared.component.Phase.{Phase}
use Rattle.cpl_comp.specs.declared.component.Role.{Role}
use Rattle.cpl_comp.specs.declared.component.Role.TheVariants.{Export}

-- One operation of a run: the time and the step of the iteration in which it stands, the time from which it leads on
-- and for how long, and whether it is the first and the last of this step. All in seconds, after the start.
pub record Turn : Type 0 where
  pub time : ℤ
  pub step : ℤ
  pub at : ℤ
  pub substep : ℤ
  pub first : Bool
  pub last : Bool

-- ---- stamps

-- whether the field of a place is there and has this role
abbrev pub has_role : Role → List Field → ℕ → Bool
has_role role fields k = option_map_or (λ field. is_role role field.role) (slice_get fields k) false

-- the places of the fields of a role, ascending
abbrev pub places_of : Role → List Field → List ℕ
places_of role fields = filter (has_role role fields) (range_with_len 0 (length fields))

-- whether a number is among others
abbrev pub is_among : List ℕ → ℕ → Bool
is_among numbers n = list_any (λ k. k == n) numbers

-- the exports that a phase gives a new value
abbrev pub written_exports : Comp → Phase → List ℕ
written_exports comp phase = filter (is_among (written_fields phase)) (places_of Export comp.fields)

-- the exports that the end of a step stamps: all of a model, and of a mediator those to which the phase gives a value
abbrev pub stamped_exports : Kind → Comp → Phase → List ℕ
stamped_exports Model comp phase = places_of Export comp.fields
stamped_exports Mediator comp phase = written_exports comp phase

-- the fields with that of a place stamped
abbrev pub stamped : ℤ → List FieldWorld → ℕ → List FieldWorld
stamped time fields k = changed (λ field. record field { stamp = Some time }) k fields

-- the fields with those of several places stamped
abbrev pub all_stamped : ℤ → List FieldWorld → List ℕ → List FieldWorld
all_stamped time fields places = fold (stamped time) fields places

-- ---- a run

-- what the rules of a component read at a moment: its fields as they are
abbrev pub reading_of : Timing → EntryAnswers → Comp → List FieldWorld → (at dt : ℤ) → Reading
reading_of timing entries comp fields at dt =
    record { timing = timing; entries = entries; layout = comp.decomp; at = at; dt = dt; value = field_value fields }

-- where a step leads: a model's clock to the end of the step, a mediator's to the time of the phase
abbrev pub step_end : Kind → Turn → ℤ
step_end Model turn = turn.time +ℤ turn.step
step_end Mediator turn = turn.time

-- a component at the end of a step: its clock moves, exports are stamped, and a run more has ended
abbrev pub step_ended : Comp → Phase → Turn → CompWorld → CompWorld
step_ended comp phase turn world = record {
  clock = step_end comp.kind turn;
  runs = world.runs + 1;
  fields = all_stamped (step_end comp.kind turn) world.fields (stamped_exports comp.kind comp phase);
}

-- the fields of a component after an operation of a phase
abbrev pub fields_after_run : Timing → EntryAnswers → Comp → Phase → Turn → List FieldWorld → List FieldWorld
fields_after_run timing entries comp phase turn fields =
    fields_after (reading_of timing entries comp fields turn.at turn.substep) fields phase

-- a component after an operation of a phase
abbrev pub comp_after_run : Timing → EntryAnswers → Comp → Phase → Turn → CompWorld → CompWorld
comp_after_run timing entries comp phase turn world =
    let after = record world { fields = fields_after_run timing entries comp phase turn world.fields } in
    if turn.last then step_ended comp phase turn after else after

-- ---- an initialisation

-- A component after its initialisation: each variable and export has the value of its start rule, and each export the
-- stamp 0. A start rule reads the moment of the start, and leads on by 0 seconds.
abbrev pub comp_after_init : Timing → EntryAnswers → Comp → CompWorld → CompWorld
comp_after_init timing entries comp world =
    let reading = reading_of timing entries comp world.fields (pos 0) (pos 0) in
    record world { fields = all_stamped (pos 0) (fields_started reading world.fields comp.fields) (places_of Export comp.fields) }
