-- The definitions of a run sequence, evaluated on examples.
use Rattle.std.specs.Prelude.{◌≡◌, ℕ, pos, true, false, List, [], ◌∷◌, ◌++◌, Some, None}
use Rattle.std.specs.List.{list_all}
use Rattle.cpl_sequence.specs.Remainder.{remainder, start_frame}
use Rattle.cpl_sequence.specs.Sequence.{Sequence}
use Rattle.cpl_sequence.specs.Sound.{are_end_to_end, is_linked, is_nested, is_timed, is_timed_top}
use Rattle.cpl_sequence.specs.Operations.{operations_of}
use Rattle.cpl_sequence.specs.declared.element.Element.{Element, roll-Element}
use Rattle.cpl_sequence.specs.declared.element.Element.TheOpen.{Link, Run, Loop}
use Rattle.cpl_sequence.specs.declared.op.Op.{Op}
use Rattle.cpl_sequence.specs.declared.op.Op.TheVariants.{Link as LinkOp, Run as RunOp}

-- a connector that runs
abbrev pub link : ℕ → Element
link k = roll-Element (Link k)

-- the first phase of a component that runs
abbrev pub run : ℕ → Element
run component = roll-Element (Run component 0 None)

-- the same in parts
abbrev pub run_in_parts : ℕ → ℕ → Element
run_in_parts component substep = roll-Element (Run component 0 (Some substep))

-- a loop
abbrev pub loop : ℕ → ℕ → List Element → Element
loop step duration body = roll-Element (Loop step duration body)

-- Two hours of hourly steps: a connector, then half hours with a component and a connector, then a component that
-- runs by twenty minutes.
abbrev pub two_hours : Sequence
two_hours = record {
  links = [];
  loops = record { begin = 0; step = 3600; duration = 7200; body = link 0 ∷ loop 1800 3600 (run 1 ∷ link 1 ∷ []) ∷ run_in_parts 0 1200 ∷ [] } ∷ [];
  span = pos 7200;
}

-- an operation of the first phase of a component, alone in its iteration
abbrev pub whole_step_op : (component time step : ℕ) → Op
whole_step_op component time step = RunOp component 0 (pos time) (pos step) (pos time) (pos step) true true

-- the operations of the hour that begins at a time
abbrev pub hour_from : (first second third fourth : ℕ) → List Op
hour_from time half twenty forty =
    LinkOp 0 false
    ∷ whole_step_op 1 time 1800
    ∷ LinkOp 1 false
    ∷ whole_step_op 1 half 1800
    ∷ LinkOp 1 false
    ∷ RunOp 0 0 (pos time) (pos 3600) (pos time) (pos 1200) true false
    ∷ RunOp 0 0 (pos time) (pos 3600) (pos twenty) (pos 1200) false false
    ∷ RunOp 0 0 (pos time) (pos 3600) (pos forty) (pos 1200) false true
    ∷ []

-- sequences with their operations, and which of them are sound
pub record SequenceExamples : Type 0 where
  pub hours : operations_of two_hours ≡ hour_from 0 1800 1200 2400 ++ hour_from 3600 5400 4800 6000
  pub one_loop : operations_of (record {
    links = [];
    loops = record { begin = 0; step = 60; duration = 120; body = run 3 ∷ [] }
        ∷ record { begin = 120; step = 30; duration = 30; body = link 2 ∷ [] } ∷ [];
    span = pos 150;
  })
      ≡ whole_step_op 3 0 60 ∷ whole_step_op 3 60 60 ∷ LinkOp 2 false ∷ []
  pub nothing : operations_of (record { links = []; loops = []; span = pos 0 }) ≡ []
  pub at_start : remainder two_hours (record { top = 0; frames = start_frame ∷ start_frame ∷ start_frame ∷ [] }) ≡ operations_of two_hours
  pub in_second_hour : remainder two_hours (record { top = 0; frames = record { place = 2; round = 1 } ∷ record { place = 0; round = 1 } ∷ [] })
      ≡ RunOp 0 0 (pos 3600) (pos 3600) (pos 4800) (pos 1200) false false
      ∷ RunOp 0 0 (pos 3600) (pos 3600) (pos 6000) (pos 1200) false true ∷ []
  pub past_end : remainder two_hours (record { top = 1; frames = start_frame ∷ [] }) ≡ []
  pub sound : list_all is_timed_top two_hours.loops ≡ true
  pub uneven_loop : is_timed (loop 1800 3000 (run 1 ∷ [])) 3600 ≡ false
  pub longer_loop : is_timed (loop 1800 7200 (run 1 ∷ [])) 3600 ≡ false
  pub empty_loop : is_timed (loop 1800 3600 []) 3600 ≡ false
  pub uneven_substep : is_timed (run_in_parts 0 1000) 3600 ≡ false
  pub nested_once : is_nested (loop 1 1 (link 0 ∷ [])) 1 ≡ true
  pub nested_too_deep : is_nested (loop 1 1 (loop 1 1 (link 0 ∷ []) ∷ [])) 1 ≡ false
  pub unlinked : is_linked 1 (loop 1 1 (link 0 ∷ link 1 ∷ [])) ≡ false
  pub joined : are_end_to_end 0 two_hours.loops 7200 ≡ true
  pub not_to_the_end : are_end_to_end 0 two_hours.loops 7201 ≡ false
  pub empty_top_loop : is_timed_top (record { begin = 0; step = 1; duration = 5; body = [] }) ≡ true
  pub skipped : operations_of (record {
    links = [];
    loops = record { begin = 0; step = 1; duration = 3; body = [] }
        ∷ record { begin = 3; step = 30; duration = 30; body = link 2 ∷ [] } ∷ [];
    span = pos 33;
  })
      ≡ LinkOp 2 false ∷ []
