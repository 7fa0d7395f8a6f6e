-- The definition of reading, evaluated on short sequences.
use Rattle.std.specs.Prelude.{◌≡◌, ℕ, ◌+◌, pos, List, [], ◌∷◌, ◌^◌, codes, neg_ℤ, Option, Some, None, option_map, Result, Ok, Err}
use Rattle.cpl_base.specs.Words.{words_of}
use Rattle.cpl_config.specs.declared.row.Row.{Row}
use Rattle.cpl_sequence.specs.declared.element.Element.{Element, roll-Element}
use Rattle.cpl_sequence.specs.declared.element.Element.TheOpen.{Link, Run, Loop}
use Rattle.cpl_sequence.specs.declared.element.TopLoop.{TopLoop}
use Rattle.cpl_runseq.specs.declared.fault.SeqFault.{SeqFault}
use Rattle.cpl_runseq.specs.declared.fault.SeqFault.TheVariants.{BadElement, LoopStray, OutsideLoop, LoopTooDeep, BadStep, StepUnset, StepUneven, ComponentUnknown, PhaseUnknown, SubstepUneven, SelfLink, MethodUnsupported, OptionsDiffer, LoopUnclosed, DurationMissing, SpanMismatch, SpanTooLong}
use Rattle.cpl_sequence.specs.declared.link_line.LinkLine.{LinkLine}
use Rattle.cpl_sequence.specs.declared.link_line.Method.TheVariants.{Redist, Weights}
use Rattle.cpl_sequence.specs.declared.seq_name.SeqName.{SeqName}
use Rattle.cpl_runseq.specs.EmptyLoops.{filled_top}
use Rattle.cpl_runseq.specs.Whole.{sequence_of}
use Rattle.cpl_sequence.specs.Sequence.{Sequence}

-- rows of these texts, on lines from that one on
abbrev rows_from : ℕ → List (List ℕ) → List Row
rows_from line [] = []
rows_from line (text ∷ texts) = record { line = line; words = words_of text } ∷ rows_from (line + 1) texts

-- two components: A has a substep of 2, B has two phases
abbrev two_names : List SeqName
two_names = record { name = codes "A"; phases = codes "run" ∷ []; substep = Some (pos 2) }
    ∷ record { name = codes "B"; phases = codes "run" ∷ codes "mean" ∷ []; substep = None } ∷ []

-- the sequence that rows of these texts are
abbrev read : Option ℕ → Option ℕ → List (List ℕ) → Result Sequence SeqFault
read span time_step texts = sequence_of two_names (option_map pos span) (option_map pos time_step) (pos (2 ^ 40)) (rows_from 1 texts)

-- a top loop
abbrev top : ℕ → ℕ → ℕ → List Element → TopLoop
top begin step duration body = record { begin = begin; step = step; duration = duration; body = body }

-- a loop in another
abbrev loop : ℕ → ℕ → List Element → Element
loop step duration body = roll-Element (Loop step duration body)

-- the first phase of B runs
abbrev b_runs : Element
b_runs = roll-Element (Run 1 0 None)

-- a connector without options
abbrev link_of : ℕ → ℕ → ℕ → LinkLine
link_of src dst line = record { src = src; dst = dst; method = Redist; file = []; terms = pos 0; line = line }

-- sequences that are read, and sequences with their faults
pub record ReadingExamples : Type 0 where
  pub nested_loop : read (Some 8) (Some 3600) (codes "@4" ∷ codes "@*" ∷ codes "B" ∷ codes "@" ∷ codes "@" ∷ [])
      ≡ Ok (record { links = []; loops = top 0 4 8 (loop 4 4 (b_runs ∷ []) ∷ []) ∷ []; span = pos 8 })
  pub own_step : read None (Some 3600) (codes "@*:7200" ∷ codes "B mean" ∷ codes "@" ∷ [])
      ≡ Ok (record { links = []; loops = top 0 3600 7200 (roll-Element (Run 1 1 None) ∷ []) ∷ []; span = pos 7200 })
  pub arrows : read None None (codes "@2:4" ∷ codes "A->B" ∷ codes "B->A :x" ∷ codes "A" ∷ codes "A -> B :SRCTERMPROCESSING=-0" ∷ codes "@" ∷ [])
      ≡ Ok (record {
        links = link_of 0 1 2 ∷ link_of 1 0 3 ∷ [];
        loops = top 0 2 4 (roll-Element (Link 0) ∷ roll-Element (Link 1) ∷ roll-Element (Run 0 0 (Some 2)) ∷ roll-Element (Link 0) ∷ []) ∷ [];
        span = pos 4;
      })
  pub last_option : read None None (codes "@2:4" ∷ codes "A -> B :remapMethod=none:remapMethod=redist" ∷ codes "@" ∷ [])
      ≡ Ok (record { links = link_of 0 1 2 ∷ []; loops = top 0 2 4 (roll-Element (Link 0) ∷ []) ∷ []; span = pos 4 })
  pub empty_loops : read (Some 10) None (codes "@2:4" ∷ codes "@1" ∷ codes "@" ∷ codes "@" ∷ codes "@3" ∷ codes "B" ∷ codes "@" ∷ [])
      ≡ Ok (record { links = []; loops = top 0 2 4 (loop 1 2 [] ∷ []) ∷ top 4 3 6 (b_runs ∷ []) ∷ []; span = pos 10 })
  pub uneven_step : read (Some 3600) None (codes "@7" ∷ codes "B" ∷ codes "@" ∷ []) ≡ Err (StepUneven 1)
  pub span_mismatch : read (Some 3600) None (codes "@900:1800" ∷ codes "B" ∷ codes "@" ∷ codes "@900:900" ∷ codes "B" ∷ codes "@" ∷ []) ≡ Err (SpanMismatch 2700 (pos 3600))
  pub step_unset : read None None (codes "@*:3" ∷ codes "B" ∷ codes "@" ∷ []) ≡ Err (StepUnset 1)
  pub bad_step_nested : read (Some 4) None (codes "@2" ∷ codes "@1:4" ∷ codes "B" ∷ codes "@" ∷ codes "@" ∷ []) ≡ Err (BadStep 2)
  pub substep_uneven : read None None (codes "@3:6" ∷ codes "A" ∷ codes "@" ∷ []) ≡ Err (SubstepUneven 2)
  pub stray : read None None (codes "@2:4" ∷ codes "B" ∷ codes "@" ∷ codes "@" ∷ []) ≡ Err (LoopStray 4)
  pub run_outside : read None None (codes "nobody" ∷ []) ≡ Err (OutsideLoop 1)
  pub link_outside : read None None (codes "B->B" ∷ []) ≡ Err (OutsideLoop 1)
  pub too_deep : read None None (codes "@2:4" ∷ codes "@*" ∷ codes "@*" ∷ codes "@*" ∷ codes "@*" ∷ codes "@*" ∷ codes "@*" ∷ codes "@*" ∷ codes "@*" ∷ []) ≡ Err (LoopTooDeep 9)
  pub bad_step_zero : read None None (codes "@0:4" ∷ []) ≡ Err (BadStep 1)
  pub bad_step_form : read None None (codes "@2:4:4" ∷ []) ≡ Err (BadStep 1)
  pub bad_step_before_depth : read None None (codes "@2:4" ∷ codes "@*" ∷ codes "@*" ∷ codes "@*" ∷ codes "@*" ∷ codes "@*" ∷ codes "@*" ∷ codes "@*" ∷ codes "@x" ∷ []) ≡ Err (BadStep 9)
  pub two_ats : read None None (codes "@@2" ∷ []) ≡ Err (BadElement 1)
  pub loop_of_two_words : read None None (codes "@2 :4" ∷ []) ≡ Err (BadElement 1)
  pub three_words : read None None (codes "@2:4" ∷ codes "A run run" ∷ []) ≡ Err (BadElement 2)
  pub arrow_alone : read None None (codes "->" ∷ []) ≡ Err (BadElement 1)
  pub component_unknown : read None None (codes "@2:4" ∷ codes "C" ∷ []) ≡ Err (ComponentUnknown 2)
  pub linked_unknown : read None None (codes "@2:4" ∷ codes "A -> C x" ∷ []) ≡ Err (ComponentUnknown 2)
  pub phase_unknown : read None None (codes "@2:4" ∷ codes "A mean" ∷ []) ≡ Err (PhaseUnknown 2)
  pub self_link : read None None (codes "@2:4" ∷ codes "A -> A x" ∷ []) ≡ Err (SelfLink 2)
  pub method_unsupported : read None None (codes "@2:4" ∷ codes "A -> B :srcTermProcessing=x:remapMethod=none" ∷ []) ≡ Err (MethodUnsupported 2)
  pub option_without_colon : read None None (codes "@2:4" ∷ codes "A -> B :remapMethod=none x" ∷ []) ≡ Err (BadElement 2)
  pub option_bad_terms : read None None (codes "@2:4" ∷ codes "A -> B :srcTermProcessing=+1" ∷ []) ≡ Err (BadElement 2)
  pub weights_without_file : read None None (codes "@2:4" ∷ codes "A -> B :REMAPMETHOD=Weights:weightFile=" ∷ []) ≡ Err (BadElement 2)
  pub weights : read None None (codes "@2:4" ∷ codes "A -> B :remapmethod=weights :weightfile=w:srctermprocessing=-2" ∷ codes "@" ∷ [])
      ≡ Ok (record {
        links = record { src = 0; dst = 1; method = Weights; file = codes "w"; terms = neg_ℤ (pos 2); line = 2 } ∷ [];
        loops = top 0 2 4 (roll-Element (Link 0) ∷ []) ∷ [];
        span = pos 4;
      })
  pub options_differ : read None None (codes "@2:4" ∷ codes "A -> B" ∷ codes "A -> B :srcTermProcessing=1" ∷ []) ≡ Err (OptionsDiffer 3)
  pub unclosed : read None None (codes "@2:4" ∷ codes "@1" ∷ []) ≡ Err (LoopUnclosed 2)
  pub duration_missing : read None None (codes "@2" ∷ codes "B" ∷ codes "@" ∷ []) ≡ Err (DurationMissing 1)
  pub duration_missing_first : read (Some 8) None (codes "@2" ∷ codes "B" ∷ codes "@" ∷ codes "@2" ∷ codes "B" ∷ codes "@" ∷ []) ≡ Err (DurationMissing 1)
  pub nothing_left : read (Some 4) None (codes "@2:4" ∷ codes "B" ∷ codes "@" ∷ codes "@2" ∷ codes "B" ∷ codes "@" ∷ []) ≡ Err (SpanMismatch 4 (pos 4))
  pub no_loops : read (Some 4) None ([]) ≡ Err (SpanMismatch 0 (pos 4))
  pub no_loops_no_stop : read None None ([]) ≡ Err (SpanTooLong 0)
  pub too_long : read None None (codes "@1:1000000000000" ∷ codes "@" ∷ codes "@1:1000000000000" ∷ codes "@" ∷ []) ≡ Err (SpanTooLong 2000000000000)
  pub empty_loop_goes : filled_top (top 0 2 4 (loop 1 2 [] ∷ b_runs ∷ [])) ≡ top 0 2 4 (b_runs ∷ [])
  pub empty_loops_go : filled_top (top 0 4 4 (loop 2 2 (loop 1 1 [] ∷ []) ∷ [])) ≡ top 0 4 4 []
