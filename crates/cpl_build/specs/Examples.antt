-- The definitions of the build, evaluated on examples.
use Rattle.std.specs.Prelude.{◌≡◌, ℕ, pos, ◌++◌, List, [], ◌∷◌, codes}
use Rattle.cpl_build.specs.Refusals.{comp_refusal, head_refusal, item_refusal, not_ascii, refusal, sequence_refusal, system_refusal, table_refusal, too_long, too_many_values, trace_too_long, weight_refusal}
use Rattle.cpl_build.specs.WeightFiles.{fault_within, record_past}
use Rattle.cpl_build.specs.declared.fault.Rejection.{Rejection}
use Rattle.cpl_build.specs.declared.fault.Rejection.TheVariants.{Refused, Memory}
use Rattle.cpl_comp.specs.declared.fault.CompFault.TheVariants as comp
use Rattle.cpl_config.specs.declared.fault.ItemFault.TheVariants as item
use Rattle.cpl_head.specs.declared.fault.HeadFault.TheVariants as head
use Rattle.cpl_head.specs.declared.fault.TableFault.TheVariants as table
use Rattle.cpl_report.specs.Refusals.{refusal_line}
use Rattle.cpl_runseq.specs.declared.fault.SeqFault.TheVariants as sequence
use Rattle.cpl_script.specs.declared.fault.SystemFault.TheVariants as system
use Rattle.cpl_smm.specs.declared.fault.WeightFault.TheVariants as weight

-- the line that is written of a refusal
abbrev pub line_of : Rejection → List ℕ
line_of (Refused refusal) = refusal_line refusal.number refusal.words
line_of Memory = []

-- a line that ends in LF
abbrev pub ended : List ℕ → List ℕ
ended line = line ++ 10 ∷ []

-- the lines that are written of faults
pub record RefusalExamples : Type 0 where
  pub long : line_of (too_long (codes "a.rc")) ≡ ended (codes "refused 1 TooLong a.rc")
  pub ascii : line_of (not_ascii 4) ≡ ended (codes "refused 2 NotAscii 4")
  pub stray : line_of (item_refusal (item.StrayClose 3)) ≡ ended (codes "refused 4 StrayClose 3")
  pub unclosed : line_of (item_refusal (item.Unclosed 9)) ≡ ended (codes "refused 6 Unclosed 9")
  pub label : line_of (head_refusal (head.MissingLabel (codes "runSeq"))) ≡ ended (codes "refused 7 MissingLabel runSeq")
  pub many : line_of (head_refusal (head.TooManyComponents 33)) ≡ ended (codes "refused 9 TooManyComponents 33")
  pub stop : line_of (head_refusal (head.StopNotAfter 5)) ≡ ended (codes "refused 13 StopNotAfter 5")
  pub synonym : line_of (table_refusal (table.UnitsDiffer 6)) ≡ ended (codes "refused 16 UnitsDiffer 6")
  pub fields : line_of (comp_refusal (codes "A") (comp.TooManyFields 65)) ≡ ended (codes "refused 20 TooManyFields A 65")
  pub blocks : line_of (comp_refusal (codes "A") (comp.BlocksMismatch 6 4)) ≡ ended (codes "refused 25 BlocksMismatch A 6 4")
  pub table : line_of (comp_refusal (codes "A") (comp.MissingLabel (codes "A_phase_run"))) ≡ ended (codes "refused 7 MissingLabel A_phase_run")
  pub rule : line_of (comp_refusal (codes "A") (comp.BadNumber 4 0)) ≡ ended (codes "refused 27 BadNumber 4 0")
  pub inputs : line_of (comp_refusal (codes "A") (comp.InputsDiffer 7)) ≡ ended (codes "refused 31 InputsDiffer 7")
  pub values : line_of (too_many_values 16777217) ≡ ended (codes "refused 32 TooManyValues 16777217")
  pub spans : line_of (sequence_refusal (sequence.SpanMismatch 2700 (pos 3600))) ≡ ended (codes "refused 48 SpanMismatch 2700 3600")
  pub weights : line_of (weight_refusal (codes "w.csv") (weight.PairTwice 3)) ≡ ended (codes "refused 57 PairTwice w.csv 3")
  pub ops : line_of (system_refusal (system.TooManyOps 16777217)) ≡ ended (codes "refused 59 TooManyOps 16777217")
  pub trace : line_of (trace_too_long 262145) ≡ ended (codes "refused 61 TraceTooLong 262145")
  -- behind 2^24 - 10 records the tenth is the last that there is room for
  pub within : fault_within 16777206 (weight.BadRecord 10) ≡ weight.BadRecord 10
  pub past : fault_within 16777206 (weight.BadRecord 11) ≡ record_past 16777206
  pub passing : record_past 16777206 ≡ weight.TooManyWeights 11
