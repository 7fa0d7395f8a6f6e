-- What a text says of a system, but for the weights, which stand in further files: step by step, in the order in which
-- refusals are judged.
use Rattle.std.specs.Prelude.{ℕ, ◌+◌, ◌*◌, ◌^◌, ◌≤◌, max, nat_le, List, [], ◌∷◌, ◌++◌, codes, fold, length, map, sum_by, IfSome, Result, Ok, Err}
use Rattle.std.specs.Option.{option_map_or}
use Rattle.cpl_base.specs.ResultChain.{◌>>=◌, ok_if}
use Rattle.cpl_build.specs.Refusals.{comp_refusal, head_refusal, item_refusal, match_refusal, not_ascii, refused_by, sequence_refusal, table_refusal, too_many_values, waiting_refusal}
use Rattle.cpl_build.specs.declared.fault.Rejection.{Rejection}
use Rattle.cpl_build.specs.declared.components.Candidate.{Candidate}
use Rattle.cpl_build.specs.declared.components.Components.{Components}
use Rattle.cpl_build.specs.declared.outline.Outline.{Outline}
use Rattle.cpl_build.specs.declared.settings.Settings.{Settings}
use Rattle.cpl_comp.specs.Advertised.{advertised_component}
use Rattle.cpl_comp.specs.Realised.{realised_component}
use Rattle.cpl_comp.specs.Timing.{Timing}
use Rattle.cpl_comp.specs.declared.component.Comp.{Comp}
use Rattle.cpl_config.specs.Items.{items_of, word_line}
use Rattle.cpl_config.specs.declared.entry.Entry.{Entry}
use Rattle.cpl_dict.specs.Dict.{Dictionary}
use Rattle.cpl_formula.specs.declared.formula.EntrySign.{EntrySign}
use Rattle.cpl_grid.specs.Grid.{cells_in}
use Rattle.cpl_head.specs.Alarms.{AreAlarms, alarms_of}
use Rattle.cpl_head.specs.Dictionaries.{dictionary_of}
use Rattle.cpl_head.specs.Head.{IsHead, head_of}
use Rattle.cpl_head.specs.Tables.{rows_under}
use Rattle.cpl_head.specs.Times.{room_after}
use Rattle.cpl_head.specs.declared.head.Head.{Head}
use Rattle.cpl_init.specs.Orders.{initial_order}
use Rattle.cpl_init.specs.Waiting.{IsInitialOrder}
use Rattle.cpl_match.specs.Matching.{matched_pairs}
use Rattle.cpl_match.specs.Pairs.{ArePairs}
use Rattle.cpl_match.specs.declared.port.Pair.{Pair}
use Rattle.cpl_runseq.specs.Asked.{IsStep}
use Rattle.cpl_runseq.specs.EmptyLoops.{filled_sequence}
use Rattle.cpl_script.specs.Matched.{cell_counts, names_of, ports_of, way_of}
use Rattle.cpl_script.specs.Operations.{needs_in}
use Rattle.cpl_script.specs.Sound.{AreComponents, IsTiming}
use Rattle.cpl_sequence.specs.Bounds.{IsOver}
use Rattle.cpl_sequence.specs.Sequence.{Sequence}
use Rattle.cpl_text.specs.Lines.{faulty_line, lines_of}

-- ---- lines and items

-- each byte outside of comments is allowed
abbrev pub ascii_check : List ℕ → Result (Unit {0}) Rejection
ascii_check bytes = option_map_or (λ line. Err (not_ascii line)) (faulty_line bytes) (Ok tt)

-- the items of a text
abbrev pub items_in : List ℕ → Result (List Entry) Rejection
items_in bytes = ascii_check bytes >>= (λ _. refused_by item_refusal (items_of (map word_line (lines_of bytes))))

-- ---- what is said of the run as a whole

-- what items say of the run as a whole: its head, then the field dictionary, then the alarms
unfoldable pub settings_in : List Entry → Result Settings Rejection
settings_in entries =
    refused_by head_refusal (head_of entries) >>= (λ head.
    refused_by table_refusal (dictionary_of entries) >>= (λ dict.
    refused_by table_refusal (alarms_of entries) >>= (λ alarms.
    Ok (record { head = head; dict = dict; alarms = alarms }))))

-- What holds of settings.
pub record AreSettings (settings : Settings) : Type 0 where
  pub head : IsHead settings.head
  pub alarms : AreAlarms settings.alarms

-- ---- components

-- these candidates and those of further names: what each component advertises
abbrev pub advertised_with : List Entry → Dictionary → List Candidate → List (List ℕ) → Result (List Candidate) Rejection
advertised_with entries dict before [] = Ok before
advertised_with entries dict before (name ∷ names) =
    refused_by (comp_refusal name) (advertised_component entries name dict) >>= (λ ad.
    advertised_with entries dict (before ++ record { name = name; advertised = ad } ∷ []) names)

-- how many PETs a component asks for: one more than its greatest, or one
abbrev pub pets_asked : Candidate → ℕ
pets_asked candidate = option_map_or (λ bounds. bounds.1 + 1) candidate.advertised.bounds 1

-- how many PETs there are: as many as the component that asks for most, at least one
abbrev pub pet_count : List Candidate → ℕ
pet_count candidates = fold (λ most candidate. max most (pets_asked candidate)) 1 candidates

-- these components and those of further candidates, over so many PETs
abbrev pub realised_with : List Entry → ℕ → List (List ℕ) → List EntrySign → List Comp → List Candidate → Result (List Comp) Rejection
realised_with entries pets alarms signs before [] = Ok before
realised_with entries pets alarms signs before (candidate ∷ candidates) =
    refused_by (comp_refusal candidate.name) (realised_component entries candidate.advertised pets alarms signs) >>= (λ comp.
    realised_with entries pets alarms signs (before ++ comp ∷ []) candidates)

-- how many values all fields of a component have
abbrev pub comp_values : Comp → ℕ
comp_values comp = length comp.fields * cells_in comp.decomp.grid

-- how many values all fields of components have
abbrev pub value_total : List Comp → ℕ
value_total comps = sum_by comp_values comps

-- the components of these names, with alarms of these names and native entries: all are advertised, then all are
-- realised, and they have at most 2^24 values
unfoldable pub components_in : List Entry → Dictionary → List (List ℕ) → List EntrySign → List (List ℕ) → Result Components Rejection
components_in entries dict alarms signs names =
    advertised_with entries dict [] names >>= (λ candidates.
    realised_with entries (pet_count candidates) alarms signs [] candidates >>= (λ comps.
    ok_if (nat_le (value_total comps) (2 ^ 24)) (too_many_values (value_total comps)) >>= (λ _.
    Ok (record { pets = pet_count candidates; comps = comps }))))

-- ---- the run sequence, matching, and the order of initialisation

-- the run sequence over components
abbrev pub sequence_in : List Entry → Head → List Comp → Result Sequence Rejection
sequence_in entries head comps =
    refused_by sequence_refusal
    (filled_sequence (names_of comps) head.span head.time_step (room_after head.cal head.start) (rows_under (codes "runSeq") entries))

-- which exports feed which imports
abbrev pub pairs_in : Dictionary → List Comp → Sequence → Result (List Pair) Rejection
pairs_in dict comps seq =
    refused_by (match_refusal comps) (matched_pairs dict (cell_counts comps) (map way_of seq.links) (ports_of comps))

-- the order in which components are initialised
abbrev pub order_in : List Comp → List Pair → Result (List ℕ) Rejection
order_in comps pairs = refused_by (waiting_refusal comps) (initial_order (length comps) (needs_in comps pairs))

-- ---- the whole text

-- what items say of a system with these settings: components, the run sequence, matching, the order of initialisation
unfoldable pub outline_in : List Entry → Settings → List EntrySign → Result Outline Rejection
outline_in entries settings signs =
    components_in entries settings.dict settings.alarms.names signs settings.head.components >>= (λ components.
    sequence_in entries settings.head components.comps >>= (λ seq.
    pairs_in settings.dict components.comps seq >>= (λ pairs.
    order_in components.comps pairs >>= (λ init.
    Ok (record {
      comps = components.comps;
      pets = components.pets;
      seq = seq;
      pairs = pairs;
      init = init;
      cal = settings.head.cal;
      start = settings.head.start;
      alarms = settings.alarms.alarms;
    })))))

-- what a text says of a system, with native entries of these labels and numbers of inputs
unfoldable pub outline_of : List EntrySign → List ℕ → Result Outline Rejection
outline_of signs bytes =
    items_in bytes >>= (λ entries.
    settings_in entries >>= (λ settings.
    outline_in entries settings signs))

-- ---- what holds of outlines

-- how many inputs each native entry has
abbrev pub inputs_of : List EntrySign → List ℕ
inputs_of signs = map (λ sign. sign.inputs) signs

-- the timing of an outline
abbrev pub timing_of : Outline → Timing
timing_of outline = record { cal = outline.cal; start = outline.start; alarms = outline.alarms }

-- What the run sequence asks of a component: it has 1 to 16 phases, and its substep is one.
pub record IsSequenced (comp : Comp) : Type 0 where
  pub some : 1 ≤ length comp.phases
  pub few : length comp.phases ≤ 16
  pub substep : IfSome comp.substep IsStep

-- An outline that was accepted: components, a sequence over them, pairs matched by a dictionary, and the order of
-- initialisation.
pub record IsOutline (inputs : List ℕ) (outline : Outline) : Type 0 where
  pub comps : AreComponents outline.pets (timing_of outline) inputs outline.comps
  pub timing : IsTiming (timing_of outline) outline.seq.span
  pub over : IsOver (names_of outline.comps) outline.seq
  pub dict : Dictionary
  pub pairs : ArePairs dict (cell_counts outline.comps) (map way_of outline.seq.links) (ports_of outline.comps) outline.pairs
  pub init : IsInitialOrder (length outline.comps) (needs_in outline.comps outline.pairs) outline.init
