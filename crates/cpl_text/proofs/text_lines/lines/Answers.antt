use Rattle.std.proofs.Common.{◌≡◌, ◌+◌, ◌<◌, [], ◌∷◌, ◌++◌, List, ℕ, true, false, length, length-append, get_or, map, take, filter, Some, arith, rules, tests, sym, ap, ◌∙◌}
use Rattle.std.proofs.lemmas.Iterator.Consumers.{YieldsList-end, YieldsList-so_far, YieldsList-turn}
use Rattle.std.proofs.lemmas.Iterator.Splits.{YieldsList-from_slice_split}
use Rattle.std.proofs.lemmas.List.{length-map, map-append}
use Rattle.std.specs.List.{list_all, slice_split}
use Rattle.cpl_text.specs.declared.text_lines.Line.{Line}
use Rattle.cpl_text.specs.declared.text_lines.Word.{Word}
use Rattle.cpl_text.specs.Lines.{ends_line, faulty_line, first_faulty_number, has_words, is_allowed, content_of, lines_from, parts_from, words_at}
use Rattle.cpl_text.specs.Spans.{span_of}
use Rattle.cpl_text.proofs.LinesFacts.{first_faulty-at, first_faulty-push, length-content_of, lines-push, lines-skip, lines_from_spans, lines_stand, spans, spans_of}
use Rattle.cpl_text.proofs.PartsFacts.{room, room-push, room-so_far}
use Rattle.cpl_text.proofs.text_lines.lines.Goals as goal
use Rattle.cpl_text.proofs.text_lines.lines.Goals.{then-not-is_empty+in_ok-words+in_ok-push, else-not-is_empty}

-- the first line that isn't allowed is the one at hand
pub returns-then-not-are_allowed-clause-fault : goal.returns-then-not-are_allowed-clause-fault
unfolding faulty_line
returns-then-not-are_allowed-clause-fault c =
    let parts = slice_split ends_line c.args.bytes.now in
    let yielded = c.loop-line.yielded in
    let line = c.in-Some.line.now in
    let so_far : map (λ line. line.now) yielded ≡ take (length yielded) parts =
    YieldsList-so_far (YieldsList-from_slice_split _ ends_line c.args.bytes.now (cc) (cc) (cc) (λ x b q k. search (rules, tests))) yielded _ c.loop-line.yielded_by in
    let turn : (length yielded < length parts) × (line ≡ get_or parts (length yielded) line) =
    YieldsList-turn (YieldsList-from_slice_split _ ends_line c.args.bytes.now (cc) (cc) (cc) (λ x b q k. search (rules, tests))) yielded _ c.loop-line.yielded_by _ _ c.in-Some.line c.in-Some.is c.next.ensures.steps in
    let before = ap (first_faulty_number 1) (sym so_far) ∙ c.loop-line.invariant.sound in
    let refused : list_all is_allowed (content_of line) ≡ false = ap (list_all is_allowed) (sym c.content_of-text.ensures) ∙ sym c.are_allowed.ensures ∙ search (rules, tests) in
    let here = ap (λ (text : List ℕ). list_all is_allowed (content_of text)) (sym turn.1) ∙ refused in
    let number : 1 + length yielded ≡ c.loop-line.number + 1 = omega (arith, c.loop-line.invariant.number_is) in
    first_faulty-at 1 parts (length yielded) line before turn.0 here ∙ ap Some number

pub read_words-requires : goal.read_words-requires
read_words-requires c =
    let parts = slice_split ends_line c.args.bytes.now in
    let yielded = c.loop-line.yielded in
    let line = c.in-Some.line.now in
    let so_far : map (λ line. line.now) yielded ≡ take (length yielded) parts =
    YieldsList-so_far (YieldsList-from_slice_split _ ends_line c.args.bytes.now (cc) (cc) (cc) (λ x b q k. search (rules, tests))) yielded _ c.loop-line.yielded_by in
    let turn : (length yielded < length parts) × (line ≡ get_or parts (length yielded) line) =
    YieldsList-turn (YieldsList-from_slice_split _ ends_line c.args.bytes.now (cc) (cc) (cc) (λ x b q k. search (rules, tests))) yielded _ c.loop-line.yielded_by _ _ c.in-Some.line c.in-Some.is c.next.ensures.steps in
    let fits = room-so_far ends_line c.args.bytes.now (map (λ line. line.now) yielded) (length yielded) line so_far turn.0 turn.1 in
    let text : c.content_of-text.result.now ≡ content_of line = search rules in
    omega (arith, fits, c.loop-line.invariant.start_is, c.requires, length-content_of line, ap length text)

pub overflow_add-start-in-loop-line : goal.overflow_add-start-in-loop-line
overflow_add-start-in-loop-line c =
    let parts = slice_split ends_line c.args.bytes.now in
    let yielded = c.loop-line.yielded in
    let line = c.in-Some.line.now in
    let so_far : map (λ line. line.now) yielded ≡ take (length yielded) parts =
    YieldsList-so_far (YieldsList-from_slice_split _ ends_line c.args.bytes.now (cc) (cc) (cc) (λ x b q k. search (rules, tests))) yielded _ c.loop-line.yielded_by in
    let turn : (length yielded < length parts) × (line ≡ get_or parts (length yielded) line) =
    YieldsList-turn (YieldsList-from_slice_split _ ends_line c.args.bytes.now (cc) (cc) (cc) (λ x b q k. search (rules, tests))) yielded _ c.loop-line.yielded_by _ _ c.in-Some.line c.in-Some.is c.next.ensures.steps in
    let fits = room-so_far ends_line c.args.bytes.now (map (λ line. line.now) yielded) (length yielded) line so_far turn.0 turn.1 in
    omega (arith, fits, c.loop-line.invariant.start_is, c.requires)

pub loop-line-preserved : goal.loop-line-preserved
loop-line-preserved c =
    let before = c.loop-line.invariant in
    let texts = map (λ line. line.now) c.loop-line.yielded in
    let line = c.in-Some.line.now in
    let more = map-append (λ line. line.now) c.loop-line.yielded (c.in-Some.line ∷ []) in
    let text_is = c.content_of-text.ensures in
    let allowed : list_all is_allowed (content_of line) ≡ true = ap (list_all is_allowed) (sym text_is) ∙ sym c.are_allowed.ensures ∙ search (rules, tests) in
    let words_are : map span_of (words_at (room texts) (content_of line)) ≡ c.read_words.new.words.items =
    ap (λ s. map span_of (words_at s (content_of line))) (sym before.start_is) ∙ ap (λ (text : List ℕ). map span_of (words_at c.loop-line.start text)) (sym text_is) ∙ search rules in
    rw more (record {
      lines_are = elim c.if-not-is_empty.branch [
        | then-not-is_empty+in_ok-words+in_ok-push w ↦
            let some : 0 < length c.read_words.new.words.items = search (rules, tests) in
            let line_is : Line = record { number = c.loop-line.number + 1; words = w.in_ok-words.words } in
            let grown : c.if-not-is_empty.lines.items ≡ c.loop-line.lines.items ++ line_is ∷ [] = search rules in
            let copied : w.in_ok-words.words.items ≡ c.read_words.new.words.items = search rules in
            let added = ap (map spans) grown ∙ map-append spans c.loop-line.lines.items (line_is ∷ []) ∙ ap (λ (ws : List Word). map spans c.loop-line.lines.items ++ (c.loop-line.number + 1, ws) ∷ []) copied in
            let number : c.loop-line.number + 1 ≡ 1 + length texts = omega (arith, before.number_is, length-map c.loop-line.yielded (λ line. line.now)) in
            lines-push texts line c.loop-line.lines.items c.if-not-is_empty.lines.items (c.loop-line.number + 1) c.read_words.new.words.items before.lines_are number words_are some added
        | else-not-is_empty w ↦
            let none : length c.read_words.new.words.items ≡ 0 = search (rules, tests) in
            let same : c.if-not-is_empty.lines.items ≡ c.loop-line.lines.items = search rules in
            ap (map spans) same ∙ lines-skip texts line c.loop-line.lines.items c.read_words.new.words.items before.lines_are words_are none
      ];
      number_is = omega (arith, before.number_is, length-append c.loop-line.yielded (c.in-Some.line ∷ []));
      start_is = omega (arith, before.start_is, room-push texts line);
      sound = first_faulty-push 1 texts line before.sound allowed;
    })

pub returns-clause-ok : goal.returns-clause-ok
returns-clause-ok c =
    let all = YieldsList-end (YieldsList-from_slice_split _ ends_line c.args.bytes.now (cc) (cc) (cc) (λ x b q k. search (rules, tests))) c.loop-line.yielded _ c.loop-line.yielded_by _ _ c.in-None.is c.next.ensures.steps in
    lines_from_spans c.args.bytes.now c.loop-line.lines.items (c.loop-line.invariant.lines_are ∙ ap (λ (texts : List (List ℕ)). map spans_of (filter has_words (lines_from 1 (parts_from 0 texts)))) all.0) (ap (first_faulty_number 1) (sym all.0) ∙ c.loop-line.invariant.sound)

pub returns-clause-stand : goal.returns-clause-stand
returns-clause-stand c = lines_stand c.args.bytes.now c.loop-line.lines.items (returns-clause-ok c)
