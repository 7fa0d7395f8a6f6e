use Rattle.std.proofs.Common.{◌≡◌, ◌+◌, ◌<◌, [], ◌∷◌, ◌++◌, List, ℕ, length, get_or, map, take, filter, arith, rules, tests, sym, ap, ◌∙◌}
use Rattle.std.proofs.lemmas.Iterator.Consumers.{YieldsList-end, YieldsList-so_far, YieldsList-turn}
use Rattle.std.proofs.lemmas.Iterator.Splits.{YieldsList-from_slice_split}
use Rattle.std.proofs.lemmas.List.{map-append}
use Rattle.std.specs.List.{slice_split}
use Rattle.cpl_text.specs.Lines.{is_blank, is_word, parts_from}
use Rattle.cpl_text.specs.Spans.{span_of}
use Rattle.cpl_text.proofs.LinesFacts.{words-push, words-skip}
use Rattle.cpl_text.proofs.PartsFacts.{room-push, room-so_far}
use Rattle.cpl_text.proofs.text_lines.read_words.Goals as goal
use Rattle.cpl_text.proofs.text_lines.read_words.Goals.{then-not-is_empty+in_ok-push, else-not-is_empty}

-- the part at hand ends within the text
pub overflow_add-end : goal.overflow_add-end
overflow_add-end c =
    let parts = slice_split is_blank c.args.text.now in
    let yielded = c.loop-piece.yielded in
    let piece = c.in-Some.piece.now in
    let so_far : map (λ piece. piece.now) yielded ≡ take (length yielded) parts =
    YieldsList-so_far (YieldsList-from_slice_split _ is_blank c.args.text.now (cc) (cc) (cc) (λ x b q k. search (rules, tests))) yielded _ c.loop-piece.yielded_by in
    let turn : (length yielded < length parts) × (piece ≡ get_or parts (length yielded) piece) =
    YieldsList-turn (YieldsList-from_slice_split _ is_blank c.args.text.now (cc) (cc) (cc) (λ x b q k. search (rules, tests))) yielded _ c.loop-piece.yielded_by _ _ c.in-Some.piece c.in-Some.is c.next.ensures.steps in
    let fits = room-so_far is_blank c.args.text.now (map (λ piece. piece.now) yielded) (length yielded) piece so_far turn.0 turn.1 in
    omega (arith, fits, c.loop-piece.invariant.place_is, c.requires)

-- so the place behind it fits, too
pub overflow_add-place : goal.overflow_add-place
overflow_add-place c =
    let parts = slice_split is_blank c.args.text.now in
    let yielded = c.loop-piece.yielded in
    let piece = c.in-Some.piece.now in
    let so_far : map (λ piece. piece.now) yielded ≡ take (length yielded) parts =
    YieldsList-so_far (YieldsList-from_slice_split _ is_blank c.args.text.now (cc) (cc) (cc) (λ x b q k. search (rules, tests))) yielded _ c.loop-piece.yielded_by in
    let turn : (length yielded < length parts) × (piece ≡ get_or parts (length yielded) piece) =
    YieldsList-turn (YieldsList-from_slice_split _ is_blank c.args.text.now (cc) (cc) (cc) (λ x b q k. search (rules, tests))) yielded _ c.loop-piece.yielded_by _ _ c.in-Some.piece c.in-Some.is c.next.ensures.steps in
    let fits = room-so_far is_blank c.args.text.now (map (λ piece. piece.now) yielded) (length yielded) piece so_far turn.0 turn.1 in
    omega (arith, fits, c.loop-piece.invariant.place_is, c.requires)

-- a part with bytes is one word more
pub loop-piece-preserved : goal.loop-piece-preserved
loop-piece-preserved c =
    let before = c.loop-piece.invariant in
    let texts = map (λ piece. piece.now) c.loop-piece.yielded in
    let piece = c.in-Some.piece.now in
    let more = map-append (λ piece. piece.now) c.loop-piece.yielded (c.in-Some.piece ∷ []) in
    rw more (record {
      words_are = elim c.if-not-is_empty.branch [
        | then-not-is_empty+in_ok-push w ↦
            let some : 0 < length piece = search (rules, tests) in
            let grown : c.if-not-is_empty.words.items ≡ c.loop-piece.words.items ++ record { start = c.loop-piece.place; «end» = c.loop-piece.place + length piece } ∷ [] = search rules in
            grown ∙ words-push c.args.start c.loop-piece.place texts piece c.loop-piece.words.items before.words_are before.place_is some
        | else-not-is_empty w ↦
            let none : length piece ≡ 0 = search (rules, tests) in
            let same : c.if-not-is_empty.words.items ≡ c.loop-piece.words.items = search rules in
            same ∙ words-skip c.args.start texts piece c.loop-piece.words.items before.words_are none
      ];
      place_is = omega (arith, before.place_is, room-push texts piece);
    })

-- at the end all parts were looked at
pub returns : goal.returns
returns c =
    let all = YieldsList-end (YieldsList-from_slice_split _ is_blank c.args.text.now (cc) (cc) (cc) (λ x b q k. search (rules, tests))) c.loop-piece.yielded _ c.loop-piece.yielded_by _ _ c.in-None.is c.next.ensures.steps in
    sym (c.loop-piece.invariant.words_are ∙ ap (λ (texts : List (List ℕ)). map span_of (filter is_word (parts_from c.args.start texts))) all.0)
