-- Lines that are kept as spans, and the lines of the text that they stand for.
use Rattle.std.proofs.Common.{◌≡◌, ℕ, ◌+◌, ◌-◌, ◌<◌, ◌≤◌, Bool, true, false, inl, inr, List, [], ◌∷◌, ◌++◌, length, get_or, take, map, filter, Some, None, refl, sym, ap, ◌∙◌, arith, zero, suc, add-zero, zero-add, eqb, ltb, length-append, length-take, drop}
use Rattle.std.proofs.lemmas.Bool.{cases_Bool, lt-ltb, le-ltb, ltb-false}
use Rattle.std.proofs.lemmas.List.{append-nil, length-map, map-append, take_all}
use Rattle.std.proofs.lemmas.List.Elements.{All-cons, All-filter, All-head, All-map, All-nil, All-tail, All-weaker, filter-append}
use Rattle.std.specs.List.{All, before_first, join_with_byte, list_all, position, position_or_len, slice_split}
use Rattle.std.specs.Str.Lines.{strip_carriage_return}
use Rattle.cpl_text.specs.declared.text_lines.Line.{Line}
use Rattle.cpl_text.specs.declared.text_lines.Word.{Word}
use Rattle.cpl_text.specs.Lines.{Part, TextLine, begins_comment, ends_line, faulty_line, first_faulty_number, has_words, is_allowed, is_blank, is_word, lines_of, line_at, content_of, lines_from, part_at, parts_from, words_at}
use Rattle.cpl_text.specs.Spans.{IsLines, Stands, StandsIn, line_in, part_in, span_of}
use Rattle.cpl_text.proofs.PartsFacts.{IsFront, front-take, moved, parts_from-moved, parts_from-push, room, room-slice_split, stand-slice_split, stands-moved}

-- a line as its number and its spans
abbrev pub spans : Line → ℕ × List Word
spans line = (line.number, line.words.items)

-- the same of a line of the text
abbrev pub spans_of : TextLine → ℕ × List Word
spans_of line = (line.number, map span_of line.words)

-- ---- one line, one word more

-- what stands before the first comment
pub before_first-Some : (p : ℕ → Bool) (text : List ℕ) (k : ℕ) → position p text ≡ Some k → take k text ≡ before_first p text
before_first-Some p text k found =
    elim (cases_Bool (ltb (position_or_len p text) (length text))) [
      | inl e ↦ let same : Some (position_or_len p text) ≡ Some k = rw e at found in let place : position_or_len p text ≡ k = cc in ap (λ n. take n text) (sym place)
      | inr e ↦ let no : None ≡ Some k = rw e at found in absurd (cc)
    ]

-- where there is none, all
pub before_first-None : (p : ℕ → Bool) (text : List ℕ) → position p text ≡ None → text ≡ before_first p text
before_first-None p text found =
    elim (cases_Bool (ltb (position_or_len p text) (length text))) [
      | inl e ↦ let no : Some (position_or_len p text) ≡ None = rw e at found in absurd (cc)
      | inr e ↦ sym (take_all (position_or_len p text) text (omega (arith, ltb-false (position_or_len p text) (length text) e)))
    ]

-- a part that has a byte is one word more
pub words-push : (start place : ℕ) (texts : List (List ℕ)) (text : List ℕ) (words : List Word) → words ≡ map span_of (filter is_word (parts_from start texts)) → place ≡ start + room texts → 0 < length text → words ++ record { start = place; «end» = place + length text } ∷ [] ≡ map span_of (filter is_word (parts_from start (texts ++ text ∷ [])))
words-push start place texts text words so_far place_is some =
    let part = part_at (start + room texts) text in
    let kept : filter is_word (part ∷ []) ≡ part ∷ [] = rw (lt-ltb 0 (length text) some) refl in
    ap (λ p. words ++ span_of (part_at p text) ∷ []) place_is
    ∙ sym (ap (λ (ps : List Part). map span_of (filter is_word ps)) (parts_from-push start texts text)
    ∙ ap (map span_of) (filter-append is_word (parts_from start texts) (part ∷ []) ∙ ap (λ (ps : List Part). filter is_word (parts_from start texts) ++ ps) kept)
    ∙ map-append span_of (filter is_word (parts_from start texts)) (part ∷ [])
    ∙ ap (λ (ws : List Word). ws ++ span_of part ∷ []) (sym so_far))

-- a part without bytes is none
pub words-skip : (start : ℕ) (texts : List (List ℕ)) (text : List ℕ) (words : List Word) → words ≡ map span_of (filter is_word (parts_from start texts)) → length text ≡ 0 → words ≡ map span_of (filter is_word (parts_from start (texts ++ text ∷ [])))
words-skip start texts text words so_far none =
    let part = part_at (start + room texts) text in
    let dropped : filter is_word (part ∷ []) ≡ [] = rw (le-ltb 0 (length text) (omega arith)) refl in
    so_far
    ∙ sym (ap (λ (ps : List Part). map span_of (filter is_word ps)) (parts_from-push start texts text)
    ∙ ap (map span_of) (filter-append is_word (parts_from start texts) (part ∷ []) ∙ ap (λ (ps : List Part). filter is_word (parts_from start texts) ++ ps) dropped ∙ append-nil (filter is_word (parts_from start texts))))

-- the next line has the next number and stands behind those so far
pub lines_from-push : (number start : ℕ) (lines : List (List ℕ)) (line : List ℕ) → lines_from number (parts_from start (lines ++ line ∷ [])) ≡ lines_from number (parts_from start lines) ++ line_at (number + length lines) (start + room lines) line ∷ []
lines_from-push number start [] line =
    ap (λ n. line_at n start line ∷ []) (sym (add-zero number))
    ∙ ap (λ s. line_at (number + 0) s line ∷ []) (sym (add-zero start))
lines_from-push number start (l ∷ ls) line =
    let next = start + length l + 1 in
    let same : next + room ls ≡ start + (length l + 1 + room ls) = omega arith in
    let later : number + 1 + length ls ≡ number + suc (length ls) = omega arith in
    let others = lines_from (number + 1) (parts_from next ls) in
    ap (λ (xs : List TextLine). line_at number start l ∷ xs) (lines_from-push (number + 1) next ls line)
    ∙ ap (λ s. line_at number start l ∷ (others ++ line_at (number + 1 + length ls) s line ∷ [])) same
    ∙ ap (λ n. line_at number start l ∷ (others ++ line_at n (start + (length l + 1 + room ls)) line ∷ [])) later

-- the same of all lines of a text
lines_from-push-first : (texts : List (List ℕ)) (text : List ℕ) → lines_from 1 (parts_from 0 (texts ++ text ∷ [])) ≡ lines_from 1 (parts_from 0 texts) ++ line_at (1 + length texts) (room texts) text ∷ []
lines_from-push-first texts text =
    lines_from-push 1 0 texts text ∙ ap (λ s. lines_from 1 (parts_from 0 texts) ++ line_at (1 + length texts) s text ∷ []) (zero-add (room texts))

-- a line with words is one line more
pub lines-push : (texts : List (List ℕ)) (text : List ℕ) (lines more : List Line) (number : ℕ) (words : List Word) → map spans lines ≡ map spans_of (filter has_words (lines_from 1 (parts_from 0 texts))) → number ≡ 1 + length texts → map span_of (words_at (room texts) (content_of text)) ≡ words → 0 < length words → map spans more ≡ map spans lines ++ (number, words) ∷ [] → map spans more ≡ map spans_of (filter has_words (lines_from 1 (parts_from 0 (texts ++ text ∷ []))))
lines-push texts text lines more number words so_far number_is words_are some added =
    let line = line_at (1 + length texts) (room texts) text in
    let long : length (map span_of line.words) ≡ length line.words = length-map line.words span_of in
    let any : 0 < length line.words = omega (arith, long, ap length words_are) in
    let kept : filter has_words (line ∷ []) ≡ line ∷ [] = rw (lt-ltb 0 (length line.words) any) refl in
    added ∙ ap (λ (ls : List (ℕ × List Word)). ls ++ (number, words) ∷ []) so_far
    ∙ ap (λ n. map spans_of (filter has_words (lines_from 1 (parts_from 0 texts))) ++ (n, words) ∷ []) number_is
    ∙ ap (λ (ws : List Word). map spans_of (filter has_words (lines_from 1 (parts_from 0 texts))) ++ (1 + length texts, ws) ∷ []) (sym words_are)
    ∙ sym (map-append spans_of (filter has_words (lines_from 1 (parts_from 0 texts))) (line ∷ []))
    ∙ sym (ap (map spans_of) (ap (filter has_words) (lines_from-push-first texts text) ∙ filter-append has_words (lines_from 1 (parts_from 0 texts)) (line ∷ []) ∙ ap (λ (ls : List TextLine). filter has_words (lines_from 1 (parts_from 0 texts)) ++ ls) kept))

-- a line without words is none
pub lines-skip : (texts : List (List ℕ)) (text : List ℕ) (lines : List Line) (words : List Word) → map spans lines ≡ map spans_of (filter has_words (lines_from 1 (parts_from 0 texts))) → map span_of (words_at (room texts) (content_of text)) ≡ words → length words ≡ 0 → map spans lines ≡ map spans_of (filter has_words (lines_from 1 (parts_from 0 (texts ++ text ∷ []))))
lines-skip texts text lines words so_far words_are none =
    let line = line_at (1 + length texts) (room texts) text in
    let long : length (map span_of line.words) ≡ length line.words = length-map line.words span_of in
    let any : length line.words ≤ 0 = omega (arith, long, ap length words_are) in
    let dropped : filter has_words (line ∷ []) ≡ [] = rw (le-ltb 0 (length line.words) any) refl in
    so_far
    ∙ sym (ap (map spans_of) (ap (filter has_words) (lines_from-push-first texts text) ∙ filter-append has_words (lines_from 1 (parts_from 0 texts)) (line ∷ []) ∙ ap (λ (ls : List TextLine). filter has_words (lines_from 1 (parts_from 0 texts)) ++ ls) dropped ∙ append-nil (filter has_words (lines_from 1 (parts_from 0 texts)))))

-- the lines so far are sound, and so is the next
pub first_faulty-push : (number : ℕ) (lines : List (List ℕ)) (line : List ℕ) → first_faulty_number number lines ≡ None → list_all is_allowed (content_of line) ≡ true → first_faulty_number number (lines ++ line ∷ []) ≡ None
first_faulty-push number [] line before here = rw here refl
first_faulty-push number (l ∷ ls) line before here =
    elim (cases_Bool (list_all is_allowed (content_of l))) [
      | inl e ↦ rw e (first_faulty-push (number + 1) ls line (rw e at before) here)
      | inr e ↦ let no : Some number ≡ None = rw e at before in absurd (cc)
    ]

-- the first faulty line comes behind as many as are sound
pub first_faulty-at : (number : ℕ) (lines : List (List ℕ)) (k : ℕ) (d : List ℕ) → first_faulty_number number (take k lines) ≡ None → k < length lines → list_all is_allowed (content_of (get_or lines k d)) ≡ false → first_faulty_number number lines ≡ Some (number + k)
first_faulty-at number [] k d before inside here = absurd (omega arith)
first_faulty-at number (l ∷ ls) zero d before inside here = rw here (ap Some (sym (add-zero number)))
first_faulty-at number (l ∷ ls) (suc k) d before inside here =
    let later : number + 1 + k ≡ number + suc k = omega arith in
    elim (cases_Bool (list_all is_allowed (content_of l))) [
      | inl e ↦ rw e (first_faulty-at (number + 1) ls k d (rw e at before) (omega arith) here ∙ ap Some later)
      | inr e ↦ let no : Some number ≡ None = rw e at before in absurd (cc)
    ]

-- ---- from spans to the lines of the text

-- a part that stands in the text is what its span names
part_in-span : (text : List ℕ) (parts : List Part) → All (Stands text) parts → map (part_in text) (map span_of parts) ≡ parts
part_in-span text [] all = refl
part_in-span text (p ∷ ps) all =
    let here = All-head (Stands text) p ps all in
    ap (λ (t : List ℕ). record { start = p.start; «end» = p.«end»; text = t } ∷ map (part_in text) (map span_of ps)) here.text_is
    ∙ ap (λ (xs : List Part). p ∷ xs) (part_in-span text ps (All-tail (Stands text) p ps all))

-- where the spans are those of lines that stand in the text, they name these lines
line_in-spans : (text : List ℕ) (lines : List Line) (wanted : List TextLine) → All (StandsIn text) wanted → map spans lines ≡ map spans_of wanted → map (line_in text) lines ≡ wanted
line_in-spans text [] [] all same = refl
line_in-spans text [] (w ∷ ws) all same = absurd (cc)
line_in-spans text (l ∷ ls) [] all same = absurd (cc)
line_in-spans text (l ∷ ls) (w ∷ ws) all same =
    let here = All-head (StandsIn text) w ws all in
    let first : spans l ≡ spans_of w = cc in
    let number_is = ap (λ (x : ℕ × List Word). x.0) first in
    let words_are = ap (λ (x : ℕ × List Word). x.1) first in
    let others : map spans ls ≡ map spans_of ws = cc in
    let rest = line_in-spans text ls ws (All-tail (StandsIn text) w ws all) others in
    ap (λ n. record { number = n; words = map (part_in text) l.words.items } ∷ map (line_in text) ls) number_is
    ∙ ap (λ (xs : List Word). record { number = w.number; words = map (part_in text) xs } ∷ map (line_in text) ls) words_are
    ∙ ap (λ (xs : List Part). record { number = w.number; words = xs } ∷ map (line_in text) ls) (part_in-span text w.words here.words_stand)
    ∙ ap (λ (xs : List TextLine). w ∷ xs) rest

-- what is looked at of a line is its front
content_of-front : (line : List ℕ) → IsFront line (content_of line)
content_of-front line =
    let whole : IsFront line line = record { count = length line; front_is = sym (take_all (length line) line (omega arith)) } in
    let P : List ℕ → Type 0 = λ front. IsFront line front in
    let stripped : P (strip_carriage_return line) = elim (cases_Bool (eqb (get_or line (length line - 1) 0) 13)) [
      | inl e ↦ rw e (front-take line line (length line - 1) whole)
      | inr e ↦ rw e whole
    ] in
    front-take line (strip_carriage_return line) (position_or_len begins_comment (strip_carriage_return line)) stripped

-- so it is no longer than the line
pub length-content_of : (line : List ℕ) → length (content_of line) ≤ length line
length-content_of line =
    let front = content_of-front line in
    omega (arith, ap length front.front_is, length-take front.count line)

-- the words of a line that stands in the text stand there, too
words_stand : (text : List ℕ) (line : Part) → Stands text line → All (Stands text) (words_at line.start (content_of line.text))
words_stand text line outer =
    let front = content_of line.text in
    let parts = slice_split is_blank front in
    let same : parts_from line.start parts ≡ map (moved line.start) (parts_from 0 parts) =
    ap (λ s. parts_from s parts) (sym (add-zero line.start)) ∙ parts_from-moved line.start 0 parts in
    let inside = All-weaker (Stands front) (λ word. Stands text (moved line.start word)) (λ word inner. stands-moved text line front word outer (content_of-front line.text) inner) (parts_from 0 parts) (stand-slice_split is_blank front) in
    All-filter is_word (Stands text) (parts_from line.start parts) (rw same (All-map (Stands text) (moved line.start) (parts_from 0 parts) inside))

-- so do the words of many
lines_from_stand : (text : List ℕ) (number : ℕ) (lines : List Part) → All (Stands text) lines → All (StandsIn text) (lines_from number lines)
lines_from_stand text number [] all = All-nil (StandsIn text)
lines_from_stand text number (l ∷ ls) all =
    All-cons (StandsIn text) _ (lines_from (number + 1) ls) (record { words_stand = words_stand text l (All-head (Stands text) l ls all) }) (lines_from_stand text (number + 1) ls (All-tail (Stands text) l ls all))

-- lines whose spans are those of the lines of the text are its lines
pub lines_from_spans : (text : List ℕ) (lines : List Line) → map spans lines ≡ map spans_of (filter has_words (lines_from 1 (parts_from 0 (slice_split ends_line text)))) → first_faulty_number 1 (slice_split ends_line text) ≡ None → IsLines text lines
unfolding lines_of faulty_line
lines_from_spans text lines same sound =
    let all = lines_from_stand text 1 (parts_from 0 (slice_split ends_line text)) (stand-slice_split ends_line text) in
    record {
      lines_are = line_in-spans text lines (filter has_words (lines_from 1 (parts_from 0 (slice_split ends_line text)))) (All-filter has_words (StandsIn text) (lines_from 1 (parts_from 0 (slice_split ends_line text))) all) same;
      sound = sound;
    }

-- ---- what the words of a line are

-- what holds of what a function makes of each member
pub All-from_map : {A B : Type 0} (f : A → B) (P : B → Type 0) (xs : List A) → All P (map f xs) → All (λ x. P (f x)) xs
All-from_map f P [] all = All-nil (λ x. P (f x))
All-from_map f P (x ∷ xs) all =
    All-cons (λ y. P (f y)) x xs (All-head P (f x) (map f xs) all) (All-from_map f P xs (All-tail P (f x) (map f xs) all))

-- the words of the lines of a text stand in it
pub lines_stand : (text : List ℕ) (lines : List Line) → IsLines text lines → All (λ line. StandsIn text (line_in text line)) lines
unfolding lines_of
lines_stand text lines is =
    let all = lines_from_stand text 1 (parts_from 0 (slice_split ends_line text)) (stand-slice_split ends_line text) in
    let kept = All-filter has_words (StandsIn text) (lines_from 1 (parts_from 0 (slice_split ends_line text))) all in
    All-from_map (line_in text) (StandsIn text) lines (rw is.lines_are kept)

-- words that are joined take less than their room
joined-room : (words : List (List ℕ)) → length (join_with_byte 32 words) ≤ room words - 1
joined-room [] = omega arith
joined-room (w ∷ []) = omega arith
joined-room (w ∷ v ∷ ws) = omega (arith, joined-room (v ∷ ws), length-append w (32 ∷ join_with_byte 32 (v ∷ ws)))

-- the texts of the words of a line
abbrev pub texts : TextLine → List (List ℕ)
texts line = map (λ word. word.text) line.words

-- the words alone take no more room than all parts
room-words : (start : ℕ) (parts : List (List ℕ)) → room (map (λ word. word.text) (filter is_word (parts_from start parts))) ≤ room parts
room-words start [] = omega arith
room-words start (p ∷ ps) =
    let rest = room-words (start + length p + 1) ps in
    elim (cases_Bool (ltb 0 (length p))) [
      | inl e ↦ rw e (omega (arith, rest))
      | inr e ↦ rw e (omega (arith, rest))
    ]

-- The words of a line, joined by single blanks, are no longer than the text.
pub record IsShortIn (text : List ℕ) (line : TextLine) : Type 0 where
  pub short : length (join_with_byte 32 (texts line)) ≤ length text

-- so short are the words of a line that stands in the text
line_short : (text : List ℕ) (number : ℕ) (line : Part) → Stands text line → IsShortIn text (line_at number line.start line.text)
line_short text number line outer =
    let parts = slice_split is_blank (content_of line.text) in
    let room_is = room-slice_split is_blank (content_of line.text) in
    record {
      short = omega (arith, joined-room (texts (line_at number line.start line.text)), room-words line.start parts, room_is, length-content_of line.text, outer.within, ap length outer.text_is, length-take (line.«end» - line.start) (drop line.start text));
    }

-- so are those of many
lines_from_short : (text : List ℕ) (number : ℕ) (lines : List Part) → All (Stands text) lines → All (IsShortIn text) (lines_from number lines)
lines_from_short text number [] all = All-nil (IsShortIn text)
lines_from_short text number (l ∷ ls) all =
    All-cons (IsShortIn text) (line_at number l.start l.text) (lines_from (number + 1) ls) (line_short text number l (All-head (Stands text) l ls all)) (lines_from_short text (number + 1) ls (All-tail (Stands text) l ls all))

-- the words of each line of a text, joined by single blanks, are no longer than the text
pub lines_short : (text : List ℕ) (lines : List Line) → IsLines text lines → All (λ line. IsShortIn text (line_in text line)) lines
unfolding lines_of
lines_short text lines is =
    let all = lines_from_short text 1 (parts_from 0 (slice_split ends_line text)) (stand-slice_split ends_line text) in
    let kept = All-filter has_words (IsShortIn text) (lines_from 1 (parts_from 0 (slice_split ends_line text))) all in
    All-from_map (line_in text) (IsShortIn text) lines (rw is.lines_are kept)
