-- Where the parts of a text stand that is cut at bytes.
use Rattle.std.proofs.Common.{◌≡◌, ℕ, ◌+◌, ◌-◌, ◌<◌, ◌≤◌, Bool, inl, inr, List, [], ◌∷◌, ◌++◌, length, get_or, take, drop, map, refl, sym, ap, ◌∙◌, arith, zero, suc, add-zero, length-take, subst}
use Rattle.std.proofs.lemmas.Bool.{cases_Bool, cases_lt}
use Rattle.std.proofs.lemmas.Slice.{between_is}
use Rattle.std.proofs.lemmas.List.{drop-drop, take_all}
use Rattle.std.proofs.lemmas.List.Elements.{All-cons, All-map, All-weaker, All-head, All-tail, All-nil}
use Rattle.std.specs.List.{All, slice_split, onto_first, slice_range}
use Rattle.cpl_text.specs.Lines.{Part, part_at, parts_from}
use Rattle.cpl_text.specs.Spans.{Stands}

-- how many places the parts take, each with the byte behind it
abbrev pub room : List (List ℕ) → ℕ
room [] = 0
room (part ∷ parts) = length part + 1 + room parts

-- one more part
pub room-push : (parts : List (List ℕ)) (part : List ℕ) → room (parts ++ part ∷ []) ≡ room parts + length part + 1
room-push [] part = omega arith
room-push (p ∷ ps) part = omega (arith, room-push ps part)

-- a byte more in front of the first part
room-onto_first : (c : ℕ) (parts : List (List ℕ)) → 0 < room parts → room (onto_first c parts) ≡ room parts + 1
room-onto_first c [] some = absurd (omega arith)
room-onto_first c (p ∷ ps) some = omega arith

-- the parts of a text take its places and one more
pub room-slice_split : (p : ℕ → Bool) (text : List ℕ) → room (slice_split p text) ≡ length text + 1
room-slice_split p [] = refl
room-slice_split p (c ∷ cs) =
    let rest = room-slice_split p cs in
    elim (cases_Bool (p c)) [
      | inl e ↦ rw e (omega arith)
      | inr e ↦ rw e (omega (arith, room-onto_first c (slice_split p cs) (omega arith)))
    ]

-- the parts so far and the one at hand take no more than all
pub room-take : (parts : List (List ℕ)) (k : ℕ) (d : List ℕ) → k < length parts → room (take k parts) + length (get_or parts k d) + 1 ≤ room parts
room-take [] k d inside = absurd (omega arith)
room-take (p ∷ ps) zero d inside = omega arith
room-take (p ∷ ps) (suc k) d inside = omega (arith, room-take ps k d (omega arith))

-- the parts so far and the one at hand take no more places than the text has, but for the last byte behind
pub room-so_far : (p : ℕ → Bool) (text : List ℕ) (texts : List (List ℕ)) (k : ℕ) (part : List ℕ) → texts ≡ take k (slice_split p text) → k < length (slice_split p text) → part ≡ get_or (slice_split p text) k part → room texts + length part ≤ length text
room-so_far p text texts k part so_far inside here =
    omega (arith, room-take (slice_split p text) k part inside, room-slice_split p text, ap room so_far, ap length here)

-- there are no more parts than places
pub length-room : (parts : List (List ℕ)) → length parts ≤ room parts
length-room [] = omega arith
length-room (p ∷ ps) = omega (arith, length-room ps)

-- one more part is parts_from behind the others
pub parts_from-push : (start : ℕ) (texts : List (List ℕ)) (text : List ℕ) → parts_from start (texts ++ text ∷ []) ≡ parts_from start texts ++ part_at (start + room texts) text ∷ []
parts_from-push start [] text = ap (λ s. part_at s text ∷ []) (sym (add-zero start))
parts_from-push start (t ∷ ts) text =
    let next = start + length t + 1 in
    let same : next + room ts ≡ start + (length t + 1 + room ts) = omega arith in
    ap (λ (xs : List Part). part_at start t ∷ xs) (parts_from-push next ts text)
    ∙ ap (λ s. part_at start t ∷ (parts_from next ts ++ part_at s text ∷ [])) same

-- ---- each part stands in the text at its places

-- a part so many places further on
abbrev pub moved : ℕ → Part → Part
moved k part = record { start = k + part.start; «end» = k + part.«end»; text = part.text }

-- parts that begin so many places further on are moved
pub parts_from-moved : (k start : ℕ) (texts : List (List ℕ)) → parts_from (k + start) texts ≡ map (moved k) (parts_from start texts)
parts_from-moved k start [] = refl
parts_from-moved k start (t ∷ ts) =
    let head : k + start + length t ≡ k + (start + length t) = omega arith in
    let rest : k + start + length t + 1 ≡ k + (start + length t + 1) = omega arith in
    ap (λ e. record { start = k + start; «end» = e; text = t } ∷ parts_from (k + start + length t + 1) ts) head
    ∙ ap (λ (xs : List Part). moved k (part_at start t) ∷ xs) (ap (λ s. parts_from s ts) rest ∙ parts_from-moved k (start + length t + 1) ts)

-- a byte in front moves what stands
stands_behind : (c : ℕ) (cs : List ℕ) (part : Part) → Stands cs part → Stands (c ∷ cs) (moved 1 part)
stands_behind c cs part s =
    let next : 1 + part.start ≡ suc part.start = omega arith in
    let long : (1 + part.«end») - (1 + part.start) ≡ part.«end» - part.start = omega arith in
    record {
      forward = omega (arith, s.forward);
      within = omega (arith, s.within);
      text_is = ap (λ n. take n (drop (1 + part.start) (c ∷ cs))) long ∙ ap (λ k. take (part.«end» - part.start) (drop k (c ∷ cs))) next ∙ s.text_is;
    }

-- the same of many
all_behind : (c : ℕ) (cs : List ℕ) (start : ℕ) (texts : List (List ℕ)) → All (Stands cs) (parts_from start texts) → All (Stands (c ∷ cs)) (parts_from (1 + start) texts)
all_behind c cs start texts all =
    rw (parts_from-moved 1 start texts) (All-map (Stands (c ∷ cs)) (moved 1) (parts_from start texts) (All-weaker (Stands cs) (λ part. Stands (c ∷ cs) (moved 1 part)) (stands_behind c cs) (parts_from start texts) all))

-- the part at the front stands there where it is what the text begins with
stands_first : (text part : List ℕ) → length part ≤ length text → take (length part) text ≡ part → Stands text (part_at 0 part)
stands_first text part fits same = record {
  forward = omega arith;
  within = omega (arith, fits);
  text_is = let long : 0 + length part - 0 ≡ length part = omega arith in ap (λ n. take n text) long ∙ same;
}

-- a byte in front of the first part
stand_onto_first : (c : ℕ) (cs : List ℕ) (texts : List (List ℕ)) → All (Stands cs) (parts_from 0 texts) → All (Stands (c ∷ cs)) (parts_from 0 (onto_first c texts))
stand_onto_first c cs [] all = All-cons (Stands (c ∷ cs)) _ [] (stands_first (c ∷ cs) (c ∷ []) (omega arith) refl) (All-nil (Stands (c ∷ cs)))
stand_onto_first c cs (t ∷ ts) all =
    let first = All-head (Stands cs) (part_at 0 t) (parts_from (0 + length t + 1) ts) all in
    let others = all_behind c cs (0 + length t + 1) ts (All-tail (Stands cs) (part_at 0 t) (parts_from (0 + length t + 1) ts) all) in
    let long : length t ≡ 0 + length t - 0 = omega arith in
    let same : take (length (c ∷ t)) (c ∷ cs) ≡ c ∷ t = ap (λ (xs : List ℕ). c ∷ xs) (ap (λ n. take n cs) long ∙ first.text_is) in
    let further : 1 + (0 + length t + 1) ≡ 0 + length (c ∷ t) + 1 = omega arith in
    let Q : ℕ → Type 0 = λ s. All (Stands (c ∷ cs)) (parts_from s ts) in
    All-cons (Stands (c ∷ cs)) (part_at 0 (c ∷ t)) (parts_from (0 + length (c ∷ t) + 1) ts) (stands_first (c ∷ cs) (c ∷ t) (omega (arith, first.within)) same) (subst Q further others)

-- the parts of a text stand in it
pub stand-slice_split : (p : ℕ → Bool) (text : List ℕ) → All (Stands text) (parts_from 0 (slice_split p text))
stand-slice_split p [] = All-cons (Stands []) _ [] (stands_first [] [] (omega arith) refl) (All-nil (Stands []))
stand-slice_split p (c ∷ cs) =
    let rest = stand-slice_split p cs in
    elim (cases_Bool (p c)) [
      | inl e ↦ rw e (All-cons (Stands (c ∷ cs)) (part_at 0 []) (parts_from 1 (slice_split p cs)) (stands_first (c ∷ cs) [] (omega arith) refl) (all_behind c cs 0 (slice_split p cs) rest))
      | inr e ↦ rw e (stand_onto_first c cs (slice_split p cs) rest)
    ]

-- the first of more than the first few are the first few
pub take_take : (b n : ℕ) (xs : List ℕ) → b ≤ n → take b (take n xs) ≡ take b xs
take_take zero n xs less = refl
take_take (suc b) zero xs less = absurd (omega arith)
take_take (suc b) (suc n) [] less = refl
take_take (suc b) (suc n) (x ∷ xs) less = ap (λ (ys : List ℕ). x ∷ ys) (take_take b n xs (omega arith))

-- The front of a text: its first few bytes, or all.
pub record IsFront (text front : List ℕ) : Type 0 where
  pub count : ℕ
  pub front_is : front ≡ take count text

-- the front of a front is one
pub front-take : (text front : List ℕ) (n : ℕ) → IsFront text front → IsFront text (take n front)
front-take text front n f =
    elim (cases_lt f.count n) [
      | inl less ↦ record { count = f.count; front_is = ap (take n) f.front_is ∙ take_all n (take f.count text) (omega (arith, length-take f.count text)) }
      | inr more ↦ record { count = n; front_is = ap (take n) f.front_is ∙ take_take n f.count text more }
    ]

-- what stands between two places of the first few
range-take : (n a b : ℕ) (xs : List ℕ) → b ≤ n → slice_range (take n xs) a b ≡ slice_range xs a b
range-take n a b xs less = between_is (take n xs) a b ∙ ap (drop a) (take_take b n xs less) ∙ sym (between_is xs a b)

-- what stands between two places of the front of a part
range-front : (text : List ℕ) (a m n s e : ℕ) → e ≤ m → e ≤ n → slice_range (take n (take m (drop a text))) s e ≡ slice_range text (a + s) (a + e)
range-front text a m n s e few less =
    let long : e - s ≡ (a + e) - (a + s) = omega arith in
    range-take n s e (take m (drop a text)) less ∙ range-take m s e (drop a text) few
    ∙ ap (take (e - s)) (drop-drop s a text)
    ∙ ap (λ k. take k (drop (a + s) text)) long

-- what stands in the front of a part stands in the text, so many places further on
pub stands-moved : (text : List ℕ) (line : Part) (front : List ℕ) (word : Part) → Stands text line → IsFront line.text front → Stands front word → Stands text (moved line.start word)
stands-moved text line front word outer f inner =
    let n = f.count in
    let front_is = f.front_is in
    let m = line.«end» - line.start in
    let line_is : take m (drop line.start text) ≡ line.text = outer.text_is in
    let long = ap length line_is in
    let short = ap length front_is in
    let most = length-take n line.text in
    let fits = length-take m (drop line.start text) in
    record {
      forward = omega (arith, inner.forward);
      within = omega (arith, inner.within, outer.within, outer.forward);
      text_is = sym (range-front text line.start m n word.start word.«end» (omega (arith, inner.within)) (omega (arith, inner.within))) ∙ ap (λ (xs : List ℕ). slice_range (take n xs) word.start word.«end») line_is ∙ ap (λ (xs : List ℕ). slice_range xs word.start word.«end») (sym front_is) ∙ inner.text_is;
    }
