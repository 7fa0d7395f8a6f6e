-- A text that stood before, one text after another.
use Rattle.std.proofs.Common.{◌≡◌, ℕ, ◌+◌, ◌<◌, ◌≤◌, Bool, true, false, ◌||◌, cond, List, [], ◌∷◌, length, get_or, take, drop, Some, None, add-one, arith, refl, sym}
use Rattle.std.proofs.lemmas.List.{length-take-le, take_more}
use Rattle.std.proofs.Math.ListN.{drop_of_length-le}
use Rattle.std.proofs.Math.Seq.{drop-cons}
use Rattle.std.proofs.lemmas.List.Folds.{list_any-append}
use Rattle.std.specs.List.{list_any}
use Rattle.std.specs.Str.{bytes_eq}
use Rattle.cpl_base.specs.Words.{repeat_behind}

-- whether a text stands among others
abbrev pub stands : List ℕ → List (List ℕ) → Bool
stands text among = list_any (λ other. bytes_eq other text) among

-- the text at a place stood before
pub repeat_behind-seen : (among : List (List ℕ)) (k : ℕ) (text : List ℕ) → k < length among → text ≡ get_or among k text → stands text (take k among) ≡ true → repeat_behind (take k among) (drop k among) ≡ Some k
repeat_behind-seen among k text inside is seen =
    let few = length-take-le k among (omega arith) in
    rw (drop-cons among k text, sym is, seen, few) refl

-- it didn't
pub repeat_behind-new : (among : List (List ℕ)) (k : ℕ) (text : List ℕ) → k < length among → text ≡ get_or among k text → stands text (take k among) ≡ false → repeat_behind (take k among) (drop k among) ≡ repeat_behind (take (k + 1) among) (drop (k + 1) among)
repeat_behind-new among k text inside is new =
    rw (drop-cons among k text, sym is, new, take_more among k text inside, sym is, add-one) refl

-- no text did
pub repeat_behind-end : (among : List (List ℕ)) (k : ℕ) → length among ≤ k → repeat_behind (take k among) (drop k among) ≡ None
repeat_behind-end among k over = rw (drop_of_length-le among over) refl

-- a test holds of one, or of one more behind others
or-more : (more front : Bool) → (front || (more || false)) ≡ cond more true front
or-more true true = refl
or-more true false = refl
or-more false true = refl
or-more false false = refl

-- whether a text stands among others and one more behind them
pub stands-push : (q : List ℕ) (among : List (List ℕ)) (k : ℕ) (text : List ℕ) → k < length among → text ≡ get_or among k text → cond (bytes_eq text q) true (stands q (take k among)) ≡ stands q (take (k + 1) among)
stands-push q among k text inside is =
    rw (take_more among k text inside, sym is, list_any-append (λ other. bytes_eq other q) (take k among) (text ∷ [])) (sym (or-more (bytes_eq text q) (stands q (take k among))))
