-- Distinct texts, and one more behind them.
use Rattle.std.proofs.Common.{◌≡◌, ℕ, true, false, inl, inr, List, [], ◌∷◌, ◌++◌, length, Option, Some, None, refl}
use Rattle.std.proofs.lemmas.Bool.{cases_Bool}
use Rattle.std.proofs.lemmas.List.{append_assoc, append-nil}
use Rattle.std.specs.List.{list_any}
use Rattle.std.specs.Option.{is_none}
use Rattle.std.specs.Str.{bytes_eq}
use Rattle.cpl_base.specs.Words.{are_distinct, first_repeat, repeat_behind}

-- no text repeats one before it where one more stands behind them that is none of them
repeat_behind-push : (text : List ℕ) (seen texts : List (List ℕ)) → repeat_behind seen texts ≡ None → list_any (λ other. bytes_eq other text) (seen ++ texts) ≡ false → repeat_behind seen (texts ++ text ∷ []) ≡ None
repeat_behind-push text seen [] none new =
    let here : list_any (λ other. bytes_eq other text) seen ≡ false = rw (append-nil seen) at new in
    rw here refl
repeat_behind-push text seen (t ∷ ts) none new =
    elim (cases_Bool (list_any (λ other. bytes_eq other t) seen)) [
      | inl e ↦ let found : Some (length seen) ≡ None = rw e at none in absurd (cc)
      | inr e ↦
          let rest : repeat_behind (seen ++ t ∷ []) ts ≡ None = rw e at none in
          rw e (repeat_behind-push text (seen ++ t ∷ []) ts rest (rw (append_assoc seen (t ∷ []) ts) new))
    ]

-- nothing is there
none-is : {A : Type 0} (o : Option A) → is_none o ≡ true → o ≡ None
none-is None is = refl
none-is (Some x) is = absurd (cc)

-- distinct texts and one that is none of them
pub are_distinct-push : (texts : List (List ℕ)) (text : List ℕ) → are_distinct texts ≡ true → list_any (λ other. bytes_eq other text) texts ≡ false → are_distinct (texts ++ text ∷ []) ≡ true
are_distinct-push texts text distinct new =
    rw (repeat_behind-push text [] texts (none-is (first_repeat texts) distinct) new) refl
