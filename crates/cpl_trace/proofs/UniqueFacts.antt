-- There is one list only that rows are merged to.
use Rattle.std.proofs.Common.{◌≡◌, ℕ, ℤ, pos, ◌+ℤ◌, Bool, true, false, ◌||◌, List, [], ◌∷◌, refl, subst, sym, ap, ◌∙◌, arith, inl, inr, cond}
use Rattle.std.specs.List.{All}
use Rattle.std.proofs.lemmas.Bool.{cases_Bool, false≢true}
use Rattle.std.proofs.lemmas.Int.{ints}
use Rattle.std.proofs.lemmas.List.Elements.{All-head, All-tail, All-weaker}
use Rattle.cpl_trace.specs.Merging.{IsMerged}
use Rattle.cpl_trace.specs.Rows.{AgreesWith, IsAscending, IsLike, has_row, is_at, is_before, sum_at}
use Rattle.cpl_trace.specs.declared.row.TraceRow.{TraceRow}
use Rattle.cpl_trace.proofs.OrderFacts.{HasKeyOf, HasKeyOf-neither, is_at-behind, is_at-itself, is_before-trans, key-of}

-- no row behind one is of its operation and field
none-behind : (row : TraceRow) (rows : List TraceRow) → All (λ later. is_before row later ≡ true) rows → has_row row.op row.field rows ≡ false
none-behind row [] all = refl
none-behind row (later ∷ rows) all =
    ap (λ t. t || has_row row.op row.field rows) (is_at-behind row later (All-head (λ x. is_before row x ≡ true) later rows all))
    ∙ none-behind row rows (All-tail (λ x. is_before row x ≡ true) later rows all)

-- where no row is, the sum is 0
part-none : (is : Bool) (sum : ℤ) → is ≡ false → cond is sum (pos 0) ≡ pos 0
part-none is sum isnt = ap (λ t. cond t sum (pos 0)) isnt

or-left : (a b : Bool) → (a || b) ≡ false → a ≡ false
or-left true b isnt = absurd (false≢true (sym isnt))
or-left false b isnt = refl

or-right : (a b : Bool) → (a || b) ≡ false → b ≡ false
or-right true b isnt = absurd (false≢true (sym isnt))
or-right false b isnt = isnt

or-true : (a b : Bool) → b ≡ true → (a || b) ≡ true
or-true true b holds = refl
or-true false b holds = holds

plus-none : (a b : ℤ) → a ≡ pos 0 → b ≡ pos 0 → a +ℤ b ≡ pos 0
plus-none a b first second = omega (arith, ints)

sum_at-none : (op field : ℕ) (rows : List TraceRow) → has_row op field rows ≡ false → sum_at op field rows ≡ pos 0
sum_at-none op field [] none = refl
sum_at-none op field (row ∷ rows) none =
    plus-none (cond (is_at op field row) row.sum (pos 0)) (sum_at op field rows) (part-none (is_at op field row) row.sum (or-left (is_at op field row) (has_row op field rows) none)) (sum_at-none op field rows (or-right (is_at op field row) (has_row op field rows) none))

-- a list that begins with a row has its key
has_row-first : (row : TraceRow) (rows : List TraceRow) → has_row row.op row.field (row ∷ rows) ≡ true
has_row-first row rows = ap (λ t. t || has_row row.op row.field rows) (is_at-itself row)

-- a list whose first row is behind one doesn't have the key of that one
has_row-behind : (row other : TraceRow) (others : List TraceRow) → is_before row other ≡ true → IsAscending (other ∷ others) → has_row row.op row.field (other ∷ others) ≡ false
has_row-behind row other others first sorted =
    ap (λ t. t || has_row row.op row.field others) (is_at-behind row other first)
    ∙ none-behind row others (All-weaker (λ x. is_before other x ≡ true) (λ x. is_before row x ≡ true) (λ x is. is_before-trans row other x first is) others sorted.0)

-- two rows of one key that agree with given rows, of which one has that key, are like each other
IsLike-given : (given : List TraceRow) (a b : TraceRow) → HasKeyOf a b → AgreesWith given a → AgreesWith given b → has_row a.op a.field given ≡ true → IsLike a b
IsLike-given [] a b same at_a at_b has = absurd (false≢true has)
IsLike-given (one ∷ given) a b same at_a at_b has = elim (cases_Bool (is_at a.op a.field one)) [
  | inl holds ↦
      let first = All-head (λ other. is_at a.op a.field other ≡ true → IsLike a other) one given at_a holds in
      let second = All-head (λ other. is_at b.op b.field other ≡ true → IsLike b other) one given at_b (sym (λ i. is_at (same.op i) (same.field i) one) ∙ holds) in
      record {
        op = first.op ∙ sym second.op;
        component = first.component ∙ sym second.component;
        phase = first.phase ∙ sym second.phase;
        field = first.field ∙ sym second.field;
        stamp = first.stamp ∙ sym second.stamp;
      }
  | inr isnt ↦
      IsLike-given given a b same (All-tail (λ other. is_at a.op a.field other ≡ true → IsLike a other) one given at_a) (All-tail (λ other. is_at b.op b.field other ≡ true → IsLike b other) one given at_b) (sym (ap (λ t. t || has_row a.op a.field given) isnt) ∙ has)
]

plus-zero : (s a b : ℤ) → a ≡ s → b ≡ pos 0 → a +ℤ b ≡ s
plus-zero s a b first second = omega (arith, ints)

-- the sum of a list's first row is that of its key
sum_at-first : (row : TraceRow) (rows : List TraceRow) → All (λ later. is_before row later ≡ true) rows → sum_at row.op row.field (row ∷ rows) ≡ row.sum
sum_at-first row rows all =
    let own = ap (λ t. cond t row.sum (pos 0)) (is_at-itself row) in
    let rest = sum_at-none row.op row.field rows (none-behind row rows all) in
    plus-zero row.sum (cond (is_at row.op row.field row) row.sum (pos 0)) (sum_at row.op row.field rows) own rest

-- what two lists have behind first rows that are equal
cancel : (a b c d : ℤ) → a +ℤ b ≡ c +ℤ d → a ≡ c → b ≡ d
cancel a b c d whole first = omega (arith, ints)

rest-keys : (op field : ℕ) (a : TraceRow) (xs ys : List TraceRow) → All (λ later. is_before a later ≡ true) xs → All (λ later. is_before a later ≡ true) ys → has_row op field (a ∷ xs) ≡ has_row op field (a ∷ ys) → has_row op field xs ≡ has_row op field ys
rest-keys op field a xs ys behind_as behind_bs keys = elim (cases_Bool (is_at op field a)) [
  | inl holds ↦
      let same = key-of op field a holds in
      (λ i. has_row (same.0 i) (same.1 i) xs) ∙ none-behind a xs behind_as ∙ sym (none-behind a ys behind_bs) ∙ sym (λ i. has_row (same.0 i) (same.1 i) ys)
  | inr isnt ↦ sym (ap (λ t. t || has_row op field xs) isnt) ∙ keys ∙ ap (λ t. t || has_row op field ys) isnt
]

-- one list with given keys, sums and columns
unique-rows : (given xs ys : List TraceRow) → IsAscending xs → IsAscending ys → ((op field : ℕ) → has_row op field xs ≡ has_row op field ys) → ((op field : ℕ) → sum_at op field xs ≡ sum_at op field ys) → ((op field : ℕ) → has_row op field xs ≡ true → has_row op field given ≡ true) → All (AgreesWith given) xs → All (AgreesWith given) ys → xs ≡ ys
unique-rows given [] [] sorted_as sorted_bs keys sums known all_as all_bs = refl
unique-rows given [] (b ∷ ys) sorted_as sorted_bs keys sums known all_as all_bs = absurd (false≢true (keys b.op b.field ∙ has_row-first b ys))
unique-rows given (a ∷ xs) [] sorted_as sorted_bs keys sums known all_as all_bs = absurd (false≢true (sym (keys a.op a.field) ∙ has_row-first a xs))
unique-rows given (a ∷ xs) (b ∷ ys) sorted_as sorted_bs keys sums known all_as all_bs = elim (cases_Bool (is_before a b)) [
  | inl first ↦ absurd (false≢true (sym (keys a.op a.field ∙ has_row-behind a b ys first sorted_bs) ∙ has_row-first a xs))
  | inr not_first ↦ elim (cases_Bool (is_before b a)) [
    | inl second ↦ absurd (false≢true (sym (sym (keys b.op b.field) ∙ has_row-behind b a xs second sorted_as) ∙ has_row-first b ys))
    | inr not_second ↦
        let key = HasKeyOf-neither a b not_first not_second in
        let like = IsLike-given given a b key (All-head (AgreesWith given) a xs all_as) (All-head (AgreesWith given) b ys all_bs) (known a.op a.field (has_row-first a xs)) in
        let sum : a.sum ≡ b.sum = sym (sum_at-first a xs sorted_as.0) ∙ sums a.op a.field ∙ (λ i. sum_at (key.op i) (key.field i) (b ∷ ys)) ∙ sum_at-first b ys sorted_bs.0 in
        let same : a ≡ b = λ i. record { op = like.op i; component = like.component i; phase = like.phase i; field = like.field i; stamp = like.stamp i; sum = sum i } in
        let P : TraceRow → Type 0 = λ x. All (λ later. is_before x later ≡ true) ys in
        let behind_bs = subst P (sym same) sorted_bs.0 in
        let rest = unique-rows given xs ys sorted_as.1 sorted_bs.1
        (λ op field. rest-keys op field a xs ys sorted_as.0 behind_bs (keys op field ∙ sym (ap (λ x. has_row op field (x ∷ ys)) same)))
        (λ op field. cancel (cond (is_at op field a) a.sum (pos 0)) (sum_at op field xs) (cond (is_at op field b) b.sum (pos 0)) (sum_at op field ys) (sums op field) (ap (λ (x : TraceRow). cond (is_at op field x) x.sum (pos 0)) same))
        (λ op field has. known op field (or-true (is_at op field a) (has_row op field xs) has))
        (All-tail (AgreesWith given) a xs all_as)
        (All-tail (AgreesWith given) b ys all_bs) in
        λ i. same i ∷ rest i
  ]
]

-- two lists that given rows are merged to are equal
pub IsMerged-unique : (given xs ys : List TraceRow) → IsMerged given xs → IsMerged given ys → xs ≡ ys
IsMerged-unique given xs ys first second =
    unique-rows given xs ys first.ascending second.ascending (λ op field. first.keys op field ∙ sym (second.keys op field)) (λ op field. first.sums op field ∙ sym (second.sums op field)) (λ op field has. sym (first.keys op field) ∙ has) first.columns second.columns
