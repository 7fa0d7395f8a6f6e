-- The factors of records up to the first that is faulty by itself, and what they say of a file.
use Rattle.std.proofs.Common.{◌≡◌, ◌∙◌, ℕ, suc, ◌+◌, ◌<◌, ◌≤◌, ◌==◌, ◌&&◌, not, Bool, true, false, if◌then◌else◌, nat_le, List, [], ◌∷◌, ◌++◌, length, Option, Some, None, Result, Ok, Err, refl, sym, ap, subst, inl, inr, arith, append_assoc, ℤ}
use Rattle.std.proofs.lemmas.Bool.{and_parts, cases_Bool, cases_lt, eq-eqb, eqb-true, false≢true, leb-true}
use Rattle.std.proofs.lemmas.List.{append-nil}
use Rattle.std.specs.List.{list_any}
use Rattle.cpl_base.specs.Numerals.{number_word, numeral_of}
use Rattle.cpl_base.specs.ResultChain.{◌>>=◌, ok_if}
use Rattle.cpl_base.specs.declared.value.ValFault.{ValFault}
use Rattle.cpl_base.specs.declared.value.ValFault.TheVariants.{Digits, Places, Range}
use Rattle.cpl_base.proofs.NumeralsFacts.{numeral_of-bound}
use Rattle.cpl_smm.specs.Files.{factors_with}
use Rattle.cpl_smm.specs.Kept.{Judged, judged_from, judged_step, kept_answer, kept_factor, kept_from, pair_number, pair_of}
use Rattle.cpl_smm.specs.Records.{Factor, IsWeight, fields_from, fields_in, greatest_weight, is_cell, most_records, record_factor, value_or, weight_in_range}
use Rattle.cpl_smm.specs.Rows.{is_pair}
use Rattle.cpl_smm.specs.declared.entries.KeptFactor.{KeptFactor}
use Rattle.cpl_smm.specs.declared.fault.WeightFault.{WeightFault}
use Rattle.cpl_smm.specs.declared.fault.WeightFault.TheVariants.{BadRecord, IndexRange, PairTwice, WeightRange}
use Rattle.cpl_smm.specs.declared.records.Fields.{Fields}
use Rattle.cpl_smm.proofs.MemberFacts.{IsIn, is_in-either, is_in-left, is_in-right}
use Rattle.cpl_smm.proofs.RepeatFacts.{IsLeastRepeat, IsRepeat}

-- ---- one record

-- a factor with its number
pub step-factors : (n : ℕ) (r : Result Factor WeightFault) (more : Judged) (kept : KeptFactor) → Ok kept ≡ kept_answer n r
    → kept_from n (judged_step r more).factors ≡ kept ∷ kept_from (n + 1) more.factors
step-factors n (Ok factor) more kept is = let same : kept_factor n factor ≡ kept = cc in ap (λ k. k ∷ kept_from (n + 1) more.factors) same
step-factors n (Err fault) more kept is = absurd (cc)

-- a fault behind a factor
pub step-fault : (n : ℕ) (r : Result Factor WeightFault) (more : Judged) (kept : KeptFactor) → Ok kept ≡ kept_answer n r → (judged_step r more).fault ≡ more.fault
step-fault n (Ok factor) more kept is = refl
step-fault n (Err fault) more kept is = absurd (cc)

-- a factor that is kept
pub kept_answer-ok : (n : ℕ) (r : Result Factor WeightFault) (kept : KeptFactor) → Ok kept ≡ kept_answer n r → (factor : Factor) × (r ≡ Ok factor)
kept_answer-ok n (Ok factor) kept is = (factor, refl)
kept_answer-ok n (Err fault) kept is = absurd (cc)

-- Cells of so many, and a weight in range.
pub record IsFactor (src_cells dst_cells : ℕ) (factor : Factor) : Type 0 where
  pub src_from : 1 ≤ factor.src
  pub src_within : factor.src ≤ src_cells
  pub dst_from : 1 ≤ factor.dst
  pub dst_within : factor.dst ≤ dst_cells
  pub weight : IsWeight factor.weight

-- a weight that is in range
weight_in_range-is : (r : Result ℤ ValFault) (w : ℤ) → weight_in_range r ≡ Some (Some w) → r ≡ Ok w
weight_in_range-is (Ok z) w is = let same : z ≡ w = cc in ap Ok same
weight_in_range-is (Err Range) w is = absurd (cc)
weight_in_range-is (Err Digits) w is = absurd (cc)
weight_in_range-is (Err Places) w is = absurd (cc)

-- the weight of three fields
fields_from-weight : (src dst : Option ℕ) (weight : Option (Option ℤ)) (f : Fields) → fields_from src dst weight ≡ Some f → weight ≡ Some f.weight
fields_from-weight None dst weight f is = absurd (cc)
fields_from-weight (Some src) None weight f is = absurd (cc)
fields_from-weight (Some src) (Some dst) None f is = absurd (cc)
fields_from-weight (Some src) (Some dst) (Some weight) f is =
    let same : record { src = src; dst = dst; weight = weight } ≡ f = cc in ap (λ (f : Fields). Some f.weight) same

-- a weight that was read is in range
fields_in-weight : (fields : List (List ℕ)) (f : Fields) (w : ℤ) → fields_in fields ≡ Some f → f.weight ≡ Some w → IsWeight w
fields_in-weight [] f w is weight = absurd (cc)
fields_in-weight (a ∷ []) f w is weight = absurd (cc)
fields_in-weight (a ∷ b ∷ []) f w is weight = absurd (cc)
fields_in-weight (a ∷ b ∷ c ∷ []) f w is weight =
    let read = fields_from-weight (number_word a) (number_word b) (weight_in_range (numeral_of 9 greatest_weight c)) f is in
    let ok = weight_in_range-is (numeral_of 9 greatest_weight c) w (read ∙ ap Some weight) in
    rw ok at (numeral_of-bound 9 greatest_weight c)
fields_in-weight (a ∷ b ∷ c ∷ d ∷ more) f w is weight = absurd (cc)

-- what a record says is in range, and its number too
pub record_factor-ok : (src_cells dst_cells n : ℕ) (fields : List (List ℕ)) (factor : Factor) → record_factor src_cells dst_cells n fields ≡ Ok factor
    → IsFactor src_cells dst_cells factor × (n ≤ most_records)
unfolding record_factor
record_factor-ok src_cells dst_cells n fields factor is =
    elim (cases_Bool (nat_le n most_records)) [
      | inl few ↦ (with_fields (fields_in fields) refl (rw few at is), leb-true n most_records few)
      | inr many ↦ let e = rw many at is in absurd (cc)
    ]
  where
    with_weight : (f : Fields) → fields_in fields ≡ Some f → is_cell src_cells f.src ≡ true → is_cell dst_cells f.dst ≡ true → (weight : Option ℤ) → f.weight ≡ weight
        → (value_or (WeightRange n) weight >>= (λ weight. Ok (record { src = f.src; dst = f.dst; weight = weight }))) ≡ Ok factor → IsFactor src_cells dst_cells factor
    with_weight f here src dst None there is = absurd (cc)
    with_weight f here src dst (Some weight) there is =
        let same : record { src = f.src; dst = f.dst; weight = weight } ≡ factor = cc in
        let s = and_parts (nat_le 1 f.src) (nat_le f.src src_cells) src in
        let d = and_parts (nat_le 1 f.dst) (nat_le f.dst dst_cells) dst in
        let P : Factor → Type 0 = λ factor. IsFactor src_cells dst_cells factor in
        subst P same (record {
          src_from = leb-true 1 f.src s.0;
          src_within = leb-true f.src src_cells s.1;
          dst_from = leb-true 1 f.dst d.0;
          dst_within = leb-true f.dst dst_cells d.1;
          weight = fields_in-weight fields f weight here there;
        })

    with_fields : (o : Option Fields) → fields_in fields ≡ o
        → (value_or (BadRecord n) o >>= (λ f. ok_if (is_cell src_cells f.src && is_cell dst_cells f.dst) (IndexRange n) >>= (λ _. value_or (WeightRange n) f.weight >>= (λ weight.
        Ok (record { src = f.src; dst = f.dst; weight = weight }))))) ≡ Ok factor → IsFactor src_cells dst_cells factor
    with_fields None here is = absurd (cc)
    with_fields (Some f) here is =
        elim (cases_Bool (is_cell src_cells f.src && is_cell dst_cells f.dst)) [
          | inl cells ↦
              let both = and_parts (is_cell src_cells f.src) (is_cell dst_cells f.dst) cells in
              with_weight f here both.0 both.1 f.weight refl (rw cells at is)
          | inr other ↦ let e = rw other at is in absurd (cc)
        ]

-- ---- all records

-- a factor of one record, or of those behind it
judged-factor-step : (src_cells dst_cells n : ℕ) (fields : List (List ℕ)) (rest : Judged) (factor : Factor) → (IsIn factor rest.factors → IsFactor src_cells dst_cells factor)
    → (r : Result Factor WeightFault) → record_factor src_cells dst_cells n fields ≡ r → IsIn factor (judged_step r rest).factors → IsFactor src_cells dst_cells factor
judged-factor-step src_cells dst_cells n fields rest factor later (Err fault) is here = absurd here
judged-factor-step src_cells dst_cells n fields rest factor later (Ok first) is (inl same) =
    let P : Factor → Type 0 = λ factor. IsFactor src_cells dst_cells factor in subst P (sym same) (record_factor-ok src_cells dst_cells n fields first is).0
judged-factor-step src_cells dst_cells n fields rest factor later (Ok first) is (inr there) = later there

-- the factors are in range
pub judged-factor : (src_cells dst_cells n : ℕ) (left : List (List (List ℕ))) (factor : Factor) → IsIn factor (judged_from src_cells dst_cells n left).factors
    → IsFactor src_cells dst_cells factor
judged-factor src_cells dst_cells n [] factor here = absurd here
judged-factor src_cells dst_cells n (fields ∷ more) factor here =
    judged-factor-step src_cells dst_cells n fields (judged_from src_cells dst_cells (n + 1) more) factor (judged-factor src_cells dst_cells (n + 1) more factor)
    (record_factor src_cells dst_cells n fields) refl here

-- one factor more, or none
judged-few-step : (src_cells dst_cells n : ℕ) (fields : List (List ℕ)) (rest : Judged) → n ≤ most_records + 1
    → (n + 1 ≤ most_records + 1 → (n + 1) + length rest.factors ≤ most_records + 1)
    → (r : Result Factor WeightFault) → record_factor src_cells dst_cells n fields ≡ r → n + length (judged_step r rest).factors ≤ most_records + 1
judged-few-step src_cells dst_cells n fields rest few later (Err fault) is = omega arith
judged-few-step src_cells dst_cells n fields rest few later (Ok first) is =
    let within = (record_factor-ok src_cells dst_cells n fields first is).1 in
    let so_far = later (omega (arith, within)) in
    omega (arith, so_far)

-- there are not too many
pub judged-few : (src_cells dst_cells n : ℕ) (left : List (List (List ℕ))) → n ≤ most_records + 1
    → n + length (judged_from src_cells dst_cells n left).factors ≤ most_records + 1
judged-few src_cells dst_cells n [] few = omega arith
judged-few src_cells dst_cells n (fields ∷ more) few =
    judged-few-step src_cells dst_cells n fields (judged_from src_cells dst_cells (n + 1) more) few (judged-few src_cells dst_cells (n + 1) more)
    (record_factor src_cells dst_cells n fields) refl

-- ---- repeats

-- the number of the first factor that has the cells of one of these or of an earlier one
abbrev pub repeat_behind : List Factor → List Factor → Option ℕ
repeat_behind before [] = None
repeat_behind before (factor ∷ factors) =
    if list_any (is_pair factor.src factor.dst) before then Some (length before + 1) else repeat_behind (before ++ factor ∷ []) factors

-- a repeat comes before a fault
abbrev pub repeat_or : Option ℕ → Result (List Factor) WeightFault → Result (List Factor) WeightFault
repeat_or (Some n) other = Err (PairTwice n)
repeat_or None other = other

-- a fault, or the factors
abbrev pub fault_or : Option WeightFault → List Factor → Result (List Factor) WeightFault
fault_or (Some fault) factors = Err fault
fault_or None factors = Ok factors

-- what factors and a fault say behind earlier factors
abbrev pub answer_behind : List Factor → Judged → Result (List Factor) WeightFault
answer_behind before judged = repeat_or (repeat_behind before judged.factors) (fault_or judged.fault (before ++ judged.factors))

-- a number more
length-more : (before : List Factor) (factor : Factor) → length (before ++ factor ∷ []) ≡ length before + 1
length-more [] factor = refl
length-more (first ∷ before) factor = omega (arith, length-more before factor)

-- what one record says, and those behind it
factors_with-step : (src_cells dst_cells : ℕ) (before : List Factor) (more : List (List (List ℕ))) (rest : Judged)
    → ((factor : Factor) → factors_with src_cells dst_cells (before ++ factor ∷ []) more ≡ answer_behind (before ++ factor ∷ []) rest)
    → (r : Result Factor WeightFault)
    → ((r >>= (λ factor. ok_if (not (list_any (is_pair factor.src factor.dst) before)) (PairTwice (length before + 1)) >>= (λ _. Ok factor)))
    >>= (λ factor. factors_with src_cells dst_cells (before ++ factor ∷ []) more))
    ≡ answer_behind before (judged_step r rest)
factors_with-step src_cells dst_cells before more rest later (Err fault) = refl
factors_with-step src_cells dst_cells before more rest later (Ok factor) = elim (cases_Bool (list_any (is_pair factor.src factor.dst) before)) [
  | inl there ↦ rw there refl
  | inr none ↦ rw none (
      later factor
      ∙ ap (λ all. repeat_or (repeat_behind (before ++ factor ∷ []) rest.factors) (fault_or rest.fault all)) (append_assoc before (factor ∷ []) rest.factors)
      )
]

-- what the records of a file say
pub factors_with-judged : (src_cells dst_cells : ℕ) (before : List Factor) (left : List (List (List ℕ)))
    → factors_with src_cells dst_cells before left ≡ answer_behind before (judged_from src_cells dst_cells (length before + 1) left)
factors_with-judged src_cells dst_cells before [] = ap Ok (sym (append-nil before))
factors_with-judged src_cells dst_cells before (fields ∷ more) =
    factors_with-step src_cells dst_cells before more (judged_from src_cells dst_cells ((length before + 1) + 1) more)
    (λ factor.
    factors_with-judged src_cells dst_cells (before ++ factor ∷ []) more
    ∙ ap (λ m. answer_behind (before ++ factor ∷ []) (judged_from src_cells dst_cells (m + 1) more)) (length-more before factor))
    (record_factor src_cells dst_cells (length before + 1) fields)

-- kept factors of two lists
kept_from-append : (n : ℕ) (xs ys : List Factor) → kept_from n (xs ++ ys) ≡ kept_from n xs ++ kept_from (n + length xs) ys
kept_from-append n [] ys = let same : n ≡ n + 0 = omega arith in ap (λ m. kept_from m ys) same
kept_from-append n (x ∷ xs) ys =
    let same : (n + 1) + length xs ≡ n + suc (length xs) = omega arith in
    ap (λ ks. kept_factor n x ∷ ks) (kept_from-append (n + 1) xs ys ∙ ap (λ m. kept_from (n + 1) xs ++ kept_from m ys) same)

-- numbers follow one another
pub kept_from-number : (n : ℕ) (xs : List Factor) (k : KeptFactor) → IsIn k (kept_from n xs) → (n ≤ k.number) × (k.number < n + length xs)
kept_from-number n [] k here = absurd here
kept_from-number n (x ∷ xs) k (inl same) = let number : k.number ≡ n = ap (λ (k : KeptFactor). k.number) same in (omega (arith, number), omega (arith, number))
kept_from-number n (x ∷ xs) k (inr there) = let (from, to) = kept_from-number (n + 1) xs k there in (omega (arith, from), omega (arith, to))

-- a factor is kept
kept_from-in : (n : ℕ) (xs : List Factor) (x : Factor) → IsIn x xs → (m : ℕ) × IsIn (kept_factor m x) (kept_from n xs)
kept_from-in n [] x here = absurd here
kept_from-in n (y ∷ xs) x (inl same) = (n, inl (ap (kept_factor n) same))
kept_from-in n (y ∷ xs) x (inr there) = let (m, here) = kept_from-in (n + 1) xs x there in (m, inr here)

-- what is kept is a factor
pub kept_from-of : (n : ℕ) (xs : List Factor) (k : KeptFactor) → IsIn k (kept_from n xs) → (x : Factor) × IsIn x xs × (k ≡ kept_factor k.number x)
kept_from-of n [] k here = absurd here
kept_from-of n (y ∷ xs) k (inl same) = (y, inl refl, same ∙ ap (λ m. kept_factor m y) (sym (ap (λ (k : KeptFactor). k.number) same)))
kept_from-of n (y ∷ xs) k (inr there) = let (x, here, is) = kept_from-of (n + 1) xs k there in (x, inr here, is)

-- a test that holds of some member
any-found : (p : Factor → Bool) (xs : List Factor) → list_any p xs ≡ true → (x : Factor) × IsIn x xs × (p x ≡ true)
any-found p [] holds = absurd (cc)
any-found p (x ∷ xs) holds =
    elim (cases_Bool (p x)) [
      | inl here ↦ (x, inl refl, here)
      | inr other ↦ let e = rw other at holds in let (y, there, passes) = any-found p xs e in (y, inr there, passes)
    ]

-- one that holds of none
any-none : (p : Factor → Bool) (xs : List Factor) (x : Factor) → list_any p xs ≡ false → IsIn x xs → p x ≡ false
any-none p [] x none here = absurd here
any-none p (y ∷ ys) x none here =
    elim (cases_Bool (p y)) [
      | inl passes ↦ let e = rw passes at none in absurd (cc)
      | inr fails ↦ let e = rw fails at none in elim here [ inl same ↦ ap p same ∙ fails | inr there ↦ any-none p ys x e there ]
    ]

-- the same two cells have the same number
pub is_pair-number : (src dst : ℕ) (factor : Factor) → is_pair src dst factor ≡ true → pair_number factor.dst factor.src ≡ pair_number dst src
is_pair-number src dst factor holds =
    let both = and_parts (factor.src == src) (factor.dst == dst) holds in
    let s = eqb-true factor.src src both.0 in
    let d = eqb-true factor.dst dst both.1 in
    omega (arith, s, d)

-- and no others
pub is_pair-from : (src dst : ℕ) (factor : Factor) → src < 4294967296 → factor.src < 4294967296 → pair_number factor.dst factor.src ≡ pair_number dst src
    → is_pair src dst factor ≡ true
is_pair-from src dst factor few small same =
    let s : factor.src ≡ src = omega (arith, same, few, small) in
    let d : factor.dst ≡ dst = omega (arith, same, few, small) in
    rw (eq-eqb factor.src src s) (eq-eqb factor.dst dst d)

-- a factor behind others, as it is kept
abbrev last_kept : List Factor → Factor → KeptFactor
last_kept before factor = kept_factor (1 + length before) factor

-- a factor behind others and further ones, as they are kept
abbrev kept_behind : List Factor → Factor → List Factor → List KeptFactor
kept_behind before factor rest = last_kept before factor ∷ kept_from (1 + length before + 1) rest

-- the numbers up to a factor are those of the factors before it
first-part : (before : List Factor) (factor : Factor) (rest : List Factor) (k : KeptFactor) → IsIn k (kept_from 1 (before ++ factor ∷ rest)) → k.number < length before + 1
    → IsIn k (kept_from 1 before)
first-part before factor rest k here small =
    elim (is_in-either k (kept_from 1 before) (kept_behind before factor rest) (rw (kept_from-append 1 before (factor ∷ rest)) at here)) [
      | inl front ↦ front
      | inr back ↦ let (from, to) = kept_from-number (1 + length before) (factor ∷ rest) k back in absurd (omega (arith, from, small))
    ]

-- a repeat up to a factor is one among those before it
first-repeat : (before : List Factor) (factor : Factor) (rest : List Factor) (a b : KeptFactor) → IsRepeat (kept_from 1 (before ++ factor ∷ rest)) a b
    → b.number < length before + 1 → IsRepeat (kept_from 1 before) a b
first-repeat before factor rest a b repeat small = record {
  earlier = first-part before factor rest a repeat.earlier (omega (arith, repeat.before, small));
  later = first-part before factor rest b repeat.later small;
  same = repeat.same;
  before = repeat.before;
}

-- a factor whose cells none before it has makes no repeat
alone : (before : List Factor) (factor : Factor) → factor.src < 4294967296 → ((x : Factor) → IsIn x before → x.src < 4294967296)
    → ((a b : KeptFactor) → IsRepeat (kept_from 1 before) a b → ⊥)
    → list_any (is_pair factor.src factor.dst) before ≡ false → (a b : KeptFactor) → IsRepeat (kept_from 1 (before ++ factor ∷ [])) a b → ⊥
alone before factor small ranged unique none a b repeat =
    elim (cases_lt b.number (length before + 1)) [
      | inl few ↦ unique a b (first-repeat before factor [] a b repeat few)
      | inr many ↦ elim (is_in-either b (kept_from 1 before) (last_kept before factor ∷ []) (rw (kept_from-append 1 before (factor ∷ [])) at repeat.later)) [
        | inl front ↦ let (from, to) = kept_from-number 1 before b front in omega (arith, to, many)
        | inr end ↦ elim end [
          | inl is ↦
              let number : b.number ≡ 1 + length before = ap (λ (k : KeptFactor). k.number) is in
              let early = first-part before factor [] a repeat.earlier (omega (arith, number, repeat.before)) in
              let (x, here, of) = kept_from-of 1 before a early in
              let fails = any-none (is_pair factor.src factor.dst) before x none here in
              let pair : pair_number x.dst x.src ≡ pair_number factor.dst factor.src =
              sym (ap (λ (k : KeptFactor). pair_of k) of) ∙ repeat.same ∙ ap (λ (k : KeptFactor). pair_of k) is in
              let passes = is_pair-from factor.src factor.dst x small (ranged x here) pair in
              false≢true (sym fails ∙ passes)
          | inr gone ↦ gone
        ]
      ]
    ]

-- the first repeat is the least, where none stands among the factors before
repeat_behind-least : (before rest : List Factor) → ((x : Factor) → IsIn x (before ++ rest) → x.src < 4294967296)
    → ((a b : KeptFactor) → IsRepeat (kept_from 1 before) a b → ⊥)
    → IsLeastRepeat (kept_from 1 (before ++ rest)) (repeat_behind before rest)
repeat_behind-least before [] ranged unique = record {
  found = λ n is. absurd (cc);
  least_of = λ a b repeat. absurd (unique a b (rw (append-nil before) at repeat));
}
repeat_behind-least before (factor ∷ rest) ranged unique =
    let split : kept_from 1 (before ++ factor ∷ rest) ≡ kept_from 1 before ++ kept_behind before factor rest = kept_from-append 1 before (factor ∷ rest) in
    elim (cases_Bool (list_any (is_pair factor.src factor.dst) before)) [
      | inl there ↦ rw there (record {
        found = λ n is.
            let (x, here, passes) = any-found (is_pair factor.src factor.dst) before there in
            let (m, at) = kept_from-in 1 before x here in
            let (from, to) = kept_from-number 1 before (kept_factor m x) at in
            let number : 1 + length before ≡ n = let e : length before + 1 ≡ n = cc in omega (arith, e) in
            let early : IsIn (kept_factor m x) (kept_from 1 (before ++ factor ∷ rest)) =
            rw split (is_in-left (kept_factor m x) (kept_from 1 before) (kept_behind before factor rest) at) in
            let late : IsIn (last_kept before factor) (kept_from 1 (before ++ factor ∷ rest)) =
            rw split (is_in-right (last_kept before factor) (kept_from 1 before) (kept_behind before factor rest) (inl refl)) in
            (kept_factor m x, last_kept before factor, record { earlier = early; later = late; same = is_pair-number factor.src factor.dst x passes; before = to }, number);
        least_of = λ a b repeat. (
          length before + 1,
          refl,
          elim (cases_lt b.number (length before + 1)) [
            | inl small ↦ absurd (unique a b (first-repeat before factor rest a b repeat small))
            | inr large ↦ large
          ],
        );
      })
      | inr none ↦ rw none (
          let again = append_assoc before (factor ∷ []) rest in
          let P : List Factor → Type 0 = λ all. IsLeastRepeat (kept_from 1 all) (repeat_behind (before ++ factor ∷ []) rest) in
          let Q : List Factor → Type 0 = λ all. (x : Factor) → IsIn x all → x.src < 4294967296 in
          subst P again
          (repeat_behind-least (before ++ factor ∷ []) rest (subst Q (sym again) ranged)
          (alone before factor (ranged factor (is_in-right factor before (factor ∷ rest) (inl refl))) (λ x here. ranged x (is_in-left x before (factor ∷ rest) here)) unique none)))
    ]

-- the first repeat of a file is the least
pub repeat-least : (factors : List Factor) → ((x : Factor) → IsIn x factors → x.src < 4294967296) → IsLeastRepeat (kept_from 1 factors) (repeat_behind [] factors)
repeat-least factors ranged = repeat_behind-least [] factors ranged (λ a b repeat. repeat.earlier)
