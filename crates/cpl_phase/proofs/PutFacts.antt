-- New values put in place, of a block and of a whole component.
use Rattle.std.proofs.Common.{◌≡◌, ◌≢◌, ℕ, suc, ◌+◌, ◌<◌, ◌≤◌, List, [], ◌∷◌, ℤ, add-one, drop, get_or, length, map, refl, set, sym, ap, subst, ◌∙◌, inl, inr, arith}
use Rattle.std.proofs.lemmas.Bool.{cases_eq}
use Rattle.std.proofs.Math.Seq.{drop-cons}
use Rattle.std.proofs.lemmas.List.{drop-set-lt, get_or-set_other, get_or-set_same, length-set}
use Rattle.std.proofs.lemmas.List.Elements.{All-head, All-set, All-tail}
use Rattle.cpl_base.specs.Numbers.{IsValue}
use Rattle.std.specs.List.{All}
use Rattle.cpl_block.specs.Frames.{places_in, values_in}
use Rattle.cpl_block.specs.Laws.{IsFraming}
use Rattle.cpl_block.specs.declared.frame.Frame.{Frame}
use Rattle.cpl_comp.proofs.ChangeFacts.{changed-here, changed-other, length-changed}
use Rattle.cpl_comp.specs.Worlds.{FieldWorld, cell_value, changed, field_at as world_at, no_field}
use Rattle.cpl_comp.specs.Writes.{Write, all_written, written}
use Rattle.cpl_sweep.specs.Places.{field_at}
use Rattle.cpl_phase.specs.Puts.{AreBack, all_put}
use Rattle.cpl_phase.specs.Refreshed.{AreOnBlock}
use Rattle.cpl_phase.proofs.RefreshedFacts.{on-block-set}
use Rattle.cpl_phase.specs.Worlds.{AreWritten, HoldFields, IsWritten, block_values}

module _ (frame : Frame) (count : ℕ) (laws : IsFraming frame) where
  -- one write
  pub put-one : (write : Write) (world : List FieldWorld) (other : List ℤ) (fields : List (List ℤ)) → write.field < count → count ≤ length fields
      → HoldFields frame count world fields → IsWritten frame write other
      → HoldFields frame count (written world write) (set fields write.field other)
  put-one write world other fields below long hold is =
      let change : FieldWorld → FieldWorld = λ field. record field { values = write.values } in
      let k = write.field in
      let inside : k < length world = omega (arith, hold.number, below) in
      let there : k < length fields = omega (arith, long, below) in
      record {
        number = length-changed change k world ∙ hold.number;
        values = λ j within. elim (cases_eq j k) [
          | inl same ↦
              let Q : ℕ → Type 0 = λ n. values_in frame (field_at (set fields k other) n) ≡ block_values frame
              (world_at (changed change k world) n) in
              subst Q (sym same)
              (ap (values_in frame) (get_or-set_same fields k other [] there)
              ∙ laws.listed (cell_value write.values) other is
              ∙ ap (block_values frame) (sym (changed-here change k world no_field inside)))
          | inr not ↦
              ap (values_in frame) (get_or-set_other fields k j other [] not)
              ∙ hold.values j within
              ∙ ap (block_values frame) (sym (changed-other change k j world no_field not))
        ];
      }

  -- all writes
  pub put-all : (writes : List Write) (world : List FieldWorld) (others fields : List (List ℤ)) → All (λ write. write.field < count) writes
      → count ≤ length fields → HoldFields frame count world fields → AreWritten frame writes others
      → HoldFields frame count (all_written world writes) (all_put (map (λ write. write.field) writes) others fields)
  put-all [] world others fields below long hold are = hold
  put-all (write ∷ writes) world [] fields below long hold are = absurd are
  put-all (write ∷ writes) world (other ∷ others) fields below long hold are =
      let Below : Write → Type 0 = λ write. write.field < count in
      put-all writes (written world write) others (set fields write.field other) (All-tail Below write writes below)
      (rw length-set long)
      (put-one write world other fields (All-head Below write writes below) long hold are.0) are.1

-- ---- lengths, values and other places

-- what is put and what comes back
pub back-more : (fields0 others0 fields others : List (List ℤ)) (k j : ℕ) → k < length fields → j < length others → AreBack fields0 others0 others
    → AreBack others0 fields0 fields → AreBack fields0 others0 (set others j (get_or fields k []))
back-more fields0 others0 fields others k j at inside back there = record {
  places = λ n all all_others. All-set (λ field. length field ≡ n) others j (get_or fields k []) (there.places n all_others all k [] at)
      (back.places n all all_others);
  values = λ all all_others. All-set (All IsValue) others j (get_or fields k []) (there.values all_others all k [] at) (back.values all all_others);
}

-- fields with others in their places are as many, as long, and of values
pub on-block-put : (frame : Frame) (number count : ℕ) (targets : List ℕ) (others fields : List (List ℤ)) → AreOnBlock frame number others
    → AreOnBlock frame count fields → AreOnBlock frame count (all_put targets others fields)
on-block-put frame number count [] others fields on_others on = on
on-block-put frame number count (k ∷ ks) [] fields on_others on = on
on-block-put frame number count (k ∷ ks) (other ∷ others) fields on_others on =
    let Long : List ℤ → Type 0 = λ field. length field ≡ places_in frame in
    let Within : List ℤ → Type 0 = All IsValue in
    let rest : AreOnBlock frame (length others) others =
    record { count = refl; places = All-tail Long other others on_others.places; values = All-tail Within other others on_others.values } in
    on-block-put frame (length others) count ks others (set fields k other) rest
    (on-block-set frame count fields k other on (All-head Long other others on_others.places) (All-head Within other others on_others.values))

-- a field that nothing is put in the place of stays
pub put-other : (count k : ℕ) (targets : List ℕ) (others fields : List (List ℤ)) → All (λ target. target < count) targets → count ≤ k
    → field_at (all_put targets others fields) k ≡ field_at fields k
put-other count k [] others fields below past = refl
put-other count k (target ∷ targets) [] fields below past = refl
put-other count k (target ∷ targets) (other ∷ others) fields below past =
    let Below : ℕ → Type 0 = λ target. target < count in
    let first : target < count = All-head Below target targets below in
    let not : k ≢ target = λ same. absurd (omega (arith, same, first)) in
    put-other count k targets others (set fields target other) (All-tail Below target targets below) past
    ∙ get_or-set_other fields target k other [] not

-- ---- one row

-- what is left to put, once one more is put
pub put-more : {A : Type 0} (target : A → ℕ) (rows : List A) (others fields : List (List ℤ)) (j : ℕ) (row : A) (next : List ℤ) → j < length rows
    → j < length others
    → all_put (map target (drop (j + 1) rows)) (drop (j + 1) (set others j next)) (set fields (target (get_or rows j row)) (get_or others j []))
    ≡ all_put (map target (drop j rows)) (drop j others) fields
put-more target rows others fields j row next inside there =
    let later : drop (j + 1) (set others j next) ≡ drop (suc j) others = drop-set-lt (j + 1) others j next (omega arith)
    ∙ ap (λ n. drop n others) (add-one j) in
    (λ i. all_put (map target (drop (add-one j i) rows)) (later i) (set fields (target (get_or rows j row)) (get_or others j [])))
    ∙ sym (λ i. all_put (map target (drop-cons rows j row inside i)) (drop-cons others j [] there i) fields)

-- the same of places
pub put-place : (places : List ℕ) (others fields : List (List ℤ)) (j d : ℕ) (next : List ℤ) → j < length places → j < length others
    → all_put (drop (j + 1) places) (drop (j + 1) (set others j next)) (set fields (get_or places j d) (get_or others j []))
    ≡ all_put (drop j places) (drop j others) fields
put-place places others fields j d next inside there =
    let later : drop (j + 1) (set others j next) ≡ drop (suc j) others = drop-set-lt (j + 1) others j next (omega arith)
    ∙ ap (λ n. drop n others) (add-one j) in
    (λ i. all_put (drop (add-one j i) places) (later i) (set fields (get_or places j d) (get_or others j [])))
    ∙ sym (λ i. all_put (drop-cons places j d inside i) (drop-cons others j [] there i) fields)
