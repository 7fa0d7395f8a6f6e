-- One assignment or merge more is carried out.
use Rattle.std.proofs.Common.{◌≡◌, ℕ, ◌+◌, ◌<◌, List, [], ℤ, get_or, length, set, sym, ap, subst, ◌∙◌, inl, inr, arith}
use Rattle.std.proofs.lemmas.Bool.{cases_eq}
use Rattle.std.proofs.lemmas.List.{get_or_default, get_or-set_other, get_or-set_same}
use Rattle.cpl_block.specs.declared.frame.Frame.{Frame}
use Rattle.cpl_comp.specs.declared.component.MergeRow.{MergeRow}
use Rattle.cpl_comp.specs.declared.component.SetRow.{SetRow}
use Rattle.cpl_entry.specs.Entries.{NativeEntry}
use Rattle.cpl_sweep.specs.Places.{field_at}
use Rattle.cpl_rule.specs.Assigned.{IsAssigned}
use Rattle.cpl_rule.specs.declared.scene.Scene.{Scene}
use Rattle.cpl_rule.specs.Swept.{IsSwept}
use Rattle.cpl_phase.specs.Assignments.{AreAssignedTo, AreMergedTo}
use Rattle.cpl_phase.specs.Merging.{merge_step}

pub assigned-more : (scene : Scene) (book : List NativeEntry) (rows : List SetRow) (fields others : List (List ℤ)) (j : ℕ) (out : List ℤ)
    (row : SetRow) → j < length rows → j < length others
    → AreAssignedTo j scene book rows fields others → IsAssigned scene book (get_or rows j row).rule fields out
    → AreAssignedTo (j + 1) scene book rows fields (set others j out)
assigned-more scene book rows fields others j out row inside there before made = λ i other below within.
    let P : List ℤ → Type 0 = λ field. IsAssigned scene book (get_or rows i other).rule fields field in
    elim (cases_eq i j) [
      | inl same ↦
          let R : SetRow → Type 0 = λ r. IsAssigned scene book r.rule fields out in
          let at : get_or rows j row ≡ get_or rows i other = get_or_default rows j row other inside ∙ ap (λ n. get_or rows n other) (sym same) in
          let Q : ℕ → Type 0 = λ n. IsAssigned scene book (get_or rows i other).rule fields (field_at (set others j out) n) in
          subst Q (sym same) (subst P (sym (get_or-set_same others j out [] there)) (subst R at made))
      | inr not ↦ subst P (sym (get_or-set_other others j i out [] not)) (before i other (omega arith) within)
    ]

pub merged-more : (frame : Frame) (rows : List MergeRow) (fields others : List (List ℤ)) (j : ℕ) (out : List ℤ) (row : MergeRow) → j < length rows
    → j < length others
    → AreMergedTo j frame rows fields others → IsSwept frame (merge_step frame (get_or rows j row).terms fields) out
    → AreMergedTo (j + 1) frame rows fields (set others j out)
merged-more frame rows fields others j out row inside there before made = λ i other below within.
    let P : List ℤ → Type 0 = λ field. IsSwept frame (merge_step frame (get_or rows i other).terms fields) field in
    elim (cases_eq i j) [
      | inl same ↦
          let R : MergeRow → Type 0 = λ r. IsSwept frame (merge_step frame r.terms fields) out in
          let at : get_or rows j row ≡ get_or rows i other = get_or_default rows j row other inside ∙ ap (λ n. get_or rows n other) (sym same) in
          let Q : ℕ → Type 0 = λ n. IsSwept frame (merge_step frame (get_or rows i other).terms fields) (field_at (set others j out) n) in
          subst Q (sym same) (subst P (sym (get_or-set_same others j out [] there)) (subst R at made))
      | inr not ↦ subst P (sym (get_or-set_other others j i out [] not)) (before i other (omega arith) within)
    ]
