use Rattle.std.proofs.Common.{◌≡◌, ◌∙◌, ◌-◌, ◌++◌, ◌∷◌, [], if◌then◌else◌, List, ℕ, ap, arith, filter, length, sym}
use Rattle.std.specs.List.{range_with_len}
use Rattle.cpl_smm.specs.Kept.{is_marked}
use Rattle.cpl_smm.proofs.MarkFacts.{filter-next}
use Rattle.cpl_smm.proofs.marks.marked_cells.Goals as goal

pub loop-src-preserved : goal.loop-src-preserved
loop-src-preserved c =
    c.in_ok-push_if.ensures ∙ ap (λ (ks : List ℕ). ks ++ (if is_marked c.args.marks.now c.loop-src.src then c.loop-src.src ∷ [] else [])) c.loop-src.invariant ∙ sym (filter-next (is_marked c.args.marks.now) c.loop-src.src c.loop-src.auto.src)

pub returns : goal.returns
returns c =
    let count : c.loop-src.src - 1 ≡ length c.args.marks.now - 1 = omega arith in
    c.loop-src.invariant ∙ ap (λ n. filter (is_marked c.args.marks.now) (range_with_len 1 n)) count
