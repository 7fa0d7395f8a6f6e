use Rattle.std.proofs.Common.{◌≡◌, ◌≤◌, ◌⊎◌, ◌++◌, length, drop, inl, inr, ap, ◌∙◌, arith}
use Rattle.std.proofs.lemmas.List.{take_rest}
use Rattle.cpl_trace.proofs.MergingFacts.{merge_rows-end}
use Rattle.cpl_trace.proofs.merging.merge_pair.Goals as goal
use Rattle.cpl_trace.proofs.merging.merge_pair.Goals.{then-loop-i-test+else-j-right, else-loop-i-test}

pub returns : goal.returns
returns c =
    let over : (length c.args.left.now ≤ c.loop-i.i) ⊎ (length c.args.right.now ≤ c.loop-i.j) = elim c.loop-i-test.branch [
      | then-loop-i-test+else-j-right w ↦ inr (omega arith)
      | else-loop-i-test w ↦ inl (omega arith)
    ] in
    let first : c.extend_from_slice.new.self.items ≡ c.loop-i.rows.items ++ drop c.loop-i.i c.args.left.now = c.in_ok-extend_from_slice.ensures.items ∙ ap (λ xs. c.loop-i.rows.items ++ xs) (take_rest c.args.left.now c.loop-i.i) in
    let second : c.extend_from_slice-2.new.self.items ≡ c.extend_from_slice.new.self.items ++ drop c.loop-i.j c.args.right.now = c.in_ok-extend_from_slice-2.ensures.items ∙ ap (λ xs. c.extend_from_slice.new.self.items ++ xs) (take_rest c.args.right.now c.loop-i.j) in
    merge_rows-end c.args.left.now c.args.right.now c.loop-i.rows.items _ _ _ c.loop-i.i c.loop-i.j over c.loop-i.invariant.merged first second
