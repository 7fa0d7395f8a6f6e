use Rattle.std.proofs.Common.{◌≡◌, ◌<◌, ◌/◌, ℕ, length, get_or, sym, ◌∙◌, arith}
use Rattle.std.proofs.lemmas.Bool.{ltb-true}
use Rattle.std.proofs.lemmas.List.Elements.{All-same}
use Rattle.cpl_trace.specs.Rows.{AgreesWith}
use Rattle.cpl_trace.specs.Steps.{merge_rows}
use Rattle.cpl_trace.proofs.MergingFacts.{AgreesWith-cut, IsCut, IsSummed-cut, IsWithin-cut, rows_of-cut, rows_of-one}
use Rattle.cpl_trace.proofs.merging.+merge_all.Goals as goal

pub returns-in_ok-from_slice-in-Some-clause-columns : goal.returns-in_ok-from_slice-in-Some-clause-columns
returns-in_ok-from_slice-in-Some-clause-columns t c = λ given all.
    let logs = c.args.logs.now in
    let log = c.in-Some.log.now in
    let some : 0 < length logs = ltb-true 0 (length logs) (sym c.in-Some.ensures.item.0) in
    let is : log ≡ get_or logs 0 log = c.in-Some.ensures.item.1 in
    let same = c.in_ok-from_slice-in-Some.ensures.items ∙ c.rows.ensures ∙ sym (rows_of-one logs log log c.if-logs-le1.true some is) in
    All-same (AgreesWith given) _ _ same all

cut : (t : ℕ) (c : goal.After-drop-left-2 t) → IsCut c.args.logs.now c.split_at.result.0.now c.split_at.result.1.now c.in_ok-left.left.items c.in_ok-right.right.items c.in_ok-rows.rows.items
cut t c = record {
  given = rows_of-cut c.args.logs.now c.split_at.result.0.now c.split_at.result.1.now (length c.args.logs.now / 2) c.split_at.ensures.front c.split_at.ensures.back;
  merged = c.in_ok-rows.ensures ∙ (λ i. merge_rows (c.as_slice.ensures.value i) (c.as_slice-2.ensures.value i));
  count = omega (arith, c.split_at.ensures.front_len, c.split_at.ensures.back_len);
}

pub returns-clause-summed : goal.returns-clause-summed
returns-clause-summed t c = IsSummed-cut _ _ _ _ _ _ (cut t c) c.in_ok-left.ensures.summed c.in_ok-right.ensures.summed

pub returns-clause-columns : goal.returns-clause-columns
returns-clause-columns t c = λ given all.
    AgreesWith-cut _ _ _ _ _ _ given (cut t c) all (c.in_ok-left.ensures.columns given) (c.in_ok-right.ensures.columns given)

pub returns-clause-within : goal.returns-clause-within
returns-clause-within t c = IsWithin-cut _ _ _ _ _ _ (cut t c) c.in_ok-left.ensures.within c.in_ok-right.ensures.within
