use Rattle.std.proofs.Common.{◌≡◌, ◌∙◌, ◌-◌, ◌||◌, ℕ, List, Bool, ap, arith, filter, length, sym, take}
use Rattle.std.proofs.lemmas.List.{take_all}
use Rattle.std.specs.List.{list_any, range_with_len}
use Rattle.cpl_grid.specs.Owners.{cells_of}
use Rattle.cpl_smm.specs.Kept.{is_marked}
use Rattle.cpl_smm.specs.Needs.{has_source, is_needed}
use Rattle.cpl_smm.specs.Rows.{row_at}
use Rattle.cpl_smm.proofs.NeedFacts.{list_any-take}
use Rattle.cpl_smm.proofs.weights.Weights.need.Goals as goal

pub loop-k-preserved : goal.loop-k-preserved
loop-k-preserved c = record {
  count = c.mark_sources.ensures.count ∙ c.loop-k.invariant.count;
  marked = λ src.
      let p = λ (dst : ℕ). has_source src (row_at c.args.self.now dst) in
      c.mark_sources.ensures.marked src
      ∙ ap (λ b. b || has_source src c.row.result.now) (c.loop-k.invariant.marked src)
      ∙ ap (λ row. list_any p (take c.loop-k.k (cells_of c.args.dst.now c.args.pet)) || has_source src row) c.row.ensures.value
      ∙ sym (list_any-take p (cells_of c.args.dst.now c.args.pet) c.loop-k.k c.cell.result c.cell.ensures.value);
}

pub returns : goal.returns
returns c =
    let table = c.args.self.now in
    let cells = cells_of c.args.dst.now c.args.pet in
    let marks = c.loop-k.marks.items in
    let all : take c.loop-k.k cells ≡ cells = take_all c.loop-k.k cells (omega arith) in
    let count : length marks - 1 ≡ table.src_cells = omega (arith, c.loop-k.invariant.count) in
    let needed : (src : ℕ) → is_marked marks src ≡ is_needed table c.args.dst.now c.args.pet src =
    λ src. c.loop-k.invariant.marked src ∙ ap (list_any (λ dst. has_source src (row_at table dst))) all in
    let same : c.of.result ≡ filter (is_needed table c.args.dst.now c.args.pet) (range_with_len 1 table.src_cells) =
    c.of.ensures ∙ c.in_ok-cells.ensures
    ∙ ap (λ (ms : List Bool). filter (is_marked ms) (range_with_len 1 (length ms - 1))) c.as_slice.ensures.value
    ∙ (λ i. filter (λ src. needed src i) (range_with_len 1 (count i))) in
    λ i. record { pet = c.args.pet; cells = same i }
