use Rattle.std.proofs.Common.{◌≡◌, ◌∙◌, ◌<◌, ◌+◌, FitsSigned, ℕ, length, arith, pos, sym, subst, List, ℤ, get_or, set, to_z-of_z, w64}
use Rattle.std.proofs.lemmas.Int.{ints}
use Rattle.std.proofs.lemmas.List.{get_or_default}
use Rattle.std.proofs.lemmas.List.Elements.{All-set}
use Rattle.std.specs.List.{All}
use Rattle.cpl_base.specs.Numbers.{IsValue}
use Rattle.cpl_block.specs.Frames.{value_at}
use Rattle.std.specs.Prelude.{slice_index}
use Rattle.cpl_phase.proofs.KeepingFacts.{scattered-all, scattered-more}
use Rattle.cpl_phase.proofs.keeping.scatter.Goals as goal

pub loop-k-preserved : goal.loop-k-preserved
loop-k-preserved c =
    let homes = c.args.sites.now.homes.items in
    let cells = c.args.sites.now.cells.items in
    let k = c.loop-k.k in
    let inside : k < length homes = omega (arith, c.loop-k-test.true, c.requires.cells) in
    let at : c.index.result.now ≡ slice_index homes k = c.index.ensures ∙ get_or_default homes k c.index.result.now 0 inside in
    let value_is : IsValue (get_or c.args.cells.now k (pos 0)) = c.requires.cells_values k (pos 0) c.loop-k-test.true in
    let fits : FitsSigned w64 (get_or c.args.cells.now k (pos 0)) = omega (arith, ints, value_is) in
    let made : c.put.new.field ≡ set c.loop-k.field (slice_index homes k) (get_or c.args.cells.now k (pos 0)) =
    c.put.ensures ∙ (λ i. set c.loop-k.field (at i) (to_z-of_z fits i)) in
    let there : slice_index homes k < length c.loop-k.field =
    omega (arith, c.requires.sites.within k 0 inside, c.requires.field, c.loop-k.auto.field) in
    let V : List ℤ → Type 0 = All IsValue in
    record {
      values = subst V (sym made)
          (All-set IsValue c.loop-k.field (slice_index homes k) (get_or c.args.cells.now k (pos 0)) value_is c.loop-k.invariant.values);
      cells = λ value is.
          let P : List ℤ → Type 0 = λ field. (j : ℕ) → j < k + 1 → value_at field (slice_index homes j) ≡ value (slice_index cells j) in
          subst P (sym made) (scattered-more c.args.frame.now c.args.sites.now c.requires.sites value k c.args.cells.now c.loop-k.field is inside
          there (c.loop-k.invariant.cells value is));
    }

pub returns-clause-cells : goal.returns-clause-cells
returns-clause-cells c = λ value is.
    scattered-all c.args.frame.now c.args.sites.now c.requires.sites value c.loop-k.k c.loop-k.field
    (omega (arith, c.loop-k-test.false, c.requires.cells)) (c.loop-k.invariant.cells value is)
