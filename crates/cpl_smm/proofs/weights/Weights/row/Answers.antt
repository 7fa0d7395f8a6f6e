use Rattle.std.proofs.Common.{◌∙◌, ◌-◌, ◌+◌, arith, subst, sym, List}
use Rattle.cpl_smm.specs.Kept.{row_between}
use Rattle.cpl_smm.specs.Rows.{Entry, IsRow}
use Rattle.cpl_smm.proofs.KeptFacts.{length-rows, row_at-kept, row_at-row}
use Rattle.cpl_smm.proofs.weights.Weights.row.Goals as goal

pub row_between-requires : goal.row_between-requires
row_between-requires c =
    let count = length-rows c.self.inside c.args.self.now c.self.view_is in
    let starts = c.self.invariant.starts in
    let k = c.args.dst - 1 in
    rw (c.as_slice.ensures.value, c.as_slice-2.ensures.value) (record {
      place = omega (arith, starts.size, count);
      ascending = starts.ascending k (omega (arith, count));
      within = starts.within (k + 1) (omega (arith, count));
    })

pub returns-clause-value : goal.returns-clause-value
returns-clause-value c =
    c.row_between.ensures
    ∙ (λ i. row_between (c.as_slice.ensures.value i) (c.as_slice-2.ensures.value i) (c.args.dst - 1))
    ∙ row_at-kept c.self.inside c.args.self.now c.args.dst c.self.view_is c.requires.0 c.requires.1

pub returns-clause-row : goal.returns-clause-row
returns-clause-row c =
    let same =
    c.row_between.ensures
    ∙ (λ i. row_between (c.as_slice.ensures.value i) (c.as_slice-2.ensures.value i) (c.args.dst - 1))
    ∙ row_at-kept c.self.inside c.args.self.now c.args.dst c.self.view_is c.requires.0 c.requires.1 in
    let P : List Entry → Type 0 = λ row. IsRow c.args.self.now.src_cells row in
    subst P (sym same) (row_at-row c.self.inside c.args.self.now c.args.dst c.self.invariant c.self.view_is c.requires.0 c.requires.1)
