use Rattle.std.proofs.Common.{ap, arith, refl}
use Rattle.cpl_grid.specs.Owners.{Layout}
use Rattle.cpl_grid.proofs.OwnerFacts.{part-found, part-some_column}
use Rattle.cpl_grid.proofs.decomp.Decomp.cell.Goals as goal

pub nonzero_rem-column : goal.nonzero_rem-column
nonzero_rem-column c =
    part-some_column _ c.args.pet c.args.k _ c.part-part.ensures.is_part c.requires.place

pub overflow_add-column : goal.overflow_add-column
overflow_add-column c =
    let found = part-found _ c.args.pet c.args.k _ _ c.part-part.ensures.layout c.part-part.ensures.is_part c.requires.place refl in
    omega (arith, found.small, found.row_small)

pub nonzero_div-row : goal.nonzero_div-row
nonzero_div-row c =
    part-some_column _ c.args.pet c.args.k _ c.part-part.ensures.is_part c.requires.place

pub overflow_add-row : goal.overflow_add-row
overflow_add-row c =
    let found = part-found _ c.args.pet c.args.k _ _ c.part-part.ensures.layout c.part-part.ensures.is_part c.requires.place refl in
    omega (arith, found.small, found.row_small)

pub overflow_add-result : goal.overflow_add-result
overflow_add-result c =
    let found = part-found _ c.args.pet c.args.k _ _ c.part-part.ensures.layout c.part-part.ensures.is_part c.requires.place refl in
    omega (arith, found.small, found.row_small)

pub overflow_mul-result : goal.overflow_mul-result
overflow_mul-result c =
    let found = part-found _ c.args.pet c.args.k _ _ c.part-part.ensures.layout c.part-part.ensures.is_part c.requires.place (ap (λ (layout : Layout). layout.grid.nx) c.self.view_is) in
    omega (arith, found.small, found.row_small)

pub overflow_add-result-2 : goal.overflow_add-result-2
overflow_add-result-2 c =
    let found = part-found _ c.args.pet c.args.k _ _ c.part-part.ensures.layout c.part-part.ensures.is_part c.requires.place (ap (λ (layout : Layout). layout.grid.nx) c.self.view_is) in
    omega (arith, found.small, found.row_small)

pub returns : goal.returns
returns c =
    let found = part-found _ c.args.pet c.args.k _ _ c.part-part.ensures.layout c.part-part.ensures.is_part c.requires.place (ap (λ (layout : Layout). layout.grid.nx) c.self.view_is) in
    record { value = found.value; owner = found.owner; within = found.cell }
