use Rattle.std.proofs.Common.{◌∙◌, ◌++◌, [], ◌∷◌, List, ℤ, subst, sym}
use Rattle.std.proofs.lemmas.List.Elements.{All-append, All-cons, All-nil}
use Rattle.std.specs.List.{All}
use Rattle.cpl_base.specs.Numbers.{IsValue}
use Rattle.cpl_phase.proofs.AverageFacts.{values_in-within}
use Rattle.cpl_phase.proofs.keeping.keep.Goals as goal

pub returns-clause-accum : goal.returns-clause-accum
returns-clause-accum c =
    let a = c.requires.accum in
    let cells = c.gather.new.cells in
    let Within : List ℤ → Type 0 = All IsValue in
    let field : All IsValue c.values.result.now = subst Within (sym c.values.ensures) c.requires.field_values in
    let within : All IsValue cells = subst Within (sym c.gather.ensures) (values_in-within c.args.frame.now c.values.result.now field) in
    record {
      kept = a.kept ++ cells ∷ [];
      stands = c.add.ensures.stands a.kept a.stands;
      values = All-append Within a.kept (cells ∷ []) a.values (All-cons Within cells [] within (All-nil Within));
      sums = λ some. c.add.ensures.cells ∙ c.requires.sums;
    }
