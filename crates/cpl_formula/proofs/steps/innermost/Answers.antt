-- The last bracket is split from those around it.
use Rattle.std.proofs.Common.{◌≡◌, ◌∷◌, [], ◌++◌, ◌∙◌, sym}
use Rattle.cpl_formula.proofs.Shown.{split_behind}
use Rattle.cpl_formula.proofs.steps.innermost.Goals as goal

pub returns : goal.returns
returns c =
    let parted : c.args.frames ≡ c.pop.new.self.items ++ c.in_ok-last.last ∷ [] = sym c.into_items-frames.ensures ∙ c.in_ok-last.ensures.items in
    rw (c.of.ensures, parted, split_behind)
