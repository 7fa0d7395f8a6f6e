use Rattle.std.proofs.Common.{ℕ, List, Option, ap, sym, ◌∙◌, option_map}
use Rattle.std.specs.Borrow.{Bor}
use Rattle.cpl_base.specs.Words.{place_of}
use Rattle.cpl_runseq.specs.Names.{phase_of}
use Rattle.cpl_runseq.proofs.elements.phase_of.Goals as goal

pub returns-in-None : goal.returns-in-None
returns-in-None c =
    let name = c.args.name.now in
    let word = c.in-Some.word.now in
    sym c.in-None.is ∙ c.place_of.ensures ∙ ap (λ labels. place_of labels word) c.items.ensures
    ∙ ap (λ (o : Option (Bor (List ℕ))). phase_of name (option_map (λ (w : Bor (List ℕ)). w.now) o)) (sym c.in-Some.is)
