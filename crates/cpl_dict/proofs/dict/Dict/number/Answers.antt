use Rattle.std.proofs.Common.{ap, sym, ◌∙◌}
use Rattle.cpl_dict.proofs.NamesFacts.{place-names_of}
use Rattle.cpl_dict.proofs.NumbersFacts.{number_of-place}
use Rattle.cpl_dict.specs.Dict.{Dictionary}
use Rattle.cpl_dict.specs.Kept.{dictionary_of}
use Rattle.cpl_dict.specs.Numbers.{number_of}
use Rattle.cpl_dict.proofs.dict.Dict.number.Goals as goal

pub returns-clause-number : goal.returns-clause-number
returns-clause-number c =
    let name = c.args.name.now in
    c.get_index_of.ensures.index ∙ place-names_of name c.self.inside.names.entries
    ∙ sym (number_of-place (dictionary_of c.self.inside) name) ∙ ap (λ (d : Dictionary). number_of d name) c.self.view_is
