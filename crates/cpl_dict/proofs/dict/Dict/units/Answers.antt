use Rattle.std.proofs.Common.{◌∙◌, ap}
use Rattle.cpl_dict.specs.Dict.{units_of}
use Rattle.cpl_dict.proofs.NamesFacts.{lookup-names_of}
use Rattle.cpl_dict.proofs.dict.Dict.units.Goals as goal

pub returns : goal.returns
returns c =
    c.get.ensures.value ∙ lookup-names_of c.args.name.now c.self.inside.names.entries
    ∙ ap (λ d. units_of d c.args.name.now) c.self.view_is
