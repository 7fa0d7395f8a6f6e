use Rattle.std.proofs.Common.{◌∙◌, sym}
use Rattle.cpl_route.proofs.OwnedFacts.{pets-count}
use Rattle.cpl_route.proofs.parts.pet_count.Goals as goal

pub returns : goal.returns
returns c = c.from.ensures ∙ c.pets.ensures.value ∙ sym (pets-count c.args.decomp.now)
