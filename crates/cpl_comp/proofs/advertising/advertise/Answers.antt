use Rattle.std.proofs.Common.{List, subst}
use Rattle.std.specs.List.{All}
use Rattle.cpl_config.specs.Items.{HasShortRows}
use Rattle.cpl_config.specs.declared.entry.Entry.{Entry}
use Rattle.cpl_comp.specs.Parts.{advertisement_of}
use Rattle.cpl_comp.proofs.AdvertisedFacts.{advertised-is}
use Rattle.cpl_comp.proofs.advertising.advertise.Goals as goal

pub new-requires : goal.new-requires
new-requires c =
    let P : List Entry → Type 0 = λ entries. All (λ (entry : Entry). HasShortRows entry.item) entries in
    let short : P c.args.items.now = subst P c.entries-entries.ensures.entries c.entries-entries.ensures.short in
    let is = rw c.bytes.ensures at c.in_ok-parts.ensures.value in
    advertised-is c.args.items.now c.args.name.now c.args.dict.now (advertisement_of c.in_ok-parts.parts) short is
