-- The code's own: what its parts of a component stand for.
use Rattle.cpl_comp.specs.Advertised.{Advertisement}
use Rattle.cpl_comp.specs.declared.advertised.Parts as parts

-- what was read of a component
abbrev pub advertisement_of : parts.Parts → Advertisement
advertisement_of read = record { name = read.name; kind = read.kind; bounds = read.bounds; fields = read.fields; phases = read.phases }
