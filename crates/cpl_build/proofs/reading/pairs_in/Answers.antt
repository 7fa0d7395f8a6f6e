use Rattle.std.proofs.Common.{◌<◌, arith, length}
use Rattle.std.specs.List.{All}
use Rattle.std.proofs.lemmas.List.{length-map}
use Rattle.std.proofs.lemmas.List.Elements.{All-weaker}
use Rattle.cpl_build.proofs.PartFacts.{ports-listed}
use Rattle.cpl_comp.specs.declared.component.Comp.{Comp}
use Rattle.cpl_grid.specs.Grid.{cells_in}
use Rattle.cpl_match.specs.declared.port.Port.{Port}
use Rattle.cpl_script.specs.Matched.{cell_counts, ports_of}
use Rattle.cpl_build.proofs.reading.pairs_in.Goals as goal

pub connect-requires : goal.connect-requires
connect-requires c =
    let comps = c.args.comps.now in
    let count = length-map comps (λ (comp : Comp). cells_in comp.decomp.grid) in
    let listed : All (λ (port : Port). port.component < length (cell_counts comps)) (ports_of comps) =
    All-weaker (λ (port : Port). port.component < length comps) (λ (port : Port). port.component < length (cell_counts comps)) (λ port is. omega (arith, is, count)) (ports_of comps) (ports-listed comps) in
    rw (c.as_slice.ensures.value, c.in_ok-ports.ensures, c.as_slice-2.ensures.value, c.in_ok-cells.ensures) listed
