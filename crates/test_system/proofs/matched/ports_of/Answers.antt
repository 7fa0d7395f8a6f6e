use Rattle.std.proofs.Common.{◌≡◌, ◌∙◌, ◌++◌, List, ap, arith, sym}
use Rattle.std.specs.List.{enumerate_from, filter_map, flat_map}
use Rattle.std.proofs.lemmas.List.{take_all}
use Rattle.std.proofs.lemmas.List.FromFn.{length-enumerate_from}
use Rattle.cpl_match.specs.declared.port.Port.{Port}
use Rattle.cpl_script.specs.Matched.{comp_ports, port_of}
use Rattle.test_system.proofs.MakingFacts.{numbered-more}
use Rattle.test_system.proofs.matched.ports_of.Goals as goal

pub loop-place-preserved : goal.loop-place-preserved
loop-place-preserved c =
    let comp = c.index-comps-place.result in
    let place = c.loop-place.place in
    let next = numbered-more comp_ports c.args.comps.now place comp c.loop-place-test.true c.index-comps-place.is in
    let pushed : c.push_ports.new.ports.items ≡ c.loop-place.ports.items ++ filter_map (port_of place) (enumerate_from 0 c.items.result.now) = c.in_ok-push_ports.ensures in
    pushed
    ∙ ap (λ fields. c.loop-place.ports.items ++ filter_map (port_of place) (enumerate_from 0 fields)) c.items.ensures
    ∙ ap (λ (ports : List Port). ports ++ comp_ports (place, comp)) c.loop-place.invariant
    ∙ sym next

pub returns : goal.returns
returns c =
    let numbered = enumerate_from 0 c.args.comps.now in
    c.loop-place.invariant
    ∙ ap (flat_map comp_ports) (take_all c.loop-place.place numbered (omega (arith, length-enumerate_from 0 c.args.comps.now)))
