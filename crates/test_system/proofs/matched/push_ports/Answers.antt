use Rattle.std.proofs.Common.{◌∙◌, ◌++◌, List, ap, arith, sym}
use Rattle.std.specs.List.{enumerate_from, filter_map}
use Rattle.std.specs.Option.{option_to_list}
use Rattle.std.proofs.lemmas.List.{append_assoc, take_all}
use Rattle.std.proofs.lemmas.List.FromFn.{length-enumerate_from}
use Rattle.cpl_match.specs.declared.port.Port.{Port}
use Rattle.cpl_script.specs.Matched.{port_of}
use Rattle.test_system.proofs.MakingFacts.{numbered-found}
use Rattle.test_system.proofs.matched.push_ports.Goals as goal

pub loop-place-preserved : goal.loop-place-preserved
loop-place-preserved c =
    let field = c.index-fields-place.result in
    let f = port_of c.args.component in
    let next = numbered-found f c.args.fields.now c.loop-place.place field c.loop-place-test.true c.index-fields-place.is in
    c.in_ok-push_port.ensures
    ∙ ap (λ (ports : List Port). ports ++ option_to_list (f (c.loop-place.place, field))) c.loop-place.invariant
    ∙ append_assoc c.args.ports.now.items _ _
    ∙ ap (λ (ports : List Port). c.args.ports.now.items ++ ports) (sym next)

pub returns : goal.returns
returns c =
    let numbered = enumerate_from 0 c.args.fields.now in
    c.loop-place.invariant
    ∙ ap (λ fields. c.args.ports.now.items ++ filter_map (port_of c.args.component) fields) (take_all c.loop-place.place numbered (omega (arith, length-enumerate_from 0 c.args.fields.now)))
