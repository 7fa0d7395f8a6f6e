use Rattle.std.proofs.Common.{◌∙◌, ap, arith, subst, sym}
use Rattle.std.specs.List.{All}
use Rattle.std.specs.Prelude.{◌≤◌, List}
use Rattle.cpl_formula.specs.declared.arguments.Argument.{Argument}
use Rattle.cpl_rule.specs.Demands.{IsArgumentWithin}
use Rattle.cpl_rule.specs.Inputs.{arguments_of}
use Rattle.cpl_rule.proofs.DemandFacts.{counted-strips, covered-by, plain-arguments, plain-reads, plain-strips, read-wider}
use Rattle.cpl_rule.proofs.demand.Demand.with_rule.Goals as goal

pub returns-in-Plain-clause-covers : goal.returns-in-Plain-clause-covers
returns-in-Plain-clause-covers c =
    let demand = c.with_strips.result in
    let reads = c.items.ensures ∙ ap (λ p. p.reads) c.get-formula.ensures in
    let within = plain-arguments demand c.args.rule.now c.in-Plain.parsed c.items.result.now c.in-Plain.is reads
    (λ k d below. read-wider c.with_reads-near.result demand _ c.with_strips.ensures.wider (c.with_reads-near.ensures.covers k d below)) in
    let strips = plain-strips c.args.rule.now c.in-Plain.parsed c.scratch_rows.result c.get-formula.result.now.tree c.in-Plain.is (ap (λ p. p.tree) c.get-formula.ensures) c.scratch_rows.ensures in
    covered-by demand c.args.rule.now within
    (omega (arith, c.input_count.ensures, c.with_inputs-demand.ensures.covers, c.with_reads-near.ensures.wider.inputs, c.with_strips.ensures.wider.inputs))
    (omega (arith, strips, c.with_strips.ensures.covers))

pub returns-in-Plain-clause-least : goal.returns-in-Plain-clause-least
returns-in-Plain-clause-least c = λ other wider covered.
    let reads = c.items.ensures ∙ ap (λ p. p.reads) c.get-formula.ensures in
    let inputs : c.input_count.result ≤ other.inputs = omega (arith, c.input_count.ensures, covered.inputs) in
    let first = c.with_inputs-demand.ensures.least other wider inputs in
    let second = c.with_reads-near.ensures.least other first (plain-reads other c.args.rule.now c.in-Plain.parsed c.items.result.now c.in-Plain.is reads covered.reads) in
    c.with_strips.ensures.least other second
    (counted-strips other c.args.rule.now c.in-Plain.parsed c.scratch_rows.result c.get-formula.result.now.tree c.in-Plain.is (ap (λ p. p.tree) c.get-formula.ensures) c.scratch_rows.ensures covered)

pub returns-in-Native-clause-least : goal.returns-in-Native-clause-least
returns-in-Native-clause-least c = λ other wider covered.
    let inputs : c.input_count.result ≤ other.inputs = omega (arith, c.input_count.ensures, covered.inputs) in
    let first = c.with_inputs-demand.ensures.least other wider inputs in
    let within = subst (λ r. All (IsArgumentWithin other) (arguments_of r)) c.in-Native.is covered.reads in
    c.with_arguments.ensures.least other first (subst (λ (list : List Argument). All (IsArgumentWithin other) list) (sym c.items-in-Native.ensures) within)
