use Rattle.std.proofs.Common.{ℤ, replicate, arith, rules, ◌∙◌, ap, FitsSigned}
use Rattle.std.proofs.lemmas.Int.{to_z-of_z}
use Rattle.std.specs.Int.{w64, cast_signed, cast_unsigned}
use Rattle.cpl_formula.specs.Tree.{value_of}
use Rattle.cpl_driver.proofs.RunsFacts.{ending_of, world_more}
use Rattle.cpl_driver.proofs.running.run.Goals as goal

-- one run more, at the value of the rule over inputs that are all the cell's
pub loop-run-preserved : goal.loop-run-preserved
loop-run-preserved c =
    let system = c.args.system.now in
    let before = c.loop-run.invariant in
    let filled = c.fill.ensures.items (λ y h. search rules) in
    let x : ℤ = cast_signed w64 c.loop-run.cell-bits in
    let fits : FitsSigned w64 c.value-cell.result = search rules in
    record {
      room = c.fill.ensures.len ∙ before.room;
      within = search rules;
      clock = grind arith;
      world = world_more system c.loop-run._run c.loop-run.clock x (cast_signed w64 (cast_unsigned w64 c.value-cell.result)) c.fill.new.self.items before.world before.clock
          (filled ∙ ap (λ n. replicate n x) before.room)
          (to_z-of_z w64 _ fits ∙ c.value-cell.ensures.value ∙ ap (λ given. value_of given system.rule.tree) c.as_slice.ensures.value);
    }

pub returns : goal.returns
returns c = ending_of c.args.system.now c.loop-run._run c.loop-run.clock (cast_signed w64 c.loop-run.cell-bits) (omega arith) c.loop-run.invariant.world
