use Rattle.std.proofs.Common.{arith, subst, sym}
use Rattle.std.proofs.lemmas.Grind.{common_steps}
use Rattle.test_system.specs.Weighed.{AreRead}
use Rattle.test_system.proofs.making.system_of.Goals as goal

pub sequence_of-requires : goal.sequence_of-requires
sequence_of-requires c =
    subst (AreRead c.args.pets) (sym c.deref-2.ensures.value) (record {
      some = grind (arith, common_steps);
      few = grind (arith, common_steps);
      some_pets = omega arith;
      few_pets = omega arith;
      each = c.in_ok-comps.ensures;
    })
