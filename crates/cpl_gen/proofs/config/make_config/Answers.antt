use Rattle.std.specs.Prelude.{codes, decimal}
use Rattle.cpl_gen.proofs.TextFacts.{joined}
use Rattle.cpl_gen.specs.Config.{grid_line}
use Rattle.cpl_gen.specs.Draws.{numbers_of}
use Rattle.cpl_gen.specs.declared.template.TheConstants.{ATMOSPHERE, DICTIONARY, FLUX, LAND, MEDIATOR, OCEAN, SEQUENCE}
use Rattle.cpl_gen.proofs.config.make_config.Goals as goal

pub returns : goal.returns
returns c =
    let given = numbers_of c.args.seed in
    rw (
      c.in_ok-extend_from_slice-7.ensures.items,
      c.in_ok-write_number-2.ensures.ok,
      c.in_ok-extend_from_slice-6.ensures.items,
      c.in_ok-write_grid-4.ensures,
      c.in_ok-extend_from_slice-5.ensures.items,
      c.in_ok-write_grid-3.ensures,
      c.in_ok-extend_from_slice-4.ensures.items,
      c.in_ok-write_number.ensures.ok,
      c.in_ok-extend_from_slice-3.ensures.items,
      c.in_ok-write_grid-2.ensures,
      c.in_ok-extend_from_slice-2.ensures.items,
      c.in_ok-write_grid.ensures,
      c.in_ok-extend_from_slice.ensures.items,
      c.new-text.ensures.items,
      c.numbers_of-numbers.ensures,
    ) (joined DICTIONARY.now MEDIATOR.now ATMOSPHERE.now (decimal given.hundredths) FLUX.now OCEAN.now LAND.now (decimal given.seconds) SEQUENCE.now
    (grid_line (codes "MED") given) (grid_line (codes "ATM") given) (grid_line (codes "OCN") given) (grid_line (codes "LND") given))
