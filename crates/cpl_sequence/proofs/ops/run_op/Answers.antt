use Rattle.std.proofs.Common.{arith, ◌+◌, ◌*◌}
use Rattle.std.specs.Int.{w64}
use Rattle.std.proofs.lemmas.Int.{to_z_pos}
use Rattle.cpl_sequence.proofs.RunFacts.{IsPartOf, get-run_ops, run_part}
use Rattle.cpl_sequence.proofs.ops.run_op.Goals as goal

pub overflow_mul-k : goal.overflow_mul-k
overflow_mul-k c =
    let part : IsPartOf c.unwrap_or-part.result c.args.step c.args.k = rw c.unwrap_or-part.ensures (run_part c.args.component c.args.phase c.args.time c.args.step c.args.substep c.args.k c.requires.some c.requires.parted c.requires.below) in
    let within = part.within in omega arith

pub overflow_add-time : goal.overflow_add-time
overflow_add-time c =
    let part : IsPartOf c.unwrap_or-part.result c.args.step c.args.k = rw c.unwrap_or-part.ensures (run_part c.args.component c.args.phase c.args.time c.args.step c.args.substep c.args.k c.requires.some c.requires.parted c.requires.below) in
    let within = part.within in omega arith

pub seconds-requires-3 : goal.seconds-requires-3
seconds-requires-3 c =
    let part : IsPartOf c.unwrap_or-part.result c.args.step c.args.k = rw c.unwrap_or-part.ensures (run_part c.args.component c.args.phase c.args.time c.args.step c.args.substep c.args.k c.requires.some c.requires.parted c.requires.below) in
    let within = part.within in omega arith

pub seconds-requires-4 : goal.seconds-requires-4
seconds-requires-4 c =
    let part : IsPartOf c.unwrap_or-part.result c.args.step c.args.k = rw c.unwrap_or-part.ensures (run_part c.args.component c.args.phase c.args.time c.args.step c.args.substep c.args.k c.requires.some c.requires.parted c.requires.below) in
    let within = part.within in omega arith

pub returns : goal.returns
returns c =
    let part : IsPartOf c.unwrap_or-part.result c.args.step c.args.k = rw c.unwrap_or-part.ensures (run_part c.args.component c.args.phase c.args.time c.args.step c.args.substep c.args.k c.requires.some c.requires.parted c.requires.below) in
    let within = part.within in
    let early = c.requires.early in
    let at = c.args.time + c.args.k * c.unwrap_or-part.result in
    rw (c.seconds.ensures, c.seconds-2.ensures, c.seconds-3.ensures, c.seconds-4.ensures)
    (rw (to_z_pos w64 c.args.time (omega arith), to_z_pos w64 c.args.step (omega arith), to_z_pos w64 at (omega arith), to_z_pos w64 c.unwrap_or-part.result (omega arith))
    (get-run_ops c.args.component c.args.phase c.args.time c.args.step c.args.substep c.args.k c.unwrap_or-part.result c.requires.some c.requires.below c.unwrap_or-part.ensures))
