use Rattle.std.proofs.Common.{◌≡◌, codes, refl, arith}
use Rattle.cpl_formula.proofs.TextSteps.{six_bytes}
use Rattle.cpl_formula.proofs.lexing.quantity.Goals as goal

pub returns-in-minute : goal.returns-in-minute
returns-in-minute c =
    let is : c.args.name.now ≡ codes "minute" =
    six_bytes c.args.name.now 109 105 110 117 116 101 c.in-minute.len_at_least c.in-minute.len_below (omega arith) (omega arith) (omega arith) (omega arith) (omega arith) (omega arith) in
    rw is refl

pub returns-in-second : goal.returns-in-second
returns-in-second c =
    let is : c.args.name.now ≡ codes "second" =
    six_bytes c.args.name.now 115 101 99 111 110 100 c.in-second.len_at_least c.in-second.len_below (omega arith) (omega arith) (omega arith) (omega arith) (omega arith) (omega arith) in
    rw is refl

pub returns-in-daysec : goal.returns-in-daysec
returns-in-daysec c =
    let is : c.args.name.now ≡ codes "daysec" =
    six_bytes c.args.name.now 100 97 121 115 101 99 c.in-daysec.len_at_least c.in-daysec.len_below (omega arith) (omega arith) (omega arith) (omega arith) (omega arith) (omega arith) in
    rw is refl
