use Rattle.std.proofs.Common.{◌<◌, ◌≡◌, arith, sym, length}
use Rattle.csv.specs.Records.{fields_of}
use Rattle.cpl_smm.proofs.RecordFacts.{field_at-there, three_of-fields}
use Rattle.cpl_smm.proofs.records.three.Goals as goal

pub returns-in_err-get : goal.returns-in_err-get
returns-in_err-get c =
    let few : 0 < length (fields_of c.args.csv_record.now) = omega arith in
    absurd (field_at-there (fields_of c.args.csv_record.now) 0 few (sym (rw c.in_err-get.was at c.get.ensures.value)))

pub returns-in_err-get-2 : goal.returns-in_err-get-2
returns-in_err-get-2 c =
    let few : 1 < length (fields_of c.args.csv_record.now) = omega arith in
    absurd (field_at-there (fields_of c.args.csv_record.now) 1 few (sym (rw c.in_err-get-2.was at c.get-2.ensures.value)))

pub returns-in_err-get-3 : goal.returns-in_err-get-3
returns-in_err-get-3 c =
    let few : 2 < length (fields_of c.args.csv_record.now) = omega arith in
    absurd (field_at-there (fields_of c.args.csv_record.now) 2 few (sym (rw c.in_err-get-3.was at c.get-3.ensures.value)))

pub returns : goal.returns
returns c =
    let three : length (fields_of c.args.csv_record.now) ≡ 3 = omega arith in
    three_of-fields (fields_of c.args.csv_record.now) _ _ _ three
    (sym (rw c.in_ok-get.was at c.get.ensures.value)) (sym (rw c.in_ok-get-2.was at c.get-2.ensures.value)) (sym (rw c.in_ok-get-3.was at c.get-3.ensures.value))
