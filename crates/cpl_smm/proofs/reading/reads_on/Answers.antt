use Rattle.std.proofs.Common.{inl}
use Rattle.csv.specs.Records.{fields_of}
use Rattle.cpl_smm.proofs.ReaderFacts.{reads_on}
use Rattle.cpl_smm.proofs.reading.reads_on.Goals as goal

pub returns-clause-ok : goal.returns-clause-ok
returns-clause-ok c =
    reads_on c.args.reader.now c.read_byte_record.new.self c.in-Ok.found (fields_of c.read_byte_record.new.row) c.requires c.in-Ok.ensures.reads
    (inl (c.in-Ok.ensures.ready c.requires.trim))
