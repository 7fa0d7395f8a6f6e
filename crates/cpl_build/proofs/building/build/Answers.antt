use Rattle.cpl_build.specs.Builds.{files_asked, system_of}
use Rattle.cpl_build.specs.Causes.{request}
use Rattle.cpl_build.proofs.FileFacts.{answer-from}
use Rattle.cpl_entry.specs.Books.{entries_of}
use Rattle.cpl_entry.specs.Entries.{signs_of}
use Rattle.cpl_script.specs.Couplings.{Coupling}
use Rattle.cpl_build.proofs.building.build.Goals as goal

pub returns-clause-answer : goal.returns-clause-answer
returns-clause-answer g c =
    let signs = signs_of (entries_of c.args.book.now) in
    let name = c.args.name.now in
    let follows = rw (c.signs.ensures.value, c.as_bytes.ensures.value) at c.system_of.ensures.causes in
    answer-from (g.H.Shelf.files c.args.shelf.now) (g.H.Shelf.faults c.args.shelf.now) (g.H.Shelf.faults c.system_of.new.shelf)
    (request (λ files. system_of files signs c.args.trace name) (λ files. files_asked files signs name)) (λ (system : Coupling). system) c.system_of.result follows
