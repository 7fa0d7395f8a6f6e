use Rattle.cpl_build.specs.Builds.{files_asked_in, system_in}
use Rattle.cpl_build.specs.Causes.{request}
use Rattle.cpl_build.proofs.FileFacts.{answer-from}
use Rattle.cpl_entry.specs.Books.{entries_of}
use Rattle.cpl_entry.specs.Entries.{signs_of}
use Rattle.cpl_script.specs.Couplings.{Coupling}
use Rattle.cpl_build.proofs.building.build_text.Goals as goal

pub returns-clause-answer : goal.returns-clause-answer
returns-clause-answer g c =
    let signs = signs_of (entries_of c.args.book.now) in
    let bytes = c.args.bytes.now in
    let follows = rw c.signs.ensures.value at c.system_in.ensures.causes in
    answer-from (g.H.Shelf.files c.args.shelf.now) (g.H.Shelf.faults c.args.shelf.now) (g.H.Shelf.faults c.system_in.new.shelf)
    (request (λ files. system_in files signs c.args.trace bytes) (λ files. files_asked_in files signs bytes)) (λ (system : Coupling). system) c.system_in.result follows
