use Rattle.std.proofs.Common.{[], ◌∷◌, sym}
use Rattle.cpl_build.specs.Builds.{files_asked, files_asked_in, most_bytes, system_in, system_of}
use Rattle.cpl_build.specs.Causes.{request}
use Rattle.cpl_build.specs.WeightFiles.{file_bytes}
use Rattle.cpl_build.proofs.BuildFacts.{asked-behind-file, asked-itself, file-fails, file-made}
use Rattle.cpl_build.proofs.FileFacts.{follows-behind, follows-failed, told-any, told-one}
use Rattle.cpl_script.specs.Couplings.{Coupling}
use Rattle.cpl_build.proofs.building.system_of.Goals as goal

pub returns-in_err-bytes-clause-causes : goal.returns-in_err-bytes-clause-causes
returns-in_err-bytes-clause-causes g c =
    let signs = c.args.signs.now in
    let name = c.args.name.now in
    let told = g.H.Shelf.files c.args.shelf.now in
    follows-failed told (g.H.Shelf.faults c.args.shelf.now) (g.H.Shelf.faults c.file_bytes.new.shelf)
    (request (λ files. file_bytes files name most_bytes) (λ files. name ∷ []))
    (request (λ files. system_of files signs c.args.trace name) (λ files. files_asked files signs name))
    (λ (system : Coupling). system) c.from_residual.result c.in_err-bytes.field-0.0 c.from_residual.ensures.0 c.from_residual.ensures.1
    (told-any told (λ files f is. file-fails files signs c.args.trace name f is))
    (told-any told (λ files file among. asked-itself files signs name file among))
    c.in_err-bytes.ensures.answer.fault

pub returns-clause-causes : goal.returns-clause-causes
returns-clause-causes g c =
    let signs = c.args.signs.now in
    let name = c.args.name.now in
    let bytes = c.in_ok-bytes.bytes.items in
    let told = g.H.Shelf.files c.args.shelf.now in
    let loaded = c.in_ok-bytes.ensures.answer.value in
    let follows = rw c.as_slice.ensures.value at c.system_in.ensures.causes in
    follows-behind told (g.H.Shelf.files c.file_bytes.new.shelf) (g.H.Shelf.faults c.args.shelf.now) (g.H.Shelf.faults c.file_bytes.new.shelf) (g.H.Shelf.faults c.system_in.new.shelf)
    (request (λ files. system_in files signs c.args.trace bytes) (λ files. files_asked_in files signs bytes))
    (request (λ files. system_of files signs c.args.trace name) (λ files. files_asked files signs name))
    (λ (system : Coupling). system) c.system_in.result c.in_ok-bytes.ensures.told loaded.0
    (told-one told (λ files is. sym (file-made files signs c.args.trace name bytes is)) loaded.1)
    (told-one told (λ files is file among. asked-behind-file files signs name bytes file is among) loaded.1)
    follows
