-- The steps of a build, one behind another.
use Rattle.std.proofs.Common.{◌≡◌, ℕ, Bool, List, [], ◌∷◌, Option, Result, Ok, Err, refl}
use Rattle.cpl_base.specs.Outside.{Files}
use Rattle.cpl_build.specs.Builds.{files_asked, files_asked_in, most_bytes, system_in, system_of, traced_system}
use Rattle.cpl_build.specs.Causes.{IsAmong}
use Rattle.cpl_build.specs.Faults.{build_fault, in_build}
use Rattle.cpl_build.specs.Outlines.{outline_of}
use Rattle.cpl_build.specs.WeightFiles.{asked_behind, file_bytes, files_asked_with, weights_with}
use Rattle.cpl_build.specs.declared.fault.BuildFault.{BuildFault}
use Rattle.cpl_build.specs.declared.fault.Rejection.{Rejection}
use Rattle.cpl_build.specs.declared.outline.Outline.{Outline}
use Rattle.cpl_build.proofs.FileFacts.{among-before, among-behind}
use Rattle.cpl_formula.specs.declared.formula.EntrySign.{EntrySign}
use Rattle.cpl_script.specs.Couplings.{Coupling}
use Rattle.cpl_smm.specs.Rows.{Table}

-- a text that has no outline makes no system
pub outline-fails : (files : Files) (signs : List EntrySign) (trace : Bool) (bytes : List ℕ) (e : Rejection) → outline_of signs bytes ≡ Err e → system_in files signs trace bytes ≡ Err (build_fault e)
unfolding system_in
outline-fails files signs trace bytes e is = rw is refl

-- nor does one whose connectors lack weights
pub weights-fail : (files : Files) (signs : List EntrySign) (trace : Bool) (bytes : List ℕ) (outline : Outline) (f : BuildFault) → outline_of signs bytes ≡ Ok outline → weights_with files outline.comps [] outline.seq.links ≡ Err f → system_in files signs trace bytes ≡ Err f
unfolding system_in
weights-fail files signs trace bytes outline f is fails = rw is (rw fails refl)

-- and with both it is what they make
pub system-made : (files : Files) (signs : List EntrySign) (trace : Bool) (bytes : List ℕ) (outline : Outline) (weights : List (Option Table)) (made : Result Coupling Rejection) → outline_of signs bytes ≡ Ok outline → weights_with files outline.comps [] outline.seq.links ≡ Ok weights → traced_system outline weights trace ≡ made → system_in files signs trace bytes ≡ in_build made
unfolding system_in
system-made files signs trace bytes outline weights made is have makes = rw is (rw have (rw makes refl))

-- the files that a text with an outline asks for
pub asked-made : (files : Files) (signs : List EntrySign) (bytes : List ℕ) (outline : Outline) → outline_of signs bytes ≡ Ok outline → files_asked_in files signs bytes ≡ files_asked_with files outline.comps [] outline.seq.links
asked-made files signs bytes outline is = rw is refl

-- a file that can't be had makes no system
pub file-fails : (files : Files) (signs : List EntrySign) (trace : Bool) (name : List ℕ) (f : BuildFault) → file_bytes files name most_bytes ≡ Err f → system_of files signs trace name ≡ Err f
unfolding system_of
file-fails files signs trace name f is = rw is refl

-- and with its bytes it is what they make
pub file-made : (files : Files) (signs : List EntrySign) (trace : Bool) (name bytes : List ℕ) → file_bytes files name most_bytes ≡ Ok bytes → system_of files signs trace name ≡ system_in files signs trace bytes
unfolding system_of
file-made files signs trace name bytes is = rw is refl

-- what the bytes of a file ask for is asked for
pub asked-behind-file : (files : Files) (signs : List EntrySign) (name bytes file : List ℕ) → file_bytes files name most_bytes ≡ Ok bytes → IsAmong file (files_asked_in files signs bytes) → IsAmong file (files_asked files signs name)
asked-behind-file files signs name bytes file is among = rw is (among-behind file (name ∷ []) (files_asked_in files signs bytes) among)

-- and the file itself
pub asked-itself : (files : Files) (signs : List EntrySign) (name file : List ℕ) → IsAmong file (name ∷ []) → IsAmong file (files_asked files signs name)
asked-itself files signs name file among = among-before file (name ∷ []) (asked_behind (file_bytes files name most_bytes) (λ bytes. files_asked_in files signs bytes)) among
