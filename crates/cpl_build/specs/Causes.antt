-- What a step that loads files may answer, over every shelf: from what the shelf tells, and its count of faults before and
-- after.
use Rattle.std.specs.Prelude.{◌≡◌, ℕ, ◌≤◌, ◌⊎◌, List, Option, IfSome, IsSomeAnd, Result, Ok, Err, IfOk, IfErr, IsTrue}
use Rattle.std.specs.List.{list_any}
use Rattle.std.specs.Str.{bytes_eq}
use Rattle.cpl_base.specs.Outside.{Files, Rises}
use Rattle.cpl_build.specs.declared.fault.BuildFault.{BuildFault}
use Rattle.cpl_build.specs.declared.fault.BuildFault.TheVariants.{Refused, ReadFault, Memory}

-- a shelf over a call: what it tells, and its count of faults before and after
pub record Visit : Type 0 where
  pub told : Option Files
  pub before : ℕ
  pub after : ℕ

-- a shelf over a call, part by part
abbrev pub visit : Option Files → ℕ → ℕ → Visit
visit told before after = record { told = told; before = before; after = after }

-- What a step is to give, by what files hold, and which files it asks for.
pub record Request (A : Type 0) : Type 0 where
  pub given : Files → Result A BuildFault
  pub asked : Files → List (List ℕ)

-- a step, part by part
abbrev pub request : {A : Type 0} → (Files → Result A BuildFault) → (Files → List (List ℕ)) → Request A
request given asked = record { given = given; asked = asked }

-- a name is among these
abbrev pub IsAmong : List ℕ → List (List ℕ) → Type 0
IsAmong name names = IsTrue (list_any (λ other. bytes_eq other name) names)

-- A file couldn't be read: the count rose in the call, or the shelf tells that it doesn't hold what the step asks for. Over a
-- shelf that tells its files it is one that the step asks for.
pub record IsUnread {A : Type 0} (seen : Visit) (wanted : Request A) (name : List ℕ) : Type 0 where
  pub counts : seen.before ≤ seen.after
  pub cause : Rises seen.before seen.after ⊎ IsSomeAnd seen.told (λ files. wanted.given files ≡ Err (ReadFault name))
  pub asked : IfSome seen.told (λ files. IsAmong name (wanted.asked files))

-- why a step ends with a fault: a refusal is the definition's, and no load failed before it; want of memory needs no cause
abbrev pub IsCause : {A : Type 0} → Visit → Request A → BuildFault → Type 0
IsCause seen wanted (Refused refusal) = (seen.after ≡ seen.before) × IfSome seen.told (λ files. wanted.given files ≡ Err (Refused refusal))
IsCause seen wanted (ReadFault name) = IsUnread seen wanted name
IsCause seen wanted Memory = seen.before ≤ seen.after

-- A value is the definition's, and no load failed; a fault has its cause.
pub record Follows {X A : Type 0} (seen : Visit) (wanted : Request A) (view : X → A) (result : Result X BuildFault) : Type 0 where
  pub value : IfOk result (λ x. (seen.after ≡ seen.before) × IfSome seen.told (λ files. wanted.given files ≡ Ok (view x)))
  pub fault : IfErr result (IsCause seen wanted)
