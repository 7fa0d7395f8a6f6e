-- What a shelf that tells its files has under a name.
use Rattle.std.specs.Prelude.{◌≡◌, ℕ, ◌<◌, List, length, Option, Some, None}
use Rattle.cpl_base.specs.Outside.{Files}

-- the name holds these bytes
abbrev pub IsLoaded : List ℕ → List ℕ → Files → Type 0
IsLoaded name bytes files = files name ≡ Some bytes

-- the name holds more bytes than the limit
abbrev pub IsLonger : List ℕ → ℕ → Files → Type 0
IsLonger name limit files = (bytes : List ℕ) × (files name ≡ Some bytes) × (limit < length bytes)

-- the shelf tells its files, and none has the name
abbrev pub IsMissing : List ℕ → Option Files → Type 0
IsMissing name None = ⊥
IsMissing name (Some files) = files name ≡ None
