-- What contracts see of files and streams: what they tell, and how many faults they had.
use Rattle.std.specs.Prelude.{◌≡◌, ℕ, ◌+◌, ◌^◌, ◌<◌, ◌≤◌, ◌⊎◌, List, ◌++◌, Option, option_map}

-- A count of faults rose in a call: it is greater at the end, or it stands at the end of its type.
abbrev pub Rises : ℕ → ℕ → Type 0
Rises before after = (before < after) ⊎ (2 ^ 64 ≤ after + 1)

-- A count of faults didn't rise in a call.
pub record Stays (before after : ℕ) : Type 0 where
  pub same : after ≡ before
  pub counts : after + 1 < 2 ^ 64

-- what each name holds
abbrev pub Files : Type 0
Files = List ℕ → Option (List ℕ)

-- what is told of a stream after more bytes went to it
abbrev pub bytes_after : Option (List ℕ) → List ℕ → Option (List ℕ)
bytes_after told bytes = option_map (λ so_far. so_far ++ bytes) told
