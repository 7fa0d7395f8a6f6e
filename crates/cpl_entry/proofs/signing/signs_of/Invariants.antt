use Rattle.std.proofs.Common.{◌≡◌, map, take}
use Rattle.cpl_entry.specs.Entries.{sign_of}
use Rattle.cpl_entry.specs.Views.{entry_of}
use Rattle.cpl_entry.proofs.signing.signs_of.Given as goal

-- the signs of the entries so far
abbrev pub invariant-loop-entry : goal.invariant-loop-entry
invariant-loop-entry g l = l.signs.items ≡ map (λ entry. sign_of (entry_of entry)) (take l.entry-index l.entries)
