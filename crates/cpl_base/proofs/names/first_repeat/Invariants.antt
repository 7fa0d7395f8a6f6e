use Rattle.std.proofs.Common.{◌≡◌, List, ℕ, take, drop}
use Rattle.std.specs.Borrow.{Bor}
use Rattle.std.specs.HashSet.{contains}
use Rattle.std.specs.List.{list_any}
use Rattle.std.specs.Str.{bytes_eq}
use Rattle.cpl_base.specs.Words.{first_repeat, repeat_behind}
use Rattle.cpl_base.proofs.names.first_repeat.Given as goal

-- no text so far stood before, and the set has just those
abbrev pub invariant-loop-place : goal.invariant-loop-place
invariant-loop-place l =
    (first_repeat l.among ≡ repeat_behind (take l.place l.among) (drop l.place l.among))
    × ((q : Bor (List ℕ)) → contains (λ a b. bytes_eq a.now b.now) l.seen q ≡ list_any (λ other. bytes_eq other q.now) (take l.place l.among))
