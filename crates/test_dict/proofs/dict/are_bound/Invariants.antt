use Rattle.std.proofs.Common.{◌≡◌, false, take}
use Rattle.std.specs.List.{list_any}
use Rattle.cpl_dict.specs.Numbers.{call_names_of, has_number}
use Rattle.test_dict.proofs.dict.are_bound.Given as goal

-- no call so far gave the second name
abbrev pub invariant-loop-call : goal.invariant-loop-call
invariant-loop-call l = list_any (λ call. has_number (call_names_of l.dict call) l.second) (take l.call-index l.calls) ≡ false
