use Rattle.std.proofs.Common.{subst}
use Rattle.cpl_dict.proofs.AddingFacts.{IsKept-names}
use Rattle.cpl_dict.proofs.NumbersFacts.{IsNumbered-numbered}
use Rattle.cpl_dict.specs.Kept.{lists_of, names_of}
use Rattle.cpl_dict.specs.Numbers.{IsNumbered}
use Rattle.cpl_dict.proofs.dict.Dict.number_laws.Goals as goal

pub returns : goal.returns
returns c =
    let inside = c.self.inside in
    let es = inside.names.entries in
    let groups = lists_of inside.call_names.items in
    let kept = IsKept-names es groups (lists_of inside.name_calls.items) c.self.invariant.kept in
    subst IsNumbered c.self.view_is (IsNumbered-numbered (names_of es) groups c.self.invariant.apart kept.placed)
