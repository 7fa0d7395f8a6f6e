use Rattle.std.proofs.Common.{◌≡◌, ◌<◌, ℕ, [], All, Vec, Global, length, get_or, ap, subst, sym, ◌∙◌, arith}
use Rattle.std.proofs.lemmas.List.{length-map}
use Rattle.cpl_dict.proofs.AddingFacts.{IsKept-names}
use Rattle.cpl_dict.proofs.NotedFacts.{lists_of-read}
use Rattle.cpl_dict.proofs.NumbersFacts.{call_names_of-place}
use Rattle.cpl_dict.specs.Dict.{Dictionary}
use Rattle.cpl_dict.specs.Kept.{lists_of, names_at, names_of}
use Rattle.cpl_dict.specs.Numbers.{call_names_of}
use Rattle.cpl_dict.proofs.dict.Dict.call_names.Goals as goal

-- there is a list of that call
call_within : (c : goal.After-as_slice) → c.args.call < length (lists_of c.self.inside.call_names.items)
call_within c =
    let inside = c.self.inside in
    let groups = lists_of inside.call_names.items in
    let given = subst (λ (d : Dictionary). c.args.call < length d.calls) (sym c.self.view_is) c.requires in
    omega (arith, given, length-map groups (names_at (names_of inside.names.entries)))

-- the list that is lent
list_is : (c : goal.After-as_slice) → c.as_slice.result.now ≡ get_or (lists_of c.self.inside.call_names.items) c.args.call []
list_is c =
    let inside = c.self.inside in
    let within : c.args.call < length inside.call_names.items = omega (arith, call_within c, length-map inside.call_names.items (λ (l : Vec ℕ Global). l.items)) in
    c.as_slice.ensures.value ∙ sym (lists_of-read inside.call_names.items c.args.call c.index.result.now within c.index.ensures)

pub returns-clause-names : goal.returns-clause-names
returns-clause-names c =
    let inside = c.self.inside in
    let es = inside.names.entries in
    let groups = lists_of inside.call_names.items in
    let kept = IsKept-names es groups (lists_of inside.name_calls.items) c.self.invariant.kept in
    list_is c ∙ call_names_of-place (names_of es) groups c.self.invariant.apart kept.placed c.args.call (call_within c)
    ∙ ap (λ (d : Dictionary). call_names_of d c.args.call) c.self.view_is

pub returns-clause-within : goal.returns-clause-within
returns-clause-within c =
    let inside = c.self.inside in
    let es = inside.names.entries in
    let groups = lists_of inside.call_names.items in
    let kept = IsKept-names es groups (lists_of inside.name_calls.items) c.self.invariant.kept in
    let below = subst (λ (d : Dictionary). All (λ number. number < length d.names) (get_or groups c.args.call [])) c.self.view_is (kept.placed c.args.call [] (call_within c)) in
    subst (All (λ number. number < length c.args.self.now.names)) (sym (list_is c)) below
