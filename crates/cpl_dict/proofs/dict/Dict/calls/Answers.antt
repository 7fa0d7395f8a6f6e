use Rattle.std.proofs.Common.{◌≡◌, ◌<◌, ℕ, All, Vec, Global, length, ap, subst, sym, ◌∙◌, arith}
use Rattle.std.proofs.lemmas.List.{length-map}
use Rattle.std.specs.List.Sorted.{IsStrictlyIncreasing}
use Rattle.cpl_dict.proofs.AddingFacts.{IsKept-names}
use Rattle.cpl_dict.proofs.KeptFacts.{IsAscending-places_from, places_from-below}
use Rattle.cpl_dict.proofs.NotedFacts.{lists_of-read}
use Rattle.cpl_dict.proofs.NumbersFacts.{IsStrictlyIncreasing-IsAscending, calls_of-place}
use Rattle.cpl_dict.specs.Dict.{Dictionary, is_among}
use Rattle.cpl_dict.specs.Kept.{lists_of, names_of}
use Rattle.cpl_dict.specs.Numbers.{calls_of, name_of}
use Rattle.cpl_dict.proofs.dict.Dict.calls.Goals as goal

-- the list that is lent
calls_are : (c : goal.After-as_slice) → c.as_slice.result.now ≡ calls_of c.args.self.now c.args.number
calls_are c =
    let inside = c.self.inside in
    let es = inside.names.entries in
    let groups = lists_of inside.call_names.items in
    let lists = lists_of inside.name_calls.items in
    let kept = IsKept-names es groups lists c.self.invariant.kept in
    let named : c.args.number < length (names_of es) = subst (λ (d : Dictionary). c.args.number < length d.names) (sym c.self.view_is) c.requires in
    let within : c.args.number < length inside.name_calls.items = omega (arith, kept.counted, length-map inside.name_calls.items (λ (l : Vec ℕ Global). l.items)) in
    c.as_slice.ensures.value
    ∙ sym (lists_of-read inside.name_calls.items c.args.number c.index.result.now within c.index.ensures)
    ∙ calls_of-place (names_of es) groups c.self.invariant.apart lists kept c.args.number named
    ∙ ap (λ (d : Dictionary). calls_of d c.args.number) c.self.view_is

pub returns-clause-calls : goal.returns-clause-calls
returns-clause-calls c = calls_are c

pub returns-clause-ascending : goal.returns-clause-ascending
returns-clause-ascending c =
    let d = c.args.self.now in
    let ascending = IsStrictlyIncreasing-IsAscending 0 (calls_of d c.args.number) (IsAscending-places_from 0 (λ call. is_among call (name_of d c.args.number)) d.calls) in
    subst IsStrictlyIncreasing (sym (calls_are c)) ascending

pub returns-clause-within : goal.returns-clause-within
returns-clause-within c =
    let d = c.args.self.now in
    let below = places_from-below 0 (length d.calls) (λ call. is_among call (name_of d c.args.number)) d.calls (omega arith) in
    subst (All (λ call. call < length d.calls)) (sym (calls_are c)) below
