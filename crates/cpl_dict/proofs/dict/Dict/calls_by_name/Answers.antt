use Rattle.std.proofs.Common.{◌≡◌, ◌<◌, ℕ, Vec, Global, length, ap, sym, ◌∙◌, is_some, false, arith}
use Rattle.std.proofs.lemmas.List.{length-map}
use Rattle.std.specs.Map.{lookup}
use Rattle.std.specs.Str.{bytes_eq}
use Rattle.cpl_dict.proofs.AddingFacts.{IsKept-names}
use Rattle.cpl_dict.proofs.NamesFacts.{lookup-names_of, place-names_of}
use Rattle.cpl_dict.proofs.NotedFacts.{lists_of-read}
use Rattle.cpl_dict.proofs.SynonymsFacts.{AreApart-names_of, calls-found, calls-missing}
use Rattle.cpl_dict.specs.Dict.{Dictionary, is_among}
use Rattle.cpl_dict.specs.Kept.{lists_of, names_of}
use Rattle.cpl_dict.specs.Numbers.{places_from}
use Rattle.cpl_dict.proofs.dict.Dict.calls_by_name.Goals as goal

pub returns-in-Some : goal.returns-in-Some
returns-in-Some c =
    let inside = c.self.inside in
    let es = inside.names.entries in
    let groups = lists_of inside.call_names.items in
    let lists = lists_of inside.name_calls.items in
    let name = c.args.name.now in
    let within : c.in-Some.number < length inside.name_calls.items = omega (arith, c.in-Some.ensures.within, c.self.invariant.kept.counted, length-map inside.name_calls.items (λ (l : Vec ℕ Global). l.items)) in
    let read = lists_of-read inside.name_calls.items c.in-Some.number c.index.result.now within c.index.ensures in
    let at = sym (place-names_of name es) ∙ sym c.get_index_of.ensures.index ∙ c.in-Some.is in
    c.as_slice.ensures.value ∙ sym read
    ∙ calls-found (names_of es) groups lists (AreApart-names_of es c.get_index_of.ensures.unique) (IsKept-names es groups lists c.self.invariant.kept) name c.in-Some.number at
    ∙ ap (λ (d : Dictionary). places_from 0 (λ g. is_among g name) d.calls) c.self.view_is

pub returns-in-None : goal.returns-in-None
returns-in-None c =
    let inside = c.self.inside in
    let es = inside.names.entries in
    let groups = lists_of inside.call_names.items in
    let lists = lists_of inside.name_calls.items in
    let name = c.args.name.now in
    let missing : is_some (lookup (bytes_eq name) (names_of es)) ≡ false = ap is_some (sym (lookup-names_of name es)) ∙ sym c.get_index_of.ensures.found ∙ ap is_some c.in-None.is in
    calls-missing (names_of es) groups lists (IsKept-names es groups lists c.self.invariant.kept) name missing
    ∙ ap (λ (d : Dictionary). places_from 0 (λ g. is_among g name) d.calls) c.self.view_is
