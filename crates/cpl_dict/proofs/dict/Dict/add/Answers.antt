use Rattle.std.proofs.Common.{◌≡◌, ◌++◌, ◌+◌, [], ◌∷◌, false, None, Ok, rules, Vec, Global, ℕ, length, is_some, ap, subst, sym, ◌∙◌}
use Rattle.std.proofs.lemmas.List.{length_push, map_push}
use Rattle.std.specs.Map.{lookup}
use Rattle.std.specs.Str.{bytes_eq}
use Rattle.indexmap.proofs.CallerLemmas.{insert_entry-new}
use Rattle.cpl_dict.proofs.AddingFacts.{IsKept-names, with_name-unknown, view_of-add, one_more_name, is_some-map, none-from}
use Rattle.cpl_dict.proofs.KeptFacts.{IsKept-add}
use Rattle.cpl_dict.proofs.NamesFacts.{lookup-names_of}
use Rattle.cpl_dict.proofs.SynonymsFacts.{AreApart-names_of}
use Rattle.cpl_dict.specs.Dict.{Dictionary, is_known}
use Rattle.cpl_dict.specs.Kept.{IsKept, lists_of}
use Rattle.cpl_dict.proofs.dict.Dict.add.Goals as goal

-- the name isn't there
unknown : (c : goal.After-drop-name-inside-2) → is_known c.args.self.now c.args.name ≡ false
unknown c =
    ap (is_known c.args.self.now) (sym c.bytes.ensures)
    ∙ sym (ap is_some c.units.ensures) ∙ is_some-map (λ units. units.now) c.units.result
    ∙ sym c.is_some.ensures ∙ c.if-is_some.false

-- no entry has the key
absent : (c : goal.After-drop-name-inside-2) → lookup (λ (k : Vec ℕ Global). bytes_eq c.in_ok-key.key.items k.items) c.self.inside.names.entries ≡ None
absent c =
    let key = c.in_ok-key.key in
    let bytes : key.items ≡ c.args.name = c.in_ok-key.ensures.items ∙ c.bytes-2.ensures in
    none-from _ (
    ap is_some (lookup-names_of key.items c.self.inside.names.entries)
    ∙ ap (λ d. is_known d key.items) c.self.view_is ∙ ap (is_known c.args.self.now) bytes ∙ unknown c)

-- the entries after the insert
entries_are : (c : goal.After-drop-name-inside-2) → c.insert.new.self.entries ≡ c.self.inside.names.entries ++ (c.in_ok-key.key, c.args.units) ∷ []
entries_are c = c.in_ok-insert.ensures.entries ∙ insert_entry-new (λ (x y : Vec ℕ Global). bytes_eq x.items y.items) c.self.inside.names c.in_ok-key.key c.args.units (absent c)

pub invariant_of-self-2 : goal.invariant_of-self-2
invariant_of-self-2 c =
    let before = c.self.inside in
    let one_more : length c.insert.new.self.entries ≡ length before.names.entries + 1 = ap length (entries_are c) ∙ length_push before.names.entries (c.in_ok-key.key, c.args.units) in
    let pushed : c.push.new.self.items ≡ before.name_calls.items ++ c.new.result ∷ [] = search rules in
    let lists_are : lists_of c.push.new.self.items ≡ lists_of before.name_calls.items ++ [] ∷ [] =
    ap lists_of pushed ∙ map_push (λ (l : Vec ℕ Global). l.items) before.name_calls.items c.new.result ∙ ap (λ l. lists_of before.name_calls.items ++ l ∷ []) c.new.ensures.items in
    record {
      apart = AreApart-names_of c.insert.new.self.entries c.in_ok-insert.ensures.unique;
      kept = subst (IsKept (length c.insert.new.self.entries) (lists_of before.call_names.items)) (sym lists_are)
          (IsKept-add (length before.names.entries) (length c.insert.new.self.entries) (lists_of before.call_names.items) (lists_of before.name_calls.items) one_more c.self.invariant.kept);
    }

pub returns-clause-gives : goal.returns-clause-gives
returns-clause-gives c =
    let before = c.self.inside in
    let es = before.names.entries in
    let groups = lists_of before.call_names.items in
    let kept = IsKept-names es groups (lists_of before.name_calls.items) c.self.invariant.kept in
    let bytes : c.in_ok-key.key.items ≡ c.args.name = c.in_ok-key.ensures.items ∙ c.bytes-2.ensures in
    let becomes = view_of-add es c.insert.new.self.entries groups c.in_ok-key.key c.args.name c.args.units (entries_are c) bytes kept.placed in
    record {
      value = with_name-unknown c.args.self.now c.args.name c.args.units (unknown c)
          ∙ ap (λ (d : Dictionary). Ok (one_more_name d c.args.name c.args.units)) (sym c.self.view_is)
          ∙ ap Ok becomes;
      fault = tt;
    }
