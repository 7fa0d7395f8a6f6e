use Rattle.std.proofs.Common.{◌≡◌, ◌<◌, ◌++◌, [], ◌∷◌, ℕ, Vec, Global, length, All, ap, subst, sym, ◌∙◌, arith, rules}
use Rattle.std.proofs.lemmas.Grind.{common_steps}
use Rattle.std.proofs.lemmas.List.{length-map, map_push}
use Rattle.cpl_dict.proofs.KeptFacts.{IsKept-note, noted_below}
use Rattle.cpl_dict.proofs.NamesFacts.{length-names_of}
use Rattle.cpl_dict.specs.Kept.{IsKept, IsNotedAt, lists_of}
use Rattle.cpl_dict.proofs.dict.Dict.synonym.Goals as goal

pub note-requires-clause-above : goal.note-requires-clause-above
note-requires-clause-above c =
    let inside = c.self.inside in
    let as_many : c.len.result ≡ length inside.call_names.items = grind (arith, common_steps) in
    let number_is : c.len.result ≡ length (lists_of inside.call_names.items) = as_many ∙ sym (length-map inside.call_names.items (λ (l : Vec ℕ Global). l.items)) in
    subst (All (All (λ x. x < c.len.result))) (sym c.in_ok-make_room.ensures.items) (noted_below (length inside.names.entries) c.len.result (lists_of inside.call_names.items) (lists_of inside.name_calls.items) number_is c.self.invariant.kept)

pub invariant_of-self-2 : goal.invariant_of-self-2
invariant_of-self-2 c =
    let inside = c.self.inside in
    let groups = lists_of inside.call_names.items in
    let places = c.in_ok-places.places.items in
    let as_many : c.len.result ≡ length inside.call_names.items = grind (arith, common_steps) in
    let number_is : c.len.result ≡ length groups = as_many ∙ sym (length-map inside.call_names.items (λ (l : Vec ℕ Global). l.items)) in
    let pushed : c.push.new.self.items ≡ inside.call_names.items ++ c.in_ok-places.places ∷ [] = search rules in
    let groups_are : lists_of c.push.new.self.items ≡ groups ++ places ∷ [] =
    ap lists_of pushed ∙ map_push (λ (l : Vec ℕ Global). l.items) inside.call_names.items c.in_ok-places.places in
    let noted : IsNotedAt places c.len.result (lists_of inside.name_calls.items) (lists_of c.note.new.lists.items) =
    rw (c.as_slice-2.ensures.value, c.in_ok-make_room.ensures.items) at c.note.ensures in
    let placed : All (λ p. p < length inside.names.entries) places = subst (λ n. All (λ p. p < n) places) (length-names_of inside.names.entries) c.in_ok-places.ensures.placed in
    record {
      apart = c.self.invariant.apart;
      kept = subst (λ gs. IsKept (length inside.names.entries) gs (lists_of c.note.new.lists.items)) (sym groups_are)
          (IsKept-note (length inside.names.entries) c.len.result groups (lists_of inside.name_calls.items) (lists_of c.note.new.lists.items) places number_is placed noted c.self.invariant.kept);
    }
