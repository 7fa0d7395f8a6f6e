use Rattle.std.proofs.Common.{◌≡◌, ◌<◌, ◌∙◌, ◌++◌, Some, ap, append-nil, length, get_or, sym, subst, take, Vec, Global}
use Rattle.std.specs.List.{All, enumerate_from, filter_map}
use Rattle.std.specs.Option.{option_to_list}
use Rattle.std.proofs.lemmas.List.Elements.{All-push}
use Rattle.cpl_marks.specs.Plans.{checked_import}
use Rattle.cpl_marks.specs.declared.plan.CheckedImport.{CheckedImport}
use Rattle.cpl_marks.proofs.ListFacts.{filter_map-take}
use Rattle.cpl_marks.proofs.PlanFacts.{checked_import-field}
use Rattle.cpl_marks.proofs.plan.checked_among.Goals as goal
use Rattle.cpl_marks.proofs.plan.checked_among.Goals.{in-Some+in_ok-push-in-Some, in-None}

pub loop-number-preserved : goal.loop-number-preserved
loop-number-preserved c =
    let pick = checked_import c.args.comp.now c.args.phase.now c.args.connected.now in
    let k = c.loop-number.number in
    let imports = c.args.imports.now in
    let before = c.loop-number.checked.items in
    let P : CheckedImport → Type 0 = λ import. import.field < length c.args.comp.now.fields in
    let next = filter_map-take pick imports k 0 c.loop-number-test.true in
    elim c.match-checked_import.branch [
      | in-Some+in_ok-push-in-Some w ↦
          let picked : pick (k, get_or imports k 0) ≡ Some w.in-Some.import = sym c.checked_import.ensures ∙ w.in-Some.is in
          let more = ap (λ (v : Vec CheckedImport Global). v.items) w.checked-is ∙ w.in_ok-push-in-Some.ensures.items in
          record {
            value = more ∙ (λ i. c.loop-number.invariant.value i ++ option_to_list (sym picked i)) ∙ sym next;
            within = subst (All P) (sym more) (All-push P before w.in-Some.import c.loop-number.invariant.within
                (subst (λ field. field < length c.args.comp.now.fields) (sym (checked_import-field c.args.comp.now c.args.phase.now c.args.connected.now (k, get_or imports k 0) w.in-Some.import picked))
                (c.requires.imports k 0 c.loop-number-test.true)));
          }
      | in-None w ↦
          let picked = sym c.checked_import.ensures ∙ w.in-None.is in
          let same = ap (λ (v : Vec CheckedImport Global). v.items) w.checked-is in
          record {
            value = same ∙ c.loop-number.invariant.value ∙ sym (append-nil _) ∙ (λ i. filter_map pick (enumerate_from 0 (take k imports)) ++ option_to_list (sym picked i)) ∙ sym next;
            within = subst (All P) (sym same) c.loop-number.invariant.within;
          }
    ]
