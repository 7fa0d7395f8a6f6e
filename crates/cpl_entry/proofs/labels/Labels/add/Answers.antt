use Rattle.std.proofs.Common.{cond, not, ◌++◌, ◌∷◌, [], ap, ◌∙◌}
use Rattle.std.specs.List.{list_any}
use Rattle.cpl_entry.proofs.LabelsFacts.{held_in, held_in-pushed, is_there-held}
use Rattle.cpl_entry.specs.Kept.{is_there, with_label}
use Rattle.cpl_entry.proofs.labels.Labels.add.Goals as goal

pub returns-clause-added : goal.returns-clause-added
returns-clause-added c =
    c.in_ok-insert.ensures.added ∙ ap not (is_there-held c.in_ok-label.label.items c.self.inside.held.keys)
    ∙ ap (λ labels. not (is_there labels c.in_ok-label.label.items)) c.self.view_is
    ∙ ap (λ label. not (is_there c.args.self.now label)) c.in_ok-label.ensures.items

pub returns-clause-labels : goal.returns-clause-labels
returns-clause-labels c =
    ap held_in c.in_ok-insert.ensures.keys
    ∙ held_in-pushed c.self.inside.held.keys c.in_ok-label.label (list_any _ c.self.inside.held.keys)
    ∙ ap (λ there. cond there (held_in c.self.inside.held.keys) (held_in c.self.inside.held.keys ++ c.in_ok-label.label.items ∷ [])) (is_there-held c.in_ok-label.label.items c.self.inside.held.keys)
    ∙ ap (λ labels. with_label labels c.in_ok-label.label.items) c.self.view_is
    ∙ ap (λ label. with_label c.args.self.now label) c.in_ok-label.ensures.items
