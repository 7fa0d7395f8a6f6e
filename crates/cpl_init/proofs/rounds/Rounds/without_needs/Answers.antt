use Rattle.std.proofs.Common.{◌≡◌, ◌*◌, false, replicate, ap, ◌∙◌, rules}
use Rattle.cpl_init.proofs.RoundFacts.{IsRounds-start}
use Rattle.cpl_init.proofs.rounds.Rounds.without_needs.Goals as goal

pub returns-clause-rounds : goal.returns-clause-rounds
returns-clause-rounds c =
    let wide = c.from-wide.ensures in
    let w = c.from-wide.result in
    let needed : c.in_ok-needed.needed.items ≡ replicate (w * w) false = search rules in
    let missing : c.in_ok-missing.missing.items ≡ replicate w 0 = search rules in
    let placed : c.in_ok-placed.placed.items ≡ replicate w false = search rules in
    IsRounds-start c.args.count c.in_ok-needed.needed.items c.in_ok-missing.missing.items c.in_ok-placed.placed.items (needed ∙ ap (λ n. replicate (n * n) false) wide) (missing ∙ ap (λ n. replicate n 0) wide) (placed ∙ ap (λ n. replicate n false) wide)
