use Rattle.std.proofs.Common.{◌≡◌, rules}
use Rattle.std.proofs.lemmas.List.Sorted.{IsNonDecreasingBy-from_sort_by_key, answers_always}
use Rattle.cpl_smm.specs.Kept.{pair_of}
use Rattle.cpl_smm.specs.declared.entries.KeptFactor.{KeptFactor}
use Rattle.cpl_smm.proofs.entries.sort_factors.Goals as goal

pub returns-clause-sorted : goal.returns-clause-sorted
returns-clause-sorted c = IsNonDecreasingBy-from_sort_by_key (λ (k : KeptFactor). pair_of k) _ c.in_ok-sort_by_key.ensures.sorted (λ a r q k. search rules)

pub returns-clause-stable : goal.returns-clause-stable
returns-clause-stable c = c.sort_by_key.ensures.stable (λ (k : KeptFactor). pair_of k) (answers_always _ (λ a r. r ≡ pair_of a.0.now) _ (λ f a r q k. search rules))
