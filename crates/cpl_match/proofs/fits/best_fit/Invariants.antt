use Rattle.std.proofs.Common.{◌≡◌, drop, fold, max}
use Rattle.cpl_match.specs.Matching.{best_fit, fit}
use Rattle.cpl_match.proofs.fits.best_fit.Given as goal

-- the best so far and those of the ports left are the best of all
abbrev pub invariant-loop-place : goal.invariant-loop-place
invariant-loop-place l =
    fold (λ best port. max best (fit l.scope.dict.now l.scope.ways.now l.import.port.now port)) l.best (drop l.place l.scope.ports.now)
    ≡ best_fit l.scope.dict.now l.scope.ways.now l.scope.ports.now l.import.port.now
