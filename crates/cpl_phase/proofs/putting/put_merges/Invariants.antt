use Rattle.std.proofs.Common.{◌≡◌, drop, map}
use Rattle.cpl_phase.specs.Puts.{AreBack, all_put}
use Rattle.cpl_phase.proofs.putting.put_merges.Given as goal

-- what is left to put gives what all give, and what came back is as it was
abbrev pub invariant-loop-j : goal.invariant-loop-j
invariant-loop-j l = record {
  put : all_put (map (λ row. row.field) (drop l.j l.rows)) (drop l.j l.others) l.fields ≡ all_put
      (map (λ row. row.field) l.rows) l.initial.others l.initial.fields;
  back : AreBack l.initial.fields l.initial.others l.others;
  there : AreBack l.initial.others l.initial.fields l.fields;
}
