use Rattle.std.proofs.Common.{◌≡◌, ◌++◌, drop, length, map}
use Rattle.campl_solo.specs.Beginning.{servings_at_start}
use Rattle.campl_run.proofs.services.services_at_start.Given as goal

-- the services so far and those of the rest are all
abbrev pub invariant-loop-i : goal.invariant-loop-i
invariant-loop-i l = record {
  count : length l.scripts ≡ length l.names;
  all : map (λ s. s.serving) l.services.items ++ servings_at_start (drop l.i l.names) (drop l.i l.scripts) ≡ servings_at_start l.names l.initial.scripts;
}
