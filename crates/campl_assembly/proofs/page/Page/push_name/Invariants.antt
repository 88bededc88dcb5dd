use Rattle.std.proofs.Common.{◌≡◌, ◌++◌, drop}
use Rattle.campl_assembly.proofs.page.Page.push_name.Given as goal

abbrev pub invariant-loop-c : goal.invariant-loop-c
invariant-loop-c l = l.self ++ drop l.c-index l.name ≡ l.initial.self ++ l.name
