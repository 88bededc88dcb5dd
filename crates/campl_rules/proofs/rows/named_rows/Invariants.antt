use Rattle.std.proofs.Common.{◌≡◌, ◌++◌, map, drop}
use Rattle.campl_code.specs.Operands.{names_rows}
use Rattle.campl_instructions.specs.View.{view_decision}
use Rattle.campl_rules.proofs.rows.named_rows.Given as goal

abbrev pub invariant-loop-decision : goal.invariant-loop-decision
invariant-loop-decision l =
    l.named.items ++ map (λ d. names_rows d.bound d.tree) (map view_decision (drop l.decision-index l.decisions)) ≡ map (λ d. names_rows d.bound d.tree) (map view_decision l.decisions)
