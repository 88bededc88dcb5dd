use Rattle.std.proofs.Common.{◌≡◌, IfOk, subst, map}
use Rattle.campl_tree.specs.View.{view_decl}
use Rattle.campl_code.specs.Compiled.{Flat}
use Rattle.campl_match.specs.View.{view_flat}
use Rattle.campl_match.proofs.Flattening.{row-whole, row-never}
use Rattle.campl_match.proofs.flatten.flat_row.Goals as goal

pub returns-then-patterns-width : goal.returns-then-patterns-width
returns-then-patterns-width c = row-whole (map view_decl c.args.world.now) c.args.width c.args.number c.args.patterns.now _ c.in_ok-row.ensures c.if-patterns-width.true

pub returns-else-patterns-width : goal.returns-else-patterns-width
returns-else-patterns-width c =
    subst (λ (x : Flat). IfOk c.never_held.result (λ r. view_flat r ≡ x))
    (row-never (map view_decl c.args.world.now) c.args.width c.args.number c.args.patterns.now (view_flat c.in_ok-row.row) c.in_ok-row.ensures c.if-patterns-width.false) c.never_held.ensures
