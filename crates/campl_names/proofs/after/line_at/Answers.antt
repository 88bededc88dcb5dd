use Rattle.std.proofs.Common.{◌≡◌, IfOk, map, subst}
use Rattle.campl_tree.specs.View.{view_seq, view_chan}
use Rattle.campl_names.specs.Filling.{view_filling}
use Rattle.campl_names.proofs.Fillings.{line-at}
use Rattle.campl_names.proofs.after.line_at.Goals as goal

pub returns : goal.returns
returns c =
    subst (λ u. IfOk c.chan_at.result (λ v. view_chan v ≡ u))
    (line-at (view_filling c.in_ok-filling.filling) c.args.local.now c.args.name.now c.args.parameters.now (map view_seq c.args.arguments.now) (view_chan c.args.t.now) c.in_ok-filling.ensures) c.chan_at.ensures
