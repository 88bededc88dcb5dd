use Rattle.std.proofs.Common.{◌∙◌, sym, ap}
use Rattle.campl_tree.specs.declared.service.Side.TheVariants.{Output}
use Rattle.campl_tree.specs.View.{view_part}
use Rattle.campl_tree.proofs.Views.{view_part-out}
use Rattle.campl_types.specs.World.{names_of}
use Rattle.campl_seqcheck.specs.Judged.{fine}
use Rattle.campl_linear.specs.Plugs.{names_stand}
use Rattle.campl_held.specs.Slots.{view_held}
use Rattle.campl_held.proofs.Told.{follows}
use Rattle.campl_plug_heads.specs.Heads.{links_named, names_in}
use Rattle.campl_plug_heads.proofs.Turns.{own-stand}
use Rattle.campl_plug_heads.proofs.heads.outputs_stand.Goals as goal

pub returns-clause-judged : goal.returns-clause-judged
returns-clause-judged c =
    follows (λ _. fine) _ _ c.names_stand.result
    (own-stand (links_named c.args.around.now.links.now) (view_held c.args.around.now.held.now) Output c.in-Ok.own (names_of (view_part c.args.part.now).0.inputs) (names_in c.args.before.now) (view_part c.args.part.now).0.outputs c.in-Ok.ensures
    ∙ ap (names_stand (links_named c.args.around.now.links.now) (view_held c.args.around.now.held.now) Output _) (ap (λ v. v.0.outputs) (view_part-out c.args.part.now) ∙ sym c.as_slice.ensures))
    c.names_stand.ensures.judged
