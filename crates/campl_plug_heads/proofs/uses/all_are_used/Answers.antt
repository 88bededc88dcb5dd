use Rattle.std.proofs.Common.{◌∙◌, sym, ap, map}
use Rattle.campl_tree.specs.View.{view_part, parts}
use Rattle.campl_seqcheck.specs.Judged.{fine}
use Rattle.campl_linear.specs.Channels.{none_left}
use Rattle.campl_held.specs.Slots.{view_held}
use Rattle.campl_held.proofs.Told.{follows}
use Rattle.campl_plug_heads.proofs.Used.{all-used-by}
use Rattle.campl_plug_heads.proofs.uses.all_are_used.Goals as goal

pub returns : goal.returns
returns c =
    follows (λ _. fine) _ _ c.none_left.result
    (all-used-by c.args.at (parts (map view_part c.args.parts.now)) c.in-Ok.used (view_held c.args.held.now) c.in-Ok.ensures ∙ ap (none_left c.args.at) (sym c.in-Ok-those.ensures))
    c.none_left.ensures
