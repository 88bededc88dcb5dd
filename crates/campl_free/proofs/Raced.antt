-- Whether a `race` stands in each command and each row.
use Rattle.std.proofs.Common.{◌≡◌, ◌∙◌, refl, ap, List, [], ◌∷◌, map}
use Rattle.std.proofs.lemmas.List.{drop_more, drop_all}
use Rattle.campl_tree.specs.declared.process.Body.{Body}
use Rattle.campl_tree.specs.declared.process.Body as code
use Rattle.campl_tree.specs.Plain.Process as b
use Rattle.campl_tree.specs.View.{view_action, view_last, view_body, actions_then}
use Rattle.campl_tree.proofs.Views.{process_views, view_body-out}
use Rattle.campl_free.specs.Racing.{races}

then-races : (actions : List b.Action) (end : b.Body) → races (actions_then actions end) ≡ races end
then-races [] end = refl
then-races (a ∷ more) end = then-races more end

pub body-races : (q : Body) → races (view_body q) ≡ races (view_last (code.out-Body q).last)
body-races q = ap races (view_body-out q) ∙ then-races (map view_action (code.out-Body q).actions) (view_last (code.out-Body q).last)

pub ruleset bodies = (process_views, body-races)

pub ruleset rows = (drop_more, drop_all)
