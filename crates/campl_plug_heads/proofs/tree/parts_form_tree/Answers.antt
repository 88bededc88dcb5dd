use Rattle.std.proofs.Common.{◌∙◌, ◌≤◌, sym, subst, length, map}
use Rattle.campl_tree.specs.View.{view_link, view_part, parts}
use Rattle.campl_held.specs.Answered.{Refused}
use Rattle.campl_plug_heads.proofs.Trees.{apart-at, count-is, joined-so}
use Rattle.campl_plug_heads.proofs.tree.parts_form_tree.Goals as goal

pub returns-in-Err-Apart : goal.returns-in-Err-Apart
returns-in-Err-Apart c =
    subst (λ j. Refused j c.is_apart.result)
    (sym (apart-at (map view_link c.args.links.now) (parts (map view_part c.args.parts.now)) (subst (λ n. 1 ≤ n) (sym (count-is c.args.parts.now)) c.requires.some) c.requires.within
    (length c.args.parts.now) c.deref.result.now c.in-Err-Apart.part (sym (count-is c.args.parts.now))
    (c.deref.ensures.value ∙ c.in-Ok.ensures ∙ joined-so (parts (map view_part c.args.parts.now)) (map view_link c.args.links.now) c.args.ends.now.inputs c.args.ends.now.outputs c.requires.inputs c.requires.outputs)
    (rw c.in-Err-Apart.field-0-is at c.in-Err-Apart.ensures.fault)))
    c.is_apart.ensures
