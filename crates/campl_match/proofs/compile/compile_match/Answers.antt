use Rattle.std.proofs.Common.{◌∙◌, refl, ap, length, map}
use Rattle.campl_tree.specs.View.{view_decl}
use Rattle.campl_types.specs.Forms.{list_of, part_forms}
use Rattle.campl_match.specs.Growing.{tree}
use Rattle.campl_match.specs.View.{view_flat}
use Rattle.campl_match.proofs.Rows.{is-decision, stands-so}
use Rattle.campl_match.proofs.compile.compile_match.Goals as goal

pub returns-clause-exact : goal.returns-clause-exact
returns-clause-exact g c =
    is-decision (map view_decl c.args.world.now) c.args.width (map (λ r. list_of (part_forms (g.R.Row.patterns r))) c.args.rows.now) _ _ c.in_ok-flat.ensures refl
    (c.in_ok-bound.ensures ∙ ap (λ rs. map (λ r. length r.spots) (map view_flat rs)) c.as_slice.ensures) (c.in_ok-nodes.ensures ∙ ap (λ rs. tree (map view_flat rs)) c.as_slice-2.ensures)

pub returns-clause-stands : goal.returns-clause-stands
returns-clause-stands g c = stands-so (map view_decl c.args.world.now) c.args.width (map (λ r. list_of (part_forms (g.R.Row.patterns r))) c.args.rows.now) _ (returns-clause-exact g c)
