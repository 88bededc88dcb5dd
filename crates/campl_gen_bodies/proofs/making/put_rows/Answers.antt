use Rattle.std.proofs.Common.{◌≡◌, ◌++◌, ◌∷◌, [], List, OnOk, map, subst}
use Rattle.campl_tree.specs.View.{view_decl}
use Rattle.campl_types.specs.Forms.{Form}
use Rattle.campl_code.specs.Compiled.{decision_for}
use Rattle.campl_instructions.specs.View.{view_decision}
use Rattle.campl_gen_bodies.proofs.RowTurns.{forms-are}
use Rattle.campl_gen_bodies.proofs.making.put_rows.Goals as goal

pub returns : goal.returns
returns c =
    subst (λ (rows : List (List Form)). OnOk c.put_match.result (map view_decision c.put_match.new.out ≡ map view_decision c.args.out.now ++ decision_for (map view_decl c.args.known.now) 1 rows ∷ []))
    (forms-are c.args.rows.now) (rw c.world.ensures at c.put_match.ensures)
