use Rattle.std.proofs.Common.{◌≡◌, ◌++◌, ◌∷◌, [], List, OnOk, map, subst}
use Rattle.campl_tree.specs.View.{view_decl}
use Rattle.campl_types.specs.Forms.{Form}
use Rattle.campl_code.specs.Compiled.{decision_for}
use Rattle.campl_instructions.specs.View.{view_decision}
use Rattle.campl_gen_functions.proofs.Decided.{forms-are}
use Rattle.campl_gen_functions.proofs.functions.put_case.Goals as goal

pub returns : goal.returns
returns c =
    subst (λ (k : List (List Form)). OnOk c.put_match.result (map view_decision c.put_match.new.out ≡ map view_decision c.args.out.now ++ decision_for (map view_decl c.args.world.now) 1 k ∷ []))
    (forms-are c.args.rows.now) c.put_match.ensures
