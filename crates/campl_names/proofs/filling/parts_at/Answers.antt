use Rattle.std.proofs.Common.{◌≡◌, ◌∙◌, ap, IfOk, map, subst}
use Rattle.campl_tree.specs.View.{view_seq}
use Rattle.campl_names.specs.Filling.{view_filling}
use Rattle.campl_types.specs.Substitution.{filling, filled}
use Rattle.campl_types.specs.World.{names_of}
use Rattle.campl_names.proofs.Fillings.{FindSame, same-map-filled}
use Rattle.campl_names.proofs.filling.parts_at.Goals as goal

pub returns : goal.returns
returns c =
    let all = view_filling c.in_ok-filling.filling in
    let arguments = map view_seq c.args.arguments.now in
    let same : FindSame all (filling (names_of c.args.d.now.parameters) arguments) = subst (λ ps. FindSame all (filling (names_of ps) arguments)) c.as_slice.ensures c.in_ok-filling.ensures in
    let parts : map (filled all) (map view_seq c.as_slice-2.result.now) ≡ map (filled (filling (names_of c.args.d.now.parameters) arguments)) (map view_seq c.args.k.now.parts) =
    ap (λ ks. map (filled all) (map view_seq ks)) c.as_slice-2.ensures ∙ same-map-filled _ _ same _
    in
    subst (λ us. IfOk c.filled_all.result (λ ps. map view_seq ps ≡ us)) parts c.filled_all.ensures
