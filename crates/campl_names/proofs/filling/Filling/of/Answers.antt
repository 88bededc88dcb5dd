use Rattle.std.proofs.Common.{◌<◌, ◌≤◌, ◌⊎◌, inl, inr, ◌∙◌, length, arith}
use Rattle.std.proofs.lemmas.Bool.{cases_lt}
use Rattle.campl_names.proofs.Fillings.{found-next, found-all}
use Rattle.campl_names.proofs.filling.Filling.of.Goals as goal

pub loop-i-preserved : goal.loop-i-preserved
loop-i-preserved c x =
    let in_parameters : c.loop-i.i < length c.args.parameters.now = omega (arith, c.min-i-end.ensures) in
    let in_arguments : c.loop-i.i < length c.args.arguments.now = omega (arith, c.min-i-end.ensures) in
    found-next x c.loop-i.i _ _ c.index-parameters-i.result c.index-arguments-i.result c.loop-i.filling _ c.in_ok-bind_once.ensures c.index-arguments-i.is in_parameters in_arguments ∙ c.loop-i.invariant x

pub returns : goal.returns
returns c x =
    let past : (length c.args.parameters.now ≤ c.loop-i.i) ⊎ (length c.args.arguments.now ≤ c.loop-i.i) =
    elim (cases_lt c.loop-i.i (length c.args.parameters.now)) [ inl within ↦ inr (omega (arith, c.min-i-end.ensures)) | inr past ↦ inl past ]
    in
    found-all x c.loop-i.i _ _ c.loop-i.filling past ∙ c.loop-i.invariant x
