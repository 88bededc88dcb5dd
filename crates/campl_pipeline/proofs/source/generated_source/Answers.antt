use Rattle.std.proofs.Common.{◌≡◌, ◌∙◌, IfOk, subst}
use Rattle.campl_pipeline.proofs.Parts.{in_parts}
use Rattle.campl_pipeline.proofs.source.generated_source.Goals as goal

pub returns : goal.returns
returns c = subst (λ s. IfOk c.of.result (λ text. text ≡ s)) (c.as_str.ensures.value ∙ (c.in_ok-source.ensures.ok ∙ in_parts c.args.stages)) c.of.ensures
