use Rattle.campl_code.proofs.OtherDecisions.{same-rows}
use Rattle.campl_code_bodies.proofs.OtherDecisions.{source-too}
use Rattle.campl_code_bodies.proofs.laws.law_other_decisions.Goals as goal

pub returns : goal.returns
returns c = record { stands = λ w code ds s alike. source-too w code ds alike s; alike = same-rows }
