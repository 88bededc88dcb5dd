use Rattle.campl_code.specs.Stands.{functions_of}
use Rattle.campl_code.proofs.Whole.{generated-stands}
use Rattle.campl_code.proofs.Onward.{functions_ahead}
use Rattle.campl_code.proofs.laws.law_functions_code.Goals as goal

pub returns : goal.returns
returns c = record { stands = generated-stands; ahead = λ w. functions_ahead w (functions_of w) 0 }
