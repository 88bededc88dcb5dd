use Rattle.campl_code_bodies.proofs.BodiesAhead.{source-ahead}
use Rattle.campl_code_bodies.proofs.Sources.{source-stands}
use Rattle.campl_code_bodies.proofs.laws.law_bodies_code.Goals as goal

pub returns : goal.returns
returns c = record { ahead = source-ahead; stands = source-stands }
