use Rattle.campl_linear.proofs.Processed.{bodies-sound, bodies-agree}
use Rattle.campl_linear.proofs.laws.law_bodies_are_well_formed.Goals as goal

pub returns : goal.returns
returns c = record { sound = bodies-sound; both = bodies-agree }
