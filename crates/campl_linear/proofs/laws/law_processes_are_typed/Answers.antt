use Rattle.campl_linear.proofs.Processed.{processes-sound, processes-agree}
use Rattle.campl_linear.proofs.laws.law_processes_are_typed.Goals as goal

pub returns : goal.returns
returns c = record { sound = processes-sound; both = processes-agree }
