-- A program whose steps are independent.
use Rattle.campl_machine.proofs.Programs.{both-orders, has-diamond}
use Rattle.campl_machine.proofs.diamond.law_program.Goals as goal

pub returns-clause-both_orders : goal.returns-clause-both_orders
returns-clause-both_orders g c = both-orders

pub returns-clause-diamond : goal.returns-clause-diamond
returns-clause-diamond g c = has-diamond
