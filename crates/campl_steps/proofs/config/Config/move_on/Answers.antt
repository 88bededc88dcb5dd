use Rattle.std.proofs.Common.{arith}
use Rattle.campl_parts.specs.Views.{life_of}
use Rattle.campl_steps.proofs.Applied.{moved-on}
use Rattle.campl_steps.proofs.config.Config.move_on.Goals as goal

pub returns-clause-did : goal.returns-clause-did
returns-clause-did c =
    let deliver = c.deliver-changed.ensures in
    let opened = c.open.ensures in
    let gone = c.go_on.ensures in
    moved-on c.args.self.now c.deliver-changed.new.self c.open.new.self c.go_on.new.self c.args.number c.args.channels c.args.planned.send (life_of c.args.planned.next) c.args.planned.child
    deliver.processes (omega (arith, deliver.len)) deliver.arrived opened.processes (omega (arith, opened.len)) opened.born gone.ends (omega (arith, gone.len)) gone.goes c.requires.send
