use Rattle.campl_gen_channels.specs.View.{view_channels}
use Rattle.campl_gen_bodies.proofs.Divided.{first-so, second-so}
use Rattle.campl_gen_bodies.proofs.halves.divide.Goals as goal

pub returns-clause-first : goal.returns-clause-first
returns-clause-first c =
    first-so c.args.x.now c.args.left.now c.args.held.now.next (view_channels c.args.held.now) (view_channels c.in_ok-first.first) c.in_ok-free.free c.in_ok-free.ensures c.in_ok-first.ensures.half

pub returns-clause-second : goal.returns-clause-second
returns-clause-second c =
    second-so c.args.x.now c.args.left.now c.args.right.now c.args.held.now.next (view_channels c.args.held.now) (view_channels c.in_ok-second.second) c.in_ok-free.free c.in_ok-free.ensures c.in_ok-second.ensures.half
