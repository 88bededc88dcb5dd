use Rattle.campl_gen_channels.specs.View.{view_channels}
use Rattle.campl_gen.proofs.Blocks.{heading-held}
use Rattle.campl_gen.proofs.processes.heading.Goals as goal

pub returns-clause-held : goal.returns-clause-held
returns-clause-held c =
    heading-held c.args.row.now.inputs c.args.row.now.outputs c.as_slice.result.now c.as_slice-2.result.now (view_channels c.new-held.result) (view_channels c.come_behind.new.self) (view_channels c.come_behind-2.new.self) c.new-held.result.next
    c.come_behind.new.self.next c.in_ok-come_behind.ensures.came c.new-held.ensures.none c.new-held.ensures.next c.as_slice.ensures c.in_ok-come_behind.ensures.next c.in_ok-come_behind-2.ensures.came c.as_slice-2.ensures
