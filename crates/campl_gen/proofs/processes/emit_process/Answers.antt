use Rattle.std.proofs.Common.{map}
use Rattle.campl_tree.specs.View.{view_decl, view_process}
use Rattle.campl_gen_channels.specs.View.{view_channels}
use Rattle.campl_gen_bodies.specs.View.{view_making}
use Rattle.campl_gen.proofs.Blocks.{process-done}
use Rattle.campl_gen.proofs.processes.emit_process.Goals as goal

pub returns : goal.returns
returns c =
    process-done (map view_decl c.args.known.now) (view_process c.args.p.now) (view_making c.args.making.now) (view_making c.begin.new.making) (view_making c.receive_all.new.making) _ c.in_ok-held.held.next (view_channels c.in_ok-held.held) c.in_ok-begin.ensures
    (rw c.as_slice.ensures at c.in_ok-receive_all.ensures) c.in_ok-held.ensures.held c.in_ok-held.ensures.next c.in_ok-emit_body.ensures
