use Rattle.std.proofs.Common.{sym}
use Rattle.std.proofs.lemmas.Result.{on_ok_weaker}
use Rattle.campl_instructions.specs.View.{view_block}
use Rattle.campl_eval.specs.View.{code_of, seen}
use Rattle.campl_eval.proofs.Passed.{behind}
use Rattle.campl_eval.proofs.machine.Frame.leap.Goals as goal

pub returns : goal.returns
returns c =
    let here = sym (rw c.in-Some.is at c.block.ensures) in
    on_ok_weaker c.go_in.result (behind (code_of c.args.program.now) (view_block c.in-Some.block.now) (seen c.args.self.now) (seen c.pass.new.self) (seen c.go_in.new.self) here c.pass.ensures.same c.pass.ensures.comes) c.go_in.ensures
