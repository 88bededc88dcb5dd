use Rattle.std.proofs.Common.{map}
use Rattle.campl_tree.specs.View.{view_decl, view_process}
use Rattle.campl_code_bodies.specs.Bodies.{processes_of}
use Rattle.campl_instructions.specs.View.{view_block, view_decision}
use Rattle.campl_gen.proofs.Blocks.{block-more, decisions-more}
use Rattle.campl_gen.proofs.processes.put_declaration.Goals as goal

pub returns-in_ok-put_process-in-Process-clause-blocks : goal.returns-in_ok-put_process-in-Process-clause-blocks
returns-in_ok-put_process-in-Process-clause-blocks c =
    rw c.in-Process.is
    (λ ds. block-more (map view_decl c.args.known.now) (view_process c.in-Process.p) (processes_of ds) (map view_block c.args.blocks.now) (map view_block c.put_process.new.blocks) (map view_decision c.args.making.now.decisions) (map view_decision c.put_process.new.making.decisions)
    c.in_ok-put_process-in-Process.ensures.block c.in_ok-put_process-in-Process.ensures.decisions)

pub returns-in_ok-put_process-in-Process-clause-decisions : goal.returns-in_ok-put_process-in-Process-clause-decisions
returns-in_ok-put_process-in-Process-clause-decisions c =
    rw c.in-Process.is
    (λ ds. decisions-more (map view_decl c.args.known.now) (view_process c.in-Process.p) (processes_of ds) (map view_decision c.args.making.now.decisions) (map view_decision c.put_process.new.making.decisions) c.in_ok-put_process-in-Process.ensures.decisions)
