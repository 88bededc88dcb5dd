use Rattle.std.proofs.Common.{◌∙◌, ◌++◌, ◌∷◌, [], ap, map}
use Rattle.campl_tree.specs.View.{view_decl, view_process}
use Rattle.campl_instructions.specs.View.{view_block, view_decision}
use Rattle.campl_gen_bodies.specs.Making.{Making}
use Rattle.campl_gen_bodies.specs.View.{view_making}
use Rattle.campl_gen.specs.Blocks.{block_with}
use Rattle.campl_gen.proofs.Blocks.{process-code, process-decisions}
use Rattle.campl_gen.proofs.processes.put_process.Goals as goal

pub returns-clause-block : goal.returns-clause-block
returns-clause-block c =
    c.in_ok-put_block.ensures
    ∙ ap (λ l. map view_block c.args.blocks.now ++ block_with (view_process c.args.p.now) l ∷ [])
    (c.take_code-code.ensures.code ∙ ap (λ (s : Making). s.emission.code) c.in_ok-emit_process.ensures ∙ process-code (map view_decl c.args.known.now) (view_process c.args.p.now) (view_making c.args.making.now))

pub returns-clause-decisions : goal.returns-clause-decisions
returns-clause-decisions c =
    ap (map view_decision) c.take_code-code.ensures.decisions ∙ ap (λ (s : Making). s.decisions) c.in_ok-emit_process.ensures ∙ process-decisions (map view_decl c.args.known.now) (view_process c.args.p.now) (view_making c.args.making.now)
