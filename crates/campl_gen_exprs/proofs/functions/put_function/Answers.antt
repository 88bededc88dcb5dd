use Rattle.std.proofs.Common.{◌≡◌, ◌∙◌, ◌++◌, ◌∷◌, [], ℕ, List, IfOk, OnOk, ap, subst, map, length}
use Rattle.campl_tree.specs.View.{view_decl, view_function}
use Rattle.campl_code.specs.Instructions.{Instr}
use Rattle.campl_instructions.specs.View.{view_block}
use Rattle.campl_gen_exprs.specs.Emission.{Emission}
use Rattle.campl_gen_exprs.specs.Functions.{function_emitted, block_with}
use Rattle.campl_gen_exprs.proofs.FunctionCode.{function-is}
use Rattle.campl_gen_exprs.proofs.functions.put_function.Goals as goal

pub returns-in-Ok-clause-next : goal.returns-in-Ok-clause-next
returns-in-Ok-clause-next c =
    let w = map view_decl c.args.source.now in
    let f = view_function c.args.f.now in
    subst (λ (k : ℕ). IfOk c.put_block.result (λ n. n ≡ k))
    (ap (λ (s : Emission). s.decisions) (c.in-Ok.ensures ∙ ap (function_emitted w (length f.parameters) f.rows) c.new-code.ensures ∙ function-is w f c.args.decisions))
    c.put_block.ensures.next

pub returns-in-Ok-clause-block : goal.returns-in-Ok-clause-block
returns-in-Ok-clause-block c =
    let w = map view_decl c.args.source.now in
    let f = view_function c.args.f.now in
    subst (λ (k : List Instr). OnOk c.put_block.result (map view_block c.put_block.new.blocks ≡ map view_block c.args.blocks.now ++ block_with f k ∷ []))
    (ap (λ (s : Emission). s.code) (c.in-Ok.ensures ∙ ap (function_emitted w (length f.parameters) f.rows) c.new-code.ensures ∙ function-is w f c.args.decisions))
    c.put_block.ensures.block
