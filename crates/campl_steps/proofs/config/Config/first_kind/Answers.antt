use Rattle.std.proofs.Common.{refl, sym, arith}
use Rattle.campl_eval.specs.View.{code_of}
use Rattle.campl_cells.specs.Wants.{Want, wanted}
use Rattle.campl_cells.specs.Steps.{by_want}
use Rattle.campl_parts.specs.Tables.{tips}
use Rattle.campl_parts.specs.Views.{life_of}
use Rattle.campl_steps.specs.Outlook.{kind_by, kind_in}
use Rattle.campl_steps.proofs.Seen.{all-none, none-behind}
use Rattle.campl_steps.proofs.config.Config.first_kind.Goals as goal

pub returns-then-last-branch : goal.returns-then-last-branch
returns-then-last-branch c d p j h =
    let code = code_of c.args.program.now in
    let tip = tips c.args.self.now.ends.items in
    let life = life_of c.args.part.now.life in
    let b = c.loop-kind.branch in
    none-behind (λ (o : Want). kind_in (by_want tip d p o)) refl (wanted code d life) b j
    (all-none (kind_by code tip d p life) b (c.loop-kind.invariant.1 d p) (sym (c.in-None.ensures d p)))
    (λ l. c.last_branch-last.ensures d j (omega (arith, l, c.if-last-branch.true)) h)

pub loop-kind-preserved : goal.loop-kind-preserved
loop-kind-preserved c = (
  omega (arith, c.if-last-branch.false),
  λ d p. all-none (kind_by (code_of c.args.program.now) (tips c.args.self.now.ends.items) d p (life_of c.args.part.now.life)) c.loop-kind.branch (c.loop-kind.invariant.1 d p) (sym (c.in-None.ensures d p)),
)
