use Rattle.std.proofs.Common.{◌≡◌, ◌<◌, ◌≤◌, ◌-◌, ℕ, None}
use Rattle.campl_eval.specs.View.{code_of}
use Rattle.campl_cells.specs.Wants.{Drawn}
use Rattle.campl_parts.specs.Tables.{tips}
use Rattle.campl_parts.specs.Views.{life_of}
use Rattle.campl_steps.specs.Outlook.{kind_by}
use Rattle.campl_steps.proofs.config.Config.first_kind.Given as goal

abbrev pub invariant-loop-kind : goal.invariant-loop-kind
invariant-loop-kind l =
    (l.branch ≤ l.last)
    × ((d : Drawn) (p j : ℕ) → j < l.branch → kind_by (code_of l.fn.program) (tips l.fn.self.ends.items) d p (life_of l.fn.part.life) j ≡ None)

abbrev pub decreases-loop-kind : goal.decreases-loop-kind
decreases-loop-kind l = l.last - l.branch
