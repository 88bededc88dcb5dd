use Rattle.std.proofs.Common.{Option, option_map, subst}
use Rattle.campl_eval.specs.View.{code_of}
use Rattle.campl_cells.specs.Steps.{change_of}
use Rattle.campl_parts.specs.Tables.{tips}
use Rattle.campl_parts.specs.Views.{kind_of, life_of, proc_of}
use Rattle.campl_parts.specs.declared.entry.Kind.{Kind}
use Rattle.campl_steps.specs.Configs.{parts}
use Rattle.campl_steps.specs.Outlook.{IsFirstKind, kind_by}
use Rattle.campl_steps.proofs.Seen.{first-change}
use Rattle.campl_steps.proofs.config.Config.next_at.Goals as goal

pub returns-in-Some : goal.returns-in-Some
returns-in-Some c p d =
    let code = code_of c.args.program.now in
    first-change (change_of code d (parts c.args.self.now) p (proc_of c.args.part.now)) (kind_of c.in-Some.kind)
    (subst (λ (o : Option Kind). IsFirstKind (kind_by code (tips c.args.self.now.ends.items) d p (life_of c.args.part.now.life)) (option_map kind_of o)) c.in-Some.is (c.first_kind.ensures d p))
