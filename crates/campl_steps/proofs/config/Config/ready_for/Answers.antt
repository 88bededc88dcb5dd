use Rattle.std.proofs.Common.{sym, subst, IfOk}
use Rattle.campl_eval.specs.View.{code_of}
use Rattle.campl_parts.specs.Tables.{tips}
use Rattle.campl_parts.specs.Wanted.{want_of}
use Rattle.campl_steps.specs.Readiness.{IsReadyFor}
use Rattle.campl_steps.proofs.config.Config.ready_for.Goals as goal

pub returns-in-Moves : goal.returns-in-Moves
returns-in-Moves c = subst (λ o. IfOk c.moves.result (IsReadyFor (code_of c.args.program.now) (tips c.args.self.now.ends.items) (want_of o))) (sym c.in-Moves.is) (c.moves.ensures (tips c.args.self.now.ends.items))

pub returns-in-Links : goal.returns-in-Links
returns-in-Links c = subst (λ o. IsReadyFor (code_of c.args.program.now) (tips c.args.self.now.ends.items) (want_of o) c.links.result) (sym c.in-Links.is) (c.links.ensures (code_of c.args.program.now))

pub returns-in-Hears : goal.returns-in-Hears
returns-in-Hears c = subst (λ o. IfOk c.hears.result (IsReadyFor (code_of c.args.program.now) (tips c.args.self.now.ends.items) (want_of o))) (sym c.in-Hears.is) (c.hears.ensures (code_of c.args.program.now))

pub returns-in-Says : goal.returns-in-Says
returns-in-Says c = subst (λ o. IfOk c.says.result (IsReadyFor (code_of c.args.program.now) (tips c.args.self.now.ends.items) (want_of o))) (sym c.in-Says.is) (c.says.ensures (code_of c.args.program.now) (tips c.args.self.now.ends.items))
