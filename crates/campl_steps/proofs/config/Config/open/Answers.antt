use Rattle.std.proofs.Common.{◌≡◌, ◌+◌, ◌*◌, ◌/◌, [], ◌∷◌, length, vec_len, ap, ◌∙◌, subst, sym, arith}
use Rattle.campl_cells.specs.Parts.{written}
use Rattle.campl_cells.specs.Steps.{borne}
use Rattle.campl_parts.specs.Tables.{tips}
use Rattle.campl_steps.specs.Configs.{drawn}
use Rattle.campl_steps.specs.declared.plan.Borne.{Borne}
use Rattle.campl_steps.specs.Readiness.{borne_channels}
use Rattle.campl_steps.proofs.config.Config.open.Goals as goal

pub returns-in-One-clause-born : goal.returns-in-One-clause-born
returns-in-One-clause-born c =
    let es = c.args.self.now.ends in
    let near : vec_len es ≡ 2 * (length es.items / 2) = omega (arith, es.ok.0, c.args.self.now.paired) in
    subst (λ (b : Borne). tips c.channel.new.ends.items ≡ written (borne (borne_channels (drawn c.args.self.now) b)) (tips es.items)) (sym c.in-One.is)
    (c.channel.ensures.born (length es.items / 2) near)

pub returns-in-Two-clause-born : goal.returns-in-Two-clause-born
returns-in-Two-clause-born c =
    let es = c.args.self.now.ends in
    let near : vec_len es ≡ 2 * (length es.items / 2) = omega (arith, es.ok.0, c.args.self.now.paired) in
    let near2 : vec_len c.channel-in-Two.new.ends ≡ 2 * (length es.items / 2 + 1) = omega (arith, near, c.channel-in-Two.ensures.len) in
    let first = c.channel-in-Two.ensures.born (length es.items / 2) near in
    let second = c.channel-in-Two-2.ensures.born (length es.items / 2 + 1) near2 in
    subst (λ (b : Borne). tips c.channel-in-Two-2.new.ends.items ≡ written (borne (borne_channels (drawn c.args.self.now) b)) (tips es.items)) (sym c.in-Two.is)
    (second ∙ ap (written (borne ((length es.items / 2 + 1) ∷ []))) first)
