use Rattle.std.proofs.Common.{◌∙◌, sym, ap}
use Rattle.campl_types.specs.Names.{found}
use Rattle.campl_gen_exprs.specs.Scopes.{seen_at}
use Rattle.campl_gen_exprs.proofs.Scopes.{found-told}
use Rattle.campl_gen_exprs.proofs.scope.Scope.find.Goals as goal

pub returns : goal.returns
returns c =
    c.number_of.ensures ∙ ap (λ l. seen_at l c.copied.result) c.as_slice.ensures ∙ ap (seen_at c.self.inside.bindings) (c.copied.ensures ∙ c.get.ensures.value)
    ∙ sym (found-told c.args.name.now c.self.inside.newest.entries c.self.inside.bindings c.self.invariant.0)
    ∙ ap (λ v. found c.args.name.now v) c.self.view_is
