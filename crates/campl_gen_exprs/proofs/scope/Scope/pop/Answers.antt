use Rattle.campl_gen_exprs.proofs.Scopes.{popped-known, popped-told, popped-linked}
use Rattle.campl_gen_exprs.proofs.scope.Scope.pop.Goals as goal

pub set_newest-requires : goal.set_newest-requires
set_newest-requires c = popped-known c.self.inside.newest.entries c.self.inside.bindings c.pop.new.self c.in-Some.last c.in-Some.ensures (c.self.invariant.0 c.in-Some.last.name)

pub invariant_of-self-2 : goal.invariant_of-self-2
invariant_of-self-2 c = (
  λ x. popped-told c.self.inside.newest.entries c.set_newest.new.newest.entries c.self.inside.bindings c.pop.new.self c.in-Some.last c.in-Some.ensures x (c.self.invariant.0 x) c.self.invariant.1 (c.set_newest.ensures x),
  popped-linked c.self.inside.bindings c.pop.new.self c.in-Some.last c.in-Some.ensures c.self.invariant.1,
)
