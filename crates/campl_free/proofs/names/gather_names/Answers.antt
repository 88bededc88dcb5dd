use Rattle.std.proofs.lemmas.List.{drop_all}
use Rattle.campl_free.proofs.Gathered.{gathers-none, turn, names-at}
use Rattle.campl_free.proofs.names.gather_names.Goals as goal

pub loop-name-preserved : goal.loop-name-preserved
loop-name-preserved c =
    λ final a. turn _ _ _ _ _ _ final (c.loop-name.invariant final) (names-at c.args.names.now c.loop-name.name-index c.name-item.result c.loop-name-test.true c.name-item.is) c.in_ok-gather_name.ensures a

pub returns : goal.returns
returns c = c.loop-name.invariant c.loop-name.found (rw (drop_all c.loop-name.name-index c.args.names.now c.loop-name-test.false) (gathers-none c.args.bound.now c.loop-name.found))
