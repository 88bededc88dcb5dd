use Rattle.campl_names.proofs.Declared.{from-nothing}
use Rattle.campl_names.proofs.world.World.of.Goals as goal

pub returns-in-Err-clause-judged : goal.returns-in-Err-clause-judged
returns-in-Err-clause-judged c =
    let n = c.new-tables.ensures in
    from-nothing _ _ _ _ _ _ n.types n.constructors n.lowers c.as_slice.ensures c.in-Err.ensures.judged
