use Rattle.std.proofs.Common.{ap, arith}
use Rattle.campl_value.specs.Tree.{Cell, depth_of}
use Rattle.campl_value.proofs.Lists.{last_to_rest, deeper_in_front}
use Rattle.campl_value.proofs.list.put_in_front.Goals as goal

pub loop-item-preserved : goal.loop-item-preserved
loop-item-preserved c =
    let made = rw c.in-Is.is at c.in_ok-longer.ensures in
    (rw made.0 (last_to_rest _ _ _ _ _ c.in-Some.ensures.items c.loop-item.invariant.0), rw made.0 made.1)

-- the whole is at least as deep as the cell that was refused
pub returns-in-TooDeep : goal.returns-in-TooDeep
returns-in-TooDeep c =
    let deep = rw c.in-TooDeep.is at c.in_ok-longer.ensures in
    let whole = ap depth_of (last_to_rest _ _ _ _ _ c.in-Some.ensures.items c.loop-item.invariant.0) in
    omega (arith, deep, whole, deeper_in_front c.pop.new.self.items (Cell c.in-Some.item c.loop-item.list))
