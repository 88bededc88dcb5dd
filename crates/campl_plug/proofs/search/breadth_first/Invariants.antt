use Rattle.std.proofs.Common.{◌-◌}
use Rattle.campl_plug.proofs.Searched.{AreSearched}
use Rattle.campl_plug.proofs.search.breadth_first.Given as goal

abbrev pub invariant-loop-next : goal.invariant-loop-next
invariant-loop-next l = AreSearched l.parts l.links l.next l.order.items

abbrev pub decreases-loop-next : goal.decreases-loop-next
decreases-loop-next l = l.parts - l.next
