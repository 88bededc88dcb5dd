use Rattle.std.proofs.lemmas.Result.{on_ok_weaker}
use Rattle.campl_rules.specs.Found.{Covers}
use Rattle.campl_rules.proofs.taking.take_ways.Goals as goal

pub returns-clause-covers : goal.returns-clause-covers
returns-clause-covers c =
    let through
    : (Covers c.take_behind.new.next.items c.take_behind.new.heights.items → Covers c.take_each-2.new.next.items c.take_each-2.new.heights.items)
    → Covers c.args.next.now.items c.args.heights.now.items → Covers c.take_each-2.new.next.items c.take_each-2.new.heights.items =
    λ f a. f (c.in_ok-take_behind.ensures.covers a) in
    on_ok_weaker _ through c.take_each-2.ensures.covers
