use Rattle.std.proofs.Common.{◌≡◌, ◌+◌, length}
use Rattle.campl_plug.proofs.Marks.{AreMarked}
use Rattle.campl_plug.proofs.search.mark_linked.Given as goal

-- marked are those that the links so far join to the part
abbrev pub invariant-loop-link : goal.invariant-loop-link
invariant-loop-link l = record {
  size : length l.marks.items ≡ l.parts + 1;
  marked : AreMarked l.marks.items l.links l.link-index l.part;
}
