use Rattle.std.proofs.Common.{◌≡◌, ◌≤◌, ◌+◌, ◌∙◌, arith, length, vec_len}
use Rattle.campl_text.proofs.Pieces.{front_read, length_grown}
use Rattle.campl_text.proofs.reading.read_contents.Goals as goal

-- the next piece lengthens the front that was read
pub loop-shelf-preserved : goal.loop-shelf-preserved
loop-shelf-preserved g c =
    let front = c.loop-shelf.contents in
    let n = c.in-Ok.count in
    let more = c.in_ok-extend_from_slice-in-Ok.ensures in
    let within : n ≤ length c.read.new.into = c.in-Ok.ensures.within in
    let grown : vec_len c.extend_from_slice.new.self ≡ vec_len front + n = length_grown (vec_len front) _ n c.read.new.into more.len within in
    record {
      room = omega arith;
      within = omega (arith, grown, within);
      front =
          front_read _ _ front.items c.read.new.into _ (vec_len front) c.len-in-loop-shelf.result n _ (c.loop-shelf.invariant.holds_same c.args.name.now) c.loop-shelf.invariant.front c.in-Ok.ensures.given more.items c.len-in-loop-shelf.ensures grown;
      holds_same = λ other. c.read.ensures.holds_same other ∙ c.loop-shelf.invariant.holds_same other;
      counts = λ other. omega (arith, c.read.ensures.counts other, c.loop-shelf.invariant.counts other);
    }
