use Rattle.std.proofs.Common.{ap, arith}
use Rattle.campl_value.specs.Tree.{depth_of}
use Rattle.campl_value.specs.Depth.{depth_of_letters}
use Rattle.campl_value.proofs.Texts.{read_on}
use Rattle.campl_value.proofs.value.Value.characters.Goals as goal

-- what is behind some letters is less deep
pub loop-read-smaller : goal.loop-read-smaller
loop-read-smaller c =
    omega (arith, ap depth_of c.in-Letters.ensures.0, depth_of_letters c.in-Letters.letters.now c.in-Letters.behind, c.in-Letters.ensures.1)

pub loop-read-preserved : goal.loop-read-preserved
loop-read-preserved c =
    rw c.in_ok-extend_from_slice-in-Letters.ensures.items
    (read_on c.loop-read.read.items c.in-Letters.letters.now c.loop-read.rest c.in-Letters.behind _ c.in-Letters.ensures.0 c.loop-read.invariant)
