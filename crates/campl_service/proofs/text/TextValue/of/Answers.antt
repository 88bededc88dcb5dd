use Rattle.std.proofs.Common.{[], ap, arith}
use Rattle.std.specs.Prelude.{unwrap_or}
use Rattle.campl_value.specs.Tree.{depth_of}
use Rattle.campl_value.specs.Depth.{depth_of_letters}
use Rattle.campl_service.proofs.Values.{letters_are, is_one}
use Rattle.campl_service.proofs.text.TextValue.of.Goals as goal

pub invariant_of-result : goal.invariant_of-result
invariant_of-result c =
    let made = rw c.in-Is.is at c.in_ok-value.ensures in
    is_one _ _ (letters_are c.in-Is.value c.nil.result c.args.characters.items made.0 c.nil.ensures)

-- as long as a line may be, its text is never too deep
pub unreachable-requires : goal.unreachable-requires
unreachable-requires c =
    let deep = rw c.in-TooDeep.is at c.in_ok-value.ensures in
    omega (arith, deep, depth_of_letters c.args.characters.items c.nil.result, ap depth_of c.nil.ensures, c.requires)

pub returns : goal.returns
returns c =
    let made = rw c.in-Is.is at c.in_ok-value.ensures in
    ap (λ o. unwrap_or o []) (letters_are c.in-Is.value c.nil.result c.args.characters.items made.0 c.nil.ensures)
