use Rattle.std.proofs.Common.{arith, refl, drop, ◌+◌}
use Rattle.std.proofs.lemmas.List.{take_all, length-drop}
use Rattle.campl_value.proofs.Escapes.{all_shown, more_shown, stops_there}
use Rattle.campl_value.proofs.shown.push_pieces.Goals as goal

pub returns-then-plain-rest : goal.returns-then-plain-rest
returns-then-plain-rest c =
    all_shown c.pieces.output.items _ c.pieces.rest.now _ c.plain_len-plain.result c.plain_len-plain.ensures.value c.if-plain-rest.true
    c.in_ok-extend_from_slice.ensures.items c.pieces.invariant

pub push_escape-requires : goal.push_escape-requires
push_escape-requires c = stops_there c.pieces.rest.now c.plain_len-plain.result c.plain_len-plain.ensures.value (omega arith)

pub pieces-preserved : goal.pieces-preserved
pieces-preserved c =
    let rest = c.pieces.rest.now in
    let n = c.plain_len-plain.result in
    more_shown c.pieces.output.items _ _ rest _ _ n _ c.plain_len-plain.ensures.value (omega arith) c.in_ok-extend_from_slice.ensures.items
    refl c.in_ok-push_escape.ensures (take_all _ (drop (n + 1) rest) (omega (arith, length-drop (n + 1) rest))) c.pieces.invariant
