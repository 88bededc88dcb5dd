use Rattle.std.proofs.Common.{◌≡◌, ◌+◌, ◌^◌, ◌<◌, take, drop}
use Rattle.std.specs.List.{prefix_len}
use Rattle.campl_lex.specs.Literal.{is_hex_digit, hex_value}
use Rattle.campl_lex.proofs.unescape.braced.Given as goal

abbrev pub invariant-loop-count : goal.invariant-loop-count
invariant-loop-count g l =
    let all = g.F.Front.letters l.fn.text in
    (g.F.Front.letters l.rest ≡ drop l.count all)
    × (prefix_len is_hex_digit all ≡ l.count + prefix_len is_hex_digit (drop l.count all))
    × (l.value ≡ hex_value (take l.count all))
    × (l.value < 16 ^ l.count)
