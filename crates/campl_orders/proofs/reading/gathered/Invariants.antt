use Rattle.std.proofs.Common.{◌≡◌, drop, map, option_map}
use Rattle.std.specs.Prelude.{string_bytes, option_and_then}
use Rattle.campl_orders.specs.Reading.{gathered, nothing, stands}
use Rattle.campl_orders.specs.declared.reader.State.TheVariants.{Open}
use Rattle.campl_orders.proofs.reading.gathered.Given as goal

-- what is found and the words that are left make what all words make
abbrev pub invariant-loop-word : goal.invariant-loop-word
invariant-loop-word l =
    option_and_then (λ p. gathered p.0 p.1 (map string_bytes (drop l.word-index l.words))) (option_map stands l.reader) ≡ gathered nothing Open (map string_bytes l.words)
