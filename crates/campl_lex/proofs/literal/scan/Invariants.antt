use Rattle.std.proofs.Common.{◌≡◌, ◌≤◌, ◌-◌, length, drop}
use Rattle.campl_lex.specs.Reading.{scan, longer}
use Rattle.campl_lex.proofs.literal.scan.Given as goal

abbrev pub invariant-loop-stop : goal.invariant-loop-stop
invariant-loop-stop l =
    (l.length ≤ length l.text) × (l.count ≤ l.length) × (longer l.length l.count (scan l.quote 0 (drop l.length l.text)) ≡ scan l.quote 0 l.text)

abbrev pub decreases-loop-stop : goal.decreases-loop-stop
decreases-loop-stop l = length l.initial.text - l.length
