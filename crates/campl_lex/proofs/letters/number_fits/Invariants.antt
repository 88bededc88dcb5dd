use Rattle.std.proofs.Common.{◌≡◌, ◌≤◌, ◌+◌, ◌-◌, ◌*◌, drop}
use Rattle.std.specs.List.{fold}
use Rattle.campl_lex.specs.Spelling.{number_of}
use Rattle.campl_lex.specs.Limits.{greatest_number}
use Rattle.campl_lex.proofs.letters.number_fits.Given as goal

abbrev pub invariant-loop-digit : goal.invariant-loop-digit
invariant-loop-digit l = (fold (λ n d. n * 10 + (d - 48)) l.value (drop l.digit-index l.digits) ≡ number_of l.digits) × (l.value ≤ greatest_number)
