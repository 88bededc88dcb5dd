use Rattle.std.proofs.Common.{◌<◌, ◌-◌, arith}
use Rattle.std.proofs.lemmas.Bool.Decides.{nat_tests}
use Rattle.campl_lex.proofs.Numbers.{above}
use Rattle.campl_lex.specs.Spelling.{number_of}
use Rattle.campl_lex.specs.Limits.{greatest_number}
use Rattle.campl_lex.proofs.letters.number_fits.Goals as goal

pub returns-then-value-from : goal.returns-then-value-from
returns-then-value-from c =
    let high : greatest_number < number_of c.args.digits.now =
    above 10 (λ d. d - 48) c.loop-digit.value c.digit-item.result greatest_number (number_of c.args.digits.now) c.args.digits.now c.loop-digit.digit-index
    (omega arith) c.loop-digit-test.true c.digit-item.is c.loop-digit.invariant.0 (omega arith) in
    grind (arith, nat_tests)
