use Rattle.std.proofs.Common.{◌∷◌, chars, ap, ◌∙◌}
use Rattle.campl_terminals.proofs.Taken.{unescaped_escape}
use Rattle.campl_terminals.proofs.literal.first_letter.Goals as goal

pub returns : goal.returns
returns c =
    let tail = chars c.in_ok-letter.behind.now in
    let found = c.in-Some.ensures in
    let both =
    unescaped_escape (chars c.args.text.now) tail c.in-Some.found found.0 (chars c.in-Some.rest.now)
    (c.in_ok-letter.ensures ∙ ap (λ d. d ∷ tail) c.if-letter-eq92.true) found.2 found.3 in
    record { letters = both.0; shorter = both.1 }
