use Rattle.std.proofs.Common.{◌∷◌, ap, ◌∙◌}
use Rattle.campl_lex.proofs.Found.{unicode_of}
use Rattle.campl_lex.proofs.unescape.unicode.Goals as goal

pub returns-then-letter-eq123 : goal.returns-then-letter-eq123
returns-then-letter-eq123 g c =
    let tail = g.F.Front.letters c.in_ok-letter.behind in
    unicode_of g.F.Front.letters (g.F.Front.letters c.args.text) tail c.braced.result (c.in_ok-letter.ensures ∙ ap (λ d. d ∷ tail) c.if-letter-eq123.true) c.braced.ensures
