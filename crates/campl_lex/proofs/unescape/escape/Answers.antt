use Rattle.std.proofs.Common.{◌∷◌, ap, ◌∙◌}
use Rattle.campl_lex.proofs.Found.{escape_of}
use Rattle.campl_lex.proofs.unescape.escape.Goals as goal

pub returns-then-letter-eq117 : goal.returns-then-letter-eq117
returns-then-letter-eq117 g c =
    let tail = g.F.Front.letters c.in_ok-letter.behind in
    escape_of g.F.Front.letters (g.F.Front.letters c.args.text) tail c.unicode.result (c.in_ok-letter.ensures ∙ ap (λ d. d ∷ tail) c.if-letter-eq117.true) c.unicode.ensures
