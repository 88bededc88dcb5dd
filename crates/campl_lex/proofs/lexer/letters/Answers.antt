use Rattle.std.proofs.Common.{rules}
use Rattle.std.proofs.lemmas.Str.{chars_from_encodes, encodes-chars}
use Rattle.campl_lex.proofs.Spots.{bytes-chars}
use Rattle.campl_lex.proofs.lexer.letters.Goals as goal

pub returns-clause-letters : goal.returns-clause-letters
returns-clause-letters c = search (rules, chars_from_encodes)

pub returns-clause-bytes : goal.returns-clause-bytes
returns-clause-bytes c = bytes-chars c.args.text.now c.as_str.ensures.utf8

pub returns-clause-encoded : goal.returns-clause-encoded
returns-clause-encoded c = encodes-chars c.args.text.now c.as_str.ensures.utf8
