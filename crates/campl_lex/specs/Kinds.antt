-- Kinds of tokens.
use Rattle.std.specs.Prelude.{Bool}
use denote.Enum.Bare.{sameb}
use Rattle.campl_lex.specs.contracts.token.TokenKind.{the_type}
use Rattle.campl_lex.specs.declared.token.TokenKind.{TokenKind}

-- kinds are the same
unfoldable pub same : TokenKind → TokenKind → Bool
same = sameb the_type
