-- Names that texts spell.
use Rattle.std.proofs.Common.{◌≡◌, refl}
use Rattle.std.specs.Prelude.{codes}
use Rattle.std.specs.Str.{chars}

pub spelled-run : chars (codes "run") ≡ codes "run"
unfolding chars
spelled-run = refl

pub spelled-own : chars (codes "S") ≡ codes "S"
unfolding chars
spelled-own = refl

pub spelled-console : chars (codes "Console") ≡ codes "Console"
unfolding chars
spelled-console = refl

pub spelled-console-put : chars (codes "ConsolePut") ≡ codes "ConsolePut"
unfolding chars
spelled-console-put = refl

pub spelled-console-get : chars (codes "ConsoleGet") ≡ codes "ConsoleGet"
unfolding chars
spelled-console-get = refl

pub spelled-console-close : chars (codes "ConsoleClose") ≡ codes "ConsoleClose"
unfolding chars
spelled-console-close = refl

pub spelled-terminal : chars (codes "StringTerminal") ≡ codes "StringTerminal"
unfolding chars
spelled-terminal = refl

pub spelled-terminal-get : chars (codes "StringTerminalGet") ≡ codes "StringTerminalGet"
unfolding chars
spelled-terminal-get = refl

pub spelled-terminal-put : chars (codes "StringTerminalPut") ≡ codes "StringTerminalPut"
unfolding chars
spelled-terminal-put = refl

pub spelled-terminal-close : chars (codes "StringTerminalClose") ≡ codes "StringTerminalClose"
unfolding chars
spelled-terminal-close = refl

pub ruleset spelled = (spelled-run, spelled-own, spelled-console, spelled-console-put, spelled-console-get, spelled-console-close, spelled-terminal, spelled-terminal-get, spelled-terminal-put, spelled-terminal-close)
