use Rattle.std.proofs.Common.{◌≡◌, ◌++◌, drop}
use Rattle.campl_terminals.specs.Terminals.{terminals_of}
use Rattle.campl_terminals.proofs.tokens.terminals_of.Given as goal

abbrev pub invariant-loop-token : goal.invariant-loop-token
invariant-loop-token l = l.found.items ++ terminals_of l.text (drop l.token-index l.tokens) ≡ terminals_of l.text l.tokens
