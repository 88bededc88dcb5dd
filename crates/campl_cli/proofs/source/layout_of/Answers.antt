use Rattle.std.proofs.Common.{subst}
use Rattle.std.specs.Str.{IsUtf8}
use Rattle.campl_terminals.proofs.Cuts.{laid_cut}
use Rattle.campl_cli.specs.Source.{end_of}
use Rattle.campl_cli.proofs.Phases.{layout_refuses}
use Rattle.campl_cli.proofs.source.layout_of.Goals as goal

pub returns-clause-laid : goal.returns-clause-laid
returns-clause-laid c =
    let told = rw (c.deref.ensures.value, c.end_of.ensures) at c.in-Err.ensures.laid in
    rw c.tree_fault.ensures (layout_refuses c.args.text.now c.in_ok-tokens.tokens.items c.in-Err.fault c.in_ok-tokens.ensures.tokens told)

pub returns-in-Ok-clause-cut : goal.returns-in-Ok-clause-cut
returns-in-Ok-clause-cut c =
    let same = c.as_str-known.ensures.bytes in
    let utf8 = c.as_str-known.utf8 in
    let laid = rw (c.deref.ensures.value, c.end_of.ensures) at c.in-Ok.ensures.laid in
    laid_cut c.args.text.now (end_of c.args.text.now) c.in_ok-tokens.tokens.items c.in-Ok.laid.items (subst IsUtf8 same utf8) c.in_ok-tokens.ensures.tokens laid
