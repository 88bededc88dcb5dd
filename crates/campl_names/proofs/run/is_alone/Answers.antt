use Rattle.std.proofs.Common.{sym, arith}
use Rattle.campl_names.proofs.Runs.{named-more}
use Rattle.campl_names.proofs.run.is_alone.Goals as goal

pub returns : goal.returns
returns c = sym (named-more c.args.name.now c.args.other.now c.args.at c.args.ts.now (omega (arith, c.if-ts-eq0.false)))
