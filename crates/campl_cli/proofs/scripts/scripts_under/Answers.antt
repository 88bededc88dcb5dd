-- A script for each name.
use Rattle.std.specs.Prelude.{chars}
use Rattle.campl_cli.proofs.Readings.{scripts-length}
use Rattle.campl_cli.proofs.scripts.scripts_under.Goals as goal

pub returns-in-Ok-clause-each : goal.returns-in-Ok-clause-each
returns-in-Ok-clause-each c = scripts-length c.args.names.now (chars c.args.text.now) c.in-Ok.scripts c.in-Ok.ensures
