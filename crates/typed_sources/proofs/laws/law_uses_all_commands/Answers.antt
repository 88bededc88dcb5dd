use Rattle.typed_sources.proofs.UsesAllCommands.{typed}
use Rattle.typed_sources.proofs.laws.law_uses_all_commands.Goals as goal

pub returns : goal.returns
returns c = typed
