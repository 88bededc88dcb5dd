use Rattle.typed_sources.proofs.LinksBehindASend.{typed}
use Rattle.typed_sources.proofs.laws.law_links_behind_a_send.Goals as goal

pub returns : goal.returns
returns c = typed
