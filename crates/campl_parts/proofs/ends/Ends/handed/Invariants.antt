use Rattle.std.proofs.Common.{◌≡◌, take}
use Rattle.campl_parts.specs.Ends.{handed}
use Rattle.campl_parts.proofs.ends.Ends.handed.Given as goal

abbrev pub invariant-loop-channel : goal.invariant-loop-channel
invariant-loop-channel l = l.items.items ≡ handed l.self (take l.channel-index l.channels)
