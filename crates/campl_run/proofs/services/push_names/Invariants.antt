use Rattle.std.proofs.Common.{◌≡◌, ◌++◌, drop, map}
use Rattle.campl_types.specs.Run.{service}
use Rattle.campl_run.proofs.services.push_names.Given as goal

abbrev pub invariant-loop-ident : goal.invariant-loop-ident
invariant-loop-ident l = l.names.items ++ map (service l.side) (drop l.ident-index l.idents) ≡ l.initial.names.items ++ map (service l.side) l.idents
