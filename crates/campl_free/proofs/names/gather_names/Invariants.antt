use Rattle.std.proofs.Common.{List, drop}
use Rattle.campl_types.specs.Names.{Name}
use Rattle.campl_types.specs.World.{names_of}
use Rattle.campl_free.specs.Gathers.{Gathers, is_one_of}
use Rattle.campl_free.proofs.names.gather_names.Given as goal

abbrev pub invariant-loop-name : goal.invariant-loop-name
invariant-loop-name l = (final : List Name) → Gathers l.bound (is_one_of (names_of (drop l.name-index l.names))) l.found final → Gathers l.bound (is_one_of (names_of l.names)) l.initial.found final
