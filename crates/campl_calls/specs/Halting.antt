-- `halt`: all that is held was given up before, or all but the channel that it names, which ends.
use Rattle.std.specs.Prelude.{Option, Some, None}
use Rattle.campl_tree.specs.declared.place.Place.{Place}
use Rattle.campl_tree.specs.declared.place.Ident.{Ident}
use Rattle.campl_types.specs.World.{World}
use Rattle.campl_seqcheck.specs.Judged.{Fine, Judged, and_then}
use Rattle.campl_linear.specs.Faults.{LinFault}
use Rattle.campl_linear.specs.Holding.{Holding, given_up}
use Rattle.campl_linear.specs.Channels.{used, to_end, none_left}

-- with the channel that is named, if one is
abbrev pub halted : Place → World → Holding → Option Ident → Judged LinFault Fine
halted at w held None = none_left at held
halted at w held (Some x) = and_then (used w at x to_end held) (λ _. none_left at (given_up x.name held))
