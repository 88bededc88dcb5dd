-- Two ends whose messages agree, seen from the other.
use Rattle.std.proofs.Common.{sym, subst}
use Rattle.campl_machine.specs.Names.{End}
use Rattle.campl_types.specs.World.{World}
use Rattle.campl_types.specs.Views.{turned}
use Rattle.campl_types.proofs.Turned.{turned-twice}
use Rattle.campl_meaning.specs.Reductions.{Configuration}
use Rattle.campl_meaning.specs.Views.{TakesAll}
use Rattle.campl_meaning.specs.Lawful.{Channels, seen, Agree}

pub agree-turned : (w : World) (c : Configuration) (channel : Channels) (e f : End) → Agree w c channel e f → Agree w c channel f e
agree-turned w c channel e f a = record { left = turned a.left; mine = a.yours; yours = subst (λ z. TakesAll w (seen channel e) (c.owed f) z) (sym (turned-twice a.left)) a.mine }
