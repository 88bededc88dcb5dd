-- Numbers of channels: what code looks up is the same whatever the order in which they are listed.
use Rattle.std.specs.Prelude.{◌≡◌}
use Rattle.campl_types.specs.Names.{Name, found}
use Rattle.campl_code_bodies.specs.Bodies.{Channels}

-- each name has the same number, or none, in both lists
pub record NumbersAlike (cs ds : Channels) : Type 0 where
  pub told : (x : Name) → found x cs ≡ found x ds
