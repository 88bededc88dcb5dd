-- Commands behind which a body goes on.
use Rattle.std.specs.Prelude.{◌≡◌, ℕ, List, ◌++◌}
use Rattle.campl_tree.specs.Plain.Process.{Action, Body}
use Rattle.campl_tree.specs.View.{actions_then}
use Rattle.campl_types.specs.World.{World}
use Rattle.campl_code.specs.Numbers.{Numbers}
use Rattle.campl_code_bodies.specs.Bodies.{Channels}
use Rattle.campl_gen_bodies.specs.Making.{Making, bare, built}

-- what is made so far, with the channels and the number of the next one
pub record Stage : Type 0 where
  pub next : ℕ
  pub held : Channels
  pub making : Making

abbrev pub built_on : World → Body → Stage → Making
built_on w body s = built w body s.next s.held s.making

-- more variables in scope
pub record Grown (s t : Making) : Type 0 where
  pub more : Numbers
  pub told : t.emission.numbers ≡ more ++ s.emission.numbers

-- behind these commands whatever follows is made as the definition has it
pub record GoesOn (w : World) (actions : List Action) (s t : Stage) : Type 0 where
  pub made : (last : Body) → bare (built_on w last t) ≡ bare (built_on w (actions_then actions last) s)
  pub grown : Grown s.making t.making
