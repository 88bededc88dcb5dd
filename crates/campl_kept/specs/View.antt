-- What is kept, as the plain data that the definitions of code speak of.
use Rattle.std.specs.Prelude.{◌≡◌, ℕ, Bool, false, List, Option, Some, None}
use Rattle.campl_value.specs.Tree.{Tree}
use Rattle.campl_code.specs.Frames.{Frame}
use Rattle.campl_code_bodies.specs.Kept as k
use Rattle.campl_eval.specs.View.{seen, seens}
use Rattle.campl_kept.specs.declared.kept.Kept.{Kept}
use Rattle.campl_kept.specs.declared.kept.Kept.TheVariants as K

abbrev pub view_kept : Kept → k.Kept
view_kept (K.Values at variables values) = k.Values at variables values.items
view_kept (K.AtCall eval) = k.AtCall (seen eval.value.machine.frame) (seens eval.value.machine.callers)
view_kept K.Broken = k.Broken

-- memory was out
abbrev pub is_lost : Kept → Bool
is_lost (K.Values at variables values) = false
is_lost (K.AtCall eval) = eval.value.is_out
is_lost K.Broken = false

-- these values, at this place and with these variables
abbrev pub IsValues : Kept → (at : ℕ) → (variables values : List Tree) → Type 0
IsValues kept at variables values = view_kept kept ≡ k.Values at variables values

-- what an evaluation came to, or the call before which it stands
abbrev pub came_to : Option Kept → Frame → List Frame → k.Kept
came_to (Some kept) f fs = view_kept kept
came_to None f fs = k.AtCall f fs
