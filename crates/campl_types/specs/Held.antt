-- The channels that a process holds, each on a side and with its type.
use Rattle.std.specs.Prelude.{◌≡◌, Bool, true, false, ◌&&◌, IsTrue, List, Option, Some, None, if◌then◌else◌}
use Rattle.campl_tree.specs.declared.service.Side.{Side}
use Rattle.campl_tree.specs.Plain.ChanType.{ChanType, Put, Get, Tensor, Par, TopBot, Neg, Named}
use Rattle.campl_types.specs.Names.{Name, same_name, is_among, is_empty}
use Rattle.campl_types.specs.Substitution.{variables_of, variables_of_all}

pub data Channel : Type 0 where
  On : Side → ChanType → Channel

abbrev pub Held : Type 0
Held = Name → Option Channel

abbrev pub nothing_held : Held
nothing_held x = None

-- with another channel, or none, under a name
abbrev pub with : Name → Option Channel → Held → Held
with x c held y = if same_name x y then c else held y

abbrev pub without : Name → Held → Held
without x held = with x None held

-- the channels whose names are kept
abbrev pub only : (Name → Bool) → Held → Held
only keep held y = if keep y then held y else None

-- nothing is held but under these names
abbrev pub HoldsOnly : List Name → Held → Type 0
HoldsOnly names held = (y : Name) → is_among y names ≡ false → held y ≡ None

abbrev pub is_closed : ChanType → Bool
is_closed (Put t x) = is_empty (variables_of t) && is_closed x
is_closed (Get t x) = is_empty (variables_of t) && is_closed x
is_closed (Tensor x y) = is_closed x && is_closed y
is_closed (Par x y) = is_closed x && is_closed y
is_closed TopBot = true
is_closed (Neg x) = is_closed x
is_closed (Named at x ts) = is_empty (variables_of_all ts)

-- no type variable stands in a channel's type
abbrev pub HasNoVariables : Held → Type 0
HasNoVariables held = (x : Name) (s : Side) (t : ChanType) → held x ≡ Some (On s t) → IsTrue (is_closed t)
