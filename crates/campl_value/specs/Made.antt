-- What making a value and looking at one say.
use Rattle.std.specs.Prelude.{◌≡◌, ◌≤◌, ◌<◌, ⊤, Option, Some, None}
use Rattle.campl_value.specs.declared.value.Look.{Look}
use Rattle.campl_value.specs.declared.value.Look.TheVariants as L
use Rattle.campl_value.specs.declared.value.Made.{Made}
use Rattle.campl_value.specs.declared.value.Made.TheVariants.{Is, TooDeep}
use Rattle.campl_value.specs.declared.value.TheConstants.{MAX_DEPTH}
use Rattle.campl_value.specs.Tree.{Tree, Int, Char, Truth, Nil, Cell, Pair, built, depth_of}

-- the tree, where its depth is at most MAX_DEPTH, and TooDeep exactly where it is more
abbrev pub IsMade : Tree → Made → Type 0
IsMade t (Is v) = (v ≡ t) × (depth_of t ≤ MAX_DEPTH)
IsMade t TooDeep = MAX_DEPTH < depth_of t

-- the same for a tree that there may not be, with None exactly where there is none
abbrev pub IsMadeIfAny : Option Tree → Option Made → Type 0
IsMadeIfAny (Some t) (Some made) = IsMade t made
IsMadeIfAny None None = ⊤
IsMadeIfAny _ _ = ⊥

-- the top of the tree
abbrev pub Looks : Tree → Look → Type 0
Looks t (L.Int n) = t ≡ Int n
Looks t (L.Char c) = t ≡ Char c
Looks t (L.Truth b) = t ≡ Truth b
Looks t (L.Nil) = t ≡ Nil
Looks t (L.Cell head tail) = t ≡ Cell head tail
Looks t (L.Pair first second) = t ≡ Pair first.now second.now
Looks t (L.Built constructor parts) = t ≡ built constructor parts.now
