-- Which nodes of a decision name only rows that are there.
use Rattle.std.specs.Prelude.{ℕ, Bool, true, ◌&&◌, List, slice_get, unwrap_or, length}
use Rattle.campl_code.specs.Operands.{is_bound}
use Rattle.campl_instructions.specs.declared.decision.Node.{Node}
use Rattle.campl_instructions.specs.declared.decision.Node.TheVariants.{Row, Test, Fail}

-- a node that isn't there names none
abbrev pub named_at : List Bool → ℕ → Bool
named_at named n = unwrap_or (slice_get named n) true

-- a node names none, by the nodes behind it
abbrev pub names_at : List ℕ → List Bool → Node → Bool
names_at bound behind (Row r spots) = is_bound bound (length spots) (slice_get bound r)
names_at bound behind (Test spot head fit other) = named_at behind fit && named_at behind other
names_at bound behind Fail = true
