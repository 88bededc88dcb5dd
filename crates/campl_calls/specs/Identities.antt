-- `x |=| y`: two channels that are held, and no other, are joined where they fit together.
use Rattle.std.specs.Prelude.{Bool}
use Rattle.campl_tree.specs.declared.place.Place.{Place}
use Rattle.campl_tree.specs.declared.place.Ident.{Ident}
use Rattle.campl_types.specs.Names.{Name}
use Rattle.campl_seqcheck.specs.Judged.{Fine, Judged, and_then}
use Rattle.campl_linear.specs.Faults.{LinFault}
use Rattle.campl_linear.specs.Holding.{Holding, given_up}
use Rattle.campl_linear.specs.Channels.{held_at, none_left, joined}

-- both are held (E40), nothing else is (E41), and they fit together (E49)
abbrev pub identified : Place → Holding → (x : Name) (negated : Bool) (y : Ident) → Judged LinFault Fine
identified at held x negated y =
    and_then (held_at (record { place = at; name = x }) held) (λ c. and_then (held_at y held) (λ d.
    and_then (none_left at (given_up y.name (given_up x held))) (λ _. joined at x negated y.name c d)))
