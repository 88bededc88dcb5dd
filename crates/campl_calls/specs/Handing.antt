-- Channels handed over to a process that is called.
use Rattle.std.specs.Prelude.{List, length}
use Rattle.campl_tree.specs.declared.place.Place.{Place}
use Rattle.campl_tree.specs.declared.place.Ident.{Ident}
use Rattle.campl_tree.specs.declared.service.Side.{Side}
use Rattle.campl_tree.specs.declared.service.Side.TheVariants.{Input, Output}
use Rattle.campl_tree.specs.Plain.ChanType.{ChanType}
use Rattle.campl_tree.specs.Plain.Decl.{ProcessDecl}
use Rattle.campl_seqcheck.specs.Judged.{Fine, Judged, Is, and_then}
use Rattle.campl_linear.specs.Faults.{LinFault}
use Rattle.campl_linear.specs.Holding.{Holding, given_up}
use Rattle.campl_linear.specs.Channels.{held_at, none_left}
use Rattle.campl_linear.specs.Calls.{as_many, as_declared, handed}

-- what is left behind one channel, which is held (E40) and as declared (E50)
abbrev pub handed_one : Side → Ident → ChanType → Holding → Judged LinFault Holding
handed_one s x t held = and_then (held_at x held) (λ c. and_then (as_declared x s t c) (λ _. Is (given_up x.name held)))

-- the inputs and then the outputs, as many as are declared (E50), behind which none is left (E41)
abbrev pub all_handed : Place → ProcessDecl → (inputs outputs : List Ident) → Holding → Judged LinFault Fine
all_handed at p inputs outputs held =
    and_then (as_many at (length inputs) (length p.inputs)) (λ _. and_then (as_many at (length outputs) (length p.outputs)) (λ _.
    and_then (handed Input inputs p.inputs held) (λ rest. and_then (handed Output outputs p.outputs rest) (none_left at))))
