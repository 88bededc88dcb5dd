-- The call of a process: its values, and the channels that it hands over.
use Rattle.std.specs.Prelude.{ℕ, Bool, ◌&&◌, List, [], ◌∷◌, length, Option, Some, None, if◌then◌else◌, eqb}
use Rattle.campl_tree.specs.declared.place.Place.{Place}
use Rattle.campl_tree.specs.declared.place.Ident.{Ident}
use Rattle.campl_tree.specs.declared.service.Side.{Side}
use Rattle.campl_tree.specs.declared.service.Side.TheVariants.{Input, Output}
use Rattle.campl_tree.specs.Plain.SeqType.{SeqType}
use Rattle.campl_tree.specs.Plain.ChanType.{ChanType}
use Rattle.campl_tree.specs.Plain.Expr as e
use Rattle.campl_tree.specs.Plain.Expr.{Exprs}
use Rattle.campl_tree.specs.Plain.Decl.{ProcessDecl}
use Rattle.campl_types.specs.SameTest.{same_chan}
use Rattle.campl_types.specs.Fits.{Vars}
use Rattle.campl_types.specs.World.{World}
use Rattle.campl_types.specs.Held.{Channel, On}
use Rattle.campl_seqcheck.specs.Judged as seq
use Rattle.campl_seqcheck.specs.Judged.{Fine, fine, Judged, Is, Fails, and_then}
use Rattle.campl_seqcheck.specs.Judging as values
use Rattle.campl_seqcheck.specs.Judging.{count_of}
use Rattle.campl_linear.specs.Faults.{LinFault, CallChannels}
use Rattle.campl_linear.specs.Judged.{from_seq}
use Rattle.campl_linear.specs.Holding.{Holding, given_up}
use Rattle.campl_linear.specs.Channels.{held_at, same_side, none_left}
use Rattle.campl_seqcheck.specs.Fitting.{counted}
use Rattle.campl_seqcheck.specs.declared.fault.SeqFault.{SeqFault}

-- each value against its type
abbrev pub values_fit : World → Vars → List SeqType → Exprs → seq.Judged SeqFault Fine
values_fit w vs [] args = seq.Is fine
values_fit w vs (t ∷ ts) e.no_exprs = seq.Is fine
values_fit w vs (t ∷ ts) (e.expr_then a rest) = seq.and_then (values.judge w vs a (Some t)) (λ _. values_fit w vs ts rest)

-- as many channels as are declared (E50)
abbrev pub as_many : Place → (number wanted : ℕ) → Judged LinFault Fine
as_many at number wanted = if eqb number wanted then Is fine else Fails (CallChannels at None)

abbrev pub is_as_declared : Side → ChanType → Channel → Bool
is_as_declared s t (On r u) = same_side r s && same_chan u t

-- a channel of the side and type that are declared (E50)
abbrev pub as_declared : Ident → Side → ChanType → Channel → Judged LinFault Fine
as_declared x s t c = if is_as_declared s t c then Is fine else Fails (CallChannels x.place (Some x.name))

-- what is left behind the channels that are handed over, each held (E40) and as declared
abbrev pub handed : Side → List Ident → List ChanType → Holding → Judged LinFault Holding
handed s [] ts held = Is held
handed s (x ∷ xs) [] held = Is held
handed s (x ∷ xs) (t ∷ ts) held =
    and_then (held_at x held) (λ c. and_then (as_declared x s t c) (λ _. handed s xs ts (given_up x.name held)))

-- a name of no process is in no well declared source
abbrev pub called : World → Vars → Holding → Place → Option ProcessDecl → Exprs → (inputs outputs : List Ident) → Judged LinFault Fine
called w vs held at None args inputs outputs = Fails (CallChannels at None)
called w vs held at (Some p) args inputs outputs =
    and_then (from_seq (counted at (count_of args) (length p.parameters))) (λ _.
    and_then (from_seq (values_fit w vs p.parameters args)) (λ _.
    and_then (as_many at (length inputs) (length p.inputs)) (λ _. and_then (as_many at (length outputs) (length p.outputs)) (λ _.
    and_then (handed Input inputs p.inputs held) (λ rest. and_then (handed Output outputs p.outputs rest) (none_left at))))))
