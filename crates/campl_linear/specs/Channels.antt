-- What a command asks of the channels that it names.
use Rattle.std.specs.Prelude.{Bool, true, false, ◌&&◌, not, [], ◌∷◌, Option, Some, None, if◌then◌else◌}
use Rattle.campl_tree.specs.declared.place.Place.{Place}
use Rattle.campl_tree.specs.declared.place.Ident.{Ident}
use Rattle.campl_tree.specs.declared.service.Side.{Side}
use Rattle.campl_tree.specs.declared.service.Side.TheVariants.{Input, Output}
use Rattle.campl_tree.specs.Side.{opposite}
use Rattle.campl_tree.specs.Plain.SeqType.{SeqType}
use Rattle.campl_tree.specs.Plain.ChanType.{ChanType, Neg}
use Rattle.campl_types.specs.Names.{Name, same_name, found}
use Rattle.campl_types.specs.SameTest.{same_chan}
use Rattle.campl_types.specs.World.{World}
use Rattle.campl_types.specs.Polarity.{Choices, Deed, Puts, Gets, Forks, Splits, Picks, Offers, Ends, deed}
use Rattle.campl_types.specs.Held.{Channel, On}
use Rattle.campl_seqcheck.specs.Judged.{Fine, fine, Judged, Is, Fails, and_then}
use Rattle.campl_linear.specs.Faults.{LinFault, NotHeld, LeftOver, WrongAction, IdentityType}
use Rattle.campl_linear.specs.Holding.{Holding}

-- Held (E40)

abbrev pub is_held : Ident → Option Channel → Judged LinFault Channel
is_held x None = Fails (NotHeld x.place x.name)
is_held x (Some c) = Is c

-- the channel of this name
abbrev pub held_at : Ident → Holding → Judged LinFault Channel
held_at x held = is_held x (found x.name held)

-- At its own entry of the polarity table (E42)

-- how a channel is held, and what the command may do with it
pub record Used (A : Type 0) : Type 0 where
  pub side : Side
  pub held_type : ChanType
  pub may : A

abbrev pub allowed_so : {A : Type 0} → Place → Name → Side → ChanType → Option A → Judged LinFault (Used A)
allowed_so at x s u None = Fails (WrongAction at x u s)
allowed_so at x s u (Some a) = Is (record { side = s; held_type = u; may = a })

abbrev pub allowed_of : {A : Type 0} → World → Place → Name → (Deed → Option A) → Channel → Judged LinFault (Used A)
allowed_of w at x wants (On s u) = allowed_so at x s u (wants (deed w s u))

-- the channel that a command names, where its type has what the command wants
abbrev pub used : {A : Type 0} → World → Place → Ident → (Deed → Option A) → Holding → Judged LinFault (Used A)
used w at x wants held = and_then (held_at x held) (allowed_of w at x.name wants)

-- what each command wants
abbrev pub to_put : Deed → Option (SeqType × ChanType)
to_put (Puts t y) = Some (t, y)
to_put _ = None

abbrev pub to_get : Deed → Option (SeqType × ChanType)
to_get (Gets t y) = Some (t, y)
to_get _ = None

abbrev pub to_pick : Name → Deed → Option ChanType
to_pick k (Picks cs) = found k cs
to_pick k _ = None

abbrev pub to_split : Deed → Option (ChanType × ChanType)
to_split (Splits t r) = Some (t, r)
to_split _ = None

abbrev pub to_fork : Deed → Option (ChanType × ChanType)
to_fork (Forks t r) = Some (t, r)
to_fork _ = None

abbrev pub to_end : Deed → Option Fine
to_end Ends = Some fine
to_end _ = None

abbrev pub to_offer : Deed → Option Choices
to_offer (Offers cs) = Some cs
to_offer _ = None

-- New, or none left (E41)

abbrev pub is_new : Ident → Option Channel → Judged LinFault Fine
is_new y None = Is fine
is_new y (Some c) = Fails (LeftOver y.place y.name)

abbrev pub new_name : Ident → Holding → Judged LinFault Fine
new_name y held = is_new y (found y.name held)

-- two new names, the second not that of the first either
abbrev pub two_new : Ident → Ident → Holding → Judged LinFault Fine
two_new y z held = and_then (new_name y held) (λ _. if same_name y.name z.name then Fails (LeftOver z.place z.name) else new_name z held)

abbrev pub none_left : Place → Holding → Judged LinFault Fine
none_left at [] = Is fine
none_left at (e ∷ es) = Fails (LeftOver at e.0)

-- Identity (E49)

abbrev pub same_side : Side → Side → Bool
same_side Input Input = true
same_side Output Output = true
same_side Input Output = false
same_side Output Input = false

-- one type on opposite sides, or with `neg` the type `Neg(T)` and T on one side
abbrev pub fit_together : Bool → Channel → Channel → Bool
fit_together false (On s t) (On r u) = same_side r (opposite s) && same_chan t u
fit_together true (On s t) (On r u) = same_side r s && same_chan t (Neg u)

abbrev pub joined : Place → Name → Bool → Name → Channel → Channel → Judged LinFault Fine
joined at x negated y c d = if not (same_name x y) && fit_together negated c d then Is fine else Fails (IdentityType at)
