-- What stands under a name among the ends that a process holds.
use Rattle.std.proofs.Common.{◌≡◌, Bool, true, false, refl, [], ◌∷◌, ◌||◌, if◌then◌else◌, Option, Some, None}
use Rattle.campl_machine.specs.Names.{End}
use Rattle.campl_types.specs.Names.{Name, same_name, is_among, found}
use Rattle.campl_types.specs.Held.{Channel}
use Rattle.campl_peel.specs.Terms.{held_ends}
use Rattle.campl_meaning.specs.States.{Ends}
use Rattle.campl_meaning.specs.Apart.{end_names}
use Rattle.campl_meaning.specs.Lawful.{Channels}

-- a channel that is held stands for an end under its name
pub held-end : (channel : Channels) (es : Ends) (n : Name) (h : Channel) → held_ends channel es n ≡ Some h → (e : End) × (found n es ≡ Some e) × (channel e ≡ Some h)
held-end channel es n h i = go (found n es) refl
  where
    go : (o : Option End) → found n es ≡ o → (e : End) × (found n es ≡ Some e) × (channel e ≡ Some h)
    go None j = let q : None ≡ Some h = rw j at i in absurd (cc q)
    go (Some e) j = let q : channel e ≡ Some h = rw j at i in (e, j, q)

-- a name under which an end stands is among the names
pub found-named : (y : Name) (fs : Ends) (e : End) → found y fs ≡ Some e → is_among y (end_names fs) ≡ true
found-named y [] e i = absurd (cc i)
found-named y (f ∷ fs) e i = go (same_name y f.0) i (found-named y fs e)
  where
    go : (b : Bool) → (if b then Some f.1 else found y fs) ≡ Some e → (found y fs ≡ Some e → is_among y (end_names fs) ≡ true) → (b || is_among y (end_names fs)) ≡ true
    go true j later = refl
    go false j later = later j
