-- What a command asks of a channel, and new ones.
use Rattle.std.proofs.Common.{◌≡◌, ◌∙◌, refl, sym, ap, Bool, true, false, if◌then◌else◌, ◌++◌, Option, Some, None, List, [], ◌∷◌, slice_get}
use Rattle.campl_tree.specs.declared.place.Place.{Place}
use Rattle.campl_tree.specs.declared.place.Ident.{Ident}
use Rattle.campl_tree.proofs.Views.{chan_views}
use Rattle.campl_types.specs.Names.{Name, same_name, found}
use Rattle.campl_types.proofs.Names.{same-turned}
use Rattle.campl_types.specs.Held.{Channel}
use Rattle.campl_seqcheck.specs.Judged.{Is, Fails, and_then, fine}
use Rattle.campl_seqcheck.proofs.Nodes.{list_of-types}
use Rattle.campl_linear.specs.Faults.{NotHeld, LeftOver}
use Rattle.campl_linear.specs.Holding.{Holding, comes}
use Rattle.campl_linear.specs.Channels.{held_at, is_held, none_left, new_name, is_new, two_new}
use Rattle.campl_held.specs.declared.channel.HeldChannel.{HeldChannel}
use Rattle.campl_held.specs.Slots.{view_held}

-- new channels
pub is-new : (y : Ident) (held : Holding) → None ≡ found y.name held → new_name y held ≡ Is fine
is-new y held i = ap (is_new y) (sym i)

pub not-new : (y : Ident) (held : Holding) (c : Channel) → Some c ≡ found y.name held → new_name y held ≡ Fails (LeftOver y.place y.name)
not-new y held c i = ap (is_new y) (sym i)

both-new : (y z : Ident) (o p : Option Channel) (b : Bool) → and_then (is_new y o) (λ _. if b then Fails (LeftOver z.place z.name) else is_new z p) ≡ Is fine
    → (o ≡ None) × (b ≡ false) × (p ≡ None)
both-new y z (Some c) p b i = absurd (let none : ⊥ = cc in none)
both-new y z None p true i = absurd (let none : ⊥ = cc in none)
both-new y z None (Some c) false i = absurd (let none : ⊥ = cc in none)
both-new y z None None false i = (refl, refl, refl)

pub first-new : (y z : Ident) (held : Holding) → two_new y z held ≡ Is fine → found y.name held ≡ None
first-new y z held i = (both-new y z (found y.name held) (found z.name held) (same_name y.name z.name) i).0

found-behind : (x y : Name) (c : Channel) (held : Holding) → same_name x y ≡ false → found x held ≡ None → found x (held ++ (y, c) ∷ []) ≡ None
found-behind x y c [] i j = rw i refl
found-behind x y c (e ∷ held) i j = go (same_name x e.0) j (λ k. found-behind x y c held i k)
  where
    go : (b : Bool) → (if b then Some e.1 else found x held) ≡ None → (found x held ≡ None → found x (held ++ (y, c) ∷ []) ≡ None) → (if b then Some e.1 else found x (held ++ (y, c) ∷ [])) ≡ None
    go true k later = absurd (let none : ⊥ = cc in none)
    go false k later = later k

pub second-new : (y z : Ident) (c : Channel) (held : Holding) → two_new y z held ≡ Is fine → found z.name (comes y.name c held) ≡ None
second-new y z c held i =
    let n = both-new y z (found y.name held) (found z.name held) (same_name y.name z.name) i in
    found-behind z.name y.name c held (same-turned z.name y.name ∙ n.1) n.2

pub ruleset coming = (is-new, not-new)

-- not held, and not found
pub not-held : (x : Ident) (held : Holding) → None ≡ found x.name held → held_at x held ≡ Fails (NotHeld x.place x.name)
not-held x held i = ap (is_held x) (sym i)

pub is-held : (x : Ident) (held : Holding) (c : Channel) → Some c ≡ found x.name held → held_at x held ≡ Is c
is-held x held c i = ap (is_held x) (sym i)

-- the first that is left
pub left-first : (at : Place) (held : List HeldChannel) (h : HeldChannel) → Some h ≡ slice_get held 0 → none_left at (view_held held) ≡ Fails (LeftOver at h.name)
left-first at [] h i = absurd (let none : ⊥ = cc in none)
left-first at (g ∷ held) h i = let e : h ≡ g = cc in ap (λ k. Fails (LeftOver at k.name)) (sym e)

pub left-nothing : (at : Place) (held : List HeldChannel) → None ≡ slice_get held 0 → none_left at (view_held held) ≡ Is fine
left-nothing at [] i = refl
left-nothing at (g ∷ held) i = absurd (let none : ⊥ = cc in none)

pub ruleset leaving = (left-first, left-nothing)

pub ruleset holding = (not-held, is-held)

pub ruleset deeds = (chan_views, list_of-types)
