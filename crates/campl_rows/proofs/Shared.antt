-- What is held, divided by the names that are free in a body.
use Rattle.std.proofs.Common.{◌≡◌, ◌∙◌, refl, ap, Bool, true, false, not, if◌then◌else◌, List, [], ◌∷◌, Option, Some, None, Result, Ok, Err, IfOk}
use Rattle.std.proofs.Math.Path.{fun_ext}
use Rattle.campl_tree.specs.declared.place.Ident.{Ident}
use Rattle.campl_tree.specs.Plain.Process.{Body}
use Rattle.campl_types.specs.Names.{Name, same_name, is_among, found}
use Rattle.campl_types.specs.Free.{is_free}
use Rattle.campl_types.specs.Held.{Channel}
use Rattle.campl_seqcheck.specs.Judged.{fine, Is, Fails, and_then}
use Rattle.campl_linear.specs.Faults.{LeftOver}
use Rattle.campl_linear.specs.Holding.{Holding, those, comes}
use Rattle.campl_linear.specs.Channels.{is_new, two_new}
use Rattle.campl_held.specs.declared.channel.HeldChannel.{HeldChannel}
use Rattle.campl_held.specs.Slots.{is_kept, view_held}
use Rattle.campl_rows.specs.Steps.{left_holding, right_holding}

-- a name that isn't held is not held among some of the channels
pub found-those : (x : Name) (keep : Name → Bool) (held : Holding) → found x held ≡ None → found x (those keep held) ≡ None
found-those x keep [] i = refl
found-those x keep (e ∷ held) i = go (same_name x e.0) (keep e.0) refl i (λ j. found-those x keep held j)
  where
    go : (b k : Bool) → same_name x e.0 ≡ b → (if b then Some e.1 else found x held) ≡ None → (found x held ≡ None → found x (those keep held) ≡ None)
        → found x (if k then e ∷ those keep held else those keep held) ≡ None
    go true k s j later = absurd (let none : ⊥ = cc in none)
    go false true s j later = rw s (later j)
    go false false s j later = later j

pub found-kept : (x : Name) (keep : Bool) (names : List Name) (own held : Holding) → own ≡ those (is_kept keep names) held → found x held ≡ None → found x own ≡ None
found-kept x keep names own held i j = ap (found x) i ∙ found-those x (is_kept keep names) held j

both-new : (y z : Ident) (o p : Option Channel) (b : Bool) → and_then (is_new y o) (λ _. if b then Fails (LeftOver z.place z.name) else is_new z p) ≡ Is fine
    → (o ≡ None) × (p ≡ None)
both-new y z (Some c) p b i = absurd (let none : ⊥ = cc in none)
both-new y z None p true i = absurd (let none : ⊥ = cc in none)
both-new y z None (Some c) false i = absurd (let none : ⊥ = cc in none)
both-new y z None None false i = (refl, refl)

pub new-names : (y z : Ident) (held : Holding) → two_new y z held ≡ Is fine → (found y.name held ≡ None) × (found z.name held ≡ None)
new-names y z held i = both-new y z (found y.name held) (found z.name held) (same_name y.name z.name) i

-- the shares of the bodies, by a set of the free names
module _ (names : List Name) (left : Body) (free : (n : Name) → is_among n names ≡ is_free n left) (held : Holding) (x : Name) (c : Channel) where
  pub left-share : comes x c (those (is_kept true names) held) ≡ left_holding x c left held
  left-share = ap (λ (keep : Name → Bool). comes x c (those keep held)) (fun_ext free)

  pub right-share : comes x c (those (is_kept false names) held) ≡ right_holding x c left held
  right-share = ap (λ (keep : Name → Bool). comes x c (those (λ n. not (keep n)) held)) (fun_ext free)

-- of a pair that may be there
module _ {E : Type 0} (r : Result (List HeldChannel × List HeldChannel) E) (held other : Holding) (i : held ≡ other) where
  pub first-is : IfOk r (λ p. view_held p.0 ≡ held) → IfOk r (λ p. view_held p.0 ≡ other)
  first-is = go r
    where
      go : (q : Result (List HeldChannel × List HeldChannel) E) → IfOk q (λ p. view_held p.0 ≡ held) → IfOk q (λ p. view_held p.0 ≡ other)
      go (Ok p) j = j ∙ i
      go (Err e) j = j

  pub second-is : IfOk r (λ p. view_held p.1 ≡ held) → IfOk r (λ p. view_held p.1 ≡ other)
  second-is = go r
    where
      go : (q : Result (List HeldChannel × List HeldChannel) E) → IfOk q (λ p. view_held p.1 ≡ held) → IfOk q (λ p. view_held p.1 ≡ other)
      go (Ok p) j = j ∙ i
      go (Err e) j = j
