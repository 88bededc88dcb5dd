-- What is held: behind a step that adds an end, or takes one away; and where it stands.
use Rattle.std.proofs.Common.{◌≡◌, ◌∙◌, inl, inr, refl, sym, ap, subst, true, false, true≢false, ◌∷◌, Option, Some, None}
use Rattle.std.proofs.Math.Path.{fun_ext}
use Rattle.campl_tree.specs.Plain.Decl.{Program}
use Rattle.campl_machine.specs.Names.{Path, End, Process}
use Rattle.campl_machine.proofs.Updates.{split}
use Rattle.campl_types.specs.Names.{Name, same_name, found}
use Rattle.campl_types.specs.Held.{Channel, Held, with, without}
use Rattle.campl_types.proofs.Names.{same-turned}
use Rattle.campl_peel.specs.Terms.{held_ends}
use Rattle.campl_meaning.specs.States.{Ends, Running, Runs}
use Rattle.campl_meaning.specs.Reductions.{Configuration}
use Rattle.campl_meaning.specs.Bodies.{without_end}
use Rattle.campl_meaning.specs.Apart.{At, IsJoined}
use Rattle.campl_meaning.specs.Lawful.{Channels, Lawful}
use Rattle.campl_peel.proofs.Peeling.{none-or}
use Rattle.campl_frame.proofs.Listed.{found-without, still-without}

-- what has an end and a channel is held
pub held-of : (channel : Channels) (es : Ends) (x : Name) (e : End) (ch : Channel) → found x es ≡ Some e → channel e ≡ Some ch → held_ends channel es x ≡ Some ch
held-of channel es x e ch f i = let j : held_ends channel es x ≡ channel e = rw f refl in j ∙ i

pub held-more : (channel : Channels) (x : Name) (e : End) (es : Ends) (ch : Option Channel) (held : Held) → channel e ≡ ch → held_ends channel es ≡ held → held_ends channel ((x, e) ∷ es) ≡ with x ch held
held-more channel x e es ch held i j = fun_ext (λ y. elim (split (same_name x y)) [
  | inl s ↦ rw (s, same-turned y x ∙ s) i
  | inr s ↦ rw (s, same-turned y x ∙ s) (ap (λ (z : Held). z y) j)
])

-- without x, and with the other channels as they were
pub held-without : (channel channel2 : Channels) (x : Name) (es : Ends) → ((y : Name) (e : End) → same_name x y ≡ false → found y es ≡ Some e → channel2 e ≡ channel e)
    → held_ends channel2 (without_end x es) ≡ without x (held_ends channel es)
held-without channel channel2 x es h = fun_ext (λ y. elim (split (same_name x y)) [
  | inl s ↦ gone y s (found y (without_end x es)) refl
  | inr s ↦ kept y s (found y es) refl
])
  where
    gone : (y : Name) → same_name x y ≡ true → (o : Option End) → found y (without_end x es) ≡ o → held_ends channel2 (without_end x es) y ≡ without x (held_ends channel es) y
    gone y s None i = rw (i, s) refl
    gone y s (Some e) i = absurd (true≢false (sym s ∙ (found-without x es y e i).0))

    kept : (y : Name) → same_name x y ≡ false → (o : Option End) → found y es ≡ o → held_ends channel2 (without_end x es) y ≡ without x (held_ends channel es) y
    kept y s (Some e) i = rw (still-without x es y e s i, s, i) (h y e s i)
    kept y s None i = elim (none-or (found y (without_end x es))) [
      | inl n ↦ rw (n, s, i) refl
      | inr (e, f) ↦ absurd (let no : None ≡ Some e = sym i ∙ (found-without x es y e f).1 in cc no)
    ]

-- Where a process's ends stand

module _ (source : Program) (c : Configuration) (l : Lawful source c) (p : Path) (r : Running) (there : c.nodes (Process p) ≡ Some (Runs r)) where
  -- with it
  pub own-place : (x : Name) (e : End) → found x r.ends ≡ Some e → (l.place e ≡ At (Process p)) × IsJoined c e
  own-place x e f = l.apart.placed.held p e (r, x, there, f)

  -- and what stands there it holds
  pub own-found : (e : End) → IsJoined c e → l.place e ≡ At (Process p) → (x : Name) × (found x r.ends ≡ Some e)
  own-found e j i =
      let (s, x, is, f) = l.apart.placed.holder p e j i in
      let same : s ≡ r = cc (is, there) in
      (x, subst (λ (z : Running). found x z.ends ≡ Some e) same f)
