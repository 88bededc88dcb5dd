-- What stays where ends keep their channels and views.
use Rattle.std.proofs.Common.{◌≡◌, ◌∙◌, ◌⊎◌, inl, inr, refl, sym, subst, List, [], ◌∷◌, ◌++◌, Option, Some, None}
use Rattle.std.proofs.Math.Path.{fun_ext}
use Rattle.campl_machine.specs.Names.{End}
use Rattle.campl_types.specs.Names.{Name, found}
use Rattle.campl_types.specs.World.{World}
use Rattle.campl_types.specs.Views.{View, turned}
use Rattle.campl_peel.specs.Terms.{TermIsWellFormed, held_ends}
use Rattle.campl_meaning.specs.States.{Message, Word, Pick, EndPair, Ends, Running}
use Rattle.campl_meaning.specs.Reductions.{Configuration}
use Rattle.campl_meaning.specs.Views.{TakesAll}
use Rattle.campl_meaning.specs.Apart.{IsCarried}
use Rattle.campl_meaning.specs.Lawful.{Channels, seen, IsTypedAt, Agree, IsPairOf}

-- ends with the channels that they had are held as they were
pub same-held : (channel channel2 : Channels) (es : Ends) → ((x : Name) (e : End) → found x es ≡ Some e → channel2 e ≡ channel e) → held_ends channel2 es ≡ held_ends channel es
same-held channel channel2 es h = fun_ext (λ x. go x (found x es) refl)
  where
    go : (x : Name) (o : Option End) → found x es ≡ o → held_ends channel2 es x ≡ held_ends channel es x
    go x None i = rw i refl
    go x (Some e) i = rw i (h x e i)

pub typed-same : (w : World) (channel channel2 : Channels) (r : Running) → ((x : Name) (e : End) → found x r.ends ≡ Some e → channel2 e ≡ channel e) → IsTypedAt w channel r → IsTypedAt w channel2 r
typed-same w channel channel2 r h t = record {
  vars = t.vars;
  bound = t.bound;
  term = subst (λ z. TermIsWellFormed w t.vars z r.term) (sym (same-held channel channel2 r.ends h)) t.term;
}

pub agree-same : (w : World) (c d : Configuration) (channel channel2 : Channels) (e f : End) → seen channel2 e ≡ seen channel e → seen channel2 f ≡ seen channel f
    → d.owed e ≡ c.owed e → d.owed f ≡ c.owed f → Agree w c channel e f → Agree w d channel2 e f
agree-same w c d channel channel2 e f ve vf oe of a = record {
  left = a.left;
  mine = subst (λ v. TakesAll w v (d.owed f) a.left) (sym ve) (subst (λ o. TakesAll w (seen channel e) o a.left) (sym of) a.mine);
  yours = subst (λ v. TakesAll w v (d.owed e) (turned a.left)) (sym vf) (subst (λ o. TakesAll w (seen channel f) o (turned a.left)) (sym oe) a.yours);
}

pub pair-same : (w : World) (channel channel2 : Channels) (before : List Message) (y a b : End) → seen channel2 y ≡ seen channel y → channel2 a ≡ channel a → channel2 b ≡ channel b
    → IsPairOf w channel before y a b → IsPairOf w channel2 before y a b
pair-same w channel channel2 before y a b vy ca cb k = record {
  view = k.view;
  first = k.first;
  second = k.second;
  reached = subst (λ v. TakesAll w v before k.view) (sym vy) k.reached;
  splits = k.splits;
  is_first = (k.is_first.0, ca ∙ k.is_first.1, k.is_first.2);
  is_second = (k.is_second.0, cb ∙ k.is_second.1, k.is_second.2);
}

-- a view takes one list after another
pub takes-more : (w : World) (a : View) (ms ns : List Message) (u x : View) → TakesAll w a ms u → TakesAll w u ns x → TakesAll w a (ms ++ ns) x
takes-more w a [] ns u x e b = subst (λ z. TakesAll w z ns x) (sym e) b
takes-more w a (m ∷ ms) ns u x (next, t, k) b = (next, t, takes-more w next ms ns u x k b)

-- a pair's ends are carried
pub carries : (before after : List Message) (a b e : End) → (e ≡ a) ⊎ (e ≡ b) → IsCarried (before ++ (EndPair a b ∷ after)) e
carries [] after a b e (inl i) = inl i
carries [] after a b e (inr i) = inr (inl i)
carries (Word v ∷ ms) after a b e i = carries ms after a b e i
carries (Pick n ∷ ms) after a b e i = carries ms after a b e i
carries (EndPair f g ∷ ms) after a b e i = inr (inr (carries ms after a b e i))

-- a list with a pair isn't empty
pub filled : (before after : List Message) (a b : End) → before ++ (EndPair a b ∷ after) ≡ [] → ⊥
filled [] after a b e = cc e
filled (m ∷ ms) after a b e = cc e
