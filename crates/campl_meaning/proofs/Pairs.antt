-- Pairs of ends among messages.
use Rattle.std.proofs.Common.{◌≡◌, ◌⊎◌, Bool, true, false, List, [], ◌∷◌, ◌++◌, inl, inr, refl, sym, ap, ◌∙◌, true≢false}
use Rattle.campl_machine.specs.Names.{End}
use Rattle.campl_meaning.specs.States.{Message, Word, Pick, EndPair}
use Rattle.campl_meaning.specs.Apart.{IsCarried, owes_pair}

-- An end that is carried

pub carried-left : (ms ns : List Message) (e : End) → IsCarried ms e → IsCarried (ms ++ ns) e
carried-left [] ns e h = absurd h
carried-left (Word v ∷ ms) ns e h = carried-left ms ns e h
carried-left (Pick n ∷ ms) ns e h = carried-left ms ns e h
carried-left (EndPair f g ∷ ms) ns e (inl h) = inl h
carried-left (EndPair f g ∷ ms) ns e (inr (inl h)) = inr (inl h)
carried-left (EndPair f g ∷ ms) ns e (inr (inr h)) = inr (inr (carried-left ms ns e h))

pub carried-right : (ms ns : List Message) (e : End) → IsCarried ns e → IsCarried (ms ++ ns) e
carried-right [] ns e h = h
carried-right (Word v ∷ ms) ns e h = carried-right ms ns e h
carried-right (Pick n ∷ ms) ns e h = carried-right ms ns e h
carried-right (EndPair f g ∷ ms) ns e h = inr (inr (carried-right ms ns e h))

pub carried-owes : (ms : List Message) (e : End) → IsCarried ms e → owes_pair ms ≡ true
carried-owes [] e h = absurd h
carried-owes (Word v ∷ ms) e h = carried-owes ms e h
carried-owes (Pick n ∷ ms) e h = carried-owes ms e h
carried-owes (EndPair f g ∷ ms) e h = refl

pub none-carried : (ms : List Message) (e : End) → owes_pair ms ≡ false → IsCarried ms e → ⊥
none-carried ms e i h = true≢false (sym (carried-owes ms e h) ∙ i)

-- The pairs of a list are told by where they stand

pub record HasPair (ms : List Message) : Type 0 where
  pub before : List Message
  pub one : End
  pub other : End
  pub after : List Message
  pub is : ms ≡ before ++ (EndPair one other ∷ after)

one-more : (m : Message) (ms : List Message) → HasPair ms → HasPair (m ∷ ms)
one-more m ms h = record { before = m ∷ h.before; one = h.one; other = h.other; after = h.after; is = ap (λ (z : List Message). m ∷ z) h.is }

pub the-pair : (ms : List Message) → owes_pair ms ≡ true → HasPair ms
the-pair [] i = absurd (true≢false (sym i))
the-pair (Word v ∷ ms) i = one-more (Word v) ms (the-pair ms i)
the-pair (Pick n ∷ ms) i = one-more (Pick n) ms (the-pair ms i)
the-pair (EndPair f g ∷ ms) i = record { before = []; one = f; other = g; after = ms; is = refl }

pub pair-or-none : (ms : List Message) → (owes_pair ms ≡ false) ⊎ HasPair ms
pair-or-none ms = go (owes_pair ms) refl
  where
    go : (b : Bool) → owes_pair ms ≡ b → (owes_pair ms ≡ false) ⊎ HasPair ms
    go true i = inr (the-pair ms i)
    go false i = inl i
