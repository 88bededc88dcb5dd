-- Messages with one more: where their pairs stand.
use Rattle.std.proofs.Common.{◌≡◌, ◌⊎◌, inl, inr, refl, sym, false, true≢false, List, [], ◌∷◌, ◌++◌}
use Rattle.campl_machine.specs.Names.{End}
use Rattle.campl_meaning.specs.States.{Message, Word, Pick, EndPair}
use Rattle.campl_meaning.specs.Apart.{IsCarried, owes_pair}
use Rattle.campl_frame.proofs.Stays.{filled}

pub carried-either : (ms ns : List Message) (e : End) → IsCarried (ms ++ ns) e → IsCarried ms e ⊎ IsCarried ns e
carried-either [] ns e i = inr i
carried-either (Word v ∷ ms) ns e i = carried-either ms ns e i
carried-either (Pick n ∷ ms) ns e i = carried-either ms ns e i
carried-either (EndPair f g ∷ ms) ns e (inl i) = inl (inl i)
carried-either (EndPair f g ∷ ms) ns e (inr (inl i)) = inl (inr (inl i))
carried-either (EndPair f g ∷ ms) ns e (inr (inr i)) = elim (carried-either ms ns e i) [ inl j ↦ inl (inr (inr j)) | inr j ↦ inr j ]

tail-owes : (m : Message) (ms : List Message) → owes_pair (m ∷ ms) ≡ false → owes_pair ms ≡ false
tail-owes (Word v) ms i = i
tail-owes (Pick n) ms i = i
tail-owes (EndPair f g) ms i = absurd (true≢false i)

head-owes : (m : Message) (ms : List Message) (a o : End) → owes_pair (m ∷ ms) ≡ false → m ≡ EndPair a o → ⊥
head-owes (Word v) ms a o i j = cc j
head-owes (Pick n) ms a o i j = cc j
head-owes (EndPair f g) ms a o i j = true≢false i

-- the only pair is the last
pub record IsTheLast (ms firsts rest : List Message) (f g a o : End) : Type 0 where
  pub before : firsts ≡ ms
  pub first : f ≡ a
  pub second : g ≡ o
  pub after : rest ≡ []

pub one-pair : (ms before after : List Message) (f g a o : End) → owes_pair ms ≡ false → ms ++ (EndPair f g ∷ []) ≡ before ++ (EndPair a o ∷ after) → IsTheLast ms before after f g a o
one-pair [] [] after f g a o h i =
    let heads : EndPair f g ≡ EndPair a o = cc i in
    record { before = refl; first = cc heads; second = cc heads; after = let t : [] ≡ after = cc i in sym t }
one-pair [] (n ∷ before) after f g a o h i = absurd (let t : [] ≡ before ++ (EndPair a o ∷ after) = cc i in filled before after a o (sym t))
one-pair (m ∷ ms) [] after f g a o h i = absurd (let t : m ≡ EndPair a o = cc i in head-owes m ms a o h t)
one-pair (m ∷ ms) (n ∷ before) after f g a o h i =
    let tails : ms ++ (EndPair f g ∷ []) ≡ before ++ (EndPair a o ∷ after) = cc i in
    let k : IsTheLast ms before after f g a o = one-pair ms before after f g a o (tail-owes m ms h) tails in
    let heads : m ≡ n = cc i in
    let b1 : before ≡ ms = k.before in
    record { before = let q : n ∷ before ≡ m ∷ ms = cc (heads, b1) in q; first = k.first; second = k.second; after = k.after }
