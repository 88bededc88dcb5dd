-- Pairs of ends in lists of messages.
use Rattle.std.proofs.Common.{◌≡◌, false, List, [], ◌∷◌, ◌++◌, refl, ap, subst, true≢false}
use Rattle.campl_machine.specs.Names.{End}
use Rattle.campl_meaning.specs.States.{Message, Word, Pick, EndPair}
use Rattle.campl_meaning.specs.Apart.{IsCarried, owes_pair}

-- without a pair before them, messages behind have all pairs
pub owes-behind : (ms ns : List Message) → owes_pair ms ≡ false → owes_pair (ms ++ ns) ≡ owes_pair ns
owes-behind [] ns i = refl
owes-behind (Word v ∷ ms) ns i = owes-behind ms ns i
owes-behind (Pick n ∷ ms) ns i = owes-behind ms ns i
owes-behind (EndPair f g ∷ ms) ns i = absurd (true≢false i)

pub carried-behind : (ms ns : List Message) (e : End) → owes_pair ms ≡ false → IsCarried (ms ++ ns) e → IsCarried ns e
carried-behind [] ns e i h = h
carried-behind (Word v ∷ ms) ns e i h = carried-behind ms ns e i h
carried-behind (Pick n ∷ ms) ns e i h = carried-behind ms ns e i h
carried-behind (EndPair f g ∷ ms) ns e i h = absurd (true≢false i)

-- a pair that isn't in the first of two lists is in the second
pub record LiesBehind (ms ns before : List Message) (a b : End) (after : List Message) : Type 0 where
  pub rest : List Message
  pub front : before ≡ ms ++ rest
  pub behind : ns ≡ rest ++ (EndPair a b ∷ after)

later : (m : Message) (ms ns before : List Message) (a b : End) (after : List Message) → LiesBehind ms ns before a b after → LiesBehind (m ∷ ms) ns (m ∷ before) a b after
later m ms ns before a b after h = record { rest = h.rest; front = ap (λ (z : List Message). m ∷ z) h.front; behind = h.behind }

tail-of : List Message → List Message
tail-of [] = []
tail-of (m ∷ ms) = ms

pub pair-behind : (ms ns before : List Message) (a b : End) (after : List Message) → owes_pair ms ≡ false → ms ++ ns ≡ before ++ (EndPair a b ∷ after) → LiesBehind ms ns before a b after
pair-behind [] ns before a b after i h = record { rest = before; front = refl; behind = h }
pair-behind (Word v ∷ ms) ns [] a b after i h = absurd (cc h)
pair-behind (Pick n ∷ ms) ns [] a b after i h = absurd (cc h)
pair-behind (EndPair f g ∷ ms) ns before a b after i h = absurd (true≢false i)
pair-behind (Word v ∷ ms) ns (m ∷ before) a b after i h =
    let head : Word v ≡ m = cc h in
    subst (λ (z : Message). LiesBehind (Word v ∷ ms) ns (z ∷ before) a b after) head (later (Word v) ms ns before a b after (pair-behind ms ns before a b after i (cc h)))
pair-behind (Pick n ∷ ms) ns (m ∷ before) a b after i h =
    let head : Pick n ≡ m = cc h in
    subst (λ (z : Message). LiesBehind (Pick n ∷ ms) ns (z ∷ before) a b after) head (later (Pick n) ms ns before a b after (pair-behind ms ns before a b after i (cc h)))
