-- What views take, and what a send or a receipt makes of the views of two partners.
use Rattle.std.proofs.Common.{◌≡◌, ◌≢◌, ◌∙◌, refl, sym, ap, subst, ℕ, zero, suc, List, [], ◌∷◌, ◌++◌, Option, Some, slice_get}
use Rattle.campl_tree.specs.declared.service.Side.{Side}
use Rattle.campl_tree.specs.declared.service.Side.TheVariants.{Input, Output}
use Rattle.campl_tree.specs.Side.{opposite}
use Rattle.campl_tree.specs.Plain.SeqType.{SeqType}
use Rattle.campl_tree.specs.Plain.ChanType.{ChanType, Put, Get, Tensor, Par, TopBot, Neg, Named}
use Rattle.campl_value.specs.Tree.{Tree}
use Rattle.campl_types.specs.Names.{Name}
use Rattle.campl_types.specs.SameType.{bare, bare_chan}
use Rattle.campl_types.specs.World.{World}
use Rattle.campl_types.specs.Polarity.{Deed, Puts, Gets, Splits, Picks, Offers, IsLinked, Choices, deed, bare_choices, bare_deed}
use Rattle.campl_types.specs.Views as v
use Rattle.campl_types.specs.Views.{View, As, Nothing, turned, deed_of, side_of}
use Rattle.campl_types.proofs.Turned.{view-turned, answered, deed-turned}
use Rattle.campl_meaning.specs.States.{Message, Word, Pick, EndPair}
use Rattle.campl_meaning.specs.Views.{view_of, taken_at, Takes, TakesAll}
use Rattle.campl_types.specs.Values.{IsValue}
use Rattle.campl_frame.proofs.Stays.{takes-more}
use Rattle.campl_types.proofs.Bare.{deed-bare, puts-of, gets-of, picks-of, offers-of}
use Rattle.campl_types.proofs.SameValue.{value-of-same}

-- a channel at which anything may be done but an identity is its own view
pub plain : (w : World) (s : Side) (u : ChanType) → deed w s u ≢ IsLinked → view_of s u ≡ As s (bare_chan u)
plain w s (Put t x) h = refl
plain w s (Get t x) h = refl
plain w s (Tensor x y) h = refl
plain w s (Par x y) h = refl
plain w s TopBot h = refl
plain w Input (Neg x) h = absurd (h refl)
plain w Output (Neg x) h = absurd (h refl)
plain w s (Named at x ts) h = refl

pub view-opposite : (s : Side) (x y : ChanType) → bare_chan x ≡ bare_chan y → turned (view_of s x) ≡ view_of (opposite s) y
view-opposite s x y e = sym (view-turned s (bare_chan x)) ∙ ap (v.view_of (opposite s)) e

-- Sends

-- a view that takes no message
abbrev pub TakesNone : World → View → Type 0
TakesNone w a = (m : Message) (n : View) → Takes w a m n → ⊥

pub none-taken : (w : World) (a : View) → TakesNone w a → (ms : List Message) (u : View) → TakesAll w a ms u → (ms ≡ []) × (a ≡ u)
none-taken w a h [] u e = (refl, e)
none-taken w a h (m ∷ ms) u (n, t, k) = absurd (h m n t)

-- after a send the sender sees what is left, and its partner takes what is owed up to that
pub send-fits : (w : World) (a f next : View) (m : Message) (mine yours : List Message) (left : View)
    → TakesNone w a → Takes w (turned a) m (turned next) → TakesAll w a mine left → TakesAll w f yours (turned left)
    → TakesAll w next mine next × TakesAll w f (yours ++ (m ∷ [])) (turned next)
send-fits w a f next m mine yours left h t j k =
    let (e, q) = none-taken w a h mine left j in (
      subst (λ ms. TakesAll w next ms next) (sym e) refl,
      takes-more w f yours (m ∷ []) (turned left) (turned next) k (turned next, subst (λ z. Takes w (turned z) m (turned next)) q t, refl),
    )

-- By deeds

by-deed : (w : World) (s : Side) (x : ChanType) (d : Deed) (m : Message) (n : View) → deed w s x ≡ d → taken_at w s d m n → Takes w (As s x) m n
by-deed w s x d m n i h = subst (λ e. taken_at w s e m n) (sym i) h

of-deed : (w : World) (s : Side) (x : ChanType) (d : Deed) (m : Message) (n : View) → deed w s x ≡ d → Takes w (As s x) m n → taken_at w s d m n
of-deed w s x d m n i h = subst (λ e. taken_at w s e m n) i h

abbrev Choice : Type 0
Choice = Name × ChanType

one-choice : (c d : Choice) (x : Name) (y : ChanType) → c.0 ≡ d.0 → bare_chan c.1 ≡ bare_chan d.1 → ◌≡◌ {A = Option Choice} (Some c) (Some (x, y)) → (z : ChanType) × (◌≡◌ {A = Option Choice} (Some d) (Some (x, z))) × (bare_chan y ≡ bare_chan z)
one-choice c d x y i j e =
    let q : ◌≡◌ {A = Choice} c (x, y) = cc e in
    let p : d.0 ≡ x = sym i ∙ ap (λ (z : Choice). z.0) q in
    (d.1, (λ k. Some (p k, d.1)), sym (ap (λ (z : Choice). bare_chan z.1) q) ∙ j)

heads : (b c : Choice) (bs cs : Choices) → ◌≡◌ {A = Choices} (b ∷ bs) (c ∷ cs) → (b.0 ≡ c.0) × (b.1 ≡ c.1) × (bs ≡ cs)
heads b c bs cs e =
    let q : ◌≡◌ {A = Choice} b c = cc e in
    (ap (λ (z : Choice). z.0) q, ap (λ (z : Choice). z.1) q, cc e)

same-choice : (bs cs : Choices) → bare_choices bs ≡ bare_choices cs → (k : ℕ) (x : Name) (y : ChanType) → slice_get bs k ≡ Some (x, y) → (z : ChanType) × (slice_get cs k ≡ Some (x, z)) × (bare_chan y ≡ bare_chan z)
same-choice [] cs e k x y at = absurd (cc at)
same-choice (b ∷ bs) [] e k x y at = absurd (cc e)
same-choice (b ∷ bs) (c ∷ cs) e zero x y at = let (i, j, l) = heads (b.0, bare_chan b.1) (c.0, bare_chan c.1) (bare_choices bs) (bare_choices cs) e in one-choice b c x y i j at
same-choice (b ∷ bs) (c ∷ cs) e (suc k) x y at = let (i, j, l) = heads (b.0, bare_chan b.1) (c.0, bare_chan c.1) (bare_choices bs) (bare_choices cs) e in same-choice bs cs l k x y at

module _ (w : World) (s : Side) (u : ChanType) where
  bare-puts : (t : SeqType) (y : ChanType) → deed w s u ≡ Puts t y → (r : SeqType) × (x : ChanType) × (deed w s (bare_chan u) ≡ Puts r x) × (bare r ≡ bare t) × (bare_chan x ≡ bare_chan y)
  bare-puts t y i = puts-of (deed w s (bare_chan u)) (bare t) (bare_chan y) (sym (deed-bare w s u) ∙ ap bare_deed i)

  bare-gets : (t : SeqType) (y : ChanType) → deed w s u ≡ Gets t y → (r : SeqType) × (x : ChanType) × (deed w s (bare_chan u) ≡ Gets r x) × (bare r ≡ bare t) × (bare_chan x ≡ bare_chan y)
  bare-gets t y i = gets-of (deed w s (bare_chan u)) (bare t) (bare_chan y) (sym (deed-bare w s u) ∙ ap bare_deed i)

  bare-picks : (cs : Choices) → deed w s u ≡ Picks cs → (bs : Choices) × (deed w s (bare_chan u) ≡ Picks bs) × (bare_choices bs ≡ bare_choices cs)
  bare-picks cs i = picks-of (deed w s (bare_chan u)) (bare_choices cs) (sym (deed-bare w s u) ∙ ap bare_deed i)

  bare-offers : (cs : Choices) → deed w s u ≡ Offers cs → (bs : Choices) × (deed w s (bare_chan u) ≡ Offers bs) × (bare_choices bs ≡ bare_choices cs)
  bare-offers cs i = offers-of (deed w s (bare_chan u)) (bare_choices cs) (sym (deed-bare w s u) ∙ ap bare_deed i)

  -- what gives a value takes nothing
  pub putter : (t : SeqType) (y : ChanType) → deed w s u ≡ Puts t y → TakesNone w (view_of s u)
  putter t y i m n h =
      let (r, x, j, p, q) = bare-puts t y i in
      of-deed w s (bare_chan u) (Puts r x) m n j (subst (λ z. Takes w z m n) (plain w s u (λ k. cc (i, k))) h)

  pub picker : (cs : Choices) → deed w s u ≡ Picks cs → TakesNone w (view_of s u)
  picker cs i m n h =
      let (bs, j, p) = bare-picks cs i in
      of-deed w s (bare_chan u) (Picks bs) m n j (subst (λ z. Takes w z m n) (plain w s u (λ k. cc (i, k))) h)

  -- nor does it stand at a split
  pub puts-split-not : (t : SeqType) (y : ChanType) → deed w s u ≡ Puts t y → (a b : ChanType) → deed_of w (view_of s u) ≡ Splits a b → ⊥
  puts-split-not t y i a b h =
      let (r, x, j, p, q) = bare-puts t y i in
      let k : deed_of w (view_of s u) ≡ deed w s (bare_chan u) = ap (deed_of w) (plain w s u (λ k. cc (i, k))) in
      let e : Puts r x ≡ Splits a b = sym j ∙ (sym k ∙ h) in
      cc e

  pub picks-split-not : (cs : Choices) → deed w s u ≡ Picks cs → (a b : ChanType) → deed_of w (view_of s u) ≡ Splits a b → ⊥
  picks-split-not cs i a b h =
      let (bs, j, p) = bare-picks cs i in
      let k : deed_of w (view_of s u) ≡ deed w s (bare_chan u) = ap (deed_of w) (plain w s u (λ k. cc (i, k))) in
      let e : Picks bs ≡ Splits a b = sym j ∙ (sym k ∙ h) in
      cc e

  -- a value that is given is taken on the other side
  pub word-given : (t : SeqType) (y : ChanType) (a : Tree) → deed w s u ≡ Puts t y → IsValue w a t → Takes w (turned (view_of s u)) (Word a) (turned (view_of s y))
  word-given t y a i h =
      let (r, x, j, p, q) = bare-puts t y i in
      subst (λ z. Takes w (turned z) (Word a) (turned (view_of s y))) (sym (plain w s u (λ k. cc (i, k))))
      (by-deed w (opposite s) (bare_chan u) (Gets r x) (Word a) (turned (view_of s y)) (deed-turned w s (bare_chan u) ∙ ap answered j)
      (value-of-same w a t r (sym p) h, view-opposite s y x (sym q)))

  -- and what is taken is a value
  pub word-taken : (t : SeqType) (y : ChanType) (m : Message) (n : View) → deed w s u ≡ Gets t y → Takes w (view_of s u) m n → (a : Tree) × (m ≡ Word a) × IsValue w a t × (n ≡ view_of s y)
  word-taken t y m n i h =
      let (r, x, j, p, q) = bare-gets t y i in
      go r x p q m (of-deed w s (bare_chan u) (Gets r x) m n j (subst (λ z. Takes w z m n) (plain w s u (λ k. cc (i, k))) h))
    where
      go : (r : SeqType) (x : ChanType) → bare r ≡ bare t → bare_chan x ≡ bare_chan y → (m : Message) → taken_at w s (Gets r x) m n → (a : Tree) × (m ≡ Word a) × IsValue w a t × (n ≡ view_of s y)
      go r x p q (Word a) (g, e) = (a, refl, value-of-same w a r t p g, e ∙ ap (v.view_of s) q)
      go r x p q (Pick k) g = absurd g
      go r x p q (EndPair e f) g = absurd g

  -- a row that is picked is taken on the other side
  pub pick-given : (cs : Choices) (k : ℕ) (x : Name) (y : ChanType) → deed w s u ≡ Picks cs → slice_get cs k ≡ Some (x, y) → Takes w (turned (view_of s u)) (Pick k) (turned (view_of s y))
  pick-given cs k x y i at =
      let (bs, j, p) = bare-picks cs i in
      let (z, get, e) = same-choice cs bs (sym p) k x y at in
      subst (λ z. Takes w (turned z) (Pick k) (turned (view_of s y))) (sym (plain w s u (λ k. cc (i, k))))
      (by-deed w (opposite s) (bare_chan u) (Offers bs) (Pick k) (turned (view_of s y)) (deed-turned w s (bare_chan u) ∙ ap answered j)
      (x, z, get, view-opposite s y z e))

  pub pick-taken : (cs : Choices) (m : Message) (n : View) → deed w s u ≡ Offers cs → Takes w (view_of s u) m n
      → (k : ℕ) × (x : Name) × (y : ChanType) × (m ≡ Pick k) × (slice_get cs k ≡ Some (x, y)) × (n ≡ view_of s y)
  pick-taken cs m n i h =
      let (bs, j, p) = bare-offers cs i in
      go bs p m (of-deed w s (bare_chan u) (Offers bs) m n j (subst (λ z. Takes w z m n) (plain w s u (λ k. cc (i, k))) h))
    where
      go : (bs : Choices) → bare_choices bs ≡ bare_choices cs → (m : Message) → taken_at w s (Offers bs) m n → (k : ℕ) × (x : Name) × (y : ChanType) × (m ≡ Pick k) × (slice_get cs k ≡ Some (x, y)) × (n ≡ view_of s y)
      go bs p (Word a) g = absurd g
      go bs p (Pick k) (x, z, get, e) = let (y, at, same) = same-choice bs cs p k x z get in (k, x, y, refl, at, e ∙ ap (v.view_of s) same)
      go bs p (EndPair e f) g = absurd g
