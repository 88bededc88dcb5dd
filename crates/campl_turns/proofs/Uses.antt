-- What a step's entry tells of its change, and which ends are in use behind it.
use Rattle.std.proofs.Common.{◌≡◌, ◌⊎◌, inl, inr, ℕ, Bool, true, false, List, [], ◌∷◌, Option, Some, None, IsSome, option_map, if◌then◌else◌, eqb, refl, sym, subst}
use Rattle.campl_code.specs.Instructions.{Code}
use Rattle.campl_code_bodies.specs.Commands.{CodeCommand}
use Rattle.campl_code_bodies.specs.Running.{CodeConfiguration}
use Rattle.campl_machine.specs.Names.{Who}
use Rattle.campl_cells.specs.Parts.{Mail, Parts, Tip, far, near, or_bare, owner, written}
use Rattle.campl_cells.specs.Wants as w
use Rattle.campl_cells.specs.Wants.{Drawn, Next, Start, Want}
use Rattle.campl_cells.specs.Steps.{Change, borne, by_want, child_number, first_of, joined_to, linked, links_at, looked, looks_in, moved, second_of, sent}
use Rattle.campl_cells.specs.Stands.{Naming, StandsFor}
use Rattle.campl_cells.specs.Local.{InHand, IsEndOf, IsNewEnd, IsOnTheWay}
use Rattle.campl_cells.proofs.Alike.{FewChannels, SendWithin, WantAs}
use Rattle.campl_cells.proofs.Nearby.{change-lies}
use Rattle.campl_cells.proofs.Puts.{written-append, written-from, written-keeps, written-lies}
use Rattle.campl_cells.proofs.Tips.{owner-there}
use Rattle.campl_cells.proofs.Together.{tips-of}
use Rattle.campl_meaning.specs.States.{Kind}

-- the channels that are born
abbrev pub channels_of : Want → List ℕ
channels_of w.Rests = []
channels_of (w.Moves kind end v) = v.channels
channels_of (w.Looks kind takes e f) = []
channels_of (w.Links x y) = []

-- how a child begins
abbrev pub start_of : Want → Option Start
start_of w.Rests = None
start_of (w.Moves kind end v) = v.child
start_of (w.Looks kind takes e f) = None
start_of (w.Links x y) = None

-- an entry has the numbers of what the change bears, and weighs 1
pub record Tells (p : ℕ) (d : Drawn) (o : Want) (change : Change) : Type 0 where
  pub process : change.entry.process ≡ p
  pub weight : change.entry.weight ≡ 1
  pub child : change.entry.child ≡ child_number d change.child
  pub start : change.child ≡ start_of o
  pub channel : change.entry.channel ≡ first_of (channels_of o)
  pub channel2 : change.entry.channel2 ≡ second_of (channels_of o)

module _ (tip : ℕ → Option Tip) (d : Drawn) (p : ℕ) where
  module _ (kind : Kind) (takes : Bool) (e : ℕ) (f : Mail → Option Next) where
    looked-tells : (peer : ℕ) (mail : Mail) (rest : List Mail) (o : Option Next) (change : Change) → option_map (looked p kind takes e (Some peer) mail rest) o ≡ Some change → Tells p d (w.Looks kind takes e f) change
    looked-tells peer mail rest None change q = absurd (cc q)
    looked-tells peer mail rest (Some next) change q =
        let s : looked p kind takes e (Some peer) mail rest next ≡ change = cc q in
        subst (Tells p d (w.Looks kind takes e f)) s (record { process = refl; weight = refl; child = refl; start = refl; channel = refl; channel2 = refl })

    looks-tells : (o : Option ℕ) (inbox : List Mail) (change : Change) → looks_in p kind takes e f o inbox ≡ Some change → Tells p d (w.Looks kind takes e f) change
    looks-tells None inbox change q = absurd (cc q)
    looks-tells (Some peer) [] change q = absurd (cc q)
    looks-tells (Some peer) (mail ∷ rest) change q = looked-tells peer mail rest (f mail) change q

  module _ (x y : ℕ) where
    linked-tells : (x2 y2 : ℕ) (a b : Bool) (change : Change) → (if a then None else if b then None else Some (linked tip p x y x2 y2)) ≡ Some change → Tells p d (w.Links x y) change
    linked-tells x2 y2 true b change q = absurd (cc q)
    linked-tells x2 y2 false true change q = absurd (cc q)
    linked-tells x2 y2 false false change q =
        let s : linked tip p x y x2 y2 ≡ change = cc q in
        subst (Tells p d (w.Links x y)) s (record { process = refl; weight = refl; child = refl; start = refl; channel = refl; channel2 = refl })

    links-tells : (o r : Option ℕ) (change : Change) → links_at tip p x y o r ≡ Some change → Tells p d (w.Links x y) change
    links-tells None r change q = absurd (cc q)
    links-tells (Some x2) None change q = absurd (cc q)
    links-tells (Some x2) (Some y2) change q = linked-tells x2 y2 (eqb x y) (eqb x2 y) change q

  pub tells : (o : Want) (change : Change) → by_want tip d p o ≡ Some change → Tells p d o change
  tells w.Rests change q = absurd (cc q)
  tells (w.Moves kind end v) change q =
      let s : moved tip d p kind end v ≡ change = cc q in
      subst (Tells p d (w.Moves kind end v)) s (record { process = refl; weight = refl; child = refl; start = refl; channel = refl; channel2 = refl })
  tells (w.Looks kind takes e f) change q = looks-tells kind takes e f (or_bare (tip e)).peer (or_bare (tip e)).inbox change q
  tells (w.Links x y) change q = links-tells x y (or_bare (tip x)).peer (or_bare (tip y)).peer change q

-- Ends that are born

ends-written : (cs : List ℕ) (f : ℕ → Option Tip) (k : ℕ) → IsEndOf cs k → IsSome (written (borne cs) f k)
ends-written [] f k h = absurd h
ends-written (c ∷ cs) f k h = subst (λ (g : ℕ → Option Tip). IsSome (g k)) (sym (written-append (borne cs) last f)) (go (ends-written cs (written last f) k) h)
  where
    last : List (ℕ × Tip)
    last = (far c, joined_to (near c)) ∷ (near c, joined_to (far c)) ∷ []

    go : (IsEndOf cs k → IsSome (written (borne cs) (written last f) k)) → IsEndOf (c ∷ cs) k → IsSome (written (borne cs) (written last f) k)
    go more (inl e) = written-keeps (borne cs) (written last f) k (written-lies last f k (inr (inl e)))
    go more (inr (inl e)) = written-keeps (borne cs) (written last f) k (written-lies last f k (inl e))
    go more (inr (inr h)) = more h

pub born-in-use : (tip : ℕ → Option Tip) (d : Drawn) (p : ℕ) (o : Want) (change : Change) → by_want tip d p o ≡ Some change → (k : ℕ) → IsEndOf (channels_of o) k → IsSome (written change.ends tip k)
born-in-use tip d p w.Rests change q k h = absurd h
born-in-use tip d p (w.Moves kind end v) change q k h =
    let s : moved tip d p kind end v ≡ change = cc q in
    let there = written-keeps (sent v.send tip) (written (borne v.channels) tip) k (ends-written v.channels tip k h) in
    subst (λ (x : Change). IsSome (written x.ends tip k)) s (subst (λ (g : ℕ → Option Tip). IsSome (g k)) (sym (written-append (sent v.send tip) (borne v.channels) tip)) there)
born-in-use tip d p (w.Looks kind takes e f) change q k h = absurd h
born-in-use tip d p (w.Links x y) change q k h = absurd h

-- channels that are born have the drawn numbers
pub few-born : (code : Code) (n : Naming) (tip : ℕ → Option Tip) (d : Drawn) (who : Who) (steps : ℕ) (o : Want) (x : CodeCommand) → WantAs code n tip d who steps o x → FewChannels d (channels_of o)
few-born code n tip d who steps w.Rests x a = tt
few-born code n tip d who steps (w.Moves kind end v) x a = a.few
few-born code n tip d who steps (w.Looks kind takes e f) x a = tt
few-born code n tip d who steps (w.Links y z) x a = tt

module _ (code : Code) (n : Naming) (m : Parts) (c : CodeConfiguration) (z : StandsFor code n m c) (d : Drawn) where
  owned : (e : ℕ) → IsSome (m.tip e) → IsSome (m.tip (owner m.tip e))
  owned = owner-there n.end m.tip c.partner c.owed (tips-of code n m c z)

  on-the-way : (New : ℕ → Type 0) (o : Option (ℕ × Mail)) (k : ℕ) → SendWithin (λ e. IsSome (m.tip e)) New o → IsOnTheWay m.tip o k → IsSome (m.tip k)
  on-the-way New None k h l = absurd l
  on-the-way New (Some s) k h (inl e) = subst (λ k. IsSome (m.tip k)) e h.0
  on-the-way New (Some s) k h (inr e) = subst (λ k. IsSome (m.tip k)) e (owned s.0 h.0)

  -- what is in hand is in use
  in-hand : (n2 : Naming) (who : Who) (steps : ℕ) (o : Want) (x : CodeCommand) → WantAs code n2 m.tip d who steps o x → (k : ℕ) → InHand m.tip o k → IsSome (m.tip k)
  in-hand n2 who steps w.Rests x a k h = absurd h
  in-hand n2 who steps (w.Moves kind end v) x a k h = on-the-way _ v.send k a.sending h
  in-hand n2 who steps (w.Looks kind takes e f) x a k h = subst (λ k. IsSome (m.tip k)) h a.there
  in-hand n2 who steps (w.Links y z) x a k (inl e) = subst (λ k. IsSome (m.tip k)) e a.there_x
  in-hand n2 who steps (w.Links y z) x a k (inr (inl e)) = subst (λ k. IsSome (m.tip k)) e a.there_y
  in-hand n2 who steps (w.Links y z) x a k (inr (inr (inl e))) = subst (λ k. IsSome (m.tip k)) e (owned y a.there_x)
  in-hand n2 who steps (w.Links y z) x a k (inr (inr (inr e))) = subst (λ k. IsSome (m.tip k)) e (owned z a.there_y)

  new-of : (o : Want) (k : ℕ) → IsNewEnd o k → IsEndOf (channels_of o) k
  new-of w.Rests k h = absurd h
  new-of (w.Moves kind end v) k h = h
  new-of (w.Looks kind takes e f) k h = absurd h
  new-of (w.Links y z) k h = absurd h

  -- what is in use behind a step was in use, or is born
  pub was-in-use : (n2 : Naming) (who : Who) (p steps : ℕ) (o : Want) (x : CodeCommand) (change : Change) → WantAs code n2 m.tip d who steps o x → by_want m.tip d p o ≡ Some change →
      (k : ℕ) → IsSome (written change.ends m.tip k) → IsSome (m.tip k) ⊎ IsEndOf (channels_of o) k
  was-in-use n2 who p steps o x change a changes k h = elim (written-from change.ends m.tip k h) [
    | inl old ↦ inl old
    | inr l ↦ elim (change-lies m.tip d p k o change changes l) [
      | inl hand ↦ inl (in-hand n2 who steps o x a k hand)
      | inr new ↦ inr (new-of o k new)
    ]
  ]
