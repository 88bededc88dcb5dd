-- A send appends to what the end owes, and a receipt takes the oldest letter off; both move the end's own type on, and keep a lawful
-- configuration lawful.
use Rattle.std.proofs.Common.{◌≡◌, ◌≢◌, ℕ, true, false, List, ◌∷◌, ◌++◌, sym, ap, subst, ◌∙◌, Option, Some, slice_get}
use Rattle.campl_tree.specs.declared.service.Side.{Side}
use Rattle.campl_tree.specs.Plain.SeqType.{SeqType}
use Rattle.campl_tree.specs.Plain.ChanType.{ChanType, TopBot}
use Rattle.campl_tree.specs.Plain.Decl.{Program}
use Rattle.campl_value.specs.Tree.{Tree}
use Rattle.campl_machine.specs.Names.{End, Who}
use Rattle.campl_machine.specs.Machine.{sent, taken}
use Rattle.campl_machine.proofs.Ends.{ne}
use Rattle.campl_types.specs.Names.{Name}
use Rattle.campl_types.specs.World.{World, world_of}
use Rattle.campl_types.specs.Polarity.{Puts, Gets, Splits, Picks, Offers, Choices, deed}
use Rattle.campl_types.specs.Views.{View, turned, deed_of}
use Rattle.campl_types.specs.Held.{Channel, On}
use Rattle.campl_meaning.specs.States.{Message, Word, Pick, EndPair, Running, Attending, State, Runs, Serves}
use Rattle.campl_meaning.specs.Reductions.{Configuration}
use Rattle.campl_meaning.specs.Views.{view_of, view_in, Takes, TakesAll}
use Rattle.campl_meaning.specs.Apart.{At, Gone}
use Rattle.campl_meaning.specs.Lawful.{seen, IsTypedAt, Agree, IsInPhase, Lawful}
use Rattle.campl_kept_messages.proofs.Takes.{TakesNone, none-taken, send-fits, putter, picker, puts-split-not, picks-split-not, word-given, word-taken, pick-given, pick-taken}
use Rattle.campl_kept_messages.proofs.Continues.{Continues, keeps_ends, gone_on}
use Rattle.campl_kept_messages.proofs.Letters.{IsLetter, pair-before, sent-here, sent-other, taken-here, taken-other, send-pairs, take-pairs}
use Rattle.campl_kept_messages.proofs.Frame.{renewed, new-here, new-other, touched}
use Rattle.campl_types.specs.Values.{IsValue}

-- the choice with this number
abbrev pub IsChoice : Choices → ℕ → Name → ChanType → Type 0
IsChoice cs k x y = slice_get cs k ≡ Some (x, y)

pub second-of : (cs : Choices) (k : ℕ) (z x : Name) (v y : ChanType) → IsChoice cs k z v → IsChoice cs k x y → v ≡ y
second-of cs k z x v y i j =
    let p : ◌≡◌ {A = Option (Name × ChanType)} (Some (z, v)) (Some (x, y)) = sym i ∙ j in
    let q : ◌≡◌ {A = Name × ChanType} (z, v) (x, y) = cc p in
    ap (λ (c : Name × ChanType). c.1) q

-- the message is a letter that a channel of type u on this side may send, and y remains
pub record MaySend (w : World) (s : Side) (u : ChanType) (m : Message) (y : ChanType) : Type 0 where
  pub letter : IsLetter m
  pub none : TakesNone w (view_of s u)
  pub no_split : (x z : ChanType) → deed_of w (view_of s u) ≡ Splits x z → ⊥
  pub given : Takes w (turned (view_of s u)) m (turned (view_of s y))

-- and one that it may take
pub record MayTake (w : World) (s : Side) (u : ChanType) (m : Message) (y : ChanType) : Type 0 where
  pub letter : IsLetter m
  pub next : (n : View) → Takes w (view_of s u) m n → n ≡ view_of s y

pub may-put : (w : World) (s : Side) (u : ChanType) (t : SeqType) (y : ChanType) (a : Tree) → deed w s u ≡ Puts t y → IsValue w a t → MaySend w s u (Word a) y
may-put w s u t y a i h = record {
  letter = tt;
  none = putter w s u t y i;
  no_split = puts-split-not w s u t y i;
  given = word-given w s u t y a i h;
}

pub may-pick : (w : World) (s : Side) (u : ChanType) (cs : Choices) (k : ℕ) (x : Name) (y : ChanType) → deed w s u ≡ Picks cs → IsChoice cs k x y → MaySend w s u (Pick k) y
may-pick w s u cs k x y i at = record {
  letter = tt;
  none = picker w s u cs i;
  no_split = picks-split-not w s u cs i;
  given = pick-given w s u cs k x y i at;
}

-- the message that lies ready at a receipt of a value is a value of its type
pub may-get : (w : World) (s : Side) (u : ChanType) (t : SeqType) (y : ChanType) (m : Message) (n : View) → deed w s u ≡ Gets t y → Takes w (view_of s u) m n → (a : Tree) × (m ≡ Word a) × IsValue w a t × MayTake w s u m y
may-get w s u t y m n i h =
    let (a, e, is, q) = word-taken w s u t y m n i h in (
      a,
      e,
      is,
      record {
        letter = subst IsLetter (sym e) tt;
        next = λ k g. let (b, j, js, r) = word-taken w s u t y m k i g in r;
      },
    )

pick-number : (j k : ℕ) → Pick j ≡ Pick k → j ≡ k
pick-number j k e = cc e

-- and at a receipt of a constructor it is the number of one that is offered
pub may-offer : (w : World) (s : Side) (u : ChanType) (cs : Choices) (m : Message) (n : View) → deed w s u ≡ Offers cs → Takes w (view_of s u) m n
    → (k : ℕ) × (x : Name) × (y : ChanType) × (m ≡ Pick k) × IsChoice cs k x y × MayTake w s u m y
may-offer w s u cs m n i h =
    let (k, x, y, e, at, q) = pick-taken w s u cs m n i h in (
      k,
      x,
      y,
      e,
      at,
      record {
        letter = subst IsLetter (sym e) tt;
        next = λ o g.
            let (j, z, v, f, get, r) = pick-taken w s u cs m o i g in
            let kj : j ≡ k = pick-number j k (sym f ∙ e) in
            let vy : v ≡ y = second-of cs k z x v y (subst (λ a. IsChoice cs a z v) kj get) at in
            r ∙ ap (view_of s) vy;
      },
    )

module _ (source : Program) (c : Configuration) (l : Lawful source c) (who : Who) (st st2 : State) (e f : End) (s : Side) (u y : ChanType) (m : Message)
    (is : c.nodes who ≡ Some st) (stands : l.place e ≡ At who) (joined : c.partner e ≡ Some f) (ce : l.channel e ≡ Some (On s u)) where
  abbrev w : World
  w = world_of source

  abbrev new : Channel
  new = On s y

  apart-f : e ≢ f
  apart-f k = l.apart.placed.paired.other e (subst (λ z. c.partner e ≡ Some z) (sym k) joined)

  seen-old : seen l.channel e ≡ view_of s u
  seen-old = ap view_in ce

  seen-new : seen (renewed e new l.channel) e ≡ view_of s y
  seen-new = ap view_in (new-here e new l.channel)

  seen-partner : seen (renewed e new l.channel) f ≡ seen l.channel f
  seen-partner = ap view_in (new-other e new l.channel f apart-f)

  -- an end that is held or served owes no pair
  owes-none : (a b : End) (before after : List Message) → c.owed e ≡ before ++ (EndPair a b ∷ after) → ⊥
  owes-none a b before after i =
      let g = l.pairs.given_up e a b before after i in
      let k : At who ≡ Gone = sym stands ∙ g.0 in
      cc k

  module _ (may : MaySend w s u m y) where
    after-send : Agree w (gone_on c who st2 (sent (Some (e, m)) c.owed)) (renewed e new l.channel) e f
    after-send =
        let a : Agree w c l.channel e f = l.agree e f joined in
        let mine : TakesAll w (view_of s u) (c.owed f) a.left = subst (λ v. TakesAll w v (c.owed f) a.left) seen-old a.mine in
        let (p, q) = send-fits w (view_of s u) (seen l.channel f) (view_of s y) m (c.owed f) (c.owed e) a.left may.none may.given mine a.yours in
        record {
          left = view_of s y;
          mine = rw (seen-new, sent-other c e m f apart-f) p;
          yours = rw (seen-partner, sent-here c e m) q;
        }

    pub send-lawful : Continues st st2 → (keeps_ends st2 ≡ false → (t : Side) × (new ≡ On t TopBot))
        → ((r : Running) → st2 ≡ Runs r → IsTypedAt w (renewed e new l.channel) r)
        → ((b : Attending) → st2 ≡ Serves b → IsInPhase (renewed e new l.channel) b) → Lawful source (gone_on c who st2 (sent (Some (e, m)) c.owed))
    send-lawful on closed typed phases = touched source c l who st st2 e f new (sent (Some (e, m)) c.owed) (record {
      is = is;
      on = on;
      stands = stands;
      joined = joined;
      same = send-pairs c e f m joined may.letter;
      only = λ a n k. sent-other c e m a n;
      closed = closed;
      typed = typed;
      phases = phases;
      fits = after-send;
      no_pair = λ a b before after i.
          let (rest, j) = pair-before (c.owed e) m before a b after may.letter (sym (sent-here c e m) ∙ i) in
          owes-none a b before rest j;
      pairs = λ a b before after i. (
        before,
        sym (sent-other c e m f apart-f) ∙ i,
        λ v x z h g.
            let (n, q) = none-taken w (view_of s u) may.none before v (subst (λ o. TakesAll w o before v) seen-old h) in
            absurd (may.no_split x z (ap (deed_of w) q ∙ g)),
      );
    })

  module _ (rest : List Message) (first : c.owed f ≡ m ∷ rest) (may : MayTake w s u m y) where
    after-take : Agree w (gone_on c who st2 (taken true f c.owed)) (renewed e new l.channel) e f
    after-take =
        let a : Agree w c l.channel e f = l.agree e f joined in
        let mine : TakesAll w (view_of s u) (m ∷ rest) a.left = subst (λ ms. TakesAll w (view_of s u) ms a.left) first (subst (λ v. TakesAll w v (c.owed f) a.left) seen-old a.mine) in
        let q : TakesAll w (view_of s y) rest a.left = subst (λ v. TakesAll w v rest a.left) (may.next mine.0 mine.1) mine.2 in
        record {
          left = a.left;
          mine = rw (seen-new, taken-here c f m rest first) q;
          yours = rw (seen-partner, taken-other c f e (ne e f apart-f)) a.yours;
        }

    pub take-lawful : Continues st st2 → (keeps_ends st2 ≡ false → (t : Side) × (new ≡ On t TopBot))
        → ((r : Running) → st2 ≡ Runs r → IsTypedAt w (renewed e new l.channel) r)
        → ((b : Attending) → st2 ≡ Serves b → IsInPhase (renewed e new l.channel) b) → Lawful source (gone_on c who st2 (taken true f c.owed))
    take-lawful on closed typed phases = touched source c l who st st2 e f new (taken true f c.owed) (record {
      is = is;
      on = on;
      stands = stands;
      joined = joined;
      same = take-pairs c f e m rest (l.apart.placed.paired.back e f joined) first may.letter;
      only = λ a n k. taken-other c f a k;
      closed = closed;
      typed = typed;
      phases = phases;
      fits = after-take;
      no_pair = λ a b before after i. owes-none a b before after (sym (taken-other c f e (ne e f apart-f)) ∙ i);
      pairs = λ a b before after i. (
        m ∷ before,
        first ∙ ap (λ ms. m ∷ ms) (sym (taken-here c f m rest first) ∙ i),
        λ v x z h g.
            let k : TakesAll w (view_of s u) (m ∷ before) v = subst (λ o. TakesAll w o (m ∷ before) v) seen-old h in
            subst (λ o. TakesAll w o before v) (may.next k.0 k.1) k.2,
      );
    })
