-- A peel: the configuration behind it, what is held in it, and its types.
use Rattle.std.proofs.Common.{◌≡◌, ◌≢◌, ◌⊎◌, ◌∙◌, inl, inr, refl, sym, ap, subst, suc, Bool, true, false, not, true≢false, [], ◌∷◌, Some, None, if◌then◌else◌}
use Rattle.campl_tree.specs.declared.service.Side.{Side}
use Rattle.campl_tree.specs.Side.{opposite}
use Rattle.campl_tree.specs.Plain.ChanType.{ChanType}
use Rattle.campl_tree.specs.Plain.Decl.{Program}
use Rattle.campl_machine.specs.Names.{Path, Half, First, Second, End, Process, same_end}
use Rattle.campl_machine.specs.Machine.{Move, moved}
use Rattle.campl_machine.proofs.Same.{same_end-refl}
use Rattle.campl_machine.proofs.Updates.{split}
use Rattle.campl_machine.proofs.Ends.{apart, same-end}
use Rattle.campl_types.specs.World.{world_of}
use Rattle.campl_types.specs.Names.{Name, found}
use Rattle.campl_types.specs.Held.{Channel, On, with, only}
use Rattle.campl_peel.specs.Plugging.{stands_in, side_in, held_by_child, held_by_rest}
use Rattle.campl_peel.specs.Peel.{Peel}
use Rattle.campl_peel.specs.Terms.{Doing, left_behind, TermIsWellFormed, TermPeels, those, held_ends}
use Rattle.campl_meaning.specs.States.{Message, Running, State, Runs}
use Rattle.campl_meaning.specs.Wants.{born, child, half_on}
use Rattle.campl_meaning.specs.Reductions.{Configuration}
use Rattle.campl_meaning.specs.Views.{view_in}
use Rattle.campl_meaning.specs.Apart.{At, IsJoined}
use Rattle.campl_meaning.specs.Lawful.{Channels, IsTypedAt, Agree, Lawful}
use Rattle.campl_peel.proofs.Terms.{ends-with}
use Rattle.campl_types.proofs.Truth.{not-true}
use Rattle.campl_frame.proofs.Held.{own-place, own-found}
use Rattle.campl_frame.proofs.Listed.{lists, lists-found, found-listed, IsTidy, found-kept, found-still, not-kept, found-more, lists-first, lists-more, lists-later, tidy-those, tidy-more}
use Rattle.campl_meaning.proofs.Agreeing.{agree-turned}
use Rattle.campl_peel.proofs.Peeling.{none-or}
use Rattle.campl_frame.proofs.Stays.{same-held, agree-same}
use Rattle.campl_kept_births.proofs.Newborn.{halves-differ, born-differ, wire, born-fresh, born-idle, not-born, new-agree}

-- a process in a lawful configuration at a plug, and how it is peeled
pub record Peeling : Type 0 where
  pub source : Program
  pub c : Configuration
  pub l : Lawful source c
  pub p : Path
  pub r : Running
  pub there : c.nodes (Process p) ≡ Some (Runs r)
  pub q : Peel
  pub k : TermPeels (world_of source) (l.typed p r there).vars (held_ends l.channel r.ends) r.term q

module _ (it : Peeling) where
  open it use {source, c, l, p, r, there, q, k}

  abbrev pub x : Name
  x = q.link.name.name

  abbrev pub T : ChanType
  T = q.link.channel_type

  abbrev pub side : Side
  side = side_in q.header x

  abbrev pub mine : End
  mine = born p r 1 (half_on (opposite side))

  abbrev pub theirs : End
  theirs = born p r 1 (half_on side)

  abbrev pub goes : Name → Bool
  goes = stands_in q.header

  abbrev pub stays : Name → Bool
  stays y = not (stands_in q.header y)

  abbrev pub r2 : Running
  r2 = record { term = left_behind q; variables = r.variables; ends = (x, mine) ∷ those stays r.ends; steps = suc r.steps; spent = 0 }

  abbrev pub r3 : Running
  r3 = record { term = Doing q.body; variables = r.variables; ends = (x, theirs) ∷ those goes r.ends; steps = 0; spent = 0 }

  abbrev pub move : Move State Message
  move = record {
    send = None;
    channels = (born p r 1 First, born p r 1 Second) ∷ [];
    children = (child p r, Runs r3) ∷ [];
    next = Some (Runs r2);
  }

  abbrev pub d : Configuration
  d = moved c (Process p) move

  abbrev pub channel2 : Channels
  channel2 e = if same_end theirs e then Some (On side T) else if same_end mine e then Some (On (opposite side) T) else l.channel e

  -- The two new ends

  differ : theirs ≢ mine
  differ = born-differ p r 1 1 (half_on side) (half_on (opposite side)) (inr (halves-differ side))

  pub which : (e : End) → (e ≡ theirs) ⊎ ((e ≡ mine) ⊎ ((theirs ≢ e) × (mine ≢ e)))
  which e = elim (same-end e theirs) [
    | inl i ↦ inl i
    | inr n ↦ elim (same-end e mine) [
      | inl i ↦ inr (inl i)
      | inr m ↦ inr (inr ((λ i. n (sym i)), (λ i. m (sym i))))
    ]
  ]

  pub partner-theirs : d.partner theirs ≡ Some mine
  partner-theirs = wire p r 1 side c.partner theirs ∙ rw (same_end-refl theirs) refl

  pub partner-mine : d.partner mine ≡ Some theirs
  partner-mine = wire p r 1 side c.partner mine ∙ rw (apart theirs mine differ, same_end-refl mine) refl

  pub partner-old : (e : End) → theirs ≢ e → mine ≢ e → d.partner e ≡ c.partner e
  partner-old e n m = wire p r 1 side c.partner e ∙ rw (apart theirs e n, apart mine e m) refl

  pub channel-theirs : channel2 theirs ≡ Some (On side T)
  channel-theirs = rw (same_end-refl theirs) refl

  pub channel-mine : channel2 mine ≡ Some (On (opposite side) T)
  channel-mine = rw (apart theirs mine differ, same_end-refl mine) refl

  channel-old : (e : End) → theirs ≢ e → mine ≢ e → channel2 e ≡ l.channel e
  channel-old e n m = rw (apart theirs e n, apart mine e m) refl

  not-theirs : (e : End) → IsJoined c e → theirs ≢ e
  not-theirs e j i = not-born source c l p r there e 1 (half_on side) j (sym i)

  not-mine : (e : End) → IsJoined c e → mine ≢ e
  not-mine e j i = not-born source c l p r there e 1 (half_on (opposite side)) j (sym i)

  pub channel-joined : (e : End) → IsJoined c e → channel2 e ≡ l.channel e
  channel-joined e j = channel-old e (not-theirs e j) (not-mine e j)

  pub wired : (e f : End) → c.partner e ≡ Some f → d.partner e ≡ Some f
  wired e f i = partner-old e (not-theirs e (f, i)) (not-mine e (f, i)) ∙ i

  -- What is held

  tidy : IsTidy r.ends
  tidy = record { names = l.apart.placed.names p r there; once = λ y z e f g. l.apart.placed.ends p r y z e there f g }

  no-x : found x r.ends ≡ None
  no-x = elim (none-or (found x r.ends)) [
    | inl n ↦ n
    | inr (e, f) ↦
        let t : (ch : Channel) × (l.channel e ≡ Some ch) = l.has_type p e (r, x, there, f) in
        let h : held_ends l.channel r.ends x ≡ l.channel e = rw f refl in
        absurd (let no : Some t.0 ≡ None = sym t.1 ∙ (sym h ∙ k.new) in cc no)
  ]

  not-held : (keep : Name → Bool) (h : Half) (y : Name) → found y (those keep r.ends) ≢ Some (born p r 1 h)
  not-held keep h y i =
      let j : IsJoined c (born p r 1 h) = (own-place source c l p r there y (born p r 1 h) (found-kept keep r.ends y (born p r 1 h) i).1).1 in
      not-born source c l p r there (born p r 1 h) 1 h j refl

  pub tidy-mine : IsTidy r2.ends
  tidy-mine = tidy-more x mine (those stays r.ends) (tidy-those stays r.ends tidy) (not-kept stays r.ends x no-x) (not-held stays (half_on (opposite side)))

  pub tidy-theirs : IsTidy r3.ends
  tidy-theirs = tidy-more x theirs (those goes r.ends) (tidy-those goes r.ends tidy) (not-kept goes r.ends x no-x) (not-held goes (half_on side))

  in-mine : (e : End) → lists e r2.ends ≡ true → (e ≡ mine) ⊎ ((y : Name) × (stays y ≡ true) × (found y r.ends ≡ Some e))
  in-mine e i = elim (lists-more x mine (those stays r.ends) e i) [
    | inl j ↦ inl j
    | inr j ↦
        let (y, f) = found-listed e (those stays r.ends) (tidy-those stays r.ends tidy).names j in
        let g : (stays y ≡ true) × (found y r.ends ≡ Some e) = found-kept stays r.ends y e f in
        inr (y, g.0, g.1)
  ]

  in-theirs : (e : End) → lists e r3.ends ≡ true → (e ≡ theirs) ⊎ ((y : Name) × (goes y ≡ true) × (found y r.ends ≡ Some e))
  in-theirs e i = elim (lists-more x theirs (those goes r.ends) e i) [
    | inl j ↦ inl j
    | inr j ↦
        let (y, f) = found-listed e (those goes r.ends) (tidy-those goes r.ends tidy).names j in
        let g : (goes y ≡ true) × (found y r.ends ≡ Some e) = found-kept goes r.ends y e f in
        inr (y, g.0, g.1)
  ]

  kept : (e : End) (y : Name) → found y r.ends ≡ Some e → (lists e r3.ends ≡ true) ⊎ (lists e r2.ends ≡ true)
  kept e y f = elim (split (goes y)) [
    | inl g ↦ inl (lists-later x theirs (those goes r.ends) e (lists-found e (those goes r.ends) y (found-still goes r.ends y e g f)))
    | inr g ↦ inr (lists-later x mine (those stays r.ends) e (lists-found e (those stays r.ends) y (found-still stays r.ends y e (rw g refl) f)))
  ]

  -- an end that was held and is in neither list is none
  pub all-kept : (e : End) → IsJoined c e → l.place e ≡ At (Process p) → lists e r3.ends ≡ false → lists e r2.ends ≡ false → ⊥
  all-kept e j i a o =
      let (y, f) = own-found source c l p r there e j i in
      elim (kept e y f) [
        | inl g ↦ true≢false (sym g ∙ a)
        | inr g ↦ true≢false (sym g ∙ o)
      ]

  pub joined-still : (e : End) → IsJoined d e → lists e r3.ends ≡ false → lists e r2.ends ≡ false → IsJoined c e
  joined-still e (f, j) a o = elim (which e) [
    | inl i ↦ absurd (let t : lists e r3.ends ≡ true = subst (λ z. lists z r3.ends ≡ true) (sym i) (lists-first x theirs (those goes r.ends)) in true≢false (sym t ∙ a))
    | inr (inl i) ↦ absurd (let t : lists e r2.ends ≡ true = subst (λ z. lists z r2.ends ≡ true) (sym i) (lists-first x mine (those stays r.ends)) in true≢false (sym t ∙ o))
    | inr (inr (n, m)) ↦ (f, sym (partner-old e n m) ∙ j)
  ]

  pub own-joined : (e : End) → (lists e r3.ends ≡ true) ⊎ (lists e r2.ends ≡ true) → IsJoined d e
  own-joined e (inl i) = elim (in-theirs e i) [
    | inl j ↦ (mine, subst (λ z. d.partner z ≡ Some mine) (sym j) partner-theirs)
    | inr (y, g, f) ↦ let o : IsJoined c e = (own-place source c l p r there y e f).1 in (o.0, wired e o.0 o.1)
  ]
  own-joined e (inr i) = elim (in-mine e i) [
    | inl j ↦ (theirs, subst (λ z. d.partner z ≡ Some theirs) (sym j) partner-mine)
    | inr (y, g, f) ↦ let o : IsJoined c e = (own-place source c l p r there y e f).1 in (o.0, wired e o.0 o.1)
  ]

  pub own-free : (e : End) → (lists e r3.ends ≡ true) ⊎ (lists e r2.ends ≡ true) → (c.partner e ≡ None) ⊎ (l.place e ≡ At (Process p))
  own-free e (inl i) = elim (in-theirs e i) [
    | inl j ↦ inl (subst (λ z. c.partner z ≡ None) (sym j) (born-fresh source c l p r there 1 (half_on side)))
    | inr (y, g, f) ↦ inr (own-place source c l p r there y e f).0
  ]
  own-free e (inr i) = elim (in-mine e i) [
    | inl j ↦ inl (subst (λ z. c.partner z ≡ None) (sym j) (born-fresh source c l p r there 1 (half_on (opposite side))))
    | inr (y, g, f) ↦ inr (own-place source c l p r there y e f).0
  ]

  pub shared : (e : End) → lists e r3.ends ≡ true → lists e r2.ends ≡ true → ⊥
  shared e a o = elim (in-theirs e a) [
    | inl i ↦ elim (in-mine e o) [
      | inl j ↦ differ (sym i ∙ j)
      | inr (y, g, f) ↦ not-theirs e (own-place source c l p r there y e f).1 (sym i)
    ]
    | inr (z, u, v) ↦ elim (in-mine e o) [
      | inl j ↦ not-mine e (own-place source c l p r there z e v).1 (sym j)
      | inr (y, g, f) ↦
          let same : z ≡ y = tidy.once z y e v f in
          let t : goes y ≡ true = subst (λ n. goes n ≡ true) same u in
          true≢false (sym t ∙ not-true (goes y) g)
    ]
  ]

  -- Types

  same-ends : held_ends channel2 r.ends ≡ held_ends l.channel r.ends
  same-ends = same-held l.channel channel2 r.ends (λ y e f. channel-joined e (own-place source c l p r there y e f).1)

  pub each-of : (keep : Name → Bool) (end : End) (ch : Channel) → channel2 end ≡ Some ch → (y : Name) (e : End) → found y ((x, end) ∷ those keep r.ends) ≡ Some e → (n : Channel) × (channel2 e ≡ Some n)
  each-of keep end ch i y e f = elim (found-more x end (those keep r.ends) y e f) [
    | inl (a, o) ↦ (ch, ap channel2 o ∙ i)
    | inr g ↦
        let u : found y r.ends ≡ Some e = (found-kept keep r.ends y e g).1 in
        let t : (n : Channel) × (l.channel e ≡ Some n) = l.has_type p e (r, y, there, u) in
        (t.0, channel-joined e (own-place source c l p r there y e u).1 ∙ t.1)
  ]

  pub typed-mine : IsTypedAt (world_of source) channel2 r2
  typed-mine = record {
    vars = (l.typed p r there).vars;
    bound = (l.typed p r there).bound;
    term =
        let same : held_ends channel2 r2.ends ≡ held_by_rest q.header q.link (held_ends l.channel r.ends) =
        ends-with channel2 stays x mine r.ends
        ∙ (ap (λ z. with x z (only stays (held_ends channel2 r.ends))) channel-mine ∙ ap (λ z. with x (Some (On (opposite side) T)) (only stays z)) same-ends) in
        subst (λ z. TermIsWellFormed (world_of source) (l.typed p r there).vars z (left_behind q)) (sym same) k.rest;
  }

  pub typed-theirs : IsTypedAt (world_of source) channel2 r3
  typed-theirs = record {
    vars = (l.typed p r there).vars;
    bound = (l.typed p r there).bound;
    term =
        let same : held_ends channel2 r3.ends ≡ held_by_child q.header q.link (held_ends l.channel r.ends) =
        ends-with channel2 goes x theirs r.ends
        ∙ (ap (λ z. with x z (only goes (held_ends channel2 r.ends))) channel-theirs ∙ ap (λ z. with x (Some (On side T)) (only goes z)) same-ends) in
        subst (λ z. TermIsWellFormed (world_of source) (l.typed p r there).vars z (Doing q.body)) (sym same) k.child;
  }

  new-pair : Agree (world_of source) d channel2 theirs mine
  new-pair = new-agree (world_of source) d channel2 theirs mine side T channel-theirs channel-mine (born-idle source c l p r there 1 (half_on side)) (born-idle source c l p r there 1 (half_on (opposite side)))

  pub agree : (e f : End) → d.partner e ≡ Some f → Agree (world_of source) d channel2 e f
  agree e f i = elim (which e) [
    | inl j ↦
        let m : Some mine ≡ Some f = sym partner-theirs ∙ subst (λ z. d.partner z ≡ Some f) j i in
        let n : mine ≡ f = cc m in
        subst (λ z. Agree (world_of source) d channel2 z f) (sym j) (subst (λ z. Agree (world_of source) d channel2 theirs z) n new-pair)
    | inr (inl j) ↦
        let m : Some theirs ≡ Some f = sym partner-mine ∙ subst (λ z. d.partner z ≡ Some f) j i in
        let n : theirs ≡ f = cc m in
        subst (λ z. Agree (world_of source) d channel2 z f) (sym j) (subst (λ z. Agree (world_of source) d channel2 mine z) n (agree-turned (world_of source) d channel2 theirs mine new-pair))
    | inr (inr (n, m)) ↦
        let o : c.partner e ≡ Some f = sym (partner-old e n m) ∙ i in
        let b : c.partner f ≡ Some e = l.apart.placed.paired.back e f o in
        agree-same (world_of source) c d l.channel channel2 e f (ap view_in (channel-joined e (f, o))) (ap view_in (channel-joined f (e, b))) refl refl (l.agree e f o)
  ]
