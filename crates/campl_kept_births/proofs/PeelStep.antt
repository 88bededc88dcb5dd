-- A peel keeps what is lawful.
use Rattle.std.proofs.Common.{◌≡◌, ◌≢◌, ◌⊎◌, ◌∙◌, inl, inr, refl, sym, ap, subst, ℕ, suc, Bool, true, true≢false, [], ◌∷◌, ◌++◌, Option, Some, None}
use Rattle.campl_tree.specs.declared.service.Side.{Side}
use Rattle.campl_tree.specs.Side.{opposite}
use Rattle.campl_tree.specs.Plain.ChanType.{ChanType}
use Rattle.campl_tree.specs.Plain.Process as b
use Rattle.campl_tree.specs.Plain.Decl.{Program}
use Rattle.campl_machine.specs.Names.{Path, First, Second, End, Process, same_end}
use Rattle.campl_machine.specs.Machine.{Lies, Move, Moves, both_ways, performs}
use Rattle.campl_machine.specs.Graph.{NoCycle}
use Rattle.campl_machine.specs.Changes as changes
use Rattle.campl_machine.proofs.Updates.{split}
use Rattle.campl_machine.proofs.Ends.{ne}
use Rattle.campl_machine.proofs.Partners.{births}
use Rattle.campl_machine.proofs.Shapes.{peel-forest}
use Rattle.campl_types.specs.World.{World, world_of}
use Rattle.campl_types.specs.Names.{Name, found}
use Rattle.campl_types.specs.Held.{Channel, On}
use Rattle.campl_peel.specs.Terms.{Term, Doing, Plugging, is_plug, peel_in, those, held_ends}
use Rattle.campl_meaning.specs.States.{Command, Message, Running, State, Runs}
use Rattle.campl_meaning.specs.Wants.{child, peels, term_command}
use Rattle.campl_meaning.specs.Reductions.{Configuration, act_of}
use Rattle.campl_meaning.specs.Views.{view_in}
use Rattle.campl_meaning.specs.Apart.{Place, At, IsJoined, IsNamed, Holder, node_of, graph}
use Rattle.campl_meaning.specs.Lawful.{Channels, IsTypedAt, Lawful}
use Rattle.campl_peel.proofs.Terms.{term-peels}
use Rattle.campl_frame.proofs.Listed.{some-is, lists, IsTidy, lists-first}
use Rattle.campl_meaning.proofs.Finite.{finite-of, finite-kept}
use Rattle.campl_peel.proofs.Peeling.{none-or}
use Rattle.campl_kept_births.proofs.Hands.{settled, Hands, at-other, at-own, at-kin, lawful-after}
use Rattle.campl_frame.proofs.Leaving.{ends-apart}
use Rattle.campl_kept_births.proofs.Masks.{masked, standing-some, standing-none, mask, unmask, at-holder, node-at}
use Rattle.campl_kept_births.proofs.Newborn.{names-kept, born-differ, born-fresh, no-child-yet, child-not, family, parent-there, child-there, others-there}
use Rattle.campl_kept_births.proofs.PeelEnds.{Peeling}
use Rattle.campl_kept_births.proofs.PeelEnds.{x as x_of, T as T_of, side as side_of, mine as mine_of, theirs as theirs_of, goes as goes_of, stays as stays_of, r2 as r2_of, r3 as r3_of, move as move_of, d as d_of, channel2 as channel2_of, which, partner-theirs, partner-mine, partner-old, channel-theirs, channel-mine, channel-joined, wired, tidy-mine, tidy-theirs, all-kept, joined-still, own-joined, own-free, shared, each-of, typed-mine, typed-theirs, agree}

module _ (it : Peeling) where
  open it use {source, c, l, p, r, there, q, k}

  abbrev x : Name
  x = x_of it

  abbrev T : ChanType
  T = T_of it

  abbrev side : Side
  side = side_of it

  abbrev mine : End
  mine = mine_of it

  abbrev theirs : End
  theirs = theirs_of it

  abbrev goes : Name → Bool
  goes = goes_of it

  abbrev stays : Name → Bool
  stays = stays_of it

  abbrev r2 : Running
  r2 = r2_of it

  abbrev r3 : Running
  r3 = r3_of it

  abbrev move : Move State Message
  move = move_of it

  abbrev d : Configuration
  d = d_of it

  abbrev channel2 : Channels
  channel2 = channel2_of it

  hands : Hands source c d l p r r2 (Some r3) None channel2 l.place
  hands = record {
    here = parent-there c.nodes (Process p) (Runs r2) ((child p r, Some (Runs r3)) ∷ []);
    born = λ s i. let j : r3 ≡ s = cc i in subst (λ (z : Running). d.nodes (child p r) ≡ Some (Runs z)) j (child-there c.nodes (Process p) (child p r) (Runs r2) (Runs r3) child-other);
    others = λ v s n i. others-there c.nodes (Process p) (child p r) (Runs r2) (Runs r3) s v n no-child i;
    whose = λ v s i. elim (family c.nodes (Process p) (child p r) (Runs r2) (Runs r3) v s i) [
      | inl a ↦ inl a
      | inr (inl a) ↦ inr (inl (r3, refl, a.0, a.1))
      | inr (inr a) ↦ inr (inr a)
    ];
    paired = births move.channels c.partner l.apart.placed.paired (born-differ p r 1 1 First Second (inr (λ z. cc z)), (λ z. z), (λ z. z), tt) fresh-both;
    wired = wired it;
    idle = λ e i. elim (which it e) [
      | inl j ↦ absurd (let no : Some mine ≡ None = sym (partner-theirs it) ∙ subst (λ z. d.partner z ≡ None) j i in cc no)
      | inr (inl j) ↦ absurd (let no : Some theirs ≡ None = sym (partner-mine it) ∙ subst (λ z. d.partner z ≡ None) j i in cc no)
      | inr (inr (n, m)) ↦ l.apart.placed.idle e (sym (partner-old it e n m) ∙ i)
    ];
    names = (tidy-mine it).names;
    once = (tidy-mine it).once;
    kin_names = λ s i. let j : r3 ≡ s = cc i in (subst (λ (z : Running). IsTidy z.ends) j (tidy-theirs it)).names;
    kin_once = λ s i. let j : r3 ≡ s = cc i in (subst (λ (z : Running). IsTidy z.ends) j (tidy-theirs it)).once;
    own_joined = own-joined it;
    own_free = λ e i. elim (own-free it e i) [ inl n ↦ inl n | inr n ↦ inr (inl n) ];
    shared = shared it;
    finite = finite-kept c (finite-of source c l) d (Process p) (Moves move) refl;
    rest_same = λ e j n. refl;
    rest_nowhere = λ e i j. l.apart.placed.nowhere e i;
    rest_at = λ e v j a o i.
        let b : IsJoined c e = joined-still it e j a o in
        (b, i, λ n. all-kept it e b (i ∙ ap At n) a o);
    rest_in = λ z e j a o i. l.apart.placed.carrier z e (joined-still it e j a o) i;
    rest_gone = λ e j a o i. inr (joined-still it e j a o, i);
    carried = λ z e i. inl (i, λ n. cc n);
    same_channel = λ e j n m. channel-joined it e j;
    typed = typed-mine it;
    kin_typed = λ s i. let j : r3 ≡ s = cc i in subst (IsTypedAt (world_of source) channel2) j (typed-theirs it);
    types = each-of it stays mine (On (opposite side) T) (channel-mine it);
    kin_types = λ s i. let j : r3 ≡ s = cc i in
        subst (λ (z : Running). (y : Name) (e : End) → found y z.ends ≡ Some e → (n : Channel) × (channel2 e ≡ Some n)) j (each-of it goes theirs (On side T) (channel-theirs it));
    agree = agree it;
    pairs = λ z a b before after i. inl (i, λ n. cc n);
    pair_seen = λ z a b y before after i n j. ap view_in (channel-joined it y (z, l.apart.placed.paired.back z y j));
  }
    where
      child-other : child p r ≢ Process p
      child-other = child-not p r

      no-child : c.nodes (child p r) ≡ None
      no-child = elim (none-or (c.nodes (child p r))) [ inl n ↦ n | inr (s, i) ↦ absurd (no-child-yet source c l p r there s i) ]

      fresh-both : (e : End) → Lies (both_ways move.channels) e → c.partner e ≡ None
      fresh-both e (inl i) = subst (λ z. c.partner z ≡ None) i (born-fresh source c l p r there 1 First)
      fresh-both e (inr (inl i)) = subst (λ z. c.partner z ≡ None) i (born-fresh source c l p r there 1 Second)
      fresh-both e (inr (inr i)) = absurd i

  -- Part 6

  abbrev place2 : End → Place
  place2 = settled p r r2 (Some r3) l.place

  place-mine : place2 mine ≡ At (Process p)
  place-mine = at-own source c d l p r r2 (Some r3) None channel2 l.place hands mine (lists-first x mine (those stays r.ends))

  place-theirs : place2 theirs ≡ At (child p r)
  place-theirs = at-kin source c d l p r r2 (Some r3) None channel2 l.place hands theirs (lists-first x theirs (those goes r.ends))

  others : (e : End) (o : Option End) → c.partner e ≡ o → mine ≢ e → theirs ≢ e →
      ((masked d place2).at e ≡ (masked c l.place).at e) ⊎ (((masked d place2).at e ≡ Some (Holder (child p r))) × ((masked c l.place).at e ≡ Some (Holder (Process p))))
  others e None i m n = inl (standing-none _ _ (partner-old it e n m ∙ i) ∙ sym (standing-none _ _ i))
  others e (Some f) i m n = elim (split (lists e r3.ends)) [
    | inl a ↦ inr (
      standing-some _ f _ (partner-old it e n m ∙ i) ∙ node-at _ e _ (child p r) (at-kin source c d l p r r2 (Some r3) None channel2 l.place hands e a),
      standing-some _ f _ i ∙ node-at _ e _ (Process p) (was-own (own-free it e (inl a))),
    )
    | inr a ↦ elim (split (lists e r2.ends)) [
      | inl b ↦ inl (
          (standing-some _ f _ (partner-old it e n m ∙ i) ∙ node-at _ e _ (Process p) (at-own source c d l p r r2 (Some r3) None channel2 l.place hands e b))
          ∙ sym (standing-some _ f _ i ∙ node-at _ e _ (Process p) (was-own (own-free it e (inr b))))
          )
      | inr b ↦ inl (
          (standing-some _ f _ (partner-old it e n m ∙ i) ∙ ap (λ z. node_of z e (c.owed e)) (at-other source c d l p r r2 (Some r3) None channel2 l.place hands e a b))
          ∙ sym (standing-some _ f _ i)
          )
    ]
  ]
    where
      was-own : (c.partner e ≡ None) ⊎ (l.place e ≡ At (Process p)) → l.place e ≡ At (Process p)
      was-own (inl j) = absurd (let no : None ≡ Some f = sym j ∙ i in cc no)
      was-own (inr j) = j

  no-node-yet : (e : End) (o : Option End) → c.partner e ≡ o → (masked c l.place).at e ≢ Some (Holder (child p r))
  no-node-yet e None i j = let no : None ≡ Some (Holder (child p r)) = sym (standing-none _ (node_of (l.place e) e (c.owed e)) i) ∙ j in cc no
  no-node-yet e (Some f) i j =
      let at : l.place e ≡ At (child p r) = at-holder (l.place e) e (c.owed e) (child p r) (sym (standing-some _ f _ i) ∙ j) in
      let (s, y, is, g) = l.apart.placed.holder (p ++ (record { step = suc r.steps; place = 1 } ∷ [])) e (f, i) at in
      no-child-yet source c l p r there (Runs s) is

  peel : changes.Peel (masked c l.place) (masked d place2) (Holder (Process p)) (Holder (child p r)) mine theirs
  peel = record {
    partner_n = partner-mine it;
    partner_k = partner-theirs it;
    at_n = standing-some _ theirs _ (partner-mine it) ∙ node-at _ mine _ (Process p) place-mine;
    at_k = standing-some _ mine _ (partner-theirs it) ∙ node-at _ theirs _ (child p r) place-theirs;
    apart = λ i. child-not p r (let j : child p r ≡ Process p = cc i in j);
    fresh = λ e. no-node-yet e (c.partner e) refl;
    partners = λ e n m. partner-old it e (ne e theirs m) (ne e mine n);
    others = λ e n m. others e (c.partner e) refl (ne e mine n) (ne e theirs m);
  }

  forest : NoCycle (graph d place2)
  forest = unmask d place2 (peel-forest same_end ends-apart (masked c l.place) (masked d place2) (Holder (Process p)) (Holder (child p r)) mine theirs peel (mask c l.place l.apart.forest))

  pub peel-lawful : IsNamed d → Lawful source d
  peel-lawful named = lawful-after source c d l p r r2 (Some r3) None channel2 l.place hands named forest

-- The step of a plug

plug-peels : (w : World) (p : Path) (r : Running) (i : ℕ) (term : Term) → is_plug term ≡ true → term_command w p r i term ≡ peels p r (peel_in term)
plug-peels w p r i (Plugging links parts) is = refl
plug-peels w p r i (Doing (b.Plug at links parts)) is = refl
plug-peels w p r i (Doing (b.Then a rest)) is = absurd (true≢false (sym is))
plug-peels w p r i (Doing (b.Halt at x)) is = absurd (true≢false (sym is))
plug-peels w p r i (Doing (b.Hcase at x rows)) is = absurd (true≢false (sym is))
plug-peels w p r i (Doing (b.Fork at x y one z two)) is = absurd (true≢false (sym is))
plug-peels w p r i (Doing (b.Race at rows)) is = absurd (true≢false (sym is))
plug-peels w p r i (Doing (b.Case at a rows)) is = absurd (true≢false (sym is))
plug-peels w p r i (Doing (b.Identity at x negated y)) is = absurd (true≢false (sym is))
plug-peels w p r i (Doing (b.Call at x args inputs outputs)) is = absurd (true≢false (sym is))

-- the step of a process whose term is a plug keeps what is lawful
pub peel-kept : (source : Program) (c a : Configuration) (p : Path) (r : Running) (i : ℕ) → Lawful source c → c.nodes (Process p) ≡ Some (Runs r) → is_plug r.term ≡ true
    → performs c (Process p) (act_of (world_of source) (Process p) (Runs r) i) ≡ Some a → Lawful source a
peel-kept source c a p r i l there is e =
    let t : IsTypedAt (world_of source) l.channel r = l.typed p r there in
    let (q, k) = term-peels (world_of source) t.vars (held_ends l.channel r.ends) r.term t.term is in
    let act : term_command (world_of source) p r i r.term ≡ peels p r (Some q) = plug-peels (world_of source) p r i r.term is ∙ ap (peels p r) k.peels in
    let f : performs c (Process p) (peels p r (Some q)).act ≡ Some a = subst (λ (z : Command). performs c (Process p) z.act ≡ Some a) act e in
    subst (λ z. IsNamed z → Lawful source z) (some-is _ _ f) (peel-lawful (record { source = source; c = c; l = l; p = p; r = r; there = there; q = q; k = k })) (names-kept source c a p r i l there e)
