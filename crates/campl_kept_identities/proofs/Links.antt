-- An identity keeps a configuration lawful.
use Rattle.std.proofs.Common.{◌≡◌, ◌≢◌, Bool, false, List, [], ◌∷◌, ◌++◌, ◌⊎◌, inl, inr, refl, sym, ap, subst, ◌∙◌, Some, None, if◌then◌else◌}
use Rattle.campl_tree.specs.Plain.Decl.{Program}
use Rattle.campl_machine.specs.Names.{End, Who, Process, same_end}
use Rattle.campl_machine.specs.Graph.{Graph, NoCycle}
use Rattle.campl_machine.proofs.Ends.{Off}
use Rattle.campl_machine.proofs.IdentityForest.{identity-forest}
use Rattle.campl_machine.proofs.Shapes.{gives-up-forest}
use Rattle.campl_types.specs.World.{World, world_of}
use Rattle.campl_types.specs.Views.{turned}
use Rattle.campl_types.proofs.Turned.{turned-twice}
use Rattle.campl_meaning.specs.States.{Message, EndPair, State, Runs}
use Rattle.campl_meaning.specs.Reductions.{Configuration}
use Rattle.campl_meaning.specs.Apart.{Place, At, In, Gone, IsCarried, IsJoined, IsNamed, Node, Holder, Pair, node_of, graph, owes_pair}
use Rattle.campl_meaning.specs.Lawful.{seen, Agree, IsPairOf, Lawful}
use Rattle.campl_meaning.proofs.Agreeing.{agree-turned}
use Rattle.campl_meaning.proofs.Pairs.{carried-right, none-carried}
use Rattle.campl_frame.specs.Frame.{IsSpent, IsGoodPair, IsLocal}
use Rattle.campl_frame.proofs.Leaving.{ends-apart, leaving, sorts, stays-put, goes-unkept, was-put, was-gone, no-pair}
use Rattle.campl_frame.proofs.Stays.{agree-same, filled}
use Rattle.campl_frame.proofs.Frame.{local-lawful}
use Rattle.campl_kept_identities.proofs.Pairs.{LiesBehind, pair-behind, owes-behind, carried-behind}
use Rattle.campl_kept_identities.proofs.Around.{Went, Stayed, Left, FarX, FarY, Kept, IsAround}
use Rattle.campl_kept_identities.proofs.Agreeing.{far-agree, far-pair}

-- the process p has the two ends x and y of an identity, and no other that may be used
pub record IsIdentity (source : Program) (c : Configuration) (l : Lawful source c) (p : Who) (x y x2 y2 : End) : Type 0 where
  pub partner_x : c.partner x ≡ Some x2
  pub partner_y : c.partner y ≡ Some y2
  pub two_ends : x ≢ y
  pub two_channels : x2 ≢ y
  pub at_x : l.place x ≡ At p
  pub at_y : l.place y ≡ At p
  pub views : seen l.channel y ≡ turned (seen l.channel x)
  pub alone : (e : End) → IsJoined c e → l.place e ≡ At p → (e ≡ x) ⊎ ((e ≡ y) ⊎ (l.channel e ≡ None))

module _ (source : Program) (c d : Configuration) (l : Lawful source c) (p : Who) (x y x2 y2 : End) (k : IsIdentity source c l p x y x2 y2) (s : IsAround c d p x y x2 y2) where
  abbrev w : World
  w = world_of source

  abbrev none_kept : End → Bool
  none_kept e = false

  abbrev place2 : End → Place
  place2 = leaving p none_kept l.place

  back_x : c.partner x2 ≡ Some x
  back_x = l.apart.placed.paired.back x x2 k.partner_x

  back_y : c.partner y2 ≡ Some y
  back_y = l.apart.placed.paired.back y y2 k.partner_y

  -- Nodes

  old-node : (who : Who) (t : State) → d.nodes who ≡ Some t → (p ≢ who) × (c.nodes who ≡ Some t)
  old-node who t i = elim (s.nodes who) [ Went q j ↦ absurd (cc (i, j)) | Stayed n j ↦ (n, sym j ∙ i) ]

  new-node : (who : Who) (t : State) → p ≢ who → c.nodes who ≡ Some t → d.nodes who ≡ Some t
  new-node who t n i = elim (s.nodes who) [ Went q j ↦ absurd (n q) | Stayed m j ↦ j ∙ i ]

  -- Partners

  was-joined : (e : End) → IsJoined d e → IsJoined c e
  was-joined e (f, i) = elim (s.ends e) [
    | Left a j o ↦ absurd (cc (i, j))
    | FarX a j o ↦ (x, ap c.partner (sym a) ∙ back_x)
    | FarY a j o ↦ (y, ap c.partner (sym a) ∙ back_y)
    | Kept a j o ↦ (f, sym j ∙ i)
  ]

  stays-joined : (e : End) → x ≢ e → y ≢ e → IsJoined c e → IsJoined d e
  stays-joined e nx ny (f, i) = elim (s.ends e) [
    | Left a j o ↦ absurd (elim a [ inl q ↦ nx q | inr q ↦ ny q ])
    | FarX a j o ↦ (y2, j)
    | FarY a j o ↦ (x2, j)
    | Kept a j o ↦ (f, j ∙ i)
  ]

  not-left : (e : End) → IsJoined d e → (x ≢ e) × (y ≢ e)
  not-left e (f, i) = elim (s.ends e) [
    | Left a j o ↦ absurd (cc (i, j))
    | FarX a j o ↦ ((λ q. l.apart.placed.paired.other x (cc (k.partner_x, q, a))), (λ q. k.two_channels (a ∙ sym q)))
    | FarY a j o ↦ ((λ q. k.two_channels (cc (k.partner_x, back_y, q, a))), (λ q. l.apart.placed.paired.other y (cc (k.partner_y, q, a))))
    | Kept a j o ↦ (a.not_x, a.not_y)
  ]

  -- what stands elsewhere is none of its ends
  other-place : (e : End) (o : Place) → l.place e ≡ o → o ≢ At p → (x ≢ e) × (y ≢ e)
  other-place e o i n = ((λ q. n (sym i ∙ (ap l.place (sym q) ∙ k.at_x))), (λ q. n (sym i ∙ (ap l.place (sym q) ∙ k.at_y))))

  -- What is owed

  no-pair-x : owes_pair (c.owed x) ≡ false
  no-pair-x = no-pair source c l p x k.at_x

  no-pair-y : owes_pair (c.owed y) ≡ false
  no-pair-y = no-pair source c l p y k.at_y

  owes-pair : (e : End) → (owes_pair (d.owed e) ≡ false) ⊎ (owes_pair (d.owed e) ≡ owes_pair (c.owed e))
  owes-pair e = elim (s.ends e) [
    | Left a j o ↦ inl (ap owes_pair o)
    | FarX a j o ↦ inr (ap owes_pair o ∙ (owes-behind (c.owed y) (c.owed x2) no-pair-y ∙ ap (λ (z : End). owes_pair (c.owed z)) a))
    | FarY a j o ↦ inr (ap owes_pair o ∙ (owes-behind (c.owed x) (c.owed y2) no-pair-x ∙ ap (λ (z : End). owes_pair (c.owed z)) a))
    | Kept a j o ↦ inr (ap owes_pair o)
  ]

  was-carried : (z e : End) → IsCarried (d.owed z) e → IsCarried (c.owed z) e
  was-carried z e h = elim (s.ends z) [
    | Left a j o ↦ absurd (subst (λ (ms : List Message). IsCarried ms e) o h)
    | FarX a j o ↦ subst (λ (v : End). IsCarried (c.owed v) e) a (carried-behind (c.owed y) (c.owed x2) e no-pair-y (subst (λ (ms : List Message). IsCarried ms e) o h))
    | FarY a j o ↦ subst (λ (v : End). IsCarried (c.owed v) e) a (carried-behind (c.owed x) (c.owed y2) e no-pair-x (subst (λ (ms : List Message). IsCarried ms e) o h))
    | Kept a j o ↦ subst (λ (ms : List Message). IsCarried ms e) o h
  ]

  stays-carried : (z e : End) → IsCarried (c.owed z) e → IsCarried (d.owed z) e
  stays-carried z e h = elim (s.ends z) [
    | Left a j o ↦ absurd (elim a [
      | inl q ↦ none-carried (c.owed x) e no-pair-x (subst (λ (v : End). IsCarried (c.owed v) e) (sym q) h)
      | inr q ↦ none-carried (c.owed y) e no-pair-y (subst (λ (v : End). IsCarried (c.owed v) e) (sym q) h)
    ])
    | FarX a j o ↦ subst (λ (ms : List Message). IsCarried ms e) (sym o) (carried-right (c.owed y) (c.owed x2) e (subst (λ (v : End). IsCarried (c.owed v) e) (sym a) h))
    | FarY a j o ↦ subst (λ (ms : List Message). IsCarried ms e) (sym o) (carried-right (c.owed x) (c.owed y2) e (subst (λ (v : End). IsCarried (c.owed v) e) (sym a) h))
    | Kept a j o ↦ subst (λ (ms : List Message). IsCarried ms e) (sym o) h
  ]

  -- Part 1

  idle : (e : End) → d.partner e ≡ None → d.owed e ≡ []
  idle e n = elim (s.ends e) [
    | Left a j o ↦ o
    | FarX a j o ↦ absurd (cc (n, j))
    | FarY a j o ↦ absurd (cc (n, j))
    | Kept a j o ↦ o ∙ l.apart.placed.idle e (sym j ∙ n)
  ]

  -- what stands at a node stood there, and that isn't p
  stands : (v : Who) (e : End) → IsJoined d e → place2 e ≡ At v → (v ≢ p) × (l.place e ≡ At v) × IsJoined c e
  stands v e j i =
      let at : l.place e ≡ At v = was-put p none_kept l.place e (At v) i (λ q. cc q) in
      ((λ q. let g : place2 e ≡ Gone = goes-unkept p none_kept l.place e (at ∙ ap At q) refl in cc (g, i)), at, was-joined e j)

  nowhere : (e : End) → d.partner e ≡ None → place2 e ≡ Gone
  nowhere e i = elim (s.ends e) [
    | Left a j o ↦ goes-unkept p none_kept l.place e (elim a [ inl q ↦ ap l.place (sym q) ∙ k.at_x | inr q ↦ ap l.place (sym q) ∙ k.at_y ]) refl
    | FarX a j o ↦ absurd (cc (i, j))
    | FarY a j o ↦ absurd (cc (i, j))
    | Kept a j o ↦ let g : l.place e ≡ Gone = l.apart.placed.nowhere e (sym j ∙ i) in stays-put p none_kept l.place e (λ q. cc (g, q)) ∙ g
  ]

  gone : (e : End) → IsJoined d e → place2 e ≡ Gone → IsSpent (l.channel e) ⊎ ((l.place e ≡ Gone) × IsJoined c e)
  gone e j i = elim (was-gone p none_kept l.place e i) [
    | inl g ↦ inr (g, was-joined e j)
    | inr (at, f) ↦
        let n : (x ≢ e) × (y ≢ e) = not-left e j in
        elim (k.alone e (was-joined e j) at) [
          | inl q ↦ absurd (n.0 (sym q))
          | inr (inl q) ↦ absurd (n.1 (sym q))
          | inr (inr q) ↦ inl (inl q)
        ]
  ]

  -- Part 3

  kept-too : (e f : End) → Off x y x2 y2 e → d.partner e ≡ Some f → d.owed f ≡ c.owed f
  kept-too e f n i =
      let b : d.partner f ≡ Some e = s.paired.back e f i in
      elim (s.ends f) [
        | Left a j o ↦ absurd (cc (b, j))
        | FarX a j o ↦ absurd (n.not_y2 (cc (b, j)))
        | FarY a j o ↦ absurd (n.not_x2 (cc (b, j)))
        | Kept a j o ↦ o
      ]

  new-agree : Agree w d l.channel x2 y2
  new-agree = far-agree w l.channel c x y x2 y2 (l.agree x x2 k.partner_x) (l.agree y y2 k.partner_y) k.views d s.owed_x2 s.owed_y2

  agree : (e f : End) → d.partner e ≡ Some f → Agree w d l.channel e f
  agree e f i = elim (s.ends e) [
    | Left a j o ↦ absurd (cc (i, j))
    | FarX a j o ↦
        let q : y2 ≡ f = cc (i, j) in
        subst (λ (z : End). Agree w d l.channel z f) a (subst (λ (z : End). Agree w d l.channel x2 z) q new-agree)
    | FarY a j o ↦
        let q : x2 ≡ f = cc (i, j) in
        subst (λ (z : End). Agree w d l.channel z f) a (subst (λ (z : End). Agree w d l.channel y2 z) q (agree-turned w d l.channel x2 y2 new-agree))
    | Kept a j o ↦ agree-same w c d l.channel l.channel e f refl refl o (kept-too e f a i) (l.agree e f (sym j ∙ i))
  ]

  -- Part 4

  -- a pair was owed by the same end, behind other messages, and its receipt is the same
  record WasPair (z a b : End) (before after : List Message) : Type 0 where
    pub old : List Message
    pub was : c.owed z ≡ old ++ (EndPair a b ∷ after)
    pub fits : (f : End) → d.partner z ≡ Some f → IsPairOf w l.channel before f a b

  far-back : seen l.channel x ≡ turned (seen l.channel y)
  far-back = sym (turned-twice (seen l.channel x)) ∙ ap turned (sym k.views)

  of-x2 : (z a b : End) (before after : List Message) → x2 ≡ z → d.partner z ≡ Some y2 → LiesBehind (c.owed y) (c.owed x2) before a b after → WasPair z a b before after
  of-x2 z a b before after i j h = record {
    old = h.rest;
    was = ap c.owed (sym i) ∙ h.behind;
    fits = λ f n.
        let q : y2 ≡ f = cc (j, n) in
        let new : IsPairOf w l.channel (c.owed y ++ h.rest) y2 a b = far-pair w l.channel c x y x2 y2 (l.agree x x2 k.partner_x) (l.agree y y2 k.partner_y) k.views h.rest after a b h.behind (l.pairs.typed x2 a b x h.rest after h.behind back_x) in
        subst (λ (u : End). IsPairOf w l.channel before u a b) q (subst (λ (ms : List Message). IsPairOf w l.channel ms y2 a b) (sym h.front) new);
  }

  of-y2 : (z a b : End) (before after : List Message) → y2 ≡ z → d.partner z ≡ Some x2 → LiesBehind (c.owed x) (c.owed y2) before a b after → WasPair z a b before after
  of-y2 z a b before after i j h = record {
    old = h.rest;
    was = ap c.owed (sym i) ∙ h.behind;
    fits = λ f n.
        let q : x2 ≡ f = cc (j, n) in
        let new : IsPairOf w l.channel (c.owed x ++ h.rest) x2 a b = far-pair w l.channel c y x y2 x2 (l.agree y y2 k.partner_y) (l.agree x x2 k.partner_x) far-back h.rest after a b h.behind (l.pairs.typed y2 a b y h.rest after h.behind back_y) in
        subst (λ (u : End). IsPairOf w l.channel before u a b) q (subst (λ (ms : List Message). IsPairOf w l.channel ms x2 a b) (sym h.front) new);
  }

  was-pair : (z a b : End) (before after : List Message) → d.owed z ≡ before ++ (EndPair a b ∷ after) → WasPair z a b before after
  was-pair z a b before after h = elim (s.ends z) [
    | Left q j o ↦ absurd (filled before after a b (sym h ∙ o))
    | FarX q j o ↦ of-x2 z a b before after q j (pair-behind (c.owed y) (c.owed x2) before a b after no-pair-y (sym o ∙ h))
    | FarY q j o ↦ of-y2 z a b before after q j (pair-behind (c.owed x) (c.owed y2) before a b after no-pair-x (sym o ∙ h))
    | Kept q j o ↦ record { old = before; was = sym o ∙ h; fits = λ f n. l.pairs.typed z a b f before after (sym o ∙ h) (sym j ∙ n) }
  ]

  pairs : (z a b : End) (before after : List Message) → d.owed z ≡ before ++ (EndPair a b ∷ after) → IsGoodPair w d place2 l.channel z a b before after
  pairs z a b before after h =
      let q : WasPair z a b before after = was-pair z a b before after h in
      let (g, n) = l.pairs.given_up z a b q.old after q.was in
      record {
        different = l.pairs.different z a b q.old after q.was;
        last = l.pairs.last z a b q.old after q.was;
        place = stays-put p none_kept l.place z (λ i. cc (g, i)) ∙ g;
        channel = n;
        typed = q.fits;
      }

  -- Part 6

  -- the graph where each end but x and y still stands where it stood
  abbrev between : Graph End Node
  between = record { partner = d.partner; at = λ e. node_of (l.place e) e (c.owed e) }

  first-forest : NoCycle between
  first-forest = identity-forest (graph c l.place) between (Holder p) x y x2 y2 l.apart.placed.paired (record {
    partner_x = k.partner_x;
    partner_y = k.partner_y;
    two_ends = k.two_ends;
    two_channels = k.two_channels;
    at_x = ap (λ (o : Place). node_of o x (c.owed x)) k.at_x;
    at_y = ap (λ (o : Place). node_of o y (c.owed y)) k.at_y;
    partners = s.partners;
    others = λ e nx ny. refl;
  }) l.apart.forest

  none-there : (e : End) (ms : List Message) → owes_pair ms ≡ false → node_of Gone e ms ≡ None
  none-there e ms i = rw i refl

  still : (e : End) (o : Place) → (node_of o e (d.owed e) ≡ node_of o e (c.owed e)) ⊎ (node_of o e (d.owed e) ≡ None)
  still e (At who) = inl refl
  still e (In z) = inl refl
  still e Gone = elim (owes-pair e) [
    | inl q ↦ inr (none-there e (d.owed e) q)
    | inr q ↦ inl (ap (λ (t : Bool). if t then Some (Pair e) else None) q)
  ]

  now-stands : (e : End) → (node_of (place2 e) e (d.owed e) ≡ node_of (l.place e) e (c.owed e)) ⊎ (node_of (place2 e) e (d.owed e) ≡ None)
  now-stands e = elim (sorts p none_kept l.place e) [
    | inl (q, n) ↦
        let same : node_of (place2 e) e (d.owed e) ≡ node_of (l.place e) e (d.owed e) = ap (λ (o : Place). node_of o e (d.owed e)) q in
        elim (still e (l.place e)) [ inl i ↦ inl (same ∙ i) | inr i ↦ inr (same ∙ i) ]
    | inr (q, at, n) ↦
        let none : owes_pair (d.owed e) ≡ false = elim (owes-pair e) [ inl u ↦ u | inr u ↦ u ∙ no-pair source c l p e at ] in
        inr (ap (λ (o : Place). node_of o e (d.owed e)) q ∙ none-there e (d.owed e) none)
  ]

  forest : NoCycle (graph d place2)
  forest = gives-up-forest same_end ends-apart between (graph d place2) (record { partners = refl; others = now-stands }) first-forest

  -- Part 7

  named : IsNamed d
  named = record {
    paths = λ q v r t i j. l.apart.named.paths q v r t (old-node (Process q) (Runs r) i).1 (old-node (Process v) t j).1;
    channels = λ q r e i j. l.apart.named.channels q r e (old-node (Process q) (Runs r) i).1 (was-joined e j);
  }

  -- All parts

  local : IsLocal source c d l p (λ v t. ⊥) None l.channel place2
  local = record {
    here = λ v t n. absurd n;
    others = λ v t n i. new-node v t (λ q. n (sym q)) i;
    whose = λ v t i. let (n, j) = old-node v t i in inr ((λ q. n (sym q)), j);
    nodes = l.nodes;
    listed = λ v t i. l.listed v t (old-node v t i).1;
    ends = l.ends;
    within = λ e j. l.joined e (was-joined e j);
    paired = s.paired;
    joined = λ e j n. let (nx, ny) = other-place e (l.place e) refl n in stays-joined e nx ny j;
    idle = idle;
    named = named;
    forest = forest;
    place = λ e j n m. stays-put p none_kept l.place e n;
    channel = λ e j n m. refl;
    own = λ v t e n. absurd n;
    at = λ v e j i. inr (stands v e j i);
    carrier = λ z e j i. stays-carried z e (l.apart.placed.carrier z e (was-joined e j) (was-put p none_kept l.place e (In z) i (λ q. cc q)));
    carried = λ z e h. inl (was-carried z e h, λ q. cc q);
    gone = gone;
    nowhere = nowhere;
    kinds = λ v t n. absurd n;
    names = λ v r n. absurd n;
    once = λ v r a b e n. absurd n;
    typed = λ v r n. absurd n;
    types = λ v r a e n. absurd n;
    phases = λ v t n. absurd n;
    shut = λ v t n. absurd n;
    agree = agree;
    pairs = λ z a b before after h. inr (pairs z a b before after h);
  }

  pub linked-lawful : Lawful source d
  linked-lawful = local-lawful source c d l p (λ v t. ⊥) None l.channel place2 local
