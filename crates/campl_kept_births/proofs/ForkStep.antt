-- A fork keeps what is lawful.
use Rattle.std.proofs.Common.{◌≡◌, ◌≢◌, ◌⊎◌, ◌∙◌, inl, inr, refl, sym, ap, subst, ℕ, suc, Bool, false, not, true≢false, [], ◌∷◌, ◌++◌, Option, Some, None}
use Rattle.campl_tree.specs.declared.place.Place.{Place as Spot}
use Rattle.campl_tree.specs.declared.place.Ident.{Ident}
use Rattle.campl_tree.specs.Plain.Process as b
use Rattle.campl_tree.specs.Plain.Process.{Body}
use Rattle.campl_tree.specs.Plain.Decl.{Program}
use Rattle.campl_machine.specs.Names.{Path, First, Second, End, Process, same_end}
use Rattle.campl_machine.specs.Machine.{Lies, Move, Moves, both_ways, performs}
use Rattle.campl_machine.specs.Graph.{NoCycle}
use Rattle.campl_machine.specs.Changes as changes
use Rattle.campl_machine.proofs.Updates.{split}
use Rattle.campl_machine.proofs.Ends.{ne, same-end}
use Rattle.campl_machine.proofs.Partners.{births}
use Rattle.campl_machine.proofs.Forking.{fork-forest}
use Rattle.campl_types.specs.World.{world_of}
use Rattle.campl_types.specs.Names.{Name, found}
use Rattle.campl_types.specs.Held.{Channel, On}
use Rattle.campl_types.specs.Free.{is_free, IsDividedByNames}
use Rattle.campl_types.proofs.Forked.{divided-by-names}
use Rattle.campl_peel.specs.Terms.{Doing, TermIsWellFormed, those, held_ends}
use Rattle.campl_meaning.specs.States as k
use Rattle.campl_meaning.specs.States.{Command, Message, Word, Pick, EndPair, Ends, Running, State, Runs, Serves}
use Rattle.campl_meaning.specs.Bodies.{without_end}
use Rattle.campl_meaning.specs.Wants.{born, child, newborn, onward, with_found, command, term_command}
use Rattle.campl_meaning.specs.Reductions.{Configuration, act_of}
use Rattle.campl_meaning.specs.Apart.{Place, At, In, Gone, IsCarried, IsJoined, IsNamed, Holder, Pair, owes_pair, node_of, graph}
use Rattle.campl_meaning.specs.Lawful.{Channels, IsTypedAt, Lawful}
use Rattle.campl_meaning.proofs.Finite.{finite-of, finite-kept}
use Rattle.campl_meaning.proofs.Pairs.{carried-right}
use Rattle.campl_meaning.proofs.Holding.{held-end}
use Rattle.campl_meaning.proofs.Graphs.{same_node, nodes-apart}
use Rattle.campl_peel.proofs.Peeling.{none-or}
use Rattle.campl_frame.proofs.Held.{own-place}
use Rattle.campl_frame.proofs.Listed.{some-is, lists, IsTidy}
use Rattle.campl_kept_births.proofs.Sent.{carried-either}
use Rattle.campl_kept_births.proofs.Hands.{Hands, at-other, at-own, at-kin, lawful-after}
use Rattle.campl_frame.proofs.Leaving.{ends-apart}
use Rattle.campl_frame.proofs.Stays.{filled}
use Rattle.campl_kept_births.proofs.Masks.{masked, standing-some, standing-none, mask, unmask, at-holder, at-pair, node-at, node-in, node-gone, owes-last}
use Rattle.campl_kept_births.proofs.Newborn.{names-kept, born-fresh, no-child-yet, child-not, family, parent-there, child-there, others-there}
use Rattle.campl_kept_births.proofs.ForkEnds.{Forking}
use Rattle.campl_kept_births.proofs.ForkEnds.{a1 as a1_of, a2 as a2_of, b1 as b1_of, b2 as b2_of, drop as drop_of, r2 as r2_of, r3 as r3_of, move as move_of, d as d_of, channel2 as channel2_of, remains as remains_of, Off as Off_of, a1-a2, a1-b1, a1-b2, a2-b1, a2-b2, b1-b2, which, old, partner-a1, partner-a2, partner-b1, partner-b2, partner-old, partner-one, wired, channel-end, channel-a1, channel-b1, channel-old, seen-old, owed-end, owed-old, remains-end, remains-a2, remains-b2, remains-old}
use Rattle.campl_kept_births.proofs.ForkTypes.{place2 as place2_of, each-of, typed-mine, typed-theirs, nothing-taken, agree, not-carried, place-end, pairs}
use Rattle.campl_kept_births.proofs.ForkHeld.{end-place, tidy-mine, tidy-theirs, all-kept, a2-unlisted, b2-unlisted, has-a1, has-b1, shared, own-joined, own-free}

module _ (it : Forking) where
  open it use {source, c, l, p, r, there, x, y, z, one, two, keep, end, other, side, u, t, w, x_is, joined, is_on, forks, new, trees, good, good_too}

  abbrev a1 : End
  a1 = a1_of it

  abbrev a2 : End
  a2 = a2_of it

  abbrev b1 : End
  b1 = b1_of it

  abbrev b2 : End
  b2 = b2_of it

  abbrev drop : Name → Bool
  drop = drop_of it

  abbrev r2 : Running
  r2 = r2_of it

  abbrev r3 : Running
  r3 = r3_of it

  abbrev move : Move State Message
  move = move_of it

  abbrev d : Configuration
  d = d_of it

  abbrev channel2 : Channels
  channel2 = channel2_of it

  abbrev remains : End → Place
  remains = remains_of it

  abbrev Off : End → Type 0
  Off = Off_of it

  abbrev place2 : End → Place
  place2 = place2_of it

  -- Where the rest stands

  rest-kind : (e : End) (f : Place) → remains e ≡ f → ((e ≡ end) × (Gone ≡ f)) ⊎ ((((e ≡ a2) ⊎ (e ≡ b2)) × (In end ≡ f)) ⊎ ((end ≢ e) × (a2 ≢ e) × (b2 ≢ e) × (l.place e ≡ f)))
  rest-kind e f i = elim (same-end e end) [
    | inl j ↦ inl (j, sym (remains-end it) ∙ (ap remains (sym j) ∙ i))
    | inr n ↦ elim (same-end e a2) [
      | inl j ↦ inr (inl (inl j, sym (remains-a2 it) ∙ (ap remains (sym j) ∙ i)))
      | inr m ↦ elim (same-end e b2) [
        | inl j ↦ inr (inl (inr j, sym (remains-b2 it) ∙ (ap remains (sym j) ∙ i)))
        | inr o ↦ inr (inr (ne e end n, ne e a2 m, ne e b2 o, sym (remains-old it e (ne e end n) (ne e a2 m) (ne e b2 o)) ∙ i))
      ]
    ]
  ]

  joined-still : (e : End) → IsJoined d e → a2 ≢ e → b2 ≢ e → lists e r3.ends ≡ false → lists e r2.ends ≡ false → IsJoined c e
  joined-still e (f, j) m o i k = elim (which it e) [
    | inl (inl (inl h)) ↦ absurd (true≢false (sym (ap (λ q. lists q r2.ends) h ∙ has-a1 it) ∙ k))
    | inl (inl (inr h)) ↦ absurd (m (sym h))
    | inl (inr (inl h)) ↦ absurd (true≢false (sym (ap (λ q. lists q r3.ends) h ∙ has-b1 it) ∙ i))
    | inl (inr (inr h)) ↦ absurd (o (sym h))
    | inr h ↦ (f, sym (partner-old it e h) ∙ j)
  ]

  carried-still : (q e : End) → IsCarried (c.owed q) e → IsCarried (d.owed q) e
  carried-still q e i = elim (same-end end q) [
    | inl j ↦ absurd (not-carried it e (subst (λ h. IsCarried (c.owed h) e) (sym j) i))
    | inr n ↦ subst (λ h. IsCarried h e) (sym (owed-old it q n)) i
  ]

  carried-new : (e : End) → (e ≡ a2) ⊎ (e ≡ b2) → IsCarried (d.owed end) e
  carried-new e i = subst (λ h. IsCarried h e) (sym (owed-end it)) (carried-right (c.owed end) (EndPair a2 b2 ∷ []) e (elim i [ inl j ↦ inl j | inr j ↦ inr (inl j) ]))

  carried : (q e : End) → IsCarried (d.owed q) e → (IsCarried (c.owed q) e × (None ≢ Some q)) ⊎ (IsJoined d e × (remains e ≡ In q) × (lists e r3.ends ≡ false) × (lists e r2.ends ≡ false))
  carried q e i = elim (same-end end q) [
    | inl j ↦ in-end j (carried-either (c.owed end) (EndPair a2 b2 ∷ []) e (subst (λ h. IsCarried h e) (owed-end it) (subst (λ h. IsCarried (d.owed h) e) (sym j) i)))
    | inr n ↦ inl (subst (λ h. IsCarried h e) (owed-old it q n) i, λ h. cc h)
  ]
    where
      in-end : end ≡ q → IsCarried (c.owed end) e ⊎ ((e ≡ a2) ⊎ ((e ≡ b2) ⊎ ⊥)) →
          (IsCarried (c.owed q) e × (None ≢ Some q)) ⊎ (IsJoined d e × (remains e ≡ In q) × (lists e r3.ends ≡ false) × (lists e r2.ends ≡ false))
      in-end j (inl k) = absurd (not-carried it e k)
      in-end j (inr (inl k)) = inr (partner-one it e (inl (inr k)), ap remains k ∙ (remains-a2 it ∙ ap In j), ap (λ h. lists h r3.ends) k ∙ (a2-unlisted it).0, ap (λ h. lists h r2.ends) k ∙ (a2-unlisted it).1)
      in-end j (inr (inr (inl k))) = inr (partner-one it e (inr (inr k)), ap remains k ∙ (remains-b2 it ∙ ap In j), ap (λ h. lists h r3.ends) k ∙ (b2-unlisted it).0, ap (λ h. lists h r2.ends) k ∙ (b2-unlisted it).1)
      in-end j (inr (inr (inr k))) = absurd k

  no-child : c.nodes (child p r) ≡ None
  no-child = elim (none-or (c.nodes (child p r))) [ inl n ↦ n | inr (s, i) ↦ absurd (no-child-yet source c l p r there s i) ]

  fresh-all : (e : End) → Lies (both_ways move.channels) e → c.partner e ≡ None
  fresh-all e (inl i) = subst (λ q. c.partner q ≡ None) i (born-fresh source c l p r there 1 First)
  fresh-all e (inr (inl i)) = subst (λ q. c.partner q ≡ None) i (born-fresh source c l p r there 1 Second)
  fresh-all e (inr (inr (inl i))) = subst (λ q. c.partner q ≡ None) i (born-fresh source c l p r there 2 First)
  fresh-all e (inr (inr (inr (inl i)))) = subst (λ q. c.partner q ≡ None) i (born-fresh source c l p r there 2 Second)
  fresh-all e (inr (inr (inr (inr i)))) = absurd i

  not-second : (e : End) → b1 ≢ e → b2 ≢ e → Lies (both_ways ((b1, b2) ∷ [])) e → ⊥
  not-second e n m (inl i) = n i
  not-second e n m (inr (inl i)) = m i
  not-second e n m (inr (inr i)) = i

  idle : (e : End) → d.partner e ≡ None → d.owed e ≡ []
  idle e i = elim (which it e) [
    | inl o ↦ absurd (let j : IsJoined d e = partner-one it e o in cc (i, j.1))
    | inr o ↦
        let k : c.partner e ≡ None = sym (partner-old it e o) ∙ i in
        owed-old it e (λ q. let n : c.partner end ≡ None = ap c.partner q ∙ k in cc (n, joined)) ∙ l.apart.placed.idle e k
  ]

  hands : Hands source c d l p r r2 (Some r3) None channel2 remains
  hands = record {
    here = parent-there c.nodes (Process p) (Runs r2) ((child p r, Some (Runs r3)) ∷ []);
    born = λ s i. let j : r3 ≡ s = cc i in subst (λ (q : Running). d.nodes (child p r) ≡ Some (Runs q)) j (child-there c.nodes (Process p) (child p r) (Runs r2) (Runs r3) (child-not p r));
    others = λ v s n i. others-there c.nodes (Process p) (child p r) (Runs r2) (Runs r3) s v n no-child i;
    whose = λ v s i. elim (family c.nodes (Process p) (child p r) (Runs r2) (Runs r3) v s i) [
      | inl j ↦ inl j
      | inr (inl j) ↦ inr (inl (r3, refl, j.0, j.1))
      | inr (inr j) ↦ inr (inr j)
    ];
    paired = births move.channels c.partner l.apart.placed.paired
        (a1-a2 it, not-second a1 (ne a1 b1 (a1-b1 it)) (ne a1 b2 (a1-b2 it)), not-second a2 (ne a2 b1 (a2-b1 it)) (ne a2 b2 (a2-b2 it)), (b1-b2 it, (λ q. q), (λ q. q), tt)) fresh-all;
    wired = wired it;
    idle = idle;
    names = (tidy-mine it).names;
    once = (tidy-mine it).once;
    kin_names = λ s i. let j : r3 ≡ s = cc i in (subst (λ (q : Running). IsTidy q.ends) j (tidy-theirs it)).names;
    kin_once = λ s i. let j : r3 ≡ s = cc i in (subst (λ (q : Running). IsTidy q.ends) j (tidy-theirs it)).once;
    own_joined = own-joined it;
    own_free = λ e i. elim (own-free it e i) [ inl n ↦ inl n | inr n ↦ inr (inl n) ];
    shared = shared it;
    finite = finite-kept c (finite-of source c l) d (Process p) (Moves move) refl;
    rest_nowhere = λ e i j. elim (which it e) [
      | inl o ↦ absurd (let k : IsJoined d e = partner-one it e o in cc (j, k.1))
      | inr o ↦ elim (same-end end e) [
        | inl h ↦ subst (λ q. remains q ≡ Gone) h (remains-end it)
        | inr n ↦ remains-old it e n o.1 o.3 ∙ l.apart.placed.nowhere e i
      ]
    ];
    rest_same = λ e j n. remains-old it e (λ i. n (ap l.place (sym i) ∙ end-place it)) (old it e j).1 (old it e j).3;
    rest_at = λ e v j i k h. elim (rest-kind e (At v) h) [
      | inl (f, wrong) ↦ absurd (cc wrong)
      | inr (inl (f, wrong)) ↦ absurd (cc wrong)
      | inr (inr (n, m, o, at)) ↦ let b : IsJoined c e = joined-still e j m o i k in (b, at, λ f. all-kept it e b n (at ∙ ap At f) i k)
    ];
    rest_in = λ q e j i k h. elim (rest-kind e (In q) h) [
      | inl (f, wrong) ↦ absurd (cc wrong)
      | inr (inl (f, same)) ↦ let g : end ≡ q = cc same in subst (λ v. IsCarried (d.owed v) e) g (carried-new e f)
      | inr (inr (n, m, o, at)) ↦ carried-still q e (l.apart.placed.carrier q e (joined-still e j m o i k) at)
    ];
    rest_gone = λ e j i k h. elim (rest-kind e Gone h) [
      | inl (f, same) ↦ inl (ap channel2 f ∙ channel-end it)
      | inr (inl (f, wrong)) ↦ absurd (cc wrong)
      | inr (inr (n, m, o, at)) ↦ inr (joined-still e j m o i k, at)
    ];
    carried = carried;
    same_channel = λ e j n m. channel-old it e (λ i. n (ap l.place (sym i) ∙ end-place it)) (old it e j);
    typed = typed-mine it;
    kin_typed = λ s i. let j : r3 ≡ s = cc i in subst (IsTypedAt (world_of source) channel2) j (typed-theirs it);
    types = each-of it keep y a1 (On side t) (channel-a1 it);
    kin_types = λ s i. let j : r3 ≡ s = cc i in
        subst (λ (q : Running). (n : Name) (e : End) → found n q.ends ≡ Some e → (h : Channel) × (channel2 e ≡ Some h)) j (each-of it drop z b1 (On side w) (channel-b1 it));
    agree = agree it;
    pairs = pairs it;
    pair_seen = λ q m n v before after i h j.
        let back_v : c.partner v ≡ Some q = l.apart.placed.paired.back q v j in
        seen-old it v (λ f.
        let same : other ≡ q = some-is other q (sym joined ∙ (ap c.partner f ∙ back_v)) in
        let empty : [] ≡ before ++ (EndPair m n ∷ after) = sym (nothing-taken it).0 ∙ (ap c.owed same ∙ i) in
        filled before after m n (sym empty)) (q, back_v);
  }

  -- Part 6

  place-a1 : place2 a1 ≡ At (Process p)
  place-a1 = at-own source c d l p r r2 (Some r3) None channel2 remains hands a1 (has-a1 it)

  place-b1 : place2 b1 ≡ At (child p r)
  place-b1 = at-kin source c d l p r r2 (Some r3) None channel2 remains hands b1 (has-b1 it)

  place-a2 : place2 a2 ≡ In end
  place-a2 = at-other source c d l p r r2 (Some r3) None channel2 remains hands a2 (a2-unlisted it).0 (a2-unlisted it).1 ∙ remains-a2 it

  place-b2 : place2 b2 ≡ In end
  place-b2 = at-other source c d l p r r2 (Some r3) None channel2 remains hands b2 (b2-unlisted it).0 (b2-unlisted it).1 ∙ remains-b2 it

  -- where an (old it) end stood and stands
  others : (e : End) (q : Option End) → c.partner e ≡ q → Off e →
      ((masked d place2).at e ≡ (masked c l.place).at e)
      ⊎ (((masked c l.place).at e ≡ Some (Holder (Process p))) × (((masked d place2).at e ≡ Some (Holder (child p r))) ⊎ ((masked d place2).at e ≡ Some (Pair end))))
  others e None i o = inl (standing-none _ _ (partner-old it e o ∙ i) ∙ sym (standing-none _ _ i))
  others e (Some f) i o = elim (same-end e end) [
    | inl h ↦ inr (
      standing-some _ f _ i ∙ node-at _ e _ (Process p) (ap l.place h ∙ end-place it),
      inr (standing-some _ f _ (partner-old it e o ∙ i) ∙ (node-gone _ e _ (ap place2 h ∙ place-end it) (ap (λ q. owes_pair (d.owed q)) h ∙ (ap owes_pair (owed-end it) ∙ owes-last (c.owed end) a2 b2)) ∙ ap (λ q. Some (Pair q)) h)),
    )
    | inr n ↦ elim (split (lists e r3.ends)) [
      | inl k ↦ inr (
        standing-some _ f _ i ∙ node-at _ e _ (Process p) (was-own (own-free it e (inl k))),
        inl (standing-some _ f _ (partner-old it e o ∙ i) ∙ node-at _ e _ (child p r) (at-kin source c d l p r r2 (Some r3) None channel2 remains hands e k)),
      )
      | inr k ↦ elim (split (lists e r2.ends)) [
        | inl h ↦ inl (
            (standing-some _ f _ (partner-old it e o ∙ i) ∙ node-at _ e _ (Process p) (at-own source c d l p r r2 (Some r3) None channel2 remains hands e h))
            ∙ sym (standing-some _ f _ i ∙ node-at _ e _ (Process p) (was-own (own-free it e (inr h))))
            )
        | inr h ↦ inl (
            (standing-some _ f _ (partner-old it e o ∙ i)
            ∙ (ap (λ g. node_of g e (d.owed e)) (at-other source c d l p r r2 (Some r3) None channel2 remains hands e k h ∙ remains-old it e (ne e end n) o.1 o.3) ∙ ap (node_of (l.place e) e) (owed-old it e (ne e end n))))
            ∙ sym (standing-some _ f _ i)
            )
      ]
    ]
  ]
    where
      was-own : (c.partner e ≡ None) ⊎ (l.place e ≡ At (Process p)) → l.place e ≡ At (Process p)
      was-own (inl j) = absurd (let wrong : None ≡ Some f = sym j ∙ i in cc wrong)
      was-own (inr j) = j

  no-node-yet : (e : End) (q : Option End) → c.partner e ≡ q → ((masked c l.place).at e ≢ Some (Holder (child p r))) × ((masked c l.place).at e ≢ Some (Pair end))
  no-node-yet e None i = (
    (λ j. let wrong : None ≡ Some (Holder (child p r)) = sym (standing-none _ (node_of (l.place e) e (c.owed e)) i) ∙ j in cc wrong),
    (λ j. let wrong : None ≡ Some (Pair end) = sym (standing-none _ (node_of (l.place e) e (c.owed e)) i) ∙ j in cc wrong),
  )
  no-node-yet e (Some f) i = (
    (λ j.
        let at : l.place e ≡ At (child p r) = at-holder (l.place e) e (c.owed e) (child p r) (sym (standing-some _ f _ i) ∙ j) in
        let (s, q, is, g) = l.apart.placed.holder (p ++ (record { step = suc r.steps; place = 1 } ∷ [])) e (f, i) at in
        no-child-yet source c l p r there (Runs s) is),
    (λ j. elim (at-pair (l.place e) e (c.owed e) end (sym (standing-some _ f _ i) ∙ j)) [
      | inl at ↦ not-carried it e (l.apart.placed.carrier end e (f, i) at)
      | inr (gone, same) ↦ (let at : l.place end ≡ Gone = ap l.place (sym same) ∙ gone in cc (at, end-place it))
    ]),
  )

  pub fork : changes.Fork (masked c l.place) (masked d place2) (Holder (Process p)) (Holder (child p r)) (Pair end) a1 a2 b1 b2
  fork = record {
    partner_n1 = partner-a1 it;
    partner_l1 = partner-a2 it;
    partner_n2 = partner-b1 it;
    partner_l2 = partner-b2 it;
    at_n1 = standing-some _ a2 _ (partner-a1 it) ∙ node-at _ a1 _ (Process p) place-a1;
    at_l1 = standing-some _ a1 _ (partner-a2 it) ∙ node-in _ a2 _ end place-a2;
    at_n2 = standing-some _ b2 _ (partner-b1 it) ∙ node-at _ b1 _ (child p r) place-b1;
    at_l2 = standing-some _ b1 _ (partner-b2 it) ∙ node-in _ b2 _ end place-b2;
    apart = ((λ i. child-not p r (let j : child p r ≡ Process p = cc i in j)), (λ i. cc i), (λ i. cc i));
    fresh = λ e. no-node-yet e (c.partner e) refl;
    partners = λ e i j k h. partner-old it e (ne e a1 i, ne e a2 j, ne e b1 k, ne e b2 h);
    others = λ e i j k h. others e (c.partner e) refl (ne e a1 i, ne e a2 j, ne e b1 k, ne e b2 h);
  }

  forest : NoCycle (graph d place2)
  forest = unmask d place2 (fork-forest same_end ends-apart same_node nodes-apart (masked c l.place) (masked d place2)
      (Holder (Process p)) (Holder (child p r)) (Pair end) a1 a2 b1 b2 fork (mask c l.place l.apart.forest))

  pub fork-lawful : IsNamed d → Lawful source d
  fork-lawful named = lawful-after source c d l p r r2 (Some r3) None channel2 remains hands named forest

-- the step of a fork keeps what is lawful
pub fork-kept : (source : Program) (c a : Configuration) (p : Path) (r : Running) (i : ℕ) (at : Spot) (x y : Ident) (one : Body) (z : Ident) (two : Body)
    → Lawful source c → c.nodes (Process p) ≡ Some (Runs r) → r.term ≡ Doing (b.Fork at x y one z two)
    → performs c (Process p) (act_of (world_of source) (Process p) (Runs r) i) ≡ Some a → Lawful source a
fork-kept source c a p r i at x y one z two l there is e =
    let t : IsTypedAt (world_of source) l.channel r = l.typed p r there in
    let good : TermIsWellFormed (world_of source) t.vars (held_ends l.channel r.ends) (Doing (b.Fork at x y one z two)) =
    subst (TermIsWellFormed (world_of source) t.vars (held_ends l.channel r.ends)) is t.term in
    let g = good.0 in
    let by_names : IsDividedByNames (world_of source) t.vars (held_ends l.channel r.ends) x y one z two =
    divided-by-names (world_of source) t.vars (held_ends l.channel r.ends) x y one z two g.0 g.1 in
    let (s, u, first, second, held, forks, new, well, well_too) = by_names in
    let (end, f, on) = held-end l.channel r.ends x.name (On s u) held in
    let j : (l.place end ≡ At (Process p)) × IsJoined c end = own-place source c l p r there x.name end f in
    let e1 : performs c (Process p) (term_command (world_of source) p r i (Doing (b.Fork at x y one z two))).act ≡ Some a =
    subst (λ q. performs c (Process p) (term_command (world_of source) p r i q).act ≡ Some a) is e in
    let does : End → Command = λ m. command k.Fork (Some m) (Moves (record {
      send = Some (m, EndPair (born p r 1 Second) (born p r 2 Second));
      channels = (born p r 1 First, born p r 1 Second) ∷ (born p r 2 First, born p r 2 Second) ∷ [];
      children = (child p r, newborn r two ((z.name, born p r 2 First) ∷ those (λ n. not (is_free n one)) (without_end x.name r.ends))) ∷ [];
      next = Some (onward r (Doing one) r.variables ((y.name, born p r 1 First) ∷ those (λ n. is_free n one) (without_end x.name r.ends)));
    })) in
    let e2 : performs c (Process p) (does end).act ≡ Some a = subst (λ q. performs c (Process p) (with_found k.Fork q does).act ≡ Some a) f e1 in
    subst (λ q. IsNamed q → Lawful source q) (some-is _ _ e2)
    (fork-lawful (record {
      source = source;
      c = c;
      l = l;
      p = p;
      r = r;
      there = there;
      x = x.name;
      y = y.name;
      z = z.name;
      one = one;
      two = two;
      keep = λ n. is_free n one;
      end = end;
      other = j.1.0;
      side = s;
      u = u;
      t = first;
      w = second;
      x_is = f;
      joined = j.1.1;
      is_on = on;
      forks = forks;
      new = new;
      trees = good.1;
      good = well;
      good_too = well_too;
    }))
    (names-kept source c a p r i l there e)
