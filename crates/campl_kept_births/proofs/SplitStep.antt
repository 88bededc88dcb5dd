-- A split keeps what is lawful.
use Rattle.std.proofs.Common.{◌≡◌, ◌≢◌, ◌⊎◌, ◌∙◌, inl, inr, refl, sym, ap, subst, ℕ, true, false, true≢false, List, [], ◌∷◌, Option, Some, None}
use Rattle.campl_tree.specs.declared.place.Place.{Place as Spot}
use Rattle.campl_tree.specs.declared.place.Ident.{Ident}
use Rattle.campl_tree.specs.Plain.Process as b
use Rattle.campl_tree.specs.Plain.Process.{Body}
use Rattle.campl_tree.specs.Plain.Decl.{Program}
use Rattle.campl_machine.specs.Names.{Path, End, Process, same_end}
use Rattle.campl_machine.specs.Machine.{Looks, looked, performs}
use Rattle.campl_machine.specs.Graph.{NoCycle}
use Rattle.campl_machine.specs.Changes as changes
use Rattle.campl_machine.proofs.Updates.{split}
use Rattle.campl_machine.proofs.Ends.{ne, same-end}
use Rattle.campl_machine.proofs.Performs.{does_of}
use Rattle.campl_machine.proofs.Shapes.{receipt-forest}
use Rattle.campl_types.specs.World.{world_of}
use Rattle.campl_types.specs.Held.{Channel, On}
use Rattle.campl_peel.specs.Terms.{Doing, TermIsWellFormed, held_ends}
use Rattle.campl_meaning.specs.States as k
use Rattle.campl_meaning.specs.States.{Command, Message, Word, Pick, EndPair, Ends, Running, State, Runs, Serves}
use Rattle.campl_meaning.specs.Bodies.{without_end}
use Rattle.campl_meaning.specs.Wants.{onward, on_ends, with_found, command, term_command}
use Rattle.campl_meaning.specs.Reductions.{Configuration, act_of}
use Rattle.campl_meaning.specs.Apart.{Place, At, In, Gone, IsCarried, IsNamed, Holder, Pair, owes_pair, node_of, graph}
use Rattle.campl_meaning.specs.Lawful.{Channels, IsTypedAt, Lawful}
use Rattle.campl_meaning.proofs.Holding.{held-end}
use Rattle.campl_frame.proofs.Listed.{some-is, lists, lists-found}
use Rattle.campl_frame.proofs.Alone.{alone-here, alone-others, alone-whose, alone-listed}
use Rattle.campl_frame.proofs.Stays.{carries}
use Rattle.campl_kept_births.proofs.Hands.{settled, Hands, at-other, at-own, lawful-after}
use Rattle.campl_frame.proofs.Leaving.{ends-apart, no-pair}
use Rattle.campl_kept_births.proofs.Masks.{masked, standing-some, standing-none, mask, unmask, node-at, node-in, node-gone, node-nowhere}
use Rattle.campl_kept_births.proofs.Newborn.{names-kept}
use Rattle.campl_kept_births.proofs.SplitEnds.{Splitting}
use Rattle.campl_kept_births.proofs.SplitEnds.{r2 as r2_of, d as d_of, channel2 as channel2_of, remains as remains_of, back, end-place, a-place, o-place, other-gone, end-a, end-o, end-other, channel-end, channel-a, channel-o, channel-old, seen-other, owed-other, owed-old}
use Rattle.campl_kept_births.proofs.SplitHeld.{tidy-both, in-own, has-a, has-o, all-kept, not-end, own-joined, own-free, carried-other, remains-end, remains-old, same-ends, typed, agree}

module _ (it : Splitting) where
  open it use {source, c, l, p, r, there, x, y, z, rest, end, other, a, o, side, u, t, w, x_is, joined, owes, is_on, splits, new, trees, good}

  abbrev r2 : Running
  r2 = r2_of it

  abbrev d : Configuration
  d = d_of it

  abbrev channel2 : Channels
  channel2 = channel2_of it

  abbrev remains : End → Place
  remains = remains_of it

  split-place : (e : End) (f : Place) → remains e ≡ f → ((e ≡ end) × (Gone ≡ f)) ⊎ ((end ≢ e) × (l.place e ≡ f))
  split-place e f i = elim (same-end e end) [
    | inl j ↦ inl (j, sym (remains-end it) ∙ subst (λ m. remains m ≡ f) j i)
    | inr n ↦ inr (ne e end n, sym (remains-old it e (ne e end n)) ∙ i)
  ]

  still-carried : (q e : End) → IsCarried (d.owed q) e → (IsCarried (c.owed q) e) × (other ≢ q)
  still-carried q e i = elim (same-end other q) [
    | inl j ↦ absurd (let m : IsCarried (d.owed other) e = subst (λ h. IsCarried (d.owed h) e) (sym j) i in let no : IsCarried [] e = subst (λ h. IsCarried h e) (owed-other it) m in no)
    | inr n ↦ (subst (λ h. IsCarried h e) (owed-old it q n) i, n)
  ]

  hands : Hands source c d l p r r2 None (Some other) channel2 remains
  hands = record {
    here = alone-here c.nodes (Process p) (Some (Runs r2));
    born = λ s i. absurd (cc i);
    others = alone-others c.nodes (Process p) (Some (Runs r2));
    whose = λ h s i. elim (alone-whose c.nodes (Process p) (Some (Runs r2)) h s i) [ inl (k, j) ↦ inl (k, sym (cc j)) | inr j ↦ inr (inr j) ];
    paired = l.apart.placed.paired;
    wired = λ e f i. i;
    idle = λ e i. elim (same-end other e) [
      | inl j ↦ subst (λ q. d.owed q ≡ []) j (owed-other it)
      | inr n ↦ owed-old it e n ∙ l.apart.placed.idle e i
    ];
    names = (tidy-both it).names;
    once = (tidy-both it).once;
    kin_names = λ s i. absurd (cc i);
    kin_once = λ s i. absurd (cc i);
    own_joined = λ e i. elim i [ inl j ↦ absurd (true≢false (sym j)) | inr j ↦ own-joined it e j ];
    own_free = λ e i. elim i [
      | inl j ↦ absurd (true≢false (sym j))
      | inr j ↦ elim (own-free it e j) [ inl m ↦ inr (inl m) | inr m ↦ inr (inr (other, refl, m)) ]
    ];
    shared = λ e i j. true≢false (sym i);
    finite = record {
      nodes = l.nodes;
      listed = alone-listed c d (Process p) (Runs r) (Some (Runs r2)) there (alone-whose c.nodes (Process p) (Some (Runs r2))) source l;
      ends = l.ends;
      joined = λ e j. l.joined e j;
    };
    rest_nowhere = λ e i j. elim (split (same_end end e)) [ inl h ↦ rw h refl | inr h ↦ rw h (l.apart.placed.nowhere e i) ];
    rest_same = λ e j n. remains-old it e (λ i. n (subst (λ m. l.place m ≡ At (Process p)) i (end-place it)));
    rest_at = λ e q j i m k. elim (split-place e (At q) k) [
      | inl (h, wrong) ↦ absurd (cc wrong)
      | inr (n, at) ↦ (j, at, λ h. all-kept it e j n (at ∙ ap At h) m)
    ];
    rest_in = λ q e j i m k. elim (split-place e (In q) k) [
      | inl (h, wrong) ↦ absurd (cc wrong)
      | inr (n, at) ↦ elim (same-end other q) [
        | inl h ↦ elim (carried-other it e (at ∙ ap In (sym h)) j) [
          | inl f ↦ absurd (true≢false (sym (subst (λ g. lists g r2.ends ≡ true) (sym f) (has-a it)) ∙ m))
          | inr f ↦ absurd (true≢false (sym (subst (λ g. lists g r2.ends ≡ true) (sym f) (has-o it)) ∙ m))
        ]
        | inr h ↦ subst (λ f. IsCarried f e) (sym (owed-old it q h)) (l.apart.placed.carrier q e j at)
      ]
    ];
    rest_gone = λ e j i m k. elim (split-place e Gone k) [
      | inl (h, wrong) ↦ inl (ap channel2 h ∙ channel-end it)
      | inr (n, at) ↦ inr (j, at)
    ];
    carried = λ q e i. let k : IsCarried (c.owed q) e × (other ≢ q) = still-carried q e i in inl (k.0, λ j. k.1 (some-is other q j));
    same_channel = λ e j n m. channel-old it e (λ i. n (subst (λ h. l.place h ≡ At (Process p)) i (end-place it))) (λ i. m other refl (subst (λ h. l.place h ≡ In other) i (a-place it).0))
        (λ i. m other refl (subst (λ h. l.place h ≡ In other) i (o-place it).0));
    typed = typed it;
    kin_typed = λ s i. absurd (cc i);
    types = λ n e f. elim (in-own it e (lists-found e r2.ends n f)) [
      | inl j ↦ (On side w, ap channel2 j ∙ channel-o it)
      | inr (inl j) ↦ (On side t, ap channel2 j ∙ channel-a it)
      | inr (inr (m, s, g)) ↦
          let ch : (ch : Channel) × (l.channel e ≡ Some ch) = l.has_type p e (r, m, there, g) in
          (ch.0, same-ends it m e s g ∙ ch.1)
    ];
    kin_types = λ s i. absurd (cc i);
    agree = agree it;
    pairs = λ q m n before after i. elim (same-end other q) [
      | inl j ↦ absurd (
          let k : IsCarried (d.owed q) m = subst (λ h. IsCarried h m) (sym i) (carries before after m n m (inl refl)) in
          (still-carried q m k).1 j
          )
      | inr j ↦ inl (sym (owed-old it q j) ∙ i, λ k. j (some-is other q k))
    ];
    pair_seen = λ q m n h before after i j k. seen-other it h (λ f.
        let back_h : c.partner h ≡ Some q = l.apart.placed.paired.back q h k in
        j (sym joined ∙ subst (λ g. c.partner g ≡ Some q) (sym f) back_h));
  }

  -- Part 6

  abbrev place2 : End → Place
  place2 = settled p r r2 None remains

  not-listed : (e : End) → l.place e ≢ At (Process p) → l.place e ≢ In other → lists e r2.ends ≡ false
  not-listed e n m = elim (split (lists e r2.ends)) [
    | inl i ↦ absurd (elim (own-free it e i) [ inl j ↦ n j | inr j ↦ m j ])
    | inr i ↦ i
  ]

  end-listed : lists end r2.ends ≡ false
  end-listed = elim (split (lists end r2.ends)) [
    | inl i ↦ absurd (elim (in-own it end i) [
      | inl j ↦ end-o it j
      | inr (inl j) ↦ end-a it j
      | inr (inr (n, s, f)) ↦ not-end it end n s f refl
    ])
    | inr i ↦ i
  ]

  place-end : place2 end ≡ Gone
  place-end = at-other source c d l p r r2 None (Some other) channel2 remains hands end refl end-listed ∙ remains-end it

  place-other : place2 other ≡ Gone
  place-other = at-other source c d l p r r2 None (Some other) channel2 remains hands other refl
      (not-listed other (λ i. cc (i, (other-gone it).0)) (λ i. cc (i, (other-gone it).0))) ∙ (remains-old it other (end-other it) ∙ (other-gone it).0)

  unmoved : (e : End) (q : Option End) → c.partner e ≡ q → end ≢ e → other ≢ e →
      ((masked d place2).at e ≡ (masked c l.place).at e) ⊎ (((masked c l.place).at e ≡ Some (Pair other)) × ((masked d place2).at e ≡ Some (Holder (Process p))))
  unmoved e None i n m = inl (standing-none _ _ i ∙ sym (standing-none _ _ i))
  unmoved e (Some f) i n m = elim (split (lists e r2.ends)) [
    | inl k ↦ elim (own-free it e k) [
      | inl h ↦ inl (now k ∙ sym (standing-some _ f _ i ∙ node-at _ e _ (Process p) h))
      | inr h ↦ inr (standing-some _ f _ i ∙ node-in _ e _ other h, now k)
    ]
    | inr k ↦ inl (
        (standing-some _ f _ i ∙ (ap (λ g. node_of g e (d.owed e)) (at-other source c d l p r r2 None (Some other) channel2 remains hands e refl k ∙ remains-old it e n) ∙ ap (node_of (l.place e) e) (owed-old it e m)))
        ∙ sym (standing-some _ f _ i)
        )
  ]
    where
      now : lists e r2.ends ≡ true → (masked d place2).at e ≡ Some (Holder (Process p))
      now k = standing-some _ f _ i ∙ node-at _ e _ (Process p) (at-own source c d l p r r2 None (Some other) channel2 remains hands e k)

  receipt : changes.Receipt (masked c l.place) (masked d place2) (Holder (Process p)) (Pair other) end other
  receipt = record {
    lies = record {
      there = joined;
      back = back it;
      from = standing-some _ other _ joined ∙ node-at _ end _ (Process p) (end-place it);
      to = standing-some _ end _ (back it) ∙ node-gone _ other _ (other-gone it).0 (ap owes_pair owes);
    };
    partners = refl;
    gone = λ e i. elim i [
      | inl j ↦ subst (λ q. (masked d place2).at q ≡ None) (sym j) (standing-some _ other _ joined ∙ node-nowhere _ end _ place-end (ap owes_pair (owed-old it end (ne end other (end-other it))) ∙ no-pair source c l (Process p) end (end-place it)))
      | inr j ↦ subst (λ q. (masked d place2).at q ≡ None) (sym j) (standing-some _ end _ (back it) ∙ node-nowhere _ other _ place-other (ap owes_pair (owed-other it)))
    ];
    others = λ e n m. unmoved e (c.partner e) refl (ne e end n) (ne e other m);
  }

  forest : NoCycle (graph d place2)
  forest = unmask d place2 (receipt-forest same_end ends-apart (masked c l.place) (masked d place2) (Holder (Process p)) (Pair other) end other receipt (mask c l.place l.apart.forest))

  pub split-lawful : IsNamed d → Lawful source d
  split-lawful named = lawful-after source c d l p r r2 None (Some other) channel2 remains hands named forest

-- The step of a split

-- only a pair is taken
taken-pair : (f : End → End → Option State) (m : Message) (s : State) → on_ends f m ≡ Some s → (a : End) × (o : End) × (m ≡ EndPair a o) × (f a o ≡ Some s)
taken-pair f (Word v) s i = absurd (cc i)
taken-pair f (Pick n) s i = absurd (cc i)
taken-pair f (EndPair a o) s i = (a, o, refl, i)

-- a split of a process keeps what is lawful
pub split-kept : (source : Program) (c a : Configuration) (p : Path) (r : Running) (i : ℕ) (at : Spot) (x y z : Ident) (rest : Body)
    → Lawful source c → c.nodes (Process p) ≡ Some (Runs r) → r.term ≡ Doing (b.Then (b.Split at x y z) rest)
    → performs c (Process p) (act_of (world_of source) (Process p) (Runs r) i) ≡ Some a → Lawful source a
split-kept source c a p r i at x y z rest l there is e =
    let t : IsTypedAt (world_of source) l.channel r = l.typed p r there in
    let good : TermIsWellFormed (world_of source) t.vars (held_ends l.channel r.ends) (Doing (b.Then (b.Split at x y z) rest)) =
    subst (TermIsWellFormed (world_of source) t.vars (held_ends l.channel r.ends)) is t.term in
    let (s, u, first, second, held, splits, new, well) = good.0 in
    let (end, f, on) = held-end l.channel r.ends x.name (On s u) held in
    let e1 : performs c (Process p) (term_command (world_of source) p r i (Doing (b.Then (b.Split at x y z) rest))).act ≡ Some a =
    subst (λ q. performs c (Process p) (term_command (world_of source) p r i q).act ≡ Some a) is e in
    let next : End → End → Option State = λ g h. Some (onward r (Doing rest) r.variables ((z.name, h) ∷ (y.name, g) ∷ without_end x.name r.ends)) in
    let e2 : performs c (Process p) (Looks true end (on_ends next)) ≡ Some a =
    subst (λ q. performs c (Process p) (with_found k.Split q (λ m. command k.Split (Some m) (Looks true m (on_ends next)))).act ≡ Some a) f e1 in
    let (other, m, ms, state, joined, owes, fits, same) = does_of c (Process p) (Looks true end (on_ends next)) a e2 in
    let (g, h, pair, goes) = taken-pair next m state fits in
    let owes2 : c.owed other ≡ EndPair g h ∷ ms = owes ∙ ap (λ (q : Message). q ∷ ms) pair in
    let last : ms ≡ [] = l.pairs.last other g h [] ms owes2 in
    let owes3 : c.owed other ≡ EndPair g h ∷ [] = owes2 ∙ ap (λ (q : List Message). EndPair g h ∷ q) last in
    let state_is : state ≡ onward r (Doing rest) r.variables ((z.name, h) ∷ (y.name, g) ∷ without_end x.name r.ends) = sym (some-is _ _ goes) in
    subst (λ q. IsNamed q → Lawful source q) (sym (same ∙ ap (looked c (Process p) true other) state_is))
    (split-lawful (record {
      source = source;
      c = c;
      l = l;
      p = p;
      r = r;
      there = there;
      x = x.name;
      y = y.name;
      z = z.name;
      rest = rest;
      end = end;
      other = other;
      a = g;
      o = h;
      side = s;
      u = u;
      t = first;
      w = second;
      x_is = f;
      joined = joined;
      owes = owes3;
      is_on = on;
      splits = splits;
      new = new;
      trees = good.1;
      good = well;
    }))
    (names-kept source c a p r i l there e)
