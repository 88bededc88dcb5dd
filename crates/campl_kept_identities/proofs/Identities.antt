-- An identity keeps a lawful configuration lawful.
use Rattle.std.proofs.Common.{◌≡◌, ℕ, Bool, [], inl, inr, refl, sym, ap, subst, ◌∙◌, Option, Some, None, true≢false}
use Rattle.campl_tree.specs.declared.place.Place.{Place}
use Rattle.campl_tree.specs.declared.place.Ident.{Ident}
use Rattle.campl_tree.specs.Plain.Process as b
use Rattle.campl_tree.specs.Plain.Decl.{Program}
use Rattle.campl_machine.specs.Names.{Path, End, Process}
use Rattle.campl_machine.specs.Machine.{Act, Links, linked, Does}
use Rattle.campl_machine.specs.Graph.{Leads}
use Rattle.campl_types.specs.Names.{Name, same_name, found}
use Rattle.campl_types.specs.World.{World, world_of}
use Rattle.campl_types.specs.Held.{Channel, On, Held}
use Rattle.campl_types.specs.Linear.{IsWellFormed}
use Rattle.campl_types.specs.Views.{turned}
use Rattle.campl_types.proofs.Names.{same-itself, split-names}
use Rattle.campl_peel.specs.Terms.{TermIsWellFormed, held_ends}
use Rattle.campl_meaning.specs.States.{Message, Ends, Running, State, Runs, Link}
use Rattle.campl_meaning.specs.Wants.{with_found, next_command, term_command}
use Rattle.campl_meaning.specs.Reductions.{Configuration, act_of}
use Rattle.campl_meaning.specs.Apart.{Place as PlaceOf, At, IsJoined, Holder, graph, node_of}
use Rattle.campl_meaning.specs.Views.{view_in}
use Rattle.campl_meaning.specs.Lawful.{Channels, IsTypedAt, Lawful}
use Rattle.campl_meaning.specs.Kept.{Goes}
use Rattle.campl_meaning.proofs.Steps.{does-of-goes}
use Rattle.campl_meaning.proofs.Holding.{held-end}
use Rattle.campl_kept_identities.specs.Identities.{IsIdentityAt}
use Rattle.campl_kept_identities.proofs.Takes.{joined-views}
use Rattle.campl_kept_identities.proofs.Around.{around}
use Rattle.campl_kept_identities.proofs.Links.{IsIdentity, linked-lawful}

-- An end under a name

-- and where none is held, the end that stands there has nothing more
pub not-held : (channel : Channels) (es : Ends) (n : Name) (e : End) → held_ends channel es n ≡ None → found n es ≡ Some e → channel e ≡ None
not-held channel es n e i j = let q : channel e ≡ None = rw j at i in q

-- The two ends of an identity

joins : (w : World) (p : Path) (r : Running) (i : ℕ) (at : Place) (x : Name) (negated : Bool) (y : Ident) (e f : End) → found x r.ends ≡ Some e → found y.name r.ends ≡ Some f →
    (next_command w p r i (b.Identity at x negated y)).act ≡ Links e f
joins w p r i at x negated y e f fx fy =
    ap (λ (o : Option End). (with_found Link o (λ (a : End). with_found Link (found y.name r.ends) (λ (z : End). record { kind = Link; end = Some a; second = Some z; act = Links a z }))).act) fx
    ∙ ap (λ (o : Option End). (with_found Link o (λ (z : End). record { kind = Link; end = Some e; second = Some z; act = Links e z })).act) fy

module _ (source : Program) (c : Configuration) (l : Lawful source c) (p : Path) (r : Running) (at : Place) (x : Name) (negated : Bool) (y : Ident) (k : IsIdentityAt c p r at x negated y) where
  abbrev w : World
  w = world_of source

  abbrev holds : Held
  holds = held_ends l.channel r.ends

  typed : IsTypedAt w l.channel r
  typed = l.typed p r k.there

  well-formed : IsWellFormed w typed.vars holds (b.Identity at x negated y)
  well-formed = (subst (λ t. TermIsWellFormed w typed.vars holds t) k.term typed.term).0

  -- an end that the process holds
  stands : (n : Name) (e : End) → found n r.ends ≡ Some e → (l.place e ≡ At (Process p)) × IsJoined c e
  stands n e i = l.apart.placed.held p e (r, n, k.there, i)

  -- its two ends and their partners
  pub record HasEnds (e f e2 f2 : End) : Type 0 where
    pub first : found x r.ends ≡ Some e
    pub second : found y.name r.ends ≡ Some f
    pub identity : IsIdentity source c l (Process p) e f e2 f2

  pub has-ends : (e : End) × (f : End) × (e2 : End) × (f2 : End) × HasEnds e f e2 f2
  has-ends =
      let (s, t, q, u, hx, hy, differ, joined, only) = well-formed in
      let (e, fx, ce) = held-end l.channel r.ends x (On s t) hx in
      let (f, fy, cf) = held-end l.channel r.ends y.name (On q u) hy in
      let (ae, (e2, pe)) = stands x e fx in
      let (af, (f2, pf)) = stands y.name f fy in (
        e,
        f,
        e2,
        f2,
        record {
          first = fx;
          second = fy;
          identity = record {
            partner_x = pe;
            partner_y = pf;
            two_ends = λ i. true≢false (sym (same-itself x) ∙ (ap (same_name x) (l.apart.placed.ends p r x y.name e k.there fx (fy ∙ ap Some (sym i))) ∙ differ));
            two_channels = λ i.
                let own : c.partner e ≡ Some f = pe ∙ ap Some i in
                let loop : Leads (graph c l.place) e f (Holder (Process p)) (Holder (Process p)) = record {
                  there = own;
                  back = l.apart.placed.paired.back e f own;
                  from = ap (λ (o : PlaceOf). node_of o e (c.owed e)) ae;
                  to = ap (λ (o : PlaceOf). node_of o f (c.owed f)) af;
                } in
                l.apart.forest e [] (Holder (Process p)) (f, Holder (Process p), loop, refl) (tt, tt);
            at_x = ae;
            at_y = af;
            views = ap view_in cf ∙ (joined-views negated s q t u joined ∙ ap (λ (z : Option Channel). turned (view_in z)) (sym ce));
            alone = λ g j ag.
                let (o, n, io, fn) = l.apart.placed.holder p g j ag in
                let same : o ≡ r = cc (io, k.there) in
                let fr : found n r.ends ≡ Some g = subst (λ (z : Running). found n z.ends ≡ Some g) same fn in
                elim (split-names n x) [
                  | inl i ↦ inl (cc (ap (λ (z : Name). found z r.ends) i, fr, fx))
                  | inr i ↦ elim (split-names n y.name) [
                    | inl j2 ↦ inr (inl (cc (ap (λ (z : Name). found z r.ends) j2, fr, fy)))
                    | inr j2 ↦ inr (inr (not-held l.channel r.ends n g (only n (rw (i, j2) refl)) fr))
                  ]
                ];
          };
        },
      )

  -- what the process does
  links : (i : ℕ) (e f : End) → found x r.ends ≡ Some e → found y.name r.ends ≡ Some f → act_of w (Process p) (Runs r) i ≡ Links e f
  links i e f fx fy = ap (λ t. (term_command w p r i t).act) k.term ∙ joins w p r i at x negated y e f fx fy

  does-kept : (d : Configuration) (i : ℕ) → Does c (Process p) (act_of w (Process p) (Runs r) i) d → Lawful source d
  does-kept d i g =
      let (e, f, e2, f2, h) = has-ends in
      let step : Does c (Process p) (Links e f) d = subst (λ (a : Act State Message). Does c (Process p) a d) (links i e f h.first h.second) g in
      let (a2, b2, pa, pb, ef, af, is) = step in
      let ea : e2 ≡ a2 = cc (h.identity.partner_x, pa) in
      let fb : f2 ≡ b2 = cc (h.identity.partner_y, pb) in
      let done : Lawful source (linked c (Process p) e f e2 f2) = linked-lawful source c (linked c (Process p) e f e2 f2) l (Process p) e f e2 f2 h.identity
      (around c (Process p) e f e2 f2 l.apart.placed.paired h.identity.partner_x h.identity.partner_y h.identity.two_ends h.identity.two_channels) in
      let same : linked c (Process p) e f e2 f2 ≡ linked c (Process p) e f a2 b2 = λ j. linked c (Process p) e f (ea j) (fb j) in
      subst (Lawful source) (same ∙ sym is) done

  -- what it leads to is lawful
  pub link-kept : (d : Configuration) → Goes w c (Process p) d → Lawful source d
  link-kept d g =
      let (i, e) = does-of-goes w c d (Process p) (Runs r) k.there g in
      does-kept d i e
