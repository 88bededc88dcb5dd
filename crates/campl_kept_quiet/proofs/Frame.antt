-- A step of a process that changes only its own state keeps a configuration lawful.
use Rattle.std.proofs.Common.{◌≡◌, ◌≢◌, ◌∙◌, ◌⊎◌, inl, inr, refl, sym, ap, subst, true, false, List, Option, Some, None, option_map, true≢false}
use Rattle.campl_tree.specs.Plain.Decl.{Program}
use Rattle.campl_machine.specs.Names.{Path, End, Who, Process, same_who}
use Rattle.campl_machine.proofs.Updates.{split}
use Rattle.campl_machine.proofs.Same.{same_who-is, same_who-refl}
use Rattle.campl_types.specs.Names.{Name, found}
use Rattle.campl_types.specs.World.{World, world_of}
use Rattle.campl_types.specs.Views.{View, turned}
use Rattle.campl_types.specs.Held.{Channel, On}
use Rattle.campl_meaning.specs.States.{Message, Running, Attending, State, Runs, Serves}
use Rattle.campl_meaning.specs.Reductions.{Configuration}
use Rattle.campl_meaning.specs.Views.{TakesAll}
use Rattle.campl_meaning.specs.Apart.{Place, At, In, Gone, IsPlaced, IsJoined, IsNamed, IsOfKind}
use Rattle.campl_meaning.specs.Lawful.{Channels, seen, Agree, Lawful}
use Rattle.campl_frame.specs.Frame.{Holds, IsSpent, IsLocal}
use Rattle.campl_frame.proofs.Alone.{IsOneOf, alone-here, alone-others, alone-whose, alone-listed, alone-named}
use Rattle.campl_frame.proofs.Held.{own-found}
use Rattle.campl_frame.proofs.Leaving.{leaving, sorts, stays-put, stays-kept, was-put, was-gone, leaving-forest}
use Rattle.campl_frame.proofs.Frame.{local-lawful}
use Rattle.campl_kept_quiet.specs.Quiet.{IsAlike, IsQuiet, behind}
use Rattle.campl_kept_quiet.proofs.Alike.{alike-seen, alike-none, alike-on, alike-top}

-- views and types that are alike
takes-alike : (w : World) (channel after : Channels) (e : End) (ms : List Message) (v : View) → IsAlike (channel e) (after e) → TakesAll w (seen channel e) ms v → TakesAll w (seen after e) ms v
takes-alike w channel after e ms v a h = subst (λ z. TakesAll w z ms v) (sym (alike-seen (channel e) (after e) a)) h

-- a process's next state is one that runs
next-is : (o : Option Running) (s : State) → option_map Runs o ≡ Some s → (t : Running) × (o ≡ Some t) × (s ≡ Runs t)
next-is None s i = absurd (cc i)
next-is (Some t) s i = (t, refl, cc i)

next-runs : (o : Option Running) (s : Running) → option_map Runs o ≡ Some (Runs s) → o ≡ Some s
next-runs None s i = absurd (cc i)
next-runs (Some t) s i = ap Some (cc i)

next-serves : (o : Option Running) (a : Attending) → option_map Runs o ≡ Some (Serves a) → ⊥
next-serves None a i = cc i
next-serves (Some t) a i = cc i

module _ (source : Program) (c : Configuration) (l : Lawful source c) (p : Path) (r : Running) (next : Option Running) (is : c.nodes (Process p) ≡ Some (Runs r)) (q : IsQuiet source l.channel l.place p r next) where
  abbrev w : World
  w = world_of source

  abbrev d : Configuration
  d = behind c p next

  abbrev place2 : End → Place
  place2 = leaving (Process p) q.kept l.place

  abbrev IsNew : Who → State → Type 0
  IsNew v s = (v ≡ Process p) × (option_map Runs next ≡ Some s)

  whose : (v : Who) (s : State) → d.nodes v ≡ Some s → IsOneOf c.nodes (Process p) (option_map Runs next) v s
  whose = alone-whose c.nodes (Process p) (option_map Runs next)

  new-here : (v : Who) (s : State) → IsNew v s → d.nodes v ≡ Some s
  new-here v s (i, j) = ap d.nodes i ∙ (alone-here c.nodes (Process p) (option_map Runs next) ∙ j)

  abbrev placed : IsPlaced c l.place
  placed = l.apart.placed

  -- Ends

  -- what p holds now is an end that it keeps
  mine : (v : Who) (s : State) (e : End) → IsNew v s → Holds s e → (place2 e ≡ At v) × IsJoined d e
  mine v s e (k, j) h =
      let (t, i, g) = next-is next s j in
      let (x, f) : Holds (Runs t) e = subst (λ z. Holds z e) g h in
      let (kept, (y, f2)) = q.came t x e i f in
      let (at, joined) = placed.held p e (r, y, is, f2) in
      (stays-kept (Process p) q.kept l.place e kept ∙ (at ∙ ap At (sym k)), joined)

  stands : (v : Who) (e : End) → IsJoined d e → place2 e ≡ At v → ((s : State) × IsNew v s × Holds s e) ⊎ ((v ≢ Process p) × (l.place e ≡ At v) × IsJoined c e)
  stands v e j i = go (was-put (Process p) q.kept l.place e (At v) i (λ k. cc k)) (split (same_who (Process p) v))
    where
      go : l.place e ≡ At v → (same_who (Process p) v ≡ true) ⊎ (same_who (Process p) v ≡ false) → ((s : State) × IsNew v s × Holds s e) ⊎ ((v ≢ Process p) × (l.place e ≡ At v) × IsJoined c e)
      go at (inr n) = inr ((λ k. true≢false (sym (same_who-refl (Process p)) ∙ (ap (same_who (Process p)) (sym k) ∙ n))), at, j)
      go at (inl k) = elim (sorts (Process p) q.kept l.place e) [
        | inr (m, n, o) ↦ absurd (cc (m, i))
        | inl (m, n) ↦
            let pv : Process p ≡ v = same_who-is (Process p) v k in
            let own : l.place e ≡ At (Process p) = at ∙ ap At (sym pv) in
            let (x, f) = own-found source c l p r is e j own in
            let (t, y, g, h) = q.stays x e f (n own) in
            inl (Runs t, (sym pv, ap (option_map Runs) g), (y, h))
      ]

  gone : (e : End) → IsJoined d e → place2 e ≡ Gone → IsSpent (q.after e) ⊎ ((l.place e ≡ Gone) × IsJoined c e)
  gone e j i = elim (was-gone (Process p) q.kept l.place e i) [
    | inl g ↦ inr (g, j)
    | inr (at, k) ↦ let (x, f) = own-found source c l p r is e j at in inl (alike (q.given x e f k))
  ]
    where
      alike : IsSpent (l.channel e) → IsSpent (q.after e)
      alike (inl n) = inl (alike-none (l.channel e) (q.after e) (q.alike e) n)
      alike (inr (s, n)) = inr (s, alike-top (l.channel e) (q.after e) s (q.alike e) n)

  -- Types

  types : (s : Running) (x : Name) (e : End) → next ≡ Some s → found x s.ends ≡ Some e → (b : Channel) × (q.after e ≡ Some b)
  types s x e i f = let (y, g) = (q.came s x e i f).1 in let (a, h) = l.has_type p e (r, y, is, g) in alike a h
    where
      alike : (a : Channel) → l.channel e ≡ Some a → (b : Channel) × (q.after e ≡ Some b)
      alike (On z t) j = let (u, g, h) = alike-on (l.channel e) (q.after e) z t (q.alike e) j in (On z u, g)

  agree : (e f : End) → c.partner e ≡ Some f → Agree w d q.after e f
  agree e f i =
      let a : Agree w c l.channel e f = l.agree e f i in
      record {
        left = a.left;
        mine = takes-alike w l.channel q.after e (c.owed f) a.left (q.alike e) a.mine;
        yours = takes-alike w l.channel q.after f (c.owed e) (turned a.left) (q.alike f) a.yours;
      }

  named : IsNamed d
  named = alone-named c d (Process p) (Runs r) (option_map Runs next) is whose l.apart.named (λ e j. j) (λ s i. (r, refl, q.steps s (next-runs next s i)))

  local : IsLocal source c d l (Process p) IsNew None q.after place2
  local = record {
    here = new-here;
    others = alone-others c.nodes (Process p) (option_map Runs next);
    whose = whose;
    nodes = l.nodes;
    listed = alone-listed c d (Process p) (Runs r) (option_map Runs next) is whose source l;
    ends = l.ends;
    within = l.joined;
    paired = placed.paired;
    joined = λ e j n. j;
    idle = placed.idle;
    named = named;
    forest = leaving-forest source c l d (Process p) q.kept refl (λ e. refl);
    place = λ e j n m. stays-put (Process p) q.kept l.place e n;
    channel = λ e j n m. q.others e n;
    own = mine;
    at = stands;
    carrier = λ z e j i. placed.carrier z e j (was-put (Process p) q.kept l.place e (In z) i (λ k. cc k));
    carried = λ z e i. inl (i, λ n. cc n);
    gone = gone;
    nowhere = λ e i. let g : l.place e ≡ Gone = placed.nowhere e i in stays-put (Process p) q.kept l.place e (λ k. cc (g, k)) ∙ g;
    kinds = λ v s (k, j). let (t, i, g) = next-is next s j in subst (λ z. IsOfKind z s) (sym k) (subst (IsOfKind (Process p)) (sym g) tt);
    names = λ v s (k, j). q.names s (next-runs next s j);
    once = λ v s x y e (k, j). q.ends s x y e (next-runs next s j);
    typed = λ v s (k, j). q.typed s (next-runs next s j);
    types = λ v s x e (k, j). types s x e (next-runs next s j);
    phases = λ v a (k, j). absurd (next-serves next a j);
    shut = λ v a (k, j). absurd (next-serves next a j);
    agree = agree;
    pairs = λ z a b before after i. inl (record { owed = i; untaken = λ n. cc n; partner = λ y j. (j, alike-seen (l.channel y) (q.after y) (q.alike y)) });
  }

  pub frame : Lawful source d
  frame = local-lawful source c d l (Process p) IsNew None q.after place2 local
