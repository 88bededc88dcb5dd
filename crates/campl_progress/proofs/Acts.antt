-- What the next command of a lawful process does: each but an evaluation that says Deep moves, links, or is a receipt that takes what fits its view.
use Rattle.std.proofs.Common.{◌≡◌, ◌≢◌, ℕ, zero, suc, arith, Bool, true, false, ◌&&◌, List, [], ◌∷◌, ◌++◌, inl, inr, refl, sym, ap, subst, ◌∙◌, true≢false, Option, Some, None, if◌then◌else◌, option_map, length, slice_get}
use Rattle.campl_tree.specs.declared.place.Ident.{Ident}
use Rattle.campl_tree.specs.declared.service.Side.{Side}
use Rattle.campl_tree.specs.declared.service.Side.TheVariants.{Input, Output}
use Rattle.campl_tree.specs.Plain.Decl.{ProcessDecl}
use Rattle.campl_tree.specs.Plain.SeqType.{SeqType}
use Rattle.campl_tree.specs.Plain.ChanType.{ChanType}
use Rattle.campl_tree.specs.Plain.Pattern.{Pattern}
use Rattle.campl_tree.specs.Plain.Process as b
use Rattle.campl_tree.specs.Plain.Process.{Body, HcaseRows, CaseRows, Branches, Parts}
use Rattle.campl_value.specs.Tree.{Tree}
use Rattle.campl_machine.specs.Names.{Path, End, Who, Process, same_end}
use Rattle.campl_machine.specs.Machine.{Act, Moves, Looks, Links, Stands, Breaks, linked, performs}
use Rattle.campl_machine.proofs.Same.{same_end-is}
use Rattle.campl_machine.proofs.Updates.{split}
use Rattle.campl_machine.specs.Graph.{Leads}
use Rattle.campl_types.specs.Names.{Name, same_name, found}
use Rattle.campl_types.proofs.Names.{same-is, same-itself}
use Rattle.campl_types.specs.World.{World, process_named}
use Rattle.campl_types.specs.Fits.{Vars}
use Rattle.campl_types.specs.Held.{Held, Channel, On}
use Rattle.campl_types.specs.Linear.{IsWellFormed, BranchesAreWellFormed, AreHanded, ProcessIsTyped, body_rows, receives_on}
use Rattle.campl_types.specs.Matching.{first_match, number_of}
use Rattle.campl_types.specs.Polarity.{ProtocolsAreKnown, CoprotocolsAreKnown, Deed, Puts, Gets, Forks, Splits, Picks, Offers, Ends, IsLinked, Choices, deed}
use Rattle.campl_types.specs.Sequential.{Found, Checked}
use Rattle.campl_types.specs.Views.{View, deed_of, side_of}
use Rattle.campl_evaluation.specs.Evaluation.{Answer, Done, Deep, Wrong, More, value_of, values_of}
use Rattle.campl_evaluation.specs.Typed.{AreBound, Fine}
use Rattle.campl_evaluation.specs.Worlds.{IsSoundWorld}
use Rattle.campl_evaluation.proofs.Sources.{put-fine, arguments-fine, case-goes, row_body}
use Rattle.campl_peel.specs.Numbered.{last_first}
use Rattle.campl_peel.specs.Peel.{Peel, peel_of}
use Rattle.campl_peel.specs.Terms.{Term, Doing, Plugging, TermIsWellFormed, held_ends}
use Rattle.campl_peel.specs.Trees.{PlugsAreTrees}
use Rattle.campl_peel.proofs.Terms.{term-peels}
use Rattle.campl_meaning.specs.States as k
use Rattle.campl_meaning.specs.States.{Message, Word, Pick, EndPair, Running, Attending, State, Runs, Serves, Kind, Command}
use Rattle.campl_meaning.specs.Bodies.{row_at, branch_at, are_held, handed, both_ends}
use Rattle.campl_meaning.specs.Wants.{command, with_found, with_answer, peels, chooses, next_command, term_command, on_word, on_pick, on_ends}
use Rattle.campl_meaning.specs.Reductions.{Configuration}
use Rattle.campl_meaning.specs.Views.{view_of, view_in, taken_at, Takes}
use Rattle.campl_meaning.specs.Apart.{Place, At, IsJoined, IsApart, Holder, graph}
use Rattle.campl_meaning.specs.Lawful.{Channels, seen}
use Rattle.campl_types.proofs.EachOnce.{each-one, one-row}
use Rattle.campl_progress.specs.Deep.{BodyIsDeep, TermIsDeep, BodyIsWrong, TermIsWrong}
use Rattle.campl_types.proofs.Choices.{choices-of, choice-number, found-number}
use Rattle.campl_progress.proofs.Waits.{IsWaiting, Waits, Alike, alike}
use Rattle.campl_types.specs.Values.{IsValue, AllAreValues}

-- what a step wants of its node: a receipt's end stands there, its view waits, and each message that fits the view is taken
pub record IsReceipt (w : World) (c : Configuration) (channel : Channels) (place : End → Place) (who : Who) (x : End) (f : Message → Option State) : Type 0 where
  pub at : place x ≡ At who
  pub joined : IsJoined c x
  pub waits : Waits w (seen channel x)
  pub takes : (m : Message) (next : View) → Takes w (seen channel x) m next → (s : State) × (f m ≡ Some s)

-- it moves, is such a receipt, links, or else it stands or breaks with this to say
abbrev pub Answers : World → Configuration → Channels → (End → Place) → Who → (stands deep : Type 0) → Act State Message → Type 0
Answers w c channel place who stands deep (Moves m) = Unit {0}
Answers w c channel place who stands deep (Looks t x f) = IsReceipt w c channel place who x f
Answers w c channel place who stands deep (Links x y) = (d : Configuration) × (performs c who (Links x y) ≡ Some d)
Answers w c channel place who stands deep Stands = stands
Answers w c channel place who stands deep Breaks = deep

-- Receipts

-- a message that fits is of the receipt's kind
word-fits : (w : World) (s : Side) (u : ChanType) (t : SeqType) (y : ChanType) (f : Tree → Option State) → deed w s u ≡ Gets t y → ((v : Tree) → (s : State) × (f v ≡ Some s)) →
    (m : Message) (next : View) → Takes w (view_of s u) m next → (st : State) × (on_word f m ≡ Some st)
word-fits w s u t y f d h m next k =
    let (a, z, e) = subst (λ q. Alike q (deed_of w (view_of s u))) d (alike w s u) in
    go a z m (subst (λ q. taken_at w (side_of (view_of s u)) q m next) e k)
  where
    go : (a : SeqType) (z : ChanType) (m : Message) → taken_at w (side_of (view_of s u)) (Gets a z) m next → (st : State) × (on_word f m ≡ Some st)
    go a z (Word v) k = h v
    go a z (Pick n) k = absurd k
    go a z (EndPair e g) k = absurd k

ends-fit : (w : World) (s : Side) (u x y : ChanType) (f : End → End → Option State) → deed w s u ≡ Splits x y → ((e g : End) → (s : State) × (f e g ≡ Some s)) →
    (m : Message) (next : View) → Takes w (view_of s u) m next → (st : State) × (on_ends f m ≡ Some st)
ends-fit w s u x y f d h m next k =
    let (a, z, e) = subst (λ q. Alike q (deed_of w (view_of s u))) d (alike w s u) in
    go a z m (subst (λ q. taken_at w (side_of (view_of s u)) q m next) e k)
  where
    go : (a z : ChanType) (m : Message) → taken_at w (side_of (view_of s u)) (Splits a z) m next → (st : State) × (on_ends f m ≡ Some st)
    go a z (EndPair e g) k = h e g
    go a z (Pick n) k = absurd k
    go a z (Word v) k = absurd k

pick-fits : (w : World) (s : Side) (u : ChanType) (cs : Choices) (f : ℕ → Option State) → deed w s u ≡ Offers cs → ((n : ℕ) (x : Name) (t : ChanType) → slice_get cs n ≡ Some (x, t) → (s : State) × (f n ≡ Some s)) →
    (m : Message) (next : View) → Takes w (view_of s u) m next → (st : State) × (on_pick f m ≡ Some st)
pick-fits w s u cs f d h m next k =
    let (ds, e, names) = subst (λ q. Alike q (deed_of w (view_of s u))) d (alike w s u) in
    go ds names m (subst (λ q. taken_at w (side_of (view_of s u)) q m next) e k)
  where
    go : (ds : Choices) → ((n : ℕ) (x : Name) (t : ChanType) → slice_get ds n ≡ Some (x, t) → (u : ChanType) × (slice_get cs n ≡ Some (x, u))) →
        (m : Message) → taken_at w (side_of (view_of s u)) (Offers ds) m next → (st : State) × (on_pick f m ≡ Some st)
    go ds names (Pick n) (x, t, at, q) = let (v, there) = names n x t at in h n x v there
    go ds names (EndPair e g) k = absurd k
    go ds names (Word v) k = absurd k

waits-if : (w : World) (s : Side) (u : ChanType) → IsWaiting (deed w s u) → Waits w (view_of s u)
waits-if w s u h = go (deed w s u) h (alike w s u)
  where
    go : (d : Deed) → IsWaiting d → Alike d (deed_of w (view_of s u)) → Waits w (view_of s u)
    go (Gets t y) h (a, z, e) = subst IsWaiting (sym e) tt
    go (Splits t y) h (a, z, e) = subst IsWaiting (sym e) tt
    go (Offers cs) h (ds, e, names) = subst IsWaiting (sym e) tt
    go (Puts t y) h q = absurd h
    go (Forks t y) h q = absurd h
    go (Picks cs) h q = absurd h
    go Ends h q = absurd h
    go IsLinked h q = absurd h

-- Rows

and-true : (a : Bool) → a ≡ true → (a && true) ≡ true
and-true a i = rw i refl

-- the row of `case`
row-there : (rows : CaseRows) (i : ℕ) (q : Pattern × Body) → row_body rows i ≡ Some q → row_at rows i ≡ Some q.1
row-there b.no_case_rows i q h = absurd (cc h)
row-there (b.case_row_then p body rows) zero q h =
    let e : ◌≡◌ {A = Pattern × Body} (p, body) q = cc h in
    ap (λ (z : Pattern × Body). Some z.1) e
row-there (b.case_row_then p body rows) (suc i) q h = row-there rows i q h

-- Ends that are held

held-at : (channel : Channels) (es : k.Ends) (x : Name) (h : Channel) → held_ends channel es x ≡ Some h → (e : End) × (found x es ≡ Some e) × (channel e ≡ Some h)
held-at channel es x h i = go (found x es) refl
  where
    go : (o : Option End) → found x es ≡ o → (e : End) × (found x es ≡ Some e) × (channel e ≡ Some h)
    go None e = absurd (cc (rw e at i))
    go (Some f) e = (f, e, rw e at i)

-- the ends that a call hands over are all held
handed-there : (channel : Channels) (es : k.Ends) (side : Side) (ys xs : List Ident) (ts : List ChanType) → length ys ≡ length ts → AreHanded (held_ends channel es) side xs ts → (fs : k.Ends) × (handed ys xs es ≡ Some fs)
handed-there channel es side [] [] [] n h = ([], refl)
handed-there channel es side [] [] (t ∷ ts) n h = absurd h
handed-there channel es side [] (x ∷ xs) [] n h = absurd h
handed-there channel es side [] (x ∷ xs) (t ∷ ts) n h = absurd (cc n)
handed-there channel es side (y ∷ ys) [] [] n h = absurd (cc n)
handed-there channel es side (y ∷ ys) [] (t ∷ ts) n h = absurd h
handed-there channel es side (y ∷ ys) (x ∷ xs) [] n h = absurd h
handed-there channel es side (y ∷ ys) (x ∷ xs) (t ∷ ts) n (u, hx, same, more) =
    let (e, fx, ce) = held-at channel es x.name (On side u) hx in
    let (fs, later) = handed-there channel es side ys xs ts (cc n) more in
    ((y.name, e) ∷ fs, rw (fx, later) refl)

-- an evaluation that is fine isn't wrong
not-wrong : {A : Type 0} (P : A → Type 0) (o : Answer A) (rest : ℕ) → Fine P o → o ≡ Wrong rest → ⊥
not-wrong P o rest h i = subst (Fine P) i h

-- Commands

module _ (w : World) (good : IsSoundWorld w) (protocols : ProtocolsAreKnown w) (coprotocols : CoprotocolsAreKnown w) (processes : (x : Name) (d : ProcessDecl) → process_named w x ≡ Some d → ProcessIsTyped w d)
    (c : Configuration) (channel : Channels) (place : End → Place) (l : IsApart c place)
    (p : Path) (r : Running) (there : c.nodes (Process p) ≡ Some (Runs r)) (vs : Vars) (bound : AreBound w [] r.variables vs) where
  abbrev held : Held
  held = held_ends channel r.ends

  abbrev Fits : Type 0 → Type 0 → Command → Type 0
  Fits stands deep x = Answers w c channel place (Process p) stands deep x.act

  at-held : (x : Name) (e : End) → found x r.ends ≡ Some e → (place e ≡ At (Process p)) × IsJoined c e
  at-held x e f = l.placed.held p e (r, x, there, f)

  receipt : (x : Name) (e : End) (s : Side) (u : ChanType) (f : Message → Option State) → found x r.ends ≡ Some e → channel e ≡ Some (On s u) → IsWaiting (deed w s u) →
      ((m : Message) (next : View) → Takes w (view_of s u) m next → (st : State) × (f m ≡ Some st)) → IsReceipt w c channel place (Process p) e f
  receipt x e s u f fx ce h takes = record {
    at = (at-held x e fx).0;
    joined = (at-held x e fx).1;
    waits = subst (λ o. Waits w (view_in o)) (sym ce) (waits-if w s u h);
    takes = λ m next k. takes m next (subst (λ o. Takes w (view_in o) m next) ce k);
  }

  looked-up : {A : Type 0} (stands deep : Type 0) (kind : Kind) (o : Option A) (a : A) (f : A → Command) → o ≡ Some a → Fits stands deep (f a) → Fits stands deep (with_found kind o f)
  looked-up stands deep kind o a f i h = rw i h

  evaluated : {A : Type 0} (stands deep : Type 0) (kind : Kind) (end : Option End) (P : A → Type 0) (o : Answer A) (f : A → Command) → Fine P o → ((rest : ℕ) → o ≡ Deep rest → deep) → ((a : A) → P a → Fits stands deep (f a)) →
      Fits stands deep (with_answer r kind end o f)
  evaluated stands deep kind end P (Done a rest) f fine d h = h a fine
  evaluated stands deep kind end P (Deep rest) f fine d h = d rest refl
  evaluated stands deep kind end P (Wrong rest) f fine d h = absurd fine
  evaluated stands deep kind end P More f fine d h = tt

  -- an identity's ends are different, and no partners of one another
  links : (x y : Name) (e f : End) → found x r.ends ≡ Some e → found y r.ends ≡ Some f → same_name x y ≡ false → (d : Configuration) × (performs c (Process p) (Links e f) ≡ Some d)
  links x y e f fx fy different =
      let (pe, (e2, je)) = at-held x e fx in
      let (pf, (f2, jf)) = at-held y f fy in
      let apart : same_end e f ≡ false = elim (split (same_end e f)) [
        | inl i ↦ absurd (true≢false (sym (same-itself y) ∙ subst (λ z. same_name z y ≡ false) (l.placed.ends p r x y e there fx (fy ∙ ap Some (sym (same_end-is e f i)))) different))
        | inr i ↦ i
      ] in
      let no_ring : same_end e2 f ≡ false = elim (split (same_end e2 f)) [
        | inl i ↦
            let at2 : place e2 ≡ At (Process p) = subst (λ z. place z ≡ At (Process p)) (sym (same_end-is e2 f i)) pf in
            let edge : Leads (graph c place) e e2 (Holder (Process p)) (Holder (Process p)) = record { there = je; back = l.placed.paired.back e e2 je; from = rw pe refl; to = rw at2 refl } in
            absurd (l.forest e [] (Holder (Process p)) (e2, Holder (Process p), edge, refl) (tt, tt))
        | inr i ↦ i
      ] in
      (linked c (Process p) e f e2 f2, rw (je, jf, apart, no_ring) refl)

  waiting : (x z : Name) (s : Side) (u : ChanType) → same_name x z ≡ true → held z ≡ Some (On s u) → IsWaiting (deed w s u) → (e : End) × (found x r.ends ≡ Some e) × Waits w (seen channel e)
  waiting x z s u i hx h =
      let (e, fx, ce) = held-at channel r.ends z (On s u) hx in
      (e, subst (λ y. found y r.ends ≡ Some e) (sym (same-is x z i)) fx, subst (λ o. Waits w (view_in o)) (sym ce) (waits-if w s u h))

  -- the channel of a branch is held and waits
  branch-waits : (x : Name) (body : Body) → receives_on x body ≡ true → IsWellFormed w vs held body → (e : End) × (found x r.ends ≡ Some e) × Waits w (seen channel e)
  branch-waits x (b.Then (b.Get at v z) rest) i (s, u, t, y, hx, d, more) = waiting x z.name s u i hx (subst IsWaiting (sym d) tt)
  branch-waits x (b.Then (b.Split at z y1 y2) rest) i (s, u, t, y, hx, d, new, more) = waiting x z.name s u i hx (subst IsWaiting (sym d) tt)
  branch-waits x (b.Hcase at z rows) i (s, u, cs, hx, d, once, all, more) = waiting x z.name s u i hx (subst IsWaiting (sym d) tt)
  branch-waits x body i h = absurd (true≢false (sym i))

  all-held : (rows : Branches) → BranchesAreWellFormed w vs held rows → are_held rows r.ends ≡ true
  all-held b.no_branches h = refl
  all-held (b.branch_then x body rows) (i, well, more) =
      let (e, fx, ws) = branch-waits x.name body i well in
      rw fx (all-held rows more)

  branch-there : (rows : Branches) (n : ℕ) (q : Name × Body) → BranchesAreWellFormed w vs held rows → branch_at rows n ≡ Some q → (e : End) × (found q.0 r.ends ≡ Some e) × Waits w (seen channel e)
  branch-there b.no_branches n q h i = absurd (cc i)
  branch-there (b.branch_then x body rows) zero q (j, well, more) i =
      let e : ◌≡◌ {A = Name × Body} (x.name, body) q = cc i in
      subst (λ (z : Name × Body). (e : End) × (found z.0 r.ends ≡ Some e) × Waits w (seen channel e)) e (branch-waits x.name body j well)
  branch-there (b.branch_then x body rows) (suc n) q (j, well, more) i = branch-there rows n q more i

  -- a race has a first branch
  chosen : (rows : Branches) (n : ℕ) (o : Option (Name × Body)) → branch_at rows n ≡ o → (branch_at rows 0 ≢ None) → BranchesAreWellFormed w vs held rows → Fits (n ≢ 0) ⊥ (chooses r n o)
  chosen rows n None is first h = λ z. first (subst (λ m. branch_at rows m ≡ None) z is)
  chosen rows n (Some q) is first h =
      let (e, fx, ws) = branch-there rows n q h is in
      looked-up _ _ (k.Choose n) (found q.0 r.ends) e _ fx
      (record { at = (at-held q.0 e fx).0; joined = (at-held q.0 e fx).1; waits = ws; takes = λ m next t. (_, refl) })

  peeled : (stands deep : Type 0) (o : Option Peel) (q : Peel) → o ≡ Some q → Fits stands deep (peels p r o)
  peeled stands deep o q i = rw i tt

  -- each command
  body-answers : (i : ℕ) (body : Body) → IsWellFormed w vs held body → PlugsAreTrees body → Fits (i ≢ 0) (BodyIsDeep w r body) (next_command w p r i body)
  body-answers i (b.Then (b.Put at a x) rest) (s, u, t, y, hx, d, typed, more) trees =
      let (e, fx, ce) = held-at channel r.ends x.name (On s u) hx in
      looked-up _ _ k.Put (found x.name r.ends) e _ fx
      (evaluated _ _ k.Put (Some e) (λ v. IsValue w v t) (value_of w a r.variables r.spent) _ (put-fine w good Checked vs a t r.variables r.spent bound typed) (λ rest j. (rest, j)) (λ v fine. tt))
  body-answers i (b.Then (b.Get at v x) rest) (s, u, t, y, hx, d, more) trees =
      let (e, fx, ce) = held-at channel r.ends x.name (On s u) hx in
      looked-up _ _ k.Get (found x.name r.ends) e _ fx
      (receipt x.name e s u _ fx ce (subst IsWaiting (sym d) tt) (word-fits w s u t y _ d (λ v. (_, refl))))
  body-answers i (b.Then (b.Hput at q x) rest) (s, u, cs, y, hx, d, f, more) trees =
      let (e, fx, ce) = held-at channel r.ends x.name (On s u) hx in
      let (n, number) = found-number w protocols coprotocols cs (choices-of w s u cs (inl d)) q.name y f in
      looked-up _ _ k.Pick' (found x.name r.ends) e _ fx (looked-up _ _ k.Pick' (number_of w q.name) n _ number tt)
  body-answers i (b.Then (b.Split at x y z) rest) (s, u, t, v, hx, d, new, more) trees =
      let (e, fx, ce) = held-at channel r.ends x.name (On s u) hx in
      looked-up _ _ k.Split (found x.name r.ends) e _ fx
      (receipt x.name e s u _ fx ce (subst IsWaiting (sym d) tt) (ends-fit w s u t v _ d (λ f g. (_, refl))))
  body-answers i (b.Then (b.Close at x) rest) (s, u, hx, d, more) trees =
      let (e, fx, ce) = held-at channel r.ends x.name (On s u) hx in
      looked-up _ _ k.Close (found x.name r.ends) e _ fx tt
  body-answers i (b.Halt at None) h trees = tt
  body-answers i (b.Halt at (Some x)) (s, u, hx, d, more) trees =
      let (e, fx, ce) = held-at channel r.ends x.name (On s u) hx in
      looked-up _ _ k.Halt (found x.name r.ends) e _ fx tt
  body-answers i (b.Hcase at x rows) (s, u, cs, hx, d, once, all, more) trees =
      let (e, fx, ce) = held-at channel r.ends x.name (On s u) hx in
      looked-up _ _ k.Offer (found x.name r.ends) e _ fx
      (receipt x.name e s u _ fx ce (subst IsWaiting (sym d) tt)
      (pick-fits w s u cs _ d (λ n y t at.
      let (body, picked) = one-row w n y t rows (choice-number w protocols coprotocols cs (choices-of w s u cs (inr d)) n y t at) (each-one rows cs n y t once at) in
      (_, ap (option_map _) picked))))
  body-answers i (b.Fork at x y left z right) (keep, (s, u, t, v, hx, d, new, one, two)) trees =
      let (e, fx, ce) = held-at channel r.ends x.name (On s u) hx in
      looked-up _ _ k.Fork (found x.name r.ends) e _ fx tt
  body-answers i (b.Plug at parts_links parts) h trees =
      let (q, peel) = term-peels w vs held (Doing (b.Plug at parts_links parts)) (h, trees) refl in
      peeled _ _ (peel_of parts_links (last_first parts_links parts)) q peel.peels
  body-answers i (b.Race at b.no_branches) ((two, most), distinct, h) trees = absurd (omega (arith, two))
  body-answers i (b.Race at (b.branch_then x body rows)) (h, distinct, branches) trees =
      subst (λ t. Fits (i ≢ 0) ⊥ (if t then chooses r i (branch_at (b.branch_then x body rows) i) else command (k.Choose i) None Breaks)) (sym (all-held (b.branch_then x body rows) branches))
      (chosen (b.branch_then x body rows) i (branch_at (b.branch_then x body rows) i) refl (λ j. cc j) branches)
  body-answers i (b.Case at a rows) (t, typed, cases, exhaustive) trees =
      evaluated _ _ k.Case None (λ v. IsValue w v t) (value_of w a r.variables r.spent) _ (put-fine w good Found vs a t r.variables r.spent bound typed) (λ rest j. (rest, j)) (λ v fine.
      let (m, q, us, first, at, bind, more) = case-goes w good vs held t rows v r.variables cases exhaustive bound fine in
      looked-up _ _ k.Case (first_match w (body_rows rows) (v ∷ [])) m _ first (looked-up _ _ k.Case (row_at rows m.0) q.1 _ (row-there rows m.0 q at) tt))
  body-answers i (b.Identity at x negated y) (s, t, z, u, hx, hy, different, joined, only) trees =
      let (e, fx, ce) = held-at channel r.ends x (On s t) hx in
      let (f, fy, cf) = held-at channel r.ends y.name (On z u) hy in
      looked-up _ _ k.Link (found x r.ends) e _ fx (looked-up _ _ k.Link (found y.name r.ends) f _ fy (links x y.name e f fx fy different))
  body-answers i (b.Call at x args inputs outputs) (d, is, typed, hin, hout, distinct_names, only) trees =
      let (distinct, nv, ni, no', closed, rest) = processes x d is in
      let (es, ins) = handed-there channel r.ends Input d.row.inputs inputs d.inputs ni hin in
      let (fs, outs) = handed-there channel r.ends Output d.row.outputs outputs d.outputs no' hout in
      looked-up _ _ k.Call (process_named w x) d _ is
      (looked-up _ _ k.Call (both_ends (handed d.row.inputs inputs r.ends) (handed d.row.outputs outputs r.ends)) (es ++ fs) _ (rw (ins, outs) refl)
      (evaluated _ _ k.Call None (λ us. AllAreValues w us d.parameters) (values_of w args r.variables r.spent) _ (arguments-fine w good vs d.parameters args r.variables r.spent bound typed) (λ rest j. (rest, j)) (λ us fine. tt)))

  -- each term
  pub term-answers : (i : ℕ) (term : Term) → TermIsWellFormed w vs held term → Fits (i ≢ 0) (TermIsDeep w r term) (term_command w p r i term)
  term-answers i (Doing body) (h, trees) = body-answers i body h trees
  term-answers i (Plugging parts_links parts) h =
      let (q, peel) = term-peels w vs held (Plugging parts_links parts) h refl in
      peeled _ _ (peel_of parts_links parts) q peel.peels

  -- no evaluation says Wrong
  body-not-wrong : (body : Body) → IsWellFormed w vs held body → BodyIsWrong w r body → ⊥
  body-not-wrong (b.Then (b.Put at a x) rest) (s, u, t, y, hx, d, typed, more) (n, i) =
      not-wrong (λ v. IsValue w v t) (value_of w a r.variables r.spent) n (put-fine w good Checked vs a t r.variables r.spent bound typed) i
  body-not-wrong (b.Case at a rows) (t, typed, cases, exhaustive) (n, i) =
      not-wrong (λ v. IsValue w v t) (value_of w a r.variables r.spent) n (put-fine w good Found vs a t r.variables r.spent bound typed) i
  body-not-wrong (b.Call at x args inputs outputs) (d, is, typed, hin, hout, distinct_names, only) (n, i) =
      not-wrong (λ us. AllAreValues w us d.parameters) (values_of w args r.variables r.spent) n (arguments-fine w good vs d.parameters args r.variables r.spent bound typed) i
  body-not-wrong body h i = absurd i

  pub not-wrong-term : (term : Term) → TermIsWellFormed w vs held term → TermIsWrong w r term → ⊥
  not-wrong-term (Doing body) (h, trees) i = body-not-wrong body h i
  not-wrong-term (Plugging parts_links parts) h i = i
