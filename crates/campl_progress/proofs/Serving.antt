-- What the next step of a lawful service does: it waits for a constructor or a text and takes what fits, sends, or stands with its script spent or closed.
use Rattle.std.proofs.Common.{◌≡◌, ◌≢◌, ℕ, zero, suc, List, [], ◌∷◌, ◌⊎◌, inl, inr, refl, sym, ap, subst, ◌∙◌, Option, Some, None, option_map, slice_get}
use Rattle.campl_tree.specs.declared.service.Side.{Side}
use Rattle.campl_tree.specs.Plain.SeqType as q
use Rattle.campl_tree.specs.Plain.ChanType.{ChanType}
use Rattle.campl_tree.specs.Plain.Decl.{Program}
use Rattle.campl_value.specs.Tree.{Tree, Nil, Cell, Char, Int, Truth, Pair, Built}
use Rattle.campl_value.specs.Text.{chars_of}
use Rattle.campl_value.specs.declared.message.Message.TheVariants as m
use Rattle.campl_machine.specs.Names.{End, Service}
use Rattle.campl_machine.specs.Machine.{Act}
use Rattle.campl_types.specs.Names.{Name}
use Rattle.campl_types.specs.SameType.{bare_chan}
use Rattle.campl_types.specs.World.{World, world_of}
use Rattle.campl_types.specs.Polarity.{Deed, Gets, Offers, Choices}
use Rattle.campl_types.specs.Views as v
use Rattle.campl_types.specs.Views.{View, deed_of, side_of}
use Rattle.campl_service.specs.declared.phase.ServiceKind.{ServiceKind}
use Rattle.campl_service.specs.declared.phase.ServiceKind.TheVariants.{Console, Terminal}
use Rattle.campl_service.specs.declared.phase.Phase.{Phase}
use Rattle.campl_service.specs.declared.phase.Phase.TheVariants as phase
use Rattle.campl_service.specs.declared.phase.Request.{Request}
use Rattle.campl_service.specs.declared.phase.Request.TheVariants as request
use Rattle.campl_service.specs.declared.phase.Want.TheVariants as want
use Rattle.campl_service.specs.Scripts.{Lines}
use Rattle.campl_service.specs.Services.{Serving, Action, action, action_in, asked, took}
use Rattle.campl_service.specs.Services as services
use Rattle.campl_meaning.specs.States.{Message, Word, Pick, EndPair, Attending, State, Serves}
use Rattle.campl_meaning.specs.Wants.{hears, served, says, serving_command}
use Rattle.campl_meaning.specs.Reductions.{Configuration}
use Rattle.campl_meaning.specs.Views.{view_in, taken_at, Takes}
use Rattle.campl_meaning.specs.Apart.{Place, At, IsJoined, IsApart}
use Rattle.campl_meaning.specs.Lawful.{Channels, seen, IsInPhase, service_side, own_chan, taking, phase_type}
use Rattle.campl_progress.proofs.Waits.{IsWaiting, Waits}
use Rattle.campl_progress.proofs.Acts.{IsReceipt, Answers}
use Rattle.campl_types.specs.Values.{IsValue}

-- a list of characters is a text
text-of : (w : World) (u : Tree) → IsValue w u (q.List q.Char) → (cs : List ℕ) × (chars_of u ≡ Some cs)
text-of w Nil h = ([], refl)
text-of w (Cell (Char c) rest) (h, k) = let (cs, e) = text-of w rest k in (c ∷ cs, ap (option_map (λ ds. c ∷ ds)) e)
text-of w (Cell (Int n) rest) (h, k) = absurd h
text-of w (Cell (Truth t) rest) (h, k) = absurd h
text-of w (Cell Nil rest) (h, k) = absurd h
text-of w (Cell (Cell a d) rest) (h, k) = absurd h
text-of w (Cell (Pair a d) rest) (h, k) = absurd h
text-of w (Cell (Built n parts) rest) (h, k) = absurd h
text-of w (Int n) h = absurd h
text-of w (Char n) h = absurd h
text-of w (Truth t) h = absurd h
text-of w (Pair a d) h = absurd h
text-of w (Built n parts) h = absurd h

-- each constructor of a service asks for something
asks : (s : Serving) (r : Request) → (a : Action) × (asked s (Some r) ≡ Some a)
asks s request.Put = (_, refl)
asks s request.Get = (_, refl)
asks s request.Close = (_, refl)

-- an offer of three
three : (kind : ServiceKind) (cs : Choices) (a d e : Name × ChanType) → cs ≡ a ∷ (d ∷ (e ∷ [])) → (n : ℕ) (x : Name) (t : ChanType) → slice_get cs n ≡ Some (x, t) → (r : Request) × (services.request kind n ≡ Some r)
three Console cs a d e i zero x t j = (request.Put, refl)
three Console cs a d e i (suc zero) x t j = (request.Get, refl)
three Terminal cs a d e i zero x t j = (request.Get, refl)
three Terminal cs a d e i (suc zero) x t j = (request.Put, refl)
three kind cs a d e i (suc (suc zero)) x t j = (request.Close, refl)
three kind cs a d e i (suc (suc (suc n))) x t j = absurd (cc (subst (λ z. slice_get z (suc (suc (suc n))) ≡ Some (x, t)) i j))

abbrev pub IsThree : Deed → Type 0
IsThree d = (cs : Choices) × (a : Name × ChanType) × (e : Name × ChanType) × (f : Name × ChanType) × (d ≡ Offers cs) × (cs ≡ a ∷ (e ∷ (f ∷ [])))

-- at a constructor
offers-three : (source : Program) (kind : ServiceKind) → IsThree (deed_of (world_of source) (v.view_of (service_side kind) (bare_chan (own_chan kind))))
offers-three source Console = (_, _, _, _, refl, refl)
offers-three source Terminal = (_, _, _, _, refl, refl)

-- at a text
abbrev IsText : Deed → Type 0
IsText d = (x : ChanType) × (d ≡ Gets (q.List q.Char) x)

takes-text : (w : World) (kind : ServiceKind) → IsText (deed_of w (v.view_of (service_side kind) (bare_chan (taking kind))))
takes-text w Console = (_, refl)
takes-text w Terminal = (_, refl)

-- it stands, since it is closed or was asked with its script spent
abbrev pub IsIdle : Attending → Type 0
IsIdle s = (services.want s.serving ≡ want.Spent) ⊎ (s.serving.phase ≡ phase.Closed)

module _ (source : Program) (c : Configuration) (channel : Channels) (place : End → Place) (l : IsApart c place)
    (n : ℕ) (s : Attending) (there : c.nodes (Service n) ≡ Some (Serves s)) (in_phase : IsInPhase channel s) where
  abbrev w : World
  w = world_of source

  -- what the service's end is seen as
  seen-as : (ph : Phase) → s.serving.phase ≡ ph → seen channel s.end ≡ v.view_of (service_side s.serving.kind) (bare_chan (phase_type s.serving.kind ph))
  seen-as ph is = ap view_in in_phase.held ∙ (ap (v.view_of (service_side s.serving.kind)) (in_phase.same ∙ ap (λ z. bare_chan (phase_type s.serving.kind z)) is))

  receipt : (f : Message → Option State) → s.serving.phase ≢ phase.Closed → Waits w (seen channel s.end) →
      ((m : Message) (next : View) → Takes w (seen channel s.end) m next → (st : State) × (f m ≡ Some st)) → IsReceipt w c channel place (Service n) s.end f
  receipt f not_closed waits takes =
      let h : (place s.end ≡ At (Service n)) × IsJoined c s.end = l.placed.served n s.end (s, there, refl, not_closed) in
      record { at = h.0; joined = h.1; waits = waits; takes = takes }

  hears-pick : s.serving.phase ≡ phase.Pick → (cs : Choices) (a d e : Name × ChanType) → cs ≡ a ∷ (d ∷ (e ∷ [])) → (r : Side) (m : Message) (next : View) → taken_at w r (Offers cs) m next → (st : State) × (hears s m ≡ Some st)
  hears-pick is cs a d e i r (Word u) next k = absurd k
  hears-pick is cs a d e i r (EndPair f g) next k = absurd k
  hears-pick is cs a d e i r (Pick j) next (x, t, at, more) =
      let (req, asked_is) = three s.serving.kind cs a d e i j x t at in
      let (act, done) = asks s.serving req in
      let h : action s.serving (Some (m.Pick j)) ≡ Some act = subst (λ z. action_in z s.serving (Some (m.Pick j)) ≡ Some act) (sym is) (subst (λ o. asked s.serving o ≡ Some act) (sym asked_is) done) in
      (served s.end act, ap (option_map (served s.end)) h)

  hears-text : s.serving.phase ≡ phase.Text → (x : ChanType) (r : Side) (m : Message) (next : View) → taken_at w r (Gets (q.List q.Char) x) m next → (st : State) × (hears s m ≡ Some st)
  hears-text is x r (Pick j) next k = absurd k
  hears-text is x r (EndPair f g) next k = absurd k
  hears-text is x r (Word u) next (of, more) =
      let (cs, text) = text-of w u of in
      let h : (a : Action) × (action s.serving (Some (m.Word u)) ≡ Some a) = rw (is, text) (_, refl) in
      (served s.end h.0, ap (option_map (served s.end)) h.1)

  abbrev Fits : Act State Message → Type 0
  Fits = Answers w c channel place (Service n) (IsIdle s) ⊥

  speaks : (o : Option Action) (a : Action) → o ≡ Some a → Fits (says s.end o)
  speaks o a i = rw i tt

  serves-in : (ph : Phase) (lines : Lines) → s.serving.phase ≡ ph → s.serving.script ≡ lines → Fits (serving_command s (services.want_in ph lines)).act
  serves-in phase.Pick lines is js =
      let (cs, a, d, e, offers, all) = offers-three source s.serving.kind in
      let same = seen-as phase.Pick is in
      receipt (hears s) (λ j. cc (is, j)) (subst (Waits w) (sym same) (subst IsWaiting (sym offers) tt))
      (λ m next k. hears-pick is cs a d e all _ m next (subst (λ z. taken_at w (side_of (v.view_of (service_side s.serving.kind) (bare_chan (own_chan s.serving.kind)))) z m next) offers (subst (λ z. Takes w z m next) same k)))
  serves-in phase.Text lines is js =
      let (x, gets) = takes-text w s.serving.kind in
      let same = seen-as phase.Text is in
      receipt (hears s) (λ j. cc (is, j)) (subst (Waits w) (sym same) (subst IsWaiting (sym gets) tt))
      (λ m next k. hears-text is x _ m next (subst (λ z. taken_at w (side_of (v.view_of (service_side s.serving.kind) (bare_chan (taking s.serving.kind)))) z m next) gets (subst (λ z. Takes w z m next) same k)))
  serves-in phase.Send [] is js = inl (rw (is, js) refl)
  serves-in phase.Send (line ∷ lines) is js =
      let h : (a : Action) × (action s.serving None ≡ Some a) = rw (is, js) (_, refl) in
      speaks (action s.serving None) h.0 h.1
  serves-in phase.Closed lines is js = inr is

  pub service-answers : Fits (serving_command s (services.want s.serving)).act
  service-answers = serves-in s.serving.phase s.serving.script refl refl
