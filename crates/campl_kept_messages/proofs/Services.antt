-- The steps of services keep a lawful configuration lawful: a service's phase and the type of its end go on together.
use Rattle.std.proofs.Common.{◌≡◌, ◌≢◌, ℕ, zero, suc, true, false, List, [], ◌∷◌, refl, sym, ap, subst, ◌∙◌, Option, Some, None, option_map, true≢false}
use Rattle.std.specs.Prelude.{codes}
use Rattle.campl_tree.specs.declared.service.Side.{Side}
use Rattle.campl_tree.specs.Plain.ChanType.{ChanType, Put, Get, TopBot}
use Rattle.campl_tree.specs.Plain.Decl.{Program}
use Rattle.campl_value.specs.Tree.{Tree}
use Rattle.campl_value.specs.Text.{text_of, chars_of}
use Rattle.campl_value.specs.declared.message.Message.TheVariants as m
use Rattle.campl_machine.specs.Names.{End, Service}
use Rattle.campl_machine.specs.Machine.{Looks, Does, taken, moved, looked}
use Rattle.campl_types.specs.Names.{Name}
use Rattle.campl_types.specs.SameType.{bare_chan}
use Rattle.campl_types.specs.Prelude.{letters}
use Rattle.campl_types.specs.World.{World, world_of}
use Rattle.campl_types.specs.Polarity.{Puts, Gets, Offers, Choices, deed}
use Rattle.campl_types.specs.Views as v
use Rattle.campl_types.specs.Views.{View, deed_of, turned}
use Rattle.campl_types.specs.Held.{On}
use Rattle.campl_service.specs.declared.phase.ServiceKind.{ServiceKind}
use Rattle.campl_service.specs.declared.phase.ServiceKind.TheVariants.{Console, Terminal}
use Rattle.campl_service.specs.declared.phase.Phase.{Phase}
use Rattle.campl_service.specs.declared.phase.Phase.TheVariants as phase
use Rattle.campl_service.specs.declared.phase.Request.{Request}
use Rattle.campl_service.specs.declared.phase.Request.TheVariants as request
use Rattle.campl_service.specs.Scripts.{Lines}
use Rattle.campl_service.specs.Transcripts.{Took, Sent, Closed}
use Rattle.campl_service.specs.Services as services
use Rattle.campl_service.specs.Services.{Serving, Action, in_phase, noting, with_script, action_in, action, asked, took, want_in, want}
use Rattle.campl_meaning.specs.States.{Message, Word, Pick, Attending, State, Serves}
use Rattle.campl_meaning.specs.Wants.{heard, served, hears, says, serving_command}
use Rattle.campl_meaning.specs.Reductions.{Configuration, act_of}
use Rattle.campl_meaning.specs.Views.{view_of, view_in, Takes, TakesAll}
use Rattle.campl_meaning.specs.Apart.{At, IsJoined}
use Rattle.campl_meaning.specs.Lawful.{seen, Agree, IsInPhase, own_chan, taking, sending, service_side, phase_type, Lawful}
use Rattle.campl_meaning.proofs.Phases.{is_open}
use Rattle.campl_kept_messages.proofs.Continues.{gone_on}
use Rattle.campl_kept_messages.proofs.Frame.{renewed, new-here}
use Rattle.campl_kept_messages.proofs.Passing.{MaySend, MayTake, IsChoice, may-put, may-get, may-offer, send-lawful, take-lawful}
use Rattle.campl_types.specs.Values.{IsValue}

-- What may be sent and taken doesn't depend on places

pub take-same : (w : World) (r : Side) (u x : ChanType) (m : Message) (y : ChanType) → bare_chan u ≡ bare_chan x → MayTake w r x m y → MayTake w r u m y
take-same w r u x m y e may = record {
  letter = may.letter;
  next = λ n t. may.next n (subst (λ z. Takes w (v.view_of r z) m n) e t);
}

pub send-same : (w : World) (r : Side) (u x : ChanType) (m : Message) (y : ChanType) → bare_chan u ≡ bare_chan x → MaySend w r x m y → MaySend w r u m y
send-same w r u x m y e may = record {
  letter = may.letter;
  none = λ k n t. may.none k n (subst (λ z. Takes w (v.view_of r z) k n) e t);
  no_split = λ a b t. may.no_split a b (ap (λ z. deed_of w (v.view_of r z)) (sym e) ∙ t);
  given = subst (λ z. Takes w (turned (v.view_of r z)) m (turned (view_of r y))) (sym e) may.given;
}

-- The types of services

abbrev pub service_choices : ServiceKind → Choices
service_choices Console =
    (codes "ConsolePut", Get letters (own_chan Console)) ∷ (codes "ConsoleGet", Put letters (own_chan Console)) ∷ (codes "ConsoleClose", TopBot) ∷ []
service_choices Terminal =
    (codes "StringTerminalGet", Get letters (own_chan Terminal)) ∷ (codes "StringTerminalPut", Put letters (own_chan Terminal)) ∷ (codes "StringTerminalClose", TopBot) ∷ []

pub service-offers : (source : Program) (kind : ServiceKind) → deed (world_of source) (service_side kind) (own_chan kind) ≡ Offers (service_choices kind)
service-offers source Console = refl
service-offers source Terminal = refl

pub service-gets : (w : World) (kind : ServiceKind) → deed w (service_side kind) (taking kind) ≡ Gets letters (own_chan kind)
service-gets w Console = refl
service-gets w Terminal = refl

pub service-puts : (w : World) (kind : ServiceKind) → deed w (service_side kind) (sending kind) ≡ Puts letters (own_chan kind)
service-puts w Console = refl
service-puts w Terminal = refl

-- a closed service's end may only be closed
closed-top : (kind : ServiceKind) (ph : Phase) → is_open ph ≡ false → phase_type kind ph ≡ TopBot
closed-top kind phase.Closed o = refl
closed-top kind phase.Pick o = absurd (true≢false o)
closed-top kind phase.Text o = absurd (true≢false o)
closed-top kind phase.Send o = absurd (true≢false o)

-- the phase behind a constructor
abbrev pub phase_after : Request → Phase
phase_after request.Put = phase.Text
phase_after request.Get = phase.Send
phase_after request.Close = phase.Closed

choice-type : (x z : Name) (y t : ChanType) → ◌≡◌ {A = Option (Name × ChanType)} (Some (z, t)) (Some (x, y)) → y ≡ t
choice-type x z y t e =
    let q : ◌≡◌ {A = Name × ChanType} (z, t) (x, y) = cc e in
    sym (ap (λ (c : Name × ChanType). c.1) q)

-- each constructor asks for what is its type
pub choice-asks : (kind : ServiceKind) (n : ℕ) (x : Name) (y : ChanType) → IsChoice (service_choices kind) n x y → (q : Request) × (services.request kind n ≡ Some q) × (y ≡ phase_type kind (phase_after q))
choice-asks Console zero x y i = (request.Put, refl, choice-type x (codes "ConsolePut") y (Get letters (own_chan Console)) i)
choice-asks Console (suc zero) x y i = (request.Get, refl, choice-type x (codes "ConsoleGet") y (Put letters (own_chan Console)) i)
choice-asks Console (suc (suc zero)) x y i = (request.Close, refl, choice-type x (codes "ConsoleClose") y TopBot i)
choice-asks Console (suc (suc (suc n))) x y i = absurd (cc i)
choice-asks Terminal zero x y i = (request.Get, refl, choice-type x (codes "StringTerminalGet") y (Get letters (own_chan Terminal)) i)
choice-asks Terminal (suc zero) x y i = (request.Put, refl, choice-type x (codes "StringTerminalPut") y (Put letters (own_chan Terminal)) i)
choice-asks Terminal (suc (suc zero)) x y i = (request.Close, refl, choice-type x (codes "StringTerminalClose") y TopBot i)
choice-asks Terminal (suc (suc (suc n))) x y i = absurd (cc i)

-- what a service does with a letter of the right kind, and with none
pub asks-of : (sv : Serving) (m : Message) (j : ℕ) (q : Request) → sv.phase ≡ phase.Pick → m ≡ Pick j → services.request sv.kind j ≡ Some q → action sv (Some (heard m)) ≡ asked sv (Some q)
asks-of sv m j q ph pick asks =
    ap (λ t. action_in t sv (Some (heard m))) ph ∙ (ap (λ t. action_in phase.Pick sv (Some (heard t))) pick ∙ ap (asked sv) asks)

pub takes-of : (sv : Serving) (m : Message) (t : Tree) → sv.phase ≡ phase.Text → m ≡ Word t → action sv (Some (heard m)) ≡ took sv (chars_of t)
takes-of sv m t ph word = ap (λ t. action_in t sv (Some (heard m))) ph ∙ ap (λ t. action_in phase.Text sv (Some (heard t))) word

pub sends-of : (sv : Serving) (lines : Lines) → sv.phase ≡ phase.Send → sv.script ≡ lines → action sv None ≡ services.sent sv lines
sends-of sv lines ph script = ap (λ t. action_in t sv None) ph ∙ ap (services.sent sv) script

-- a line is a text
pub text-is : (w : World) (cs : List ℕ) → IsValue w (text_of cs) letters
text-is w [] = tt
text-is w (c ∷ cs) = (tt, text-is w cs)

module _ (source : Program) (c : Configuration) (l : Lawful source c) (n : ℕ) (a : Attending) (is : c.nodes (Service n) ≡ Some (Serves a)) where
  abbrev w : World
  w = world_of source

  abbrev kind : ServiceKind
  kind = a.serving.kind

  abbrev pub side : Side
  side = service_side kind

  pub now : IsInPhase l.channel a
  now = l.phases n a is

  -- the type of its end, which is that of the phase
  abbrev pub own : ChanType
  own = now.channel_type

  pub in-phase : (ph : Phase) → a.serving.phase ≡ ph → bare_chan own ≡ bare_chan (phase_type kind ph)
  in-phase ph e = now.same ∙ ap (λ z. bare_chan (phase_type kind z)) e

  module _ (busy : a.serving.phase ≢ phase.Closed) where
    pub stands : (l.place a.end ≡ At (Service n)) × IsJoined c a.end
    stands = l.apart.placed.served n a.end (a, is, refl, busy)

    pub first-taken : (z : End) (u : ChanType) (m : Message) (ms : List Message) → bare_chan own ≡ bare_chan u → c.partner a.end ≡ Some z → c.owed z ≡ m ∷ ms → (x : View) × Takes w (view_of side u) m x
    first-taken z u m ms e pz first =
        let g : Agree w c l.channel a.end z = l.agree a.end z pz in
        let old : seen l.channel a.end ≡ view_of side u = ap view_in now.held ∙ ap (v.view_of side) e in
        let mine : TakesAll w (view_of side u) (m ∷ ms) g.left = subst (λ o. TakesAll w o (m ∷ ms) g.left) old (subst (λ ns. TakesAll w (seen l.channel a.end) ns g.left) first g.mine) in
        (mine.0, mine.1)

    next-phase : (serving : Serving) (y : ChanType) → serving.kind ≡ kind → y ≡ phase_type kind serving.phase → IsInPhase (renewed a.end (On side y) l.channel) (record { end = a.end; serving = serving })
    next-phase serving y k e = record {
      channel_type = y;
      held = new-here a.end (On side y) l.channel ∙ ap (λ z. Some (On (service_side z) y)) (sym k);
      same = ap bare_chan e ∙ ap (λ z. bare_chan (phase_type z serving.phase)) (sym k);
    }

    phases-on : (serving : Serving) (y : ChanType) → serving.kind ≡ kind → y ≡ phase_type kind serving.phase
        → (b : Attending) → Serves (record { end = a.end; serving = serving }) ≡ Serves b → IsInPhase (renewed a.end (On side y) l.channel) b
    phases-on serving y k e b q =
        let same : record { end = a.end; serving = serving } ≡ b = cc q in
        subst (IsInPhase (renewed a.end (On side y) l.channel)) same (next-phase serving y k e)

    -- it takes a letter and goes on in another phase
    goes-on : (z : End) (m : Message) (ms : List Message) (serving : Serving) (y : ChanType) → serving.kind ≡ kind → y ≡ phase_type kind serving.phase
        → c.partner a.end ≡ Some z → c.owed z ≡ m ∷ ms → MayTake w side own m y → Lawful source (gone_on c (Service n) (Serves (record { end = a.end; serving = serving })) (taken true z c.owed))
    goes-on z m ms serving y k e pz first may =
        take-lawful source c l (Service n) (Serves a) (Serves (record { end = a.end; serving = serving })) a.end z side own y m is stands.0 pz now.held ms first may (refl, busy)
        (λ o. (side, ap (On side) (e ∙ closed-top kind serving.phase o))) (λ r j. absurd (cc j)) (phases-on serving y k e)

  -- the same action leads to the same
  same-act : (o p : Option Action) (st : State) → o ≡ p → option_map (served a.end) o ≡ Some st → option_map (served a.end) p ≡ Some st
  same-act o p st e i = subst (λ z. option_map (served a.end) z ≡ Some st) e i

  module _ (d : Configuration) where
    -- after a receipt
    took-on : (z : End) (m : Message) (ms : List Message) (serving : Serving) (y : ChanType) (st : State) → a.serving.phase ≢ phase.Closed → serving.kind ≡ kind → y ≡ phase_type kind serving.phase
        → c.partner a.end ≡ Some z → c.owed z ≡ m ∷ ms → MayTake w side own m y → Serves (record { end = a.end; serving = serving }) ≡ st → d ≡ looked c (Service n) true z st → Lawful source d
    took-on z m ms serving y st busy k e pz first may same is_looked =
        subst (Lawful source) (sym is_looked) (subst (λ t. Lawful source (gone_on c (Service n) t (taken true z c.owed))) same (goes-on busy z m ms serving y k e pz first may))

    pub pick-lawful : a.serving.phase ≡ phase.Pick → Does c (Service n) (Looks true a.end (hears a)) d → Lawful source d
    pick-lawful ph (z, m, ms, st, pz, first, fits, is_looked) =
        let busy : a.serving.phase ≢ phase.Closed = λ j. cc (ph, j) in
        let e : bare_chan own ≡ bare_chan (own_chan kind) = in-phase phase.Pick ph in
        let (x, takes) = first-taken busy z (own_chan kind) m ms e pz first in
        let (j, name, y, pick, choice, may) = may-offer w side (own_chan kind) (service_choices kind) m x (service-offers source kind) takes in
        let (q, asks, type) = choice-asks kind j name y choice in
        let given : action a.serving (Some (heard m)) ≡ asked a.serving (Some q) = asks-of a.serving m j q ph pick asks in
        go q y type (take-same w side own (own_chan kind) m y e may) (same-act (action a.serving (Some (heard m))) (asked a.serving (Some q)) st given fits) busy
      where
        go : (q : Request) (y : ChanType) → y ≡ phase_type kind (phase_after q) → MayTake w side own m y → option_map (served a.end) (asked a.serving (Some q)) ≡ Some st → a.serving.phase ≢ phase.Closed → Lawful source d
        go request.Put y e may i busy = took-on z m ms (in_phase phase.Text a.serving) y st busy refl e pz first may (cc i) is_looked
        go request.Get y e may i busy = took-on z m ms (in_phase phase.Send a.serving) y st busy refl e pz first may (cc i) is_looked
        go request.Close y e may i busy = took-on z m ms (in_phase phase.Closed (noting Closed a.serving)) y st busy refl e pz first may (cc i) is_looked

    pub text-lawful : a.serving.phase ≡ phase.Text → Does c (Service n) (Looks true a.end (hears a)) d → Lawful source d
    text-lawful ph (z, m, ms, st, pz, first, fits, is_looked) =
        let busy : a.serving.phase ≢ phase.Closed = λ j. cc (ph, j) in
        let e : bare_chan own ≡ bare_chan (taking kind) = in-phase phase.Text ph in
        let (x, takes) = first-taken busy z (taking kind) m ms e pz first in
        let (text, word, value, may) = may-get w side (taking kind) letters (own_chan kind) m x (service-gets w kind) takes in
        let given : action a.serving (Some (heard m)) ≡ took a.serving (chars_of text) = takes-of a.serving m text ph word in
        go (chars_of text) (take-same w side own (taking kind) m (own_chan kind) e may) (same-act (action a.serving (Some (heard m))) (took a.serving (chars_of text)) st given fits) busy
      where
        go : (o : Option (List ℕ)) → MayTake w side own m (own_chan kind) → option_map (served a.end) (took a.serving o) ≡ Some st → a.serving.phase ≢ phase.Closed → Lawful source d
        go None may i busy = absurd (cc i)
        go (Some cs) may i busy = took-on z m ms (in_phase phase.Pick (noting (Took cs) a.serving)) (own_chan kind) st busy refl refl pz first may (cc i) is_looked

    pub line-lawful : (line : List ℕ) (lines : Lines) → a.serving.phase ≡ phase.Send → a.serving.script ≡ line ∷ lines → Does c (Service n) (says a.end (action a.serving None)) d → Lawful source d
    line-lawful line lines ph script does =
        let busy : a.serving.phase ≢ phase.Closed = λ j. cc (ph, j) in
        let (stood, (f, joined)) = stands busy in
        let serving : Serving = in_phase phase.Pick (noting (Sent line) (with_script lines a.serving)) in
        let acts : action a.serving None ≡ Some (serving, Some (m.Word (text_of line))) = sends-of a.serving (line ∷ lines) ph script in
        let is_sent : d ≡ moved c (Service n) (record { send = Some (a.end, Word (text_of line)); channels = []; children = []; next = Some (Serves (record { end = a.end; serving = serving })) }) =
        subst (λ o. Does c (Service n) (says a.end o) d) acts does in
        let may : MaySend w side own (Word (text_of line)) (own_chan kind) =
        send-same w side own (sending kind) (Word (text_of line)) (own_chan kind) (in-phase phase.Send ph) (may-put w side (sending kind) letters (own_chan kind) (text_of line) (service-puts w kind) (text-is w line)) in
        subst (Lawful source) (sym is_sent)
        (send-lawful source c l (Service n) (Serves a) (Serves (record { end = a.end; serving = serving })) a.end f side own (own_chan kind) (Word (text_of line)) is stood joined now.held may
        (refl, busy) (λ o. absurd (true≢false o)) (λ r j. absurd (cc j)) (phases-on busy serving (own_chan kind) refl refl))

    in-each : (ph : Phase) (lines : Lines) → a.serving.phase ≡ ph → a.serving.script ≡ lines → Does c (Service n) (serving_command a (want_in ph lines)).act d → Lawful source d
    in-each phase.Pick lines i j does = pick-lawful i does
    in-each phase.Text lines i j does = text-lawful i does
    in-each phase.Send [] i j does = absurd does
    in-each phase.Send (line ∷ lines) i j does = line-lawful line lines i j does
    in-each phase.Closed lines i j does = absurd does

    -- each step of a service
    pub service-lawful : (i : ℕ) → Does c (Service n) (act_of w (Service n) (Serves a) i) d → Lawful source d
    service-lawful i does = in-each a.serving.phase a.serving.script refl refl does
