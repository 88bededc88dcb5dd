-- Who goes on as a service is one, and is given what it waits for.
use Rattle.std.proofs.Common.{◌≡◌, ℕ, true, [], ◌∷◌, Option, Some, None, IsSome, option_map, refl, sym, ap, subst, ◌∙◌}
use Rattle.campl_value.specs.Tree.{Tree}
use Rattle.campl_value.specs.declared.message.Message.TheVariants.{Word, Pick, Ends as EndPair}
use Rattle.campl_service.specs.declared.phase.Phase.{Phase}
use Rattle.campl_service.specs.declared.phase.Phase.TheVariants as p
use Rattle.campl_service.specs.declared.phase.Want.TheVariants as want
use Rattle.campl_service.specs.declared.phase.Want as phase
use Rattle.campl_service.specs.Scripts.{Lines}
use Rattle.campl_value.specs.Text.{text_of}
use Rattle.campl_service.specs.Transcripts as transcripts
use Rattle.campl_service.specs.Services as services
use Rattle.campl_service.specs.Services.{Action, Serving, Suits, action, action_in, next_line, want_in}
use Rattle.campl_service.proofs.Actions.{exactly}
use Rattle.campl_meaning.specs.States as k
use Rattle.campl_meaning.specs.States.{Kind}
use Rattle.campl_code.specs.Instructions.{Code}
use Rattle.campl_cells.specs.Parts.{Mail, Life, Ended, Runs, Serves}
use Rattle.campl_cells.specs.Stands.{LifeWithin}
use Rattle.campl_cells.specs.Wants.{Drawn, Move, Next, Attends, Want, Moves, Looks, hears, said, says, served, serving_want, wanted}
use Rattle.campl_cells.specs.Steps.{IsLifeOf}
use Rattle.campl_parts.specs.Serving.{Hears, Says}
use Rattle.campl_steps.specs.Doing.{IsGiven, on_end}
use Rattle.campl_steps.proofs.Within.{IsOwnIf, IsOwnWant, process-fine}

-- a service that has an action is given what it waits for
suited : (s : Serving) (given : Option Mail) (a : Action) → action s given ≡ Some a → Suits (services.want s) given
suited s given a e = (exactly s.phase s given).0 (rw e refl)

-- and the other way round
pub acts : (s : Serving) (given : Option Mail) → Suits (services.want s) given → (a : Action) × (action s given ≡ Some a)
acts s given h = go (action s given) refl ((exactly s.phase s given).1 h)
  where
    go : (o : Option Action) → action s given ≡ o → IsSome o → (a : Action) × (action s given ≡ Some a)
    go None e h = absurd cc
    go (Some a) e h = (a, e)

-- Messages that are taken

pub hears-some : (e : ℕ) (s : Serving) (mail : Mail) (a : Action) → action s (Some mail) ≡ Some a → hears e s mail ≡ Some (Attends e a.0)
hears-some e s mail a h = ap (option_map (served e)) h

some-hears : (e : ℕ) (s : Serving) (mail : Mail) (next : Next) (o : Option Action) → action s (Some mail) ≡ o → hears e s mail ≡ Some next →
    (a : Action) × (action s (Some mail) ≡ Some a) × (next ≡ Attends e a.0)
some-hears e s mail next None h r = absurd (let z : ⊥ = cc (sym (ap (option_map (served e)) h) ∙ r) in z)
some-hears e s mail next (Some a) h r = (a, h, (let z : Some next ≡ Some (Attends e a.0) = sym r ∙ hears-some e s mail a h in cc z))

own-hears : (o : Option Next) (e : ℕ) (s : Serving) → IsOwnIf o → o ≡ Some (Attends e s) → ⊥
own-hears o e s h r = subst IsOwnIf r h

abbrev pub GoesWith : Code → ℕ → Serving → Mail → Life → Type 0
GoesWith code end s mail life =
    IsGiven life (Some mail) × ((life2 : Life) → Hears mail life life2 → (next : Next) × (hears end s mail ≡ Some next) × IsLifeOf code next life2)

heard-by : (code : Code) (e end : ℕ) (x s : Serving) (mail : Mail) → hears e x ≡ hears end s → Suits (services.want s) (Some mail) → GoesWith code end s mail (Serves e x)
heard-by code e end x s mail f h =
    let a = acts s (Some mail) h in
    let same : hears e x mail ≡ Some (Attends end a.0.0) = ap (λ (g : Mail → Option Next). g mail) f ∙ hears-some end s mail a.0 a.1 in
    let b = some-hears e x mail (Attends end a.0.0) (action x (Some mail)) refl same in
    (suited x (Some mail) b.0 b.1, goes b.0 b.1)
  where
    goes : (b : Action) → action x (Some mail) ≡ Some b → (life2 : Life) → Hears mail (Serves e x) life2 → (next : Next) × (hears end s mail ≡ Some next) × IsLifeOf code next life2
    goes b r Ended z = absurd z
    goes b r (Runs h) z = absurd z
    goes b r (Serves e2 s2) z =
        let t : Some b.0 ≡ Some s2 = sym (ap (option_map (λ (a : Action). a.0)) r) ∙ z.1 in
        let u : s2 ≡ b.0 = cc t in
        (Attends e b.0, sym (ap (λ (g : Mail → Option Next). g mail) f) ∙ hears-some e x mail b r, (λ i. Serves (z.0 i) (u i)))

no-line : (e end : ℕ) (kind : Kind) (f : Mail → Option Next) (o : Option Action) → says e o ≡ Looks kind true end f → ⊥
no-line e end kind f None h = cc h
no-line e end kind f (Some a) h = cc h

hearing-as : (code : Code) (kind : Kind) (e end : ℕ) (x s : Serving) (mail : Mail) (o : phase.Want) → serving_want e x o ≡ Looks kind true end (hears end s) →
    Suits (services.want s) (Some mail) → GoesWith code end s mail (Serves e x)
hearing-as code kind e end x s mail want.Pick h u = heard-by code e end x s mail (cc h) u
hearing-as code kind e end x s mail want.Text h u = heard-by code e end x s mail (cc h) u
hearing-as code kind e end x s mail want.Send h u = absurd (no-line e end kind (hears end s) (action x None) h)
hearing-as code kind e end x s mail want.Spent h u = absurd (cc h)
hearing-as code kind e end x s mail want.Closed h u = absurd (cc h)

-- who takes a message as a service is one
pub hearing : (code : Code) (d : Drawn) (life : Life) (There : ℕ → Type 0) → LifeWithin There life → (i : ℕ) (kind : Kind) (end : ℕ) (s : Serving) (mail : Mail) →
    wanted code d life i ≡ Looks kind true end (hears end s) → Suits (services.want s) (Some mail) → GoesWith code end s mail life
hearing code d Ended There held i kind end s mail h u = absurd (cc h)
hearing code d (Runs r) There held i kind end s mail h u =
    let a = acts s (Some mail) u in
    let own = subst IsOwnWant h (process-fine There d code r held i).1 in
    absurd (own-hears (hears end s mail) end a.0.0 (own mail) (hears-some end s mail a.0 a.1))
hearing code d (Serves e x) There held i kind end s mail h u = hearing-as code kind e end x s mail (services.want x) h u

-- Lines that are sent

-- what a service says that has to send a line
pub record SaysLine (s : Serving) : Type 0 where
  pub after : Serving
  pub line : Tree
  pub acts : action s None ≡ Some (after, Some (Word line))
  pub next : next_line s.script ≡ Some line

pub says-line : (s : Serving) → Suits (services.want s) None → SaysLine s
says-line s h = in-phase s.phase refl h
  where
    sends : (lines : Lines) → s.script ≡ lines → s.phase ≡ p.Send → Suits (want_in p.Send lines) None → SaysLine s
    sends [] e f h = absurd h
    sends (line ∷ lines) e f h = record {
      after = services.in_phase p.Pick (services.noting (transcripts.Sent line) (services.with_script lines s));
      line = text_of line;
      acts = ap (λ (x : Phase). action_in x s None) f ∙ ap (services.sent s) e;
      next = ap next_line e;
    }

    in-phase : (x : Phase) → s.phase ≡ x → Suits (want_in x s.script) None → SaysLine s
    in-phase p.Pick f h = absurd h
    in-phase p.Text f h = absurd h
    in-phase p.Send f h = sends s.script refl f h
    in-phase p.Closed f h = absurd h

-- the step of a service that sends a line
abbrev pub line-sent : ℕ → Serving → Tree → Want
line-sent end after line = Moves k.ServeLine (Some end) (record { send = Some (end, Word line); channels = []; child = None; next = Attends end after })

pub says-sent : (end : ℕ) (s : Serving) (z : SaysLine s) → says end (action s None) ≡ line-sent end z.after z.line
says-sent end s z = ap (says end) z.acts

-- the service is given nothing, and says this line
abbrev pub SaysWith : ℕ → Serving → Tree → Life → Type 0
SaysWith end after line life =
    IsGiven life None × ((life2 : Life) (mail : Option Mail) → Says mail life life2 → (life2 ≡ Serves end after) × (on_end end mail ≡ Some (end, Word line)))

said-word : (e end : ℕ) (mail : Option Mail) (line : Tree) → said e mail ≡ Some (end, Word line) → on_end end mail ≡ Some (end, Word line)
said-word e end None line h = absurd (let z : ⊥ = cc h in z)
said-word e end (Some (Word v)) line h =
    let t : ◌≡◌ {A = ℕ × Mail} (e, Word v) (end, Word line) = cc h in
    ap (λ (s : ℕ × Mail). Some (end, s.1)) t
said-word e end (Some (Pick n)) line h =
    let t : ◌≡◌ {A = ℕ × Mail} (e, Pick n) (end, Word line) = cc h in
    ap (λ (s : ℕ × Mail). Some (end, s.1)) t
said-word e end (Some (EndPair a b)) line h = absurd (let z : ⊥ = cc h in z)

move-of-line : (e end : ℕ) (a : Action) (after : Serving) (line : Tree) → says e (Some a) ≡ line-sent end after line →
    (e ≡ end) × (a.0 ≡ after) × (said e a.1 ≡ Some (end, Word line))
move-of-line e end a after line h =
    let v : ◌≡◌ {A = Move} (record { send = said e a.1; channels = []; child = None; next = Attends e a.0 }) (record { send = Some (end, Word line); channels = []; child = None; next = Attends end after }) = cc h in
    let next : Attends e a.0 ≡ Attends end after = ap (λ (x : Move). x.next) v in
    (cc h, cc next, ap (λ (x : Move). x.send) v)

saying-by : (e end : ℕ) (x after : Serving) (line : Tree) (o : Option Action) → action x None ≡ o → says e o ≡ line-sent end after line → SaysWith end after line (Serves e x)
saying-by e end x after line None r h = absurd (cc h)
saying-by e end x after line (Some a) r h = (suited x None a r, goes)
  where
    goes : (life2 : Life) (mail : Option Mail) → Says mail (Serves e x) life2 → (life2 ≡ Serves end after) × (on_end end mail ≡ Some (end, Word line))
    goes Ended mail z = absurd z
    goes (Runs h2) mail z = absurd z
    goes (Serves e2 s2) mail z =
        let m = move-of-line e end a after line h in
        let t : Some a ≡ Some (s2, mail) = sym r ∙ z.1 in
        let first : a.0 ≡ s2 = cc t in
        let second : a.1 ≡ mail = cc t in
        ((λ i. Serves ((z.0 ∙ m.0) i) ((sym first ∙ m.1) i)), said-word e end mail line (ap (said e) (sym second) ∙ m.2))

saying-as : (e end : ℕ) (x after : Serving) (line : Tree) (o : phase.Want) → serving_want e x o ≡ line-sent end after line → SaysWith end after line (Serves e x)
saying-as e end x after line want.Pick h = absurd (cc h)
saying-as e end x after line want.Text h = absurd (cc h)
saying-as e end x after line want.Send h = saying-by e end x after line (action x None) refl h
saying-as e end x after line want.Spent h = absurd (cc h)
saying-as e end x after line want.Closed h = absurd (cc h)

-- who sends a line as a service is one
pub saying : (code : Code) (d : Drawn) (life : Life) (There : ℕ → Type 0) → LifeWithin There life → (i end : ℕ) (after : Serving) (line : Tree) →
    wanted code d life i ≡ line-sent end after line → SaysWith end after line life
saying code d Ended There held i end after line h = absurd (cc h)
saying code d (Runs r) There held i end after line h = absurd (subst IsOwnWant h (process-fine There d code r held i).1)
saying code d (Serves e x) There held i end after line h = saying-as e end x after line (services.want x) h
