-- What the next command of a process or service wants to do, by the declarations, its name, its state and the branch of a race.
use Rattle.std.specs.Prelude.{ℕ, suc, true, false, not, [], ◌∷◌, ◌++◌, Option, Some, None, if◌then◌else◌, option_map}
use Rattle.campl_tree.specs.declared.service.Side.{Side}
use Rattle.campl_tree.specs.declared.service.Side.TheVariants.{Input, Output}
use Rattle.campl_tree.specs.Side.{opposite}
use Rattle.campl_tree.specs.Plain.Process as b
use Rattle.campl_tree.specs.Plain.Process.{Body, Branches}
use Rattle.campl_value.specs.Tree.{Tree}
use Rattle.campl_value.specs.declared.message.Message.TheVariants as m
use Rattle.campl_value.specs.declared.message.Message as of_service
use Rattle.campl_machine.specs.Names.{Path, Half, First, Second, End, Who, Process, Service}
use Rattle.campl_machine.specs.Machine.{Act, Moves, Looks, Links, Stands, Breaks}
use Rattle.campl_types.specs.Names.{Name, found}
use Rattle.campl_types.specs.World.{World, process_named}
use Rattle.campl_types.specs.Matching.{Bindings, first_match, number_of, row_picked}
use Rattle.campl_types.specs.Linear.{body_rows}
use Rattle.campl_types.specs.Free.{is_free}
use Rattle.campl_service.specs.declared.phase.Want.{Want}
use Rattle.campl_service.specs.declared.phase.Want.TheVariants as want
use Rattle.campl_service.specs.Services.{Action, action}
use Rattle.campl_service.specs.Services as services
use Rattle.campl_evaluation.specs.Evaluation.{Answer, Done, Deep, Wrong, More, value_of, values_of}
use Rattle.campl_peel.specs.Numbered.{last_first}
use Rattle.campl_peel.specs.Plugging.{stands_in, side_in}
use Rattle.campl_peel.specs.Peel.{Peel, peel_of}
use Rattle.campl_peel.specs.Terms.{Term, Doing, Plugging, left_behind, those}
use Rattle.campl_meaning.specs.States as k
use Rattle.campl_meaning.specs.States.{Message, Word, Pick, EndPair, Ends, Running, Attending, State, Runs, Serves, Kind, Command}
use Rattle.campl_meaning.specs.Bodies.{row_at, branch_at, without_end, are_held, handed, both_ends, bind, bind_all}

-- The states behind a step

-- a process goes on with this term, these variables and these ends, one step later
abbrev pub onward : Running → Term → Bindings → Ends → State
onward r term variables ends = Runs (record { term = term; variables = variables; ends = ends; steps = suc r.steps; spent = 0 })

-- it has spent one more call on its present command
abbrev pub spends : Running → State
spends r = Runs (record { term = r.term; variables = r.variables; ends = r.ends; steps = suc r.steps; spent = suc r.spent })

-- a child with this body and these ends
abbrev pub newborn : Running → Body → Ends → State
newborn r body ends = Runs (record { term = Doing body; variables = r.variables; ends = ends; steps = 0; spent = 0 })

-- what the next step of a process bears is named by its path and the number of that step
abbrev pub born : Path → Running → ℕ → Half → End
born p r channel half = record { bearer = p; step = suc r.steps; channel = channel; half = half }

abbrev pub child : Path → Running → Who
child p r = Process (p ++ (record { step = suc r.steps; place = 1 } ∷ []))

-- The forms of commands

abbrev pub command : Kind → Option End → Act State Message → Command
command kind end act = record { kind = kind; end = end; second = None; act = act }

-- it goes on without a message
abbrev pub quiet : State → Act State Message
quiet state = Moves (record { send = None; channels = []; children = []; next = Some state })

-- it sends a message on an end
abbrev pub sends : End → Message → State → Act State Message
sends end message state = Moves (record { send = Some (end, message); channels = []; children = []; next = Some state })

-- it is gone
abbrev pub gone : Act State Message
gone = Moves (record { send = None; channels = []; children = []; next = None })

-- with what is found; it breaks where there is none
abbrev pub with_found : {A : Type 0} → Kind → Option A → (A → Command) → Command
with_found kind None f = command kind None Breaks
with_found kind (Some a) f = f a

-- with the values of its expressions; one more call is spent on it where more are needed, and it breaks where there are none
abbrev pub with_answer : {A : Type 0} → Running → Kind → Option End → Answer A → (A → Command) → Command
with_answer r kind end (Done a left) f = f a
with_answer r kind end (Deep left) f = command kind end Breaks
with_answer r kind end (Wrong left) f = command kind end Breaks
with_answer r kind end More f = command k.Work None (quiet (spends r))

-- a message of one kind
abbrev pub on_word : (Tree → Option State) → Message → Option State
on_word f (Word v) = f v
on_word f (Pick n) = None
on_word f (EndPair e g) = None

abbrev pub on_pick : (ℕ → Option State) → Message → Option State
on_pick f (Word v) = None
on_pick f (Pick n) = f n
on_pick f (EndPair e g) = None

abbrev pub on_ends : (End → End → Option State) → Message → Option State
on_ends f (Word v) = None
on_ends f (Pick n) = None
on_ends f (EndPair e g) = f e g

-- Plugs

-- the half of a new channel on the output side is the first
abbrev pub half_on : Side → Half
half_on Output = First
half_on Input = Second

-- the last part that is left is born with its share and a half of the new channel; a plug that has no part to peel breaks
abbrev pub peels : Path → Running → Option Peel → Command
peels p r None = command k.Peel None Breaks
peels p r (Some q) = command k.Peel None (Moves (record {
  send = None;
  channels = (born p r 1 First, born p r 1 Second) ∷ [];
  children = (
    child p r,
    newborn r q.body
        ((q.link.name.name, born p r 1 (half_on (side_in q.header q.link.name.name))) ∷ those (stands_in q.header) r.ends),
  ) ∷ [];
  next = Some (onward r (left_behind q) r.variables
      ((q.link.name.name, born p r 1 (half_on (opposite (side_in q.header q.link.name.name)))) ∷ those (λ x. not (stands_in q.header x)) r.ends));
}))

-- Races

-- it goes on as this branch, which is one of the race's, and leaves the message
abbrev pub chooses : Running → ℕ → Option (Name × Body) → Command
chooses r i None = command (k.Choose i) None Stands
chooses r i (Some branch) =
    with_found (k.Choose i) (found branch.0 r.ends) (λ e. command (k.Choose i) (Some e)
    (Looks false e (λ m. Some (onward r (Doing branch.1) r.variables r.ends))))

-- Bodies

-- the next command of a body; i is the branch of a race
abbrev pub next_command : World → Path → Running → (i : ℕ) → Body → Command
next_command w p r i (b.Then (b.Put at a x) rest) =
    with_found k.Put (found x.name r.ends) (λ e. with_answer r k.Put (Some e) (value_of w a r.variables r.spent)
    (λ v. command k.Put (Some e) (sends e (Word v) (onward r (Doing rest) r.variables r.ends))))
next_command w p r i (b.Then (b.Get at v x) rest) =
    with_found k.Get (found x.name r.ends) (λ e. command k.Get (Some e)
    (Looks true e (on_word (λ u. Some (onward r (Doing rest) (bind v u r.variables) r.ends)))))
next_command w p r i (b.Then (b.Hput at c x) rest) =
    with_found k.Pick' (found x.name r.ends) (λ e. with_found k.Pick' (number_of w c.name)
    (λ n. command k.Pick' (Some e) (sends e (Pick n) (onward r (Doing rest) r.variables r.ends))))
next_command w p r i (b.Then (b.Split at x y z) rest) =
    with_found k.Split (found x.name r.ends) (λ e. command k.Split (Some e)
    (Looks true e (on_ends (λ f g. Some (onward r (Doing rest) r.variables ((z.name, g) ∷ (y.name, f) ∷ without_end x.name r.ends))))))
next_command w p r i (b.Then (b.Close at x) rest) =
    with_found k.Close (found x.name r.ends) (λ e. command k.Close (Some e) (quiet (onward r (Doing rest) r.variables (without_end x.name r.ends))))
next_command w p r i (b.Halt at None) = command k.Halt None gone
next_command w p r i (b.Halt at (Some x)) = with_found k.Halt (found x.name r.ends) (λ e. command k.Halt (Some e) gone)
next_command w p r i (b.Hcase at x rows) =
    with_found k.Offer (found x.name r.ends) (λ e. command k.Offer (Some e)
    (Looks true e (on_pick (λ n. option_map (λ body. onward r (Doing body) r.variables r.ends) (row_picked w n rows)))))
next_command w p r i (b.Fork at x y left z right) =
    with_found k.Fork (found x.name r.ends) (λ e. command k.Fork (Some e) (Moves (record {
      send = Some (e, EndPair (born p r 1 Second) (born p r 2 Second));
      channels = (born p r 1 First, born p r 1 Second) ∷ (born p r 2 First, born p r 2 Second) ∷ [];
      children = (child p r, newborn r right ((z.name, born p r 2 First) ∷ those (λ c. not (is_free c left)) (without_end x.name r.ends))) ∷ [];
      next = Some (onward r (Doing left) r.variables ((y.name, born p r 1 First) ∷ those (λ c. is_free c left) (without_end x.name r.ends)));
    })))
next_command w p r i (b.Plug at links parts) = peels p r (peel_of links (last_first links parts))
next_command w p r i (b.Race at rows) = if are_held rows r.ends then chooses r i (branch_at rows i) else command (k.Choose i) None Breaks
next_command w p r i (b.Case at a rows) =
    with_answer r k.Case None (value_of w a r.variables r.spent)
    (λ v. with_found k.Case (first_match w (body_rows rows) (v ∷ [])) (λ m. with_found k.Case (row_at rows m.0)
    (λ body. command k.Case None (quiet (onward r (Doing body) (m.1 ++ r.variables) r.ends)))))
next_command w p r i (b.Identity at x negated y) =
    with_found k.Link (found x r.ends) (λ e. with_found k.Link (found y.name r.ends)
    (λ f. record { kind = k.Link; end = Some e; second = Some f; act = Links e f }))
next_command w p r i (b.Call at x args inputs outputs) =
    with_found k.Call (process_named w x) (λ d.
    with_found k.Call (both_ends (handed d.row.inputs inputs r.ends) (handed d.row.outputs outputs r.ends)) (λ es.
    with_answer r k.Call None (values_of w args r.variables r.spent)
    (λ vs. command k.Call None (quiet (onward r (Doing d.row.body) (bind_all d.row.variables vs) es)))))

abbrev pub term_command : World → Path → Running → (i : ℕ) → Term → Command
term_command w p r i (Doing body) = next_command w p r i body
term_command w p r i (Plugging links parts) = peels p r (peel_of links parts)

-- Services

-- a message as a service hears it; what carries ends is nothing that it takes
abbrev pub heard : Message → of_service.Message
heard (Word v) = m.Word v
heard (Pick n) = m.Pick n
heard (EndPair e f) = m.Ends 0 0

-- what a service says
abbrev pub spoken : End → of_service.Message → Option (End × Message)
spoken e (m.Word v) = Some (e, Word v)
spoken e (m.Pick n) = Some (e, Pick n)
spoken e (m.Ends a b) = None

abbrev pub said : End → Option of_service.Message → Option (End × Message)
said e None = None
said e (Some m) = spoken e m

abbrev pub served : End → Action → State
served e a = Serves (record { end = e; serving = a.0 })

-- the action of a service that is given this
abbrev pub hears : Attending → Message → Option State
hears s given = option_map (served s.end) (action s.serving (Some (heard given)))

abbrev pub says : End → Option Action → Act State Message
says e None = Stands
says e (Some a) = Moves (record { send = said e a.1; channels = []; children = []; next = Some (served e a) })

abbrev pub serving_command : Attending → Want → Command
serving_command s want.Pick = command k.ServePick (Some s.end) (Looks true s.end (hears s))
serving_command s want.Text = command k.ServeText (Some s.end) (Looks true s.end (hears s))
serving_command s want.Send = command k.ServeLine (Some s.end) (says s.end (action s.serving None))
serving_command s want.Spent = command k.ServeLine (Some s.end) Stands
serving_command s want.Closed = command k.ServePick (Some s.end) Stands

-- what a process or service of this name wants to do next; it stands where its state isn't of its name's kind
abbrev pub wants : World → Who → State → (choice : ℕ) → Command
wants w (Process p) (Runs r) i = term_command w p r i r.term
wants w (Service n) (Serves s) i = serving_command s (services.want s.serving)
wants w (Process p) (Serves s) i = command k.ServePick None Stands
wants w (Service n) (Runs r) i = command k.Work None Stands
