-- What code does next as a process: the same commands as those of terms, over cells in place of running processes.
use Rattle.std.specs.Prelude.{ℕ, suc, ◌+◌, Bool, true, false, ◌&&◌, List, [], ◌∷◌, ◌++◌, Option, Some, None, if◌then◌else◌, slice_get, slice_set, length, eqb, option_map, is_some}
use Rattle.campl_tree.specs.Side.{opposite}
use Rattle.campl_value.specs.Tree.{Tree}
use Rattle.campl_machine.specs.Names.{Path, Half, First, Second, End, Who, Process}
use Rattle.campl_machine.specs.Machine.{Act, Moves, Looks, Links, Stands, Breaks}
use Rattle.campl_meaning.specs.States as k
use Rattle.campl_meaning.specs.States.{Message, Word, Pick, EndPair, Attending, State, Runs, Serves, Kind, Command}
use Rattle.campl_meaning.specs.Wants.{half_on}
use Rattle.campl_code.specs.Decisions.{chosen}
use Rattle.campl_code.specs.Instructions.{Instr, Block, Code, blocks}
use Rattle.campl_code.specs.Instructions as i
use Rattle.campl_code.specs.Runs.{Outcome, Gave, Broke, Pauses, Short, run}
use Rattle.campl_code.specs.Frames.{frame_at, frame_of, set_from}
use Rattle.campl_code_bodies.specs.Bodies.{receives_at}

-- the ends of channels by their numbers; a channel that wasn't set has none
abbrev pub Ends : Type 0
Ends = ℕ → Option End

-- a process: its block and place, its variables and ends, its steps, and the calls spent on its present command
pub record Cell : Type 0 where
  pub block : ℕ
  pub at : ℕ
  pub vars : List Tree
  pub ends : Ends
  pub steps : ℕ
  pub spent : ℕ

-- a process by its cell, or a service as it is
pub data CodeState : Type 0 where
  RunsCode : Cell → CodeState
  Beside : State → CodeState

pub record CodeCommand : Type 0 where
  pub kind : Kind
  pub end : Option End
  pub second : Option End
  pub act : Act CodeState Message

abbrev pub set_end : ℕ → End → Ends → Ends
set_end n e ends m = if eqb n m then Some e else ends m

-- States behind a step

abbrev pub onward : Cell → (at : ℕ) → List Tree → Ends → CodeState
onward c at vars ends = RunsCode (record { block = c.block; at = at; vars = vars; ends = ends; steps = suc c.steps; spent = 0 })

abbrev pub spends : Cell → CodeState
spends c = RunsCode (record c { steps = suc c.steps; spent = suc c.spent })

-- a child begins with copies
abbrev pub newborn : Cell → (at : ℕ) → List Tree → Ends → CodeState
newborn c at vars ends = RunsCode (record { block = c.block; at = at; vars = vars; ends = ends; steps = 0; spent = 0 })

abbrev pub born : Path → Cell → ℕ → Half → End
born p c channel half = record { bearer = p; step = suc c.steps; channel = channel; half = half }

abbrev pub child : Path → Cell → Who
child p c = Process (p ++ (record { step = suc c.steps; place = 1 } ∷ []))

-- The forms of commands

abbrev pub command : Kind → Option End → Act CodeState Message → CodeCommand
command kind end act = record { kind = kind; end = end; second = None; act = act }

abbrev pub quiet : CodeState → Act CodeState Message
quiet state = Moves (record { send = None; channels = []; children = []; next = Some state })

abbrev pub sends : End → Message → CodeState → Act CodeState Message
sends end message state = Moves (record { send = Some (end, message); channels = []; children = []; next = Some state })

abbrev pub gone : Act CodeState Message
gone = Moves (record { send = None; channels = []; children = []; next = None })

abbrev pub with_found : {A : Type 0} → Kind → Option A → (A → CodeCommand) → CodeCommand
with_found kind None f = command kind None Breaks
with_found kind (Some a) f = f a

-- the one value of a command with one expression
abbrev pub with_one : Kind → List Tree → (Tree → CodeCommand) → CodeCommand
with_one kind [] f = command kind None Breaks
with_one kind (v ∷ []) f = f v
with_one kind (v ∷ u ∷ vs) f = command kind None Breaks

-- messages, where the code looks at one

abbrev pub word_to : (Tree → Option CodeState) → Message → Option CodeState
word_to f (Word v) = f v
word_to f (Pick n) = None
word_to f (EndPair e g) = None

abbrev pub pick_to : (ℕ → Option CodeState) → Message → Option CodeState
pick_to f (Word v) = None
pick_to f (Pick n) = f n
pick_to f (EndPair e g) = None

abbrev pub ends_to : (End → End → Option CodeState) → Message → Option CodeState
ends_to f (Word v) = None
ends_to f (Pick n) = None
ends_to f (EndPair e g) = f e g

-- Calls

abbrev pub end_at : Ends → Option ℕ → Option End
end_at ends None = None
end_at ends (Some n) = ends n

-- a called process's block, with its values and the ends of these channels
abbrev pub called : Code → Cell → ℕ → List ℕ → List Tree → Block → CodeCommand
called code c p channels values b = command k.Call None (quiet (RunsCode (record {
  block = length code.functions + p;
  at = 0;
  vars = frame_of code.decisions b values;
  ends = λ n. end_at c.ends (slice_get channels n);
  steps = suc c.steps;
  spent = 0;
})))

-- Races

abbrev pub channel_at : List Instr → ℕ → Option ℕ
channel_at block at = receives_at (slice_get block at)

abbrev pub are_set : List Instr → Ends → List ℕ → Bool
are_set block ends [] = true
are_set block ends (to ∷ targets) = is_some (end_at ends (channel_at block to)) && are_set block ends targets

abbrev pub chooses : Cell → List Instr → List Tree → ℕ → Option ℕ → CodeCommand
chooses c block vars i None = command (k.Choose i) None Stands
chooses c block vars i (Some to) =
    with_found (k.Choose i) (end_at c.ends (channel_at block to)) (λ e. command (k.Choose i) (Some e) (Looks false e (λ m. Some (onward c to vars c.ends))))

-- One instruction of a process: i is the branch of a race; the place, the variables and the values are those that its expressions left

abbrev pub behind : Code → Cell → List Instr → Path → (i at : ℕ) → (vars values : List Tree) → Instr → CodeCommand
behind code c block p branch at vars values (i.Put n) =
    with_found k.Put (c.ends n) (λ e. with_one k.Put values (λ v. command k.Put (Some e) (sends e (Word v) (onward c (at + 1) vars c.ends))))
behind code c block p branch at vars values (i.Get n m) =
    with_found k.Get (c.ends n) (λ e. command k.Get (Some e) (Looks true e (word_to (λ u. Some (onward c (at + 1) (slice_set vars m u) c.ends)))))
behind code c block p branch at vars values (i.Pick n m) =
    with_found k.Pick' (c.ends n) (λ e. command k.Pick' (Some e) (sends e (Pick m) (onward c (at + 1) vars c.ends)))
behind code c block p branch at vars values (i.Split n l r) =
    with_found k.Split (c.ends n) (λ e. command k.Split (Some e) (Looks true e (ends_to (λ f g. Some (onward c (at + 1) vars (set_end r g (set_end l f c.ends)))))))
behind code c block p branch at vars values (i.Close n) = with_found k.Close (c.ends n) (λ e. command k.Close (Some e) (quiet (onward c (at + 1) vars c.ends)))
behind code c block p branch at vars values (i.Halt None) = command k.Halt None gone
behind code c block p branch at vars values (i.Halt (Some n)) = with_found k.Halt (c.ends n) (λ e. command k.Halt (Some e) gone)
behind code c block p branch at vars values (i.Offer n targets) =
    with_found k.Offer (c.ends n) (λ e. command k.Offer (Some e) (Looks true e (pick_to (λ m. option_map (λ to. onward c to vars c.ends) (slice_get targets m)))))
behind code c block p branch at vars values (i.Fork n l r to) =
    with_found k.Fork (c.ends n) (λ e. command k.Fork (Some e) (Moves (record {
      send = Some (e, EndPair (born p c 1 Second) (born p c 2 Second));
      channels = (born p c 1 First, born p c 1 Second) ∷ (born p c 2 First, born p c 2 Second) ∷ [];
      children = (child p c, newborn c to vars (set_end r (born p c 2 First) c.ends)) ∷ [];
      next = Some (onward c (at + 1) vars (set_end l (born p c 1 First) c.ends));
    })))
behind code c block p branch at vars values (i.Peel n side to) = command k.Peel None (Moves (record {
  send = None;
  channels = (born p c 1 First, born p c 1 Second) ∷ [];
  children = (child p c, newborn c to vars (set_end n (born p c 1 (half_on side)) c.ends)) ∷ [];
  next = Some (onward c (at + 1) vars (set_end n (born p c 1 (half_on (opposite side))) c.ends));
}))
behind code c block p branch at vars values (i.Race targets) =
    if are_set block c.ends targets then chooses c block vars branch (slice_get targets branch) else command (k.Choose branch) None Breaks
behind code c block p branch at vars values (i.Case m base targets) =
    with_found k.Case (slice_get code.decisions m) (λ d. with_found k.Case (chosen d.tree values) (λ r. with_found k.Case (slice_get targets r.0)
    (λ to. command k.Case None (quiet (onward c to (set_from base r.1 vars) c.ends)))))
behind code c block p branch at vars values (i.Link n m) =
    with_found k.Link (c.ends n) (λ e. with_found k.Link (c.ends m) (λ f. record { kind = k.Link; end = Some e; second = Some f; act = Links e f }))
behind code c block p branch at vars values (i.LinkNeg n m) =
    with_found k.Link (c.ends n) (λ e. with_found k.Link (c.ends m) (λ f. record { kind = k.Link; end = Some e; second = Some f; act = Links e f }))
behind code c block p branch at vars values (i.Go g channels) = with_found k.Call (slice_get code.processes g) (λ b. called code c g channels values b)
behind code c block p branch at vars values x = command k.Work None Breaks

abbrev pub at_instruction : Code → Cell → List Instr → Path → (i at : ℕ) → (vars values : List Tree) → Option Instr → CodeCommand
at_instruction code c block p branch at vars values None = command k.Work None Breaks
at_instruction code c block p branch at vars values (Some x) = behind code c block p branch at vars values x

abbrev pub in_block : Code → Cell → Path → (i at : ℕ) → (vars values : List Tree) → Option Block → CodeCommand
in_block code c p branch at vars values None = command k.Work None Breaks
in_block code c p branch at vars values (Some b) = at_instruction code c b.code p branch at vars values (slice_get b.code at)

-- what a cell wants, by how the run of its expressions ended
abbrev pub wanted : Code → Cell → Path → (i : ℕ) → Outcome → CodeCommand
wanted code c p branch (Gave at vars values left) = in_block code c p branch at vars values (slice_get (blocks code) c.block)
wanted code c p branch (Broke reason left) = command k.Work None Breaks
wanted code c p branch (Pauses f fs) = command k.Work None (quiet (spends c))
wanted code c p branch Short = command k.Work None Breaks

-- the run of its expressions with the calls that are spent on them, of at most n instructions
abbrev pub run_of : Code → ℕ → Cell → Outcome
run_of code n c = run code n (frame_at c.block c.at c.vars) [] c.spent
