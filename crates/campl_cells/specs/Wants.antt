-- What a process or service does next, read off its part, the code and the branch of a race; what is born has the drawn numbers.
use Rattle.std.specs.Prelude.{ℕ, ◌+◌, Bool, true, false, ◌&&◌, List, [], ◌∷◌, Option, Some, None, if◌then◌else◌, slice_get, slice_set, length, eqb, option_map, is_some}
use Rattle.campl_tree.specs.declared.service.Side.{Side}
use Rattle.campl_tree.specs.declared.service.Side.TheVariants.{Input, Output}
use Rattle.campl_tree.specs.Side.{opposite}
use Rattle.campl_value.specs.Tree.{Tree}
use Rattle.campl_value.specs.declared.message.Message.TheVariants.{Word, Pick, Ends as EndPair}
use Rattle.campl_service.specs.declared.phase.Want.TheVariants as want
use Rattle.campl_service.specs.declared.phase.Want as phase
use Rattle.campl_service.specs.Services as services
use Rattle.campl_service.specs.Services.{Serving, Action}
use Rattle.campl_meaning.specs.States as k
use Rattle.campl_meaning.specs.States.{Kind}
use Rattle.campl_code.specs.Decisions.{chosen}
use Rattle.campl_code.specs.Instructions.{Instr, Block, Code, blocks}
use Rattle.campl_code.specs.Instructions as i
use Rattle.campl_code.specs.Frames.{frame_of, set_from}
use Rattle.campl_code_bodies.specs.Commands.{channel_at}
use Rattle.campl_code_bodies.specs.Kept.{Kept, Values, AtCall, Broken}
use Rattle.campl_cells.specs.Parts.{Mail, Ends, Held, Life, Ended, Runs, Serves, near, far}

-- the numbers for what a step may bear: a child and two channels
pub record Drawn : Type 0 where
  pub child : ℕ
  pub channel : ℕ
  pub channel2 : ℕ

-- a place of a block, with the variables and ends; no call is spent there
pub record Start : Type 0 where
  pub block : ℕ
  pub at : ℕ
  pub vars : List Tree
  pub ends : Ends

-- how a process or service goes on
pub data Next : Type 0 where
  Gone : Next
  -- with one more call for the same command
  Spends : Held → Next
  Begins : Start → Next
  -- as a service
  Attends : (end : ℕ) → Serving → Next

-- a step that waits for nothing
pub record Move : Type 0 where
  pub send : Option (ℕ × Mail)
  pub channels : List ℕ
  pub child : Option Start
  pub next : Next

pub data Want : Type 0 where
  -- it has no step, as it breaks or stands still
  Rests : Want
  Moves : Kind → (end : Option ℕ) → Move → Want
  -- it waits for a message at the end, takes it off or leaves it, and goes on with it where it fits
  Looks : Kind → (takes : Bool) → (end : ℕ) → (Mail → Option Next) → Want
  -- it is an identity of the two ends
  Links : (end second : ℕ) → Want

abbrev pub quiet : Kind → (end : Option ℕ) → Next → Want
quiet kind end next = Moves kind end (record { send = None; channels = []; child = None; next = next })

abbrev pub sends : Kind → (end : ℕ) → Mail → Next → Want
sends kind e mail next = Moves kind (Some e) (record { send = Some (e, mail); channels = []; child = None; next = next })

abbrev pub with_found : {A : Type 0} → Option A → (A → Want) → Want
with_found None f = Rests
with_found (Some a) f = f a

-- the one value of a command with one expression
abbrev pub with_one : List Tree → (Tree → Want) → Want
with_one [] f = Rests
with_one (v ∷ []) f = f v
with_one (v ∷ u ∷ vs) f = Rests

-- a message of one sort

abbrev pub word_to : (Tree → Option Next) → Mail → Option Next
word_to f (Word v) = f v
word_to f (Pick n) = None
word_to f (EndPair e g) = None

abbrev pub pick_to : (ℕ → Option Next) → Mail → Option Next
pick_to f (Word v) = None
pick_to f (Pick n) = f n
pick_to f (EndPair e g) = None

abbrev pub ends_to : (ℕ → ℕ → Option Next) → Mail → Option Next
ends_to f (Word v) = None
ends_to f (Pick n) = None
ends_to f (EndPair e g) = f e g

-- Processes

abbrev pub set_end : ℕ → ℕ → Ends → Ends
set_end n e ends m = if eqb n m then Some e else ends m

abbrev pub end_at : Ends → Option ℕ → Option ℕ
end_at ends None = None
end_at ends (Some n) = ends n

-- at another place of its block
abbrev pub start_at : Held → (at : ℕ) → List Tree → Ends → Start
start_at h at vars ends = record { block = h.block; at = at; vars = vars; ends = ends }

abbrev pub onward : Held → (at : ℕ) → List Tree → Ends → Next
onward h at vars ends = Begins (start_at h at vars ends)

-- at the head of a called process's block, with its values and the ends of these channels
abbrev pub called : Code → Held → ℕ → List ℕ → List Tree → Block → Start
called code h g channels values b = record {
  block = length code.functions + g;
  at = 0;
  vars = frame_of code.decisions b values;
  ends = λ n. end_at h.ends (slice_get channels n);
}

-- how it goes on with the message that it looked at

abbrev pub after_get : Held → (at : ℕ) → List Tree → (variable : ℕ) → Mail → Option Next
after_get h at vars variable = word_to (λ u. Some (onward h at (slice_set vars variable u) h.ends))

abbrev pub after_split : Held → (at : ℕ) → List Tree → (left right : ℕ) → Mail → Option Next
after_split h at vars left right = ends_to (λ f g. Some (onward h at vars (set_end right g (set_end left f h.ends))))

abbrev pub after_offer : Held → List Tree → (targets : List ℕ) → Mail → Option Next
after_offer h vars targets = pick_to (λ number. option_map (λ to. onward h to vars h.ends) (slice_get targets number))

-- a race leaves the message
abbrev pub after_choose : Held → List Tree → (to : ℕ) → Mail → Option Next
after_choose h vars to mail = Some (onward h to vars h.ends)

-- the end of the channel of each branch is set
abbrev pub are_set : List Instr → Ends → List ℕ → Bool
are_set block ends [] = true
are_set block ends (to ∷ targets) = is_some (end_at ends (channel_at block to)) && are_set block ends targets

-- a race goes on as this branch, whose end has a message, and leaves it
abbrev pub chooses : Held → List Instr → List Tree → ℕ → Option ℕ → Want
chooses h block vars branch None = Rests
chooses h block vars branch (Some to) =
    with_found (end_at h.ends (channel_at block to)) (λ e. Looks (k.Choose branch) false e (after_choose h vars to))

-- the end of a new channel on this side; that on the output side is the first
abbrev pub end_on : Side → (channel : ℕ) → ℕ
end_on Output c = near c
end_on Input c = far c

-- one instruction of a process: the place, the variables and the values are those that its expressions left
abbrev pub behind : Code → Drawn → Held → List Instr → (branch at : ℕ) → (vars values : List Tree) → Instr → Want
behind code d h block branch at vars values (i.Put n) =
    with_found (h.ends n) (λ e. with_one values (λ v. sends k.Put e (Word v) (onward h (at + 1) vars h.ends)))
behind code d h block branch at vars values (i.Get n v) = with_found (h.ends n) (λ e. Looks k.Get true e (after_get h (at + 1) vars v))
behind code d h block branch at vars values (i.Pick n number) =
    with_found (h.ends n) (λ e. sends k.Pick' e (Pick number) (onward h (at + 1) vars h.ends))
behind code d h block branch at vars values (i.Split n l r) = with_found (h.ends n) (λ e. Looks k.Split true e (after_split h (at + 1) vars l r))
behind code d h block branch at vars values (i.Close n) =
    with_found (h.ends n) (λ e. quiet k.Close (Some e) (onward h (at + 1) vars h.ends))
behind code d h block branch at vars values (i.Halt None) = quiet k.Halt None Gone
behind code d h block branch at vars values (i.Halt (Some n)) = with_found (h.ends n) (λ e. quiet k.Halt (Some e) Gone)
behind code d h block branch at vars values (i.Offer n targets) = with_found (h.ends n) (λ e. Looks k.Offer true e (after_offer h vars targets))
behind code d h block branch at vars values (i.Fork n l r to) =
    with_found (h.ends n) (λ e. Moves k.Fork (Some e) (record {
      send = Some (e, EndPair (far d.channel) (far d.channel2));
      channels = d.channel ∷ d.channel2 ∷ [];
      child = Some (start_at h to vars (set_end r (near d.channel2) h.ends));
      next = onward h (at + 1) vars (set_end l (near d.channel) h.ends);
    }))
behind code d h block branch at vars values (i.Peel n side to) = Moves k.Peel None (record {
  send = None;
  channels = d.channel ∷ [];
  child = Some (start_at h to vars (set_end n (end_on side d.channel) h.ends));
  next = onward h (at + 1) vars (set_end n (end_on (opposite side) d.channel) h.ends);
})
behind code d h block branch at vars values (i.Race targets) =
    if are_set block h.ends targets then chooses h block vars branch (slice_get targets branch) else Rests
behind code d h block branch at vars values (i.Case m base targets) =
    with_found (slice_get code.decisions m) (λ c. with_found (chosen c.tree values) (λ r. with_found (slice_get targets r.0)
    (λ to. quiet k.Case None (onward h to (set_from base r.1 vars) h.ends))))
behind code d h block branch at vars values (i.Link n m) = with_found (h.ends n) (λ e. with_found (h.ends m) (λ f. Links e f))
behind code d h block branch at vars values (i.LinkNeg n m) = with_found (h.ends n) (λ e. with_found (h.ends m) (λ f. Links e f))
behind code d h block branch at vars values (i.Go g channels) =
    with_found (slice_get code.processes g) (λ b. quiet k.Call None (Begins (called code h g channels values b)))
behind code d h block branch at vars values x = Rests

abbrev pub at_instruction : Code → Drawn → Held → List Instr → (branch at : ℕ) → (vars values : List Tree) → Option Instr → Want
at_instruction code d h block branch at vars values None = Rests
at_instruction code d h block branch at vars values (Some x) = behind code d h block branch at vars values x

abbrev pub in_block : Code → Drawn → Held → (branch at : ℕ) → (vars values : List Tree) → Option Block → Want
in_block code d h branch at vars values None = Rests
in_block code d h branch at vars values (Some b) = at_instruction code d h b.code branch at vars values (slice_get b.code at)

abbrev pub kept_want : Code → Drawn → Held → (branch : ℕ) → Kept → Want
kept_want code d h branch (Values at vars values) = in_block code d h branch at vars values (slice_get (blocks code) h.block)
kept_want code d h branch (AtCall f fs) = quiet k.Work None (Spends h)
kept_want code d h branch Broken = Rests

-- Services

-- what a service says; it sends no ends
abbrev pub spoken : ℕ → Mail → Option (ℕ × Mail)
spoken e (Word v) = Some (e, Word v)
spoken e (Pick n) = Some (e, Pick n)
spoken e (EndPair a b) = None

abbrev pub said : ℕ → Option Mail → Option (ℕ × Mail)
said e None = None
said e (Some mail) = spoken e mail

abbrev pub served : ℕ → Action → Next
served e a = Attends e a.0

abbrev pub hears : ℕ → Serving → Mail → Option Next
hears e s mail = option_map (served e) (services.action s (Some mail))

abbrev pub says : ℕ → Option Action → Want
says e None = Rests
says e (Some a) = Moves k.ServeLine (Some e) (record { send = said e a.1; channels = []; child = None; next = served e a })

abbrev pub serving_want : ℕ → Serving → phase.Want → Want
serving_want e s want.Pick = Looks k.ServePick true e (hears e s)
serving_want e s want.Text = Looks k.ServeText true e (hears e s)
serving_want e s want.Send = says e (services.action s None)
serving_want e s want.Spent = Rests
serving_want e s want.Closed = Rests

-- what is wanted next
abbrev pub wanted : Code → Drawn → Life → (branch : ℕ) → Want
wanted code d Ended branch = Rests
wanted code d (Runs h) branch = kept_want code d h branch h.kept
wanted code d (Serves e s) branch = serving_want e s (services.want s)
