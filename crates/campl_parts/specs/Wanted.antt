-- What a process wants, as code tells it, and the plain want that it is seen as.
use Rattle.std.specs.Prelude.{ℕ, Bool, true, ◌&&◌, List, [], ◌∷◌, ◌++◌, Option, Some, None, is_some, option_map, replicate, slice_get, slice_set}
use Rattle.campl_value.specs.Tree.{Tree, Nil}
use Rattle.campl_service.specs.Services as services
use Rattle.campl_code.specs.Instructions.{Instr, Block, blocks}
use Rattle.campl_code.specs.Frames.{set_from}
use Rattle.campl_code.specs.Decisions.{Spot, value_at, values_at}
use Rattle.campl_value.specs.declared.message.Message.TheVariants as m
use Rattle.campl_cells.specs.Parts.{Mail}
use Rattle.campl_cells.specs.Wants as w
use Rattle.campl_cells.specs.Wants.{Start, Next, Gone, Spends, Begins, Move, behind, set_end, end_at, word_to, pick_to, ends_to, hears, says}
use Rattle.campl_parts.specs.declared.place.Place.{Place}
use Rattle.campl_parts.specs.declared.want.Channel.{Channel}
use Rattle.campl_parts.specs.declared.want.Sent.{Sent}
use Rattle.campl_parts.specs.declared.want.Sent.TheVariants as s
use Rattle.campl_parts.specs.declared.want.Deed.{Deed}
use Rattle.campl_parts.specs.declared.want.Deed.TheVariants as d
use Rattle.campl_parts.specs.declared.want.Look.{Look}
use Rattle.campl_parts.specs.declared.want.Look.TheVariants as l
use Rattle.campl_parts.specs.declared.want.Want.{Want}
use Rattle.campl_parts.specs.declared.want.Want.TheVariants as v
use Rattle.campl_parts.specs.declared.wanting.Ready.{Ready}
use Rattle.campl_parts.specs.Ends.{ends_of}
use Rattle.campl_eval.specs.View.{code_of}
use Rattle.campl_parts.specs.Views.{drawn_of, held_of, kind_of}

abbrev pub start_of : Place → Start
start_of p = record { block = p.block; at = p.at; vars = p.variables.now; ends = ends_of p.ends.now }

-- the same place with other variables or ends
abbrev pub with_vars : Start → List Tree → Start
with_vars s vars = record { block = s.block; at = s.at; vars = vars; ends = s.ends }

abbrev pub with_ends : Start → (ℕ → Option ℕ) → Start
with_ends s ends = record { block = s.block; at = s.at; vars = s.vars; ends = ends }

abbrev pub at_place : Start → ℕ → Start
at_place s at = record { block = s.block; at = at; vars = s.vars; ends = s.ends }

abbrev pub or_none : Option (List Tree) → List Tree
or_none None = []
or_none (Some ts) = ts

-- variables with those of a row, from the first on, whose values stand at these spots
abbrev pub row_vars : (first : ℕ) → List Tree → List Spot → List Tree → List Tree
row_vars first values spots vars = set_from first (or_none (values_at values spots)) vars

-- there is a value at each of these spots
abbrev pub all_there : List Tree → List Spot → Bool
all_there values [] = true
all_there values (s ∷ spots) = is_some (value_at values s) && all_there values spots

abbrev pub sent_of : Sent → Mail
sent_of (s.Word value) = m.Word value.now
sent_of (s.Pick number) = m.Pick number

-- it goes on alone
abbrev pub alone : Next → Move
alone next = record { send = None; channels = []; child = None; next = next }

-- the start of a called process, whose frame has so many variables behind the values
abbrev pub called_start : (block missing : ℕ) → List Tree → List ℕ → (ℕ → Option ℕ) → Start
called_start block missing values channels ends = record {
  block = block;
  at = 0;
  vars = values ++ replicate missing Nil;
  ends = λ n. end_at ends (slice_get channels n);
}

abbrev pub forks : (end own its to : ℕ) → Channel → Channel → Start → Move
forks end own its to channel channel2 p = record {
  send = Some (end, m.Ends channel.far channel2.far);
  channels = channel.number ∷ channel2.number ∷ [];
  child = Some (with_ends (at_place p to) (set_end its channel2.near p.ends));
  next = Begins (with_ends p (set_end own channel.near p.ends));
}

abbrev pub peels : (held own its to channel : ℕ) → Start → Move
peels held own its to channel p = record {
  send = None;
  channels = channel ∷ [];
  child = Some (with_ends (at_place p to) (set_end held its p.ends));
  next = Begins (with_ends p (set_end held own p.ends));
}

abbrev pub move_of : Deed → Move
move_of (d.Spends running) = alone (Spends (held_of running.now))
move_of d.Ends = alone Gone
move_of (d.Goes place) = alone (Begins (start_of place))
move_of (d.Cases place first values spots) =
    alone (Begins (with_vars (start_of place) (row_vars first values.now spots.now place.variables.now)))
move_of (d.Calls block missing values channels ends) = alone (Begins (called_start block missing values.now channels.now (ends_of ends.now)))
move_of (d.Sends end message place) = record { send = Some (end, sent_of message); channels = []; child = None; next = Begins (start_of place) }
move_of (d.Forks end own its to channel channel2 place) = forks end own its to channel channel2 (start_of place)
move_of (d.Peels held own its to channel place) = peels held own its to channel (start_of place)

abbrev pub look_of : Look → Mail → Option Next
look_of (l.Gets variable place) = word_to (λ u. Some (Begins (with_vars (start_of place) (slice_set place.variables.now variable u))))
look_of (l.Splits left right place) =
    ends_to (λ f g. Some (Begins (with_ends (start_of place) (set_end right g (set_end left f (ends_of place.ends.now))))))
look_of (l.Offers targets place) = pick_to (λ n. option_map (λ to. Begins (at_place (start_of place) to)) (slice_get targets.now n))
look_of (l.Chooses place) = λ mail. Some (Begins (start_of place))

abbrev pub want_of : Want → w.Want
want_of v.Rests = w.Rests
want_of (v.Moves kind end deed) = w.Moves (kind_of kind) end (move_of deed)
want_of (v.Looks kind takes end look) = w.Looks (kind_of kind) takes end (look_of look)
want_of (v.Links end second) = w.Links end second
want_of (v.Hears kind end service) = w.Looks (kind_of kind) true end (hears end service.now.serving)
want_of (v.Says end service) = says end (services.action service.now.serving None)

-- the instructions of a block, where there is one
abbrev pub code_in : Option Block → List Instr
code_in None = []
code_in (Some b) = b.code

abbrev pub block_of : Ready → List Instr
block_of r = code_in (slice_get (blocks (code_of r.program.now)) r.running.now.block)

-- what an instruction is for a process that has its values
abbrev pub done_of : Ready → Instr → w.Want
done_of r x = behind (code_of r.program.now) (drawn_of r.drawn) (held_of r.running.now) (block_of r) r.branch r.at r.variables.now r.values.now x
