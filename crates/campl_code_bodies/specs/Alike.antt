-- When code stands for a process, and when two commands are alike.
use Rattle.std.specs.Prelude.{◌≡◌, List, [], ◌∷◌, Option, Some, None, slice_get, ◌⊎◌}
use Rattle.campl_machine.specs.Names.{Who}
use Rattle.campl_machine.specs.Machine.{Act, Moves, Looks, Links, Stands, Breaks}
use Rattle.campl_types.specs.World.{World}
use Rattle.campl_meaning.specs.States.{Message, State, Runs, Serves, Running, Attending, Command}
use Rattle.campl_meaning.specs.States as k
use Rattle.campl_code.specs.Instructions.{Block, Code, blocks}
use Rattle.campl_code.specs.Frames.{frame_size}
use Rattle.campl_code.specs.Numbers.{Numbers, Framed}
use Rattle.campl_code_bodies.specs.Bodies.{Channels, StandsTerm}
use Rattle.campl_code_bodies.specs.Commands.{Ends, Cell, CodeState, RunsCode, Beside, CodeCommand}

-- each channel that is held has its end at its number
abbrev pub Channeled : Channels → k.Ends → Ends → Type 0
Channeled [] [] ends = Unit {0}
Channeled (c ∷ cs) (e ∷ es) ends = (c.0 ≡ e.0) × (ends c.1 ≡ Some e.1) × Channeled cs es ends
Channeled [] (e ∷ es) ends = ⊥
Channeled (c ∷ cs) [] ends = ⊥

-- a cell stands for a running process
pub record CellStands (w : World) (code : Code) (c : Cell) (r : Running) : Type 0 where
  pub block : Block
  pub there : slice_get (blocks code) c.block ≡ Some block
  pub numbers : Numbers
  pub channels : Channels
  pub term : StandsTerm w code block.code c.at r.term numbers channels
  pub variables : Framed (frame_size code.decisions block) numbers r.variables c.vars
  pub ends : Channeled channels r.ends c.ends
  pub steps : c.steps ≡ r.steps
  pub spent : c.spent ≡ r.spent

abbrev pub StandsState : World → Code → CodeState → State → Type 0
StandsState w code (RunsCode c) (Runs r) = CellStands w code c r
StandsState w code (RunsCode c) (Serves t) = ⊥
StandsState w code (Beside s) (Runs r) = ⊥
StandsState w code (Beside s) (Serves t) = s ≡ Serves t

-- Commands, whatever stands for what

module _ {C S : Type 0} (R : C → S → Type 0) where
  abbrev pub OptionAlike : Option C → Option S → Type 0
  OptionAlike None None = Unit {0}
  OptionAlike (Some c) (Some s) = R c s
  OptionAlike None (Some s) = ⊥
  OptionAlike (Some c) None = ⊥

  abbrev pub ChildrenAlike : List (Who × C) → List (Who × S) → Type 0
  ChildrenAlike [] [] = Unit {0}
  ChildrenAlike (c ∷ cs) (d ∷ ds) = (c.0 ≡ d.0) × R c.1 d.1 × ChildrenAlike cs ds
  ChildrenAlike [] (d ∷ ds) = ⊥
  ChildrenAlike (c ∷ cs) [] = ⊥

  -- the same messages, channels and names, and states that stand for one another
  abbrev pub ActsAlike : {M : Type 0} → Act C M → Act S M → Type 0
  ActsAlike (Moves m) (Moves n) = (m.send ≡ n.send) × (m.channels ≡ n.channels) × ChildrenAlike m.children n.children × OptionAlike m.next n.next
  ActsAlike {M} (Looks t e f) (Looks u g h) = (t ≡ u) × (e ≡ g) × ((m : M) → OptionAlike (f m) (h m))
  ActsAlike (Links e f) (Links g h) = (e ≡ g) × (f ≡ h)
  ActsAlike Stands Stands = Unit {0}
  ActsAlike Breaks Breaks = Unit {0}
  ActsAlike _ _ = ⊥

abbrev pub IsBreak : {S M : Type 0} → Act S M → Type 0
IsBreak Breaks = Unit {0}
IsBreak a = ⊥

-- alike in what they name, too, unless they break
abbrev pub CommandsAlike : World → Code → CodeCommand → Command → Type 0
CommandsAlike w code c d =
    ActsAlike (StandsState w code) c.act d.act × (IsBreak d.act ⊎ ((c.kind ≡ d.kind) × (c.end ≡ d.end) × (c.second ≡ d.second)))
