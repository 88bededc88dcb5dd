-- Steps of processes in place.
use Rattle.std.specs.Prelude.{◌≡◌, ◌<◌, ◌^◌, ℕ, List, [], ◌∷◌, ◌++◌, Option, Some, None, slice_get}
use Rattle.campl_value.specs.Tree.{Tree}
use Rattle.campl_value.specs.declared.message.Message.TheVariants.{Ends as EndPair, Pick, Word}
use Rattle.campl_meaning.specs.States as k
use Rattle.campl_code.specs.Instructions.{Code, Instr, blocks}
use Rattle.campl_code.specs.Machine.{code_at}
use Rattle.campl_code_bodies.specs.Kept as kept
use Rattle.campl_cells.specs.Parts.{Life, Ended, Mail, Proc, Runs, Serves, Tip}
use Rattle.campl_cells.specs.Steps as steps
use Rattle.campl_cells.specs.Steps.{IsStill}
use Rattle.campl_parts.specs.declared.entry.Entry.{Entry}
use Rattle.campl_parts.specs.Journal.{Recorded}
use Rattle.campl_parts.specs.declared.standing.Standing.{Standing}
use Rattle.campl_parts.specs.Standing.{IsStanding}
use Rattle.campl_parts.specs.Tables.{procs}
use Rattle.campl_steps.specs.declared.config.Config.{Config}
use Rattle.campl_steps.specs.declared.made.Changed.{Changed}
use Rattle.campl_steps.specs.declared.in_place.Tried.{Tried}
use Rattle.campl_steps.specs.declared.in_place.Tried.TheVariants as t
use Rattle.campl_steps.specs.Configs.{IsMade, IsSame, changed_ends, drawn, parts}
use Rattle.campl_steps.specs.Doing.{Did}

-- the instruction at which expressions were evaluated
abbrev pub instr_kept : Code → (block : ℕ) → kept.Kept → Option Instr
instr_kept code b (kept.Values at vars values) = code_at (slice_get (blocks code) b) at
instr_kept code b (kept.AtCall f fs) = None
instr_kept code b kept.Broken = None

-- the instruction of a process's command, if its expressions are evaluated
abbrev pub instr_of : Code → Life → Option Instr
instr_of code Ended = None
instr_of code (Runs h) = instr_kept code h.block h.kept
instr_of code (Serves e s) = None

-- the process p is at this command, and made few steps
pub record IsAt (code : Code) (c : Config) (p : ℕ) (x : Instr) : Type 0 where
  pub process : Proc
  pub there : procs c.processes.items p ≡ Some process
  pub few : process.steps < 2 ^ 62
  pub instr : instr_of code process.life ≡ Some x

-- the process p stands there
pub record StandsAt (c : Config) (p : ℕ) (s : Standing) : Type 0 where
  pub process : Proc
  pub there : procs c.processes.items p ≡ Some process
  pub stands : IsStanding process.life s

-- the value, if the message is one
abbrev pub word_in : Option Mail → Option Tree
word_in None = None
word_in (Some (Word v)) = Some v
word_in (Some (Pick n)) = None
word_in (Some (EndPair e f)) = None

-- the constructor, if the message is one
abbrev pub pick_in : Option Mail → Option ℕ
pick_in None = None
pick_in (Some (Word v)) = None
pick_in (Some (Pick n)) = Some n
pick_in (Some (EndPair e f)) = None

-- p made this step by the branch i, which bore nothing, and its entry came into the journal
pub record HasTold (code : Code) (p i : ℕ) (old new : Config) (before after : Recorded) (changed : Changed) : Type 0 where
  pub entry : Entry
  pub appended : after.entries ≡ before.entries ++ entry ∷ []
  pub made : IsMade code p i old (record { entry = entry; changed = changed }) new
  pub child : entry.child ≡ None
  pub channel : entry.channel ≡ None
  pub channel2 : entry.channel2 ≡ None

-- what was tried is a step of p by the branch i, or shows that there is none, or nothing was done
abbrev pub Tries : Code → (p i : ℕ) → (old new : Config) → (before after : Recorded) → Tried → Type 0
Tries code p i old new before after (t.Made changed) = HasTold code p i old new before after changed
Tries code p i old new before after t.Still = IsStill code (drawn old) (parts old) p i × IsSame old new × (after ≡ before)
Tries code p i old new before after t.OutOfMemory = IsSame old new × (after ≡ before)
Tries code p i old new before after t.Otherwise = (new ≡ old) × (after ≡ before)

-- what is told of a step at no end, or at one end
abbrev pub told_of : (p : ℕ) → k.Kind → Option ℕ → Option Mail → steps.Entry
told_of p kind end message = record {
  process = p;
  kind = kind;
  weight = 1;
  end = end;
  second = None;
  message = message;
  child = None;
  channel = None;
  channel2 = None;
}

-- p, of this life, went on as that one, these ends were written, and the entry came into the journal; or nothing was done
abbrev pub Went : (old new : Config) → (p : ℕ) → (life : Life → Life) → (told : Entry) → (changed : List ℕ) → (changes : List (ℕ × Tip)) → (before after : Recorded) → Tried → Type 0
Went old new p life told changed changes before after (t.Made ends) =
    (after.entries ≡ before.entries ++ told ∷ []) × (changed_ends ends ≡ changed) × ((q : Proc) → procs old.processes.items p ≡ Some q → Did old new p (life q.life) None 0 changes)
Went old new p life told changed changes before after t.Still = ⊥
Went old new p life told changed changes before after t.OutOfMemory = IsSame old new × (after ≡ before)
Went old new p life told changed changes before after t.Otherwise = (new ≡ old) × (after ≡ before)
