-- Turns by number: who may have a step, the step of the first, and how journals tell it.
use Rattle.std.specs.Prelude.{◌≡◌, ◌<◌, ℕ, true, Option, Some, None, option_map}
use Rattle.campl_value.specs.declared.message.Message.TheVariants.{Word, Pick, Ends as EndPair}
use Rattle.campl_machine.specs.Names.{End, Who}
use Rattle.campl_meaning.specs.OneAtATime.{is_before}
use Rattle.campl_meaning.specs.Journals as journals
use Rattle.campl_meaning.specs.Journals.{Told, ToldWord, ToldPick, ToldEnds}
use Rattle.campl_code.specs.Instructions.{Code}
use Rattle.campl_cells.specs.Parts.{Mail, Parts, Proc, Tip, near, far}
use Rattle.campl_cells.specs.Wants.{Drawn, wanted}
use Rattle.campl_cells.specs.Steps.{Entry, IsStill, Steps}
use Rattle.campl_cells.specs.Stands.{IsFresh, Naming}
use Rattle.campl_cells.specs.Local.{Watches}
use Rattle.campl_cells.specs.Runs.{Turn}

-- Who waits, and whose turn it is

-- p waits on the end e, by some branch
abbrev pub WaitsOn : Code → Parts → (p e : ℕ) → Type 0
WaitsOn code m p e = (q : Proc) × (m.process p ≡ Some q) × ((d : Drawn) × (i : ℕ) × Watches (wanted code d q.life i) e)

-- no two wait on one end
abbrev pub IsLonely : Code → Parts → Type 0
IsLonely code m = (p p2 e : ℕ) → WaitsOn code m p e → WaitsOn code m p2 e → p ≡ p2

-- p has no next step, by any branch
abbrev pub Rests : Code → Parts → ℕ → Type 0
Rests code m p = (d : Drawn) (i : ℕ) → IsStill code d m p i

-- a step of the first who has one, by the first branch that is ready
pub record IsFirstTurn (code : Code) (who : ℕ → Who) (m : Parts) (t : Turn) (entry : Entry) (m2 : Parts) : Type 0 where
  pub fresh : IsFresh t.drawn m
  pub steps : Steps code t.drawn m t.process t.branch entry m2
  pub first : (p : ℕ) → is_before (who p) (who t.process) ≡ true → Rests code m p
  pub ready : (i : ℕ) → i < t.branch → IsStill code t.drawn m t.process i

-- As journals tell it

-- a channel is there as soon as one of its ends is
abbrev pub told_channel : End × End → Option Tip → Option Tip → Option (End × End)
told_channel c None None = None
told_channel c None (Some t) = Some c
told_channel c (Some t) second = Some c

-- the names of the numbers in use, as journals read them
abbrev pub told_naming : Naming → Parts → journals.Naming
told_naming n m = record {
  who = λ i. option_map (λ q. n.who i) (m.process i);
  channel = λ c. told_channel (n.end (near c), n.end (far c)) (m.tip (near c)) (m.tip (far c));
}

abbrev pub told_mail : Mail → Told
told_mail (Word v) = ToldWord v
told_mail (Pick n) = ToldPick n
told_mail (EndPair e f) = ToldEnds e f

-- an entry as journals tell it
abbrev pub told_entry : Entry → journals.Entry
told_entry e = record {
  process = e.process;
  kind = e.kind;
  weight = e.weight;
  end = e.end;
  second = e.second;
  message = option_map told_mail e.message;
  child = e.child;
  channel = e.channel;
  channel2 = e.channel2;
}
