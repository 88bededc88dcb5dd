-- What one instruction does, until a process's instruction comes.
use Rattle.std.specs.Prelude.{ℕ, zero, suc, ◌+◌, Bool, true, false, ◌&&◌, List, [], ◌∷◌, Option, Some, None, slice_get, reverse, if◌then◌else◌}
use Rattle.campl_value.specs.Tree.{Tree, Int, Char, Truth, Nil, Cell, Pair, built}
use Rattle.campl_value.specs.Text.{text_of}
use Rattle.campl_code.specs.Decisions.{Decision, chosen}
use Rattle.campl_code.specs.Instructions.{Operation, Instr, Block, Code, blocks}
use Rattle.campl_code.specs.Instructions as i
use Rattle.campl_code.specs.Frames.{Frame, frame_of, set_from}
use Rattle.campl_code.specs.Results.{Break, Broken, Faulty, Result, Value, appends, calculates, chars, codes, compares, fitting, negates, perhaps}

-- where it leads
pub data Next : Type 0 where
  Goes : Frame → List Frame → Next
  -- to a call's frame, at the cost of a call
  Enters : Frame → List Frame → Next
  -- to a process's instruction, with the values of its expressions
  Gives : Frame → List Tree → Next
  Breaks : Break → Next

-- so many values from the top, and what is below them
abbrev pub popped : ℕ → List Tree → List Tree → Option (List Tree × List Tree)
popped zero vs stack = Some (vs, stack)
popped (suc n) vs [] = None
popped (suc n) vs (v ∷ stack) = popped n (v ∷ vs) stack

abbrev pub pushes : Frame → List Frame → List Tree → Result → Next
pushes f fs stack (Value v) = Goes (record f { at = f.at + 1; stack = v ∷ stack }) fs
pushes f fs stack (Broken b) = Breaks b

abbrev pub on_one : Frame → List Frame → List Tree → (Tree → Result) → Next
on_one f fs (v ∷ stack) op = pushes f fs stack (op v)
on_one f fs [] op = Breaks Faulty

abbrev pub on_two : Frame → List Frame → List Tree → (Tree → Tree → Result) → Next
on_two f fs (u ∷ v ∷ stack) op = pushes f fs stack (op v u)
on_two f fs (u ∷ []) op = Breaks Faulty
on_two f fs [] op = Breaks Faulty

abbrev pub operates : Operation → Frame → List Frame → Next
operates (i.Calculate op) f fs = on_two f fs f.stack (calculates op)
operates (i.Compare op) f fs = on_two f fs f.stack (compares op)
operates i.Append f fs = on_two f fs f.stack appends
operates i.Negate f fs = on_one f fs f.stack negates
operates i.CodeOf f fs = on_one f fs f.stack codes
operates i.CharOf f fs = on_one f fs f.stack chars

abbrev pub builds : ℕ → Frame → List Frame → Option (List Tree × List Tree) → Next
builds c f fs None = Breaks Faulty
builds c f fs (Some p) = pushes f fs p.1 (fitting (built c p.0))

abbrev pub branches : ℕ → Frame → List Frame → List Tree → Next
branches to f fs (Truth true ∷ stack) = Goes (record f { at = f.at + 1; stack = stack }) fs
branches to f fs (Truth false ∷ stack) = Goes (record f { at = to; stack = stack }) fs
branches to f fs stack = Breaks Faulty

abbrev pub code_at : Option Block → ℕ → Option Instr
code_at None at = None
code_at (Some b) at = slice_get b.code at

abbrev pub fetch : Code → Frame → Option Instr
fetch code f = code_at (slice_get (blocks code) f.block) f.at

abbrev pub is_return : Option Instr → Bool
is_return (Some i.Return) = true
is_return x = false

abbrev pub is_empty : List Tree → Bool
is_empty [] = true
is_empty (v ∷ vs) = false

-- the frames below a call, where a frame that would only return is left out
abbrev pub below : Code → Frame → List Frame → List Frame
below code f fs = if is_return (fetch code f) && is_empty f.stack then fs else f ∷ fs

abbrev pub entry : Code → ℕ → Block → List Tree → Frame
entry code g b args = record { block = g; at = 0; vars = frame_of code.decisions b args; stack = [] }

abbrev pub enters_with : Code → ℕ → Block → Frame → List Frame → Option (List Tree × List Tree) → Next
enters_with code g b f fs None = Breaks Faulty
enters_with code g b f fs (Some p) = Enters (entry code g b p.0) (below code (record f { at = f.at + 1; stack = p.1 }) fs)

abbrev pub enters : Code → ℕ → Option Block → Frame → List Frame → Next
enters code g None f fs = Breaks Faulty
enters code g (Some b) f fs = enters_with code g b f fs (popped b.variables [] f.stack)

abbrev pub goes_to : ℕ → List Tree → List Tree → Frame → List Frame → Option ℕ → Next
goes_to base values stack f fs None = Breaks Faulty
goes_to base values stack f fs (Some to) = Goes (record f { at = to; vars = set_from base values f.vars; stack = stack }) fs

abbrev pub to_row : ℕ → List ℕ → List Tree → Frame → List Frame → Option (ℕ × List Tree) → Next
to_row base targets stack f fs None = Breaks Faulty
to_row base targets stack f fs (Some r) = goes_to base r.1 stack f fs (slice_get targets r.0)

abbrev pub decides : Decision → ℕ → List ℕ → Frame → List Frame → Option (List Tree × List Tree) → Next
decides d base targets f fs None = Breaks Faulty
decides d base targets f fs (Some p) = to_row base targets p.1 f fs (chosen d.tree p.0)

abbrev pub matches : Option Decision → ℕ → List ℕ → Frame → List Frame → Next
matches None base targets f fs = Breaks Faulty
matches (Some d) base targets f fs = decides d base targets f fs (popped d.width [] f.stack)

abbrev pub returns : List Tree → List Frame → Next
returns (v ∷ stack) (f ∷ fs) = Goes (record f { stack = v ∷ f.stack }) fs
returns (v ∷ stack) [] = Breaks Faulty
returns [] fs = Breaks Faulty

abbrev pub gives : Frame → List Frame → Next
gives f [] = Gives f (reverse f.stack)
gives f (g ∷ fs) = Breaks Faulty

abbrev pub act : Code → Instr → Frame → List Frame → Next
act code (i.Int x) f fs = pushes f fs f.stack (Value (Int x))
act code (i.Char c) f fs = pushes f fs f.stack (Value (Char c))
act code (i.Truth b) f fs = pushes f fs f.stack (Value (Truth b))
act code i.Nil f fs = pushes f fs f.stack (Value Nil)
act code (i.Text text) f fs = pushes f fs f.stack (fitting (text_of text))
act code (i.Load v) f fs = pushes f fs f.stack (perhaps (slice_get f.vars v) Value)
act code i.Cons f fs = on_two f fs f.stack (λ v u. fitting (Cell v u))
act code i.Pair f fs = on_two f fs f.stack (λ v u. fitting (Pair v u))
act code (i.Build c n) f fs = builds c f fs (popped n [] f.stack)
act code (i.Op op) f fs = operates op f fs
act code (i.Jump to) f fs = Goes (record f { at = to }) fs
act code (i.Unless to) f fs = branches to f fs f.stack
act code (i.Call g) f fs = enters code g (slice_get code.functions g) f fs
act code (i.Match m base targets) f fs = matches (slice_get code.decisions m) base targets f fs
act code i.Return f fs = returns f.stack fs
act code _ f fs = gives f fs

-- a process's instruction
abbrev pub is_command : Instr → Bool
is_command (i.Case m v rows) = true
is_command (i.Put e) = true
is_command (i.Get e v) = true
is_command (i.Pick e c) = true
is_command (i.Split e a b) = true
is_command (i.Close e) = true
is_command (i.Offer e rows) = true
is_command (i.Fork e a b to) = true
is_command (i.Halt e) = true
is_command (i.Link e f) = true
is_command (i.LinkNeg e f) = true
is_command (i.Peel e side to) = true
is_command (i.Race rows) = true
is_command (i.Go p channels) = true
is_command x = false

abbrev pub does : Code → Option Instr → Frame → List Frame → Next
does code None f fs = Breaks Faulty
does code (Some x) f fs = act code x f fs

abbrev pub step : Code → Frame → List Frame → Next
step code f fs = does code (fetch code f) f fs
