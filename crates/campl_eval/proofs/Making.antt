-- What instructions make of the operands is what the machine's step makes of the frame.
use Rattle.std.proofs.Common.{◌≡◌, refl, ℕ, List, [], ◌∷◌, Option, Some, None}
use Rattle.campl_value.specs.Tree.{Tree}
use Rattle.campl_code.specs.Frames.{Frame}
use Rattle.campl_code.specs.Instructions.{Operation}
use Rattle.campl_code.specs.Instructions as i
use Rattle.campl_code.specs.Results.{Result, Value, Broken, appends, calculates, chars, codes, compares, negates}
use Rattle.campl_code.specs.Machine as m
use Rattle.campl_operands.specs.Effects.{pushed, on_one, on_two, operated, built_of}
use Rattle.campl_eval.specs.Flow.{goes}

pub goes-pushed : (f : Frame) (fs : List Frame) (stack : List Tree) (r : Result) → goes f fs (pushed stack r) ≡ m.pushes f fs stack r
goes-pushed f fs stack (Value v) = refl
goes-pushed f fs stack (Broken b) = refl

pub goes-one : (f : Frame) (fs : List Frame) (stack : List Tree) (op : Tree → Result) → goes f fs (on_one stack op) ≡ m.on_one f fs stack op
goes-one f fs [] op = refl
goes-one f fs (v ∷ stack) op = goes-pushed f fs stack (op v)

pub goes-two : (f : Frame) (fs : List Frame) (stack : List Tree) (op : Tree → Tree → Result) → goes f fs (on_two stack op) ≡ m.on_two f fs stack op
goes-two f fs [] op = refl
goes-two f fs (u ∷ []) op = refl
goes-two f fs (u ∷ v ∷ stack) op = goes-pushed f fs stack (op v u)

pub goes-operated : (f : Frame) (fs : List Frame) (stack : List Tree) (op : Operation) → goes f fs (operated op stack) ≡ m.operates op (record f { stack = stack }) fs
goes-operated f fs stack (i.Calculate op) = goes-two f fs stack (calculates op)
goes-operated f fs stack (i.Compare op) = goes-two f fs stack (compares op)
goes-operated f fs stack i.Append = goes-two f fs stack appends
goes-operated f fs stack i.Negate = goes-one f fs stack negates
goes-operated f fs stack i.CodeOf = goes-one f fs stack codes
goes-operated f fs stack i.CharOf = goes-one f fs stack chars

pub goes-built : (f : Frame) (fs : List Frame) (c : ℕ) (o : Option (List Tree × List Tree)) → goes f fs (built_of c o) ≡ m.builds c f fs o
goes-built f fs c None = refl
goes-built f fs c (Some p) = goes-pushed f fs p.1 _

pub ruleset making = (goes-pushed, goes-two, goes-operated, goes-built)
