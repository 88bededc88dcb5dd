-- The instructions that are left in the frames fall at each step but a call.
use Rattle.std.proofs.Common.{◌≡◌, ℕ, zero, suc, ◌+◌, ◌-◌, ◌*◌, sub-one, ◌<◌, ◌≤◌, List, [], ◌∷◌, length, Option, Some, None, Bool, true, false, arith, subst, refl, if◌then◌else◌}
use Rattle.std.specs.Prelude.{slice_get, ◌&&◌}
use Rattle.std.proofs.lemmas.Option.{slice_get_within}
use Rattle.campl_value.specs.Tree.{Tree, Int, Truth, Nil, Cell, Pair, Char, Built}
use Rattle.campl_code.specs.Decisions.{Decision, chosen}
use Rattle.campl_code.specs.Instructions.{Operation, Instr, Block, Code, blocks}
use Rattle.campl_code.specs.Instructions as i
use Rattle.campl_code.specs.Frames.{Frame, frame_of, set_from}
use Rattle.campl_code.specs.Results.{Result, Value, Broken, perhaps, fitting, calculates, compares, appends, negates, codes, chars}
use Rattle.campl_code.specs.Machine.{Next, Goes, Enters, Gives, Breaks, code_at, fetch, popped, pushes, on_one, on_two, operates, builds, branches, is_return, is_empty, enters_with, enters, goes_to, to_row, decides, matches, returns, gives, act, does, step}
use Rattle.campl_code.specs.Forward.{AllAbove, Ahead, AllAhead, IsForward}
use Rattle.campl_value.specs.Text.{text_of}

abbrev pub len_of : Option Block → ℕ
len_of None = 0
len_of (Some b) = length b.code

abbrev pub rest : Code → Frame → ℕ
rest code f = len_of (slice_get (blocks code) f.block) - f.at

abbrev pub rests : Code → List Frame → ℕ
rests code [] = 0
rests code (f ∷ fs) = rest code f + rests code fs

abbrev pub total : List Block → ℕ
total [] = 0
total (b ∷ bs) = length b.code + total bs

abbrev pub Falls : Code → ℕ → Next → Type 0
Falls code n (Goes f fs) = rest code f + rests code fs < n
Falls code n (Enters f fs) = rest code f + rests code fs ≤ n + total (blocks code)
Falls code n (Gives f vs) = Unit {0}
Falls code n (Breaks b) = Unit {0}

within : (o : Option Block) (at : ℕ) (x : Instr) → code_at o at ≡ Some x → at < len_of o
within None at x e = absurd cc
within (Some b) at x e = slice_get_within b.code at x e

below_total : (bs : List Block) (g : ℕ) → len_of (slice_get bs g) ≤ total bs
below_total [] g = omega arith
below_total (b ∷ bs) zero = omega arith
below_total (b ∷ bs) (suc g) = omega (arith, below_total bs g)

above_at : (p : ℕ) (ns : List ℕ) (k to : ℕ) → AllAbove p ns → slice_get ns k ≡ Some to → p < to
above_at p [] k to h e = absurd cc
above_at p (n ∷ ns) zero to h e = let s : n ≡ to = cc in subst (λ (m : ℕ). p < m) s h.0
above_at p (n ∷ ns) (suc k) to h e = above_at p ns k to h.1 e

ahead_at : (p : ℕ) (is : List Instr) (k : ℕ) (x : Instr) → AllAhead p is → slice_get is k ≡ Some x → Ahead (p + k) x
ahead_at p [] k x h e = absurd cc
ahead_at p (y ∷ is) zero x h e =
    let s : y ≡ x = cc in let z : p ≡ p + 0 = omega arith in subst (λ (n : ℕ). Ahead n x) z (subst (λ (y : Instr). Ahead p y) s h.0)
ahead_at p (y ∷ is) (suc k) x h e =
    let z : p + 1 + k ≡ p + suc k = omega arith in subst (λ (n : ℕ). Ahead n x) z (ahead_at (p + 1) is k x h.1 e)

module _ (code : Code) (f : Frame) (fs : List Frame) (here : f.at < len_of (slice_get (blocks code) f.block)) where
  abbrev Less : Next → Type 0
  Less n = Falls code (rest code f + rests code fs) n

  on : (stack : List Tree) → Less (Goes (record f { at = f.at + 1; stack = stack }) fs)
  on stack = omega arith

  pushes_falls : (stack : List Tree) (r : Result) → Less (pushes f fs stack r)
  pushes_falls stack (Value v) = on (v ∷ stack)
  pushes_falls stack (Broken b) = tt

  one_falls : (stack : List Tree) (op : Tree → Result) → Less (on_one f fs stack op)
  one_falls [] op = tt
  one_falls (v ∷ stack) op = pushes_falls stack (op v)

  two_falls : (stack : List Tree) (op : Tree → Tree → Result) → Less (on_two f fs stack op)
  two_falls [] op = tt
  two_falls (u ∷ []) op = tt
  two_falls (u ∷ v ∷ stack) op = pushes_falls stack (op v u)

  operates_falls : (op : Operation) → Less (operates op f fs)
  operates_falls (i.Calculate op) = two_falls f.stack (calculates op)
  operates_falls (i.Compare op) = two_falls f.stack (compares op)
  operates_falls i.Append = two_falls f.stack appends
  operates_falls i.Negate = one_falls f.stack negates
  operates_falls i.CodeOf = one_falls f.stack codes
  operates_falls i.CharOf = one_falls f.stack chars

  builds_falls : (c : ℕ) (o : Option (List Tree × List Tree)) → Less (builds c f fs o)
  builds_falls c None = tt
  builds_falls c (Some p) = pushes_falls p.1 _

  jump_falls : (to : ℕ) (vars stack : List Tree) → f.at < to → Less (Goes (record f { at = to; vars = vars; stack = stack }) fs)
  jump_falls to vars stack h = omega arith

  branches_falls : (to : ℕ) → f.at < to → (stack : List Tree) → Less (branches to f fs stack)
  branches_falls to h [] = tt
  branches_falls to h (Truth true ∷ stack) = on stack
  branches_falls to h (Truth false ∷ stack) = jump_falls to f.vars stack h
  branches_falls to h (Int n ∷ stack) = tt
  branches_falls to h (Char n ∷ stack) = tt
  branches_falls to h (Nil ∷ stack) = tt
  branches_falls to h (Cell a b ∷ stack) = tt
  branches_falls to h (Pair a b ∷ stack) = tt
  branches_falls to h (Built c ps ∷ stack) = tt

  goes_to_falls : (base : ℕ) (targets : List ℕ) (r : ℕ) (values stack : List Tree) → AllAbove f.at targets → (o : Option ℕ) → slice_get targets r ≡ o → Less (goes_to base values stack f fs o)
  goes_to_falls base targets r values stack h None e = tt
  goes_to_falls base targets r values stack h (Some to) e = jump_falls to (set_from base values f.vars) stack (above_at f.at targets r to h e)

  to_row_falls : (base : ℕ) (targets : List ℕ) (stack : List Tree) → AllAbove f.at targets → (o : Option (ℕ × List Tree)) → Less (to_row base targets stack f fs o)
  to_row_falls base targets stack h None = tt
  to_row_falls base targets stack h (Some r) = goes_to_falls base targets r.0 r.1 stack h (slice_get targets r.0) refl

  decides_falls : (d : Decision) (base : ℕ) (targets : List ℕ) → AllAbove f.at targets → (o : Option (List Tree × List Tree)) → Less (decides d base targets f fs o)
  decides_falls d base targets h None = tt
  decides_falls d base targets h (Some p) = to_row_falls base targets p.1 h (chosen d.tree p.0)

  matches_falls : (base : ℕ) (targets : List ℕ) → AllAbove f.at targets → (o : Option Decision) → Less (matches o base targets f fs)
  matches_falls base targets h None = tt
  matches_falls base targets h (Some d) = decides_falls d base targets h (popped d.width [] f.stack)

  returns_falls : (stack : List Tree) (gs : List Frame) → fs ≡ gs → Less (returns stack gs)
  returns_falls [] gs e = tt
  returns_falls (v ∷ stack) [] e = tt
  returns_falls (v ∷ stack) (g ∷ gs) e = rw e (omega arith)

  gives_falls : (gs : List Frame) → Less (gives f gs)
  gives_falls [] = tt
  gives_falls (g ∷ gs) = tt

  keeps_falls : (c : Bool) (g : ℕ) (vars stack : List Tree) → Less (Enters (record { block = g; at = 0; vars = vars; stack = [] }) (if c then fs else (record f { at = f.at + 1; stack = stack } ∷ fs)))
  keeps_falls true g vars stack = omega (arith, below_total (blocks code) g)
  keeps_falls false g vars stack = omega (arith, below_total (blocks code) g)

  enters_with_falls : (g : ℕ) (b : Block) (o : Option (List Tree × List Tree)) → Less (enters_with code g b f fs o)
  enters_with_falls g b None = tt
  enters_with_falls g b (Some p) = keeps_falls (is_return (fetch code (record f { at = f.at + 1; stack = p.1 })) && is_empty p.1) g (frame_of code.decisions b p.0) p.1

  enters_falls : (g : ℕ) (o : Option Block) → Less (enters code g o f fs)
  enters_falls g None = tt
  enters_falls g (Some b) = enters_with_falls g b (popped b.variables [] f.stack)

  act_falls : (x : Instr) → Ahead f.at x → Less (act code x f fs)
  act_falls (i.Int n) h = pushes_falls f.stack (Value (Int n))
  act_falls (i.Char c) h = pushes_falls f.stack (Value (Char c))
  act_falls (i.Truth b) h = pushes_falls f.stack (Value (Truth b))
  act_falls i.Nil h = pushes_falls f.stack (Value Nil)
  act_falls (i.Text text) h = pushes_falls f.stack (fitting (text_of text))
  act_falls (i.Load v) h = pushes_falls f.stack (perhaps (slice_get f.vars v) Value)
  act_falls i.Cons h = two_falls f.stack _
  act_falls i.Pair h = two_falls f.stack _
  act_falls (i.Build c n) h = builds_falls c (popped n [] f.stack)
  act_falls (i.Op op) h = operates_falls op
  act_falls (i.Jump to) h = jump_falls to f.vars f.stack h
  act_falls (i.Unless to) h = branches_falls to h f.stack
  act_falls (i.Call g) h = enters_falls g (slice_get code.functions g)
  act_falls (i.Match m v rows) h = matches_falls v rows h (slice_get code.decisions m)
  act_falls i.Return h = returns_falls f.stack fs refl
  act_falls (i.Case m v rows) h = gives_falls fs
  act_falls (i.Put e) h = gives_falls fs
  act_falls (i.Get e v) h = gives_falls fs
  act_falls (i.Pick e c) h = gives_falls fs
  act_falls (i.Split e a b) h = gives_falls fs
  act_falls (i.Close e) h = gives_falls fs
  act_falls (i.Offer e rows) h = gives_falls fs
  act_falls (i.Fork e a b to) h = gives_falls fs
  act_falls (i.Halt e) h = gives_falls fs
  act_falls (i.Link e g) h = gives_falls fs
  act_falls (i.LinkNeg e g) h = gives_falls fs
  act_falls (i.Peel e side to) h = gives_falls fs
  act_falls (i.Race rows) h = gives_falls fs
  act_falls (i.Go p channels) h = gives_falls fs

ahead : (code : Code) → IsForward code → (f : Frame) (x : Instr) (o : Option Block) → slice_get (blocks code) f.block ≡ o → code_at o f.at ≡ Some x → Ahead f.at x
ahead code forward f x None e h = absurd cc
ahead code forward f x (Some b) e h = let z : 0 + f.at ≡ f.at = omega arith in subst (λ (n : ℕ). Ahead n x) z (ahead_at 0 b.code f.at x (forward f.block b e) h)

pub step_falls : (code : Code) → IsForward code → (f : Frame) (fs : List Frame) → Falls code (rest code f + rests code fs) (step code f fs)
step_falls code forward f fs = by_fetch (fetch code f) refl
  where
    by_fetch : (o : Option Instr) → fetch code f ≡ o → Falls code (rest code f + rests code fs) (does code o f fs)
    by_fetch None e = tt
    by_fetch (Some x) e = act_falls code f fs (within _ _ x e) x (ahead code forward f x _ refl e)

module _ (code : Code) (forward : IsForward code) (f : Frame) (fs : List Frame) (f' : Frame) (fs' : List Frame) where
  pub at_goes : (left : ℕ) → step code f fs ≡ Goes f' fs' → left * (total (blocks code) + 1) + (rest code f' + rests code fs') < left * (total (blocks code) + 1) + (rest code f + rests code fs)
  at_goes left e =
      let h : rest code f' + rests code fs' < rest code f + rests code fs = subst (Falls code (rest code f + rests code fs)) e (step_falls code forward f fs) in
      omega (arith, h)

  pub at_enters : (left : ℕ) → 0 < left → step code f fs ≡ Enters f' fs' → (left - 1) * (total (blocks code) + 1) + (rest code f' + rests code fs') < left * (total (blocks code) + 1) + (rest code f + rests code fs)
  at_enters zero p e = absurd (omega arith)
  at_enters (suc k) p e =
      let h : rest code f' + rests code fs' ≤ rest code f + rests code fs + total (blocks code) = subst (Falls code (rest code f + rests code fs)) e (step_falls code forward f fs) in
      let s : suc k * (total (blocks code) + 1) ≡ k * (total (blocks code) + 1) + (total (blocks code) + 1) = grind arith in
      rw sub-one (omega (arith, h, s))

pub goes-falls : (code : Code) → IsForward code → (f : Frame) (fs : List Frame) (f' : Frame) (fs' : List Frame) → step code f fs ≡ Goes f' fs' → rest code f' + rests code fs' < rest code f + rests code fs
goes-falls code forward f fs f' fs' e = subst (Falls code (rest code f + rests code fs)) e (step_falls code forward f fs)
