-- Code in which each jump within an evaluation leads onward.
use Rattle.std.specs.Prelude.{◌≡◌, ℕ, ◌+◌, ◌<◌, List, [], ◌∷◌, Some, slice_get}
use Rattle.campl_code.specs.Instructions.{Instr, Block, Code, blocks}
use Rattle.campl_code.specs.Instructions as i

abbrev pub AllAbove : ℕ → List ℕ → Type 0
AllAbove p [] = Unit {0}
AllAbove p (n ∷ ns) = (p < n) × AllAbove p ns

-- each place to which this instruction jumps lies behind it
abbrev pub Ahead : ℕ → Instr → Type 0
Ahead p (i.Jump to) = p < to
Ahead p (i.Unless to) = p < to
Ahead p (i.Match m base targets) = AllAbove p targets
Ahead p x = Unit {0}

abbrev pub AllAhead : ℕ → List Instr → Type 0
AllAhead p [] = Unit {0}
AllAhead p (x ∷ is) = Ahead p x × AllAhead (p + 1) is

-- so in each block: then a run of one frame ends by itself
abbrev pub IsForward : Code → Type 0
IsForward code = (n : ℕ) (b : Block) → slice_get (blocks code) n ≡ Some b → AllAhead 0 b.code
