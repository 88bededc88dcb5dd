-- How many values stand on the stack at each place of a block.
use Rattle.std.specs.Prelude.{ℕ, zero, suc, ◌+◌, ◌-◌, Bool, true, false, ◌&&◌, ◌||◌, List, [], ◌∷◌, ◌++◌, Option, Some, None, if◌then◌else◌, eqb, nat_le, slice_get, length}
use Rattle.campl_code.specs.Decisions.{Decision}
use Rattle.campl_code.specs.Instructions.{Operation, Instr, Block, Code}
use Rattle.campl_code.specs.Instructions as i
use Rattle.campl_code.specs.Machine.{is_command}
use Rattle.campl_code.specs.Operands.{children_of, is_sound, ways_from}

-- Operands on the stack

abbrev pub parameters_of : Option Block → ℕ
parameters_of None = 0
parameters_of (Some b) = b.variables

abbrev pub width_of : Option Decision → ℕ
width_of None = 0
width_of (Some d) = d.width

abbrev pub taken_by : Operation → ℕ
taken_by (i.Calculate op) = 2
taken_by (i.Compare op) = 2
taken_by i.Append = 2
taken_by i.Negate = 1
taken_by i.CodeOf = 1
taken_by i.CharOf = 1

-- how many operands it takes, and how many it leaves
abbrev pub takes : Code → Instr → ℕ
takes code i.Cons = 2
takes code i.Pair = 2
takes code (i.Build c n) = n
takes code (i.Op op) = taken_by op
takes code (i.Unless to) = 1
takes code (i.Call g) = parameters_of (slice_get code.functions g)
takes code (i.Match m v rows) = width_of (slice_get code.decisions m)
takes code i.Return = 1
takes code (i.Case m v rows) = width_of (slice_get code.decisions m)
takes code (i.Put e) = 1
takes code (i.Go p channels) = parameters_of (slice_get code.processes p)
takes code x = 0

abbrev pub leaves : Instr → ℕ
leaves (i.Int x) = 1
leaves (i.Char c) = 1
leaves (i.Truth b) = 1
leaves i.Nil = 1
leaves (i.Text text) = 1
leaves (i.Load v) = 1
leaves i.Cons = 1
leaves i.Pair = 1
leaves (i.Build c n) = 1
leaves (i.Op op) = 1
leaves (i.Call g) = 1
leaves x = 0

-- there are as many operands as it needs, and for a process's instruction no more
abbrev pub has_operands : Code → Instr → (height : ℕ) → Bool
has_operands code x height = if is_command x then eqb height (takes code x) else nat_le (takes code x) height

abbrev pub height_behind : Code → Instr → ℕ → ℕ
height_behind code x height = height - takes code x + leaves x

-- Heights, found in rounds

-- the height at each place of the block, where it has one, and whether the last round gave it
abbrev pub Heights : Type 0
Heights = List (Option (ℕ × Bool))

abbrev pub is_among : ℕ → List ℕ → Bool
is_among n [] = false
is_among n (m ∷ ms) = eqb n m || is_among n ms

abbrev pub all_children : List Instr → List ℕ
all_children [] = []
all_children (x ∷ block) = children_of x ++ all_children block

-- place 0 and the children's places begin
abbrev pub first_heights : List ℕ → ℕ → List Instr → Heights
first_heights starts at [] = []
first_heights starts at (x ∷ block) = (if eqb at 0 || is_among at starts then Some (0, true) else None) ∷ first_heights starts (suc at) block

-- what an instruction that got its height in the last round hands to a place
abbrev pub handed_by : Code → Bool → List Instr → ℕ → Instr → ℕ → Option (ℕ × Bool) → Option ℕ
handed_by code in_process block at x to (Some (height, true)) =
    if is_sound code in_process block at x && has_operands code x height && is_among to (ways_from at x) then Some (height_behind code x height) else None
handed_by code in_process block at x to (Some (height, false)) = None
handed_by code in_process block at x to None = None

abbrev pub or_later : Option ℕ → Option ℕ → Option ℕ
or_later (Some h) later = Some h
or_later None later = later

-- from the lowest of the instructions from a place on
abbrev pub handed : Code → Bool → List Instr → ℕ → List Instr → Heights → ℕ → Option ℕ
handed code in_process block at [] heights to = None
handed code in_process block at (x ∷ rest) [] to = None
handed code in_process block at (x ∷ rest) (h ∷ heights) to =
    or_later (handed_by code in_process block at x to h) (handed code in_process block (suc at) rest heights to)

abbrev pub given_height : Option (ℕ × Bool) → Option ℕ → Option (ℕ × Bool)
given_height (Some p) h = Some (p.0, false)
given_height None (Some h) = Some (h, true)
given_height None None = None

abbrev pub next_heights : (ℕ → Option ℕ) → ℕ → Heights → Heights
next_heights given at [] = []
next_heights given at (h ∷ heights) = given_height h (given at) ∷ next_heights given (suc at) heights

abbrev pub rounds : Code → Bool → List Instr → ℕ → Heights → Heights
rounds code in_process block zero heights = heights
rounds code in_process block (suc n) heights =
    rounds code in_process block n (next_heights (handed code in_process block 0 block heights) 0 heights)

-- each round but the last gives a height, so there are no more of them than places
abbrev pub heights_of : Code → Bool → List Instr → Heights
heights_of code in_process block = rounds code in_process block (length block) (first_heights (all_children block) 0 block)
