-- The rules of code. An instruction breaks a rule by itself, or because of the stack's height at it, or because two
-- ways to it have different heights.
use Rattle.std.specs.Prelude.{ℕ, suc, Bool, true, false, ◌&&◌, List, [], ◌∷◌, Option, Some, None, if◌then◌else◌, eqb, slice_get}
use Rattle.campl_code.specs.Instructions.{Instr, Block, Code}
use Rattle.campl_code.specs.Operands.{is_sound}
use Rattle.campl_code.specs.Heights.{Heights, handed_by, has_operands, heights_of}

-- at a place the height that this instruction hands on is that place's own
abbrev pub is_own_height : ℕ → Option (ℕ × Bool) → Bool
is_own_height h None = true
is_own_height h (Some p) = eqb h p.0

abbrev pub or_none : Option (Option (ℕ × Bool)) → Option (ℕ × Bool)
or_none None = None
or_none (Some h) = h

abbrev pub height_at : Heights → ℕ → Option (ℕ × Bool)
height_at heights at = or_none (slice_get heights at)

-- what it hands to a place, in whatever round
abbrev pub hands : Code → Bool → List Instr → ℕ → Instr → ℕ → Option (ℕ × Bool) → Option ℕ
hands code in_process block at x to None = None
hands code in_process block at x to (Some p) = handed_by code in_process block at x to (Some (p.0, true))

abbrev pub agrees_with : Option ℕ → Option (ℕ × Bool) → Bool
agrees_with None own = true
agrees_with (Some h) own = is_own_height h own

-- the instructions from a place on hand no other height to place `to` than its own
abbrev pub ways_agree : Code → Bool → List Instr → ℕ → List Instr → Heights → ℕ → Option (ℕ × Bool) → Bool
ways_agree code in_process block at [] heights to own = true
ways_agree code in_process block at (x ∷ rest) [] to own = true
ways_agree code in_process block at (x ∷ rest) (h ∷ heights) to own =
    agrees_with (hands code in_process block at x to h) own && ways_agree code in_process block (suc at) rest heights to own

abbrev pub fits_height : Code → Instr → Option (ℕ × Bool) → Bool
fits_height code x None = true
fits_height code x (Some p) = has_operands code x p.0

-- the instruction at a place breaks no rule
abbrev pub keeps_rules : Code → Bool → List Instr → Heights → ℕ → Instr → Bool
keeps_rules code in_process block heights at x =
    is_sound code in_process block at x && fits_height code x (height_at heights at) && ways_agree code in_process block 0 block heights at (height_at heights at)

-- the first instruction of a block, from a place on, that breaks a rule
abbrev pub first_bad : Code → Bool → List Instr → Heights → ℕ → List Instr → Option ℕ
first_bad code in_process block heights at [] = None
first_bad code in_process block heights at (x ∷ rest) =
    if keeps_rules code in_process block heights at x then first_bad code in_process block heights (suc at) rest else Some at

-- an empty block is bad at 0
abbrev pub block_fault : Code → Bool → List Instr → Option ℕ
block_fault code in_process [] = Some 0
block_fault code in_process (x ∷ block) = first_bad code in_process (x ∷ block) (heights_of code in_process (x ∷ block)) 0 (x ∷ block)

abbrev pub with_block : ℕ → Option ℕ → Option (ℕ × ℕ) → Option (ℕ × ℕ)
with_block n (Some at) later = Some (n, at)
with_block n None later = later

abbrev pub processes_fault : Code → ℕ → List Block → Option (ℕ × ℕ)
processes_fault code n [] = None
processes_fault code n (b ∷ blocks) = with_block n (block_fault code true b.code) (processes_fault code (suc n) blocks)

abbrev pub functions_fault : Code → ℕ → List Block → Option (ℕ × ℕ)
functions_fault code n [] = processes_fault code n code.processes
functions_fault code n (b ∷ blocks) = with_block n (block_fault code false b.code) (functions_fault code (suc n) blocks)

-- the first instruction that breaks a rule: its block and its place; functions are numbered first, then processes
abbrev pub first_fault : Code → Option (ℕ × ℕ)
first_fault code = functions_fault code 0 code.functions
