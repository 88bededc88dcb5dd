-- Code whose jumps lead onward, and the sizes of its frames.
use Rattle.std.specs.Prelude.{ℕ, ◌+◌, Bool, true, ◌&&◌, List, [], ◌∷◌, map, nat_lt}
use Rattle.campl_code.specs.Instructions.{Instr, Block, Code}
use Rattle.campl_code.specs.Instructions as i
use Rattle.campl_code.specs.Frames.{frame_size}

-- each of these places lies behind that one
abbrev pub all_above : ℕ → List ℕ → Bool
all_above p [] = true
all_above p (n ∷ ns) = nat_lt p n && all_above p ns

-- each place to which the instruction jumps lies behind it
abbrev pub jumps_onward : ℕ → Instr → Bool
jumps_onward p (i.Jump to) = nat_lt p to
jumps_onward p (i.Unless to) = nat_lt p to
jumps_onward p (i.Match m v rows) = all_above p rows
jumps_onward p x = true

abbrev pub all_onward : ℕ → List Instr → Bool
all_onward p [] = true
all_onward p (x ∷ code) = jumps_onward p x && all_onward (p + 1) code

-- so in each block
abbrev pub blocks_onward : List Block → Bool
blocks_onward [] = true
blocks_onward (b ∷ bs) = all_onward 0 b.code && blocks_onward bs

-- how many variables the frame of each of these blocks has
abbrev pub sizes_of : Code → List Block → List ℕ
sizes_of code bs = map (frame_size code.decisions) bs
