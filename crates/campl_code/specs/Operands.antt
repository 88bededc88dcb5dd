-- Which operands an instruction may have, where it leads, and in which kind of block it stands.
use Rattle.std.specs.Prelude.{ℕ, ◌+◌, Bool, true, false, not, ◌&&◌, ◌||◌, List, [], ◌∷◌, ◌++◌, Option, Some, None, if◌then◌else◌, eqb, nat_lt, nat_le, slice_get, length, is_some}
use Rattle.campl_code.specs.Decisions.{Choice, Row, Test, Fail, Decision}
use Rattle.campl_code.specs.Instructions.{Operation, Instr, Block, Code}
use Rattle.campl_code.specs.Instructions as i
use Rattle.campl_code.specs.Machine.{is_command}

-- numbers of variables and of channels are below this
abbrev pub most_numbers : ℕ
most_numbers = 268435456

abbrev pub is_number : ℕ → Bool
is_number n = nat_lt n most_numbers

abbrev pub every : {A : Type 0} → (A → Bool) → List A → Bool
every test [] = true
every test (x ∷ xs) = test x && every test xs

-- Operands

abbrev pub is_bound : List ℕ → ℕ → Option ℕ → Bool
is_bound bound spots None = false
is_bound bound spots (Some n) = eqb n spots

-- the rows that a decision names are there, with as many places as they have variables
abbrev pub names_rows : List ℕ → Choice → Bool
names_rows bound Fail = true
names_rows bound (Row r spots) = is_bound bound (length spots) (slice_get bound r)
names_rows bound (Test spot head fit other) = names_rows bound fit && names_rows bound other

-- a number for each variable that a row sets, and a target for each row
abbrev pub is_match : ℕ → List ℕ → Option Decision → Bool
is_match v rows None = false
is_match v rows (Some d) = is_number v && every (λ n. nat_le (v + n) most_numbers) d.bound && eqb (length rows) (length d.bound) && names_rows d.bound d.tree

abbrev pub is_go : List ℕ → Option Block → Bool
is_go channels None = false
is_go channels (Some b) = eqb (length channels) (b.inputs + b.outputs) && every is_number channels

abbrev pub is_receipt : Option Instr → Bool
is_receipt (Some (i.Get e v)) = true
is_receipt (Some (i.Offer e rows)) = true
is_receipt (Some (i.Split e a b)) = true
is_receipt x = false

abbrev pub is_own_number : Option ℕ → Bool
is_own_number None = true
is_own_number (Some e) = is_number e

-- operands are in their ranges
abbrev pub is_in_range : Code → List Instr → Instr → Bool
is_in_range code block (i.Load v) = is_number v
is_in_range code block (i.Call g) = is_some (slice_get code.functions g)
is_in_range code block (i.Match m v rows) = is_match v rows (slice_get code.decisions m)
is_in_range code block (i.Case m v rows) = is_match v rows (slice_get code.decisions m)
is_in_range code block (i.Put e) = is_number e
is_in_range code block (i.Get e v) = is_number e && is_number v
is_in_range code block (i.Pick e c) = is_number e
is_in_range code block (i.Split e a b) = is_number e && is_number a && is_number b
is_in_range code block (i.Close e) = is_number e
is_in_range code block (i.Offer e rows) = is_number e
is_in_range code block (i.Fork e a b to) = is_number e && is_number a && is_number b
is_in_range code block (i.Halt e) = is_own_number e
is_in_range code block (i.Link e f) = is_number e && is_number f
is_in_range code block (i.LinkNeg e f) = is_number e && is_number f
is_in_range code block (i.Peel e side to) = is_number e
is_in_range code block (i.Race rows) = every (λ to. is_receipt (slice_get block to)) rows
is_in_range code block (i.Go p channels) = is_go channels (slice_get code.processes p)
is_in_range code block x = true

-- Where an instruction leads

-- the places that it names, but for a child's
abbrev pub targets_of : Instr → List ℕ
targets_of (i.Jump to) = to ∷ []
targets_of (i.Unless to) = to ∷ []
targets_of (i.Match m v rows) = rows
targets_of (i.Case m v rows) = rows
targets_of (i.Offer e rows) = rows
targets_of (i.Race rows) = rows
targets_of x = []

-- a child's place
abbrev pub children_of : Instr → List ℕ
children_of (i.Fork e a b to) = to ∷ []
children_of (i.Peel e side to) = to ∷ []
children_of x = []

-- whether it can go on behind itself
abbrev pub goes_behind : Instr → Bool
goes_behind (i.Jump to) = false
goes_behind (i.Match m v rows) = false
goes_behind i.Return = false
goes_behind (i.Case m v rows) = false
goes_behind (i.Offer e rows) = false
goes_behind (i.Halt e) = false
goes_behind (i.Link e f) = false
goes_behind (i.LinkNeg e f) = false
goes_behind (i.Race rows) = false
goes_behind (i.Go p channels) = false
goes_behind x = true

abbrev pub behind_it : ℕ → Instr → List ℕ
behind_it at x = if goes_behind x then (at + 1) ∷ [] else []

-- the places at which it can go on
abbrev pub ways_from : ℕ → Instr → List ℕ
ways_from at x = behind_it at x ++ targets_of x

-- it belongs to this kind of block
abbrev pub belongs : Bool → Instr → Bool
belongs in_process i.Return = not in_process
belongs in_process x = in_process || not (is_command x)

-- it breaks no rule that speaks of no stack
abbrev pub is_sound : Code → Bool → List Instr → ℕ → Instr → Bool
is_sound code in_process block at x =
    is_in_range code block x && every (λ to. nat_lt to (length block)) (targets_of x ++ children_of x) && belongs in_process x
    && (not (goes_behind x) || nat_lt (at + 1) (length block))
