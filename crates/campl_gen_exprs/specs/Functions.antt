-- The code of a function in the steps in which it is emitted.
use Rattle.std.specs.Prelude.{ℕ, true, List, [], ◌∷◌, length}
use Rattle.campl_tree.specs.Plain.Decl.{FunctionDecl, FunctionRow}
use Rattle.campl_types.specs.World.{World}
use Rattle.campl_code.specs.Generated.{loads_code}
use Rattle.campl_code.specs.Instructions as i
use Rattle.campl_code.specs.Instructions.{Instr, Block}
use Rattle.campl_gen_exprs.specs.Emission.{Emission, appended, counted, replaced, binding_all, left, emitted}

-- before a function's code, with the number of its decision
abbrev pub fresh : ℕ → Emission
fresh dec = record { code = []; decisions = dec; free = 0; numbers = [] }

-- a row's value, which returns
abbrev pub function_row_emitted : World → FunctionRow → Emission → Emission
function_row_emitted w r s = left s (emitted w true r.value (binding_all r.patterns s))

abbrev pub function_rows_emitted : World → List FunctionRow → Emission → Emission
function_rows_emitted w [] s = s
function_rows_emitted w (r ∷ rows) s = function_rows_emitted w rows (function_row_emitted w r s)

-- where the rows begin
abbrev pub function_row_places : World → List FunctionRow → Emission → List ℕ
function_row_places w [] s = []
function_row_places w (r ∷ rows) s = length s.code ∷ function_row_places w rows (function_row_emitted w r s)

-- the match at a place, and the rows behind it
abbrev pub function_closed : World → List FunctionRow → (at decision : ℕ) → Emission → Emission
function_closed w rows at decision s = replaced at (i.Match decision 0 (function_row_places w rows s)) (function_rows_emitted w rows s)

-- loads of so many parameters, and the rows
abbrev pub function_emitted : World → (parameters : ℕ) → List FunctionRow → Emission → Emission
function_emitted w n rows s =
    let t = appended (loads_code 0 n) s in function_closed w rows (length t.code) t.decisions (counted (appended (i.Nil ∷ []) t))

-- a function's block with this code
abbrev pub block_with : FunctionDecl → List Instr → Block
block_with f code = record { name = f.name.name; variables = length f.parameters; inputs = 0; outputs = 0; code = code }
