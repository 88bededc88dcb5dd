-- What the machine's frames and a program are seen as.
use Rattle.std.specs.Prelude.{Bool, true, false, List, [], ◌∷◌, map}
use Rattle.campl_code.specs.Instructions.{Code}
use Rattle.campl_code.specs.Frames as m
use Rattle.campl_instructions.specs.View.{view_code}
use Rattle.campl_program.specs.declared.program.Program.{Program}
use Rattle.campl_eval.specs.declared.machine.Frame.{Frame}

abbrev pub code_of : Program → Code
code_of program = view_code program.raw

abbrev pub seen : Frame → m.Frame
seen f = record { block = f.block; at = f.at; vars = f.variables; stack = f.operands }

abbrev pub seens : List Frame → List m.Frame
seens = map seen

abbrev pub has_none : {A : Type 0} → List A → Bool
has_none [] = true
has_none (x ∷ xs) = false
