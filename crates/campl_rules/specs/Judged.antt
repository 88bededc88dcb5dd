-- A block that is judged, within its code.
use Rattle.std.specs.Prelude.{◌≡◌, Bool, false, List, Option, Some, None, map}
use Rattle.campl_code.specs.Decisions.{Decision}
use Rattle.campl_code.specs.Instructions.{Instr, Code}
use Rattle.campl_code.specs.Operands.{names_rows}
use Rattle.campl_instructions.specs.View.{view_instr, view_code}
use Rattle.campl_instructions.specs.declared.block.RawCode.{RawCode}
use Rattle.campl_rules.specs.declared.judged.Judged.{Judged}

abbrev pub code_of : Judged → Code
code_of j = view_code j.code.now

abbrev pub block_of : Judged → List Instr
block_of j = map view_instr j.block.now

-- it names no row that isn't there
abbrev pub keeps_rows : Option Decision → Bool
keeps_rows None = false
keeps_rows (Some d) = names_rows d.bound d.tree

-- for each decision whether it names none
abbrev pub AreNamed : RawCode → List Bool → Type 0
AreNamed code named = named ≡ map (λ d. names_rows d.bound d.tree) (view_code code).decisions

-- what stands beside the code is true of it
abbrev pub IsJudged : Judged → Type 0
IsJudged j = AreNamed j.code.now j.named.now
