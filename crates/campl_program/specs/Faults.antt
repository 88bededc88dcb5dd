-- What a fault of a program tells.
use Rattle.std.specs.Prelude.{◌≡◌, Bool, false}
use Rattle.campl_program.specs.declared.program.ProgramFault.{ProgramFault}
use Rattle.campl_program.specs.declared.program.ProgramFault.TheVariants as f

-- a jump leads back, unless memory is out
abbrev pub Tells : Bool → ProgramFault → Type 0
Tells onward f.LeadsBack = onward ≡ false
Tells onward f.OutOfMemory = Unit {0}
