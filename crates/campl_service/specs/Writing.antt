-- What the code that writes scripts anew says of its parts.
use Rattle.std.specs.Prelude.{ℕ, List, ◌++◌, Ok, Err, encode_utf8_all}
use Rattle.campl_service.specs.declared.fault.ScriptFault.{ScriptFault}
use Rattle.campl_service.specs.declared.fault.ScriptFault.TheVariants as s
use Rattle.campl_service.specs.declared.fault.MigrateFault.{MigrateFault}
use Rattle.campl_service.specs.declared.fault.MigrateFault.TheVariants.{Script, OutOfMemory}
use Rattle.campl_service.specs.Migration.{Writing}

-- behind these bytes the writing is put in UTF-8
abbrev pub put_behind_bytes : List ℕ → Writing → Writing
put_behind_bytes before (Ok more) = Ok (before ++ encode_utf8_all more)
put_behind_bytes before (Err fault) = Err fault

-- a fault of reading, where want of memory has a name of its own
abbrev pub told : ScriptFault → MigrateFault
told s.OutOfMemory = OutOfMemory
told fault = Script fault
