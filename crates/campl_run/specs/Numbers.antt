-- Declarations of processes by their names.
use Rattle.std.specs.Prelude.{Bool, Option, Some, None}
use Rattle.campl_tree.specs.Plain.Decl.{Decl, Data, Protocol, Coprotocol, Function, Process}
use Rattle.campl_types.specs.Names.{Name, same_name}

-- of a process, whether it has the name
abbrev pub is_named : Name → Decl → Option Bool
is_named x (Data d) = None
is_named x (Protocol d) = None
is_named x (Coprotocol d) = None
is_named x (Function d) = None
is_named x (Process p) = Some (same_name x p.name.name)
