-- The process `run`, whose channels are services.
use Rattle.std.specs.Prelude.{ℕ, ◌+◌, Bool, true, false, ◌&&◌, List, [], ◌∷◌, ◌++◌, Option, Some, None, if◌then◌else◌, nat_le, map, length, codes}
use Rattle.campl_tree.specs.declared.place.Ident.{Ident}
use Rattle.campl_tree.specs.declared.service.Side.{Side}
use Rattle.campl_tree.specs.declared.service.Side.TheVariants.{Input, Output}
use Rattle.campl_tree.specs.declared.service.ServiceName.{ServiceName}
use Rattle.campl_tree.specs.Plain.SeqType.{no_types}
use Rattle.campl_tree.specs.Plain.ChanType.{ChanType, Named}
use Rattle.campl_tree.specs.Plain.Decl.{ProcessDecl}
use Rattle.campl_types.specs.declared.fault.NameFault.{NameFault}
use Rattle.campl_types.specs.declared.fault.NameFault.TheVariants.{NoRun, RunNotService}
use Rattle.campl_types.specs.Names.{Name, same_name, is_empty}
use Rattle.campl_types.specs.World.{World, process_named}

-- at most so many services
abbrev pub most_services : ℕ
most_services = 16

abbrev pub is_type_named : Name → ChanType → Bool
is_type_named x (Named at y no_types) = same_name x y
is_type_named x _ = false

abbrev pub all : (ChanType → Bool) → List ChanType → Bool
all f [] = true
all f (t ∷ ts) = f t && all f ts

-- it has no variables, consoles as inputs, terminals as outputs, and not too many of both
abbrev pub has_services_alone : ProcessDecl → Bool
has_services_alone p =
    is_empty p.parameters && all (is_type_named (codes "Console")) p.inputs && all (is_type_named (codes "StringTerminal")) p.outputs
    && nat_le (length p.inputs + length p.outputs) most_services

abbrev pub heading_faults : ProcessDecl → List NameFault
heading_faults p = if has_services_alone p then [] else RunNotService p.name.place ∷ []

abbrev judged : Option ProcessDecl → List NameFault
judged None = NoRun (record { line = 1; column = 1 }) ∷ []
judged (Some p) = heading_faults p

abbrev pub run_faults : World → List NameFault
run_faults w = judged (process_named w (codes "run"))

abbrev pub service : Side → Ident → ServiceName
service side x = record { name = x.name; side = side }

abbrev services_in : Option ProcessDecl → List ServiceName
services_in None = []
services_in (Some p) = map (service Input) p.row.inputs ++ map (service Output) p.row.outputs

-- the services of a program, as `run` names them, in the order of its heading
abbrev pub services_of : World → List ServiceName
services_of w = services_in (process_named w (codes "run"))
