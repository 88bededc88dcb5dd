-- What judging tells of a source, with a type in a fault without its places.
use Rattle.std.specs.Prelude.{List}
use Rattle.campl_tree.specs.declared.place.Ident.{Ident}
use Rattle.campl_tree.specs.Plain.SeqType.{SeqType}
use Rattle.campl_tree.specs.Plain.ChanType.{ChanType}
use Rattle.campl_tree.specs.Plain.Decl.{Program, DataConstructor, ProtocolConstructor, CoprotocolConstructor}
use Rattle.campl_types.specs.SameType.{bare_chan}
use Rattle.campl_types.specs.World.{world_of}
use Rattle.campl_seqcheck.specs.Judged.{Fine, Judged, Is, Fails}
use Rattle.campl_linear.specs.Faults.{LinFault, WrongAction}
use Rattle.campl_linear.specs.Processes.{judge_processes}

abbrev pub data_line : Ident → List SeqType → DataConstructor
data_line name parts = record { name = name; parts = parts }

abbrev pub protocol_line : Ident → ChanType → Ident → ProtocolConstructor
protocol_line name t local = record { name = name; channel_type = t; local = local }

abbrev pub coprotocol_line : Ident → Ident → ChanType → CoprotocolConstructor
coprotocol_line name local t = record { name = name; local = local; channel_type = t }

abbrev bare_fault : LinFault → LinFault
bare_fault (WrongAction at x t s) = WrongAction at x (bare_chan t) s
bare_fault fault = fault

abbrev bare_answer : Judged LinFault Fine → Judged LinFault Fine
bare_answer (Is f) = Is f
bare_answer (Fails fault) = Fails (bare_fault fault)

abbrev pub told : Program → Judged LinFault Fine
told source = bare_answer (judge_processes (world_of source) source)
