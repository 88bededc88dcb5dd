-- Short ways to write plain trees down.
use Rattle.std.proofs.Common.{ℕ, suc, List, [], None, codes}
use Rattle.campl_tree.specs.declared.place.Place.{Place}
use Rattle.campl_tree.specs.declared.place.Ident.{Ident}
use Rattle.campl_tree.specs.Plain.SeqType as s
use Rattle.campl_tree.specs.Plain.ChanType as c
use Rattle.campl_tree.specs.Plain.Process as b
use Rattle.campl_tree.specs.Plain.Decl as d
use Rattle.campl_types.specs.Names.{Name}

abbrev pub place : ℕ → ℕ → Place
place line column = record { line = line; column = column }

abbrev pub ident : ℕ → ℕ → Name → Ident
ident line column name = record { place = place line column; name = name }

-- a name in the types of line l, column k
abbrev pub named : ℕ → ℕ → Name → s.SeqType
named l k x = s.Named (place l k) x s.no_types

abbrev pub protocol : ℕ → ℕ → Name → c.ChanType
protocol l k x = c.Named (place l k) x s.no_types

abbrev pub data_decl : ℕ → Ident → List Ident → List d.DataConstructor → d.Decl
data_decl l name parameters constructors = d.Data (record { place = place l 1; name = name; parameters = parameters; constructors = constructors })

abbrev pub constructor : Ident → List s.SeqType → d.DataConstructor
constructor name parts = record { name = name; parts = parts }

abbrev pub protocol_decl : ℕ → Ident → List Ident → Ident → List d.ProtocolConstructor → d.Decl
protocol_decl l name parameters local constructors =
    d.Protocol (record { place = place l 1; name = name; parameters = parameters; local = local; constructors = constructors })

abbrev pub line : Ident → c.ChanType → Ident → d.ProtocolConstructor
line name t local = record { name = name; channel_type = t; local = local }

-- a process without variables, whose body stands in the row
abbrev pub process : ℕ → Name → List c.ChanType → List Ident → b.Body → d.Decl
process l name inputs channels body =
    d.Process
    (record {
      place = place l 1;
      name = ident l 6 name;
      parameters = [];
      inputs = inputs;
      outputs = [];
      row = record { place = place (suc l) 5; variables = []; inputs = channels; outputs = []; body = body };
    })

-- `proc run :: | => where` and `| => -> halt`, at line l
abbrev pub silent_run : ℕ → d.Decl
silent_run l = process l (codes "run") [] [] (b.Halt (place l 30) None)
