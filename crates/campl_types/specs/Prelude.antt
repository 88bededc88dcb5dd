-- The prelude, which stands before every source:
--
--     coprotocol S => Console where
--         ConsolePut :: S => Get([Char] | S)
--         ConsoleGet :: S => Put([Char] | S)
--         ConsoleClose :: S => TopBot
--     protocol StringTerminal => S where
--         StringTerminalGet :: Get([Char] | S) => S
--         StringTerminalPut :: Put([Char] | S) => S
--         StringTerminalClose :: TopBot => S
use Rattle.std.specs.Prelude.{[], ◌∷◌, codes}
use Rattle.campl_tree.specs.declared.place.Ident.{Ident}
use Rattle.campl_tree.specs.Plain.SeqType as s
use Rattle.campl_tree.specs.Plain.ChanType.{ChanType, Put, Get, TopBot, Named}
use Rattle.campl_tree.specs.Plain.Decl as d
use Rattle.campl_tree.specs.Plain.Decl.{Program, CoprotocolConstructor, ProtocolConstructor}
use Rattle.campl_types.specs.Names.{Name}
use Rattle.campl_types.specs.SameType.{nowhere}

abbrev pub ident : Name → Ident
ident x = record { place = nowhere; name = x }

-- S, which in a line stands for the protocol itself
abbrev pub own_type : ChanType
own_type = Named nowhere (codes "S") s.no_types

abbrev pub letters : s.SeqType
letters = s.List s.Char

abbrev pub answer : Name → ChanType → CoprotocolConstructor
answer x t = record { name = ident x; local = ident (codes "S"); channel_type = t }

abbrev pub offer : Name → ChanType → ProtocolConstructor
offer x t = record { name = ident x; channel_type = t; local = ident (codes "S") }

abbrev pub console : d.CoprotocolDecl
console =
    record {
      place = nowhere;
      local = ident (codes "S");
      name = ident (codes "Console");
      parameters = [];
      constructors = answer (codes "ConsolePut") (Get letters own_type)
          ∷ answer (codes "ConsoleGet") (Put letters own_type)
          ∷ answer (codes "ConsoleClose") TopBot
          ∷ [];
    }

abbrev pub string_terminal : d.ProtocolDecl
string_terminal =
    record {
      place = nowhere;
      name = ident (codes "StringTerminal");
      parameters = [];
      local = ident (codes "S");
      constructors = offer (codes "StringTerminalGet") (Get letters own_type)
          ∷ offer (codes "StringTerminalPut") (Put letters own_type)
          ∷ offer (codes "StringTerminalClose") TopBot
          ∷ [];
    }

abbrev pub prelude : Program
prelude = d.Coprotocol console ∷ d.Protocol string_terminal ∷ []
