-- The constructors of a named type, found among its choices and by what they are declared to be.
use Rattle.std.specs.Prelude.{◌≡◌, Bool, false, List, [], map, Option, Some, None}
use Rattle.campl_tree.specs.declared.decl.ProtocolConstructor.{ProtocolConstructor}
use Rattle.campl_tree.specs.declared.decl.CoprotocolConstructor.{CoprotocolConstructor}
use Rattle.campl_tree.specs.Plain.SeqType.{SeqType}
use Rattle.campl_tree.specs.Plain.ChanType.{ChanType}
use Rattle.campl_tree.specs.View.{view_seq}
use Rattle.campl_types.specs.Names.{Name, same_name, found}
use Rattle.campl_types.specs.World.{World, TypeEntry, DataType, ProtocolType, CoprotocolType, type_named, ConstructorEntry, OfData, OfProtocol, OfCoprotocol}
use Rattle.campl_types.specs.Polarity.{Choices, protocol_choices, coprotocol_choices}
use Rattle.campl_linear.specs.Remains.{remains}
use Rattle.campl_held.specs.declared.choices.Constructors.{Constructors}
use Rattle.campl_held.specs.declared.choices.Lines.{Lines}
use Rattle.campl_held.specs.declared.choices.Lines.TheVariants as lines

-- the constructors that a type is declared to have, with the types that remain
abbrev pub choices_of : Option TypeEntry → List SeqType → Choices
choices_of (Some (ProtocolType d)) ts = protocol_choices d ts
choices_of (Some (CoprotocolType d)) ts = coprotocol_choices d ts
choices_of (Some (DataType d)) ts = []
choices_of None ts = []

-- those of a type by its name in the world
abbrev pub view_choices : World → Constructors → Choices
view_choices w c = choices_of (type_named w c.name.now) (map view_seq c.arguments.now)

-- whether a constructor is one of the type of this name
abbrev pub belongs : Name → Option ConstructorEntry → Bool
belongs x (Some (OfProtocol d n k)) = same_name d.name.name x
belongs x (Some (OfCoprotocol d n k)) = same_name d.name.name x
belongs x (Some (OfData d n k)) = false
belongs x None = false

-- a type's choices hold at each constructor what its own declaration says
pub record ChoicesAreDeclared (w : World) : Type 0 where
  pub remain : (x k : Name) (ts : List SeqType) → found k (choices_of (type_named w x) ts) ≡ remains w x k ts

-- the names in declared order
abbrev pub choice_names : Choices → List Name
choice_names = map (λ (c : Name × ChanType). c.0)

-- the names of lines
abbrev pub view_lines : Lines → List Name
view_lines (lines.Protocol ks) = map (λ (k : ProtocolConstructor). k.name.name) ks.now
view_lines (lines.Coprotocol ks) = map (λ (k : CoprotocolConstructor). k.name.name) ks.now
