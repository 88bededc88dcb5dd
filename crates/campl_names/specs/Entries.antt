-- What a look-up's answer shows.
use Rattle.std.specs.Prelude.{Option, Some, None}
use Rattle.campl_tree.specs.View.{view_data, view_data_constructor, view_protocol, view_protocol_constructor, view_coprotocol, view_coprotocol_constructor, view_function, view_process}
use Rattle.campl_types.specs.World.{TypeEntry, DataType, ProtocolType, CoprotocolType, ConstructorEntry, OfData, OfProtocol, OfCoprotocol, LowerEntry, AFunction, AProcess}
use Rattle.campl_names.specs.declared.world.TypeRef.{TypeRef}
use Rattle.campl_names.specs.declared.world.TypeRef.TheVariants as type_ref
use Rattle.campl_names.specs.declared.world.ConstructorRef.{ConstructorRef}
use Rattle.campl_names.specs.declared.world.ConstructorRef.TheVariants as constructor_ref
use Rattle.campl_names.specs.declared.world.LowerRef.{LowerRef}
use Rattle.campl_names.specs.declared.world.LowerRef.TheVariants as lower_ref

abbrev pub type_seen : Option TypeRef → Option TypeEntry
type_seen None = None
type_seen (Some (type_ref.Data d)) = Some (DataType (view_data d.now))
type_seen (Some (type_ref.Protocol d)) = Some (ProtocolType (view_protocol d.now))
type_seen (Some (type_ref.Coprotocol d)) = Some (CoprotocolType (view_coprotocol d.now))

abbrev pub constructor_seen : Option ConstructorRef → Option ConstructorEntry
constructor_seen None = None
constructor_seen (Some (constructor_ref.Data d n k)) = Some (OfData (view_data d.now) n (view_data_constructor k.now))
constructor_seen (Some (constructor_ref.Protocol d n k)) = Some (OfProtocol (view_protocol d.now) n (view_protocol_constructor k.now))
constructor_seen (Some (constructor_ref.Coprotocol d n k)) = Some (OfCoprotocol (view_coprotocol d.now) n (view_coprotocol_constructor k.now))

abbrev pub lower_seen : Option LowerRef → Option LowerEntry
lower_seen None = None
lower_seen (Some (lower_ref.Function d)) = Some (AFunction (view_function d.now))
lower_seen (Some (lower_ref.Process d)) = Some (AProcess (view_process d.now))
