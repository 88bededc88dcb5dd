use Rattle.std.proofs.Common.{map}
use Rattle.campl_tree.specs.View.{view_seq, view_decl}
use Rattle.campl_types.specs.World.{type_named}
use Rattle.campl_held.proofs.Chosen.{protocol-lines, coprotocol-lines}
use Rattle.campl_held.proofs.choices.Constructors.lines.Goals as goal

pub returns-in-Some-Protocol : goal.returns-in-Some-Protocol
returns-in-Some-Protocol c =
    protocol-lines (map view_seq c.args.self.arguments.now) (type_named (map view_decl c.args.world.now) c.args.self.name.now) c.in-Some-Protocol.d.now c.as_slice.result.now
    (rw c.in-Some-Protocol.field-0-is at c.in-Some-Protocol.ensures) c.as_slice.ensures

pub returns-in-Some-Coprotocol : goal.returns-in-Some-Coprotocol
returns-in-Some-Coprotocol c =
    coprotocol-lines (map view_seq c.args.self.arguments.now) (type_named (map view_decl c.args.world.now) c.args.self.name.now) c.in-Some-Coprotocol.d.now
    c.as_slice-in-Some-Coprotocol.result.now (rw c.in-Some-Coprotocol.field-0-is at c.in-Some-Coprotocol.ensures) c.as_slice-in-Some-Coprotocol.ensures
