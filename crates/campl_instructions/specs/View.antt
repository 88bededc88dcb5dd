-- The plain data that code in memory is seen as.
use Rattle.std.specs.Prelude.{ℕ, List, [], ◌∷◌, map, slice_get, unwrap_or}
use Rattle.campl_value.specs.Tree.{Tree}
use Rattle.campl_code.specs.Decisions as d
use Rattle.campl_code.specs.Instructions as i
use Rattle.campl_instructions.specs.declared.instr.Operation.{Operation}
use Rattle.campl_instructions.specs.declared.instr.Operation.TheVariants as o
use Rattle.campl_instructions.specs.declared.instr.Instr.{Instr}
use Rattle.campl_instructions.specs.declared.instr.Instr.TheVariants as r
use Rattle.campl_instructions.specs.declared.decision.Head.{Head}
use Rattle.campl_instructions.specs.declared.decision.Head.TheVariants as h
use Rattle.campl_instructions.specs.declared.decision.Node.{Node}
use Rattle.campl_instructions.specs.declared.decision.Node.TheVariants as n
use Rattle.campl_instructions.specs.declared.decision.Decision.{Decision}
use Rattle.campl_instructions.specs.declared.block.Block.{Block}
use Rattle.campl_instructions.specs.declared.block.RawCode.{RawCode}
use Rattle.campl_instructions.specs.declared.choose.Chosen.{Chosen}

abbrev pub view_operation : Operation → i.Operation
view_operation (o.Calculate op) = i.Calculate op
view_operation (o.Compare op) = i.Compare op
view_operation o.Negate = i.Negate
view_operation o.Append = i.Append
view_operation o.CodeOf = i.CodeOf
view_operation o.CharOf = i.CharOf

abbrev pub view_instr : Instr → i.Instr
view_instr (r.Int n) = i.Int n
view_instr (r.Char c) = i.Char c
view_instr (r.Truth b) = i.Truth b
view_instr r.Nil = i.Nil
view_instr (r.Text text) = i.Text text
view_instr (r.Load v) = i.Load v
view_instr r.Cons = i.Cons
view_instr r.Pair = i.Pair
view_instr (r.Build c n) = i.Build c n
view_instr (r.Op op) = i.Op (view_operation op)
view_instr (r.Jump to) = i.Jump to
view_instr (r.Unless to) = i.Unless to
view_instr (r.Call g) = i.Call g
view_instr (r.Match m v rows) = i.Match m v rows
view_instr r.Return = i.Return
view_instr (r.Case m v rows) = i.Case m v rows
view_instr (r.Put e) = i.Put e
view_instr (r.Get e v) = i.Get e v
view_instr (r.Pick e c) = i.Pick e c
view_instr (r.Split e a b) = i.Split e a b
view_instr (r.Close e) = i.Close e
view_instr (r.Offer e rows) = i.Offer e rows
view_instr (r.Fork e a b to) = i.Fork e a b to
view_instr (r.Halt e) = i.Halt e
view_instr (r.Link e f) = i.Link e f
view_instr (r.LinkNeg e f) = i.LinkNeg e f
view_instr (r.Peel e side to) = i.Peel e side to
view_instr (r.Race rows) = i.Race rows
view_instr (r.Go p channels) = i.Go p channels

abbrev pub view_head : Head → d.Head
view_head (h.Int n) = d.Head.Int n
view_head (h.Char c) = d.Head.Char c
view_head (h.Truth b) = d.Head.Truth b
view_head h.Nil = d.Head.Nil
view_head h.Cell = d.Head.Cell
view_head h.Pair = d.Head.Pair
view_head (h.Built c n) = d.Head.Built c n

-- the tree that stands there among these; one that isn't there is no row
abbrev pub tree_at : List d.Choice → ℕ → d.Choice
tree_at trees n = unwrap_or (slice_get trees n) d.Fail

-- a node's tree, over those of the nodes behind it
abbrev pub node_tree : List d.Choice → Node → d.Choice
node_tree behind (n.Row r spots) = d.Row r spots
node_tree behind (n.Test spot head fit other) = d.Test spot (view_head head) (tree_at behind fit) (tree_at behind other)
node_tree behind n.Fail = d.Fail

-- the tree of each node
abbrev pub node_trees : List Node → List d.Choice
node_trees [] = []
node_trees (x ∷ nodes) = node_tree (node_trees nodes) x ∷ node_trees nodes

-- the first node's tree
abbrev pub root : List Node → d.Choice
root nodes = tree_at (node_trees nodes) 0

abbrev pub view_decision : Decision → d.Decision
view_decision k = record { width = k.width; bound = k.bound; tree = root k.nodes }

abbrev pub view_block : Block → i.Block
view_block b = record { name = b.name; variables = b.variables; inputs = b.inputs; outputs = b.outputs; code = map view_instr b.code }

abbrev pub view_code : RawCode → i.Code
view_code c = record { functions = map view_block c.functions; processes = map view_block c.processes; decisions = map view_decision c.decisions }

-- a row's number, and what its variables stand for
abbrev pub view_chosen : Chosen → ℕ × List Tree
view_chosen c = (c.row, c.bound)
