use Rattle.std.proofs.Common.{◌≡◌, ◌++◌, drop, map, length}
use Rattle.campl_tree.specs.View.{view_decl}
use Rattle.campl_code_bodies.specs.Bodies.{processes_of}
use Rattle.campl_instructions.specs.View.{view_block, view_decision}
use Rattle.campl_gen.specs.Blocks.{blocks_from, decisions_from}
use Rattle.campl_gen.proofs.processes.put_processes.Given as goal

abbrev pub invariant-loop-i : goal.invariant-loop-i
invariant-loop-i l = record {
  blocks : map view_block l.blocks ++ blocks_from (map view_decl l.known) (processes_of (map view_decl (drop l.i l.declarations))) (length (map view_decision l.making.decisions))
      ≡ map view_block l.initial.blocks ++ blocks_from (map view_decl l.known) (processes_of (map view_decl l.declarations)) (length (map view_decision l.initial.making.decisions));
  decisions : map view_decision l.making.decisions ++ decisions_from (map view_decl l.known) (processes_of (map view_decl (drop l.i l.declarations))) (length (map view_decision l.making.decisions))
      ≡ map view_decision l.initial.making.decisions ++ decisions_from (map view_decl l.known) (processes_of (map view_decl l.declarations)) (length (map view_decision l.initial.making.decisions));
}
