-- Each step goes on with less to emit, or with as much in an inner function.
use Rattle.std.proofs.Common.{◌≡◌, ◌+◌, ◌*◌, ◌++◌, ◌≤◌, map, drop, take, length}
use Rattle.campl_tree.specs.View.{view_last, view_body, view_hcase_row, view_branch, view_case_row, parts as part_list, view_decl}
use Rattle.campl_code_bodies.specs.BodySizes.{body_size}
use Rattle.campl_gen_channels.specs.Orders.{view_part_at}
use Rattle.campl_gen_channels.specs.View.{view_channels}
use Rattle.campl_gen_bodies.specs.Commands.{rows_built, row_starts, cases_built, case_starts}
use Rattle.campl_gen_bodies.specs.Peels.{children_built, heaviest, heaviest_child}
use Rattle.campl_gen_bodies.specs.View.{view_making, view_child}
use Rattle.campl_gen_bodies.proofs.Sizes.{hcase-sizes, race-sizes, case-sizes, part-sizes}
use Rattle.campl_gen_bodies.proofs.emission.+emit.Given as goal

abbrev pub decreases-emit_body : goal.decreases-emit_body
decreases-emit_body l = 8 * body_size (view_body l.body.now) + 2

abbrev pub decreases-emit_last : goal.decreases-emit_last
decreases-emit_last l = 8 * body_size (view_last l.last.now) + 1

abbrev pub decreases-emit_fork : goal.decreases-emit_fork
decreases-emit_fork l = 8 * (body_size (view_branch l.left.now).1 + body_size (view_branch l.right.now).1) + 7

abbrev pub decreases-emit_halves : goal.decreases-emit_halves
decreases-emit_halves l = 8 * (body_size (view_branch l.left.now).1 + body_size (view_branch l.right.now).1) + 6

abbrev pub decreases-rows::emit_hcase : goal.decreases-rows::emit_hcase
decreases-rows::emit_hcase l = 8 * hcase-sizes l.rows.now + 7

abbrev pub decreases-rows::emit_hcase_rows : goal.decreases-rows::emit_hcase_rows
decreases-rows::emit_hcase_rows l = 8 * hcase-sizes l.rows.now + 6

abbrev pub decreases-rows::emit_hcase_row : goal.decreases-rows::emit_hcase_row
decreases-rows::emit_hcase_row l = 8 * body_size (view_hcase_row l.row.now).1 + 5

abbrev pub decreases-rows::emit_race : goal.decreases-rows::emit_race
decreases-rows::emit_race l = 8 * race-sizes l.rows.now + 7

abbrev pub decreases-rows::emit_branches : goal.decreases-rows::emit_branches
decreases-rows::emit_branches l = 8 * race-sizes l.rows.now + 6

abbrev pub decreases-rows::emit_branch : goal.decreases-rows::emit_branch
decreases-rows::emit_branch l = 8 * body_size (view_branch l.row.now).1 + 5

abbrev pub decreases-rows::emit_case : goal.decreases-rows::emit_case
decreases-rows::emit_case l = 8 * case-sizes l.rows.now + 7

abbrev pub decreases-rows::emit_decided : goal.decreases-rows::emit_decided
decreases-rows::emit_decided l = 8 * case-sizes l.rows.now + 6

abbrev pub decreases-rows::emit_cases : goal.decreases-rows::emit_cases
decreases-rows::emit_cases l = 8 * case-sizes l.rows.now + 5

abbrev pub decreases-rows::emit_case_row : goal.decreases-rows::emit_case_row
decreases-rows::emit_case_row l = 8 * body_size (view_case_row l.row.now).1 + 4

abbrev pub decreases-parts::emit_plug : goal.decreases-parts::emit_plug
decreases-parts::emit_plug l = 8 * part-sizes l.parts.now + 7

abbrev pub decreases-parts::emit_order : goal.decreases-parts::emit_order
decreases-parts::emit_order l = 8 * heaviest (part_list (map view_part_at l.order.now)) + 6

abbrev pub decreases-parts::emit_left : goal.decreases-parts::emit_left
decreases-parts::emit_left l = 8 * heaviest (part_list (map view_part_at l.order.now)) + 5

abbrev pub decreases-parts::emit_children : goal.decreases-parts::emit_children
decreases-parts::emit_children l = 8 * heaviest_child (map view_child l.children.now) + 5

abbrev pub decreases-parts::emit_child : goal.decreases-parts::emit_child
decreases-parts::emit_child l = 8 * body_size (view_child l.child.now).body + 4

abbrev pub invariant-rows::emit_hcase_rows-loop-i : goal.invariant-rows::emit_hcase_rows-loop-i
invariant-rows::emit_hcase_rows-loop-i l = record {
  made : rows_built (map view_decl l.known) (map view_hcase_row (drop l.i l.rows)) l.held.next (view_channels l.held) (view_making l.making)
      ≡ rows_built (map view_decl l.known) (map view_hcase_row l.rows) l.held.next (view_channels l.held) (view_making l.initial.making);
  starts : l.starts ++ row_starts (map view_decl l.known) (map view_hcase_row (drop l.i l.rows)) l.held.next (view_channels l.held) (view_making l.making)
      ≡ l.initial.starts ++ row_starts (map view_decl l.known) (map view_hcase_row l.rows) l.held.next (view_channels l.held) (view_making l.initial.making);
}

abbrev pub invariant-rows::emit_branches-loop-i : goal.invariant-rows::emit_branches-loop-i
invariant-rows::emit_branches-loop-i l = record {
  made : rows_built (map view_decl l.known) (map view_branch (drop l.i l.rows)) l.held.next (view_channels l.held) (view_making l.making)
      ≡ rows_built (map view_decl l.known) (map view_branch l.rows) l.held.next (view_channels l.held) (view_making l.initial.making);
  starts : l.starts ++ row_starts (map view_decl l.known) (map view_branch (drop l.i l.rows)) l.held.next (view_channels l.held) (view_making l.making)
      ≡ l.initial.starts ++ row_starts (map view_decl l.known) (map view_branch l.rows) l.held.next (view_channels l.held) (view_making l.initial.making);
}

abbrev pub invariant-rows::emit_cases-loop-i : goal.invariant-rows::emit_cases-loop-i
invariant-rows::emit_cases-loop-i l = record {
  made : cases_built (map view_decl l.known) (map view_case_row (drop l.i l.rows)) l.held.next (view_channels l.held) (view_making l.making)
      ≡ cases_built (map view_decl l.known) (map view_case_row l.rows) l.held.next (view_channels l.held) (view_making l.initial.making);
  starts : l.starts ++ case_starts (map view_decl l.known) (map view_case_row (drop l.i l.rows)) l.held.next (view_channels l.held) (view_making l.making)
      ≡ l.initial.starts ++ case_starts (map view_decl l.known) (map view_case_row l.rows) l.held.next (view_channels l.held) (view_making l.initial.making);
}

abbrev pub invariant-parts::emit_children-children : goal.invariant-parts::emit_children-children
invariant-parts::emit_children-children l = record {
  made : children_built (map view_decl l.known) (map view_child (take l.more l.children)) (view_making l.making)
      ≡ children_built (map view_decl l.known) (map view_child l.children) (view_making l.initial.making);
  within : l.more ≤ length l.children;
}

abbrev pub decreases-parts::emit_children-children : goal.decreases-parts::emit_children-children
decreases-parts::emit_children-children l = l.more
