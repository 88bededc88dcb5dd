use Rattle.std.proofs.Common.{rules, arith, append-nil, ◌≤◌, ◌+◌, length}
use Rattle.std.proofs.lemmas.Grind.{common_steps}
use Rattle.campl_gram.proofs.Lists.{adds_one}
use Rattle.campl_grammar.specs.Rules.{read}
use Rattle.campl_grammar.specs.Names.{actions, action}
use Rattle.campl_grammar.proofs.ByRule.{reads_actions}
use Rattle.campl_grammar.proofs.Exactness.{leaves, leaves-word}
use Rattle.campl_parse.proofs.action.actions.Goals as goal

pub returns-in_err-action : goal.returns-in_err-action
returns-in_err-action c = rw (← c.actions.invariant, reads_actions c.args.depth c.actions.cursor) (first_of (search rules, grind (arith, common_steps)))

pub returns-in_err-expect : goal.returns-in_err-expect
returns-in_err-expect c = rw (← c.actions.invariant, reads_actions c.args.depth c.actions.cursor) (first_of (search rules, grind (arith, common_steps)))

pub actions-smaller : goal.actions-smaller
actions-smaller c =
    let a : length c.action.new.cursor + 1 ≤ length c.actions.cursor = leaves action _ _ _ _ c.in_ok-action.ensures in
    let b : length c.expect.new.self + 1 ≤ length c.action.new.cursor = leaves-word _ _ _ _ _ c.in_ok-expect.ensures.reads in
    omega arith

pub actions-preserved : goal.actions-preserved
actions-preserved c =
    rw (c.in_ok-push.ensures.ok, adds_one c.actions.found c.in_ok-action.field-0 (read actions c.args.depth c.expect.new.self), ← c.actions.invariant, reads_actions c.args.depth c.actions.cursor)
    (first_of (search rules, grind (arith, common_steps)))

pub returns : goal.returns
returns c = rw (← c.actions.invariant, reads_actions c.args.depth c.actions.cursor) (first_of (search (rules, append-nil), grind (arith, common_steps, append-nil)))
