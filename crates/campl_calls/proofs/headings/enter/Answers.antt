use Rattle.std.proofs.Common.{◌≡◌, ◌∙◌, ◌++◌, ◌+◌, sym, ap, subst, map, drop, arith}
use Rattle.campl_tree.specs.View.{view_chan}
use Rattle.campl_types.specs.Held.{On}
use Rattle.campl_seqcheck.specs.Judged.{fine, Is}
use Rattle.campl_linear.specs.Processes.{names_differ, entering}
use Rattle.campl_held.specs.Slots.{view_held}
use Rattle.campl_calls.specs.Headings.{held_names}
use Rattle.campl_calls.proofs.Entered.{new-at, differ-more, entered-more, entered-end}
use Rattle.campl_calls.proofs.headings.enter.Goals as goal

pub hold-requires : goal.hold-requires
hold-requires c =
    new-at c.args.side c.args.names.now c.args.types.now c.loop-i.i (view_held c.loop-i.held) c.index-names-i.result (omega (arith, c.loop-i-test.true)) c.index-names-i.is c.loop-i.invariant.differ

pub loop-i-preserved : goal.loop-i-preserved
loop-i-preserved c =
    record {
      differ = subst (λ h. names_differ (held_names h) (drop (c.loop-i.i + 1) c.args.names.now) ≡ Is fine) (sym c.in_ok-hold.ensures)
          (differ-more c.args.side c.args.names.now c.args.types.now c.loop-i.i (view_held c.loop-i.held) (On c.args.side (view_chan c.index-types-i.result)) c.index-names-i.result (omega (arith, c.loop-i-test.true)) c.index-names-i.is c.loop-i.invariant.differ);
      entered = ap (λ h. h ++ entering c.args.side (drop (c.loop-i.i + 1) c.args.names.now) (map view_chan (drop (c.loop-i.i + 1) c.args.types.now))) c.in_ok-hold.ensures
          ∙ entered-more c.args.side c.args.names.now c.args.types.now c.loop-i.i (view_held c.loop-i.held) c.index-names-i.result c.index-types-i.result (omega (arith, c.loop-i-test.true)) c.index-names-i.is c.index-types-i.is
          ∙ c.loop-i.invariant.entered;
    }

pub returns : goal.returns
returns c = sym (entered-end c.args.side c.args.names.now c.args.types.now c.loop-i.i (view_held c.loop-i.held) (omega (arith, c.loop-i-test.false))) ∙ c.loop-i.invariant.entered
