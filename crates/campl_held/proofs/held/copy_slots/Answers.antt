use Rattle.std.proofs.Common.{◌≡◌, ◌∙◌, ap, subst, get_or}
use Rattle.campl_types.specs.Names.{found}
use Rattle.campl_held.specs.Slots.{is_kept}
use Rattle.campl_held.proofs.Slots.{apart-kept, copied-more}
use Rattle.campl_held.proofs.held.copy_slots.Goals as goal

pub add_slot-requires : goal.add_slot-requires
add_slot-requires c =
    λ g i. ap (found g.name) c.loop-i.invariant
    ∙ apart-kept (is_kept c.args.keep c.args.names.now) c.args.slots.now c.loop-i.i g c.requires c.loop-i-test.true (subst (λ o. o ≡ get_or c.args.slots.now c.loop-i.i o) i c.index-slots-i.is)

pub loop-i-preserved : goal.loop-i-preserved
loop-i-preserved c =
    copied-more (is_kept c.args.keep c.args.names.now) c.args.slots.now c.loop-i.i c.index-slots-i.result c.loop-i.held _ c.loop-i-test.true c.index-slots-i.is c.loop-i.invariant c.in-Ok.ensures
