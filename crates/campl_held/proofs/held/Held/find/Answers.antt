use Rattle.std.proofs.Common.{◌∙◌, sym, ap, option_map}
use Rattle.campl_types.specs.Names.{found}
use Rattle.campl_held.specs.Slots.{view_channel, view_held, slot_at}
use Rattle.campl_held.proofs.Slots.{found-slot}
use Rattle.campl_held.proofs.held.Held.find.Goals as goal

pub returns : goal.returns
returns c =
    ap (option_map view_channel) c.at_place.ensures ∙ ap (λ l. option_map view_channel (slot_at l c.copied.result)) c.as_slice.ensures
    ∙ ap (λ p. option_map view_channel (slot_at c.self.inside.slots p)) (c.copied.ensures ∙ c.get.ensures.value ∙ c.self.invariant.0 c.args.name.now)
    ∙ sym (found-slot c.args.name.now c.self.inside.slots) ∙ ap (λ l. found c.args.name.now (view_held l)) c.self.view_is
