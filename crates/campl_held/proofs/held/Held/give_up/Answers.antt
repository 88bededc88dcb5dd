use Rattle.std.proofs.Common.{◌∙◌, sym, ap}
use Rattle.campl_linear.specs.Holding.{given_up}
use Rattle.campl_held.specs.Slots.{view_held, live}
use Rattle.campl_held.proofs.Slots.{place-within, emptied, not-there, gave-up}
use Rattle.campl_held.proofs.held.Held.give_up.Goals as goal

pub set-requires : goal.set-requires
set-requires c = place-within c.args.name.now c.self.inside.slots c.in-Some.at (sym (c.self.invariant.0 c.args.name.now) ∙ sym c.in-Some.ensures.was)

pub invariant_of-self : goal.invariant_of-self
invariant_of-self c =
    rw c.set.ensures (gave-up c.args.name.now c.self.inside.places.entries _ c.self.inside.slots c.in-Some.at c.self.invariant.0 c.self.invariant.1 c.in-Some.ensures.was c.in-Some.ensures.rest)

pub returns-in-Some : goal.returns-in-Some
returns-in-Some c =
    ap (λ s. view_held (live s)) c.set.ensures ∙ emptied c.args.name.now c.self.inside.slots c.in-Some.at c.self.invariant.1 (sym (c.self.invariant.0 c.args.name.now) ∙ sym c.in-Some.ensures.was)
    ∙ ap (λ l. given_up c.args.name.now (view_held l)) c.self.view_is

pub returns-in-None : goal.returns-in-None
returns-in-None c =
    sym (not-there c.args.name.now c.self.inside.slots (sym (c.self.invariant.0 c.args.name.now) ∙ sym c.in-None.ensures.was)) ∙ ap (λ l. given_up c.args.name.now (view_held l)) c.self.view_is
