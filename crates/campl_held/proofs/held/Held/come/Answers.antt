use Rattle.campl_held.proofs.Slots.{emptier, came-so, came-view}
use Rattle.campl_held.proofs.held.Held.come.Goals as goal

pub invariant_of-self-in_err-note : goal.invariant_of-self-in_err-note
invariant_of-self-in_err-note c =
    rw c.in_ok-push.ensures.ok (emptier c.self.inside.places.entries _ c.self.inside.slots c.self.invariant.0 c.self.invariant.1 c.in_err-note.ensures.err)

pub invariant_of-self-2 : goal.invariant_of-self-2
invariant_of-self-2 c =
    came-so c.args.name.now _ _ _ c.self.inside.places.entries _ c.self.inside.slots _ _ c.args.self.now c.self.invariant.0 c.self.invariant.1 c.self.view_is
    c.requires c.in_ok-name.ensures c.in_ok-key.ensures c.len-at.ensures c.in_ok-push.ensures.ok c.set.ensures c.in_ok-note.ensures.noted

pub returns : goal.returns
returns c = came-view c.args.name.now _ _ c.self.inside.slots _ _ c.args.self.now c.self.view_is c.in_ok-name.ensures c.len-at.ensures c.in_ok-push.ensures.ok c.set.ensures
