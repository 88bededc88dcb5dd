use Rattle.std.proofs.Common.{[], ◌∷◌}
use Rattle.campl_solo.specs.Fits.{Fits}
use Rattle.campl_solo.proofs.tables.wake_all.Goals as goal

pub wake-requires-in-Four-2 : goal.wake-requires-in-Four-2
wake-requires-in-Four-2 c = (c.requires.0, c.wake-in-Four.ensures.scheduled c.requires.0 c.requires.1)

pub wake-requires-in-Four-3 : goal.wake-requires-in-Four-3
wake-requires-in-Four-3 c = (c.requires.0, c.wake-in-Four-2.ensures.scheduled c.requires.0 (c.wake-in-Four.ensures.scheduled c.requires.0 c.requires.1))

pub wake-requires-in-Four-4 : goal.wake-requires-in-Four-4
wake-requires-in-Four-4 c = (
  c.requires.0,
  c.wake-in-Four-3.ensures.scheduled c.requires.0 (c.wake-in-Four-2.ensures.scheduled c.requires.0 (c.wake-in-Four.ensures.scheduled c.requires.0 c.requires.1)),
)

pub returns-in-One : goal.returns-in-One
returns-in-One c code m who ps es fits =
    let f : Fits code m who ps es (c.in-One.end ∷ []) c.args.schedule.now = rw c.in-One.is at fits in
    c.wake.ensures.fits code m who ps es [] f

pub returns-in-Four : goal.returns-in-Four
returns-in-Four c code m who ps es fits =
    let a = c.in-Four in
    let f : Fits code m who ps es (a.first ∷ a.second ∷ a.first_peer ∷ a.second_peer ∷ []) c.args.schedule.now = rw a.is at fits in
    c.wake-in-Four-4.ensures.fits code m who ps es [] (c.wake-in-Four-3.ensures.fits code m who ps es (a.second_peer ∷ [])
    (c.wake-in-Four-2.ensures.fits code m who ps es (a.first_peer ∷ a.second_peer ∷ []) (c.wake-in-Four.ensures.fits code m who ps es (a.second ∷ a.first_peer ∷ a.second_peer ∷ []) f)))
