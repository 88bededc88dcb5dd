use Rattle.std.proofs.Common.{refl, ◌∙◌}
use Rattle.campl_order.specs.Orders.{names_at_start}
use Rattle.campl_order.proofs.schedule.Schedule.start.Goals as goal

pub make_room-requires : goal.make_room-requires
make_room-requires c = (names_at_start, c.in_ok-schedule.ensures.scheduled names_at_start)

pub welcome_first-requires-clause-first : goal.welcome_first-requires-clause-first
welcome_first-requires-clause-first c = c.in_ok-make_room.ensures.order ∙ c.in_ok-schedule.ensures.nobody

pub welcome_first-requires-clause-scheduled : goal.welcome_first-requires-clause-scheduled
welcome_first-requires-clause-scheduled c = (names_at_start, c.in_ok-make_room.ensures.scheduled names_at_start (c.in_ok-schedule.ensures.scheduled names_at_start), refl)

pub attend_all-requires-clause-scheduled : goal.attend_all-requires-clause-scheduled
attend_all-requires-clause-scheduled c = c.welcome_first.ensures.scheduled names_at_start (c.in_ok-make_room.ensures.scheduled names_at_start (c.in_ok-schedule.ensures.scheduled names_at_start)) refl

pub returns-clause-scheduled : goal.returns-clause-scheduled
returns-clause-scheduled c = c.in_ok-open_all.ensures.scheduled names_at_start c.in_ok-attend_all.ensures.scheduled
