-- Phases in which a service isn't closed.
use Rattle.std.proofs.Common.{◌≡◌, ◌≢◌, refl, Bool, true, false}
use Rattle.campl_service.specs.declared.phase.Phase.{Phase}
use Rattle.campl_service.specs.declared.phase.Phase.TheVariants as phase

abbrev pub is_open : Phase → Bool
is_open phase.Pick = true
is_open phase.Text = true
is_open phase.Send = true
is_open phase.Closed = false

pub open-kept : (ph : Phase) → ph ≢ phase.Closed → is_open ph ≡ true
open-kept phase.Pick n = refl
open-kept phase.Text n = refl
open-kept phase.Send n = refl
open-kept phase.Closed n = absurd (n refl)
