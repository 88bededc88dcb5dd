-- The rows that a failed test leaves.
use Rattle.std.proofs.Common.{◌≡◌, ◌∙◌, refl, ap, Bool, true, false, not, List, [], ◌∷◌, if◌then◌else◌, filter, map}
use Rattle.campl_code.specs.Compiled.{Asked, is_asked, where_fails}
use Rattle.campl_match.specs.View.{view_asked_at, view_open, view_rows}
use Rattle.campl_match.specs.declared.open.Open.{Open}

pub fails-filtered : (a : Asked) (rows : List Open) → view_rows (filter (λ r. not (is_asked a (map view_asked_at r.tests))) rows) ≡ where_fails a (view_rows rows)
fails-filtered a [] = refl
fails-filtered a (r ∷ rows) = go (is_asked a (map view_asked_at r.tests)) (fails-filtered a rows)
  where
    go : (b : Bool) → view_rows (filter (λ r. not (is_asked a (map view_asked_at r.tests))) rows) ≡ where_fails a (view_rows rows)
        → view_rows (if not b then r ∷ filter (λ r. not (is_asked a (map view_asked_at r.tests))) rows else filter (λ r. not (is_asked a (map view_asked_at r.tests))) rows)
        ≡ (if b then where_fails a (view_rows rows) else view_open r ∷ where_fails a (view_rows rows))
    go true later = later
    go false later = ap (λ rs. view_open r ∷ rs) later
