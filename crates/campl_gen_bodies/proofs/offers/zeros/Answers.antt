use Rattle.std.proofs.Common.{◌∙◌, ◌++◌, ◌∷◌, [], List, ℕ, ap, arith}
use Rattle.campl_gen_bodies.proofs.Offering.{zeros-more}
use Rattle.campl_gen_bodies.proofs.offers.zeros.Goals as goal

pub places-preserved : goal.places-preserved
places-preserved c =
    record {
      places = c.in_ok-push.ensures.ok ∙ ap (λ (l : List ℕ). l ++ 0 ∷ []) c.places.invariant.places ∙ zeros-more c.places.more;
      within = omega (arith, c.places-test.true);
    }
