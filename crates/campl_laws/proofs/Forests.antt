-- Where things stand is fixed by the configuration, so its graph is one.
use Rattle.std.proofs.Common.{◌≡◌, refl, sym, subst, ◌∙◌, Option, Some, None}
use Rattle.std.proofs.Math.Path.{fun_ext}
use Rattle.campl_machine.specs.Names.{End, Process, Service}
use Rattle.campl_machine.specs.Graph.{NoCycle}
use Rattle.campl_meaning.specs.Reductions.{Configuration}
use Rattle.campl_meaning.specs.Apart.{Place, At, In, Gone, IsPlaced, graph}

module _ (c : Configuration) (place place2 : End → Place) (one : IsPlaced c place) (two : IsPlaced c place2) where
  one-place : (e : End) → place e ≡ place2 e
  one-place e = partner (c.partner e) refl
    where
      gone : (f : End) → c.partner e ≡ Some f → (a : Place) → place2 e ≡ a → place e ≡ Gone → place e ≡ a
      gone f i (At (Process p)) j g = (one.held p e (two.holder p e (f, i) j)).0
      gone f i (At (Service n)) j g = (one.served n e (two.server n e (f, i) j)).0
      gone f i (In z) j g = (one.carried z e (two.carrier z e (f, i) j)).0
      gone f i Gone j g = g

      stands : (f : End) → c.partner e ≡ Some f → (a : Place) → place e ≡ a → place e ≡ place2 e
      stands f i (At (Process p)) j = j ∙ sym (two.held p e (one.holder p e (f, i) j)).0
      stands f i (At (Service n)) j = j ∙ sym (two.served n e (one.server n e (f, i) j)).0
      stands f i (In z) j = j ∙ sym (two.carried z e (one.carrier z e (f, i) j)).0
      stands f i Gone j = gone f i (place2 e) refl j

      partner : (o : Option End) → c.partner e ≡ o → place e ≡ place2 e
      partner None i = one.nowhere e i ∙ sym (two.nowhere e i)
      partner (Some f) i = stands f i (place e) refl

  pub no-cycle-of : NoCycle (graph c place) → NoCycle (graph c place2)
  no-cycle-of = subst (λ (z : End → Place). NoCycle (graph c z)) (fun_ext one-place)
