-- What the calls of a step on the tables come to.
use Rattle.std.proofs.Common.{◌≡◌, ◌+◌, ◌*◌, ◌/◌, ◌++◌, ℕ, [], ◌∷◌, Option, Some, None, length, option_map, refl, sym, ap, ◌∙◌}
use Rattle.campl_cells.specs.Parts.{Life, Mail, Proc, written}
use Rattle.campl_cells.specs.Steps.{borne, goes_on, newborn, peopled, sent}
use Rattle.campl_cells.specs.Wants.{Drawn}
use Rattle.campl_parts.specs.declared.part.Life as parts
use Rattle.campl_parts.specs.Tables.{procs, tips}
use Rattle.campl_parts.specs.Views.{life_of}
use Rattle.campl_steps.specs.declared.config.Config.{Config}
use Rattle.campl_steps.specs.declared.plan.Borne.{Borne}
use Rattle.campl_steps.specs.Configs.{drawn, more}
use Rattle.campl_steps.specs.Doing.{Did, IsSendThere}
use Rattle.campl_steps.specs.Readiness.{borne_channels, count_of}
use Rattle.campl_steps.proofs.Swapped.{sent-first}

pub more-mapped : {A B : Type 0} (f : A → B) (o : Option A) (n : ℕ) → more (option_map f o) n ≡ more o n
more-mapped f None n = refl
more-mapped f (Some a) n = refl

-- of the numbers that are drawn only the child's counts
peopled-same : (d e : Drawn) (p : ℕ) (q : Proc) (life : Life) (child : Option Life) → d.child ≡ e.child → peopled d p q life child ≡ peopled e p q life child
peopled-same d e p q life None h = refl
peopled-same d e p q life (Some x) h = λ i. (h i, newborn p q x) ∷ (p, goes_on q life) ∷ []

-- a message arrives, channels are born, and then the process goes on
pub moved-on : (old one two new : Config) (p : ℕ) (channels : Borne) (send : Option (ℕ × Mail)) (life : Life) (child : Option parts.Life) →
    one.processes ≡ old.processes → length one.ends.items ≡ length old.ends.items →
    tips one.ends.items ≡ written (sent send (tips old.ends.items)) (tips old.ends.items) →
    two.processes ≡ one.processes → length two.ends.items ≡ length one.ends.items + 2 * count_of channels →
    tips two.ends.items ≡ written (borne (borne_channels (drawn one) channels)) (tips one.ends.items) →
    new.ends ≡ two.ends → length new.processes.items ≡ length two.processes.items + more child 1 →
    ((q : Proc) → procs two.processes.items p ≡ Some q → procs new.processes.items ≡ written (peopled (drawn two) p q life (option_map life_of child)) (procs two.processes.items)) →
    IsSendThere old.ends.items send →
    Did old new p life (option_map life_of child) (count_of channels) (sent send (tips old.ends.items) ++ borne (borne_channels (drawn old) channels))
moved-on old one two new p channels send life child p1 l1 t1 p2 l2 t2 e3 l3 goes there =
    let same : procs two.processes.items ≡ procs old.processes.items = (λ i. procs (p2 i).items) ∙ (λ i. procs (p1 i).items) in
    let count : length two.processes.items ≡ length old.processes.items = (λ i. length (p2 i).items) ∙ (λ i. length (p1 i).items) in
    let drawn1 : drawn one ≡ drawn old = λ i. record { child = length (p1 i).items; channel = l1 i / 2; channel2 = l1 i / 2 + 1 } in
    record {
      process = λ q h. goes q (ap (λ (f : ℕ → Option Proc). f p) same ∙ h)
          ∙ (λ i. written (peopled-same (drawn two) (drawn old) p q life (option_map life_of child) count i) (same i));
      tip = (λ i. tips (e3 i).items) ∙ (t2 ∙ ((λ i. written (borne (borne_channels (drawn1 i) channels)) (t1 i)) ∙ sent-first old channels send there));
      processes = l3 ∙ (λ i. count i + sym (more-mapped life_of child 1) i);
      ends = (λ i. length (e3 i).items) ∙ (l2 ∙ ap (λ n. n + 2 * count_of channels) l1);
    }
