-- Reductions, which have an event, as steps of the machine.
use Rattle.std.proofs.Common.{◌≡◌, ℕ, refl, ap, subst, Option, Some, None, option_map}
use Rattle.campl_machine.specs.Names.{Who}
use Rattle.campl_machine.specs.Machine.{Does, performs}
use Rattle.campl_machine.proofs.Performs.{does_of, of_does}
use Rattle.campl_types.specs.World.{World}
use Rattle.campl_meaning.specs.States.{State}
use Rattle.campl_meaning.specs.Reductions.{Configuration, Event, act_of, event_of, reduce, reduce_state}
use Rattle.campl_meaning.specs.Wants.{wants}
use Rattle.campl_meaning.specs.Kept.{Goes}

pub behind : (o : Option Configuration) (x : Event) (d : Configuration) (f : Event) → option_map {U = Event × Configuration} (λ (e : Configuration). (f, e)) o ≡ Some (x, d) → o ≡ Some d
behind None x d f i = absurd (cc i)
behind (Some e) x d f i =
    let q : ◌≡◌ {A = Event × Configuration} (f, e) (x, d) = cc i in
    ap (λ (z : Event × Configuration). Some z.1) q

-- a node that makes a step is there
pub record IsStep (w : World) (c : Configuration) (who : Who) (i : ℕ) (d : Configuration) : Type 0 where
  pub state : State
  pub there : c.nodes who ≡ Some state
  pub performed : performs c who (act_of w who state i) ≡ Some d

pub step-of : (w : World) (c : Configuration) (who : Who) (i : ℕ) (x : Event) (d : Configuration) → reduce w c who i ≡ Some (x, d) → IsStep w c who i d
step-of w c who i x d r = go (c.nodes who) refl r
  where
    go : (o : Option State) → c.nodes who ≡ o → reduce_state w c who i o ≡ Some (x, d) → IsStep w c who i d
    go None is f = absurd (cc f)
    go (Some s) is f = record { state = s; there = is; performed = behind (performs c who (act_of w who s i)) x d _ f }

-- what goes is there, and does what it wants
pub goes-does : (w : World) (c d : Configuration) (who : Who) → Goes w c who d → (s : State) × (i : ℕ) × (c.nodes who ≡ Some s) × Does c who (act_of w who s i) d
goes-does w c d who (x, (i, r)) =
    let step = step-of w c who i x d r in
    (step.state, i, step.there, does_of c who (act_of w who step.state i) d step.performed)

-- of a node that is there
pub performed : (w : World) (c d : Configuration) (who : Who) (s : State) → c.nodes who ≡ Some s → Goes w c who d → (i : ℕ) × (performs c who (act_of w who s i) ≡ Some d)
performed w c d who s is (x, (i, r)) =
    let step = step-of w c who i x d r in
    let same : step.state ≡ s = cc (step.there, is) in
    (i, subst (λ t. performs c who (act_of w who t i) ≡ Some d) same step.performed)

pub does-of-goes : (w : World) (c d : Configuration) (who : Who) (s : State) → c.nodes who ≡ Some s → Goes w c who d → (i : ℕ) × Does c who (act_of w who s i) d
does-of-goes w c d who s is g = let (i, e) = performed w c d who s is g in (i, does_of c who (act_of w who s i) d e)

-- and what it wants, and can do, is a reduction
pub goes-of : (w : World) (c d : Configuration) (who : Who) (s : State) (i : ℕ) → c.nodes who ≡ Some s → Does c who (act_of w who s i) d → Goes w c who d
goes-of w c d who s i is does =
    let done : performs c who (act_of w who s i) ≡ Some d = of_does c who (act_of w who s i) d does in
    let x : Event = event_of c (wants w who s i) in
    let r : reduce w c who i ≡ Some (x, d) = rw is (ap (option_map {U = Event × Configuration} (λ (e : Configuration). (x, e))) done) in
    (x, (i, r))
