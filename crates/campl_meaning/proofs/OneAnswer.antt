-- The laws of the machine at the language: the diamond, one answer, and prefixes of transcripts.
use Rattle.std.proofs.Common.{◌≡◌, ◌≢◌, ℕ, zero, suc, List, refl, sym, ap, subst, ◌∙◌, Option, Some, None, option_map}
use Rattle.campl_machine.specs.Names.{TellsApart, End, Who, same_who}
use Rattle.campl_machine.specs.Machine.{performs}
use Rattle.campl_machine.specs.Programs as machine
use Rattle.campl_machine.specs.Runs.{Run, Reaches, Stuck, DiamondsFrom, AllEndAt, OneIsPrefix, OnlyAdds}
use Rattle.campl_machine.proofs.Performs.{does_of}
use Rattle.campl_machine.proofs.Programs.{both-orders}
use Rattle.campl_machine.proofs.OneAnswer.{one-answer, prefixes}
use Rattle.campl_machine.proofs.Same.{same_who-is, same_who-refl}
use Rattle.campl_tree.specs.Plain.Decl.{Program}
use Rattle.campl_types.specs.World.{World, world_of}
use Rattle.campl_service.specs.Scripts.{Lines}
use Rattle.campl_meaning.specs.States.{State, Command}
use Rattle.campl_meaning.specs.Wants.{wants}
use Rattle.campl_meaning.specs.Reductions.{Configuration, Event, act_of, event_of, reduce}
use Rattle.campl_meaning.specs.Start.{start}
use Rattle.campl_meaning.specs.Ends.{IsEnabled, Ending, Finished, Broken, Awaiting, OutOfSteps, IsEnd, transcript_of}
use Rattle.campl_meaning.specs.OneAtATime.{FirstReduces, RunsFromStart}
use Rattle.campl_meaning.specs.Apart.{Place, IsApart}
use Rattle.campl_meaning.specs.Lawful.{IsAccepted, Lawful}
use Rattle.campl_meaning.specs.Races.{WorldHasNoRace, IsWithoutRace}
use Rattle.campl_meaning.specs.Kept.{Goes, IsKept}
use Rattle.campl_meaning.proofs.Independent.{keeps-apart}
use Rattle.campl_meaning.proofs.Calm.{calm-kept, one-choice, start-calm}
use Rattle.campl_meaning.proofs.Grows.{only-adds}
use Rattle.campl_meaning.proofs.Steps.{IsStep, step-of}

-- Reductions with events, and those of the machine

ahead : (o : Option Configuration) (d : Configuration) (f : Event) → o ≡ Some d → option_map {U = Event × Configuration} (λ (e : Configuration). (f, e)) o ≡ Some (f, d)
ahead o d f i = ap (option_map {U = Event × Configuration} (λ (e : Configuration). (f, e))) i

machine-of : (w : World) (c : Configuration) (who : Who) (i : ℕ) (d : Configuration) → IsStep w c who i d → machine.reduce (act_of w) c who i ≡ Some d
machine-of w c who i d s = rw s.there s.performed

of-machine : (w : World) (c : Configuration) (who : Who) (i : ℕ) (d : Configuration) → machine.reduce (act_of w) c who i ≡ Some d → (x : Event) × (reduce w c who i ≡ Some (x, d))
of-machine w c who i d r = go (c.nodes who) refl r
  where
    go : (o : Option State) → c.nodes who ≡ o → machine.reduce_state (act_of w) c who i o ≡ Some d → (x : Event) × (reduce w c who i ≡ Some (x, d))
    go None is f = absurd (cc f)
    go (Some s) is f = (event_of c (wants w who s i), rw is (ahead (performs c who (act_of w who s i)) d _ f))

-- The diamond, of any choices

pub both : (w : World) (c : Configuration) (place : End → Place) → IsApart c place → (p q : Who) (a d : Configuration) → p ≢ q → Goes w c p a → Goes w c q d →
    (e : Configuration) × Goes w a q e × Goes w d p e
both w c place l p q a d n (x, (i, r)) (y, (j, t)) =
    let (e, f, g) = both-orders (act_of w) c (keeps-apart w c place l) p q i j a d n (machine-of w c p i a (step-of w c p i x a r)) (machine-of w c q j d (step-of w c q j y d t)) in
    let (u, fu) = of-machine w a q j e f in
    let (v, gv) = of-machine w d p i e g in
    (e, (u, (j, fu)), (v, (i, gv)))

-- The run of one at a time is a run

first-goes : (w : World) (c d : Configuration) (l : Who × ℕ × Event) → FirstReduces w c l d → Goes w c l.0 d
first-goes w c d l f = (l.2, (l.1, f.reduces))

pub first-run : (w : World) (n : ℕ) (c d : Configuration) → Run (FirstReduces w) n c d → Run (Goes w) n c d
first-run w zero c d e = e
first-run w (suc n) c d (l, b, f, run) = (l.0, b, first-goes w c b l f, first-run w n b d run)

-- where nothing is enabled, nothing goes
pub not-enabled : (w : World) (c : Configuration) → (IsEnabled w c → ⊥) → Stuck (Goes w) c
not-enabled w c h who d (x, (i, r)) = h (who, (i, (x, d), r))

pub ended : (w : World) (c : Configuration) (n budget : ℕ) (ending : Ending) → ending ≢ OutOfSteps → IsEnd w c n budget ending → IsEnabled w c → ⊥
ended w c n budget Finished h e = e.1
ended w c n budget Broken h e = e.0
ended w c n budget Awaiting h e = e.0
ended w c n budget OutOfSteps h e = absurd (h refl)

-- Without a race

module _ (source : Program) (quiet : WorldHasNoRace (world_of source)) (kept : IsKept source) (accepted : IsAccepted source) (scripts : List Lines) where
  abbrev w : World
  w = world_of source

  abbrev from : Configuration
  from = start w scripts

  -- each configuration that is reached is lawful and comes to no race
  abbrev pub Good : Configuration → Type 0
  Good c = Lawful source c × IsWithoutRace c

  pub good-on : (c d : Configuration) (who : Who) → Good c → Goes w c who d → Good d
  good-on c d who (l, h) (x, (i, r)) =
      let s : IsStep w c who i d = step-of w c who i x d r in
      (kept.goes_on c d who l (x, (i, r)), calm-kept w quiet c d who s.state i h s.there (does_of c who (act_of w who s.state i) d s.performed))

  good-run : (n : ℕ) (c d : Configuration) → Good c → Run (Goes w) n c d → Good d
  good-run zero c d g e = subst Good e g
  good-run (suc n) c d g (who, b, r, run) = good-run n b d (good-on c b who g r) run

  pub reached : (c : Configuration) → Reaches (Goes w) from c → Good c
  reached c (n, run) = good-run n from c (kept.begins scripts accepted, start-calm w scripts quiet) run

  pub once : (c : Configuration) → Good c → (who : Who) (a d : Configuration) → Goes w c who a → Goes w c who d → a ≡ d
  once c (l, h) who a d (x, (i, r)) (y, (j, t)) =
      let s : IsStep w c who i a = step-of w c who i x a r in
      let u : IsStep w c who j d = step-of w c who j y d t in
      let q : s.state ≡ u.state = cc (sym s.there ∙ u.there) in
      let e : wants w who s.state i ≡ wants w who s.state j = one-choice w who s.state i (h who s.state s.there) ∙ sym (one-choice w who s.state j (h who s.state s.there)) in
      let f : performs c who (act_of w who s.state j) ≡ Some a = subst (λ (z : Command). performs c who z.act ≡ Some a) e s.performed in
      let g : performs c who (act_of w who s.state j) ≡ Some d = subst (λ (z : State). performs c who (act_of w who z j) ≡ Some d) (sym q) u.performed in
      cc (sym f ∙ g)

  diamonds : DiamondsFrom (Goes w) from
  diamonds c r = (
    (λ who a d f g. once c (reached c r) who a d f g),
    (λ p q a d n f g. both w c (reached c r).0.place (reached c r).0.apart p q a d n f g),
  )

  tells : TellsApart same_who
  tells = record { is = same_who-is; own = same_who-refl }

  pub answer : (s : Configuration) (n : ℕ) → Run (Goes w) n from s → Stuck (Goes w) s → AllEndAt (Goes w) from s n
  answer = one-answer (Goes w) same_who tells from diamonds

  pub adds : (k : ℕ) → OnlyAdds (Goes w) from (transcript_of k)
  adds k c who d r (x, (i, f)) =
      let s : IsStep w c who i d = step-of w c who i x d f in
      only-adds w c d who s.state i k s.there (does_of c who (act_of w who s.state i) d s.performed)

  pub one-prefix : (k : ℕ) (a d : Configuration) → Reaches (Goes w) from a → Reaches (Goes w) from d → OneIsPrefix (transcript_of k a) (transcript_of k d)
  one-prefix k = prefixes (Goes w) same_who tells from diamonds (transcript_of k) (adds k)

  -- where the run of one at a time ends before its budget does, so does each run
  pub one-at-a-time : (budget : ℕ) (ending : Ending) (n : ℕ) (d : Configuration) → RunsFromStart w scripts budget ending n d → ending ≢ OutOfSteps → AllEndAt (Goes w) from d n
  one-at-a-time budget ending n d r h = answer d n (first-run w n from d r.run) (not-enabled w d (ended w d n budget ending h r.ends))
