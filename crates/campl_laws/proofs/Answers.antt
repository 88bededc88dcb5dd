-- Of a source without race: one answer, to which each run goes on, and of which each shows a beginning.
use Rattle.std.proofs.Common.{◌≡◌, ◌≢◌, ℕ, zero, suc, ◌+◌, List, ◌++◌, refl, sym, ap, subst, ◌∙◌, append_assoc, append-nil, ◌≤◌, arith, ◌⊎◌, inl, inr}
use Rattle.campl_tree.specs.Plain.Decl.{Program}
use Rattle.campl_machine.specs.Names.{TellsApart, Who, same_who}
use Rattle.campl_machine.specs.Runs.{Run, Stuck, AllEndAt, IsPrefixOf, OneIsPrefix}
use Rattle.campl_machine.proofs.Confluence.{one_end}
use Rattle.campl_machine.proofs.Same.{same_who-is, same_who-refl}
use Rattle.campl_machine.proofs.Updates.{decides}
use Rattle.campl_types.specs.World.{World, world_of}
use Rattle.campl_service.specs.Scripts.{Lines}
use Rattle.campl_meaning.specs.Reductions.{Configuration}
use Rattle.campl_meaning.specs.Start.{start}
use Rattle.campl_meaning.specs.Ends.{IsEnabled, Ending, Finished, Broken, Awaiting, OutOfSteps, IsEnd, transcript_of}
use Rattle.campl_meaning.specs.Output.{output_of}
use Rattle.campl_meaning.specs.OneAtATime.{RunsFromStart}
use Rattle.campl_meaning.specs.Lawful.{IsAccepted}
use Rattle.campl_meaning.specs.Races.{WorldHasNoRace}
use Rattle.campl_meaning.specs.Kept.{Goes}
use Rattle.campl_meaning.proofs.OneAnswer.{not-enabled, ended, first-run, Good, good-on, reached, once, adds, answer, both, one-prefix}
use Rattle.campl_laws.specs.Reached.{IsReached, IsAnswer}
use Rattle.campl_laws.proofs.All.{all-kept}

-- How a configuration ends is one

pub any-budget : (w : World) (c : Configuration) (n m b d : ℕ) (ending : Ending) → ending ≢ OutOfSteps → IsEnd w c n b ending → IsEnd w c m d ending
any-budget w c n m b d Finished h e = e
any-budget w c n m b d Broken h e = e
any-budget w c n m b d Awaiting h e = e
any-budget w c n m b d OutOfSteps h e = absurd (h refl)

pub one-ending : (w : World) (c : Configuration) (n m b d : ℕ) (e f : Ending) → e ≢ OutOfSteps → f ≢ OutOfSteps → IsEnd w c n b e → IsEnd w c m d f → e ≡ f
one-ending w c n m b d Finished Finished h k i j = refl
one-ending w c n m b d Finished Broken h k i j = absurd (cc (i.0 j.1.0, j.1.1.1))
one-ending w c n m b d Finished Awaiting h k i j = absurd (cc (i.0 j.2.0, j.2.2))
one-ending w c n m b d Broken Finished h k i j = absurd (cc (j.0 i.1.0, i.1.1.1))
one-ending w c n m b d Broken Broken h k i j = refl
one-ending w c n m b d Broken Awaiting h k i j = absurd (j.1 i.1.0 i.1.1)
one-ending w c n m b d Awaiting Finished h k i j = absurd (cc (j.0 i.2.0, i.2.2))
one-ending w c n m b d Awaiting Broken h k i j = absurd (i.1 j.1.0 j.1.1)
one-ending w c n m b d Awaiting Awaiting h k i j = refl
one-ending w c n m b d OutOfSteps f h k i j = absurd (h refl)
one-ending w c n m b d e OutOfSteps h k i j = absurd (k refl)

-- the run of one at a time that ends within its budget is such a run
pub one-at-a-time-answers : (source : Program) (scripts : List Lines) (budget n : ℕ) (ending : Ending) (c : Configuration) →
    RunsFromStart (world_of source) scripts budget ending n c → ending ≢ OutOfSteps → IsAnswer source scripts n ending c
one-at-a-time-answers source scripts budget n ending c r h = record {
  run = first-run (world_of source) n (start (world_of source) scripts) c r.run;
  ends = any-budget (world_of source) c n n budget n ending h r.ends;
  is_over = h;
}

module _ (source : Program) (scripts : List Lines) (accepted : IsAccepted source) (quiet : WorldHasNoRace (world_of source)) where
  abbrev w : World
  w = world_of source

  abbrev from : Configuration
  from = start w scripts

  pub one-result : (c : Configuration) → IsReached source scripts c → (who : Who) (a d : Configuration) → Goes w c who a → Goes w c who d → a ≡ d
  one-result c r = once source quiet (all-kept source) accepted scripts c (reached source quiet (all-kept source) accepted scripts c r)

  stuck : (n : ℕ) (ending : Ending) (c : Configuration) → IsAnswer source scripts n ending c → Stuck (Goes w) c
  stuck n ending c a = not-enabled w c (ended w c n n ending a.is_over a.ends)

  tells : TellsApart same_who
  tells = record { is = same_who-is; own = same_who-refl }

  -- each run goes on to the answer
  pub goes-on : (n m : ℕ) (ending : Ending) (c d : Configuration) → IsAnswer source scripts n ending c → Run (Goes w) m from d → (k : ℕ) × (n ≡ m + k) × Run (Goes w) k d c
  goes-on n m ending c d a run =
      one_end (Goes w) (Good source quiet (all-kept source) accepted scripts) (λ x who y g r. good-on source quiet (all-kept source) accepted scripts x y who g r) (decides same_who tells)
      (λ x who y z g r s. once source quiet (all-kept source) accepted scripts x g who y z r s)
      (λ x p q y z g ne r s. both w x g.0.place g.0.apart p q y z ne r s)
      m n from d c (reached source quiet (all-kept source) accepted scripts from (zero, refl)) (stuck n ending c a) a.run run

  -- and there is one
  pub one-answer : (n m : ℕ) (e f : Ending) (c d : Configuration) → IsAnswer source scripts n e c → IsAnswer source scripts m f d → (n ≡ m) × (e ≡ f) × (c ≡ d)
  one-answer n m e f c d a o =
      let (all, same) = answer source quiet (all-kept source) accepted scripts c n a.run (stuck n e c a) d m o.run in
      let (dc, mn) = same (stuck m f d o) in
      (sym mn, one-ending w c n m n m e f a.is_over o.is_over a.ends (subst (λ (z : Configuration). IsEnd w z m m f) dc o.ends), sym dc)

  pub one-output : (n m : ℕ) (e f : Ending) (c d : Configuration) → IsAnswer source scripts n e c → IsAnswer source scripts m f d → output_of w c e n ≡ output_of w d f m
  one-output n m e f c d a o = let (i, j, k) = one-answer n m e f c d a o in λ t. output_of w (k t) (j t) (i t)

  -- Two runs within one budget that end by it end alike

  is-answer : (n budget : ℕ) (e : Ending) (c : Configuration) → Run (Goes w) n from c → IsEnd w c n budget e → e ≢ OutOfSteps → IsAnswer source scripts n e c
  is-answer n budget e c run ends h = record { run = run; ends = any-budget w c n n budget n e h ends; is_over = h }

  -- one that ends is no shorter than one that is out of steps
  never-both : (n m budget : ℕ) (e : Ending) (c d : Configuration) → IsAnswer source scripts n e c → Run (Goes w) m from d → n ≤ budget → m ≡ budget → IsEnabled w d → ⊥
  never-both n m budget e c d a run i j enabled =
      let (k, nm, more) = goes-on n m e c d a run in
      let z : k ≡ 0 = omega (arith, nm, i, j) in
      let same : d ≡ c = subst (λ k. Run (Goes w) k d c) z more in
      ended w c n n e a.is_over a.ends (subst (IsEnabled w) same enabled)

  is-out : (e : Ending) → (e ≡ OutOfSteps) ⊎ (e ≢ OutOfSteps)
  is-out Finished = inr (λ i. cc i)
  is-out Broken = inr (λ i. cc i)
  is-out Awaiting = inr (λ i. cc i)
  is-out OutOfSteps = inl refl

  out-at : (n budget : ℕ) (e : Ending) (c : Configuration) → e ≡ OutOfSteps → IsEnd w c n budget e → (n ≡ budget) × IsEnabled w c
  out-at n budget e c i ends = subst (IsEnd w c n budget) i ends

  pub same-budget : (budget n m : ℕ) (e f : Ending) (c d : Configuration) → Run (Goes w) n from c → n ≤ budget → IsEnd w c n budget e → Run (Goes w) m from d → m ≤ budget → IsEnd w d m budget f →
      (n ≡ m) × (e ≡ f) × (e ≢ OutOfSteps → c ≡ d)
  same-budget budget n m e f c d r i h s j k = elim (is-out e) [
    | inr ne ↦ elim (is-out f) [
      | inr nf ↦ let (nm, ef, cd) = one-answer n m e f c d (is-answer n budget e c r h ne) (is-answer m budget f d s k nf) in (nm, ef, λ z. cd)
      | inl jf ↦ let o = out-at m budget f d jf k in absurd (never-both n m budget e c d (is-answer n budget e c r h ne) s i o.0 o.1)
    ]
    | inl ie ↦
        let o = out-at n budget e c ie h in
        elim (is-out f) [
          | inr nf ↦ absurd (never-both m n budget f d c (is-answer m budget f d s k nf) r j o.0 o.1)
          | inl jf ↦ let q = out-at m budget f d jf k in (o.0 ∙ sym q.0, ie ∙ sym jf, λ z. absurd (z ie))
        ]
  ]

  pub all-end : (s : Configuration) (n : ℕ) → Run (Goes w) n from s → Stuck (Goes w) s → AllEndAt (Goes w) from s n
  all-end = answer source quiet (all-kept source) accepted scripts

  -- What is written down

  grows : (k n : ℕ) (a d : Configuration) → IsReached source scripts a → Run (Goes w) n a d → IsPrefixOf (transcript_of k a) (transcript_of k d)
  grows k zero a d r e = (_, append-nil (transcript_of k a) ∙ ap (transcript_of k) e)
  grows k (suc n) a d r (who, b, g, run) =
      let p : IsPrefixOf (transcript_of k a) (transcript_of k b) = adds source quiet (all-kept source) accepted scripts k a who b r g in
      let q : IsPrefixOf (transcript_of k b) (transcript_of k d) = grows k n b d (further a b who r g) run in
      (p.0 ++ q.0, sym (append_assoc (transcript_of k a) p.0 q.0) ∙ (ap (λ t. t ++ q.0) p.1 ∙ q.1))
    where
      after : (n : ℕ) (c a b : Configuration) (who : Who) → Run (Goes w) n c a → Goes w a who b → Run (Goes w) (suc n) c b
      after zero c a b who e g = (who, b, subst (λ (z : Configuration). Goes w z who b) (sym e) g, refl)
      after (suc n) c a b who (v, m, h, run) g = (v, m, h, after n m a b who run g)

      further : (a b : Configuration) (who : Who) → IsReached source scripts a → Goes w a who b → IsReached source scripts b
      further a b who (m, run) g = (suc m, after m from a b who run g)

  pub beginning : (k n : ℕ) (ending : Ending) (c d : Configuration) → IsAnswer source scripts n ending c → IsReached source scripts d → IsPrefixOf (transcript_of k d) (transcript_of k c)
  beginning k n ending c d a (m, run) = let (i, j, more) = goes-on n m ending c d a run in grows k i d c (m, run) more

  pub two-beginnings : (k : ℕ) (a d : Configuration) → IsReached source scripts a → IsReached source scripts d → OneIsPrefix (transcript_of k a) (transcript_of k d)
  two-beginnings = one-prefix source quiet (all-kept source) accepted scripts
