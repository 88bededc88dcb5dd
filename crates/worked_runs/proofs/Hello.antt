-- What each run of a source prints that is judged, by one run that is computed.
use Rattle.std.proofs.Common.{◌≡◌, ℕ, zero, suc, inl, inr, List, [], ◌∷◌, length, refl, sym, ap, ◌∙◌, Option, Some, None, eqb, eqb-true}
use Rattle.std.specs.Prelude.{codes}
use Rattle.std.specs.Fmt.{digits}
use lib.Utf8
use Rattle.campl_machine.specs.Names.{Who, Process, Service}
use Rattle.campl_machine.specs.Runs.{Run}
use Rattle.campl_machine.proofs.Updates.{split}
use Rattle.campl_types.specs.World.{World, world_of, LowerEntry, AFunction, AProcess}
use Rattle.typed_sources.specs.PrintsHello.{prints_hello}
use Rattle.campl_meaning.specs.Reductions.{Configuration, Event, reduce, reduce_state}
use Rattle.campl_meaning.specs.Start.{start}
use Rattle.campl_meaning.specs.Ends.{IsEnabled, HasNoProcess, Ending, Finished}
use Rattle.campl_meaning.specs.Output.{output_of}
use Rattle.campl_meaning.specs.Races.{HasNoRace, WorldHasNoRace}
use Rattle.campl_meaning.specs.Kept.{Goes}
use Rattle.campl_laws.specs.Reached.{IsAnswer}
use Rattle.campl_laws.proofs.Answers.{one-output}
use Rattle.campl_types.proofs.Lowers.{OfEach, of-process}
use Rattle.worked_runs.proofs.Accepted.{hello}

-- Runs by turns

abbrev then_try : (Configuration → Option Configuration) → Option (Event × Configuration) → Option Configuration
then_try next None = None
then_try next (Some d) = next d.1

-- these nodes make a reduction each, by the first choice
abbrev turns : World → List Who → Configuration → Option Configuration
turns w [] c = Some c
turns w (v ∷ vs) c = then_try (turns w vs) (reduce w c v 0)

turns-run : (w : World) (vs : List Who) (c d : Configuration) → turns w vs c ≡ Some d → Run (Goes w) (length vs) c d
turns-run w [] c d i = cc i
turns-run w (v ∷ vs) c d i = go (reduce w c v 0) refl i (λ b. turns-run w vs b d)
  where
    go : (o : Option (Event × Configuration)) → reduce w c v 0 ≡ o → then_try (turns w vs) o ≡ Some d → ((b : Configuration) → turns w vs b ≡ Some d → Run (Goes w) (length vs) b d) → Run (Goes w) (length (v ∷ vs)) c d
    go None e j later = absurd (cc j)
    go (Some (x, b)) e j later = (v, b, (x, (0, e)), later b j)

-- `prints_hello`

abbrev w : World
w = world_of prints_hello

abbrev order : List Who
order = Process [] ∷ Service 0 ∷ Process [] ∷ Service 0 ∷ Process [] ∷ Service 0 ∷ Process [] ∷ []

abbrev or_start : Option Configuration → Configuration
or_start None = start w []
or_start (Some d) = d

abbrev last : Configuration
last = or_start (turns w order (start w []))

no-process : HasNoProcess last
no-process [] = refl
no-process (a ∷ p) = refl

nothing : (next : Event × Configuration) → ◌≡◌ {A = Option (Event × Configuration)} None (Some next) → ⊥
nothing next i = cc i

no-service : (n : ℕ) → last.nodes (Service (suc n)) ≡ None
no-service n = elim (split (eqb 0 (suc n))) [ inl i ↦ absurd (let j : 0 ≡ suc n = eqb-true 0 (suc n) i in cc j) | inr i ↦ rw i refl ]

quiet : IsEnabled w last → ⊥
quiet (Process [], (i, next, r)) = nothing next r
quiet (Process (a ∷ p), (i, next, r)) = nothing next r
quiet (Service zero, (i, next, r)) = nothing next r
quiet (Service (suc n), (i, next, r)) = nothing next (sym (ap (reduce_state w last (Service (suc n)) i) (no-service n)) ∙ r)

pub answer : IsAnswer prints_hello [] 7 Finished last
answer = record { run = turns-run w order (start w []) last refl; ends = (no-process, quiet); is_over = λ i. cc i }

abbrev Quiet : LowerEntry → Type 0
Quiet (AFunction f) = Unit {0}
Quiet (AProcess p) = HasNoRace p.row.body

each : OfEach Quiet w
each = (tt, (tt, (tt, tt)))

no-race : WorldHasNoRace w
no-race x p i = of-process Quiet w x p each i

text : output_of w last Finished 7 ≡ codes "channel console\n> Hello\nclosed\nfinished after 7 steps\n"
unfolding digits lib.Utf8.encode
text = refl

-- so this is what each run of it that can't go on prints
pub prints : (n : ℕ) (e : Ending) (c : Configuration) → IsAnswer prints_hello [] n e c → output_of w c e n ≡ codes "channel console\n> Hello\nclosed\nfinished after 7 steps\n"
prints n e c a = one-output prints_hello [] hello no-race n 7 e Finished c last a answer ∙ text
