-- What a journal tells from the start is a run.
use Rattle.std.proofs.Common.{◌≡◌, ℕ, zero, suc, ◌+◌, arith, List, [], ◌∷◌, sym, subst}
use Rattle.std.proofs.Math.Nat.{zero-add}
use Rattle.campl_machine.specs.Names.{Who}
use Rattle.campl_machine.specs.Runs.{Run}
use Rattle.campl_types.specs.World.{World}
use Rattle.campl_service.specs.Scripts.{Lines}
use Rattle.campl_meaning.specs.Reductions.{Configuration, Event}
use Rattle.campl_meaning.specs.Start.{start}
use Rattle.campl_meaning.specs.Journals.{Entry, Naming, Times, IsRunOf, IsRunFromStart, steps_of}
use Rattle.campl_meaning.specs.Kept.{Goes}

module _ (w : World) where
  times-run : (k : ℕ) (c d : Configuration) (who : Who) (event : Event) → Times w k c who event d → Run (Goes w) k c d
  times-run zero c d who event e = e
  times-run (suc k) c d who event (b, r, more) = (who, b, (event, r), times-run k b d who event more)

  joined-runs : (n m : ℕ) (a b c : Configuration) → Run (Goes w) n a b → Run (Goes w) m b c → Run (Goes w) (n + m) a c
  joined-runs zero m a b c e run = subst (λ z. Run (Goes w) z a c) (sym (zero-add m)) (subst (λ (z : Configuration). Run (Goes w) m z c) (sym e) run)
  joined-runs (suc n) m a b c (who, x, g, more) run =
      let i : suc (n + m) ≡ suc n + m = omega arith in
      subst (λ z. Run (Goes w) z a c) i (who, x, g, joined-runs n m x b c more run)

  entries-run : (n m : Naming) (c d : Configuration) (entries : List Entry) → IsRunOf w n c entries m d → Run (Goes w) (steps_of entries) c d
  entries-run n m c d [] (i, e) = e
  entries-run n m c d (entry ∷ entries) (who, event, next, b, weighed, says, times, more) =
      joined-runs entry.weight (steps_of entries) c b d (times-run entry.weight c b who event times) (entries-run next m b d entries more)

pub journal-run : (w : World) (scripts : List Lines) (entries : List Entry) (d : Configuration) → IsRunFromStart w scripts entries d → Run (Goes w) (steps_of entries) (start w scripts) d
journal-run w scripts entries d (m, run) = entries-run w _ m (start w scripts) d entries run
