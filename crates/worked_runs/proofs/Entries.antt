-- Entries of journals, step by step.
use Rattle.std.proofs.Common.{◌≡◌, ◌≤◌, ℕ, inr, List, [], ◌∷◌, refl, sym, subst, Option, Some, None, arith}
use Rattle.campl_machine.specs.Names.{Who}
use Rattle.campl_types.specs.World.{World}
use Rattle.campl_meaning.specs.States as s
use Rattle.campl_meaning.specs.States.{Kind}
use Rattle.campl_meaning.specs.Reductions.{Configuration, Event, reduce}
use Rattle.campl_meaning.specs.Journals.{Entry, Told, Naming, Says, IsRunOf, Times}

-- an entry of one step that bears nothing
abbrev pub entry : (process : ℕ) → Kind → Option ℕ → Option Told → Entry
entry process kind end message =
    record { process = process; kind = kind; weight = 1; end = end; second = None; message = message; child = None; channel = None; channel2 = None }

-- one that bears a child, and a channel between both
abbrev pub bearing : (process : ℕ) → Kind → Option ℕ → (child channel : ℕ) → Entry
bearing process kind end child channel =
    record { process = process; kind = kind; weight = 1; end = end; second = None; message = None; child = Some child; channel = Some channel; channel2 = None }

abbrev pub got : Configuration → Option (Event × Configuration) → Event × Configuration
got c None = (record { kind = s.Work; end = None; second = None; message = None; children = []; channels = [] }, c)
got c (Some next) = next

-- what a reduction by the first choice did, and what is behind it
abbrev pub made : World → Configuration → Who → Event × Configuration
made w c who = got c (reduce w c who 0)

one : 1 ≤ 1
one = omega arith

-- an entry of one step by this node, and what follows it
pub then : (w : World) (n next last : Naming) (c d : Configuration) (who : Who) (first : Entry) (rest : List Entry) → first.weight ≡ 1 → reduce w c who 0 ≡ Some (made w c who)
    → Says n first who (made w c who).0 next → IsRunOf w next (made w c who).1 rest last d → IsRunOf w n c (first ∷ rest) last d
then w n next last c d who first rest i r says more = (
  who,
  (made w c who).0,
  next,
  (made w c who).1,
  (subst (λ k. 1 ≤ k) (sym i) one, inr i),
  says,
  subst (λ k. Times w k c who (made w c who).0 (made w c who).1) (sym i) ((made w c who).1, (0, r), refl),
  more,
)
