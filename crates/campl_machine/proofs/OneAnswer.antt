-- Where reductions have the diamond, runs end alike, and what they show are prefixes of one another.
use Rattle.std.proofs.Common.{◌≡◌, ◌≢◌, ℕ, zero, suc, ◌+◌, Bool, List, refl, sym, subst, ◌∙◌, arith}
use Rattle.campl_machine.specs.Names.{TellsApart, Who, same_who}
use Rattle.campl_machine.specs.Machine.{Config, Act}
use Rattle.campl_machine.specs.Programs.{Steps, KeepsApartFrom}
use Rattle.campl_machine.specs.Runs.{Run, Reaches, Stuck, DiamondsFrom, AllEndAt, OneIsPrefix, OnlyAdds}
use Rattle.campl_machine.proofs.Same.{same_who-is, same_who-refl}
use Rattle.campl_machine.proofs.Updates.{decides}
use Rattle.campl_machine.proofs.Confluence.{one_end, prefix}
use Rattle.campl_machine.proofs.Programs.{has-diamond}

-- one more step at the end of a run
after : {C L : Type 0} (Red : C → L → C → Type 0) (n : ℕ) (a b c : C) (l : L) → Run Red n a b → Red b l c → Run Red (suc n) a c
after Red zero a b c l e r = (l, c, subst (λ x. Red x l c) (sym e) r, refl)
after Red (suc n) a b c l (m, x, s, run) r = (m, x, s, after Red n x b c l run r)

module _ {C L : Type 0} (Red : C → L → C → Type 0) (same : L → L → Bool) (tells : TellsApart same) (start : C) (diamonds : DiamondsFrom Red start) where
  -- what is reached from the start
  Reached : C → Type 0
  Reached = Reaches Red start

  -- a reduction of a reached state reaches a state
  kept : (a : C) (l : L) (b : C) → Reached a → Red a l b → Reached b
  unfolding Reached
  kept a l b (n, run) r = (suc n, after Red n start a b l run r)

  -- a reduction leads to one state
  once : (a : C) (l : L) (b c : C) → Reached a → Red a l b → Red a l c → b ≡ c
  unfolding Reached
  once a l b c g r s = (diamonds a g).0 l b c r s

  -- the diamond of reached states
  meets : (a : C) (l m : L) (b c : C) → Reached a → l ≢ m → Red a l b → Red a m c → (d : C) × Red b m d × Red c l d
  unfolding Reached
  meets a l m b c g n r s = (diamonds a g).1 l m b c n r s

  -- the start is reached
  here : Reached start
  unfolding Reached
  here = (0, refl)

  -- a run from where nothing can go on has no reduction
  stuck-stays : (k : ℕ) (b s : C) → Stuck Red b → Run Red k b s → (k ≡ 0) × (b ≡ s)
  stuck-stays zero b s st e = (refl, e)
  stuck-stays (suc k) b s st (l, d, r, more) = absurd (st l d r)

  -- where one run gets stuck, no run is longer, and each that gets stuck ends there in as many steps
  pub one-answer : (s : C) (n : ℕ) → Run Red n start s → Stuck Red s → AllEndAt Red start s n
  one-answer s n run st b m other =
      let e : (k : ℕ) × (n ≡ m + k) × Run Red k b s = one_end Red Reached kept (decides same tells) once meets m n start b s here st run other in
      (omega (arith, e.1), λ sb. let z : (e.0 ≡ 0) × (b ≡ s) = stuck-stays e.0 b s sb e.2 in (z.1, omega (arith, e.1, z.0)))

  -- of what two runs show, one is a prefix of the other
  pub prefixes : {A : Type 0} (shown : C → List A) → OnlyAdds Red start shown → (b c : C) → Reaches Red start b → Reaches Red start c →
      OneIsPrefix (shown b) (shown c)
  unfolding Reached
  prefixes shown adds b c (m, p) (n, q) = prefix Red Reached kept (decides same tells) once meets shown adds m n start b c here p q

-- the same of a machine with a program
module _ {S M I : Type 0} (act : Who → S → I → Act S M) (i : I) (start : Config S M) (keeps : KeepsApartFrom act i start) where
  -- the test of nodes tells them apart
  tells-nodes : TellsApart same_who
  tells-nodes = record { is = same_who-is; own = same_who-refl }

  -- each configuration that is reached has the diamond
  program-diamonds : DiamondsFrom (Steps act i) start
  program-diamonds a reached = ((λ w b c r s. cc (sym r ∙ s)), has-diamond act a (keeps a reached) i)

  -- one answer
  pub program-answer : (s : Config S M) (n : ℕ) → Run (Steps act i) n start s → Stuck (Steps act i) s → AllEndAt (Steps act i) start s n
  program-answer = one-answer (Steps act i) same_who tells-nodes start program-diamonds

  -- and prefixes of what is shown
  pub program-prefixes : {A : Type 0} (shown : Config S M → List A) → OnlyAdds (Steps act i) start shown →
      (b c : Config S M) → Reaches (Steps act i) start b → Reaches (Steps act i) start c → OneIsPrefix (shown b) (shown c)
  program-prefixes = prefixes (Steps act i) same_who tells-nodes start program-diamonds
