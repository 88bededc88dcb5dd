-- What a run by number carries along: its configurations are met, and who has a step by number may reduce.
use Rattle.std.proofs.Common.{◌≡◌, ℕ, zero, suc, List, Option, Some, None, refl, sym, subst}
use Rattle.campl_machine.specs.Names.{Who}
use Rattle.campl_machine.specs.Runs.{Run}
use Rattle.campl_tree.specs.Plain.Decl.{Program}
use Rattle.campl_types.specs.World.{World, world_of}
use Rattle.campl_service.specs.Scripts.{Lines}
use Rattle.campl_meaning.specs.Reductions.{Configuration, Event, reduce}
use Rattle.campl_meaning.specs.Start.{start}
use Rattle.campl_meaning.specs.Ends.{MayReduce}
use Rattle.campl_meaning.specs.Lawful.{IsAccepted}
use Rattle.campl_code.specs.Instructions.{Code}
use Rattle.campl_code_bodies.specs.Bodies.{StandsFor}
use Rattle.campl_laws.specs.Reached.{IsMet}
use Rattle.campl_cells.specs.Parts.{Parts, Proc}
use Rattle.campl_cells.specs.Wants.{Drawn}
use Rattle.campl_cells.specs.Steps.{Change, change_of}
use Rattle.campl_cells.specs.Stands.{IsFresh, Naming}
use Rattle.campl_cells_laws.specs.Sources.{ReducesAs, Represents}
use Rattle.campl_cells_laws.proofs.Represented.{parts-step}

-- one more at the end of a run
run-on : {C L : Type 0} (Red : C → L → C → Type 0) (n : ℕ) (a b c : C) (l : L) → Run Red n a b → Red b l c → Run Red (suc n) a c
run-on Red zero a b c l e r = (l, c, subst (λ b. Red b l c) (sym e) r, refl)
run-on Red (suc n) a b c l (k, d, first, run) r = (k, d, first, run-on Red n d b c l run r)

-- the start of an accepted source is met, and what comes of a reduction
pub met-start : (source : Program) (scripts : List Lines) → IsAccepted source → IsMet source (start (world_of source) scripts)
met-start source scripts accepted = (accepted, (scripts, (0, refl)))

pub met-on : (source : Program) (c d : Configuration) (who : Who) (branch : ℕ) (event : Event) → IsMet source c → reduce (world_of source) c who branch ≡ Some (event, d) → IsMet source d
met-on source c d who branch event (accepted, (scripts, (n, run))) e =
    (accepted, (scripts, (suc n, run-on _ n (start (world_of source) scripts) c d who run (event, (branch, e)))))

-- who has a next step by number may reduce
pub may-reduce : (w : World) (code : Code) (n : Naming) (m : Parts) (c : Configuration) → StandsFor w code → Represents w code n m c → (d : Drawn) → IsFresh d m →
    (p : ℕ) (q : Proc) → m.process p ≡ Some q → (i : ℕ) (change : Change) → change_of code d m p q i ≡ Some change → MayReduce w c (n.who p)
may-reduce w code n m c standing z d fresh p q there i change e =
    go (reduce w c (n.who p) i) refl (subst (ReducesAs w code n d m p q (reduce w c (n.who p) i)) e (parts-step w code n m c standing z d fresh p q there i))
  where
    go : (o : Option (Event × Configuration)) → reduce w c (n.who p) i ≡ o → ReducesAs w code n d m p q o (Some change) → MayReduce w c (n.who p)
    go None e a = absurd a
    go (Some r) e a = (i, r, e)
