-- What is in scope and what is held behind the commands with which a body goes on.
use Rattle.std.specs.Prelude.{◌≡◌, List, [], ◌∷◌, ◌++◌}
use Rattle.campl_tree.specs.declared.place.Place.{Place}
use Rattle.campl_tree.specs.declared.place.Ident.{Ident}
use Rattle.campl_tree.specs.declared.process.Binder.{Binder}
use Rattle.campl_tree.specs.Plain.Expr.{Expr}
use Rattle.campl_tree.specs.Plain.Process as b
use Rattle.campl_tree.specs.Plain.Process.{Action}
use Rattle.campl_types.specs.Fits.{Vars}
use Rattle.campl_types.specs.Held.{On}
use Rattle.campl_types.specs.Linear.{bound}
use Rattle.campl_types.specs.World.{World}
use Rattle.campl_seqcheck.specs.Judged.{Judged, Is, and_then}
use Rattle.campl_seqcheck.specs.Judging.{checked}
use Rattle.campl_linear.specs.Faults.{LinFault}
use Rattle.campl_linear.specs.Judged.{from_seq}
use Rattle.campl_linear.specs.Holding.{Holding, goes_on, given_up, comes}
use Rattle.campl_linear.specs.Channels.{used, to_put, to_get, to_pick, to_split, to_end, two_new}

-- `put`: the channel goes on
abbrev pub acted_put : Place → World → Vars → Holding → Expr → Ident → Judged LinFault (Vars × Holding)
acted_put at w vs held a x =
    and_then (used w at x to_put held) (λ u. and_then (from_seq (checked w vs a u.may.0)) (λ _. Is (vs, goes_on x.name (On u.side u.may.1) held)))

-- `get`: what comes is bound
abbrev pub acted_get : Place → World → Vars → Holding → Binder → Ident → Judged LinFault (Vars × Holding)
acted_get at w vs held v x = and_then (used w at x to_get held) (λ u. Is (bound v u.may.0 vs, goes_on x.name (On u.side u.may.1) held))

-- `hput`: the channel goes on behind the constructor
abbrev pub acted_hput : Place → World → Vars → Holding → (k x : Ident) → Judged LinFault (Vars × Holding)
acted_hput at w vs held k x = and_then (used w at x (to_pick k.name) held) (λ u. Is (vs, goes_on x.name (On u.side u.may) held))

-- `split`: two new channels in place of one
abbrev pub acted_split : Place → World → Vars → Holding → (x y z : Ident) → Judged LinFault (Vars × Holding)
acted_split at w vs held x y z =
    and_then (used w at x to_split held) (λ u. and_then (two_new y z (given_up x.name held)) (λ _.
    Is (vs, comes z.name (On u.side u.may.1) (comes y.name (On u.side u.may.0) (given_up x.name held)))))

-- `close`: the channel is given up
abbrev pub acted_close : Place → World → Vars → Holding → Ident → Judged LinFault (Vars × Holding)
acted_close at w vs held x = and_then (used w at x to_end held) (λ _. Is (vs, given_up x.name held))

-- a command
abbrev pub acted : World → Vars → Holding → Action → Judged LinFault (Vars × Holding)
acted w vs held (b.Put at a x) = acted_put at w vs held a x
acted w vs held (b.Get at v x) = acted_get at w vs held v x
acted w vs held (b.Hput at k x) = acted_hput at w vs held k x
acted w vs held (b.Split at x y z) = acted_split at w vs held x y z
acted w vs held (b.Close at x) = acted_close at w vs held x

-- commands in order
abbrev pub acted_all : World → Vars → Holding → List Action → Judged LinFault (Vars × Holding)
acted_all w vs held [] = Is (vs, held)
acted_all w vs held (a ∷ more) = and_then (acted w vs held a) (λ s. acted_all w s.0 s.1 more)

-- variables that came before the others
abbrev pub Grown : {A : Type 0} → (old new : List A) → Type 0
Grown {A} old new = (xs : List A) × (new ≡ xs ++ old)
