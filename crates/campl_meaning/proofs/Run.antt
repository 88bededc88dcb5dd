-- Where nothing is wrong with `run`, it is declared and has services alone.
use Rattle.std.proofs.Common.{◌≡◌, refl, Bool, true, false, [], Option, Some, None}
use Rattle.std.specs.Prelude.{codes}
use Rattle.campl_tree.specs.Plain.Decl.{ProcessDecl}
use Rattle.campl_types.specs.World.{World, process_named}
use Rattle.campl_types.specs.Run.{run_faults, has_services_alone}

pub run-is : (w : World) → run_faults w ≡ [] → (q : ProcessDecl) × (process_named w (codes "run") ≡ Some q) × (has_services_alone q ≡ true)
run-is w i = go (process_named w (codes "run")) refl
  where
    alone : (q : ProcessDecl) (b : Bool) → has_services_alone q ≡ b → process_named w (codes "run") ≡ Some q → has_services_alone q ≡ true
    alone q true j e = j
    alone q false j e = absurd (cc (rw (e, j) at i))

    go : (o : Option ProcessDecl) → process_named w (codes "run") ≡ o → (q : ProcessDecl) × (process_named w (codes "run") ≡ Some q) × (has_services_alone q ≡ true)
    go None e = absurd (cc (rw e at i))
    go (Some q) e = (q, e, alone q (has_services_alone q) refl e)
