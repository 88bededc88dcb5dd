-- Processes whose next command is an identity.
use Rattle.std.specs.Prelude.{◌≡◌, Bool, Some}
use Rattle.campl_tree.specs.declared.place.Place.{Place}
use Rattle.campl_tree.specs.declared.place.Ident.{Ident}
use Rattle.campl_tree.specs.Plain.Process as b
use Rattle.campl_machine.specs.Names.{Path, Process}
use Rattle.campl_types.specs.Names.{Name}
use Rattle.campl_peel.specs.Terms.{Doing}
use Rattle.campl_meaning.specs.States.{Running, Runs}
use Rattle.campl_meaning.specs.Reductions.{Configuration}

-- the process p is there, and its next command is `x |=| y`, or with `neg` before y
pub record IsIdentityAt (c : Configuration) (p : Path) (r : Running) (at : Place) (x : Name) (negated : Bool) (y : Ident) : Type 0 where
  pub there : c.nodes (Process p) ≡ Some (Runs r)
  pub term : r.term ≡ Doing (b.Identity at x negated y)
