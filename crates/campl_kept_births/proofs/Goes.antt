-- The steps as reductions.
use Rattle.std.proofs.Common.{◌≡◌, true, Some}
use Rattle.campl_tree.specs.declared.place.Place.{Place}
use Rattle.campl_tree.specs.declared.place.Ident.{Ident}
use Rattle.campl_tree.specs.Plain.Process as b
use Rattle.campl_tree.specs.Plain.Process.{Body}
use Rattle.campl_tree.specs.Plain.Decl.{Program}
use Rattle.campl_machine.specs.Names.{Path, Process}
use Rattle.campl_types.specs.World.{world_of}
use Rattle.campl_peel.specs.Terms.{Doing, is_plug}
use Rattle.campl_meaning.specs.States.{Running, Runs}
use Rattle.campl_meaning.specs.Reductions.{Configuration}
use Rattle.campl_meaning.specs.Lawful.{Lawful}
use Rattle.campl_meaning.specs.Kept.{Goes}
use Rattle.campl_meaning.proofs.Steps.{performed}
use Rattle.campl_kept_births.proofs.PeelStep.{peel-kept}
use Rattle.campl_kept_births.proofs.SplitStep.{split-kept}
use Rattle.campl_kept_births.proofs.ForkStep.{fork-kept}

module _ (source : Program) (c d : Configuration) (p : Path) (r : Running) (l : Lawful source c) (there : c.nodes (Process p) ≡ Some (Runs r)) (g : Goes (world_of source) c (Process p) d) where
  pub peel-goes : is_plug r.term ≡ true → Lawful source d
  peel-goes is = let (i, e) = performed (world_of source) c d (Process p) (Runs r) there g in peel-kept source c d p r i l there is e

  pub split-goes : (at : Place) (x y z : Ident) (rest : Body) → r.term ≡ Doing (b.Then (b.Split at x y z) rest) → Lawful source d
  split-goes at x y z rest is = let (i, e) = performed (world_of source) c d (Process p) (Runs r) there g in split-kept source c d p r i at x y z rest l there is e

  pub fork-goes : (at : Place) (x y : Ident) (one : Body) (z : Ident) (two : Body) → r.term ≡ Doing (b.Fork at x y one z two) → Lawful source d
  fork-goes at x y one z two is = let (i, e) = performed (world_of source) c d (Process p) (Runs r) there g in fork-kept source c d p r i at x y one z two l there is e
