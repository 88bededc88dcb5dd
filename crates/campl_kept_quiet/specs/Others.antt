-- The steps that change channels: what is left to prove, so that every reduction keeps a configuration lawful.
use Rattle.std.specs.Prelude.{◌≡◌, ℕ, Bool, Some, List}
use Rattle.campl_tree.specs.declared.place.Ident.{Ident}
use Rattle.campl_tree.specs.declared.place.Place.{Place}
use Rattle.campl_tree.specs.declared.process.Binder.{Binder}
use Rattle.campl_tree.specs.Plain.Decl.{Program}
use Rattle.campl_tree.specs.Plain.Expr.{Expr}
use Rattle.campl_tree.specs.Plain.Process as b
use Rattle.campl_tree.specs.Plain.Process.{Body, Link, Parts}
use Rattle.campl_machine.specs.Names.{Path, Process, Service}
use Rattle.campl_machine.specs.Machine.{Does}
use Rattle.campl_types.specs.Names.{Name}
use Rattle.campl_service.specs.Services.{want}
use Rattle.campl_peel.specs.Peel.{peel_of}
use Rattle.campl_peel.specs.Terms.{Plugging}
use Rattle.campl_meaning.specs.States.{Running, Attending, Runs, Serves}
use Rattle.campl_meaning.specs.Wants.{peels, serving_command}
use Rattle.campl_meaning.specs.Reductions.{Configuration}
use Rattle.campl_meaning.specs.Lawful.{Lawful}
use Rattle.campl_kept_quiet.specs.Quiet.{Keeps}

-- whether a body begins with a step that changes no channel
abbrev pub IsQuietBody : Body → Type 0
IsQuietBody (b.Then (b.Put at a x) rest) = ⊥
IsQuietBody (b.Then (b.Get at v x) rest) = ⊥
IsQuietBody (b.Then (b.Hput at k x) rest) = ⊥
IsQuietBody (b.Then (b.Split at x y z) rest) = ⊥
IsQuietBody (b.Then (b.Close at x) rest) = Unit {0}
IsQuietBody (b.Halt at x) = Unit {0}
IsQuietBody (b.Hcase at x rows) = ⊥
IsQuietBody (b.Fork at x y left z right) = ⊥
IsQuietBody (b.Plug at links parts) = ⊥
IsQuietBody (b.Race at rows) = Unit {0}
IsQuietBody (b.Case at a rows) = Unit {0}
IsQuietBody (b.Identity at x negated y) = ⊥
IsQuietBody (b.Call at x args inputs outputs) = Unit {0}

-- each other step keeps a configuration lawful
pub record OthersKeep : Type 0 where
  pub put : (at : Place) (a : Expr) (x : Ident) (rest : Body) → Keeps (b.Then (b.Put at a x) rest)
  pub get : (at : Place) (v : Binder) (x : Ident) (rest : Body) → Keeps (b.Then (b.Get at v x) rest)
  pub hput : (at : Place) (k : Ident) (x : Ident) (rest : Body) → Keeps (b.Then (b.Hput at k x) rest)
  pub split : (at : Place) (x y z : Ident) (rest : Body) → Keeps (b.Then (b.Split at x y z) rest)
  pub hcase : (at : Place) (x : Ident) (rows : b.HcaseRows) → Keeps (b.Hcase at x rows)
  pub fork : (at : Place) (x y : Ident) (left : Body) (z : Ident) (right : Body) → Keeps (b.Fork at x y left z right)
  pub plug : (at : Place) (links : List Link) (parts : Parts) → Keeps (b.Plug at links parts)
  pub identity : (at : Place) (x : Name) (negated : Bool) (y : Ident) → Keeps (b.Identity at x negated y)
  pub plugging :
      (source : Program) (c d : Configuration) (p : Path) (r : Running) (links : List Link) (parts : Parts) → Lawful source c → c.nodes (Process p) ≡ Some (Runs r)
      → r.term ≡ Plugging links parts → Does c (Process p) (peels p r (peel_of links parts)).act d → Lawful source d
  pub service :
      (source : Program) (c d : Configuration) (n : ℕ) (s : Attending) → Lawful source c → c.nodes (Service n) ≡ Some (Serves s)
      → Does c (Service n) (serving_command s (want s.serving)).act d → Lawful source d
