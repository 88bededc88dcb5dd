-- There is at most one fault beside want of memory, and a tree has none.
use Rattle.std.proofs.Common.{◌≡◌, ℕ, ◌≤◌, inl, inr, List, refl, ap}
use Rattle.std.specs.List.{AllByRecursion}
use Rattle.campl_plug.specs.declared.plug.Link.{Link}
use Rattle.campl_plug.specs.declared.plug.PlugFault.{PlugFault}
use Rattle.campl_plug.specs.declared.plug.PlugFault.TheVariants.{Cycle, Apart, OutOfMemory}
use Rattle.campl_plug.specs.Links.{IsWithin}
use Rattle.campl_plug.specs.Tree.{IsTree}
use Rattle.campl_plug.specs.Faults.{IsFaultOf}
use Rattle.campl_plug.proofs.Trees.{tree-has-no-cycle}
use Rattle.campl_plug.proofs.Peeled.{order-cases}

pub tree-has-no-fault : (k : ℕ) (links : List Link) → AllByRecursion (IsWithin k) links → 1 ≤ k → IsTree k links → (fault : PlugFault) → IsFaultOf k links fault → fault ≡ OutOfMemory
tree-has-no-fault k links within some tree (Cycle i) f = absurd (tree-has-no-cycle k links within some tree i f.closes)
tree-has-no-fault k links within some tree (Apart p) f = absurd (f.1.apart (tree.reached p f.1.part))
tree-has-no-fault k links within some tree OutOfMemory f = refl

pub one-fault : (k : ℕ) (links : List Link) (f g : PlugFault) → IsFaultOf k links f → IsFaultOf k links g → (f ≡ OutOfMemory → ⊥) → (g ≡ OutOfMemory → ⊥) → f ≡ g
one-fault k links OutOfMemory g a b nf ng = absurd (nf refl)
one-fault k links f OutOfMemory a b nf ng = absurd (ng refl)
one-fault k links (Cycle i) (Apart p) a b nf ng = absurd (b.0 i a.closes)
one-fault k links (Apart p) (Cycle i) a b nf ng = absurd (a.0 i b.closes)
one-fault k links (Cycle i) (Cycle j) a b nf ng = elim (order-cases i j) [
  | inl h ↦ absurd (b.first i h a.closes)
  | inr h ↦ elim h [ inl e ↦ ap Cycle e | inr g ↦ absurd (a.first j g b.closes) ]
]
one-fault k links (Apart p) (Apart q) a b nf ng = elim (order-cases p q) [
  | inl h ↦ absurd (a.1.apart (b.1.least p a.1.part h))
  | inr h ↦ elim h [ inl e ↦ ap Apart e | inr g ↦ absurd (b.1.apart (a.1.least q b.1.part g)) ]
]
