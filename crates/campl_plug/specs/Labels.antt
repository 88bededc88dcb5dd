-- Labels of parts: two parts have the same one exactly where they are joined.
use Rattle.std.specs.Prelude.{◌≡◌, ℕ, ◌+◌, List, length, slice_index, if◌then◌else◌, ◌==◌}
use Rattle.campl_plug.specs.declared.plug.Link.{Link}
use Rattle.campl_plug.specs.Links.{IsPart, Linked, Joined}

-- parts that are joined have the same label, and no others; a label is a part that has itself for its label
pub record IsLabelling (k : ℕ) (links : List Link) (label : ℕ → ℕ) : Type 0 where
  pub linked : (p q : ℕ) → Linked links p q → label p ≡ label q
  pub joined : (p q : ℕ) → IsPart k p → IsPart k q → label p ≡ label q → Joined links p q
  pub inside : (p : ℕ) → IsPart k p → IsPart k (label p)
  pub own : (p : ℕ) → IsPart k p → label (label p) ≡ label p

-- a list of the labels, in which the label of part p stands at p; place 0 is that of no part
pub record AreLabels (k : ℕ) (links : List Link) (labels : List ℕ) : Type 0 where
  pub size : length labels ≡ k + 1
  pub labelling : IsLabelling k links (slice_index labels)

-- one label in the place of another
abbrev pub relabel_of : ℕ → ℕ → ℕ → ℕ
relabel_of from to label = if label == from then to else label
