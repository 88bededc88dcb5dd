-- What the trees of nodes answer, and the heads and parts of what a constructor built.
use Rattle.std.proofs.Common.{◌≡◌, refl, ℕ, zero, suc, List, [], ◌∷◌, drop, length, nat_eq, Bool, true, false, ap, sym, ◌∙◌}
use Rattle.std.proofs.lemmas.Bool.{eq-eqb}
use Rattle.std.proofs.lemmas.Option.{slice_get-map}
use Rattle.std.specs.Prelude.{eqb, if◌then◌else◌}
use Rattle.campl_value.specs.Tree.{Tree, built, list_of, trees_of}
use Rattle.campl_code.specs.Decisions.{Choice, Head, head_of, same_head, fits_head, value_at, chosen}
use Rattle.campl_instructions.specs.declared.decision.Node.{Node}
use Rattle.campl_instructions.specs.declared.decision.Node.TheVariants as node
use Rattle.campl_instructions.specs.declared.decision.Head as declared
use Rattle.campl_instructions.specs.View.{tree_at, node_trees, root, view_head}

trees-drop : (nodes : List Node) (n : ℕ) → node_trees (drop n nodes) ≡ drop n (node_trees nodes)
trees-drop nodes zero = refl
trees-drop [] (suc n) = refl
trees-drop (x ∷ nodes) (suc n) = trees-drop nodes n

first-drop : (trees : List Choice) (n : ℕ) → tree_at (drop n trees) 0 ≡ tree_at trees n
first-drop trees zero = refl
first-drop [] (suc n) = refl
first-drop (t ∷ trees) (suc n) = first-drop trees n

-- the tree of a node by its number
pub root-drop : (nodes : List Node) (n : ℕ) → root (drop n nodes) ≡ tree_at (node_trees nodes) n
root-drop nodes n = ap (λ ts. tree_at ts 0) (trees-drop nodes n) ∙ first-drop (node_trees nodes) n

pub ruleset views = (slice_get-map, root-drop)

pub list-of-trees : (ts : List Tree) → list_of (trees_of ts) ≡ ts
list-of-trees [] = refl
list-of-trees (t ∷ ts) = ap (λ l. t ∷ l) (list-of-trees ts)

same : (n : ℕ) → eqb n n ≡ true
same n = eq-eqb n n refl

pub same-built : (c d n : ℕ) (ps : List Tree) → c ≡ d → nat_eq n (length ps) ≡ same_head (Head.Built c n) (head_of (built d ps))
same-built c d n ps e = rw e (rw (same d) (rw (list-of-trees ps) refl))

-- what a test's two ways find
pub found-fit : (nodes behind from : List Node) (x : Node) (spot : List ℕ) (h : declared.Head) (fit other : ℕ) (vs : List Tree) → nodes ≡ x ∷ behind → x ≡ node.Test spot h fit other → from ≡ drop fit behind
    → fits_head (view_head h) (value_at vs spot) ≡ true → chosen (root from) vs ≡ chosen (root nodes) vs
found-fit nodes behind from x spot h fit other vs en ex ef b =
    ap (λ ns. chosen (root ns) vs) ef ∙ ap (λ t. chosen t vs) (root-drop behind fit)
    ∙ sym (ap (λ (y : Bool). if y then chosen (tree_at (node_trees behind) fit) vs else chosen (tree_at (node_trees behind) other) vs) b)
    ∙ ap (λ y. chosen (root (y ∷ behind)) vs) (sym ex) ∙ ap (λ ns. chosen (root ns) vs) (sym en)

pub found-other : (nodes behind from : List Node) (x : Node) (spot : List ℕ) (h : declared.Head) (fit other : ℕ) (vs : List Tree) → nodes ≡ x ∷ behind → x ≡ node.Test spot h fit other → from ≡ drop other behind
    → fits_head (view_head h) (value_at vs spot) ≡ false → chosen (root from) vs ≡ chosen (root nodes) vs
found-other nodes behind from x spot h fit other vs en ex ef b =
    ap (λ ns. chosen (root ns) vs) ef ∙ ap (λ t. chosen t vs) (root-drop behind other)
    ∙ sym (ap (λ (y : Bool). if y then chosen (tree_at (node_trees behind) fit) vs else chosen (tree_at (node_trees behind) other) vs) b)
    ∙ ap (λ y. chosen (root (y ∷ behind)) vs) (sym ex) ∙ ap (λ ns. chosen (root ns) vs) (sym en)
