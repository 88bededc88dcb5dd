-- Rows that nodes name.
use Rattle.std.proofs.Common.{◌≡◌, refl, ℕ, zero, suc, ◌+◌, ◌<◌, ◌≤◌, Bool, List, [], ◌∷◌, map, drop, length, get_or, ap, sym, ◌∙◌, arith}
use Rattle.std.proofs.lemmas.List.{length-set}
use Rattle.std.proofs.Math.Seq.{drop-cons}
use Rattle.std.specs.Prelude.{slice_set, ◌&&◌}
use Rattle.campl_code.specs.Decisions.{Choice}
use Rattle.campl_code.specs.Operands.{names_rows}
use Rattle.campl_instructions.specs.declared.decision.Node.{Node}
use Rattle.campl_instructions.specs.declared.decision.Node.TheVariants.{Row, Test, Fail}
use Rattle.campl_instructions.specs.View.{node_tree, node_trees, tree_at}
use Rattle.campl_rules.specs.Rows.{names_at, named_at}
use Rattle.campl_rules.proofs.Items.{drop-set}

pub named-tree : (bound : List ℕ) (trees : List Choice) (n : ℕ) → named_at (map (names_rows bound) trees) n ≡ names_rows bound (tree_at trees n)
named-tree bound [] n = refl
named-tree bound (t ∷ trees) zero = refl
named-tree bound (t ∷ trees) (suc n) = named-tree bound trees n

names-node : (bound : List ℕ) (trees : List Choice) (x : Node) → names_at bound (map (names_rows bound) trees) x ≡ names_rows bound (node_tree trees x)
names-node bound trees (Row r spots) = refl
names-node bound trees (Test spot head fit other) =
    ap (λ b. b && named_at (map (names_rows bound) trees) other) (named-tree bound trees fit) ∙ ap (λ b. names_rows bound (tree_at trees fit) && b) (named-tree bound trees other)
names-node bound trees Fail = refl

-- a node more, from the last one on
pub names-more : (bound : List ℕ) (nodes : List Node) (named behind : List Bool) (k at : ℕ) (x : Node) (b : Bool) → k + 1 ≡ at
    → (at ≤ length nodes) × (length named ≡ length nodes) × (drop at named ≡ map (names_rows bound) (node_trees (drop at nodes)))
    → x ≡ get_or nodes k x → behind ≡ drop (k + 1) named → b ≡ names_at bound behind x
    → (k ≤ length nodes) × (length (slice_set named k b) ≡ length nodes) × (drop k (slice_set named k b) ≡ map (names_rows bound) (node_trees (drop k nodes)))
names-more bound nodes named behind k at x b e i is there f =
    let within : k < length nodes = omega (arith, e, i.0) in
    let inside : k < length named = omega (arith, within, i.1) in
    let next : suc k ≡ at = omega (arith, e) in
    let all : drop k nodes ≡ x ∷ drop at nodes = drop-cons nodes k x within ∙ ap (λ y. y ∷ drop (suc k) nodes) (sym is) ∙ ap (λ n. x ∷ drop n nodes) next in
    let rest : drop (suc k) named ≡ map (names_rows bound) (node_trees (drop at nodes)) = ap (λ n. drop n named) next ∙ i.2 in
    let seen : behind ≡ map (names_rows bound) (node_trees (drop at nodes)) = there ∙ ap (λ n. drop n named) e ∙ i.2 in
    let first : b ≡ names_rows bound (node_tree (node_trees (drop at nodes)) x) = f ∙ ap (λ l. names_at bound l x) seen ∙ names-node bound (node_trees (drop at nodes)) x in
    let low : k ≤ length nodes = omega (arith, within) in (
      low,
      length-set named k b ∙ i.1,
      drop-set named k b inside ∙ ap (λ y. y ∷ drop (suc k) named) first ∙ ap (λ l. names_rows bound (node_tree (node_trees (drop at nodes)) x) ∷ l) rest
          ∙ ap (λ l. map (names_rows bound) (node_trees l)) (sym all),
    )
