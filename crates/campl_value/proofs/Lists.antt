-- Lists and texts by their items.
use Rattle.std.proofs.Common.{◌≡◌, refl, ap, ◌∙◌, sym, ℕ, ◌≤◌, List, [], ◌∷◌, ◌++◌, Option, Some, arith}
use Rattle.std.specs.Cmp.Lexicographic.{slice_cmp}
use Rattle.std.specs.declared.cmp.Ordering.{Ordering}
use Rattle.std.specs.declared.cmp.Ordering.TheVariants.{Less, Equal, Greater}
use Rattle.std.specs.Ordering.{nat_cmp, ordering_then, partial_ordering_then}
use Rattle.campl_value.specs.Tree.{Tree, Cell, depth_of}
use Rattle.campl_value.specs.List.{in_front}
use Rattle.campl_value.specs.Text.{text_of}
use Rattle.campl_value.specs.Compare.{compared, texts_compared}

-- the last item stands right in front of what is behind
pub in_front-last : (items : List Tree) (item behind : Tree)
    → in_front (items ++ item ∷ []) behind ≡ in_front items (Cell item behind)
in_front-last [] item behind = refl
in_front-last (first ∷ items) item behind = ap (Cell first) (in_front-last items item behind)

-- items in front of a value make it no less deep
pub deeper_in_front : (items : List Tree) (behind : Tree) → depth_of behind ≤ depth_of (in_front items behind)
deeper_in_front [] behind = omega arith
deeper_in_front (item ∷ items) behind = omega (arith, deeper_in_front items behind)

-- taking the last item from the items in front, and putting it in front of the rest
pub last_to_rest : (all items : List Tree) (item behind whole : Tree)
    → all ≡ items ++ item ∷ [] → in_front all behind ≡ whole → in_front items (Cell item behind) ≡ whole
last_to_rest all items item behind whole e h =
    sym (in_front-last items item behind) ∙ ap (λ (xs : List Tree). in_front xs behind) (sym e) ∙ h

-- two texts go by the order of their lists of characters
pub texts_compared-text : (xs ys : List ℕ)
    → texts_compared (text_of xs) (text_of ys) ≡ Some (slice_cmp nat_cmp xs ys)
texts_compared-text [] [] = refl
texts_compared-text [] (y ∷ ys) = refl
texts_compared-text (x ∷ xs) [] = refl
texts_compared-text (x ∷ xs) (y ∷ ys) =
    rw (texts_compared-text xs ys) (ordering_cases (nat_cmp x y) (slice_cmp nat_cmp xs ys))
  where
    ordering_cases : (o p : Ordering) → partial_ordering_then (Some o) (Some p) ≡ Some (ordering_then o p)
    ordering_cases Less p = refl
    ordering_cases Equal p = refl
    ordering_cases Greater p = refl

-- the same where the types aren't known
pub compared-text : (xs ys : List ℕ) → compared (text_of xs) (text_of ys) ≡ Some (slice_cmp nat_cmp xs ys)
compared-text [] [] = refl
compared-text [] (y ∷ ys) = refl
compared-text (x ∷ xs) [] = refl
compared-text (x ∷ xs) (y ∷ ys) = texts_compared-text (x ∷ xs) (y ∷ ys)

-- an answer of the order of two values, where they are texts
pub order_of_texts : (order : Option Ordering) (left right : Tree) → order ≡ compared left right
    → (xs ys : List ℕ) → left ≡ text_of xs → right ≡ text_of ys → order ≡ Some (slice_cmp nat_cmp xs ys)
order_of_texts order left right e xs ys a b =
    e ∙ ap (λ (t : Tree). compared t right) a ∙ ap (compared (text_of xs)) b ∙ compared-text xs ys
