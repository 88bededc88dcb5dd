-- Expressions, patterns and rows that aren't typed.
use Rattle.std.proofs.Common.{◌≡◌, refl, subst, pos, List, [], ◌∷◌, None, codes}
use Rattle.campl_tree.specs.declared.expr.Comparison.TheVariants as compare
use Rattle.campl_tree.specs.Plain.SeqType as s
use Rattle.campl_tree.specs.Plain.SeqType.{SeqType}
use Rattle.campl_tree.specs.Plain.Pattern as p
use Rattle.campl_tree.specs.Plain.Expr as e
use Rattle.campl_tree.specs.Plain.Decl as d
use Rattle.campl_types.specs.SameType.{bare}
use Rattle.campl_types.specs.Prelude.{prelude}
use Rattle.campl_types.specs.Forms.{Number}
use Rattle.campl_types.specs.Missing.{missing}
use Rattle.campl_types.specs.Sequential.{IsFoundToHave, MayBeChecked, FunctionIsTyped, IsComparable}
use Rattle.typing_examples.proofs.Sources.{place, ident}

abbrev one : e.Expr
one = e.Number (place 1 1) (pos 1)

abbrev letter : e.Expr
letter = e.Character (place 1 4) 97

-- 1 is no Bool
number-as-truth : MayBeChecked prelude [] one s.Bool → ⊥
number-as-truth h = cc h

-- if 1 then 1 else 1
number-as-condition : MayBeChecked prelude [] (e.If (place 1 1) one one one) s.Int → ⊥
number-as-condition (condition, first, second) = cc condition

-- [1, 'a']
mixed : (t : SeqType) → IsFoundToHave prelude [] (e.List (place 1 1) (e.expr_then one (e.expr_then letter e.no_exprs))) t → ⊥
mixed t (u, i, first, (second, rest)) = cc (first, second)

-- if True then 1 else 'a'
branches-differ : (t : SeqType) → IsFoundToHave prelude [] (e.If (place 1 1) (e.True (place 1 1)) one letter) t → ⊥
branches-differ t (condition, first, second) = cc (first, second)

-- [] ++ [1] isn't found, though its right part could be
left-part-found : (t : SeqType) → IsFoundToHave prelude [] (e.Append (place 1 1) (e.List (place 1 1) e.no_exprs) (e.List (place 1 7) (e.expr_then one e.no_exprs))) t → ⊥
left-part-found t (u, i, left, right) = left

-- ([], 1) isn't found, though one part is
both-parts-found : (t : SeqType) → IsFoundToHave prelude [] (e.Pair (place 1 1) (e.List (place 1 2) e.no_exprs) one) t → ⊥
both-parts-found t (u, v, i, first, second) = first

-- (1, 'a') == (1, 'a')
abbrev pair : e.Expr
pair = e.Pair (place 1 1) one letter

no-pairs-compared : (u t v : SeqType) → IsComparable u → bare u ≡ s.Pair (bare t) (bare v) → ⊥
no-pairs-compared s.Int t v c i = cc i
no-pairs-compared s.Char t v c i = cc i
no-pairs-compared s.Bool t v c i = cc i
no-pairs-compared (s.List u) t v c i = cc i
no-pairs-compared (s.Pair u x) t v c i = c
no-pairs-compared (s.Named at x us) t v c i = c
no-pairs-compared (s.Variable at x) t v c i = c

pairs-compared : (t : SeqType) → IsFoundToHave prelude [] (e.Compare (place 1 1) pair compare.Equal pair) t → ⊥
pairs-compared t (u, comparable, i, (a, b, j, first, second), right) = no-pairs-compared u a b comparable j

-- nor are lists of numbers or values of a type variable compared
no-numbers-compared : IsComparable (s.List s.Int) → ⊥
no-numbers-compared i = i

no-variables-compared : IsComparable (s.Variable (place 1 1) (codes "a")) → ⊥
no-variables-compared i = i

-- Rows

-- a function of numbers to numbers
abbrev sum : (parameters : List SeqType) → d.FunctionRow → d.FunctionDecl
sum parameters row = record { place = place 1 1; name = ident 1 5 (codes "f"); parameters = parameters; result = s.Int; rows = row ∷ [] }

abbrev x : p.Pattern
x = p.Variable (place 2 5) (codes "x")

-- fun f :: [Int] -> Int where
--     x : x -> 1
name-twice : FunctionIsTyped prelude (sum (s.List s.Int ∷ []) (record { place = place 2 5; patterns = p.pattern_then (p.Cons (place 2 5) x x) p.no_patterns; value = one })) → ⊥
name-twice (((xs, fit, names, value), rest), all) = cc names

-- fun f :: Int, Int -> Int where
--     x -> 1
too-few-patterns : FunctionIsTyped prelude (sum (s.Int ∷ s.Int ∷ []) (record { place = place 2 5; patterns = p.pattern_then x p.no_patterns; value = one })) → ⊥
too-few-patterns (((xs, fit, names, value), rest), all) = cc fit

-- fun f :: -> Int where
--     x -> 1
too-many-patterns : FunctionIsTyped prelude (sum [] (record { place = place 2 5; patterns = p.pattern_then x p.no_patterns; value = one })) → ⊥
too-many-patterns (((xs, fit, names, value), rest), all) = cc fit

-- fun f :: Int -> Int where
--     [] -> 1
no-list : FunctionIsTyped prelude (sum (s.Int ∷ []) (record { place = place 2 5; patterns = p.pattern_then (p.List (place 2 5) p.no_patterns) p.no_patterns; value = one })) → ⊥
no-list (((xs, fit, names, value), rest), all) = cc fit

-- case 1 of
--     1 -> 1
-- says nothing of other numbers
is-Int : (u : SeqType) → bare u ≡ s.Int → u ≡ s.Int
is-Int s.Int i = refl
is-Int s.Char i = cc i
is-Int s.Bool i = cc i
is-Int (s.List t) i = cc i
is-Int (s.Pair t u) i = cc i
is-Int (s.Named at x us) i = cc i
is-Int (s.Variable at x) i = cc i

other-numbers : (t : SeqType) → IsFoundToHave prelude [] (e.Case (place 1 1) one (e.expr_row_then (p.Number (place 2 5) (pos 1)) one e.no_expr_rows)) t → ⊥
other-numbers t (u, i, rows, all) = cc (subst (λ u. missing prelude ((Number (pos 1) ∷ []) ∷ []) (u ∷ []) ≡ None) (is-Int u i) all)
