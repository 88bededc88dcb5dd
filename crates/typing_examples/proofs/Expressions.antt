-- An expression of each form with its type.
use Rattle.std.proofs.Common.{refl, pos, [], ◌∷◌, codes}
use Rattle.campl_tree.specs.declared.expr.Arithmetic.TheVariants as calculate
use Rattle.campl_tree.specs.declared.expr.Comparison.TheVariants as compare
use Rattle.campl_tree.specs.Plain.SeqType as s
use Rattle.campl_tree.specs.Plain.SeqType.{SeqType}
use Rattle.campl_tree.specs.Plain.Pattern as p
use Rattle.campl_tree.specs.Plain.Expr as e
use Rattle.campl_tree.specs.Plain.Expr.{Expr, Exprs}
use Rattle.campl_tree.specs.Plain.Decl as d
use Rattle.campl_types.specs.Names.{Name}
use Rattle.campl_types.specs.Prelude.{prelude}
use Rattle.campl_types.specs.Fits.{Vars}
use Rattle.campl_types.specs.Sequential.{IsFoundToHave, MayBeChecked, FunctionIsTyped}
use Rattle.typing_examples.proofs.Sources.{place, ident}

-- n is a number and c a character
abbrev vs : Vars
vs = (codes "n", s.Int) ∷ (codes "c", s.Char) ∷ []

abbrev variable : Name → Expr
variable = e.Variable (place 1 1)

abbrev n : Expr
n = variable (codes "n")

abbrev c : Expr
c = variable (codes "c")

abbrev yes : Expr
yes = e.True (place 1 1)

abbrev list : Exprs → Expr
list = e.List (place 1 1)

abbrev only : Expr → Exprs
only a = e.expr_then a e.no_exprs

-- 'a'
character : IsFoundToHave prelude [] (e.Character (place 1 1) 97) s.Char
character = refl

-- False
falsehood : IsFoundToHave prelude [] (e.False (place 1 1)) s.Bool
falsehood = refl

-- the innermost of two variables of one name
shadowed : IsFoundToHave prelude ((codes "n", s.Bool) ∷ vs) n s.Bool
shadowed = (s.Bool, refl, refl)

-- [c] ++ []
append : IsFoundToHave prelude vs (e.Append (place 1 1) (list (only c)) (list e.no_exprs)) (s.List s.Char)
append = (s.Char, refl, (s.Char, refl, (_, refl, refl), tt), (s.Char, refl))

-- [] ++ [c] is checked alone
append-checked : MayBeChecked prelude vs (e.Append (place 1 1) (list e.no_exprs) (list (only c))) (s.List s.Char)
append-checked = (s.Char, refl, (s.Char, refl), (s.Char, refl, (_, refl, refl), tt))

-- (n, c)
pair-found : IsFoundToHave prelude vs (e.Pair (place 1 1) n c) (s.Pair s.Int s.Char)
pair-found = (s.Int, s.Char, refl, (_, refl, refl), (_, refl, refl))

-- (n, []) is checked alone
pair-checked : MayBeChecked prelude vs (e.Pair (place 1 1) n (list e.no_exprs)) (s.Pair s.Int (s.List s.Bool))
pair-checked = (s.Int, s.List s.Bool, refl, (_, refl, refl), (s.Bool, refl))

-- if True then [n] else []
choice : IsFoundToHave prelude vs (e.If (place 1 1) yes (list (only n)) (list e.no_exprs)) (s.List s.Int)
choice = (refl, (s.Int, refl, (_, refl, refl), tt), (s.Int, refl))

-- case (n, True) of
--     (m, True) -> [m]
--     (_, False) -> []
abbrev bool-pair : p.Pattern → p.Pattern → p.Pattern
bool-pair = p.Pair (place 2 5)

abbrev rows : e.ExprRows
rows =
    e.expr_row_then (bool-pair (p.Variable (place 2 6) (codes "m")) (p.True (place 2 9))) (list (only (variable (codes "m"))))
    (e.expr_row_then (bool-pair (p.Wildcard (place 3 6)) (p.False (place 3 9))) (list e.no_exprs) e.no_expr_rows)

by-cases : IsFoundToHave prelude vs (e.Case (place 1 1) (e.Pair (place 1 6) n yes) rows) (s.List s.Int)
by-cases = (
  s.Pair s.Int s.Bool,
  (s.Int, s.Bool, refl, (_, refl, refl), refl),
  (_, refl, refl, (s.Int, refl, (_, refl, refl), tt), (_, refl, refl, (s.Int, refl), tt)),
  refl,
)

-- n == 1, c < 'a', True /= False, "a" >= []
compares-numbers : IsFoundToHave prelude vs (e.Compare (place 1 1) n compare.Equal (e.Number (place 1 6) (pos 1))) s.Bool
compares-numbers = (s.Int, tt, refl, (_, refl, refl), refl)

compares-characters : IsFoundToHave prelude vs (e.Compare (place 1 1) c compare.Less (e.Character (place 1 5) 97)) s.Bool
compares-characters = (s.Char, tt, refl, (_, refl, refl), refl)

compares-truths : IsFoundToHave prelude vs (e.Compare (place 1 1) yes compare.Different (e.False (place 1 9))) s.Bool
compares-truths = (s.Bool, tt, refl, refl, refl)

compares-texts : IsFoundToHave prelude vs (e.Compare (place 1 1) (e.Text (place 1 1) (codes "a")) compare.AtLeast (list e.no_exprs)) s.Bool
compares-texts = (s.List s.Char, tt, refl, refl, (s.Char, refl))

-- True || True && True
either : IsFoundToHave prelude vs (e.Or (place 1 1) yes (e.And (place 1 9) yes yes)) s.Bool
either = (refl, refl, (refl, refl, refl))

-- - n mod 2
remainder : IsFoundToHave prelude vs (e.Calculate (place 1 1) (e.Negate (place 1 1) n) calculate.Remainder (e.Number (place 1 8) (pos 2))) s.Int
remainder = (refl, (refl, (_, refl, refl)), refl)

-- char(code(c) + 1)
next-character : IsFoundToHave prelude vs (e.CharOf (place 1 1) (e.Calculate (place 1 6) (e.CodeOf (place 1 6) c) calculate.Add (e.Number (place 1 16) (pos 1)))) s.Char
next-character = (refl, (refl, (refl, (_, refl, refl)), refl))

-- fun is :: [Char], Int -> Bool where
--     "no", _ -> False
--     c : _, -1 -> c == 'y'
--     _, n -> n < 3
abbrev row : p.Pattern → p.Pattern → Expr → d.FunctionRow
row first second value = record { place = place 2 5; patterns = p.pattern_then first (p.pattern_then second p.no_patterns); value = value }

abbrev is : d.FunctionDecl
is =
    record {
      place = place 1 1;
      name = ident 1 5 (codes "is");
      parameters = s.List s.Char ∷ s.Int ∷ [];
      result = s.Bool;
      rows = row (p.Text (place 2 5) (codes "no")) (p.Wildcard (place 2 11)) (e.False (place 2 16))
          ∷ row (p.Cons (place 3 5) (p.Variable (place 3 5) (codes "c")) (p.Wildcard (place 3 9))) (p.Negative (place 3 12) (pos 1)) (e.Compare (place 3 18) c compare.Equal (e.Character (place 3 23) 121))
          ∷ row (p.Wildcard (place 4 5)) (p.Variable (place 4 8) (codes "n")) (e.Compare (place 4 13) n compare.Less (e.Number (place 4 17) (pos 3)))
          ∷ [];
    }

three-rows : FunctionIsTyped prelude is
three-rows = (
  (
    (_, refl, refl, refl),
    ((_, refl, refl, (s.Char, tt, refl, (_, refl, refl), refl)), ((_, refl, refl, (s.Int, tt, refl, (_, refl, refl), refl)), tt)),
  ),
  refl,
)
