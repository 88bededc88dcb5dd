-- In which way each part of a call is judged, of these declarations:
--
--     data Maybe(a) where
--         None
--         Just(a)
--     data Either(a, b) where
--         Left(a)
--         Both(a, [b])
--     fun join :: a, [a] -> Bool where
--         _, _ -> True
--     fun turn :: [a], a -> Bool where
--         _, _ -> True
use Rattle.std.proofs.Common.{◌≡◌, refl, subst, pos, List, [], ◌∷◌, codes}
use Rattle.campl_tree.specs.Plain.SeqType as s
use Rattle.campl_tree.specs.Plain.SeqType.{SeqType}
use Rattle.campl_tree.specs.Plain.Pattern as p
use Rattle.campl_tree.specs.Plain.Expr as e
use Rattle.campl_tree.specs.Plain.Expr.{Expr, Exprs}
use Rattle.campl_tree.specs.Plain.Decl as d
use Rattle.campl_types.specs.Names.{Name}
use Rattle.campl_types.specs.World.{World, world_of, type_parameters}
use Rattle.campl_types.specs.Substitution.{filling, variables_of}
use Rattle.campl_types.specs.Sequential.{IsFoundToHave, MayBeChecked, PartsHaveTypes}
use Rattle.typing_examples.proofs.Sources.{place, ident, data_decl, constructor}

abbrev variable : Name → SeqType
variable = s.Variable (place 1 1)

abbrev a : SeqType
a = variable (codes "a")

abbrev b : SeqType
b = variable (codes "b")

abbrev function : Name → List SeqType → d.FunctionDecl
function name parameters =
    record {
      place = place 7 1;
      name = ident 7 5 name;
      parameters = parameters;
      result = s.Bool;
      rows = record {
        place = place 8 5;
        patterns = p.pattern_then (p.Wildcard (place 8 5)) (p.pattern_then (p.Wildcard (place 8 8)) p.no_patterns);
        value = e.True (place 8 13);
      } ∷ [];
    }

abbrev w : World
w =
    world_of
    (data_decl 1 (ident 1 6 (codes "Maybe")) (ident 1 12 (codes "a") ∷ []) (constructor (ident 2 5 (codes "None")) [] ∷ constructor (ident 3 5 (codes "Just")) (a ∷ []) ∷ [])
    ∷ data_decl 4 (ident 4 6 (codes "Either")) (ident 4 13 (codes "a") ∷ ident 4 16 (codes "b") ∷ []) (constructor (ident 5 5 (codes "Left")) (a ∷ []) ∷ constructor (ident 6 5 (codes "Both")) (a ∷ s.List b ∷ []) ∷ [])
    ∷ d.Function (function (codes "join") (a ∷ s.List a ∷ []))
    ∷ d.Function (function (codes "turn") (s.List a ∷ a ∷ []))
    ∷ [])

abbrev maybe : SeqType → SeqType
maybe t = s.Named (place 9 1) (codes "Maybe") (s.type_then t s.no_types)

abbrev either : SeqType → SeqType → SeqType
either t u = s.Named (place 9 1) (codes "Either") (s.type_then t (s.type_then u s.no_types))

abbrev one : Expr
one = e.Number (place 9 6) (pos 1)

abbrev empty : Expr
empty = e.List (place 9 9) e.no_exprs

abbrev only : Expr → Exprs
only x = e.expr_then x e.no_exprs

-- join(1, []): the first part tells the parameter, so the second is checked
told-by-a-part : IsFoundToHave w [] (e.Call (place 9 1) (codes "join") (e.expr_then one (only empty))) s.Bool
told-by-a-part = (_, refl, (s.Int ∷ [], refl, refl, (refl, ((s.Int, refl), tt)), refl))

-- turn([], 1): nothing tells it before the first part, so that is found, even where the call is checked
told-too-late : (t : SeqType) → MayBeChecked w [] (e.Call (place 9 1) (codes "turn") (e.expr_then empty (only one))) t → ⊥
told-too-late t (f, i, (ts, l, r, parts, told)) = first-found f ts (cc i) parts
  where
    first-found : (f : d.FunctionDecl) (ts : List SeqType) → f ≡ function (codes "turn") (s.List a ∷ a ∷ []) → PartsHaveTypes w [] (filling (type_parameters f) ts) (variables_of f.result) f.parameters (e.expr_then empty (only one)) → ⊥
    first-found f ts same parts = (subst (λ f. PartsHaveTypes w [] (filling (type_parameters f) ts) (variables_of f.result) f.parameters (e.expr_then empty (only one))) same parts).0

-- Just(1) is found
just-found : IsFoundToHave w [] (e.Constructor (place 9 1) (codes "Just") (only one)) (maybe s.Int)
just-found = (_, _, _, refl, (s.Int ∷ [], refl, refl, (refl, tt), refl))

-- Just([]) is checked alone: the result tells the parameter
just-checked : MayBeChecked w [] (e.Constructor (place 9 1) (codes "Just") (only empty)) (maybe (s.List s.Bool))
just-checked = (_, _, _, refl, (s.List s.Bool ∷ [], refl, refl, ((s.Bool, refl), tt), tt))

-- Both([], [1]) is checked, with an argument for each parameter
both-checked : MayBeChecked w [] (e.Constructor (place 9 1) (codes "Both") (e.expr_then empty (only (e.List (place 9 10) (only one))))) (either (s.List s.Char) s.Int)
both-checked = (
  _,
  _,
  _,
  refl,
  (s.List s.Char ∷ s.Int ∷ [], refl, refl, ((s.Char, refl), ((s.Int, refl, refl, tt), tt)), tt),
)

-- Left(1) isn't found, since no part tells b
left-not-found : (t : SeqType) → IsFoundToHave w [] (e.Constructor (place 9 1) (codes "Left") (only one)) t → ⊥
left-not-found t (c, n, k, i, (ts, l, r, parts, told)) = cc (i, told)

-- but it may be checked
left-checked : MayBeChecked w [] (e.Constructor (place 9 1) (codes "Left") (only one)) (either s.Int s.Bool)
left-checked = (_, _, _, refl, (s.Int ∷ s.Bool ∷ [], refl, refl, (refl, tt), tt))
