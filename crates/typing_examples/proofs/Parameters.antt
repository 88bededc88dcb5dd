-- Calls with type parameters, of these declarations:
--
--     data Maybe(a) where
--         None
--         Just(a)
--     fun first :: [a] -> Maybe(a) where
--         [] -> None
--         x : _ -> Just(x)
--     fun size :: [a] -> Int where
--         _ -> 0
use Rattle.std.proofs.Common.{◌≡◌, refl, sym, subst, pos, [], ◌∷◌, Some, codes}
use Rattle.campl_tree.specs.Plain.SeqType as s
use Rattle.campl_tree.specs.Plain.SeqType.{SeqType}
use Rattle.campl_tree.specs.Plain.Pattern as p
use Rattle.campl_tree.specs.Plain.Expr as e
use Rattle.campl_tree.specs.Plain.Decl as d
use Rattle.campl_types.specs.World.{World, world_of, type_parameters}
use Rattle.campl_types.specs.Sequential.{IsFoundToHave, MayBeChecked, FunctionIsTyped, PartsHaveTypes}
use Rattle.campl_types.specs.Substitution.{filling}
use Rattle.typing_examples.proofs.Sources.{place, ident, data_decl, constructor}

abbrev pub a : SeqType
a = s.Variable (place 1 1) (codes "a")

abbrev pub maybe : SeqType → SeqType
maybe t = s.Named (place 1 1) (codes "Maybe") (s.type_then t s.no_types)

abbrev row : p.Pattern → e.Expr → d.FunctionRow
row pattern value = record { place = place 5 5; patterns = p.pattern_then pattern p.no_patterns; value = value }

abbrev pub first : d.FunctionDecl
first =
    record {
      place = place 4 1;
      name = ident 4 5 (codes "first");
      parameters = s.List a ∷ [];
      result = maybe a;
      rows = row (p.List (place 5 5) p.no_patterns) (e.Constructor (place 5 11) (codes "None") e.no_exprs)
          ∷ row (p.Cons (place 6 5) (p.Variable (place 6 5) (codes "x")) (p.Wildcard (place 6 9))) (e.Constructor (place 6 14) (codes "Just") (e.expr_then (e.Variable (place 6 19) (codes "x")) e.no_exprs))
          ∷ [];
    }

abbrev pub size : d.FunctionDecl
size =
    record {
      place = place 7 1;
      name = ident 7 5 (codes "size");
      parameters = s.List a ∷ [];
      result = s.Int;
      rows = row (p.Wildcard (place 8 5)) (e.Number (place 8 10) (pos 0)) ∷ [];
    }

abbrev pub w : World
w =
    world_of
    (data_decl 1 (ident 1 6 (codes "Maybe")) (ident 1 12 (codes "a") ∷ []) (constructor (ident 2 5 (codes "None")) [] ∷ constructor (ident 3 5 (codes "Just")) (a ∷ []) ∷ [])
    ∷ d.Function first
    ∷ d.Function size
    ∷ [])

one-parameter : type_parameters first ≡ codes "a" ∷ []
one-parameter = refl

-- in its own rows the parameter equals itself alone
first-is-typed : FunctionIsTyped w first
first-is-typed = (
  (
    (_, refl, refl, (_, _, _, refl, (a ∷ [], refl, refl, tt, tt))),
    ((_, refl, refl, (_, _, _, refl, (a ∷ [], refl, refl, ((_, refl, refl), tt), tt))), tt),
  ),
  refl,
)

-- first([1]) is found to be a Maybe(Int): the list is found
abbrev pub first-of-one : e.Expr
first-of-one = e.Call (place 9 1) (codes "first") (e.expr_then (e.List (place 9 7) (e.expr_then (e.Number (place 9 8) (pos 1)) e.no_exprs)) e.no_exprs)

first-found : IsFoundToHave w [] first-of-one (maybe s.Int)
first-found = (first, refl, (s.Int ∷ [], refl, refl, ((s.Int, refl, refl, tt), tt), refl))

-- first([]) may be checked, since the result tells the parameter
first-checked : MayBeChecked w [] (e.Call (place 9 1) (codes "first") (e.expr_then (e.List (place 9 7) e.no_exprs) e.no_exprs)) (maybe s.Int)
first-checked = (first, refl, (s.Int ∷ [], refl, refl, ((s.Int, refl), tt), tt))

-- size([]) isn't found, since no part tells the parameter
not-found : (t : SeqType) → IsFoundToHave w [] (e.Call (place 9 1) (codes "size") (e.expr_then (e.List (place 9 6) e.no_exprs) e.no_exprs)) t → ⊥
not-found t (f, i, (ts, l, r, parts, all)) = go f i parts
  where
    go : (g : d.FunctionDecl) → Some size ≡ Some g → PartsHaveTypes w [] (filling (type_parameters g) ts) [] g.parameters (e.expr_then (e.List (place 9 6) e.no_exprs) e.no_exprs) → ⊥
    go g j p = let q : size ≡ g = cc j in let h : PartsHaveTypes w [] (filling (type_parameters size) ts) [] size.parameters (e.expr_then (e.List (place 9 6) e.no_exprs) e.no_exprs) = subst (λ (k : d.FunctionDecl). PartsHaveTypes w [] (filling (type_parameters k) ts) [] k.parameters (e.expr_then (e.List (place 9 6) e.no_exprs) e.no_exprs)) (sym q) p in h.0
