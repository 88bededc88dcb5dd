-- Calls with type parameters that aren't typed, of the declarations of Parameters.
use Rattle.std.proofs.Common.{◌≡◌, refl, subst, pos, List, [], ◌∷◌, Some, codes, length}
use Rattle.campl_tree.specs.declared.place.Place.{Place}
use Rattle.campl_tree.specs.Plain.SeqType as s
use Rattle.campl_tree.specs.Plain.SeqType.{SeqType}
use Rattle.campl_tree.specs.Plain.Pattern as p
use Rattle.campl_tree.specs.Plain.Expr as e
use Rattle.campl_tree.specs.Plain.Decl as d
use Rattle.campl_types.specs.Names.{Name}
use Rattle.campl_types.specs.World.{World, function_named, type_parameters}
use Rattle.campl_types.specs.Substitution.{filling, filled, variables_of}
use Rattle.campl_types.specs.SameType.{IsSame}
use Rattle.campl_types.specs.Fits.{Vars}
use Rattle.campl_types.specs.Sequential.{MayBeChecked, FunctionIsTyped, PartsHaveTypes}
use Rattle.typing_examples.proofs.Sources.{place, ident}
use Rattle.typing_examples.proofs.Parameters.{maybe, first, size, w, first-of-one}

-- a call of this function has this type, where these parameters are known by its result
abbrev IsCallOf : World → Vars → d.FunctionDecl → e.Exprs → SeqType → Type 0
IsCallOf w vs f args t =
    (ts : List SeqType) × (length ts ≡ length (type_parameters f)) × IsSame t (filled (filling (type_parameters f) ts) f.result)
    × PartsHaveTypes w vs (filling (type_parameters f) ts) (variables_of f.result) f.parameters args

-- a checked call is one of the function that is declared
the-function : (w : World) (vs : Vars) (at : Place) (x : Name) (args : e.Exprs) (t : SeqType) {f : d.FunctionDecl}
    → function_named w x ≡ Some f → MayBeChecked w vs (e.Call at x args) t → IsCallOf w vs f args t
the-function w vs at x args t {f} i (g, j, (ts, l, r, parts, told)) = let same : g ≡ f = cc (i, j) in subst (λ f. IsCallOf w vs f args t) same (ts, l, r, parts)

-- first([1]) is no Maybe([Char]): the result tells the parameter, so the list is checked against [[Char]]
abbrev one-number : e.Exprs
one-number = e.expr_then (e.List (place 9 7) (e.expr_then (e.Number (place 9 8) (pos 1)) e.no_exprs)) e.no_exprs

no-list-of-texts : IsCallOf w [] first one-number (maybe (s.List s.Char)) → ⊥
no-list-of-texts ([], l, r, parts) = cc l
no-list-of-texts (t ∷ ts, l, r, ((u, i, j, k), rest)) = cc (r, i, j)

not-checked : MayBeChecked w [] first-of-one (maybe (s.List s.Char)) → ⊥
not-checked h = no-list-of-texts (the-function w [] (place 9 1) (codes "first") one-number (maybe (s.List s.Char)) refl h)

-- fun bad :: -> Int where
--     -> size([])
-- no part of the call tells its parameter, so the list isn't found
abbrev empty-list : e.Exprs
empty-list = e.expr_then (e.List (place 10 13) e.no_exprs) e.no_exprs

abbrev bad : d.FunctionDecl
bad =
    record {
      place = place 9 1;
      name = ident 9 5 (codes "bad");
      parameters = [];
      result = s.Int;
      rows = record {
        place = place 10 5;
        patterns = p.no_patterns;
        value = e.Call (place 10 8) (codes "size") empty-list;
      } ∷ [];
    }

nothing-tells : (vs : Vars) → IsCallOf w vs size empty-list s.Int → ⊥
nothing-tells vs (ts, l, r, (found, rest)) = found

needs-type : FunctionIsTyped w bad → ⊥
needs-type (((xs, i, j, k), rest), l) = nothing-tells xs (the-function w xs (place 10 8) (codes "size") empty-list s.Int refl k)
