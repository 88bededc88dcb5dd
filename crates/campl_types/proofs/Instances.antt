-- A value of a type whose parameters are replaced is a value of the type, so what is said of the values of
-- a function's types holds at each call.
use Rattle.std.proofs.Common.{◌≡◌, ◌∙◌, refl, sym, ap, subst, suc, length, Bool, true, false, List, [], ◌∷◌, Some, unwrap_or, if◌then◌else◌, map}
use Rattle.campl_tree.specs.declared.place.Place.{Place}
use Rattle.campl_tree.specs.Plain.SeqType.{SeqType, SeqTypes, no_types, type_then}
use Rattle.campl_tree.specs.Plain.SeqType as s
use Rattle.campl_value.specs.Tree.{Tree, Trees, Int, Char, Truth, Nil, Cell, Pair, Built, none, more}
use Rattle.campl_types.specs.Names.{Name, same_name, found}
use Rattle.campl_types.specs.Substitution.{Filling, filling, filled, all_filled, list_of}
use Rattle.campl_types.specs.Values.{IsValue, AreValues}
use Rattle.campl_types.specs.World.{World, names_of, data_named}

-- the first type is the second with something in place of each variable
abbrev mutual
  Refines : SeqType → SeqType → Type 0
  Refines t (s.Variable at x) = Unit {0}
  Refines s.Int s.Int = Unit {0}
  Refines s.Char s.Char = Unit {0}
  Refines s.Bool s.Bool = Unit {0}
  Refines (s.List t) (s.List u) = Refines t u
  Refines (s.Pair t u) (s.Pair v w) = Refines t v × Refines u w
  Refines (s.Named at x ts) (s.Named there y us) = (x ≡ y) × AllRefine ts us
  Refines _ _ = ⊥

  AllRefine : SeqTypes → SeqTypes → Type 0
  AllRefine no_types no_types = Unit {0}
  AllRefine (type_then t ts) (type_then u us) = Refines t u × AllRefine ts us
  AllRefine _ _ = ⊥

mutual
  filled-refines : (f : Filling) (t : SeqType) → Refines (filled f t) t
  filled-refines f s.Int = tt
  filled-refines f s.Char = tt
  filled-refines f s.Bool = tt
  filled-refines f (s.List t) = filled-refines f t
  filled-refines f (s.Pair t u) = (filled-refines f t, filled-refines f u)
  filled-refines f (s.Named at x ts) = (refl, all-filled-refine f ts)
  filled-refines f (s.Variable at x) = tt

  all-filled-refine : (f : Filling) (ts : SeqTypes) → AllRefine (all_filled f ts) ts
  all-filled-refine f no_types = tt
  all-filled-refine f (type_then t ts) = (filled-refines f t, all-filled-refine f ts)

-- what a parameter stands for
argument-refines : (xs : List Name) (ts us : SeqTypes) → AllRefine ts us → (at : Place) (y : Name) → Refines (unwrap_or (found y (filling xs (list_of ts))) (s.Variable at y)) (unwrap_or (found y (filling xs (list_of us))) (s.Variable at y))
argument-refines [] ts us i at y = tt
argument-refines (x ∷ xs) no_types no_types i at y = tt
argument-refines (x ∷ xs) (type_then t ts) (type_then u us) (i, j) at y = go (same_name y x) (argument-refines xs ts us j at y)
  where
    go : (b : Bool) → Refines (unwrap_or (found y (filling xs (list_of ts))) (s.Variable at y)) (unwrap_or (found y (filling xs (list_of us))) (s.Variable at y)) → Refines (unwrap_or (if b then Some t else found y (filling xs (list_of ts))) (s.Variable at y)) (unwrap_or (if b then Some u else found y (filling xs (list_of us))) (s.Variable at y))
    go true later = i
    go false later = later
argument-refines (x ∷ xs) no_types (type_then u us) i at y = absurd i
argument-refines (x ∷ xs) (type_then t ts) no_types i at y = absurd i

mutual
  part-refines : (xs : List Name) (ts us : SeqTypes) → AllRefine ts us → (p : SeqType) → Refines (filled (filling xs (list_of ts)) p) (filled (filling xs (list_of us)) p)
  part-refines xs ts us i s.Int = tt
  part-refines xs ts us i s.Char = tt
  part-refines xs ts us i s.Bool = tt
  part-refines xs ts us i (s.List t) = part-refines xs ts us i t
  part-refines xs ts us i (s.Pair t u) = (part-refines xs ts us i t, part-refines xs ts us i u)
  part-refines xs ts us i (s.Named at x ps) = (refl, parts-refine xs ts us i ps)
  part-refines xs ts us i (s.Variable at y) = argument-refines xs ts us i at y

  parts-refine : (xs : List Name) (ts us : SeqTypes) → AllRefine ts us → (ps : SeqTypes) → AllRefine (all_filled (filling xs (list_of ts)) ps) (all_filled (filling xs (list_of us)) ps)
  parts-refine xs ts us i no_types = tt
  parts-refine xs ts us i (type_then p ps) = (part-refines xs ts us i p, parts-refine xs ts us i ps)

refined-length : (ts us : SeqTypes) → AllRefine ts us → length (list_of ts) ≡ length (list_of us)
refined-length no_types no_types i = refl
refined-length (type_then t ts) (type_then u us) (i, j) = ap suc (refined-length ts us j)
refined-length no_types (type_then u us) i = absurd i
refined-length (type_then t ts) no_types i = absurd i

mutual
  refined-value : (w : World) (v : Tree) (t u : SeqType) → Refines t u → IsValue w v t → IsValue w v u
  refined-value w v t (s.Variable at x) i j = tt
  refined-value w (Int n) s.Int s.Int i j = tt
  refined-value w (Char n) s.Char s.Char i j = tt
  refined-value w (Truth b) s.Bool s.Bool i j = tt
  refined-value w Nil (s.List t) (s.List u) i j = tt
  refined-value w (Cell a b) (s.List t) (s.List u) i (j, k) = (refined-value w a t u i j, refined-value w b (s.List t) (s.List u) i k)
  refined-value w (Pair a b) (s.Pair t u) (s.Pair x y) (i, l) (j, k) = (refined-value w a t x i j, refined-value w b u y l k)
  refined-value w (Built n vs) (s.Named at x ts) (s.Named there y us) (i, l) (d, k, a, b, m, c) =
      (d, k, subst (λ z. data_named w z ≡ Some d) i a, b, sym (refined-length ts us l) ∙ m, refined-values w vs (names_of d.parameters) ts us l k.parts c)
  refined-value w v s.Int s.Int i j = j
  refined-value w v s.Char s.Char i j = j
  refined-value w v s.Bool s.Bool i j = j
  refined-value w v (s.List t) (s.List u) i j = absurd j
  refined-value w v (s.Pair t u) (s.Pair x y) i j = absurd j
  refined-value w v (s.Named at x ts) (s.Named there y us) i j = absurd j
  refined-value w v t u i j = absurd i

  refined-values : (w : World) (vs : Trees) (xs : List Name) (ts us : SeqTypes) → AllRefine ts us → (ps : List SeqType) → AreValues w vs (map (filled (filling xs (list_of ts))) ps) → AreValues w vs (map (filled (filling xs (list_of us))) ps)
  refined-values w none xs ts us i [] j = tt
  refined-values w (more v vs) xs ts us i (p ∷ ps) (j, k) =
      (refined-value w v (filled (filling xs (list_of ts)) p) (filled (filling xs (list_of us)) p) (part-refines xs ts us i p) j, refined-values w vs xs ts us i ps k)
  refined-values w none xs ts us i (p ∷ ps) j = absurd j
  refined-values w (more v vs) xs ts us i [] j = absurd j

pub value-of-instance : (w : World) (v : Tree) (f : Filling) (t : SeqType) → IsValue w v (filled f t) → IsValue w v t
value-of-instance w v f t i = refined-value w v (filled f t) t (filled-refines f t) i
