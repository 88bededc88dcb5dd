-- A value of a type is one of each type that is the same up to places.
use Rattle.std.proofs.Common.{◌≡◌, ◌∙◌, refl, sym, ap, subst, suc, List, [], ◌∷◌, Option, Some, None, unwrap_or, map, length}
use Rattle.campl_tree.specs.declared.place.Place.{Place}
use Rattle.campl_tree.specs.Plain.SeqType.{SeqType, SeqTypes, no_types, type_then, Variable}
use Rattle.campl_tree.specs.Plain.SeqType as s
use Rattle.campl_value.specs.Tree.{Tree, Trees, Int, Char, Truth, Nil, Cell, Pair, Built, none, more}
use Rattle.campl_types.specs.Names.{Name, found}
use Rattle.campl_types.specs.SameType.{nowhere, bare, all_bare, IsSame}
use Rattle.campl_types.specs.Substitution.{Filling, filling, filled, all_filled, list_of}
use Rattle.campl_types.specs.World.{World, names_of, data_named}
use Rattle.campl_types.specs.Values.{IsValue, AreValues}
use Rattle.campl_types.proofs.Bare.{part-bare}

-- Places in what is filled

any-place : (o : Option SeqType) (at : Place) (x : Name) → bare (unwrap_or o (Variable at x)) ≡ bare (unwrap_or o (Variable nowhere x))
any-place None at x = refl
any-place (Some t) at x = refl

mutual
  filled-bare : (f : Filling) (t : SeqType) → bare (filled f t) ≡ bare (filled f (bare t))
  filled-bare f s.Int = refl
  filled-bare f s.Char = refl
  filled-bare f s.Bool = refl
  filled-bare f (s.List t) = ap s.List (filled-bare f t)
  filled-bare f (s.Pair t u) = let p = filled-bare f t in let q = filled-bare f u in λ k. s.Pair (p k) (q k)
  filled-bare f (s.Named at x ts) = ap (s.Named nowhere x) (all-filled-bare f ts)
  filled-bare f (Variable at x) = any-place (found x f) at x

  all-filled-bare : (f : Filling) (ts : SeqTypes) → all_bare (all_filled f ts) ≡ all_bare (all_filled f (all_bare ts))
  all-filled-bare f no_types = refl
  all-filled-bare f (type_then t ts) = let p = filled-bare f t in let q = all-filled-bare f ts in λ k. type_then (p k) (q k)

-- types that are the same are the same when they are filled
pub filled-same : (f : Filling) (t u : SeqType) → IsSame t u → IsSame (filled f t) (filled f u)
filled-same f t u i = filled-bare f t ∙ ap (λ v. bare (filled f v)) i ∙ sym (filled-bare f u)

-- Places in the arguments

pub part-same : (xs : List Name) (ts us : SeqTypes) → all_bare ts ≡ all_bare us → (p : SeqType) → IsSame (filled (filling xs (list_of ts)) p) (filled (filling xs (list_of us)) p)
part-same xs ts us i p = part-bare xs ts p ∙ ap (λ vs. bare (filled (filling xs (list_of vs)) p)) i ∙ sym (part-bare xs us p)

bare-length : (ts : SeqTypes) → length (list_of (all_bare ts)) ≡ length (list_of ts)
bare-length no_types = refl
bare-length (type_then t ts) = ap suc (bare-length ts)

same-length : (ts us : SeqTypes) → all_bare ts ≡ all_bare us → length (list_of us) ≡ length (list_of ts)
same-length ts us i = sym (bare-length us) ∙ ap (λ vs. length (list_of vs)) (sym i) ∙ bare-length ts

mutual
  pub value-of-same : (w : World) (v : Tree) (t u : SeqType) → IsSame t u → IsValue w v t → IsValue w v u
  value-of-same w v (Variable at x) (Variable there y) i h = tt
  value-of-same w (Int n) s.Int s.Int i h = tt
  value-of-same w (Char n) s.Char s.Char i h = tt
  value-of-same w (Truth b) s.Bool s.Bool i h = tt
  value-of-same w Nil (s.List t) (s.List u) i h = tt
  value-of-same w (Cell a b) (s.List t) (s.List u) i (h, k) = (value-of-same w a t u (cc i) h, value-of-same w b (s.List t) (s.List u) i k)
  value-of-same w (Pair a b) (s.Pair t u) (s.Pair x y) i (h, k) = (value-of-same w a t x (cc i) h, value-of-same w b u y (cc i) k)
  value-of-same w (Built n vs) (s.Named at x ts) (s.Named there y us) i (d, k, a, b, l, h) =
      let p : x ≡ y = cc i in
      let q : all_bare ts ≡ all_bare us = cc i in
      (d, k, subst (λ z. data_named w z ≡ Some d) p a, b, same-length ts us q ∙ l, values-of-same w vs (names_of d.parameters) ts us q k.parts h)
  value-of-same w v s.Int s.Int i h = h
  value-of-same w v s.Char s.Char i h = h
  value-of-same w v s.Bool s.Bool i h = h
  value-of-same w v (s.List t) (s.List u) i h = absurd h
  value-of-same w v (s.Pair t u) (s.Pair x y) i h = absurd h
  value-of-same w v (s.Named at x ts) (s.Named there y us) i h = absurd h
  value-of-same w v t u i h = absurd (cc i)

  values-of-same : (w : World) (vs : Trees) (xs : List Name) (ts us : SeqTypes) → all_bare ts ≡ all_bare us → (ps : List SeqType)
      → AreValues w vs (map (filled (filling xs (list_of ts))) ps) → AreValues w vs (map (filled (filling xs (list_of us))) ps)
  values-of-same w none xs ts us i [] h = tt
  values-of-same w (more v vs) xs ts us i (p ∷ ps) (h, k) =
      (value-of-same w v (filled (filling xs (list_of ts)) p) (filled (filling xs (list_of us)) p) (part-same xs ts us i p) h, values-of-same w vs xs ts us i ps k)
  values-of-same w none xs ts us i (p ∷ ps) h = absurd h
  values-of-same w (more v vs) xs ts us i [] h = absurd h

-- a value of what a type is filled to, at a type that is the same
pub value-of-filled : (w : World) (v : Tree) (f : Filling) (t u : SeqType) → IsSame t u → IsValue w v (filled f u) → IsValue w v (filled f t)
value-of-filled w v f t u i h = value-of-same w v (filled f u) (filled f t) (sym (filled-same f t u i)) h
