-- Fillings compose.
use Rattle.std.proofs.Common.{◌≡◌, refl, sym, ap, suc, Bool, true, false, List, [], ◌∷◌, Some, if◌then◌else◌, unwrap_or, map, length, true≢false}
use Rattle.campl_tree.specs.declared.place.Place.{Place}
use Rattle.campl_tree.specs.Plain.SeqType.{SeqType, SeqTypes, no_types, type_then, Variable}
use Rattle.campl_tree.specs.Plain.SeqType as s
use Rattle.campl_types.specs.Names.{Name, same_name, is_among, found, Within}
use Rattle.campl_types.proofs.Names.{same-itself}
use Rattle.campl_types.specs.Substitution.{Filling, filling, filled, all_filled, variables_of, variables_of_all, list_of, types_of}
use Rattle.campl_types.specs.World.{variables_of_list}
use Rattle.campl_types.proofs.Truth.{or-first}
use Rattle.campl_types.proofs.Among.{within-left, within-right}

-- with nothing filled a type stays as it is
mutual
  pub filled-nothing : (t : SeqType) → filled [] t ≡ t
  filled-nothing s.Int = refl
  filled-nothing s.Char = refl
  filled-nothing s.Bool = refl
  filled-nothing (s.List t) = ap s.List (filled-nothing t)
  filled-nothing (s.Pair t u) = let p = filled-nothing t in let q = filled-nothing u in λ k. s.Pair (p k) (q k)
  filled-nothing (s.Named at x ts) = ap (s.Named at x) (all-filled-nothing ts)
  filled-nothing (Variable at x) = refl

  all-filled-nothing : (ts : SeqTypes) → all_filled [] ts ≡ ts
  all-filled-nothing no_types = refl
  all-filled-nothing (type_then t ts) = let p = filled-nothing t in let q = all-filled-nothing ts in λ k. type_then (p k) (q k)

pub filled-list : (f : Filling) (ts : SeqTypes) → list_of (all_filled f ts) ≡ map (filled f) (list_of ts)
filled-list f no_types = refl
filled-list f (type_then t ts) = ap (λ us. filled f t ∷ us) (filled-list f ts)

pub length-filled : (f : Filling) (ts : List SeqType) → length (map (filled f) ts) ≡ length ts
length-filled f [] = refl
length-filled f (t ∷ ts) = ap suc (length-filled f ts)

pub listed : (ts : List SeqType) → list_of (types_of ts) ≡ ts
listed [] = refl
listed (t ∷ ts) = ap (λ us. t ∷ us) (listed ts)

-- what a parameter stands for
stands : (f : Filling) (ps : List Name) (ts : List SeqType) (at : Place) (x : Name) → length ts ≡ length ps → is_among x ps ≡ true
    → filled f (unwrap_or (found x (filling ps ts)) (Variable at x)) ≡ unwrap_or (found x (filling ps (map (filled f) ts))) (Variable at x)
stands f [] ts at x i j = absurd (true≢false (sym j))
stands f (p ∷ ps) [] at x i j = absurd (cc i)
stands f (p ∷ ps) (t ∷ ts) at x i j = go (same_name x p) refl (stands f ps ts at x (cc i))
  where
    go : (b : Bool) → same_name x p ≡ b
        → (is_among x ps ≡ true → filled f (unwrap_or (found x (filling ps ts)) (Variable at x)) ≡ unwrap_or (found x (filling ps (map (filled f) ts))) (Variable at x))
        → filled f (unwrap_or (if b then Some t else found x (filling ps ts)) (Variable at x)) ≡ unwrap_or (if b then Some (filled f t) else found x (filling ps (map (filled f) ts))) (Variable at x)
    go true e later = refl
    go false e later = later (rw e at j)

mutual
  pub composed : (f : Filling) (ps : List Name) (ts : List SeqType) → length ts ≡ length ps → (t : SeqType) → Within (variables_of t) ps
      → filled f (filled (filling ps ts) t) ≡ filled (filling ps (map (filled f) ts)) t
  composed f ps ts i s.Int j = refl
  composed f ps ts i s.Char j = refl
  composed f ps ts i s.Bool j = refl
  composed f ps ts i (s.List t) j = ap s.List (composed f ps ts i t j)
  composed f ps ts i (s.Pair t u) j =
      let p = composed f ps ts i t (within-left (variables_of t) (variables_of u) ps j) in
      let q = composed f ps ts i u (within-right (variables_of t) (variables_of u) ps j) in
      λ k. s.Pair (p k) (q k)
  composed f ps ts i (s.Named at x us) j = ap (s.Named at x) (all-composed f ps ts i us j)
  composed f ps ts i (Variable at x) j = stands f ps ts at x i (j x (or-first (same_name x x) false (same-itself x)))

  pub all-composed : (f : Filling) (ps : List Name) (ts : List SeqType) → length ts ≡ length ps → (us : SeqTypes) → Within (variables_of_all us) ps
      → all_filled f (all_filled (filling ps ts) us) ≡ all_filled (filling ps (map (filled f) ts)) us
  all-composed f ps ts i no_types j = refl
  all-composed f ps ts i (type_then t us) j =
      let p = composed f ps ts i t (within-left (variables_of t) (variables_of_all us) ps j) in
      let q = all-composed f ps ts i us (within-right (variables_of t) (variables_of_all us) ps j) in
      λ k. type_then (p k) (q k)

pub list-composed : (f : Filling) (ps : List Name) (ts : List SeqType) → length ts ≡ length ps → (us : List SeqType) → Within (variables_of_list us) ps
    → map (filled f) (map (filled (filling ps ts)) us) ≡ map (filled (filling ps (map (filled f) ts))) us
list-composed f ps ts i [] j = refl
list-composed f ps ts i (t ∷ us) j =
    let p = composed f ps ts i t (within-left (variables_of t) (variables_of_list us) ps j) in
    let q = list-composed f ps ts i us (within-right (variables_of t) (variables_of_list us) ps j) in
    λ k. p k ∷ q k
