-- What a constructor builds of parts whose types are filled.
use Rattle.std.proofs.Common.{◌≡◌, ◌∙◌, ◌⊎◌, inl, inr, refl, sym, ap, subst, ℕ, suc, Bool, true, false, List, [], ◌∷◌, Some, unwrap_or, map, length, true≢false}
use Rattle.campl_tree.specs.declared.place.Place.{Place}
use Rattle.campl_tree.specs.Plain.SeqType.{SeqType, SeqTypes, no_types, type_then, Variable}
use Rattle.campl_tree.specs.Plain.SeqType as s
use Rattle.campl_tree.specs.Plain.Decl.{DataDecl, DataConstructor}
use Rattle.campl_value.specs.Tree.{Tree, built, trees_of}
use Rattle.campl_types.specs.Names.{Name, same_name, is_among, found, Within}
use Rattle.campl_types.proofs.Names.{same-itself, split-names}
use Rattle.campl_types.specs.Substitution.{Filling, filling, filled, all_filled, variables_of, variables_of_all, list_of, types_of}
use Rattle.campl_types.specs.SameType.{nowhere}
use Rattle.campl_types.specs.Sequential.{whole}
use Rattle.campl_types.specs.Values.{parts_at, IsValue, AreValues, AllAreValues}
use Rattle.campl_types.specs.World.{World, OfData, constructor_named, names_of, variables_of_list}
use Rattle.campl_evaluation.specs.Worlds.{IsSoundWorld}
use Rattle.campl_evaluation.proofs.Instance.{parts-of}
use Rattle.campl_evaluation.proofs.Bound.{names-long}
use Rattle.campl_types.proofs.Truth.{or-first}
use Rattle.campl_types.proofs.Among.{within-left, within-right}
use Rattle.campl_types.proofs.Compose.{all-composed, list-composed, length-filled}

abbrev variables : List Name → SeqTypes
variables xs = types_of (map (Variable nowhere) xs)

variables-are : (xs : List Name) → variables_of_all (variables xs) ≡ xs
variables-are [] = refl
variables-are (x ∷ xs) = ap (λ ys. x ∷ ys) (variables-are xs)

abbrev stand : Filling → Name → SeqType
stand f x = unwrap_or (found x f) (Variable nowhere x)

filled-variables : (f : Filling) (xs : List Name) → list_of (all_filled f (variables xs)) ≡ map (stand f) xs
filled-variables f [] = refl
filled-variables f (x ∷ xs) = ap (λ ts. stand f x ∷ ts) (filled-variables f xs)

stand-long : (f : Filling) (xs : List Name) → length (map (stand f) xs) ≡ length xs
stand-long f [] = refl
stand-long f (x ∷ xs) = ap suc (stand-long f xs)

-- each parameter stands for something
found-some : (ps : List Name) (ts : List SeqType) (x : Name) → length ts ≡ length ps → is_among x ps ≡ true → (t : SeqType) × (found x (filling ps ts) ≡ Some t)
found-some [] ts x i j = absurd (true≢false (sym j))
found-some (p ∷ ps) [] x i j = absurd (cc i)
found-some (p ∷ ps) (t ∷ ts) x i j = go (same_name x p) refl (found-some ps ts x (cc i))
  where
    go : (b : Bool) → same_name x p ≡ b → (is_among x ps ≡ true → (u : SeqType) × (found x (filling ps ts) ≡ Some u)) → (u : SeqType) × (found x (filling (p ∷ ps) (t ∷ ts)) ≡ Some u)
    go true e later = (t, rw e refl)
    go false e later = let r = later (rw e at j) in (r.0, rw e r.1)

-- the same, read off a filling
read-off : (f : Filling) (xs : List Name) (x : Name) (t : SeqType) → is_among x xs ≡ true → found x f ≡ Some t → found x (filling xs (map (stand f) xs)) ≡ Some t
read-off f [] x t i j = absurd (true≢false (sym i))
read-off f (y ∷ ys) x t i j = go (split-names x y) (read-off f ys x t)
  where
    go : (x ≡ y) ⊎ (same_name x y ≡ false) → (is_among x ys ≡ true → found x f ≡ Some t → found x (filling ys (map (stand f) ys)) ≡ Some t) → found x ((y, stand f y) ∷ filling ys (map (stand f) ys)) ≡ Some t
    go (inl e) later = rw (subst (λ z. same_name x z ≡ true) e (same-itself x)) (ap Some (ap (stand f) (sym e) ∙ rw j refl))
    go (inr e) later = rw e (later (rw e at i) j)

module _ (ps : List Name) (ts : List SeqType) (long : length ts ≡ length ps) where
  abbrev f : Filling
  f = filling ps ts

  abbrev again : Filling
  again = filling ps (map (stand f) ps)

  same-stands : (at : Place) (x : Name) → is_among x ps ≡ true → unwrap_or (found x again) (Variable at x) ≡ unwrap_or (found x f) (Variable at x)
  same-stands at x i =
      let r = found-some ps ts x long i in
      let q : found x again ≡ found x f = read-off f ps x r.0 i r.1 ∙ sym r.1 in
      ap (λ o. unwrap_or o (Variable at x)) q

  mutual
    refilled : (t : SeqType) → Within (variables_of t) ps → filled again t ≡ filled f t
    refilled s.Int i = refl
    refilled s.Char i = refl
    refilled s.Bool i = refl
    refilled (s.List t) i = ap s.List (refilled t i)
    refilled (s.Pair t u) i =
        let p = refilled t (within-left (variables_of t) (variables_of u) ps i) in
        let q = refilled u (within-right (variables_of t) (variables_of u) ps i) in
        λ k. s.Pair (p k) (q k)
    refilled (s.Named at x us) i = ap (s.Named at x) (all-refilled us i)
    refilled (Variable at x) i = same-stands at x (i x (or-first (same_name x x) false (same-itself x)))

    all-refilled : (us : SeqTypes) → Within (variables_of_all us) ps → all_filled again us ≡ all_filled f us
    all-refilled no_types i = refl
    all-refilled (type_then t us) i =
        let p = refilled t (within-left (variables_of t) (variables_of_all us) ps i) in
        let q = all-refilled us (within-right (variables_of t) (variables_of_all us) ps i) in
        λ k. type_then (p k) (q k)

  pub list-refilled : (us : List SeqType) → Within (variables_of_list us) ps → map (filled again) us ≡ map (filled f) us
  list-refilled [] i = refl
  list-refilled (t ∷ us) i =
      let p = refilled t (within-left (variables_of t) (variables_of_list us) ps i) in
      let q = list-refilled us (within-right (variables_of t) (variables_of_list us) ps i) in
      λ k. p k ∷ q k

-- parts of the filled types build a value of the filled whole
pub built-is : (w : World) → IsSoundWorld w → (f : Filling) (x : Name) (d : DataDecl) (n : ℕ) (k : DataConstructor) (ts : List SeqType) (us : List Tree)
    → constructor_named w x ≡ Some (OfData d n k) → length ts ≡ length (names_of d.parameters)
    → AllAreValues w us (map (filled f) (map (filled (filling (names_of d.parameters) ts)) k.parts))
    → IsValue w (built n us) (filled f (filled (filling (names_of d.parameters) ts) (whole d)))
built-is w good f x d n k ts us i long h =
    let ps : List Name = names_of d.parameters in
    let more : List SeqType = map (filled f) ts in
    let longer : length more ≡ length ps = length-filled f ts ∙ long in
    let inside : Within (variables_of_all (variables ps)) ps = λ y j. subst (λ ys. is_among y ys ≡ true) (variables-are ps) j in
    let args : all_filled f (all_filled (filling ps ts) (variables ps)) ≡ all_filled (filling ps more) (variables ps) = all-composed f ps ts long (variables ps) inside in
    let list : list_of (all_filled f (all_filled (filling ps ts) (variables ps))) ≡ map (stand (filling ps more)) ps = ap list_of args ∙ filled-variables (filling ps more) ps in
    let known = good.types x d n k i in
    let parts : map (filled f) (map (filled (filling ps ts)) k.parts) ≡ map (filled (filling ps (map (stand (filling ps more)) ps))) k.parts =
    list-composed f ps ts long k.parts (good.parts x d n k i) ∙ sym (list-refilled ps more longer k.parts (good.parts x d n k i)) in (
      d,
      k,
      known.0,
      known.1,
      ap length list ∙ stand-long (filling ps more) ps ∙ names-long d.parameters,
      subst (λ ys. AreValues w (trees_of us) (parts_at d ys k)) (sym list) (parts-of w us _ (subst (AllAreValues w us) parts h)),
    )
