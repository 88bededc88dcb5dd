-- Declared types matched against types.
use Rattle.std.proofs.Common.{◌≡◌, ◌≢◌, refl, ap, suc, Bool, true, false, ◌&&◌, ◌||◌, List, [], ◌∷◌, ◌++◌, map, length, take, Option, Some, None, is_some, if◌then◌else◌}
use Rattle.std.proofs.lemmas.List.{drop_more, drop_all}
use Rattle.campl_tree.specs.declared.place.Place.{Place}
use Rattle.campl_tree.specs.declared.types.SeqType as declared
use Rattle.campl_tree.specs.Plain.SeqType.{SeqType, SeqTypes, no_types, type_then}
use Rattle.campl_tree.specs.Plain.SeqType as s
use Rattle.campl_tree.specs.View.{view_seq, seq_types}
use Rattle.campl_types.specs.Names.{Name, same_name, found, is_among, all_among}
use Rattle.campl_types.specs.SameTest.{same_seq}
use Rattle.campl_types.specs.Substitution.{Filling}
use Rattle.campl_tree.proofs.Views.{seq_views}
use Rattle.campl_matching.specs.Matching.{bound_names, matched, all_matched, bind, then_match, Matches}
use Rattle.campl_matching.specs.Parts.{item_of, parts_of, named_parts}
use Rattle.campl_names.specs.Filling.{view_filling}
use Rattle.campl_names.proofs.Fillings.{found-view, view-behind}

-- What is known

pub known-found : (x : Name) (f : List (Name × declared.SeqType)) → is_some (found x f) ≡ is_among x (bound_names (view_filling f))
known-found x [] = refl
known-found x (e ∷ f) = go (same_name x e.0) (known-found x f)
  where
    go : (p : Bool) → is_some (found x f) ≡ is_among x (bound_names (view_filling f)) → is_some (if p then Some e.1 else found x f) ≡ (p || is_among x (bound_names (view_filling f)))
    go true later = refl
    go false later = later

pub all-append : (xs ys zs : List Name) → all_among (xs ++ ys) zs ≡ (all_among xs zs && all_among ys zs)
all-append [] ys zs = refl
all-append (x ∷ xs) ys zs = rw (all-append xs ys zs) (go (is_among x zs))
  where
    go : (p : Bool) → (p && (all_among xs zs && all_among ys zs)) ≡ ((p && all_among xs zs) && all_among ys zs)
    go true = refl
    go false = refl

pub all-one : (x : Name) (zs : List Name) → all_among (x ∷ []) zs ≡ is_among x zs
all-one x zs = go (is_among x zs)
  where
    go : (p : Bool) → (p && true) ≡ p
    go true = refl
    go false = refl

pub ruleset known = (seq_views, all-append, all-one, drop_more, drop_all)

-- A parameter that stands for something

pub same-so : (fill : Filling) (x : Name) (u t : SeqType) → Matches (same_seq u t) (bind fill x (Some u) t) fill
same-so fill x u t = go (same_seq u t)
  where
    go : (p : Bool) → Matches p (if p then Some fill else None) fill
    go true = refl
    go false = refl

-- Types without parts

pub match-Int : (fill : Filling) (t : SeqType) → Matches (same_seq s.Int t) (matched fill s.Int t) fill
match-Int fill s.Int = refl
match-Int fill s.Char = refl
match-Int fill s.Bool = refl
match-Int fill (s.List t) = refl
match-Int fill (s.Pair t u) = refl
match-Int fill (s.Named at x ts) = refl
match-Int fill (s.Variable at x) = refl

pub match-Char : (fill : Filling) (t : SeqType) → Matches (same_seq s.Char t) (matched fill s.Char t) fill
match-Char fill s.Int = refl
match-Char fill s.Char = refl
match-Char fill s.Bool = refl
match-Char fill (s.List t) = refl
match-Char fill (s.Pair t u) = refl
match-Char fill (s.Named at x ts) = refl
match-Char fill (s.Variable at x) = refl

pub match-Bool : (fill : Filling) (t : SeqType) → Matches (same_seq s.Bool t) (matched fill s.Bool t) fill
match-Bool fill s.Int = refl
match-Bool fill s.Char = refl
match-Bool fill s.Bool = refl
match-Bool fill (s.List t) = refl
match-Bool fill (s.Pair t u) = refl
match-Bool fill (s.Named at x ts) = refl
match-Bool fill (s.Variable at x) = refl

-- Types with parts

abbrev list_so : Filling → SeqType → Option SeqType → Option Filling
list_so fill d (Some t) = matched fill d t
list_so fill d None = None

pub match-List : (fill : Filling) (d t : SeqType) → matched fill (s.List d) t ≡ list_so fill d (item_of t)
match-List fill d s.Int = refl
match-List fill d s.Char = refl
match-List fill d s.Bool = refl
match-List fill d (s.List t) = refl
match-List fill d (s.Pair t u) = refl
match-List fill d (s.Named at x ts) = refl
match-List fill d (s.Variable at x) = refl

abbrev pair_so : Filling → (d e : SeqType) → Option (SeqType × SeqType) → Option Filling
pair_so fill d e (Some p) = then_match (matched fill d p.0) (λ f. matched f e p.1)
pair_so fill d e None = None

pub match-Pair : (fill : Filling) (d e t : SeqType) → matched fill (s.Pair d e) t ≡ pair_so fill d e (parts_of t)
match-Pair fill d e s.Int = refl
match-Pair fill d e s.Char = refl
match-Pair fill d e s.Bool = refl
match-Pair fill d e (s.List t) = refl
match-Pair fill d e (s.Pair t u) = refl
match-Pair fill d e (s.Named at x ts) = refl
match-Pair fill d e (s.Variable at x) = refl

abbrev named_so : Filling → Name → SeqTypes → Option (Name × SeqTypes) → Option Filling
named_so fill x ds (Some p) = if same_name x p.0 then all_matched fill ds p.1 else None
named_so fill x ds None = None

pub match-Named : (fill : Filling) (at : Place) (x : Name) (ds : SeqTypes) (t : SeqType) → matched fill (s.Named at x ds) t ≡ named_so fill x ds (named_parts t)
match-Named fill at x ds s.Int = refl
match-Named fill at x ds s.Char = refl
match-Named fill at x ds s.Bool = refl
match-Named fill at x ds (s.List t) = refl
match-Named fill at x ds (s.Pair t u) = refl
match-Named fill at x ds (s.Named there y ts) = refl
match-Named fill at x ds (s.Variable there y) = refl

-- Lists of another length

pub match-longer : (fill : Filling) (ds ts : List declared.SeqType) → length ds ≢ length ts → all_matched fill (seq_types (map view_seq ds)) (seq_types (map view_seq ts)) ≡ None
match-longer fill [] [] n = absurd (n refl)
match-longer fill [] (t ∷ ts) n = refl
match-longer fill (d ∷ ds) [] n = refl
match-longer fill (d ∷ ds) (t ∷ ts) n = go (matched fill (view_seq d) (view_seq t)) (λ f. match-longer f ds ts (λ i. n (ap suc i)))
  where
    go : (o : Option Filling) → ((f : Filling) → all_matched f (seq_types (map view_seq ds)) (seq_types (map view_seq ts)) ≡ None)
        → then_match o (λ f. all_matched f (seq_types (map view_seq ds)) (seq_types (map view_seq ts))) ≡ None
    go None later = refl
    go (Some f) later = later f

-- What is bound stays, behind what was there

pub grown-none : {A : Type 0} → (xs : List A) → take (length xs) xs ≡ xs
grown-none [] = refl
grown-none (x ∷ xs) = ap (λ l. x ∷ l) (grown-none xs)

pub grown-by : {A : Type 0} → (xs ys : List A) → take (length xs) (xs ++ ys) ≡ xs
grown-by [] ys = refl
grown-by (x ∷ xs) ys = ap (λ l. x ∷ l) (grown-by xs ys)

pub grown-on : {A : Type 0} → (xs ys zs : List A) → take (length xs) ys ≡ xs → take (length ys) zs ≡ ys → take (length xs) zs ≡ xs
grown-on [] ys zs i j = refl
grown-on (x ∷ xs) [] zs i j = absurd (let none : ⊥ = cc in none)
grown-on (x ∷ xs) (y ∷ ys) [] i j = absurd (let none : ⊥ = cc in none)
grown-on (x ∷ xs) (y ∷ ys) (z ∷ zs) i j =
    let first : z ≡ x = cc in
    let before : take (length xs) ys ≡ xs = cc in
    let behind : take (length ys) zs ≡ ys = cc in
    rw first (ap (λ l. x ∷ l) (grown-on xs ys zs before behind))

pub ruleset matching = (grown-none, grown-on, seq_views, match-Int, match-Char, match-Bool, match-List, match-Pair, match-Named, match-longer)

pub ruleset variables = (grown-none, grown-by, found-view, view-behind, same-so)
