-- What the judgement of `run` cites.
use Rattle.std.proofs.Common.{◌≡◌, ◌<◌, ◌≢◌, refl, ap, suc, true, false, List, [], ◌∷◌, length, map, arith}
use Rattle.std.proofs.lemmas.List.{drop_more, drop_all}
use Rattle.campl_tree.specs.declared.place.Place.{Place}
use Rattle.campl_tree.specs.declared.types.SeqType.{SeqType}
use Rattle.campl_tree.specs.View.{view_seq, seq_types}
use Rattle.campl_tree.specs.Plain.ChanType.{Named}
use Rattle.campl_names.proofs.Letters.{spelled-console, spelled-terminal}
use Rattle.campl_types.specs.Names.{Name, same_name, is_empty}
use Rattle.campl_types.specs.Run.{is_type_named}

pub empty-none : {A : Type 0} → (xs : List A) → length xs ≡ 0 → is_empty xs ≡ true
empty-none [] i = refl
empty-none (x ∷ xs) i = absurd (omega (arith, i))

pub empty-some : {A : Type 0} → (xs : List A) → length xs ≢ 0 → is_empty xs ≡ false
empty-some [] n = absurd (n refl)
empty-some (x ∷ xs) n = refl

pub empty-map : {A B : Type 0} → (f : A → B) (xs : List A) → is_empty (map f xs) ≡ is_empty xs
empty-map f [] = refl
empty-map f (x ∷ xs) = refl

pub named-alone : (x y : Name) (at : Place) (ts : List SeqType) → length ts ≡ 0 → is_type_named x (Named at y (seq_types (map view_seq ts))) ≡ same_name x y
named-alone x y at [] i = refl
named-alone x y at (t ∷ ts) i = absurd (omega (arith, i))

pub named-more : (x y : Name) (at : Place) (ts : List SeqType) → 0 < length ts → is_type_named x (Named at y (seq_types (map view_seq ts))) ≡ false
named-more x y at [] n = absurd (omega (arith, n))
named-more x y at (t ∷ ts) n = refl

pub ruleset empties = (empty-none, empty-some, empty-map)

pub ruleset loops = (drop_more, drop_all)

pub ruleset alone = (named-alone, named-more)

pub length-map : {A B : Type 0} → (f : A → B) (xs : List A) → length (map f xs) ≡ length xs
length-map f [] = refl
length-map f (x ∷ xs) = ap suc (length-map f xs)

pub ruleset named_texts = (spelled-console, spelled-terminal, length-map)
