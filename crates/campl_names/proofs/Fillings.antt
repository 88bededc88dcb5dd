-- Types in which parameters stand for arguments.
use Rattle.std.proofs.Common.{◌≡◌, ◌∙◌, ◌⊎◌, inl, inr, refl, sym, ap, ℕ, ◌+◌, ◌<◌, ◌≤◌, Bool, true, false, List, [], ◌∷◌, ◌++◌, append_assoc, Option, Some, None, option_map, unwrap_or, is_some, if◌then◌else◌, map, length, drop, get_or, add-one}
use Rattle.std.proofs.lemmas.List.{append-nil}
use Rattle.std.proofs.Math.ListN.{drop_of_length-le}
use Rattle.std.proofs.Math.Seq.{drop-cons}
use Rattle.campl_tree.specs.declared.place.Ident.{Ident}
use Rattle.campl_tree.specs.declared.types.SeqType as declared
use Rattle.campl_tree.specs.Plain.SeqType.{SeqType, SeqTypes, no_types, type_then}
use Rattle.campl_tree.specs.Plain.SeqType as s
use Rattle.campl_tree.specs.Plain.ChanType.{ChanType, Put, Get, Tensor, Par, TopBot, Neg, Named}
use Rattle.campl_tree.specs.View.{seq_types, view_seq}
use Rattle.campl_names.specs.Filling.{Bound, view_filling, with_type}
use Rattle.campl_types.specs.Names.{Name, same_name, found}
use Rattle.campl_types.specs.Polarity.{at_whole, line}
use Rattle.campl_types.specs.SameType.{nowhere}
use Rattle.campl_types.specs.Substitution.{Filling, filling, filled, all_filled, types_of}
use Rattle.campl_types.specs.World.{or_else, names_of}
use Rattle.campl_types.proofs.Names.{split-names}
use Rattle.campl_names.proofs.Sets.{lookup-found, entry-behind}
use Rattle.campl_tree.proofs.Views.{seq_views, chan_views}

pub all_filled-types : (f : Filling) (ts : List SeqType) → all_filled f (seq_types ts) ≡ seq_types (map (filled f) ts)
all_filled-types f [] = refl
all_filled-types f (t ∷ ts) = rw (all_filled-types f ts) refl

pub types_of-is : (ts : List SeqType) → types_of ts ≡ seq_types ts
types_of-is [] = refl
types_of-is (t ∷ ts) = rw (types_of-is ts) refl

-- What is found

-- what is found stands for what the code finds
pub found-view : (x : Name) (f : Bound) → found x (view_filling f) ≡ option_map view_seq (found x f)
found-view x [] = refl
found-view x (e ∷ f) = go (same_name x e.0) (found-view x f)
  where
    go : (b : Bool) → found x (view_filling f) ≡ option_map view_seq (found x f) → (if b then Some (view_seq e.1) else found x (view_filling f)) ≡ option_map view_seq (if b then Some e.1 else found x f)
    go true later = refl
    go false later = later

pub found-append : {A : Type 0} → (x : Name) (f g : List (Name × A)) → found x (f ++ g) ≡ or_else (found x f) (found x g)
found-append x [] g = refl
found-append x (e ∷ f) g = go (same_name x e.0) (found-append x f g)
  where
    go : (b : Bool) → found x (f ++ g) ≡ or_else (found x f) (found x g) → (if b then Some e.1 else found x (f ++ g)) ≡ or_else (if b then Some e.1 else found x f) (found x g)
    go true later = refl
    go false later = later

pub view-behind : (f : Bound) (x : Name) (t : declared.SeqType) → view_filling (f ++ (x, t) ∷ []) ≡ view_filling f ++ (x, view_seq t) ∷ []
view-behind [] x t = refl
view-behind (e ∷ f) x t = ap (λ g. (e.0, view_seq e.1) ∷ g) (view-behind f x t)

-- an entry whose name has a type already is never found
found-hidden : (x y : Name) (f rest : Filling) (t u : SeqType) → found y f ≡ Some u → found x (f ++ rest) ≡ found x (f ++ (y, t) ∷ rest)
found-hidden x y f rest t u there = found-append x f rest ∙ go (split-names x y) ∙ sym (found-append x f ((y, t) ∷ rest))
  where
    go : (x ≡ y) ⊎ (same_name x y ≡ false) → or_else (found x f) (found x rest) ≡ or_else (found x f) (if same_name x y then Some t else found x rest)
    go (inl same) = let i : found x f ≡ Some u = ap (λ z. found z f) same ∙ there in rw i refl
    go (inr other) = rw other refl

pub found-with_type : (x y : Name) (t : declared.SeqType) (f : Bound) (rest : Filling) → found x (view_filling (with_type y t f) ++ rest) ≡ found x (view_filling f ++ (y, view_seq t) ∷ rest)
found-with_type x y t f rest = go (found y f) refl
  where
    go : (o : Option declared.SeqType) → found y f ≡ o → found x (view_filling (if is_some o then f else f ++ (y, t) ∷ []) ++ rest) ≡ found x (view_filling f ++ (y, view_seq t) ∷ rest)
    go None none = ap (λ g. found x (g ++ rest)) (view-behind f y t) ∙ ap (found x) (append_assoc (view_filling f) ((y, view_seq t) ∷ []) rest)
    go (Some u) there = found-hidden x y (view_filling f) rest (view_seq t) (view_seq u) (found-view y f ∙ ap (option_map view_seq) there)

-- The parameters from the i-th on

abbrev pub filling_from : ℕ → List Ident → List declared.SeqType → Filling
filling_from i ps ts = filling (names_of (drop i ps)) (map view_seq (drop i ts))

filling_from-next : (i : ℕ) (ps : List Ident) (ts : List declared.SeqType) (p : Ident) (t : declared.SeqType) → t ≡ get_or ts i t → i < length ps → i < length ts → filling_from i ps ts ≡ ((get_or ps i p).name, view_seq t) ∷ filling_from (i + 1) ps ts
filling_from-next i ps ts p t is_t within_ps within_ts = rw (add-one, drop-cons ps i p within_ps, drop-cons ts i t within_ts, ← is_t) refl

-- the i-th parameter, bound unless it is there already
pub found-next : (x : Name) (i : ℕ) (ps : List Ident) (ts : List declared.SeqType) (p : Ident) (t : declared.SeqType) (f g : Bound) → g ≡ with_type (get_or ps i p).name t f → t ≡ get_or ts i t → i < length ps → i < length ts → found x (view_filling g ++ filling_from (i + 1) ps ts) ≡ found x (view_filling f ++ filling_from i ps ts)
found-next x i ps ts p t f g is_g is_t within_ps within_ts =
    ap (λ h. found x (view_filling h ++ filling_from (i + 1) ps ts)) is_g
    ∙ found-with_type x (get_or ps i p).name t f (filling_from (i + 1) ps ts)
    ∙ ap (λ r. found x (view_filling f ++ r)) (sym (filling_from-next i ps ts p t is_t within_ps within_ts))

-- and there is none behind the last that has an argument
filling_from-past : (i : ℕ) (ps : List Ident) (ts : List declared.SeqType) → (length ps ≤ i) ⊎ (length ts ≤ i) → filling_from i ps ts ≡ []
filling_from-past i ps ts (inl past) = rw (drop_of_length-le ps past) refl
filling_from-past i ps ts (inr past) = rw (drop_of_length-le ts past) (go (names_of (drop i ps)))
  where
    go : (xs : List Name) → filling xs [] ≡ []
    go [] = refl
    go (y ∷ ys) = refl

pub found-all : (x : Name) (i : ℕ) (ps : List Ident) (ts : List declared.SeqType) (f : Bound) → (length ps ≤ i) ⊎ (length ts ≤ i) → found x (view_filling f) ≡ found x (view_filling f ++ filling_from i ps ts)
found-all x i ps ts f past = rw (filling_from-past i ps ts past, append-nil) refl

-- A type at a filling depends on what is found in it alone

abbrev pub FindSame : Filling → Filling → Type 0
FindSame f g = (x : Name) → found x f ≡ found x g

mutual
  pub same-filled : (f g : Filling) → FindSame f g → (t : SeqType) → filled f t ≡ filled g t
  same-filled f g i s.Int = refl
  same-filled f g i s.Char = refl
  same-filled f g i s.Bool = refl
  same-filled f g i (s.List t) = ap s.List (same-filled f g i t)
  same-filled f g i (s.Pair t u) = rw (same-filled f g i t, same-filled f g i u) refl
  same-filled f g i (s.Named at x ts) = ap (s.Named at x) (same-all_filled f g i ts)
  same-filled f g i (s.Variable at x) = ap (λ o. unwrap_or o (s.Variable at x)) (i x)

  pub same-all_filled : (f g : Filling) → FindSame f g → (ts : SeqTypes) → all_filled f ts ≡ all_filled g ts
  same-all_filled f g i no_types = refl
  same-all_filled f g i (type_then t ts) = rw (same-filled f g i t, same-all_filled f g i ts) refl

pub same-map-filled : (f g : Filling) → FindSame f g → (ts : List SeqType) → map (filled f) ts ≡ map (filled g) ts
same-map-filled f g i [] = refl
same-map-filled f g i (t ∷ ts) = rw (same-filled f g i t, same-map-filled f g i ts) refl

pub same-at_whole : (f g : Filling) → FindSame f g → (own : Name) (whole t : ChanType) → at_whole own whole f t ≡ at_whole own whole g t
same-at_whole f g i own whole (Put t x) = rw (same-filled f g i t, same-at_whole f g i own whole x) refl
same-at_whole f g i own whole (Get t x) = rw (same-filled f g i t, same-at_whole f g i own whole x) refl
same-at_whole f g i own whole (Tensor x y) = rw (same-at_whole f g i own whole x, same-at_whole f g i own whole y) refl
same-at_whole f g i own whole (Par x y) = rw (same-at_whole f g i own whole x, same-at_whole f g i own whole y) refl
same-at_whole f g i own whole TopBot = refl
same-at_whole f g i own whole (Neg x) = ap Neg (same-at_whole f g i own whole x)
same-at_whole f g i own whole (Named at x ts) = ap (λ us. if same_name x own then whole else Named at x us) (same-all_filled f g i ts)

pub line-at : (f : Filling) (local name : Ident) (ps : List Ident) (ts : List SeqType) (t : ChanType) → FindSame f (filling (names_of ps) ts) → at_whole local.name (Named nowhere name.name (types_of ts)) f t ≡ line local name ps ts t
line-at f local name ps ts t i = same-at_whole f (filling (names_of ps) ts) i local.name (Named nowhere name.name (types_of ts)) t

pub ruleset filled_types = (seq_views, all_filled-types)

pub ruleset named = (chan_views, all_filled-types, types_of-is)

pub ruleset variables = (seq_views, found-view)

pub ruleset binding = (lookup-found, entry-behind)
