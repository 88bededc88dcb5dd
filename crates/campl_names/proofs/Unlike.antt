-- What the test of sameness answers at types of different forms.
use Rattle.std.proofs.Common.{◌≡◌, ◌∙◌, refl, sym, ap, suc, Bool, true, false, ◌&&◌, List, [], ◌∷◌, map, length}
use Rattle.campl_tree.specs.declared.place.Place.{Place}
use Rattle.campl_tree.specs.declared.name.Name.{Name}
use Rattle.campl_tree.specs.declared.types.SeqType.{SeqType, out-SeqType, roll-SeqType}
use Rattle.campl_tree.specs.declared.types.SeqType.TheViews.{roll-out-SeqType}
use Rattle.campl_tree.specs.declared.types.SeqType.TheOpen.{SeqType-F}
use Rattle.campl_tree.specs.declared.types.SeqType.TheVariants as seq
use Rattle.campl_tree.specs.Plain.SeqType as s
use Rattle.campl_tree.specs.View.{view_seq, seq_types}
use Rattle.campl_tree.proofs.Views.{view_seq-Int, view_seq-Char, view_seq-Bool, view_seq-List, view_seq-Pair, view_seq-Named, view_seq-Variable}
use Rattle.campl_types.specs.SameTest as test

-- which form a type has
pub data Which (u : SeqType) : Type 0 where
  IsInt : u ≡ seq.Int → Which u
  IsChar : u ≡ seq.Char → Which u
  IsBool : u ≡ seq.Bool → Which u
  IsList : (a : SeqType) → u ≡ seq.List a → Which u
  IsPair : (a b : SeqType) → u ≡ seq.Pair a b → Which u
  IsNamed : (at : Place) (x : Name) (ts : List SeqType) → u ≡ seq.Named at x ts → Which u
  IsVariable : (at : Place) (x : Name) → u ≡ seq.Variable at x → Which u

pub which : (u : SeqType) → Which u
which u = go (out-SeqType u) (sym (roll-out-SeqType u))
  where
    go : (o : SeqType-F SeqType) → u ≡ roll-SeqType o → Which u
    go SeqType-F.Int e = IsInt (e ∙ seq.rolls-Int)
    go SeqType-F.Char e = IsChar (e ∙ seq.rolls-Char)
    go SeqType-F.Bool e = IsBool (e ∙ seq.rolls-Bool)
    go (SeqType-F.List a) e = IsList a (e ∙ seq.rolls-List a)
    go (SeqType-F.Pair a b) e = IsPair a b (e ∙ seq.rolls-Pair a b)
    go (SeqType-F.Named at x ts) e = IsNamed at x ts (e ∙ seq.rolls-Named at x ts)
    go (SeqType-F.Variable at x) e = IsVariable at x (e ∙ seq.rolls-Variable at x)

-- what is seen of a type of this form
pub data Seen (u : SeqType) : Type 0 where
  SeesInt : u ≡ seq.Int → view_seq u ≡ s.Int → Seen u
  SeesChar : u ≡ seq.Char → view_seq u ≡ s.Char → Seen u
  SeesBool : u ≡ seq.Bool → view_seq u ≡ s.Bool → Seen u
  SeesList : (a : SeqType) → u ≡ seq.List a → view_seq u ≡ s.List (view_seq a) → Seen u
  SeesPair : (a b : SeqType) → u ≡ seq.Pair a b → view_seq u ≡ s.Pair (view_seq a) (view_seq b) → Seen u
  SeesNamed : (at : Place) (x : Name) (ts : List SeqType) → u ≡ seq.Named at x ts → view_seq u ≡ s.Named at x (seq_types (map view_seq ts)) → Seen u
  SeesVariable : (at : Place) (x : Name) → u ≡ seq.Variable at x → view_seq u ≡ s.Variable at x → Seen u

pub seen : (u : SeqType) → Seen u
seen u = go (which u)
  where
    go : Which u → Seen u
    go (IsInt e) = SeesInt e (ap view_seq e ∙ view_seq-Int)
    go (IsChar e) = SeesChar e (ap view_seq e ∙ view_seq-Char)
    go (IsBool e) = SeesBool e (ap view_seq e ∙ view_seq-Bool)
    go (IsList a e) = SeesList a e (ap view_seq e ∙ view_seq-List a)
    go (IsPair a b e) = SeesPair a b e (ap view_seq e ∙ view_seq-Pair a b)
    go (IsNamed at x ts e) = SeesNamed at x ts e (ap view_seq e ∙ view_seq-Named at x ts)
    go (IsVariable at x e) = SeesVariable at x e (ap view_seq e ∙ view_seq-Variable at x)

pub not-Int : (t u : SeqType) → t ≡ seq.Int → (u ≡ seq.Int → ⊥) → false ≡ test.same_seq (view_seq t) (view_seq u)
not-Int t u e n = elim (seen u) [
  | SeesInt f v ↦ absurd (n f)
  | SeesChar f v ↦ rw (e, view_seq-Int, v) refl
  | SeesBool f v ↦ rw (e, view_seq-Int, v) refl
  | SeesList a f v ↦ rw (e, view_seq-Int, v) refl
  | SeesPair a b f v ↦ rw (e, view_seq-Int, v) refl
  | SeesNamed at x ts f v ↦ rw (e, view_seq-Int, v) refl
  | SeesVariable at x f v ↦ rw (e, view_seq-Int, v) refl
]

pub not-Char : (t u : SeqType) → t ≡ seq.Char → (u ≡ seq.Char → ⊥) → false ≡ test.same_seq (view_seq t) (view_seq u)
not-Char t u e n = elim (seen u) [
  | SeesInt f v ↦ rw (e, view_seq-Char, v) refl
  | SeesChar f v ↦ absurd (n f)
  | SeesBool f v ↦ rw (e, view_seq-Char, v) refl
  | SeesList a f v ↦ rw (e, view_seq-Char, v) refl
  | SeesPair a b f v ↦ rw (e, view_seq-Char, v) refl
  | SeesNamed at x ts f v ↦ rw (e, view_seq-Char, v) refl
  | SeesVariable at x f v ↦ rw (e, view_seq-Char, v) refl
]

pub not-Bool : (t u : SeqType) → t ≡ seq.Bool → (u ≡ seq.Bool → ⊥) → false ≡ test.same_seq (view_seq t) (view_seq u)
not-Bool t u e n = elim (seen u) [
  | SeesInt f v ↦ rw (e, view_seq-Bool, v) refl
  | SeesChar f v ↦ rw (e, view_seq-Bool, v) refl
  | SeesBool f v ↦ absurd (n f)
  | SeesList a f v ↦ rw (e, view_seq-Bool, v) refl
  | SeesPair a b f v ↦ rw (e, view_seq-Bool, v) refl
  | SeesNamed at x ts f v ↦ rw (e, view_seq-Bool, v) refl
  | SeesVariable at x f v ↦ rw (e, view_seq-Bool, v) refl
]

pub not-List : (t u a : SeqType) → t ≡ seq.List a → ((b : SeqType) → u ≡ seq.List b → ⊥) → false ≡ test.same_seq (view_seq t) (view_seq u)
not-List t u a e n = elim (seen u) [
  | SeesInt f v ↦ rw (e, view_seq-List, v) refl
  | SeesChar f v ↦ rw (e, view_seq-List, v) refl
  | SeesBool f v ↦ rw (e, view_seq-List, v) refl
  | SeesList b f v ↦ absurd (n b f)
  | SeesPair b c f v ↦ rw (e, view_seq-List, v) refl
  | SeesNamed at x ts f v ↦ rw (e, view_seq-List, v) refl
  | SeesVariable at x f v ↦ rw (e, view_seq-List, v) refl
]

pub not-Pair : (t u a b : SeqType) → t ≡ seq.Pair a b → ((c d : SeqType) → u ≡ seq.Pair c d → ⊥) → false ≡ test.same_seq (view_seq t) (view_seq u)
not-Pair t u a b e n = elim (seen u) [
  | SeesInt f v ↦ rw (e, view_seq-Pair, v) refl
  | SeesChar f v ↦ rw (e, view_seq-Pair, v) refl
  | SeesBool f v ↦ rw (e, view_seq-Pair, v) refl
  | SeesList c f v ↦ rw (e, view_seq-Pair, v) refl
  | SeesPair c d f v ↦ absurd (n c d f)
  | SeesNamed at x ts f v ↦ rw (e, view_seq-Pair, v) refl
  | SeesVariable at x f v ↦ rw (e, view_seq-Pair, v) refl
]

pub not-Named : (t u : SeqType) (at : Place) (x : Name) (ts : List SeqType) → t ≡ seq.Named at x ts → ((place : Place) (y : Name) (us : List SeqType) → u ≡ seq.Named place y us → ⊥) → false ≡ test.same_seq (view_seq t) (view_seq u)
not-Named t u at x ts e n = elim (seen u) [
  | SeesInt f v ↦ rw (e, view_seq-Named, v) refl
  | SeesChar f v ↦ rw (e, view_seq-Named, v) refl
  | SeesBool f v ↦ rw (e, view_seq-Named, v) refl
  | SeesList c f v ↦ rw (e, view_seq-Named, v) refl
  | SeesPair c d f v ↦ rw (e, view_seq-Named, v) refl
  | SeesNamed place y us f v ↦ absurd (n place y us f)
  | SeesVariable place y f v ↦ rw (e, view_seq-Named, v) refl
]

pub not-Variable : (t u : SeqType) (at : Place) (x : Name) → t ≡ seq.Variable at x → ((place : Place) (y : Name) → u ≡ seq.Variable place y → ⊥) → false ≡ test.same_seq (view_seq t) (view_seq u)
not-Variable t u at x e n = elim (seen u) [
  | SeesInt f v ↦ rw (e, view_seq-Variable, v) refl
  | SeesChar f v ↦ rw (e, view_seq-Variable, v) refl
  | SeesBool f v ↦ rw (e, view_seq-Variable, v) refl
  | SeesList c f v ↦ rw (e, view_seq-Variable, v) refl
  | SeesPair c d f v ↦ rw (e, view_seq-Variable, v) refl
  | SeesNamed place y us f v ↦ rw (e, view_seq-Variable, v) refl
  | SeesVariable place y f v ↦ absurd (n place y f)
]

-- lists of different lengths
pub not-as-long : (ts us : List SeqType) → (length ts ≡ length us → ⊥) → false ≡ test.same_seqs (seq_types (map view_seq ts)) (seq_types (map view_seq us))
not-as-long [] [] n = absurd (n refl)
not-as-long [] (u ∷ us) n = refl
not-as-long (t ∷ ts) [] n = refl
not-as-long (t ∷ ts) (u ∷ us) n = go (test.same_seq (view_seq t) (view_seq u)) (not-as-long ts us (λ e. n (ap suc e)))
  where
    go : (b : Bool) → false ≡ test.same_seqs (seq_types (map view_seq ts)) (seq_types (map view_seq us)) → false ≡ (b && (test.same_seqs (seq_types (map view_seq ts)) (seq_types (map view_seq us))))
    go true e = e
    go false e = refl
