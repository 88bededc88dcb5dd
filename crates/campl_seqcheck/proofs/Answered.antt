-- What code that judges answers.
use Rattle.std.proofs.Common.{◌≡◌, ◌∙◌, ◌⊎◌, inl, inr, refl, sym, ap, subst, Option, Some, None, Result, Ok, Err, ℕ, ◌+◌, ◌<◌, List, drop, length, get_or}
use Rattle.std.proofs.lemmas.List.{drop_more}
use Rattle.std.specs.Prelude.{Bool as Truth, true, false, codes, [], ◌∷◌}
use Rattle.std.specs.Str.{chars}
use Rattle.campl_tree.specs.declared.place.Place.{Place}
use Rattle.campl_tree.specs.Plain.SeqType.{SeqType}
use Rattle.campl_tree.specs.Plain.SeqType as s
use Rattle.campl_matching.specs.Parts.{item_of, parts_of}
use Rattle.campl_shown.specs.Types.{type_text}
use Rattle.campl_seqcheck.specs.declared.fault.SeqFault.{SeqFault}
use Rattle.campl_seqcheck.specs.declared.fault.SeqFault.TheVariants.{OutOfMemory, TypeDiffers}
use Rattle.campl_seqcheck.specs.Judged.{Judged, Is, Fails, Fine, fine, and_then}
use Rattle.campl_seqcheck.specs.Judging.{a_list, a_comparable}
use Rattle.campl_seqcheck.specs.Steps.{is_comparable}
use Rattle.campl_seqcheck.specs.Fitting.{item_type, pair_types}
use Rattle.campl_seqcheck.specs.Answered.{Refuses, StopsAt, IsVerdict}
use Rattle.std.specs.Result.{IsErr, IsErrAnd}

-- a refusal that was told
pub refused : {B : Type 0} (j : Judged SeqFault B) (fault told : SeqFault) → j ≡ Fails fault → Refuses fault told → (j ≡ Fails told) ⊎ (told ≡ OutOfMemory)
refused j fault told i (inl e) = inl (i ∙ ap (λ f. Fails f) (sym e))
refused j fault told i (inr e) = inr e

-- what is answered for another judging that is the same
pub follows : {A B : Type 0} (seen : A → B) (j k : Judged SeqFault B) (r : Result A SeqFault) → j ≡ k → IsVerdict seen k r → IsVerdict seen j r
follows seen j k r i a = subst (λ h. IsVerdict seen h r) (sym i) a

-- a refusal stays one with what would come next
pub stopped : {B C : Type 0} (first : Judged SeqFault C) (next : C → Judged SeqFault B) (fault : SeqFault) → StopsAt first fault → StopsAt (and_then first next) fault
stopped first next fault (inl e) = inl (ap (λ h. and_then h next) e)
stopped first next fault (inr e) = inr e

-- a refusal that `?` hands on
pub handed : {A B : Type 0} (seen : A → B) (j : Judged SeqFault B) (fault : SeqFault) (r : Result A SeqFault) → StopsAt j fault → IsErr r × IsErrAnd r (λ e. e ≡ fault) → IsVerdict seen j r
handed seen j fault (Ok x) a told = absurd told.1
handed seen j fault (Err e) (inl i) told = inl (i ∙ ap (λ f. Fails f) (sym told.1))
handed seen j fault (Err e) (inr i) told = inr (told.1 ∙ i)

-- want of memory that `?` hands on
pub starved : {A B : Type 0} (seen : A → B) (j : Judged SeqFault B) (r : Result A SeqFault) → IsErr r × IsErrAnd r (λ e. e ≡ OutOfMemory) → IsVerdict seen j r
starved seen j (Ok x) told = absurd told.1
starved seen j (Err e) told = inr told.1

-- One turn of a loop: what is judged from here on is the whole, and begins with a step

pub loop-went : {B C : Type 0} (here whole : Judged SeqFault B) (first : Judged SeqFault C) (next : C → Judged SeqFault B) (y : C) → first ≡ Is y → here ≡ and_then first next → here ≡ whole → next y ≡ whole
loop-went here whole first next y i step inv = sym (ap (λ h. and_then h next) i) ∙ sym step ∙ inv

pub loop-stopped : {A B C : Type 0} (seen : A → B) (here whole : Judged SeqFault B) (first : Judged SeqFault C) (next : C → Judged SeqFault B) (fault : SeqFault) (r : Result A SeqFault)
    → StopsAt first fault → IsErr r × IsErrAnd r (λ e. e ≡ fault) → here ≡ and_then first next → here ≡ whole → IsVerdict seen whole r
loop-stopped seen here whole first next fault r a told step inv =
    handed seen whole fault r (subst (λ j. StopsAt j fault) (sym step ∙ inv) (stopped first next fault a)) told

-- where a loop stands in a list
pub drop-at : {A : Type 0} (xs : List A) (i : ℕ) (x : A) → i < length xs → x ≡ get_or xs i x → drop i xs ≡ x ∷ drop (i + 1) xs
drop-at xs i x l is = drop_more xs i x l ∙ ap (λ y. y ∷ drop (i + 1) xs) (sym is)

abbrev pub item_so : Place → SeqType → Option SeqType → Judged SeqFault SeqType
item_so at t (Some u) = Is u
item_so at t None = Fails (TypeDiffers at (codes "[_]") (type_text t))

pub item-so : (at : Place) (t : SeqType) → item_type at t ≡ item_so at t (item_of t)
item-so at s.Int = refl
item-so at s.Char = refl
item-so at s.Bool = refl
item-so at (s.List t) = refl
item-so at (s.Pair t u) = refl
item-so at (s.Named there x ts) = refl
item-so at (s.Variable there x) = refl

abbrev pub pair_so : Place → SeqType → Option (SeqType × SeqType) → Judged SeqFault (SeqType × SeqType)
pair_so at t (Some u) = Is u
pair_so at t None = Fails (TypeDiffers at (codes "(_, _)") (type_text t))

pub pair-so : (at : Place) (t : SeqType) → pair_types at t ≡ pair_so at t (parts_of t)
pair-so at s.Int = refl
pair-so at s.Char = refl
pair-so at s.Bool = refl
pair-so at (s.List t) = refl
pair-so at (s.Pair t u) = refl
pair-so at (s.Named there x ts) = refl
pair-so at (s.Variable there x) = refl

-- what was looked up tells what is answered
pub no-item : (at : Place) (t : SeqType) → None ≡ item_of t → item_type at t ≡ Fails (TypeDiffers at (chars (91 ∷ 95 ∷ 93 ∷ [])) (type_text t))
unfolding chars
no-item at t i = item-so at t ∙ ap (item_so at t) (sym i)

pub no-pair : (at : Place) (t : SeqType) → None ≡ parts_of t → pair_types at t ≡ Fails (TypeDiffers at (chars (40 ∷ 95 ∷ 44 ∷ 32 ∷ 95 ∷ 41 ∷ [])) (type_text t))
unfolding chars
no-pair at t i = pair-so at t ∙ ap (pair_so at t) (sym i)

abbrev pub list_so : Place → SeqType → Option SeqType → Judged SeqFault Fine
list_so at t (Some u) = Is fine
list_so at t None = Fails (TypeDiffers at (type_text t) (codes "[_]"))

pub list-so : (at : Place) (t : SeqType) → a_list at t ≡ list_so at t (item_of t)
list-so at s.Int = refl
list-so at s.Char = refl
list-so at s.Bool = refl
list-so at (s.List t) = refl
list-so at (s.Pair t u) = refl
list-so at (s.Named there x ts) = refl
list-so at (s.Variable there x) = refl

pub no-list : (at : Place) (t : SeqType) → None ≡ item_of t → a_list at t ≡ Fails (TypeDiffers at (type_text t) (chars (91 ∷ 95 ∷ 93 ∷ [])))
unfolding chars
no-list at t i = list-so at t ∙ ap (list_so at t) (sym i)

-- what can't be compared
abbrev pub told_comparable : Place → SeqType → Truth → Judged SeqFault Fine
told_comparable at t true = Is fine
told_comparable at t false = Fails (TypeDiffers at (type_text t) (codes "Int, Char, Bool or [Char]"))

pub comparable-told : (at : Place) (t : SeqType) → a_comparable at t ≡ told_comparable at t (is_comparable t)
comparable-told at s.Int = refl
comparable-told at s.Char = refl
comparable-told at s.Bool = refl
comparable-told at (s.List s.Int) = refl
comparable-told at (s.List s.Char) = refl
comparable-told at (s.List s.Bool) = refl
comparable-told at (s.List (s.List t)) = refl
comparable-told at (s.List (s.Pair t u)) = refl
comparable-told at (s.List (s.Named there x ts)) = refl
comparable-told at (s.List (s.Variable there x)) = refl
comparable-told at (s.Pair t u) = refl
comparable-told at (s.Named there x ts) = refl
comparable-told at (s.Variable there x) = refl

pub no-comparable : (at : Place) (t : SeqType) → is_comparable t ≡ false → a_comparable at t ≡ Fails (TypeDiffers at (type_text t) (chars (73 ∷ 110 ∷ 116 ∷ 44 ∷ 32 ∷ 67 ∷ 104 ∷ 97 ∷ 114 ∷ 44 ∷ 32 ∷ 66 ∷ 111 ∷ 111 ∷ 108 ∷ 32 ∷ 111 ∷ 114 ∷ 32 ∷ 91 ∷ 67 ∷ 104 ∷ 97 ∷ 114 ∷ 93 ∷ [])))
unfolding chars
no-comparable at t i = comparable-told at t ∙ ap (told_comparable at t) i

pub a-comparable : (at : Place) (t : SeqType) → is_comparable t ≡ true → a_comparable at t ≡ Is fine
a-comparable at t i = comparable-told at t ∙ ap (told_comparable at t) i

pub ruleset answering = (item-so, refused)
