-- Judgements in turn.
use Rattle.std.proofs.Common.{◌≡◌, ◌∙◌, refl, sym, subst, List, [], ◌∷◌, ◌++◌, Result, Ok, Err, ap, ℕ, ◌+◌, ◌<◌, length, get_or, drop}
use Rattle.std.specs.Result.{IsErr, IsErrAnd}
use Rattle.std.proofs.lemmas.List.{drop_more, drop_all}
use Rattle.campl_types.specs.declared.fault.NameFault.{NameFault}
use Rattle.campl_types.specs.declared.fault.NameFault.TheVariants.{OutOfMemory}
use Rattle.campl_names.specs.Judges.{Judges, passes, refuses, starves}

module _ {A : Type 0} where
  pub passed : (faults : List NameFault) (r : Result A NameFault) (x : A) → r ≡ Ok x → faults ≡ [] → Judges faults r
  passed faults r x i j = rw (i, j) passes

  pub refused : (fault : NameFault) (more : List NameFault) → Judges {A = A} (fault ∷ more) (Err fault)
  refused fault more = refuses

  pub starved : (faults : List NameFault) (r : Result A NameFault) → r ≡ Err OutOfMemory → Judges faults r
  starved faults r i = rw i starves

  pub none-passed : (faults : List NameFault) (x : A) → Judges faults (Ok x) → faults ≡ []
  none-passed faults x passes = refl

  pub same-faults : (es fs : List NameFault) (r : Result A NameFault) → Judges es r → es ≡ fs → Judges fs r
  same-faults es fs r j i = subst (λ gs. Judges gs r) i j

  pub one-first : (fault : NameFault) (more : List NameFault) (r : Result A NameFault) → Judges (fault ∷ []) r → Judges (fault ∷ more) r
  one-first fault more r refuses = refuses
  one-first fault more r starves = starves

module _ {A B : Type 0} where
  pub in-turn : (es fs : List NameFault) (x : A) (r : Result B NameFault) → Judges es (Ok x) → Judges fs r → Judges (es ++ fs) r
  in-turn es fs x r passes j = j

  pub stopped : (es fs : List NameFault) (fault : NameFault) → Judges {A = A} es (Err fault) → Judges {A = B} (es ++ fs) (Err fault)
  stopped es fs fault refuses = refuses
  stopped es fs fault starves = starves

  pub handed-on : (es : List NameFault) (fault : NameFault) → Judges {A = A} es (Err fault) → Judges {A = B} es (Err fault)
  handed-on es fault refuses = refuses
  handed-on es fault starves = starves

  pub passed-on : (es : List NameFault) (x : A) (y : B) → Judges {A = A} es (Ok x) → Judges {A = B} es (Ok y)
  passed-on es x y passes = passes

pub ruleset judged = (passed, refused, starved, none-passed, one-first, in-turn, stopped, handed-on)

-- a fault that a call hands on
module _ {A B : Type 0} where
  pub err-first : (es rest : List NameFault) (fault : NameFault) (r : Result B NameFault) → Judges {A = A} es (Err fault) → IsErr r × IsErrAnd r (λ e. e ≡ fault) → Judges {A = B} (es ++ rest) r
  err-first es rest fault (Ok x) j told = absurd told.1
  err-first es rest fault (Err e) j told = rw told.1 (stopped es rest fault j)

  -- from the item where a loop stands
  pub loop-stopped : {X : Type 0} (F : List X → List NameFault) (xs : List X) (i : ℕ) (x : X) (es rest : List NameFault) (fault : NameFault) (r : Result B NameFault) (whole : List NameFault)
      → Judges {A = A} es (Err fault) → IsErr r × IsErrAnd r (λ e. e ≡ fault) → i < length xs → x ≡ get_or xs i x → F (drop i xs) ≡ whole → F (x ∷ drop (i + 1) xs) ≡ es ++ rest → Judges {A = B} whole r
  loop-stopped F xs i x es rest fault r whole j told lt is inv step =
      same-faults (es ++ rest) whole r (err-first es rest fault r j told)
      (sym step ∙ ap F (ap (λ y. y ∷ drop (i + 1) xs) is ∙ sym (drop_more xs i x lt)) ∙ inv)

-- for a loop over a list
pub ruleset judged_all = (judged, drop_more, drop_all)

-- for an answer of another type
pub ruleset judged_on = (judged, passed-on)
