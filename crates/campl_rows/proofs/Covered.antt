-- The first constructor without a row.
use Rattle.std.proofs.Common.{◌≡◌, ◌∙◌, refl, sym, ap, subst, Result, Bool, true, false, if◌then◌else◌, List, [], ◌∷◌, Option, Some, None, ℕ, ◌+◌, ◌<◌, ◌≤◌, length, drop, get_or, slice_get}
use Rattle.std.proofs.lemmas.List.{drop_more, drop_all}
use Rattle.std.proofs.lemmas.Option.{slice_get-get_or}
use Rattle.campl_tree.specs.declared.place.Place.{Place}
use Rattle.campl_tree.specs.Plain.Process.{HcaseRows}
use Rattle.campl_types.specs.Names.{Name, is_among}
use Rattle.campl_types.specs.Polarity.{Choices}
use Rattle.campl_names.specs.NameSet.{HaveSame}
use Rattle.campl_seqcheck.specs.Judged.{Fine, fine, Judged, Is, Fails, and_then}
use Rattle.campl_linear.specs.Faults.{LinFault, CaseMissing}
use Rattle.campl_linear.specs.Channels.{Used}
use Rattle.campl_linear.specs.Rows.{row_names, rows_offered, each_has_row, some_row}
use Rattle.campl_held.specs.Chosen.{choice_names}
use Rattle.campl_held.specs.declared.fault.LinFault.{LinFault as Code}
use Rattle.campl_held.specs.Answered.{Refused, Answers}
use Rattle.campl_held.proofs.Told.{refused, stopped, follows}
use Rattle.campl_rows.specs.Steps.{rows_stand}
use Rattle.campl_rows.specs.Covered.{first_missing, missing_of}

abbrev missing_so : Place → Option Name → Judged LinFault Fine
missing_so at None = Is fine
missing_so at (Some k) = Fails (CaseMissing at k)

each-so : (at : Place) (cs : Choices) (names : List Name) → each_has_row at cs names ≡ missing_so at (first_missing (choice_names cs) names)
each-so at [] names = refl
each-so at (c ∷ cs) names = go (is_among c.0 names) (each-so at cs names)
  where
    go : (b : Bool) → each_has_row at cs names ≡ missing_so at (first_missing (choice_names cs) names)
        → (if b then each_has_row at cs names else Fails (CaseMissing at c.0)) ≡ missing_so at (if b then first_missing (choice_names cs) names else Some c.0)
    go true ih = ih
    go false ih = refl

module _ (at : Place) (cs : Choices) (lines names : List Name) (i : lines ≡ choice_names cs) where
  pub none-missing : None ≡ first_missing lines names → each_has_row at cs names ≡ Is fine
  none-missing j = each-so at cs names ∙ ap (λ ks. missing_so at (first_missing ks names)) (sym i) ∙ ap (missing_so at) (sym j)

  pub one-missing : (k : Name) → Some k ≡ first_missing lines names → each_has_row at cs names ≡ Fails (CaseMissing at k)
  one-missing k j = each-so at cs names ∙ ap (λ ks. missing_so at (first_missing ks names)) (sym i) ∙ ap (missing_so at) (sym j)

-- by the members of the names
pub each-same : (at : Place) (cs : Choices) (xs ys : List Name) → HaveSame xs ys → each_has_row at cs xs ≡ each_has_row at cs ys
each-same at [] xs ys h = refl
each-same at (c ∷ cs) xs ys h =
    ap (λ r. if is_among c.0 xs then r else Fails (CaseMissing at c.0)) (each-same at cs xs ys h)
    ∙ ap (λ b. if b then each_has_row at cs ys else Fails (CaseMissing at c.0)) (h c.0)

-- the lines behind one that has a row
module _ (ks names : List Name) (i : ℕ) (l : i < length ks) (whole : Option Name) (inv : first_missing (drop i ks) names ≡ whole) where
  here : whole ≡ first_missing (get_or ks i [] ∷ drop (i + 1) ks) names
  here = sym inv ∙ ap (λ rest. first_missing rest names) (drop_more ks i [] l)

  line : slice_get ks i ≡ Some (get_or ks i [])
  line = slice_get-get_or ks i [] l

  pub line-went : None ≡ missing_of (slice_get ks i) names → first_missing (drop (i + 1) ks) names ≡ whole
  line-went j = go (is_among (get_or ks i []) names) (j ∙ ap (λ o. missing_of o names) line) ∙ sym here
    where
      go : (b : Bool) → None ≡ (if b then None else Some (get_or ks i [])) → first_missing (drop (i + 1) ks) names ≡ (if b then first_missing (drop (i + 1) ks) names else Some (get_or ks i []))
      go true k = refl
      go false k = absurd (let none : ⊥ = cc in none)

  pub line-found : (x : Name) → Some x ≡ missing_of (slice_get ks i) names → Some x ≡ whole
  line-found x j = go (is_among (get_or ks i []) names) (j ∙ ap (λ o. missing_of o names) line) ∙ sym here
    where
      go : (b : Bool) → Some x ≡ (if b then None else Some (get_or ks i [])) → Some x ≡ (if b then first_missing (drop (i + 1) ks) names else Some (get_or ks i []))
      go true k = absurd (let none : ⊥ = cc in none)
      go false k = k

pub lines-end : (ks names : List Name) (i : ℕ) → length ks ≤ i → first_missing (drop i ks) names ≡ None
lines-end ks names i l = ap (λ rest. first_missing rest names) (drop_all i ks l)

-- the rows, by a set of their names
module _ (at : Place) (x : Name) (u : Used Choices) (rows : HcaseRows) (names : List Name) (offered : rows_offered x u [] rows ≡ Is fine) (same : HaveSame names (row_names rows)) where
  offered-so : rows_stand at x u rows ≡ and_then (each_has_row at u.may names) (λ _. some_row at x u rows)
  offered-so =
      ap (λ (j : Judged LinFault Fine). and_then j (λ _. and_then (each_has_row at u.may (row_names rows)) (λ _. some_row at x u rows))) offered
      ∙ ap (λ (j : Judged LinFault Fine). and_then j (λ _. some_row at x u rows)) (sym (each-same at u.may names (row_names rows) same))

  pub rows-judged : (r : Result (Unit {0}) Code) → each_has_row at u.may names ≡ Is fine → Answers (λ _. fine) (some_row at x u rows) r → Answers (λ _. fine) (rows_stand at x u rows) r
  rows-judged r i a = follows (λ _. fine) (rows_stand at x u rows) (some_row at x u rows) r (offered-so ∙ ap (λ (j : Judged LinFault Fine). and_then j (λ _. some_row at x u rows)) i) a

  pub rows-refused : (fault : Code) → Refused (each_has_row at u.may names) fault → Refused (rows_stand at x u rows) fault
  rows-refused fault a = subst (λ (j : Judged LinFault Fine). Refused j fault) (sym offered-so) (stopped (each_has_row at u.may names) (λ _. some_row at x u rows) fault a)

pub ruleset covered = (refused, none-missing, one-missing)
