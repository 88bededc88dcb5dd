-- Names that are noted in a set differ from one another: only the set's members tell.
use Rattle.std.proofs.Common.{◌≡◌, ◌∙◌, refl, sym, ap, ℕ, ◌+◌, ◌<◌, ◌≤◌, Bool, true, false, ◌||◌, List, [], ◌∷◌, ◌++◌, if◌then◌else◌, drop, length, get_or}
use Rattle.std.proofs.lemmas.List.{drop_all}
use Rattle.campl_tree.specs.declared.place.Ident.{Ident}
use Rattle.campl_tree.specs.declared.process.Binder.{Binder}
use Rattle.campl_tree.specs.declared.process.Binder.TheVariants as binder
use Rattle.campl_tree.specs.Plain.Decl.{ProcessRow}
use Rattle.campl_types.specs.Names.{Name, same_name, is_among}
use Rattle.campl_names.specs.NameSet.{with_name, HaveSame}
use Rattle.campl_names.proofs.Declared.{among-behind}
use Rattle.campl_seqcheck.specs.declared.fault.SeqFault.TheVariants.{NameTwiceInPattern}
use Rattle.campl_seqcheck.specs.Judged.{fine, Judged, Is, Fails, and_then}
use Rattle.campl_seqcheck.proofs.Answered.{drop-at}
use Rattle.campl_linear.specs.Faults.{LinFault, Seq}
use Rattle.campl_linear.specs.Processes.{variables_bound, idents_of, names_differ}
use Rattle.campl_calls.specs.Headings.{noted, noted_one, noted_binder, noted_row}

-- From where a loop stands

pub note-at : (names : List Name) (idents : List Ident) (i : ℕ) (x : Ident) → i < length idents → x ≡ get_or idents i x
    → noted names (drop i idents) ≡ and_then (noted_one names x) (λ more. noted more (drop (i + 1) idents))
note-at names idents i x l is = ap (noted names) (drop-at idents i x l is)

pub note-end : (names : List Name) (idents : List Ident) (i : ℕ) → length idents ≤ i → noted names (drop i idents) ≡ Is names
note-end names idents i l = ap (noted names) (drop_all i idents l)

one-binder : (names : List Name) (b : Binder) (bs : List Binder) → noted names (variables_bound (b ∷ bs)) ≡ and_then (noted_binder names b) (λ more. noted more (variables_bound bs))
one-binder names (binder.Variable at x) bs = refl
one-binder names (binder.Wildcard at) bs = refl

pub binder-at : (names : List Name) (binders : List Binder) (i : ℕ) (b : Binder) → i < length binders → b ≡ get_or binders i b
    → noted names (variables_bound (drop i binders)) ≡ and_then (noted_binder names b) (λ more. noted more (variables_bound (drop (i + 1) binders)))
binder-at names binders i b l is = ap (λ bs. noted names (variables_bound bs)) (drop-at binders i b l is) ∙ one-binder names b (drop (i + 1) binders)

pub binder-end : (names : List Name) (binders : List Binder) (i : ℕ) → length binders ≤ i → noted names (variables_bound (drop i binders)) ≡ Is names
binder-end names binders i l = ap (λ bs. noted names (variables_bound bs)) (drop_all i binders l)

-- Two lists

in-three : {A B C : Type 0} (j : Judged LinFault A) (next : A → Judged LinFault B) (last : B → Judged LinFault C)
    → and_then (and_then j next) last ≡ and_then j (λ x. and_then (next x) last)
in-three (Is x) next last = refl
in-three (Fails fault) next last = refl

both-noted : (names : List Name) (xs ys : List Ident) → noted names (xs ++ ys) ≡ and_then (noted names xs) (λ more. noted more ys)
both-noted names [] ys = refl
both-noted names (x ∷ xs) ys = go (noted_one names x) (λ more. both-noted more xs ys)
  where
    go : (j : Judged LinFault (List Name)) → ((more : List Name) → noted more (xs ++ ys) ≡ and_then (noted more xs) (λ others. noted others ys))
        → and_then j (λ more. noted more (xs ++ ys)) ≡ and_then (and_then j (λ more. noted more xs)) (λ more. noted more ys)
    go (Is more) rest = rest more
    go (Fails fault) rest = refl

-- The set and the list of the names before

now-same : (x : Name) (set before : List Name) → HaveSame set before → is_among x set ≡ false → HaveSame (with_name x set) (x ∷ before)
now-same x set before h n y = rw n (among-behind y x set ∙ ap (λ b. same_name y x || b) (h y))

pub differ-noted : (set before : List Name) (xs : List Ident) → HaveSame set before → names_differ before xs ≡ and_then (noted set xs) (λ _. Is fine)
differ-noted set before [] h = refl
differ-noted set before (x ∷ xs) h = go (is_among x.name set) refl (λ e. differ-noted (with_name x.name set) (x.name ∷ before) xs (now-same x.name set before h e))
  where
    go : (b : Bool) → is_among x.name set ≡ b → (is_among x.name set ≡ false → names_differ (x.name ∷ before) xs ≡ and_then (noted (with_name x.name set) xs) (λ _. Is fine))
        → (if is_among x.name before then Fails (Seq (NameTwiceInPattern x.place x.name)) else names_differ (x.name ∷ before) xs)
        ≡ and_then (and_then (noted_one set x) (λ more. noted more xs)) (λ _. Is fine)
    go true e rest = rw (sym (h x.name) ∙ e, e) refl
    go false e rest = let now : is_among x.name before ≡ false = sym (h x.name) ∙ e in ap (λ b. if b then Fails (Seq (NameTwiceInPattern x.place x.name)) else names_differ (x.name ∷ before) xs) now ∙ rest e
        ∙ sym (ap (λ b. and_then (and_then (if b then Fails (Seq (NameTwiceInPattern x.place x.name)) else Is (with_name x.name set)) (λ more. noted more xs)) (λ _. Is fine)) e)

pub row-noted : (row : ProcessRow) → names_differ [] (idents_of row) ≡ and_then (noted_row [] row) (λ _. Is fine)
row-noted row =
    let vs = variables_bound row.variables in
    differ-noted [] [] (idents_of row) (λ y. refl)
    ∙ ap (λ j. and_then j (λ _. Is fine)) (both-noted [] (vs ++ row.inputs) row.outputs
    ∙ ap (λ j. and_then j (λ more. noted more row.outputs)) (both-noted [] vs row.inputs)
    ∙ in-three (noted [] vs) (λ more. noted more row.inputs) (λ more. noted more row.outputs))
