-- What a process holds at first, from where a loop stands, and that each name that comes is new.
use Rattle.std.proofs.Common.{◌≡◌, ◌∙◌, refl, sym, ap, subst, ℕ, ◌+◌, ◌<◌, ◌≤◌, min, leb, Bool, true, false, ◌||◌, true≢false, List, [], ◌∷◌, ◌++◌, append_assoc, append-nil, map, Some, None, if◌then◌else◌, drop, length, get_or, arith}
use Rattle.std.proofs.lemmas.Bool.{leb-true, leb-false}
use Rattle.std.proofs.lemmas.List.{drop_all, map-append}
use Rattle.campl_tree.specs.declared.place.Ident.{Ident}
use Rattle.campl_tree.specs.declared.process.Binder.{Binder}
use Rattle.campl_tree.specs.declared.process.Binder.TheVariants as binder
use Rattle.campl_tree.specs.declared.service.Side.{Side}
use Rattle.campl_tree.specs.declared.service.Side.TheVariants.{Input}
use Rattle.campl_tree.specs.declared.types.ChanType as code
use Rattle.campl_tree.specs.declared.types.SeqType as code_seq
use Rattle.campl_tree.specs.Plain.ChanType.{ChanType}
use Rattle.campl_tree.specs.Plain.SeqType.{SeqType}
use Rattle.campl_tree.specs.Plain.Decl.{ProcessRow}
use Rattle.campl_tree.specs.View.{view_chan, view_seq}
use Rattle.campl_types.specs.Names.{Name, same_name, is_among, found, Within}
use Rattle.campl_types.specs.Fits.{Vars}
use Rattle.campl_types.specs.Held.{Channel, On}
use Rattle.campl_types.specs.Linear.{bound, row_variables}
use Rattle.campl_types.proofs.Truth.{or-first, or-second, as-false, no-both}
use Rattle.campl_names.proofs.Declared.{among-behind}
use Rattle.campl_seqcheck.specs.declared.fault.SeqFault.TheVariants.{NameTwiceInPattern}
use Rattle.campl_seqcheck.specs.Judged.{fine, Is, Fails}
use Rattle.campl_seqcheck.proofs.Answered.{drop-at}
use Rattle.campl_linear.specs.Faults.{Seq}
use Rattle.campl_linear.specs.Holding.{Holding, comes}
use Rattle.campl_linear.specs.Processes.{variables_bound, idents_of, names_differ, entering}
use Rattle.campl_calls.specs.Headings.{held_names}

-- Names that differ

abbrev Differ : List Name → List Ident → Type 0
Differ before xs = names_differ before xs ≡ Is fine

-- the first is new, and the others differ from it too
first-differs : (before : List Name) (x : Ident) (xs : List Ident) → Differ before (x ∷ xs) → (is_among x.name before ≡ false) × Differ (x.name ∷ before) xs
first-differs before x xs d = go (is_among x.name before) refl d
  where
    go : (b : Bool) → is_among x.name before ≡ b → (if b then Fails (Seq (NameTwiceInPattern x.place x.name)) else names_differ (x.name ∷ before) xs) ≡ Is fine
        → (is_among x.name before ≡ false) × Differ (x.name ∷ before) xs
    go true e i = absurd (let none : ⊥ = cc in none)
    go false e i = (e, i)

more-within : (x : Name) (bs before : List Name) → Within bs before → Within (x ∷ bs) (x ∷ before)
more-within x bs before h y = go (same_name y x)
  where
    go : (b : Bool) → (b || is_among y bs) ≡ true → (b || is_among y before) ≡ true
    go true i = refl
    go false i = h y i

-- they differ beside fewer names too
fewer : (bs before : List Name) (xs : List Ident) → Within bs before → Differ before xs → Differ bs xs
fewer bs before [] h d = refl
fewer bs before (x ∷ xs) h d =
    let k = first-differs before x xs d in
    let n : is_among x.name bs ≡ false = as-false (is_among x.name bs) (λ i. no-both (is_among x.name before) (h x.name i) k.0) in
    rw n (fewer (x.name ∷ bs) (x.name ∷ before) xs (more-within x.name bs before h) k.1)

-- the names behind which others are judged
abbrev noting : List Name → List Ident → List Name
noting before [] = before
noting before (x ∷ xs) = noting (x.name ∷ before) xs

sooner : (before : List Name) (xs ys : List Ident) → Differ before (xs ++ ys) → Differ before xs
sooner before [] ys d = refl
sooner before (x ∷ xs) ys d =
    let k = first-differs before x (xs ++ ys) d in let n : is_among x.name before ≡ false = k.0 in
    rw n (sooner (x.name ∷ before) xs ys k.1)

later : (before : List Name) (xs ys : List Ident) → Differ before (xs ++ ys) → Differ (noting before xs) ys
later before [] ys d = d
later before (x ∷ xs) ys d = later (x.name ∷ before) xs ys (first-differs before x (xs ++ ys) d).1

noting-both : (before : List Name) (xs ys : List Ident) → noting before (xs ++ ys) ≡ noting (noting before xs) ys
noting-both before [] ys = refl
noting-both before (x ∷ xs) ys = noting-both (x.name ∷ before) xs ys

stays-noted : (before : List Name) (xs : List Ident) → Within before (noting before xs)
stays-noted before [] y i = i
stays-noted before (x ∷ xs) y i = stays-noted (x.name ∷ before) xs y (or-second (same_name y x.name) (is_among y before) i)

entering-noted : (s : Side) (before : List Name) (xs : List Ident) (ts : List ChanType) → Within (held_names (entering s xs ts)) (noting before xs)
entering-noted s before [] ts y i = absurd (true≢false (sym i))
entering-noted s before (x ∷ xs) [] y i = absurd (true≢false (sym i))
entering-noted s before (x ∷ xs) (t ∷ ts) y i = go (same_name y x.name) refl i (entering-noted s (x.name ∷ before) xs ts y)
  where
    go : (b : Bool) → same_name y x.name ≡ b → (b || is_among y (held_names (entering s xs ts))) ≡ true
        → (is_among y (held_names (entering s xs ts)) ≡ true → is_among y (noting (x.name ∷ before) xs) ≡ true) → is_among y (noting (x.name ∷ before) xs) ≡ true
    go true e j rest = stays-noted (x.name ∷ before) xs y (or-first (same_name y x.name) (is_among y before) e)
    go false e j rest = rest j

module _ (row : ProcessRow) (d : Differ [] (idents_of row)) where
  -- the inputs differ from one another
  pub inputs-differ : Differ [] row.inputs
  inputs-differ =
      let vs = variables_bound row.variables in
      fewer [] (noting [] vs) row.inputs (λ y i. absurd (true≢false (sym i))) (later [] vs row.inputs (sooner [] (vs ++ row.inputs) row.outputs d))

  -- and the outputs from the inputs too
  pub outputs-differ : (ts : List ChanType) → Differ (held_names (entering Input row.inputs ts)) row.outputs
  outputs-differ ts =
      let vs = variables_bound row.variables in
      fewer (held_names (entering Input row.inputs ts)) (noting [] (vs ++ row.inputs)) row.outputs
      (subst (Within (held_names (entering Input row.inputs ts))) (sym (noting-both [] vs row.inputs)) (entering-noted Input (noting [] vs) row.inputs ts))
      (later [] (vs ++ row.inputs) row.outputs d)

-- Channels that come

not-found : (x : Name) (held : Holding) → is_among x (held_names held) ≡ false → found x held ≡ None
not-found x [] n = refl
not-found x (e ∷ held) n = go (same_name x e.0) n (not-found x held)
  where
    go : (b : Bool) → (b || is_among x (held_names held)) ≡ false → (is_among x (held_names held) ≡ false → found x held ≡ None) → (if b then Some e.1 else found x held) ≡ None
    go true i rest = absurd (true≢false i)
    go false i rest = rest i

come-behind : (x : Name) (c : Channel) (held : Holding) → Within (held_names (comes x c held)) (x ∷ held_names held)
come-behind x c held y i = sym (among-behind y x (held_names held)) ∙ ap (is_among y) (sym (map-append (λ (e : Name × Channel). e.0) held ((x, c) ∷ []))) ∙ i

module _ (s : Side) (names : List Ident) (types : List code.ChanType) (i : ℕ) where
  -- the name where the loop stands isn't held
  pub new-at : (held : Holding) (x : Ident) → i < length names → x ≡ get_or names i x → Differ (held_names held) (drop i names) → found x.name held ≡ None
  new-at held x l is d =
      not-found x.name held (first-differs (held_names held) x (drop (i + 1) names) (subst (Differ (held_names held)) (drop-at names i x l is) d)).0

  pub differ-more : (held : Holding) (c : Channel) (x : Ident) → i < length names → x ≡ get_or names i x → Differ (held_names held) (drop i names)
      → Differ (held_names (comes x.name c held)) (drop (i + 1) names)
  differ-more held c x l is d =
      fewer (held_names (comes x.name c held)) (x.name ∷ held_names held) (drop (i + 1) names) (come-behind x.name c held)
      (first-differs (held_names held) x (drop (i + 1) names) (subst (Differ (held_names held)) (drop-at names i x l is) d)).1

  enter-at : (x : Ident) (t : code.ChanType) → i < min (length names) (length types) → x ≡ get_or names i x → t ≡ get_or types i t
      → entering s (drop i names) (map view_chan (drop i types)) ≡ (x.name, On s (view_chan t)) ∷ entering s (drop (i + 1) names) (map view_chan (drop (i + 1) types))
  enter-at x t l is so =
      ap (λ xs. entering s xs (map view_chan (drop i types))) (drop-at names i x (omega (arith, l)) is)
      ∙ ap (λ ts. entering s (x ∷ drop (i + 1) names) (map view_chan ts)) (drop-at types i t (omega (arith, l)) so)

  pub entered-more : (held : Holding) (x : Ident) (t : code.ChanType) → i < min (length names) (length types) → x ≡ get_or names i x → t ≡ get_or types i t
      → comes x.name (On s (view_chan t)) held ++ entering s (drop (i + 1) names) (map view_chan (drop (i + 1) types)) ≡ held ++ entering s (drop i names) (map view_chan (drop i types))
  entered-more held x t l is so =
      append_assoc held ((x.name, On s (view_chan t)) ∷ []) (entering s (drop (i + 1) names) (map view_chan (drop (i + 1) types)))
      ∙ ap (λ e. held ++ e) (sym (enter-at x t l is so))

  none-enter : (xs : List Ident) → entering s xs [] ≡ []
  none-enter [] = refl
  none-enter (x ∷ xs) = refl

  pub entered-end : (held : Holding) → min (length names) (length types) ≤ i → held ++ entering s (drop i names) (map view_chan (drop i types)) ≡ held
  entered-end held l = ap (λ e. held ++ e) (go (leb (length names) i) refl) ∙ append-nil held
    where
      go : (b : Bool) → leb (length names) i ≡ b → entering s (drop i names) (map view_chan (drop i types)) ≡ []
      go true e = ap (λ xs. entering s xs (map view_chan (drop i types))) (drop_all i names (leb-true (length names) i e))
      go false e =
          let more : i < length names = leb-false (length names) i e in let less : length types ≤ i = omega (arith, l, more) in
          ap (λ ts. entering s (drop i names) (map view_chan ts)) (drop_all i types less) ∙ none-enter (drop i names)

-- Variables that are bound

bound-behind : (b : Binder) (t : SeqType) (vs : Vars) → bound b t vs ≡ bound b t [] ++ vs
bound-behind (binder.Variable at x) t vs = refl
bound-behind (binder.Wildcard at) t vs = refl

no-variables : (bs : List Binder) → row_variables bs [] ≡ []
no-variables [] = refl
no-variables (b ∷ bs) = refl

module _ (binders : List Binder) (types : List code_seq.SeqType) (i : ℕ) where
  pub bound-more : (b : Binder) (t : code_seq.SeqType) (vs : Vars) → i < min (length binders) (length types) → b ≡ get_or binders i b → t ≡ get_or types i t
      → row_variables (drop (i + 1) binders) (map view_seq (drop (i + 1) types)) ++ bound b (view_seq t) vs ≡ row_variables (drop i binders) (map view_seq (drop i types)) ++ vs
  bound-more b t vs l is so =
      let rest = row_variables (drop (i + 1) binders) (map view_seq (drop (i + 1) types)) in
      ap (λ us. rest ++ us) (bound-behind b (view_seq t) vs)
      ∙ sym (append_assoc rest (bound b (view_seq t) []) vs)
      ∙ sym (ap (λ bs. row_variables bs (map view_seq (drop i types)) ++ vs) (drop-at binders i b (omega (arith, l)) is)
      ∙ ap (λ ts. row_variables (b ∷ drop (i + 1) binders) (map view_seq ts) ++ vs) (drop-at types i t (omega (arith, l)) so))

  pub bound-end : (vs : Vars) → min (length binders) (length types) ≤ i → row_variables (drop i binders) (map view_seq (drop i types)) ++ vs ≡ vs
  bound-end vs l = ap (λ us. us ++ vs) (go (leb (length binders) i) refl)
    where
      go : (b : Bool) → leb (length binders) i ≡ b → row_variables (drop i binders) (map view_seq (drop i types)) ≡ []
      go true e = ap (λ bs. row_variables bs (map view_seq (drop i types))) (drop_all i binders (leb-true (length binders) i e))
      go false e =
          let more : i < length binders = leb-false (length binders) i e in let less : length types ≤ i = omega (arith, l, more) in
          ap (λ ts. row_variables (drop i binders) (map view_seq ts)) (drop_all i types less) ∙ no-variables (drop i binders)
