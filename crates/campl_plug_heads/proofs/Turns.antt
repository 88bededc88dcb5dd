-- What is judged from where a loop stands.
use Rattle.std.proofs.Common.{◌≡◌, ◌∙◌, refl, sym, ap, subst, ℕ, ◌+◌, ◌<◌, ◌≤◌, Bool, true, false, ◌||◌, List, [], ◌∷◌, ◌++◌, append_assoc, append-nil, map, drop, length, get_or}
use Rattle.std.proofs.lemmas.List.{drop_all}
use Rattle.campl_tree.specs.declared.place.Ident.{Ident}
use Rattle.campl_tree.specs.declared.process.Link as code
use Rattle.campl_tree.specs.declared.process.Part.{Part}
use Rattle.campl_tree.specs.declared.service.Side.{Side}
use Rattle.campl_tree.specs.Plain.Process.{Header}
use Rattle.campl_tree.specs.View.{view_link, view_part, parts}
use Rattle.campl_types.specs.Names.{Name, same_name, is_among, found}
use Rattle.campl_types.specs.World.{names_of}
use Rattle.campl_types.specs.Headers.{Links, link_names}
use Rattle.campl_types.proofs.Names.{among-append}
use Rattle.campl_types.proofs.Truth.{or-none}
use Rattle.campl_names.specs.NameSet.{HaveSame, with_name}
use Rattle.campl_names.specs.Scope.{with_names}
use Rattle.campl_names.proofs.Scopes.{with-append}
use Rattle.campl_seqcheck.specs.Judged.{Fine, fine, Judged, Is, and_then}
use Rattle.campl_seqcheck.proofs.Answered.{drop-at}
use Rattle.campl_linear.specs.Faults as plain
use Rattle.campl_linear.specs.Holding.{Holding}
use Rattle.campl_linear.specs.Channels.{new_name}
use Rattle.campl_linear.specs.Plugs.{stands_once, may_stand, links_are_new, names_stand, headers_stand}
use Rattle.campl_linear.proofs.Turns.{in-turn}
use Rattle.campl_held.specs.declared.fault.LinFault.{LinFault}
use Rattle.campl_held.specs.Answered.{Refused}
use Rattle.campl_held.proofs.Told.{stopped}
use Rattle.campl_plug_heads.specs.Heads.{Numbered, names_in, marked, numbered, all_names, link_stands, name_stands, header_stands, link_joins, links_join}
use Rattle.campl_plug_heads.proofs.Same.{regroup, same-last, same-turned, links-same, names-same, headers-same, headers-step}
use Rattle.campl_plug_heads.proofs.Names.{among-names, names-marked, names-append, same-set}

-- One turn of a loop

pub went : {B C : Type 0} (here whole : Judged plain.LinFault B) (first : Judged plain.LinFault C) (next : Judged plain.LinFault B) (y : C) → first ≡ Is y → here ≡ and_then first (λ _. next) → here ≡ whole → next ≡ whole
went here whole first next y i step inv = sym (ap (λ h. and_then h (λ _. next)) i) ∙ sym step ∙ inv

pub halted : {B C : Type 0} (here whole : Judged plain.LinFault B) (first : Judged plain.LinFault C) (next : Judged plain.LinFault B) (fault : LinFault)
    → Refused first fault → here ≡ and_then first (λ _. next) → here ≡ whole → Refused whole fault
halted here whole first next fault a step inv = subst (λ j. Refused j fault) (sym step ∙ inv) (stopped first (λ _. next) fault a)

-- Links

module _ (held : Holding) (links : List code.Link) (i : ℕ) where
  pub new-at : (seen : List Name) (l : code.Link) → i < length links → l ≡ get_or links i l
      → links_are_new held seen (map view_link (drop i links)) ≡ and_then (link_stands held seen l.name) (λ _. links_are_new held (with_name l.name.name seen) (map view_link (drop (i + 1) links)))
  new-at seen l n is =
      ap (λ ls. links_are_new held seen (map view_link ls)) (drop-at links i l n is)
      ∙ regroup (new_name l.name held) (stands_once l.name seen) (links_are_new held (l.name.name ∷ seen) (map view_link (drop (i + 1) links)))
      ∙ ap (λ (z : Judged plain.LinFault Fine). and_then (link_stands held seen l.name) (λ _. z))
      (links-same held (l.name.name ∷ seen) (with_name l.name.name seen) (map view_link (drop (i + 1) links)) (λ y. sym (among-names y seen (l.name.name ∷ []) ∙ first y)))
    where
      first : (y : Name) → (is_among y (l.name.name ∷ []) || is_among y seen) ≡ (same_name y l.name.name || is_among y seen)
      first y = go (same_name y l.name.name)
        where
          go : (b : Bool) → ((b || false) || is_among y seen) ≡ (b || is_among y seen)
          go true = refl
          go false = refl

  pub new-end : (seen : List Name) → length links ≤ i → links_are_new held seen (map view_link (drop i links)) ≡ Is fine
  new-end seen l = ap (λ ls. links_are_new held seen (map view_link ls)) (drop_all i links l)

pub seen-at : (links : List code.Link) (i : ℕ) (seen : List Name) (l : code.Link) → i < length links → l ≡ get_or links i l
    → with_names (with_name l.name.name seen) (link_names (map view_link (drop (i + 1) links))) ≡ with_names seen (link_names (map view_link (drop i links)))
seen-at links i seen l n is = ap (λ ls. with_names seen (link_names (map view_link ls))) (sym (drop-at links i l n is))

pub seen-end : (links : List code.Link) (i : ℕ) (seen : List Name) → length links ≤ i → with_names seen (link_names (map view_link (drop i links))) ≡ seen
seen-end links i seen n = ap (λ ls. with_names seen (link_names (map view_link ls))) (drop_all i links n)

module _ (ins outs : Numbered) (links : List code.Link) (i : ℕ) where
  pub join-at : (l : code.Link) → i < length links → l ≡ get_or links i l
      → links_join ins outs (map view_link (drop i links)) ≡ and_then (link_joins ins outs l.name) (λ _. links_join ins outs (map view_link (drop (i + 1) links)))
  join-at l n is = ap (λ ls. links_join ins outs (map view_link ls)) (drop-at links i l n is)

  pub join-end : length links ≤ i → links_join ins outs (map view_link (drop i links)) ≡ Is fine
  join-end n = ap (λ ls. links_join ins outs (map view_link ls)) (drop_all i links n)

-- Names of a header

once-so : (x : Ident) (names : List Name) → stands_once x names ≡ Is fine → is_among x.name names ≡ false
once-so x names i = go (is_among x.name names) refl
  where
    go : (b : Bool) → is_among x.name names ≡ b → is_among x.name names ≡ false
    go true e = absurd (cc (rw e at i))
    go false e = e

pub once-before : (f : Links) (held : Holding) (s : Side) (also : List Name) (before : Numbered) (x : Ident) → name_stands f held s (also ++ names_in before) x ≡ Is fine → is_among x.name (names_in before) ≡ false
once-before f held s also before x i =
    let j = in-turn (may_stand x s (f x.name) (found x.name held)) (λ _. stands_once x (also ++ names_in before)) fine i in
    (or-none (is_among x.name also) (is_among x.name (names_in before)) (sym (among-append x.name also (names_in before)) ∙ once-so x (also ++ names_in before) j.2)).1

module _ (f : Links) (held : Holding) (s : Side) (also : List Name) (xs : List Ident) (i : ℕ) where
  pub names-at : (before : Numbered) (n : ℕ) (x : Ident) → i < length xs → x ≡ get_or xs i x
      → names_stand f held s (also ++ names_in before) (drop i xs) ≡ and_then (name_stands f held s (also ++ names_in before) x) (λ _. names_stand f held s (also ++ names_in (before ++ (x.name, n) ∷ [])) (drop (i + 1) xs))
  names-at before n x l is =
      ap (names_stand f held s (also ++ names_in before)) (drop-at xs i x l is)
      ∙ regroup (may_stand x s (f x.name) (found x.name held)) (stands_once x (also ++ names_in before)) (names_stand f held s (x.name ∷ (also ++ names_in before)) (drop (i + 1) xs))
      ∙ ap (λ (z : Judged plain.LinFault Fine). and_then (name_stands f held s (also ++ names_in before) x) (λ _. z))
      (names-same f f held s (x.name ∷ (also ++ names_in before)) (also ++ names_in (before ++ (x.name, n) ∷ [])) (drop (i + 1) xs) (λ y. refl) same)
    where
      same : HaveSame (x.name ∷ (also ++ names_in before)) (also ++ names_in (before ++ (x.name, n) ∷ []))
      same y =
          same-last x.name (also ++ names_in before) y
          ∙ ap (is_among y) (append_assoc also (names_in before) (x.name ∷ []) ∙ ap (λ z. also ++ z) (sym (names-append before ((x.name, n) ∷ []))))

  pub names-end : (before : List Name) → length xs ≤ i → names_stand f held s before (drop i xs) ≡ Is fine
  names-end before l = ap (names_stand f held s before) (drop_all i xs l)

pub marked-at : (xs : List Ident) (i : ℕ) (before : Numbered) (n : ℕ) (x : Ident) → i < length xs → x ≡ get_or xs i x
    → (before ++ (x.name, n) ∷ []) ++ marked n (drop (i + 1) xs) ≡ before ++ marked n (drop i xs)
marked-at xs i before n x l is = append_assoc before ((x.name, n) ∷ []) (marked n (drop (i + 1) xs)) ∙ ap (λ ys. before ++ marked n ys) (sym (drop-at xs i x l is))

pub marked-end : (xs : List Ident) (i : ℕ) (before : Numbered) (n : ℕ) → length xs ≤ i → before ++ marked n (drop i xs) ≡ before
marked-end xs i before n l = ap (λ ys. before ++ marked n ys) (drop_all i xs l) ∙ append-nil before

-- a set of other names beside those before
pub own-stand : (f : Links) (held : Holding) (s : Side) (own ins before : List Name) (xs : List Ident) → own ≡ with_names [] ins → names_stand f held s (ins ++ before) xs ≡ names_stand f held s (own ++ before) xs
own-stand f held s own ins before xs i =
    names-same f f held s (ins ++ before) (own ++ before) xs (λ y. refl)
    (λ y. among-append y ins before ∙ ap (λ z. z || is_among y before) (sym (ap (is_among y) i ∙ same-set ins y)) ∙ sym (among-append y own before))

-- Headers

module _ (f : Links) (held : Holding) (ps : List Part) (i : ℕ) where
  pub headers-at : (ins outs : Numbered) (n : ℕ) (p : Part) → i < length ps → p ≡ get_or ps i p
      → headers_stand f held (names_in ins) (names_in outs) (parts (map view_part (drop i ps)))
      ≡ and_then (header_stands f held (names_in ins) (names_in outs) (view_part p).0) (λ _.
      headers_stand f held (names_in (ins ++ marked n (view_part p).0.inputs)) (names_in (outs ++ marked n (view_part p).0.outputs)) (parts (map view_part (drop (i + 1) ps))))
  headers-at ins outs n p l is =
      ap (λ qs. headers_stand f held (names_in ins) (names_in outs) (parts (map view_part qs))) (drop-at ps i p l is)
      ∙ headers-step f held (names_in ins) (names_in outs) (view_part p).0 (view_part p).1 (parts (map view_part (drop (i + 1) ps)))
      ∙ ap (λ (z : Judged plain.LinFault Fine). and_then (header_stands f held (names_in ins) (names_in outs) (view_part p).0) (λ _. z))
      (headers-same f f held (names_of (view_part p).0.inputs ++ names_in ins) (names_in (ins ++ marked n (view_part p).0.inputs))
      (names_of (view_part p).0.outputs ++ names_in outs) (names_in (outs ++ marked n (view_part p).0.outputs)) (parts (map view_part (drop (i + 1) ps)))
      (λ y. refl) (same ins (view_part p).0.inputs) (same outs (view_part p).0.outputs))
    where
      same : (es : Numbered) (xs : List Ident) → HaveSame (names_of xs ++ names_in es) (names_in (es ++ marked n xs))
      same es xs y = same-turned (names_of xs) (names_in es) y ∙ ap (is_among y) (ap (λ z. names_in es ++ z) (sym (names-marked n xs)) ∙ sym (names-append es (marked n xs)))

  pub headers-end : (ins outs : List Name) → length ps ≤ i → headers_stand f held ins outs (parts (map view_part (drop i ps))) ≡ Is fine
  headers-end ins outs l = ap (λ qs. headers_stand f held ins outs (parts (map view_part qs))) (drop_all i ps l)

pub numbered-at : (side : Header → List Ident) (ps : List Part) (i : ℕ) (es : Numbered) (n : ℕ) (p : Part) → i < length ps → p ≡ get_or ps i p
    → (es ++ marked n (side (view_part p).0)) ++ numbered side (n + 1) (parts (map view_part (drop (i + 1) ps))) ≡ es ++ numbered side n (parts (map view_part (drop i ps)))
numbered-at side ps i es n p l is =
    append_assoc es (marked n (side (view_part p).0)) (numbered side (n + 1) (parts (map view_part (drop (i + 1) ps))))
    ∙ ap (λ qs. es ++ numbered side n (parts (map view_part qs))) (sym (drop-at ps i p l is))

pub numbered-end : (side : Header → List Ident) (ps : List Part) (i : ℕ) (es : Numbered) (n : ℕ) → length ps ≤ i → es ++ numbered side n (parts (map view_part (drop i ps))) ≡ es
numbered-end side ps i es n l = ap (λ qs. es ++ numbered side n (parts (map view_part qs))) (drop_all i ps l) ∙ append-nil es

-- All names

pub all-at : (ps : List Part) (i : ℕ) (set : List Name) (p : Part) → i < length ps → p ≡ get_or ps i p
    → with_names (with_names set (names_of (view_part p).0.outputs ++ names_of (view_part p).0.inputs)) (all_names (parts (map view_part (drop (i + 1) ps)))) ≡ with_names set (all_names (parts (map view_part (drop i ps))))
all-at ps i set p l is =
    sym (with-append set (names_of (view_part p).0.outputs ++ names_of (view_part p).0.inputs) (all_names (parts (map view_part (drop (i + 1) ps)))))
    ∙ ap (λ qs. with_names set (all_names (parts (map view_part qs)))) (sym (drop-at ps i p l is))

pub all-end : (ps : List Part) (i : ℕ) (set : List Name) → length ps ≤ i → with_names set (all_names (parts (map view_part (drop i ps)))) ≡ set
all-end ps i set l = ap (λ qs. with_names set (all_names (parts (map view_part qs)))) (drop_all i ps l)

pub ruleset all = (all-at, all-end)
