-- A row of patterns matches where its tests hold, and its variables stand for the values at its places.
use Rattle.std.proofs.Common.{◌≡◌, ◌∙◌, refl, sym, ap, subst, arith, ℕ, suc, ◌+◌, Bool, true, false, ◌&&◌, List, [], ◌∷◌, ◌++◌, Option, Some, None, if◌then◌else◌, eqb, eqb-true, eq-eqb, length, append_assoc, slice_get, true≢false}
use Rattle.std.proofs.lemmas.List.{append-nil}
use Rattle.std.specs.Prelude.{option_map}
use Rattle.std.specs.Ordering.{int_eq}
use Rattle.campl_value.specs.Tree as v
use Rattle.campl_value.specs.Tree.{Tree, Trees, list_of}
use Rattle.campl_types.specs.Forms as form
use Rattle.campl_types.specs.Forms.{Form, Forms}
use Rattle.campl_types.specs.Matching.{Bindings, both, where_holds, same_truth, matched, all_matched, row_matched, first_match, or_next, number_of, is_number}
use Rattle.campl_types.specs.World.{World}
use Rattle.campl_code.specs.Decisions.{Head, Spot, StandsForRows, head_of, same_head, parts_of, within, value_at, with_first, values_at, fits_head, in_order}
use Rattle.campl_code.specs.Compiled.{Asked, never, count_forms, built_test, tests_in, tests_in_parts, spots_in, spots_in_parts, row_tests, row_spots, flat_tests, flat_rows, weight, decision_for}
use Rattle.campl_code.proofs.Deciding.{fits, all_hold, first_flat, tree-finds}

eqb-less : (a b : ℕ) → eqb (suc a) (suc b) ≡ false → eqb a b ≡ false
eqb-less a b h = go (eqb a b) refl
  where
    go : (c : Bool) → eqb a b ≡ c → c ≡ false
    go true k = absurd (true≢false (sym (eq-eqb (suc a) (suc b) (ap suc (eqb-true a b k))) ∙ h))
    go false k = refl

-- a row that was found, its number counted on from i
abbrev found_from : ℕ → Option (ℕ × Bindings) → Option (ℕ × List Tree)
found_from i None = None
found_from i (Some r) = Some (i + r.0, in_order r.1)

in_order-append : (xs ys : Bindings) → in_order (xs ++ ys) ≡ in_order ys ++ in_order xs
in_order-append [] ys = sym (append-nil (in_order ys))
in_order-append (b ∷ xs) ys = ap (λ (l : List Tree). l ++ b.1 ∷ []) (in_order-append xs ys) ∙ append_assoc (in_order ys) (in_order xs) (b.1 ∷ [])

within-nil : (o : Option Tree) → within o [] ≡ o
within-nil None = refl
within-nil (Some t) = refl

within-part : (path : List ℕ) (o : Option Tree) (t : Tree) (i : ℕ) → within o path ≡ Some t → within o (path ++ i ∷ []) ≡ slice_get (parts_of t) i
within-part [] None t i h = absurd (cc h)
within-part [] (Some u) t i h = let same : u ≡ t = cc h in within-nil (slice_get (parts_of u) i) ∙ ap (λ x. slice_get (parts_of x) i) same
within-part (j ∷ path) None t i h = absurd (cc h)
within-part (j ∷ path) (Some u) t i h = within-part path (slice_get (parts_of u) j) t i h

value-part : (vs : List Tree) (s : Spot) (t : Tree) (i : ℕ) → value_at vs s ≡ Some t → value_at vs (s ++ i ∷ []) ≡ slice_get (parts_of t) i
value-part vs [] t i h = absurd (cc h)
value-part vs (j ∷ path) t i h = within-part path (slice_get vs j) t i h

module _ (vs : List Tree) where
  -- what matching says, the tests and places say too
  abbrev pub FitsAs : Option Bindings → List Asked → List Spot → Type 0
  FitsAs (Some bs) tests spots = (all_hold vs tests ≡ true) × (values_at vs spots ≡ Some (in_order bs))
  FitsAs None tests spots = all_hold vs tests ≡ false

  hold-append : (xs ys : List Asked) → all_hold vs (xs ++ ys) ≡ (all_hold vs xs && all_hold vs ys)
  hold-append [] ys = refl
  hold-append (x ∷ xs) ys = ap (λ b. fits vs x && b) (hold-append xs ys) ∙ assoc (fits vs x)
    where
      assoc : (b : Bool) → (b && (all_hold vs xs && all_hold vs ys)) ≡ ((b && all_hold vs xs) && all_hold vs ys)
      assoc true = refl
      assoc false = refl

  values-append : (xs ys : List Spot) (ts us : List Tree) → values_at vs xs ≡ Some ts → values_at vs ys ≡ Some us → values_at vs (xs ++ ys) ≡ Some (ts ++ us)
  values-append [] ys ts us h k = k ∙ ap (λ (l : List Tree). Some (l ++ us)) (let e : [] ≡ ts = cc h in e)
  values-append (x ∷ xs) ys ts us h k = go (value_at vs x) (values_at vs xs) refl h (λ ls e. values-append xs ys ls us e k)
    where
      go : (o : Option Tree) (l : Option (List Tree)) → values_at vs xs ≡ l → with_first o l ≡ Some ts → ((ls : List Tree) → values_at vs xs ≡ Some ls → values_at vs (xs ++ ys) ≡ Some (ls ++ us)) → with_first o (values_at vs (xs ++ ys)) ≡ Some (ts ++ us)
      go (Some t) (Some ls) e h next = ap (with_first (Some t)) (next ls e) ∙ ap (λ (l : List Tree). Some (l ++ us)) (let e : t ∷ ls ≡ ts = cc h in e)
      go (Some t) None e h next = absurd (cc h)
      go None l e h next = absurd (cc h)

  none-false : (b : Bool) → (b && false) ≡ false
  none-false true = refl
  none-false false = refl

  fits-both : (o q : Option Bindings) (t1 t2 : List Asked) (s1 s2 : List Spot) → FitsAs o t1 s1 → FitsAs q t2 s2 → FitsAs (both o q) (t1 ++ t2) (s1 ++ s2)
  fits-both (Some xs) (Some ys) t1 t2 s1 s2 h k =
      (hold-append t1 t2 ∙ ap (λ b. b && all_hold vs t2) h.0 ∙ k.0, values-append s1 s2 (in_order xs) (in_order ys) h.1 k.1 ∙ ap Some (sym (in_order-append ys xs)))
  fits-both (Some xs) None t1 t2 s1 s2 h k = hold-append t1 t2 ∙ ap (λ b. all_hold vs t1 && b) k ∙ none-false (all_hold vs t1)
  fits-both None q t1 t2 s1 s2 h k = hold-append t1 t2 ∙ ap (λ b. b && all_hold vs t2) h

  fits-under : (o : Option Bindings) (a : Asked) (ts : List Asked) (ss : List Spot) → fits vs a ≡ true → FitsAs o ts ss → FitsAs o (a ∷ ts) ss
  fits-under (Some bs) a ts ss e h = (ap (λ b. b && all_hold vs ts) e ∙ h.0, h.1)
  fits-under None a ts ss e h = ap (λ b. b && all_hold vs ts) e ∙ h

  fits-not : (a : Asked) (ts : List Asked) (ss : List Spot) → fits vs a ≡ false → FitsAs None (a ∷ ts) ss
  fits-not a ts ss e = ap (λ b. b && all_hold vs ts) e

  leaf-fits : (s : Spot) (t : Tree) (h : Head) (b : Bool) → value_at vs s ≡ Some t → same_head h (head_of t) ≡ b → FitsAs (where_holds b) ((s, h) ∷ []) []
  leaf-fits s t h true e k = (ap (λ b. b && true) (ap (fits_head h) e ∙ k), refl)
  leaf-fits s t h false e k = ap (λ b. b && true) (ap (fits_head h) e ∙ k)

  -- a constructor of another number, or with another number of parts, doesn't match
  parts-differ : (w : World) (ps : Forms) (us : Trees) → eqb (count_forms ps) (length (list_of us)) ≡ false → all_matched w ps us ≡ None
  parts-differ w form.none v.none h = absurd (true≢false h)
  parts-differ w form.none (v.more u us) h = refl
  parts-differ w (form.more p ps) v.none h = refl
  parts-differ w (form.more p ps) (v.more u us) h = ap (λ o. both (matched w p u) o) (parts-differ w ps us (eqb-less (count_forms ps) (length (list_of us)) h)) ∙ none (matched w p u)
    where
      none : (o : Option Bindings) → both o None ≡ None
      none None = refl
      none (Some bs) = refl

  built-fits : (w : World) (o : Option ℕ) (s : Spot) (n : ℕ) (ps : Forms) (us : Trees) (ts : List Asked) (ss : List Spot) → value_at vs s ≡ Some (v.Built n us) → (count_forms ps ≡ length (list_of us) → FitsAs (all_matched w ps us) ts ss)
      → FitsAs (if is_number o n then all_matched w ps us else None) (built_test o s (count_forms ps) ∷ ts) ss
  built-fits w None s n ps us ts ss e next = refl
  built-fits w (Some m) s n ps us ts ss e next = go (eqb m n) (eqb (count_forms ps) (length (list_of us))) refl (ap (fits_head (Head.Built m (count_forms ps))) e)
    where
      go : (b c : Bool) → eqb (count_forms ps) (length (list_of us)) ≡ c → fits vs (s, Head.Built m (count_forms ps)) ≡ (b && c) → FitsAs (if b then all_matched w ps us else None) ((s, Head.Built m (count_forms ps)) ∷ ts) ss
      go true true k f = fits-under (all_matched w ps us) (s, Head.Built m (count_forms ps)) ts ss f (next (eqb-true (count_forms ps) (length (list_of us)) k))
      go true false k f = subst (λ o. FitsAs o ((s, Head.Built m (count_forms ps)) ∷ ts) ss) (sym (parts-differ w ps us k)) (fits-not (s, Head.Built m (count_forms ps)) ts ss f)
      go false c k f = fits-not (s, Head.Built m (count_forms ps)) ts ss f

  not-built : (w : World) (o : Option ℕ) (s : Spot) (t : Tree) (c : ℕ) (ts : List Asked) (ss : List Spot) → ((m n : ℕ) → same_head (Head.Built m n) (head_of t) ≡ false) → value_at vs s ≡ Some t → FitsAs None (built_test o s c ∷ ts) ss
  not-built w None s t c ts ss other h = refl
  not-built w (Some m) s t c ts ss other h = fits-not (s, Head.Built m c) ts ss (ap (fits_head (Head.Built m c)) h ∙ other m c)

  mutual
    form-fits : (w : World) (f : Form) (s : Spot) (t : Tree) → value_at vs s ≡ Some t → FitsAs (matched w f t) (tests_in w s f) (spots_in s f)
    form-fits w form.Anything s t h = (refl, refl)
    form-fits w (form.Variable x) s t h = (refl, ap (λ o. with_first o (Some [])) h)
    form-fits w (form.Number n) s (v.Int m) h = leaf-fits s (v.Int m) (Head.Int n) (int_eq n m) h refl
    form-fits w (form.Number n) s t h = leaf-fits s t (Head.Int n) false h refl
    form-fits w (form.Character c) s (v.Char m) h = leaf-fits s (v.Char m) (Head.Char c) (eqb c m) h refl
    form-fits w (form.Character c) s t h = leaf-fits s t (Head.Char c) false h refl
    form-fits w (form.Truth b) s (v.Truth c) h = leaf-fits s (v.Truth c) (Head.Truth b) (same_truth b c) h refl
    form-fits w (form.Truth b) s t h = leaf-fits s t (Head.Truth b) false h refl
    form-fits w form.Nil s v.Nil h = leaf-fits s v.Nil Head.Nil true h refl
    form-fits w form.Nil s t h = leaf-fits s t Head.Nil false h refl
    form-fits w (form.Cons p q) s (v.Cell a b) h =
        fits-under (both (matched w p a) (matched w q b)) (s, Head.Cell) (tests_in w (s ++ 0 ∷ []) p ++ tests_in w (s ++ 1 ∷ []) q) (spots_in (s ++ 0 ∷ []) p ++ spots_in (s ++ 1 ∷ []) q) (ap (fits_head Head.Cell) h)
        (fits-both (matched w p a) (matched w q b) (tests_in w (s ++ 0 ∷ []) p) (tests_in w (s ++ 1 ∷ []) q) (spots_in (s ++ 0 ∷ []) p) (spots_in (s ++ 1 ∷ []) q)
        (form-fits w p (s ++ 0 ∷ []) a (value-part vs s (v.Cell a b) 0 h)) (form-fits w q (s ++ 1 ∷ []) b (value-part vs s (v.Cell a b) 1 h)))
    form-fits w (form.Cons p q) s t h = fits-not (s, Head.Cell) (tests_in w (s ++ 0 ∷ []) p ++ tests_in w (s ++ 1 ∷ []) q) (spots_in (s ++ 0 ∷ []) p ++ spots_in (s ++ 1 ∷ []) q) (ap (fits_head Head.Cell) h)
    form-fits w (form.Pair p q) s (v.Pair a b) h =
        fits-under (both (matched w p a) (matched w q b)) (s, Head.Pair) (tests_in w (s ++ 0 ∷ []) p ++ tests_in w (s ++ 1 ∷ []) q) (spots_in (s ++ 0 ∷ []) p ++ spots_in (s ++ 1 ∷ []) q) (ap (fits_head Head.Pair) h)
        (fits-both (matched w p a) (matched w q b) (tests_in w (s ++ 0 ∷ []) p) (tests_in w (s ++ 1 ∷ []) q) (spots_in (s ++ 0 ∷ []) p) (spots_in (s ++ 1 ∷ []) q)
        (form-fits w p (s ++ 0 ∷ []) a (value-part vs s (v.Pair a b) 0 h)) (form-fits w q (s ++ 1 ∷ []) b (value-part vs s (v.Pair a b) 1 h)))
    form-fits w (form.Pair p q) s t h = fits-not (s, Head.Pair) (tests_in w (s ++ 0 ∷ []) p ++ tests_in w (s ++ 1 ∷ []) q) (spots_in (s ++ 0 ∷ []) p ++ spots_in (s ++ 1 ∷ []) q) (ap (fits_head Head.Pair) h)
    form-fits w (form.Built k ps) s (v.Built n us) h =
        built-fits w (number_of w k) s n ps us (tests_in_parts w s 0 ps) (spots_in_parts s 0 ps) h
        (λ e. parts-fit w ps s us 0 (λ j x at. let z : 0 + j ≡ j = omega arith in ap (λ i. value_at vs (s ++ i ∷ [])) z ∙ value-part vs s (v.Built n us) j h ∙ at) e)
    form-fits w (form.Built k ps) s t h = not-built w (number_of w k) s t (count_forms ps) (tests_in_parts w s 0 ps) (spots_in_parts s 0 ps) (λ c m. refl) h

    parts-fit : (w : World) (ps : Forms) (s : Spot) (us : Trees) (i : ℕ) → ((j : ℕ) (x : Tree) → slice_get (list_of us) j ≡ Some x → value_at vs (s ++ (i + j) ∷ []) ≡ Some x) → count_forms ps ≡ length (list_of us) → FitsAs (all_matched w ps us) (tests_in_parts w s i ps) (spots_in_parts s i ps)
    parts-fit w form.none s v.none i h e = (refl, refl)
    parts-fit w form.none s (v.more u us) i h e = absurd (omega (arith, e))
    parts-fit w (form.more p ps) s v.none i h e = absurd (omega (arith, e))
    parts-fit w (form.more p ps) s (v.more u us) i h e =
        let z : i ≡ i + 0 = omega arith in
        fits-both (matched w p u) (all_matched w ps us) (tests_in w (s ++ i ∷ []) p) (tests_in_parts w s (suc i) ps) (spots_in (s ++ i ∷ []) p) (spots_in_parts s (suc i) ps)
        (form-fits w p (s ++ i ∷ []) u (ap (λ n. value_at vs (s ++ n ∷ [])) z ∙ h 0 u refl))
        (parts-fit w ps s us (suc i) (λ j x at. let y : suc i + j ≡ i + suc j = omega arith in ap (λ n. value_at vs (s ++ n ∷ [])) y ∙ h (suc j) x at) (omega (arith, e)))

  row-fits : (w : World) (ps : List Form) (us : List Tree) (i : ℕ) → ((j : ℕ) (x : Tree) → slice_get us j ≡ Some x → value_at vs ((i + j) ∷ []) ≡ Some x) → length ps ≡ length us → FitsAs (row_matched w ps us) (row_tests w i ps) (row_spots i ps)
  row-fits w [] [] i h e = (refl, refl)
  row-fits w [] (u ∷ us) i h e = absurd (omega (arith, e))
  row-fits w (p ∷ ps) [] i h e = absurd (omega (arith, e))
  row-fits w (p ∷ ps) (u ∷ us) i h e =
      let z : i ≡ i + 0 = omega arith in
      fits-both (matched w p u) (row_matched w ps us) (tests_in w (i ∷ []) p) (row_tests w (suc i) ps) (spots_in (i ∷ []) p) (row_spots (suc i) ps)
      (form-fits w p (i ∷ []) u (ap (λ n. value_at vs (n ∷ [])) z ∙ h 0 u refl))
      (row-fits w ps us (suc i) (λ j x at. let y : suc i + j ≡ i + suc j = omega arith in ap (λ n. value_at vs (n ∷ [])) y ∙ h (suc j) x at) (omega (arith, e)))

  rows-differ : (w : World) (ps : List Form) (us : List Tree) → eqb (length ps) (length us) ≡ false → row_matched w ps us ≡ None
  rows-differ w [] [] h = absurd (true≢false h)
  rows-differ w [] (u ∷ us) h = refl
  rows-differ w (p ∷ ps) [] h = refl
  rows-differ w (p ∷ ps) (u ∷ us) h = ap (λ o. both (matched w p u) o) (rows-differ w ps us (eqb-less (length ps) (length us) h)) ∙ none (matched w p u)
    where
      none : (o : Option Bindings) → both o None ≡ None
      none None = refl
      none (Some bs) = refl

  flat-fits : (w : World) (n : ℕ) (r : List Form) → length vs ≡ n → FitsAs (row_matched w r vs) (flat_tests w n r) (row_spots 0 r)
  flat-fits w n r e = go (eqb (length r) n) refl
    where
      here : (j : ℕ) (x : Tree) → slice_get vs j ≡ Some x → value_at vs ((0 + j) ∷ []) ≡ Some x
      here j x at = let z : 0 + j ≡ j = omega arith in ap (λ i. value_at vs (i ∷ [])) z ∙ within-nil (slice_get vs j) ∙ at

      go : (b : Bool) → eqb (length r) n ≡ b → FitsAs (row_matched w r vs) (if b then row_tests w 0 r else never ∷ []) (row_spots 0 r)
      go true k = row-fits w r vs 0 here (eqb-true (length r) n k ∙ sym e)
      go false k = subst (λ o. FitsAs o (never ∷ []) (row_spots 0 r)) (sym (rows-differ w r vs (ap (eqb (length r)) e ∙ k))) refl

  flat-finds : (w : World) (n i : ℕ) (rows : List (List Form)) → length vs ≡ n → first_flat vs (flat_rows w n i rows) ≡ found_from i (first_match w rows vs)
  flat-finds w n i [] e = refl
  flat-finds w n i (r ∷ rows) e = go (row_matched w r vs) (flat-fits w n r e) (first_match w rows vs) (flat-finds w n (suc i) rows e)
    where
      go : (o : Option Bindings) → FitsAs o (flat_tests w n r) (row_spots 0 r) → (l : Option (ℕ × Bindings)) → first_flat vs (flat_rows w n (suc i) rows) ≡ found_from (suc i) l
          → (if all_hold vs (flat_tests w n r) then option_map (λ ts. (i, ts)) (values_at vs (row_spots 0 r)) else first_flat vs (flat_rows w n (suc i) rows)) ≡ found_from i (or_next o l)
      go (Some bs) f l later =
          let z : i ≡ i + 0 = omega arith in
          ap (λ b. if b then option_map (λ ts. (i, ts)) (values_at vs (row_spots 0 r)) else first_flat vs (flat_rows w n (suc i) rows)) f.0
          ∙ ap (option_map (λ ts. (i, ts))) f.1
          ∙ ap (λ (k : ℕ). Some (k, in_order bs)) z
      go None f (Some q) later =
          let z : suc i + q.0 ≡ i + suc q.0 = omega arith in
          ap (λ b. if b then option_map (λ ts. (i, ts)) (values_at vs (row_spots 0 r)) else first_flat vs (flat_rows w n (suc i) rows)) f ∙ later ∙ ap (λ (k : ℕ). Some (k, in_order q.1)) z
      go None f None later = ap (λ b. if b then option_map (λ ts. (i, ts)) (values_at vs (row_spots 0 r)) else first_flat vs (flat_rows w n (suc i) rows)) f ∙ later

-- the decision that is made for rows stands for them
pub decision-stands : (w : World) (n : ℕ) (rows : List (List Form)) → StandsForRows w (decision_for w n rows) rows n
decision-stands w n rows = record {
  width = refl;
  bound = refl;
  finds = λ vs e. tree-finds (weight (flat_rows w n 0 rows)) (flat_rows w n 0 rows) vs (omega arith) ∙ flat-finds vs w n 0 rows e ∙ from-zero (first_match w rows vs);
}
  where
    from-zero : (o : Option (ℕ × Bindings)) → found_from 0 o ≡ option_map (λ (r : ℕ × Bindings). (r.0, in_order r.1)) o
    from-zero None = refl
    from-zero (Some r) = ap (λ (k : ℕ). Some (k, in_order r.1)) (omega arith)
