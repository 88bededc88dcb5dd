-- The tree that is made for rows finds the first row all of whose tests hold.
use Rattle.std.proofs.Common.{◌≡◌, ◌∙◌, refl, sym, ap, subst, arith, ℕ, zero, suc, ◌+◌, ◌≤◌, Bool, true, false, ◌&&◌, List, [], ◌∷◌, Option, Some, None, if◌then◌else◌, eqb, eqb-true, eq-eqb, length, true≢false}
use Rattle.std.specs.Prelude.{option_map}
use Rattle.std.proofs.lemmas.Bool.Decides.{Decides-int_eq}
use Rattle.campl_value.specs.Tree.{Tree}
use Rattle.campl_types.specs.Names.{same_name}
use Rattle.campl_types.proofs.Names.{same-is, same-itself}
use Rattle.campl_types.specs.Matching.{same_truth}
use Rattle.campl_code.specs.Decisions.{Head, Spot, Fail, head_of, same_head, value_at, values_at, fits_head, chosen}
use Rattle.campl_code.specs.Compiled.{Asked, Flat, same_asked, settled, is_against, is_refuted, where_holds, is_asked, where_fails, first_test, tree_of, weight}

-- Tests that are the same

both-true : (p q : Bool) → (p && q) ≡ true → (p ≡ true) × (q ≡ true)
both-true true q h = (refl, h)
both-true false q h = absurd (true≢false (sym h))

truth-is : (b c : Bool) → same_truth b c ≡ true → b ≡ c
truth-is true c h = sym h
truth-is false true h = absurd (true≢false (sym h))
truth-is false false h = refl

truth-itself : (b : Bool) → same_truth b b ≡ true
truth-itself true = refl
truth-itself false = refl

pub head-is : (g h : Head) → same_head g h ≡ true → g ≡ h
head-is (Head.Int n) (Head.Int m) e = ap Head.Int ((Decides-int_eq n m).0 e)
head-is (Head.Char n) (Head.Char m) e = ap Head.Char (eqb-true n m e)
head-is (Head.Truth b) (Head.Truth c) e = ap Head.Truth (truth-is b c e)
head-is Head.Nil Head.Nil e = refl
head-is Head.Cell Head.Cell e = refl
head-is Head.Pair Head.Pair e = refl
head-is (Head.Built c n) (Head.Built d m) e =
    let k = both-true (eqb c d) (eqb n m) e in
    ap (λ x. Head.Built x n) (eqb-true c d k.0) ∙ ap (λ x. Head.Built d x) (eqb-true n m k.1)
head-is g h e = absurd (true≢false (sym e))

pub head-itself : (h : Head) → same_head h h ≡ true
head-itself (Head.Int n) = (Decides-int_eq n n).1 refl
head-itself (Head.Char n) = eq-eqb n n refl
head-itself (Head.Truth b) = truth-itself b
head-itself Head.Nil = refl
head-itself Head.Cell = refl
head-itself Head.Pair = refl
head-itself (Head.Built c n) = ap (λ b. b && eqb n n) (eq-eqb c c refl) ∙ eq-eqb n n refl

pub asked-itself : (a : Asked) → same_asked a a ≡ true
asked-itself a = ap (λ b. b && same_head a.1 a.1) (same-itself a.0) ∙ head-itself a.1

-- What holds of values

abbrev pub fits : List Tree → Asked → Bool
fits vs a = fits_head a.1 (value_at vs a.0)

abbrev pub all_hold : List Tree → List Asked → Bool
all_hold vs [] = true
all_hold vs (t ∷ ts) = fits vs t && all_hold vs ts

abbrev pub first_flat : List Tree → List Flat → Option (ℕ × List Tree)
first_flat vs [] = None
first_flat vs (r ∷ rows) = if all_hold vs r.tests then option_map (λ ts. (r.number, ts)) (values_at vs r.spots) else first_flat vs rows

same-fits : (vs : List Tree) (a t : Asked) → same_asked a t ≡ true → fits vs a ≡ fits vs t
same-fits vs a t e =
    let k = both-true (same_name a.0 t.0) (same_head a.1 t.1) e in
    ap (λ (s : Spot). fits_head a.1 (value_at vs s)) (same-is a.0 t.0 k.0) ∙ ap (λ h. fits_head h (value_at vs t.0)) (head-is a.1 t.1 k.1)

-- another head at the same place
against-fails : (vs : List Tree) (a t : Asked) → fits vs a ≡ true → is_against a t ≡ true → fits vs t ≡ false
against-fails vs a t h e = go (same_name a.0 t.0) refl (same_head a.1 t.1) refl e
  where
    at : (o : Option Tree) → fits_head a.1 o ≡ true → same_head a.1 t.1 ≡ false → fits_head t.1 o ≡ false
    at None h k = refl
    at (Some v) h k = last (same_head t.1 (head_of v)) refl
      where
        last : (c : Bool) → same_head t.1 (head_of v) ≡ c → c ≡ false
        last false i = refl
        last true i =
            let one : a.1 ≡ t.1 = head-is a.1 (head_of v) h ∙ sym (head-is t.1 (head_of v) i) in
            absurd (true≢false (sym (head-itself a.1) ∙ ap (λ x. same_head a.1 x) one ∙ k))

    go : (c : Bool) → same_name a.0 t.0 ≡ c → (g : Bool) → same_head a.1 t.1 ≡ g → (if c then (if g then false else true) else false) ≡ true → fits vs t ≡ false
    go false i g j e = absurd (true≢false (sym e))
    go true i true j e = absurd (true≢false (sym e))
    go true i false j e = let place : a.0 ≡ t.0 = same-is a.0 t.0 i in at (value_at vs t.0) (subst (λ (s : Spot). fits_head a.1 (value_at vs s) ≡ true) place h) j

settled-holds : (vs : List Tree) (a : Asked) (ts : List Asked) → fits vs a ≡ true → all_hold vs (settled a ts) ≡ all_hold vs ts
settled-holds vs a [] h = refl
settled-holds vs a (t ∷ ts) h = go (same_asked a t) refl (settled-holds vs a ts h)
  where
    go : (c : Bool) → same_asked a t ≡ c → all_hold vs (settled a ts) ≡ all_hold vs ts → all_hold vs (if c then settled a ts else t ∷ settled a ts) ≡ all_hold vs (t ∷ ts)
    go true k later = later ∙ sym (ap (λ b. b && all_hold vs ts) (sym (same-fits vs a t k) ∙ h))
    go false k later = ap (λ b. fits vs t && b) later

refuted-fails : (vs : List Tree) (a : Asked) (ts : List Asked) → fits vs a ≡ true → is_refuted a ts ≡ true → all_hold vs ts ≡ false
refuted-fails vs a [] h e = absurd (true≢false (sym e))
refuted-fails vs a (t ∷ ts) h e = go (is_against a t) refl e (refuted-fails vs a ts h)
  where
    go : (c : Bool) → is_against a t ≡ c → (if c then true else is_refuted a ts) ≡ true → (is_refuted a ts ≡ true → all_hold vs ts ≡ false) → all_hold vs (t ∷ ts) ≡ false
    go true k e later = ap (λ b. b && all_hold vs ts) (against-fails vs a t h k)
    go false k e later = ap (λ b. fits vs t && b) (later e) ∙ none (fits vs t)
      where
        none : (b : Bool) → (b && false) ≡ false
        none true = refl
        none false = refl

asked-fails : (vs : List Tree) (a : Asked) (ts : List Asked) → fits vs a ≡ false → is_asked a ts ≡ true → all_hold vs ts ≡ false
asked-fails vs a [] h e = absurd (true≢false (sym e))
asked-fails vs a (t ∷ ts) h e = go (same_asked a t) refl e (asked-fails vs a ts h)
  where
    go : (c : Bool) → same_asked a t ≡ c → (if c then true else is_asked a ts) ≡ true → (is_asked a ts ≡ true → all_hold vs ts ≡ false) → all_hold vs (t ∷ ts) ≡ false
    go true k e later = ap (λ b. b && all_hold vs ts) (sym (same-fits vs a t k) ∙ h)
    go false k e later = ap (λ b. fits vs t && b) (later e) ∙ none (fits vs t)
      where
        none : (b : Bool) → (b && false) ≡ false
        none true = refl
        none false = refl

holds-same : (vs : List Tree) (a : Asked) (rows : List Flat) → fits vs a ≡ true → first_flat vs (where_holds a rows) ≡ first_flat vs rows
holds-same vs a [] h = refl
holds-same vs a (r ∷ rows) h = go (is_refuted a r.tests) refl (holds-same vs a rows h)
  where
    go : (c : Bool) → is_refuted a r.tests ≡ c → first_flat vs (where_holds a rows) ≡ first_flat vs rows
        → first_flat vs (if c then where_holds a rows else record r { tests = settled a r.tests } ∷ where_holds a rows) ≡ first_flat vs (r ∷ rows)
    go true k later =
        later ∙ sym (ap (λ b. if b then option_map (λ ts. (r.number, ts)) (values_at vs r.spots) else first_flat vs rows) (refuted-fails vs a r.tests h k))
    go false k later =
        ap (λ b. if b then option_map (λ ts. (r.number, ts)) (values_at vs r.spots) else first_flat vs (where_holds a rows)) (settled-holds vs a r.tests h)
        ∙ ap (λ o. if all_hold vs r.tests then option_map (λ ts. (r.number, ts)) (values_at vs r.spots) else o) later

fails-same : (vs : List Tree) (a : Asked) (rows : List Flat) → fits vs a ≡ false → first_flat vs (where_fails a rows) ≡ first_flat vs rows
fails-same vs a [] h = refl
fails-same vs a (r ∷ rows) h = go (is_asked a r.tests) refl (fails-same vs a rows h)
  where
    go : (c : Bool) → is_asked a r.tests ≡ c → first_flat vs (where_fails a rows) ≡ first_flat vs rows
        → first_flat vs (if c then where_fails a rows else r ∷ where_fails a rows) ≡ first_flat vs (r ∷ rows)
    go true k later =
        later ∙ sym (ap (λ b. if b then option_map (λ ts. (r.number, ts)) (values_at vs r.spots) else first_flat vs rows) (asked-fails vs a r.tests h k))
    go false k later = ap (λ o. if all_hold vs r.tests then option_map (λ ts. (r.number, ts)) (values_at vs r.spots) else o) later

-- Fewer tests are left

settled-less : (a : Asked) (ts : List Asked) → length (settled a ts) ≤ length ts
settled-less a [] = omega arith
settled-less a (t ∷ ts) = go (same_asked a t) (settled-less a ts)
  where
    go : (c : Bool) → length (settled a ts) ≤ length ts → length (if c then settled a ts else t ∷ settled a ts) ≤ suc (length ts)
    go true h = omega (arith, h)
    go false h = omega (arith, h)

pub holds-less : (a : Asked) (rows : List Flat) → weight (where_holds a rows) ≤ weight rows
holds-less a [] = omega arith
holds-less a (r ∷ rows) = go (is_refuted a r.tests) (holds-less a rows)
  where
    go : (c : Bool) → weight (where_holds a rows) ≤ weight rows → weight (if c then where_holds a rows else record r { tests = settled a r.tests } ∷ where_holds a rows) ≤ length r.tests + weight rows
    go true h = omega (arith, h)
    go false h = omega (arith, h, settled-less a r.tests)

pub fails-less : (a : Asked) (rows : List Flat) → weight (where_fails a rows) ≤ weight rows
fails-less a [] = omega arith
fails-less a (r ∷ rows) = go (is_asked a r.tests) (fails-less a rows)
  where
    go : (c : Bool) → weight (where_fails a rows) ≤ weight rows → weight (if c then where_fails a rows else r ∷ where_fails a rows) ≤ length r.tests + weight rows
    go true h = omega (arith, h)
    go false h = omega (arith, h)

pub first-less : (a : Asked) (ts : List Asked) (r : Flat) (rows : List Flat) → r.tests ≡ a ∷ ts → suc (weight (where_holds a (r ∷ rows))) ≤ weight (r ∷ rows)
first-less a ts r rows e = go (is_refuted a r.tests)
  where
    size : length r.tests ≡ suc (length ts)
    size = ap length e

    shorter : length (settled a r.tests) ≤ length ts
    shorter =
        let s : settled a r.tests ≡ settled a ts = ap (settled a) e ∙ ap (λ (c : Bool). if c then settled a ts else a ∷ settled a ts) (asked-itself a) in
        omega (arith, ap length s, settled-less a ts)

    go : (c : Bool) → suc (weight (if c then where_holds a rows else record r { tests = settled a r.tests } ∷ where_holds a rows)) ≤ length r.tests + weight rows
    go true = omega (arith, size, holds-less a rows)
    go false = omega (arith, size, shorter, holds-less a rows)

-- The tree

pub tree-finds : (n : ℕ) (rows : List Flat) (vs : List Tree) → weight rows ≤ n → chosen (tree_of n rows) vs ≡ first_flat vs rows
tree-finds zero [] vs l = refl
tree-finds (suc n) [] vs l = refl
tree-finds zero (r ∷ rows) vs l = go r.tests refl
  where
    go : (ts : List Asked) → r.tests ≡ ts → chosen (first_test (λ rows. Fail) r rows ts) vs ≡ first_flat vs (r ∷ rows)
    go [] e = sym (ap (λ ts. if all_hold vs ts then option_map (λ ts. (r.number, ts)) (values_at vs r.spots) else first_flat vs rows) e)
    go (a ∷ ts) e = absurd (omega (arith, l, ap length e))
tree-finds (suc n) (r ∷ rows) vs l = go r.tests refl (λ rows l. tree-finds n rows vs l)
  where
    go : (ts : List Asked) → r.tests ≡ ts → ((rows : List Flat) → weight rows ≤ n → chosen (tree_of n rows) vs ≡ first_flat vs rows) → chosen (first_test (tree_of n) r rows ts) vs ≡ first_flat vs (r ∷ rows)
    go [] e next = sym (ap (λ ts. if all_hold vs ts then option_map (λ ts. (r.number, ts)) (values_at vs r.spots) else first_flat vs rows) e)
    go (a ∷ ts) e next = by (fits vs a) refl
      where
        by : (c : Bool) → fits vs a ≡ c → (if c then chosen (tree_of n (where_holds a (r ∷ rows))) vs else chosen (tree_of n (where_fails a rows)) vs) ≡ first_flat vs (r ∷ rows)
        by true h = next (where_holds a (r ∷ rows)) (omega (arith, l, first-less a ts r rows e)) ∙ holds-same vs a (r ∷ rows) h
        by false h =
            let miss : all_hold vs r.tests ≡ false = ap (all_hold vs) e ∙ ap (λ b. b && all_hold vs ts) h in
            next (where_fails a rows) (omega (arith, l, ap length e, fails-less a rows))
            ∙ fails-same vs a rows h
            ∙ sym (ap (λ b. if b then option_map (λ ts. (r.number, ts)) (values_at vs r.spots) else first_flat vs rows) miss)
