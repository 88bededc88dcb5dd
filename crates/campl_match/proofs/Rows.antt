-- Rows one after another, and their decision.
use Rattle.std.proofs.Common.{◌≡◌, ◌∙◌, refl, sym, ap, subst, arith, ℕ, suc, ◌+◌, ◌<◌, ◌≤◌, List, [], ◌∷◌, ◌++◌, append_assoc, map, drop, length, get_or, add-one, length-append}
use Rattle.std.proofs.lemmas.List.{append-nil, drop_all, map-append}
use Rattle.campl_types.specs.Forms as form
use Rattle.campl_types.specs.Forms.{Form, Forms}
use Rattle.campl_types.specs.World.{World}
use Rattle.campl_seqcheck.proofs.Answered.{drop-at}
use Rattle.campl_code.specs.Decisions.{Spot, StandsForRows, names_in, names_in_all, row_names}
use Rattle.campl_code.specs.Compiled as c
use Rattle.campl_code.specs.Compiled.{decision_for, flat_rows, row_spots, spots_in, spots_in_parts}
use Rattle.campl_code.proofs.Flattened.{decision-stands}
use Rattle.campl_instructions.specs.View.{root, view_decision}
use Rattle.campl_instructions.specs.declared.decision.Decision.{Decision}
use Rattle.campl_match.specs.declared.flat.Flat.{Flat}
use Rattle.campl_match.specs.Flattened.{flat_row}
use Rattle.campl_match.specs.Growing.{tree}
use Rattle.campl_match.specs.View.{view_flat}

module _ {R : Type 0} (patterns : R → List Form) (w : World) (n : ℕ) (rows : List R) where
  pub row-went : (i : ℕ) (r : R) (flat new : List Flat) (x : Flat) (whole : List c.Flat) → i < length rows → r ≡ get_or rows i r → view_flat x ≡ flat_row w n i (patterns r) → new ≡ flat ++ x ∷ []
      → map view_flat flat ++ flat_rows w n i (map patterns (drop i rows)) ≡ whole → map view_flat new ++ flat_rows w n (i + 1) (map patterns (drop (i + 1) rows)) ≡ whole
  row-went i r flat new x whole l is ex en inv =
      ap (λ xs. map view_flat xs ++ flat_rows w n (i + 1) (map patterns (drop (i + 1) rows))) en
      ∙ ap (λ xs. xs ++ flat_rows w n (i + 1) (map patterns (drop (i + 1) rows))) (map-append view_flat flat (x ∷ []))
      ∙ append_assoc (map view_flat flat) (view_flat x ∷ []) (flat_rows w n (i + 1) (map patterns (drop (i + 1) rows)))
      ∙ ap (λ y. map view_flat flat ++ y ∷ flat_rows w n (i + 1) (map patterns (drop (i + 1) rows))) ex
      ∙ ap (λ k. map view_flat flat ++ flat_row w n i (patterns r) ∷ flat_rows w n k (map patterns (drop (i + 1) rows))) (add-one i)
      ∙ ap (λ rs. map view_flat flat ++ flat_rows w n i (map patterns rs)) (sym (drop-at rows i r l is))
      ∙ inv

  pub rows-ended : (i : ℕ) (flat : List Flat) (whole : List c.Flat) → length rows ≤ i → map view_flat flat ++ flat_rows w n i (map patterns (drop i rows)) ≡ whole → map view_flat flat ≡ whole
  rows-ended i flat whole l inv =
      sym (append-nil (map view_flat flat)) ∙ ap (λ rs. map view_flat flat ++ flat_rows w n i (map patterns rs)) (sym (drop_all i rows l)) ∙ inv

-- As many places as variables

sums : {A B : Type 0} → (xs ys : List A) (vs ws : List B) → length xs ≡ length vs → length ys ≡ length ws → length (xs ++ ys) ≡ length (vs ++ ws)
sums xs ys vs ws e k = omega (arith, length-append xs ys, length-append vs ws, e, k)

mutual
  spots-named : (s : Spot) (f : Form) → length (spots_in s f) ≡ length (names_in f)
  spots-named s form.Anything = refl
  spots-named s (form.Variable x) = refl
  spots-named s (form.Number n) = refl
  spots-named s (form.Character c) = refl
  spots-named s (form.Truth b) = refl
  spots-named s form.Nil = refl
  spots-named s (form.Cons p q) = sums _ _ _ _ (spots-named (s ++ 0 ∷ []) p) (spots-named (s ++ 1 ∷ []) q)
  spots-named s (form.Pair p q) = sums _ _ _ _ (spots-named (s ++ 0 ∷ []) p) (spots-named (s ++ 1 ∷ []) q)
  spots-named s (form.Built k ps) = parts-named s 0 ps

  parts-named : (s : Spot) (i : ℕ) (ps : Forms) → length (spots_in_parts s i ps) ≡ length (names_in_all ps)
  parts-named s i form.none = refl
  parts-named s i (form.more p ps) = sums _ _ _ _ (spots-named (s ++ i ∷ []) p) (parts-named s (suc i) ps)

row-named : (i : ℕ) (r : List Form) → length (row_spots i r) ≡ length (row_names r)
row-named i [] = refl
row-named i (p ∷ ps) = sums _ _ _ _ (spots-named (i ∷ []) p) (row-named (suc i) ps)

rows-named : (w : World) (n i : ℕ) (rows : List (List Form)) → map (λ (r : c.Flat). length r.spots) (flat_rows w n i rows) ≡ map (λ (r : List Form). length (row_names r)) rows
rows-named w n i [] = refl
rows-named w n i (r ∷ rows) = ap (λ k. k ∷ map (λ (r : c.Flat). length r.spots) (flat_rows w n (suc i) rows)) (row-named 0 r) ∙ ap (λ ks. length (row_names r) ∷ ks) (rows-named w n (suc i) rows)

pub is-decision : (w : World) (n : ℕ) (rows : List (List Form)) (fs : List c.Flat) (d : Decision) → fs ≡ flat_rows w n 0 rows → d.width ≡ n → d.bound ≡ map (λ (r : c.Flat). length r.spots) fs → root d.nodes ≡ tree fs
    → view_decision d ≡ decision_for w n rows
unfolding tree
is-decision w n rows fs d e width bound found =
    ap (λ k. record { width = k; bound = d.bound; tree = root d.nodes }) width
    ∙ ap (λ b. record { width = n; bound = b; tree = root d.nodes }) (bound ∙ ap (map (λ (r : c.Flat). length r.spots)) e ∙ rows-named w n 0 rows)
    ∙ ap (λ t. record { width = n; bound = map (λ (r : List Form). length (row_names r)) rows; tree = t }) (found ∙ ap tree e)

pub stands-so : (w : World) (n : ℕ) (rows : List (List Form)) (d : Decision) → view_decision d ≡ decision_for w n rows → StandsForRows w (view_decision d) rows n
stands-so w n rows d e = subst (λ k. StandsForRows w k rows n) (sym e) (decision-stands w n rows)
