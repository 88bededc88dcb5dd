-- Sound evaluation in typed sources, and what processes take from it.
use Rattle.std.proofs.Common.{◌≡◌, ◌∙◌, refl, sym, subst, ℕ, zero, suc, List, [], ◌∷◌, ◌++◌, Option, Some, None, map, slice_get}
use Rattle.campl_tree.specs.Plain.Decl.{Program}
use Rattle.campl_tree.specs.Plain.Expr.{Expr, Exprs}
use Rattle.campl_tree.specs.Plain.SeqType.{SeqType}
use Rattle.campl_tree.specs.Plain.SeqType as s
use Rattle.campl_tree.specs.Plain.Pattern.{Pattern}
use Rattle.campl_tree.specs.Plain.Process as b
use Rattle.campl_tree.specs.Plain.Process.{Body, CaseRows}
use Rattle.campl_value.specs.Tree.{Tree}
use Rattle.campl_types.specs.Fits.{Vars, fits}
use Rattle.campl_types.specs.Forms.{form_of}
use Rattle.campl_types.specs.Held.{Held}
use Rattle.campl_types.specs.Linear.{IsWellFormed, CasesAreWellFormed, body_rows}
use Rattle.campl_types.specs.Missing.{Row}
use Rattle.campl_types.proofs.TypedRows.{body-case-chooses}
use Rattle.campl_types.specs.Matching.{Bindings, SomeRowMatches, first_match, row_matched}
use Rattle.campl_types.specs.Sequential.{Way, HasType, PartsHaveTypes, AreExhaustive}
use Rattle.campl_types.specs.Substitution.{Filling, filled}
use Rattle.campl_types.specs.Typed.{IsTyped}
use Rattle.campl_types.specs.World.{World, world_of}
use Rattle.campl_evaluation.specs.Evaluation.{calls, value_of, values_of}
use Rattle.campl_evaluation.specs.Typed.{AreBound, Fine}
use Rattle.campl_evaluation.specs.Worlds.{IsSoundWorld}
use Rattle.campl_evaluation.proofs.Bound.{bound-append, one-bound}
use Rattle.campl_types.proofs.Instances.{value-of-instance}
use Rattle.campl_evaluation.proofs.Declared.{typed-world}
use Rattle.campl_evaluation.proofs.Sound.{sound-parts, calls-fine, value-is-fine}
use Rattle.campl_types.specs.Values.{IsValue, AllAreValues}
use Rattle.campl_types.proofs.Compose.{filled-nothing}

pub source-is-sound : (source : Program) → IsTyped source → (way : Way) (f : Filling) (vs : Vars) (a : Expr) (t : SeqType) (variables : Bindings) (n : ℕ)
    → AreBound (world_of source) f variables vs → HasType way (world_of source) vs a t
    → Fine (λ v. IsValue (world_of source) v (filled f t)) (value_of (world_of source) a variables n)
source-is-sound source i = value-is-fine (world_of source) (typed-world source i)

-- with nothing filled
list-filled-nothing : (ts : List SeqType) → map (filled []) ts ≡ ts
list-filled-nothing [] = refl
list-filled-nothing (t ∷ ts) = let p = filled-nothing t in let q = list-filled-nothing ts in λ k. p k ∷ q k

-- the value of a command's expression
pub put-fine : (w : World) → IsSoundWorld w → (way : Way) (vs : Vars) (a : Expr) (t : SeqType) (vars : Bindings) (n : ℕ)
    → AreBound w [] vars vs → HasType way w vs a t → Fine (λ v. IsValue w v t) (value_of w a vars n)
put-fine w good way vs a t vars n b h = subst (λ u. Fine (λ v. IsValue w v u) (value_of w a vars n)) (filled-nothing t) (value-is-fine w good way [] vs a t vars n b h)

-- and of the arguments of a process's call
pub arguments-fine : (w : World) → IsSoundWorld w → (vs : Vars) (ts : List SeqType) (all : Exprs) (vars : Bindings) (n : ℕ)
    → AreBound w [] vars vs → PartsHaveTypes w vs [] [] ts all → Fine (λ us. AllAreValues w us ts) (values_of w all vars n)
arguments-fine w good vs ts all vars n b h =
    let twice : map (filled []) (map (filled []) ts) ≡ ts = list-filled-nothing (map (filled []) ts) ∙ list-filled-nothing ts in
    subst (λ us. Fine (λ vs. AllAreValues w vs us) (values_of w all vars n)) twice (sound-parts w good (calls w n) (calls-fine w good n) [] vs [] [] ts all vars n b h)

-- the row of a process's `case`, by its place
abbrev pub row_body : CaseRows → ℕ → Option (Pattern × Body)
row_body b.no_case_rows i = None
row_body (b.case_row_then p body rows) zero = Some (p, body)
row_body (b.case_row_then p body rows) (suc i) = row_body rows i

body-at : (w : World) (vs : Vars) (held : Held) (t : SeqType) (rows : CaseRows) (i : ℕ) (q : Row) → CasesAreWellFormed w vs held t rows → slice_get (body_rows rows) i ≡ Some q
    → (r : Pattern × Body) × (xs : Vars) × (row_body rows i ≡ Some r) × (form_of r.0 ∷ [] ≡ q) × (fits w r.0 t ≡ Some xs) × IsWellFormed w (xs ++ vs) held r.1
body-at w vs held t b.no_case_rows i q h g = absurd (cc g)
body-at w vs held t (b.case_row_then p body rows) zero q (xs, fit, d, h, k) g = ((p, body), xs, refl, cc g, fit, h)
body-at w vs held t (b.case_row_then p body rows) (suc i) q (xs, fit, d, h, k) g = body-at w vs held t rows i q k g

-- a value has a row, whose body is well formed under variables that stand for values of their types
pub case-goes : (w : World) → IsSoundWorld w → (vs : Vars) (held : Held) (t : SeqType) (rows : CaseRows) (v : Tree) (vars : Bindings)
    → CasesAreWellFormed w vs held t rows → AreExhaustive w (body_rows rows) (t ∷ []) → AreBound w [] vars vs → IsValue w v t
    → (r : ℕ × Bindings) × (q : Pattern × Body) × (us : Vars) × (first_match w (body_rows rows) (v ∷ []) ≡ Some r) × (row_body rows r.0 ≡ Some q)
    × AreBound w [] (r.1 ++ vars) us × IsWellFormed w us held q.1
case-goes w good vs held t rows v vars cases all bound h =
    let typed : IsValue w v (filled [] t) = subst (IsValue w v) (sym (filled-nothing t)) h in
    go typed (body-case-chooses w good.constructors rows t v all (value-of-instance w v [] t typed))
  where
    go : IsValue w v (filled [] t) → SomeRowMatches w (body_rows rows) (v ∷ [])
        → (r : ℕ × Bindings) × (q : Pattern × Body) × (us : Vars) × (first_match w (body_rows rows) (v ∷ []) ≡ Some r) × (row_body rows r.0 ≡ Some q)
        × AreBound w [] (r.1 ++ vars) us × IsWellFormed w us held q.1
    go typed (r, first, row, at, match) =
        let (q, xs, place, forms, fit, body) = body-at w vs held t rows r.0 row cases at in
        let here : row_matched w (form_of q.0 ∷ []) (v ∷ []) ≡ Some r.1 = subst (λ z. row_matched w z (v ∷ []) ≡ Some r.1) (sym forms) match in
        (r, q, xs ++ vs, first, place, bound-append w [] r.1 vars xs vs (one-bound w good [] q.0 t v xs r.1 fit here typed) bound, body)
