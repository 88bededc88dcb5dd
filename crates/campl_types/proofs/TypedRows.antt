-- Typed rows have a pattern for each type, so where they are exhaustive, some row matches each list of values.
use Rattle.std.proofs.Common.{◌≡◌, refl, ℕ, zero, suc, List, [], ◌∷◌, Option, Some, None, slice_get}
use Rattle.campl_tree.specs.Plain.SeqType.{SeqType}
use Rattle.campl_tree.specs.Plain.Expr as e
use Rattle.campl_tree.specs.Plain.Expr.{ExprRows}
use Rattle.campl_tree.specs.Plain.Process as b
use Rattle.campl_tree.specs.Plain.Process.{CaseRows}
use Rattle.campl_tree.specs.Plain.Pattern.{Patterns, no_patterns, pattern_then}
use Rattle.campl_tree.specs.Plain.Decl.{FunctionDecl, FunctionRow}
use Rattle.campl_value.specs.Tree.{Tree}
use Rattle.campl_types.specs.Forms.{part_forms, list_of}
use Rattle.campl_types.specs.Fits.{Vars, fits, all_fit}
use Rattle.campl_types.specs.Fits as fits
use Rattle.campl_types.specs.Matching.{SomeRowMatches}
use Rattle.campl_types.specs.Missing.{Row, AsLong, AllAsLong}
use Rattle.campl_types.specs.Sequential.{expr_rows, function_rows, RowIsTyped, RowsAreTyped, FunctionIsTyped, AreExhaustive}
use Rattle.campl_types.specs.Linear.{body_rows}
use Rattle.campl_types.specs.Values.{IsValue, AllAreValues, ConstructorsAreKnown}
use Rattle.campl_types.specs.World.{World}
use Rattle.campl_types.proofs.Missing.{nothing-missing}

pub parts-long : (w : World) (ps : Patterns) (ts : List SeqType) (xs : Vars) → all_fit w ps ts ≡ Some xs → AsLong (list_of (part_forms ps)) ts
parts-long w no_patterns [] xs i = tt
parts-long w (pattern_then p ps) (t ∷ ts) xs i = go (fits w p t) (all_fit w ps ts) refl i (parts-long w ps ts)
  where
    go : (o q : Option Vars) → all_fit w ps ts ≡ q → fits.both o q ≡ Some xs → ((ys : Vars) → all_fit w ps ts ≡ Some ys → AsLong (list_of (part_forms ps)) ts) → AsLong (list_of (part_forms ps)) ts
    go (Some ys) (Some zs) e j later = later zs e
    go (Some ys) None e j later = absurd (cc j)
    go None q e j later = absurd (cc j)
parts-long w ps ts xs i = absurd (cc i)

pub rows-long : (rows : ExprRows) (t : SeqType) → AllAsLong (expr_rows rows) (t ∷ [])
rows-long e.no_expr_rows t = tt
rows-long (e.expr_row_then p a rows) t = (tt, rows-long rows t)

pub body-rows-long : (rows : CaseRows) (t : SeqType) → AllAsLong (body_rows rows) (t ∷ [])
body-rows-long b.no_case_rows t = tt
body-rows-long (b.case_row_then p body rows) t = (tt, body-rows-long rows t)

pub function-long : (w : World) (f : FunctionDecl) (rows : List FunctionRow) → RowsAreTyped w f rows → AllAsLong (function_rows rows) f.parameters
function-long w f [] h = tt
function-long w f (r ∷ rows) ((xs, i, d, h), k) = (parts-long w r.patterns f.parameters xs i, function-long w f rows k)

-- a function's row at its place
pub row-at : (w : World) (f : FunctionDecl) (rows : List FunctionRow) (n : ℕ) (q : Row) → RowsAreTyped w f rows → slice_get (function_rows rows) n ≡ Some q
    → (r : FunctionRow) × (slice_get rows n ≡ Some r) × (list_of (part_forms r.patterns) ≡ q) × RowIsTyped w f r
row-at w f [] n q h i = absurd (cc i)
row-at w f (r ∷ rows) zero q (h, k) i = (r, refl, cc i, h)
row-at w f (r ∷ rows) (suc n) q (h, k) i = row-at w f rows n q k i

-- some row of a typed function matches
pub function-chooses : (w : World) → ConstructorsAreKnown w → (f : FunctionDecl) (vs : List Tree) → FunctionIsTyped w f → AllAreValues w vs f.parameters → SomeRowMatches w (function_rows f.rows) vs
function-chooses w known f vs (typed, full) h = nothing-missing w known (function_rows f.rows) f.parameters vs (function-long w f f.rows typed) full h

-- and some row of an exhaustive `case`, in an expression or in a body
pub case-chooses : (w : World) → ConstructorsAreKnown w → (rows : ExprRows) (t : SeqType) (v : Tree) → AreExhaustive w (expr_rows rows) (t ∷ []) → IsValue w v t → SomeRowMatches w (expr_rows rows) (v ∷ [])
case-chooses w known rows t v full h = nothing-missing w known (expr_rows rows) (t ∷ []) (v ∷ []) (rows-long rows t) full (h, tt)

pub body-case-chooses : (w : World) → ConstructorsAreKnown w → (rows : CaseRows) (t : SeqType) (v : Tree) → AreExhaustive w (body_rows rows) (t ∷ []) → IsValue w v t → SomeRowMatches w (body_rows rows) (v ∷ [])
body-case-chooses w known rows t v full h = nothing-missing w known (body_rows rows) (t ∷ []) (v ∷ []) (body-rows-long rows t) full (h, tt)
