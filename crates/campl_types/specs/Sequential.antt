-- Sequential typing: two relations, "this expression is found to have this type" and "it may be checked
-- against this type", under variables with their types.
--
-- They differ where an expression alone doesn't tell its type: `[]` is never found to have one, and a
-- list, `a : b`, `a ++ b`, a pair, an `if` or a `case` is found by finding its first part, but for a pair
-- both. So the two are one definition that is told in which way the type is known.
--
-- A call of a function or constructor has arguments for its type parameters. Its parts are judged in
-- order. A part is checked where each parameter of its type is known already, by the result if the
-- call is checked, or by an earlier part; else it is found, and makes the parameters of its type known.
use Rattle.std.specs.Prelude.{◌≡◌, ℕ, IsTrue, List, [], ◌∷◌, ◌++◌, Some, None, if◌then◌else◌, map, length}
use Rattle.campl_tree.specs.Plain.SeqType.{SeqType, SeqTypes, Int, Char, Bool, Named, Variable}
use Rattle.campl_tree.specs.Plain.SeqType as s
use Rattle.campl_tree.specs.Plain.Expr as e
use Rattle.campl_tree.specs.Plain.Expr.{Expr, Exprs, ExprRows}
use Rattle.campl_tree.specs.Plain.Decl.{DataDecl, DataConstructor, FunctionDecl, FunctionRow, Decl, Data, Protocol, Coprotocol, Function, Process}
use Rattle.campl_types.specs.Names.{Name, found, all_among, are_distinct}
use Rattle.campl_types.specs.Substitution.{Filling, filling, filled, variables_of, types_of}
use Rattle.campl_types.specs.SameType.{nowhere, IsSame}
use Rattle.campl_types.specs.World.{World, OfData, constructor_named, function_named, names_of, type_parameters, variables_of_list}
use Rattle.campl_types.specs.Patterns.{bound_in, bound_in_all}
use Rattle.campl_types.specs.Forms.{form_of, part_forms, list_of}
use Rattle.campl_types.specs.Fits.{Vars, fits, all_fit}
use Rattle.campl_types.specs.Missing.{Row, missing}

pub data Way : Type 0 where
  Found : Way
  Checked : Way

-- Types

-- the types whose values can be compared
abbrev pub IsComparable : SeqType → Type 0
IsComparable Int = Unit {0}
IsComparable Char = Unit {0}
IsComparable Bool = Unit {0}
IsComparable (s.List Char) = Unit {0}
IsComparable _ = ⊥

-- `[]` may be checked against any list type
abbrev EmptyList : Way → SeqType → Type 0
EmptyList Found t = ⊥
EmptyList Checked t = (u : SeqType) × IsSame t (s.List u)

-- Calls

-- the parameters that are known before the parts are judged
abbrev known_by : Way → SeqType → List Name
known_by Found result = []
known_by Checked result = variables_of result

-- a call that is found has each parameter in some part's type
abbrev PartsTellAll : Way → (parameters : List Name) → List SeqType → Type 0
PartsTellAll Found parameters types = IsTrue (all_among parameters (variables_of_list types))
PartsTellAll Checked parameters types = Unit {0}

-- how a part is judged, where these parameters are known
abbrev pub way_of : List Name → SeqType → Way
way_of known t = if all_among (variables_of t) known then Checked else Found

-- the call of what has these parameters, types of parts and result; `parts` judges the parts
abbrev CallHasType : Way → (parameters : List Name) → List SeqType → (result t : SeqType) → (Filling → List Name → Type 0) → Type 0
CallHasType way parameters types result t parts =
    (ts : List SeqType) × (length ts ≡ length parameters) × IsSame t (filled (filling parameters ts) result)
    × parts (filling parameters ts) (known_by way result) × PartsTellAll way parameters types

-- what a constructor builds
abbrev pub whole : DataDecl → SeqType
whole d = Named nowhere d.name.name (types_of (map (Variable nowhere) (names_of d.parameters)))

-- Rows

abbrev pub expr_rows : ExprRows → List Row
expr_rows e.no_expr_rows = []
expr_rows (e.expr_row_then p a rows) = (form_of p ∷ []) ∷ expr_rows rows

-- no value is missing
abbrev pub AreExhaustive : World → List Row → List SeqType → Type 0
AreExhaustive w rows ts = missing w rows ts ≡ None

-- Expressions

abbrev mutual
  pub HasType : Way → World → Vars → Expr → SeqType → Type 0
  HasType way w vs (e.Number at n) t = IsSame t Int
  HasType way w vs (e.Character at c) t = IsSame t Char
  HasType way w vs (e.Text at text) t = IsSame t (s.List Char)
  HasType way w vs (e.True at) t = IsSame t Bool
  HasType way w vs (e.False at) t = IsSame t Bool
  HasType way w vs (e.Variable at x) t = (u : SeqType) × (found x vs ≡ Some u) × IsSame t u
  HasType way w vs (e.List at e.no_exprs) t = EmptyList way t
  HasType way w vs (e.List at (e.expr_then a rest)) t =
      (u : SeqType) × IsSame t (s.List u) × HasType way w vs a u × AllChecked w vs rest u
  HasType way w vs (e.Cons at a b) t = (u : SeqType) × IsSame t (s.List u) × HasType way w vs a u × HasType Checked w vs b (s.List u)
  HasType way w vs (e.Append at a b) t =
      (u : SeqType) × IsSame t (s.List u) × HasType way w vs a (s.List u) × HasType Checked w vs b (s.List u)
  HasType way w vs (e.Pair at a b) t =
      (u : SeqType) × (v : SeqType) × IsSame t (s.Pair u v) × HasType way w vs a u × HasType way w vs b v
  HasType way w vs (e.If at c a b) t = HasType Checked w vs c Bool × HasType way w vs a t × HasType Checked w vs b t
  HasType way w vs (e.Case at a rows) t =
      (u : SeqType) × HasType Found w vs a u × RowsHaveType way w vs rows u t × AreExhaustive w (expr_rows rows) (u ∷ [])
  HasType way w vs (e.Compare at a op b) t =
      (u : SeqType) × IsComparable u × IsSame t Bool × HasType Found w vs a u × HasType Checked w vs b u
  HasType way w vs (e.Or at a b) t = IsSame t Bool × HasType Checked w vs a Bool × HasType Checked w vs b Bool
  HasType way w vs (e.And at a b) t = IsSame t Bool × HasType Checked w vs a Bool × HasType Checked w vs b Bool
  HasType way w vs (e.Calculate at a op b) t = IsSame t Int × HasType Checked w vs a Int × HasType Checked w vs b Int
  HasType way w vs (e.Negate at a) t = IsSame t Int × HasType Checked w vs a Int
  HasType way w vs (e.CodeOf at a) t = IsSame t Int × HasType Checked w vs a Char
  HasType way w vs (e.CharOf at a) t = IsSame t Char × HasType Checked w vs a Int
  HasType way w vs (e.Call at x args) t =
      (f : FunctionDecl) × (function_named w x ≡ Some f)
      × CallHasType way (type_parameters f) f.parameters f.result t (λ fill known. PartsHaveTypes w vs fill known f.parameters args)
  HasType way w vs (e.Constructor at x args) t =
      (d : DataDecl) × (n : ℕ) × (k : DataConstructor) × (constructor_named w x ≡ Some (OfData d n k))
      × CallHasType way (names_of d.parameters) k.parts (whole d) t (λ fill known. PartsHaveTypes w vs fill known k.parts args)

  -- the parts of a call, one for each type
  pub PartsHaveTypes : World → Vars → Filling → (known : List Name) → List SeqType → Exprs → Type 0
  PartsHaveTypes w vs fill known [] e.no_exprs = Unit {0}
  PartsHaveTypes w vs fill known (t ∷ ts) (e.expr_then a rest) =
      HasType (way_of known t) w vs a (filled fill t) × PartsHaveTypes w vs fill (known ++ variables_of t) ts rest
  PartsHaveTypes w vs fill known _ _ = ⊥

  pub AllChecked : World → Vars → Exprs → SeqType → Type 0
  AllChecked w vs e.no_exprs t = Unit {0}
  AllChecked w vs (e.expr_then a rest) t = HasType Checked w vs a t × AllChecked w vs rest t

  -- rows of patterns for the first type with values of the second; only the first value may be found
  pub RowsHaveType : Way → World → Vars → ExprRows → SeqType → SeqType → Type 0
  RowsHaveType way w vs e.no_expr_rows u t = Unit {0}
  RowsHaveType way w vs (e.expr_row_then p a rows) u t =
      (xs : Vars) × (fits w p u ≡ Some xs) × IsTrue (are_distinct (bound_in p))
      × HasType way w (xs ++ vs) a t × RowsHaveType Checked w vs rows u t

abbrev pub IsFoundToHave : World → Vars → Expr → SeqType → Type 0
IsFoundToHave w vs a t = HasType Found w vs a t

abbrev pub MayBeChecked : World → Vars → Expr → SeqType → Type 0
MayBeChecked w vs a t = HasType Checked w vs a t

-- Functions

-- a row has a pattern for each parameter, which bind different names, and a value of the result's type
abbrev pub RowIsTyped : World → FunctionDecl → FunctionRow → Type 0
RowIsTyped w f r =
    (xs : Vars) × (all_fit w r.patterns f.parameters ≡ Some xs) × IsTrue (are_distinct (bound_in_all r.patterns))
    × HasType Checked w xs r.value f.result

abbrev pub RowsAreTyped : World → FunctionDecl → List FunctionRow → Type 0
RowsAreTyped w f [] = Unit {0}
RowsAreTyped w f (r ∷ rows) = RowIsTyped w f r × RowsAreTyped w f rows

abbrev pub function_rows : List FunctionRow → List Row
function_rows = map (λ (r : FunctionRow). list_of (part_forms r.patterns))

abbrev pub FunctionIsTyped : World → FunctionDecl → Type 0
FunctionIsTyped w f = RowsAreTyped w f f.rows × AreExhaustive w (function_rows f.rows) f.parameters

abbrev DeclIsTyped : World → Decl → Type 0
DeclIsTyped w (Function f) = FunctionIsTyped w f
DeclIsTyped w (Data d) = Unit {0}
DeclIsTyped w (Protocol d) = Unit {0}
DeclIsTyped w (Coprotocol d) = Unit {0}
DeclIsTyped w (Process d) = Unit {0}

-- each function of these declarations is typed
abbrev pub FunctionsAreTyped : World → List Decl → Type 0
FunctionsAreTyped w [] = Unit {0}
FunctionsAreTyped w (d ∷ ds) = DeclIsTyped w d × FunctionsAreTyped w ds
