-- Which code stands for an expression and for a function.
use Rattle.std.specs.Prelude.{◌≡◌, ℕ, zero, suc, ◌+◌, true, false, List, [], ◌∷◌, Some, slice_get, length}
use Rattle.campl_tree.specs.Plain.Expr as e
use Rattle.campl_tree.specs.Plain.Expr.{Expr, Exprs, ExprRows}
use Rattle.campl_tree.specs.Plain.Decl.{FunctionDecl, FunctionRow, Data, Protocol, Coprotocol, Function, Process}
use Rattle.campl_types.specs.Names.{Name, found}
use Rattle.campl_types.specs.Forms.{Form}
use Rattle.campl_types.specs.World.{World, function_named}
use Rattle.campl_types.specs.Matching.{number_of}
use Rattle.campl_types.specs.Patterns.{bound_in, bound_in_all}
use Rattle.campl_types.specs.Sequential.{expr_rows, function_rows}
use Rattle.campl_code.specs.Decisions.{Decision, StandsForRows}
use Rattle.campl_code.specs.Instructions.{Operation, Instr, Block, Code}
use Rattle.campl_code.specs.Instructions as i
use Rattle.campl_code.specs.Numbers.{Numbers, numbered, Spares}

-- the functions of a world, in order
abbrev pub functions_of : World → List FunctionDecl
functions_of [] = []
functions_of (Function f ∷ ds) = f ∷ functions_of ds
functions_of (Data d ∷ ds) = functions_of ds
functions_of (Protocol d ∷ ds) = functions_of ds
functions_of (Coprotocol d ∷ ds) = functions_of ds
functions_of (Process d ∷ ds) = functions_of ds

abbrev pub count : Exprs → ℕ
count e.no_exprs = 0
count (e.expr_then a rest) = suc (count rest)

-- where an expression's code ends: at a place, with the value on the stack, or by a return
pub data End : Type 0 where
  To : ℕ → End
  Ret : End

-- from a place jumps alone lead to the other
pub data Jumps (code : List Instr) (q : ℕ) : ℕ → Type 0 where
  here : (p : ℕ) → p ≡ q → Jumps code q p
  by_jump : (p r : ℕ) → slice_get code p ≡ Some (i.Jump r) → Jumps code q r → Jumps code q p

module _ (w : World) (all : Code) (code : List Instr) where
  abbrev pub ends : ℕ → End → Type 0
  ends p (To q) = Jumps code q p
  ends p Ret = (q : ℕ) × Jumps code q p × (slice_get code q ≡ Some i.Return)

  abbrev pub at_end : ℕ → Instr → End → Type 0
  at_end p x end = (slice_get code p ≡ Some x) × ends (p + 1) end

  -- so many cells are built
  abbrev pub conses : ℕ → ℕ → End → Type 0
  conses p zero end = ends p end
  conses p (suc n) end = (slice_get code p ≡ Some i.Cons) × conses (p + 1) n end

  -- a truth is tested, and is the value; False is at r
  abbrev pub tested : ℕ → ℕ → End → Type 0
  tested p r end = (slice_get code p ≡ Some (i.Unless r)) × at_end (p + 1) (i.Truth true) end × at_end r (i.Truth false) end

  -- the function of this name has this number and takes so many arguments
  abbrev pub is_called : Name → ℕ → ℕ → Type 0
  is_called x g n = (f : FunctionDecl) × (function_named w x ≡ Some f) × (slice_get (functions_of w) g ≡ Some f) × (length f.parameters ≡ n)

  -- a `match` by a decision for these rows of n values
  abbrev pub matched_at : ℕ → ℕ → List ℕ → List (List Form) → ℕ → Type 0
  matched_at q base targets rows n =
      (m : ℕ) × (d : Decision) × (slice_get code q ≡ Some (i.Match m base targets)) × (slice_get all.decisions m ≡ Some d) × StandsForRows w d rows n

  abbrev mutual
    -- from this place the code evaluates the expression under these numbers
    pub stands : ℕ → Expr → Numbers → End → Type 0
    stands p (e.Number at x) ns end = at_end p (i.Int x) end
    stands p (e.Character at c) ns end = at_end p (i.Char c) end
    stands p (e.Text at text) ns end = at_end p (i.Text text) end
    stands p (e.True at) ns end = at_end p (i.Truth true) end
    stands p (e.False at) ns end = at_end p (i.Truth false) end
    stands p (e.Variable at x) ns end = (v : ℕ) × (found x ns ≡ Some v) × at_end p (i.Load v) end
    stands p (e.List at items) ns end = (q : ℕ) × all_stand p items ns q × (slice_get code q ≡ Some i.Nil) × conses (q + 1) (count items) end
    stands p (e.Cons at a b) ns end = (q : ℕ) × (r : ℕ) × stands p a ns (To q) × stands q b ns (To r) × at_end r i.Cons end
    stands p (e.Append at a b) ns end = (q : ℕ) × (r : ℕ) × stands p a ns (To q) × stands q b ns (To r) × at_end r (i.Op i.Append) end
    stands p (e.Pair at a b) ns end = (q : ℕ) × (r : ℕ) × stands p a ns (To q) × stands q b ns (To r) × at_end r i.Pair end
    stands p (e.Compare at a op b) ns end =
        (q : ℕ) × (r : ℕ) × stands p a ns (To q) × stands q b ns (To r) × at_end r (i.Op (i.Compare op)) end
    stands p (e.Calculate at a op b) ns end =
        (q : ℕ) × (r : ℕ) × stands p a ns (To q) × stands q b ns (To r) × at_end r (i.Op (i.Calculate op)) end
    stands p (e.Negate at a) ns end = (q : ℕ) × stands p a ns (To q) × at_end q (i.Op i.Negate) end
    stands p (e.CodeOf at a) ns end = (q : ℕ) × stands p a ns (To q) × at_end q (i.Op i.CodeOf) end
    stands p (e.CharOf at a) ns end = (q : ℕ) × stands p a ns (To q) × at_end q (i.Op i.CharOf) end
    stands p (e.If at a b c) ns end =
        (q : ℕ) × (r : ℕ) × stands p a ns (To q) × (slice_get code q ≡ Some (i.Unless r)) × stands (q + 1) b ns end × stands r c ns end
    stands p (e.And at a b) ns end =
        (q : ℕ) × (r : ℕ) × (s : ℕ) × stands p a ns (To q) × (slice_get code q ≡ Some (i.Unless r)) × stands (q + 1) b ns (To s) × tested s r end
    stands p (e.Or at a b) ns end =
        (q : ℕ) × (r : ℕ) × (s : ℕ) × (t : ℕ) × stands p a ns (To q) × (slice_get code q ≡ Some (i.Unless r)) × at_end (q + 1) (i.Truth true) end
        × stands r b ns (To s) × tested s t end
    stands p (e.Call at x args) ns end =
        (q : ℕ) × (g : ℕ) × all_stand p args ns q × is_called x g (count args) × at_end q (i.Call g) end
    stands p (e.Constructor at x args) ns end =
        (q : ℕ) × (k : ℕ) × all_stand p args ns q × (number_of w x ≡ Some k) × at_end q (i.Build k (count args)) end
    stands p (e.Case at a rows) ns end =
        (q : ℕ) × (base : ℕ) × (targets : List ℕ) × stands p a ns (To q) × matched_at q base targets (expr_rows rows) 1
        × rows_stand targets rows base ns end

    -- one behind another, up to a place
    pub all_stand : ℕ → Exprs → Numbers → ℕ → Type 0
    all_stand p e.no_exprs ns q = Jumps code q p
    all_stand p (e.expr_then a rest) ns q = (r : ℕ) × stands p a ns (To r) × all_stand r rest ns q

    -- each row's place
    pub rows_stand : List ℕ → ExprRows → ℕ → Numbers → End → Type 0
    rows_stand targets e.no_expr_rows base ns end = targets ≡ []
    rows_stand targets (e.expr_row_then p a rows) base ns end =
        (to : ℕ) × (later : List ℕ) × (targets ≡ to ∷ later) × Spares base (length (bound_in p)) ns × stands to a (numbered base (bound_in p) ns) end
        × rows_stand later rows base ns end

  -- loads of so many variables from a number on, at the places with the same numbers
  abbrev pub loads : ℕ → ℕ → Type 0
  loads n zero = Unit {0}
  loads n (suc more) = (slice_get code n ≡ Some (i.Load n)) × loads (suc n) more

  abbrev pub function_rows_stand : List ℕ → List FunctionRow → ℕ → Type 0
  function_rows_stand targets [] base = targets ≡ []
  function_rows_stand targets (r ∷ rows) base =
      (to : ℕ) × (later : List ℕ) × (targets ≡ to ∷ later) × stands to r.value (numbered base (bound_in_all r.patterns) []) Ret
      × function_rows_stand later rows base

-- a block is code for a function
pub record StandsForFunction (w : World) (all : Code) (f : FunctionDecl) (b : Block) : Type 0 where
  pub name : b.name ≡ f.name.name
  pub variables : b.variables ≡ length f.parameters
  pub inputs : b.inputs ≡ 0
  pub outputs : b.outputs ≡ 0
  pub base : ℕ
  pub targets : List ℕ
  pub loaded : loads w all b.code 0 (length f.parameters)
  pub matched : matched_at w all b.code (length f.parameters) base targets (function_rows f.rows) (length f.parameters)
  pub rows : function_rows_stand w all b.code targets f.rows base

-- the functions' blocks are those of the functions, in source order
abbrev pub FunctionsStand : World → Code → Type 0
FunctionsStand w all = (g : ℕ) (f : FunctionDecl) → slice_get (functions_of w) g ≡ Some f → (b : Block) × (slice_get all.functions g ≡ Some b) × StandsForFunction w all f b
