-- Code still stands for its functions where its decisions are replaced by others that choose alike.
use Rattle.std.proofs.Common.{◌∙◌, sym, ℕ, zero, suc, ◌+◌, true, false, List, [], ◌∷◌, length}
use Rattle.campl_tree.specs.Plain.Expr as e
use Rattle.campl_tree.specs.Plain.Expr.{Expr, Exprs, ExprRows}
use Rattle.campl_tree.specs.Plain.Decl.{FunctionDecl, FunctionRow}
use Rattle.campl_types.specs.Forms.{Form}
use Rattle.campl_types.specs.Patterns.{bound_in, bound_in_all}
use Rattle.campl_types.specs.Sequential.{expr_rows, function_rows}
use Rattle.campl_types.specs.World.{World}
use Rattle.campl_code.specs.Decisions.{Decision, StandsForRows, ChooseAlike, AllChooseAlike}
use Rattle.campl_code.specs.Instructions.{Instr, Block, Code}
use Rattle.campl_code.specs.Instructions as i
use Rattle.campl_code.specs.Numbers.{Numbers, numbered}
use Rattle.campl_code.specs.Stands.{count, End, To, Ret, ends, at_end, conses, tested, matched_at, stands, all_stand, rows_stand, loads, function_rows_stand, StandsForFunction, FunctionsStand}

-- two that stand for the same rows choose alike
pub same-rows : (w : World) (c d : Decision) (rows : List (List Form)) (n : ℕ) → StandsForRows w c rows n → StandsForRows w d rows n → ChooseAlike c d
same-rows w c d rows n s t = record {
  width = t.width ∙ sym s.width;
  bound = t.bound ∙ sym s.bound;
  choice = λ vs l. t.finds vs (l ∙ s.width) ∙ sym (s.finds vs (l ∙ s.width));
}

-- and one that chooses alike stands for them too
pub rows-too : (w : World) (c d : Decision) (rows : List (List Form)) (n : ℕ) → ChooseAlike c d → StandsForRows w c rows n → StandsForRows w d rows n
rows-too w c d rows n a s = record {
  width = a.width ∙ s.width;
  bound = a.bound ∙ s.bound;
  finds = λ vs l. a.choice vs (l ∙ sym s.width) ∙ s.finds vs l;
}

module _ (w : World) (all : Code) (ds : List Decision) (alike : AllChooseAlike all.decisions ds) where
  abbrev other : Code
  other = record all { decisions = ds }

  ends-too : (code : List Instr) (p : ℕ) (end : End) → ends w all code p end → ends w other code p end
  ends-too code p (To q) h = h
  ends-too code p Ret h = h

  at-end-too : (code : List Instr) (p : ℕ) (x : Instr) (end : End) → at_end w all code p x end → at_end w other code p x end
  at-end-too code p x end h = (h.0, ends-too code (p + 1) end h.1)

  conses-too : (code : List Instr) (p n : ℕ) (end : End) → conses w all code p n end → conses w other code p n end
  conses-too code p zero end h = ends-too code p end h
  conses-too code p (suc n) end h = (h.0, conses-too code (p + 1) n end h.1)

  tested-too : (code : List Instr) (p r : ℕ) (end : End) → tested w all code p r end → tested w other code p r end
  tested-too code p r end h = (h.0, at-end-too code (p + 1) (i.Truth true) end h.1, at-end-too code r (i.Truth false) end h.2)

  matched-too : (code : List Instr) (q base : ℕ) (targets : List ℕ) (rows : List (List Form)) (n : ℕ) → matched_at w all code q base targets rows n → matched_at w other code q base targets rows n
  matched-too code q base targets rows n (m, d, at, there, s) = let (x, found, a) = alike m d there in (m, x, at, found, rows-too w d x rows n a s)

  mutual
    stands-too : (code : List Instr) (p : ℕ) (a : Expr) (ns : Numbers) (end : End) → stands w all code p a ns end → stands w other code p a ns end
    stands-too code p (e.Number at x) ns end h = at-end-too code p (i.Int x) end h
    stands-too code p (e.Character at x) ns end h = at-end-too code p (i.Char x) end h
    stands-too code p (e.Text at x) ns end h = at-end-too code p (i.Text x) end h
    stands-too code p (e.True at) ns end h = at-end-too code p (i.Truth true) end h
    stands-too code p (e.False at) ns end h = at-end-too code p (i.Truth false) end h
    stands-too code p (e.Variable at x) ns end (v, found, h) = (v, found, at-end-too code p (i.Load v) end h)
    stands-too code p (e.List at items) ns end (q, h, nil, k) = (q, all-too code p items ns q h, nil, conses-too code (q + 1) (count items) end k)
    stands-too code p (e.Cons at a b) ns end (q, r, h, k, l) = (q, r, stands-too code p a ns (To q) h, stands-too code q b ns (To r) k, at-end-too code r i.Cons end l)
    stands-too code p (e.Append at a b) ns end (q, r, h, k, l) = (q, r, stands-too code p a ns (To q) h, stands-too code q b ns (To r) k, at-end-too code r (i.Op i.Append) end l)
    stands-too code p (e.Pair at a b) ns end (q, r, h, k, l) = (q, r, stands-too code p a ns (To q) h, stands-too code q b ns (To r) k, at-end-too code r i.Pair end l)
    stands-too code p (e.Compare at a op b) ns end (q, r, h, k, l) = (q, r, stands-too code p a ns (To q) h, stands-too code q b ns (To r) k, at-end-too code r (i.Op (i.Compare op)) end l)
    stands-too code p (e.Calculate at a op b) ns end (q, r, h, k, l) = (q, r, stands-too code p a ns (To q) h, stands-too code q b ns (To r) k, at-end-too code r (i.Op (i.Calculate op)) end l)
    stands-too code p (e.Negate at a) ns end (q, h, l) = (q, stands-too code p a ns (To q) h, at-end-too code q (i.Op i.Negate) end l)
    stands-too code p (e.CodeOf at a) ns end (q, h, l) = (q, stands-too code p a ns (To q) h, at-end-too code q (i.Op i.CodeOf) end l)
    stands-too code p (e.CharOf at a) ns end (q, h, l) = (q, stands-too code p a ns (To q) h, at-end-too code q (i.Op i.CharOf) end l)
    stands-too code p (e.If at a b c) ns end (q, r, h, at', k, l) = (q, r, stands-too code p a ns (To q) h, at', stands-too code (q + 1) b ns end k, stands-too code r c ns end l)
    stands-too code p (e.And at a b) ns end (q, r, s, h, at', k, l) = (q, r, s, stands-too code p a ns (To q) h, at', stands-too code (q + 1) b ns (To s) k, tested-too code s r end l)
    stands-too code p (e.Or at a b) ns end (q, r, s, t, h, at', truth, k, l) = (q, r, s, t, stands-too code p a ns (To q) h, at', at-end-too code (q + 1) (i.Truth true) end truth, stands-too code r b ns (To s) k, tested-too code s t end l)
    stands-too code p (e.Call at x args) ns end (q, g, h, called, l) = (q, g, all-too code p args ns q h, called, at-end-too code q (i.Call g) end l)
    stands-too code p (e.Constructor at x args) ns end (q, k, h, number, l) = (q, k, all-too code p args ns q h, number, at-end-too code q (i.Build k (count args)) end l)
    stands-too code p (e.Case at a rows) ns end (q, base, targets, h, m, l) = (q, base, targets, stands-too code p a ns (To q) h, matched-too code q base targets (expr_rows rows) 1 m, rows-stand-too code targets rows base ns end l)

    pub all-too : (code : List Instr) (p : ℕ) (args : Exprs) (ns : Numbers) (q : ℕ) → all_stand w all code p args ns q → all_stand w other code p args ns q
    all-too code p e.no_exprs ns q h = h
    all-too code p (e.expr_then a rest) ns q (r, h, k) = (r, stands-too code p a ns (To r) h, all-too code r rest ns q k)

    rows-stand-too : (code : List Instr) (targets : List ℕ) (rows : ExprRows) (base : ℕ) (ns : Numbers) (end : End) → rows_stand w all code targets rows base ns end → rows_stand w other code targets rows base ns end
    rows-stand-too code targets e.no_expr_rows base ns end h = h
    rows-stand-too code targets (e.expr_row_then p a rows) base ns end (to, later, is, spares, h, k) =
        (to, later, is, spares, stands-too code to a (numbered base (bound_in p) ns) end h, rows-stand-too code later rows base ns end k)

  loads-too : (code : List Instr) (n k : ℕ) → loads w all code n k → loads w other code n k
  loads-too code n zero h = tt
  loads-too code n (suc k) h = (h.0, loads-too code (suc n) k h.1)

  function-rows-too : (code : List Instr) (targets : List ℕ) (rows : List FunctionRow) (base : ℕ) → function_rows_stand w all code targets rows base → function_rows_stand w other code targets rows base
  function-rows-too code targets [] base h = h
  function-rows-too code targets (r ∷ rows) base (to, later, is, h, k) =
      (to, later, is, stands-too code to r.value (numbered base (bound_in_all r.patterns) []) Ret h, function-rows-too code later rows base k)

  function-too : (f : FunctionDecl) (b : Block) → StandsForFunction w all f b → StandsForFunction w other f b
  function-too f b s = record {
    name = s.name;
    variables = s.variables;
    inputs = s.inputs;
    outputs = s.outputs;
    base = s.base;
    targets = s.targets;
    loaded = loads-too b.code 0 (length f.parameters) s.loaded;
    matched = matched-too b.code (length f.parameters) s.base s.targets (function_rows f.rows) (length f.parameters) s.matched;
    rows = function-rows-too b.code s.targets f.rows s.base s.rows;
  }

  pub functions-too : FunctionsStand w all → FunctionsStand w other
  functions-too h g f at = let (b, there, s) = h g f at in (b, there, function-too f b s)
