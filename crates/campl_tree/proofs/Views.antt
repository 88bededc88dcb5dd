-- What the views answer at each node.
use Rattle.std.proofs.Common.{◌≡◌, ℕ, ℤ, Bool, List, Option, map, ap, sym, ◌∙◌}
use Rattle.campl_tree.specs.declared.place.Place.{Place}
use Rattle.campl_tree.specs.declared.place.Ident.{Ident}
use Rattle.campl_tree.specs.declared.name.Name.{Name}
use Rattle.campl_tree.specs.declared.types.SeqType.{SeqType}
use Rattle.campl_tree.specs.declared.types.SeqType.TheFolds.{fold-roll-SeqType}
use Rattle.campl_tree.specs.declared.types.SeqType.TheOpen.{SeqType-F}
use Rattle.campl_tree.specs.declared.types.SeqType.TheVariants as seq
use Rattle.campl_tree.specs.declared.types.ChanType.{ChanType}
use Rattle.campl_tree.specs.declared.types.ChanType.TheFolds.{fold-roll-ChanType}
use Rattle.campl_tree.specs.declared.types.ChanType.TheOpen.{ChanType-F}
use Rattle.campl_tree.specs.declared.types.ChanType.TheVariants as chan
use Rattle.campl_tree.specs.declared.pattern.Pattern.{Pattern}
use Rattle.campl_tree.specs.declared.pattern.Pattern.TheFolds.{fold-roll-Pattern}
use Rattle.campl_tree.specs.declared.pattern.Pattern.TheOpen.{Pattern-F}
use Rattle.campl_tree.specs.declared.pattern.Pattern.TheVariants as pattern
use Rattle.campl_tree.specs.declared.expr.Comparison.{Comparison}
use Rattle.campl_tree.specs.declared.expr.Arithmetic.{Arithmetic}
use Rattle.campl_tree.specs.declared.expr.Expr.{Expr}
use Rattle.campl_tree.specs.declared.expr.Expr.TheFolds.{fold-roll-Expr, fold_out-ExprRow, fold-roll-ExprRow}
use Rattle.campl_tree.specs.declared.expr.Expr.TheOpen.{Expr-F}
use Rattle.campl_tree.specs.declared.expr.Expr.TheVariants as expr
use Rattle.campl_tree.specs.declared.expr.ExprRow.{ExprRow, out-ExprRow, roll-ExprRow}
use Rattle.campl_tree.specs.declared.process.Action.{Action}
use Rattle.campl_tree.specs.declared.process.Link.{Link}
use Rattle.campl_tree.specs.declared.process.Last.{Last}
use Rattle.campl_tree.specs.declared.process.Last.TheFolds.{fold-roll-Last, fold_out-Body, fold-roll-Body, fold_out-Branch, fold-roll-Branch, fold_out-CaseRow, fold-roll-CaseRow, fold_out-HcaseRow, fold-roll-HcaseRow, fold_out-Part, fold-roll-Part}
use Rattle.campl_tree.specs.declared.process.Last.TheOpen.{Last-F}
use Rattle.campl_tree.specs.declared.process.Last.TheVariants as last
use Rattle.campl_tree.specs.declared.process.Body.{Body, out-Body, roll-Body}
use Rattle.campl_tree.specs.declared.process.Branch.{Branch, out-Branch, roll-Branch}
use Rattle.campl_tree.specs.declared.process.CaseRow.{CaseRow, out-CaseRow, roll-CaseRow}
use Rattle.campl_tree.specs.declared.process.HcaseRow.{HcaseRow, out-HcaseRow, roll-HcaseRow}
use Rattle.campl_tree.specs.declared.process.Part.{Part, out-Part, roll-Part}
use Rattle.campl_tree.specs.Plain.SeqType as s
use Rattle.campl_tree.specs.Plain.ChanType as c
use Rattle.campl_tree.specs.Plain.Pattern as p
use Rattle.campl_tree.specs.Plain.Expr as e
use Rattle.campl_tree.specs.Plain.Process as b
use Rattle.campl_tree.specs.View.{seq_types, seq_layer, view_seq, chan_layer, view_chan, patterns, pattern_layer, view_pattern, exprs, expr_rows, expr_layer, expr_row_layer, view_expr, view_expr_row, view_action, view_link, hcase_rows, branches, case_rows, parts, actions_then, last_layer, body_layer, branch_layer, case_row_layer, hcase_row_layer, part_layer, view_last, view_body, view_branch, view_case_row, view_hcase_row, view_part}

-- Sequential types

pub view_seq-Int : view_seq seq.Int ≡ s.Int
unfolding view_seq
view_seq-Int = ap view_seq (sym seq.rolls-Int) ∙ fold-roll-SeqType s.SeqType seq_layer SeqType-F.Int

pub view_seq-Char : view_seq seq.Char ≡ s.Char
unfolding view_seq
view_seq-Char = ap view_seq (sym seq.rolls-Char) ∙ fold-roll-SeqType s.SeqType seq_layer SeqType-F.Char

pub view_seq-Bool : view_seq seq.Bool ≡ s.Bool
unfolding view_seq
view_seq-Bool = ap view_seq (sym seq.rolls-Bool) ∙ fold-roll-SeqType s.SeqType seq_layer SeqType-F.Bool

pub view_seq-List : (t : SeqType) → view_seq (seq.List t) ≡ s.List (view_seq t)
unfolding view_seq
view_seq-List t = ap view_seq (sym (seq.rolls-List t)) ∙ fold-roll-SeqType s.SeqType seq_layer (SeqType-F.List t)

pub view_seq-Pair : (t : SeqType) (u : SeqType) → view_seq (seq.Pair t u) ≡ s.Pair (view_seq t) (view_seq u)
unfolding view_seq
view_seq-Pair t u = ap view_seq (sym (seq.rolls-Pair t u)) ∙ fold-roll-SeqType s.SeqType seq_layer (SeqType-F.Pair t u)

pub view_seq-Named : (at : Place) (x : Name) (ts : List SeqType) → view_seq (seq.Named at x ts) ≡ s.Named at x (seq_types (map view_seq ts))
unfolding view_seq
view_seq-Named at x ts = ap view_seq (sym (seq.rolls-Named at x ts)) ∙ fold-roll-SeqType s.SeqType seq_layer (SeqType-F.Named at x ts)

pub view_seq-Variable : (at : Place) (x : Name) → view_seq (seq.Variable at x) ≡ s.Variable at x
unfolding view_seq
view_seq-Variable at x = ap view_seq (sym (seq.rolls-Variable at x)) ∙ fold-roll-SeqType s.SeqType seq_layer (SeqType-F.Variable at x)

-- Channel types

pub view_chan-Put : (t : SeqType) (k : ChanType) → view_chan (chan.Put t k) ≡ c.Put (view_seq t) (view_chan k)
unfolding view_chan
view_chan-Put t k = ap view_chan (sym (chan.rolls-Put t k)) ∙ fold-roll-ChanType c.ChanType chan_layer (ChanType-F.Put t k)

pub view_chan-Get : (t : SeqType) (k : ChanType) → view_chan (chan.Get t k) ≡ c.Get (view_seq t) (view_chan k)
unfolding view_chan
view_chan-Get t k = ap view_chan (sym (chan.rolls-Get t k)) ∙ fold-roll-ChanType c.ChanType chan_layer (ChanType-F.Get t k)

pub view_chan-Tensor : (j : ChanType) (k : ChanType) → view_chan (chan.Tensor j k) ≡ c.Tensor (view_chan j) (view_chan k)
unfolding view_chan
view_chan-Tensor j k = ap view_chan (sym (chan.rolls-Tensor j k)) ∙ fold-roll-ChanType c.ChanType chan_layer (ChanType-F.Tensor j k)

pub view_chan-Par : (j : ChanType) (k : ChanType) → view_chan (chan.Par j k) ≡ c.Par (view_chan j) (view_chan k)
unfolding view_chan
view_chan-Par j k = ap view_chan (sym (chan.rolls-Par j k)) ∙ fold-roll-ChanType c.ChanType chan_layer (ChanType-F.Par j k)

pub view_chan-TopBot : view_chan chan.TopBot ≡ c.TopBot
unfolding view_chan
view_chan-TopBot = ap view_chan (sym chan.rolls-TopBot) ∙ fold-roll-ChanType c.ChanType chan_layer ChanType-F.TopBot

pub view_chan-Neg : (k : ChanType) → view_chan (chan.Neg k) ≡ c.Neg (view_chan k)
unfolding view_chan
view_chan-Neg k = ap view_chan (sym (chan.rolls-Neg k)) ∙ fold-roll-ChanType c.ChanType chan_layer (ChanType-F.Neg k)

pub view_chan-Named : (at : Place) (x : Name) (ts : List SeqType) → view_chan (chan.Named at x ts) ≡ c.Named at x (seq_types (map view_seq ts))
unfolding view_chan
view_chan-Named at x ts = ap view_chan (sym (chan.rolls-Named at x ts)) ∙ fold-roll-ChanType c.ChanType chan_layer (ChanType-F.Named at x ts)

-- Patterns

pub view_pattern-Wildcard : (at : Place) → view_pattern (pattern.Wildcard at) ≡ p.Wildcard at
unfolding view_pattern
view_pattern-Wildcard at = ap view_pattern (sym (pattern.rolls-Wildcard at)) ∙ fold-roll-Pattern p.Pattern pattern_layer (Pattern-F.Wildcard at)

pub view_pattern-Variable : (at : Place) (x : Name) → view_pattern (pattern.Variable at x) ≡ p.Variable at x
unfolding view_pattern
view_pattern-Variable at x = ap view_pattern (sym (pattern.rolls-Variable at x)) ∙ fold-roll-Pattern p.Pattern pattern_layer (Pattern-F.Variable at x)

pub view_pattern-Number : (at : Place) (n : ℤ) → view_pattern (pattern.Number at n) ≡ p.Number at n
unfolding view_pattern
view_pattern-Number at n = ap view_pattern (sym (pattern.rolls-Number at n)) ∙ fold-roll-Pattern p.Pattern pattern_layer (Pattern-F.Number at n)

pub view_pattern-Negative : (at : Place) (n : ℤ) → view_pattern (pattern.Negative at n) ≡ p.Negative at n
unfolding view_pattern
view_pattern-Negative at n = ap view_pattern (sym (pattern.rolls-Negative at n)) ∙ fold-roll-Pattern p.Pattern pattern_layer (Pattern-F.Negative at n)

pub view_pattern-Character : (at : Place) (n : ℕ) → view_pattern (pattern.Character at n) ≡ p.Character at n
unfolding view_pattern
view_pattern-Character at n = ap view_pattern (sym (pattern.rolls-Character at n)) ∙ fold-roll-Pattern p.Pattern pattern_layer (Pattern-F.Character at n)

pub view_pattern-Text : (at : Place) (text : List ℕ) → view_pattern (pattern.Text at text) ≡ p.Text at text
unfolding view_pattern
view_pattern-Text at text = ap view_pattern (sym (pattern.rolls-Text at text)) ∙ fold-roll-Pattern p.Pattern pattern_layer (Pattern-F.Text at text)

pub view_pattern-True : (at : Place) → view_pattern (pattern.True at) ≡ p.True at
unfolding view_pattern
view_pattern-True at = ap view_pattern (sym (pattern.rolls-True at)) ∙ fold-roll-Pattern p.Pattern pattern_layer (Pattern-F.True at)

pub view_pattern-False : (at : Place) → view_pattern (pattern.False at) ≡ p.False at
unfolding view_pattern
view_pattern-False at = ap view_pattern (sym (pattern.rolls-False at)) ∙ fold-roll-Pattern p.Pattern pattern_layer (Pattern-F.False at)

pub view_pattern-Constructor : (at : Place) (x : Name) (qs : List Pattern) → view_pattern (pattern.Constructor at x qs) ≡ p.Constructor at x (patterns (map view_pattern qs))
unfolding view_pattern
view_pattern-Constructor at x qs = ap view_pattern (sym (pattern.rolls-Constructor at x qs)) ∙ fold-roll-Pattern p.Pattern pattern_layer (Pattern-F.Constructor at x qs)

pub view_pattern-List : (at : Place) (qs : List Pattern) → view_pattern (pattern.List at qs) ≡ p.List at (patterns (map view_pattern qs))
unfolding view_pattern
view_pattern-List at qs = ap view_pattern (sym (pattern.rolls-List at qs)) ∙ fold-roll-Pattern p.Pattern pattern_layer (Pattern-F.List at qs)

pub view_pattern-Pair : (at : Place) (q : Pattern) (r : Pattern) → view_pattern (pattern.Pair at q r) ≡ p.Pair at (view_pattern q) (view_pattern r)
unfolding view_pattern
view_pattern-Pair at q r = ap view_pattern (sym (pattern.rolls-Pair at q r)) ∙ fold-roll-Pattern p.Pattern pattern_layer (Pattern-F.Pair at q r)

pub view_pattern-Cons : (at : Place) (q : Pattern) (r : Pattern) → view_pattern (pattern.Cons at q r) ≡ p.Cons at (view_pattern q) (view_pattern r)
unfolding view_pattern
view_pattern-Cons at q r = ap view_pattern (sym (pattern.rolls-Cons at q r)) ∙ fold-roll-Pattern p.Pattern pattern_layer (Pattern-F.Cons at q r)

-- Expressions

pub view_expr-If : (at : Place) (x : Expr) (y : Expr) (z : Expr) → view_expr (expr.If at x y z) ≡ e.If at (view_expr x) (view_expr y) (view_expr z)
unfolding view_expr view_expr_row
view_expr-If at x y z = ap view_expr (sym (expr.rolls-If at x y z)) ∙ fold-roll-Expr e.Expr (p.Pattern × e.Expr) expr_layer expr_row_layer (Expr-F.If at x y z)

pub view_expr-Case : (at : Place) (x : Expr) (rows : List ExprRow) → view_expr (expr.Case at x rows) ≡ e.Case at (view_expr x) (expr_rows (map view_expr_row rows))
unfolding view_expr view_expr_row
view_expr-Case at x rows = ap view_expr (sym (expr.rolls-Case at x rows)) ∙ fold-roll-Expr e.Expr (p.Pattern × e.Expr) expr_layer expr_row_layer (Expr-F.Case at x rows)

pub view_expr-Or : (at : Place) (x : Expr) (y : Expr) → view_expr (expr.Or at x y) ≡ e.Or at (view_expr x) (view_expr y)
unfolding view_expr view_expr_row
view_expr-Or at x y = ap view_expr (sym (expr.rolls-Or at x y)) ∙ fold-roll-Expr e.Expr (p.Pattern × e.Expr) expr_layer expr_row_layer (Expr-F.Or at x y)

pub view_expr-And : (at : Place) (x : Expr) (y : Expr) → view_expr (expr.And at x y) ≡ e.And at (view_expr x) (view_expr y)
unfolding view_expr view_expr_row
view_expr-And at x y = ap view_expr (sym (expr.rolls-And at x y)) ∙ fold-roll-Expr e.Expr (p.Pattern × e.Expr) expr_layer expr_row_layer (Expr-F.And at x y)

pub view_expr-Compare : (at : Place) (x : Expr) (op : Comparison) (y : Expr) → view_expr (expr.Compare at x op y) ≡ e.Compare at (view_expr x) op (view_expr y)
unfolding view_expr view_expr_row
view_expr-Compare at x op y = ap view_expr (sym (expr.rolls-Compare at x op y)) ∙ fold-roll-Expr e.Expr (p.Pattern × e.Expr) expr_layer expr_row_layer (Expr-F.Compare at x op y)

pub view_expr-Cons : (at : Place) (x : Expr) (y : Expr) → view_expr (expr.Cons at x y) ≡ e.Cons at (view_expr x) (view_expr y)
unfolding view_expr view_expr_row
view_expr-Cons at x y = ap view_expr (sym (expr.rolls-Cons at x y)) ∙ fold-roll-Expr e.Expr (p.Pattern × e.Expr) expr_layer expr_row_layer (Expr-F.Cons at x y)

pub view_expr-Append : (at : Place) (x : Expr) (y : Expr) → view_expr (expr.Append at x y) ≡ e.Append at (view_expr x) (view_expr y)
unfolding view_expr view_expr_row
view_expr-Append at x y = ap view_expr (sym (expr.rolls-Append at x y)) ∙ fold-roll-Expr e.Expr (p.Pattern × e.Expr) expr_layer expr_row_layer (Expr-F.Append at x y)

pub view_expr-Calculate : (at : Place) (x : Expr) (op : Arithmetic) (y : Expr) → view_expr (expr.Calculate at x op y) ≡ e.Calculate at (view_expr x) op (view_expr y)
unfolding view_expr view_expr_row
view_expr-Calculate at x op y = ap view_expr (sym (expr.rolls-Calculate at x op y)) ∙ fold-roll-Expr e.Expr (p.Pattern × e.Expr) expr_layer expr_row_layer (Expr-F.Calculate at x op y)

pub view_expr-Negate : (at : Place) (x : Expr) → view_expr (expr.Negate at x) ≡ e.Negate at (view_expr x)
unfolding view_expr view_expr_row
view_expr-Negate at x = ap view_expr (sym (expr.rolls-Negate at x)) ∙ fold-roll-Expr e.Expr (p.Pattern × e.Expr) expr_layer expr_row_layer (Expr-F.Negate at x)

pub view_expr-Number : (at : Place) (n : ℤ) → view_expr (expr.Number at n) ≡ e.Number at n
unfolding view_expr view_expr_row
view_expr-Number at n = ap view_expr (sym (expr.rolls-Number at n)) ∙ fold-roll-Expr e.Expr (p.Pattern × e.Expr) expr_layer expr_row_layer (Expr-F.Number at n)

pub view_expr-Character : (at : Place) (n : ℕ) → view_expr (expr.Character at n) ≡ e.Character at n
unfolding view_expr view_expr_row
view_expr-Character at n = ap view_expr (sym (expr.rolls-Character at n)) ∙ fold-roll-Expr e.Expr (p.Pattern × e.Expr) expr_layer expr_row_layer (Expr-F.Character at n)

pub view_expr-Text : (at : Place) (text : List ℕ) → view_expr (expr.Text at text) ≡ e.Text at text
unfolding view_expr view_expr_row
view_expr-Text at text = ap view_expr (sym (expr.rolls-Text at text)) ∙ fold-roll-Expr e.Expr (p.Pattern × e.Expr) expr_layer expr_row_layer (Expr-F.Text at text)

pub view_expr-True : (at : Place) → view_expr (expr.True at) ≡ e.True at
unfolding view_expr view_expr_row
view_expr-True at = ap view_expr (sym (expr.rolls-True at)) ∙ fold-roll-Expr e.Expr (p.Pattern × e.Expr) expr_layer expr_row_layer (Expr-F.True at)

pub view_expr-False : (at : Place) → view_expr (expr.False at) ≡ e.False at
unfolding view_expr view_expr_row
view_expr-False at = ap view_expr (sym (expr.rolls-False at)) ∙ fold-roll-Expr e.Expr (p.Pattern × e.Expr) expr_layer expr_row_layer (Expr-F.False at)

pub view_expr-Variable : (at : Place) (x : Name) → view_expr (expr.Variable at x) ≡ e.Variable at x
unfolding view_expr view_expr_row
view_expr-Variable at x = ap view_expr (sym (expr.rolls-Variable at x)) ∙ fold-roll-Expr e.Expr (p.Pattern × e.Expr) expr_layer expr_row_layer (Expr-F.Variable at x)

pub view_expr-Call : (at : Place) (x : Name) (all : List Expr) → view_expr (expr.Call at x all) ≡ e.Call at x (exprs (map view_expr all))
unfolding view_expr view_expr_row
view_expr-Call at x all = ap view_expr (sym (expr.rolls-Call at x all)) ∙ fold-roll-Expr e.Expr (p.Pattern × e.Expr) expr_layer expr_row_layer (Expr-F.Call at x all)

pub view_expr-CodeOf : (at : Place) (x : Expr) → view_expr (expr.CodeOf at x) ≡ e.CodeOf at (view_expr x)
unfolding view_expr view_expr_row
view_expr-CodeOf at x = ap view_expr (sym (expr.rolls-CodeOf at x)) ∙ fold-roll-Expr e.Expr (p.Pattern × e.Expr) expr_layer expr_row_layer (Expr-F.CodeOf at x)

pub view_expr-CharOf : (at : Place) (x : Expr) → view_expr (expr.CharOf at x) ≡ e.CharOf at (view_expr x)
unfolding view_expr view_expr_row
view_expr-CharOf at x = ap view_expr (sym (expr.rolls-CharOf at x)) ∙ fold-roll-Expr e.Expr (p.Pattern × e.Expr) expr_layer expr_row_layer (Expr-F.CharOf at x)

pub view_expr-Constructor : (at : Place) (x : Name) (all : List Expr) → view_expr (expr.Constructor at x all) ≡ e.Constructor at x (exprs (map view_expr all))
unfolding view_expr view_expr_row
view_expr-Constructor at x all = ap view_expr (sym (expr.rolls-Constructor at x all)) ∙ fold-roll-Expr e.Expr (p.Pattern × e.Expr) expr_layer expr_row_layer (Expr-F.Constructor at x all)

pub view_expr-List : (at : Place) (all : List Expr) → view_expr (expr.List at all) ≡ e.List at (exprs (map view_expr all))
unfolding view_expr view_expr_row
view_expr-List at all = ap view_expr (sym (expr.rolls-List at all)) ∙ fold-roll-Expr e.Expr (p.Pattern × e.Expr) expr_layer expr_row_layer (Expr-F.List at all)

pub view_expr-Pair : (at : Place) (x : Expr) (y : Expr) → view_expr (expr.Pair at x y) ≡ e.Pair at (view_expr x) (view_expr y)
unfolding view_expr view_expr_row
view_expr-Pair at x y = ap view_expr (sym (expr.rolls-Pair at x y)) ∙ fold-roll-Expr e.Expr (p.Pattern × e.Expr) expr_layer expr_row_layer (Expr-F.Pair at x y)

pub view_expr_row-out : (r : ExprRow) → view_expr_row r ≡ (view_pattern (out-ExprRow r).pattern, view_expr (out-ExprRow r).value)
unfolding view_expr view_expr_row
view_expr_row-out = fold_out-ExprRow e.Expr (p.Pattern × e.Expr) expr_layer expr_row_layer

pub view_expr_row-roll : (q : Pattern) (x : Expr) → view_expr_row (roll-ExprRow (record { pattern = q; value = x })) ≡ (view_pattern q, view_expr x)
unfolding view_expr view_expr_row
view_expr_row-roll q x = fold-roll-ExprRow e.Expr (p.Pattern × e.Expr) expr_layer expr_row_layer (record { pattern = q; value = x })

-- Processes

pub view_last-Halt : (at : Place) (channel : Option Ident) → view_last (last.Halt at channel) ≡ b.Halt at channel
unfolding view_last view_body view_branch view_case_row view_hcase_row view_part
view_last-Halt at channel = ap view_last (sym (last.rolls-Halt at channel)) ∙ fold-roll-Last b.Body b.Body (Ident × b.Body) (p.Pattern × b.Body) (Ident × b.Body) (b.Header × b.Body) last_layer body_layer branch_layer case_row_layer hcase_row_layer part_layer (Last-F.Halt at channel)

pub view_last-Hcase : (at : Place) (channel : Ident) (rows : List HcaseRow) → view_last (last.Hcase at channel rows) ≡ b.Hcase at channel (hcase_rows (map view_hcase_row rows))
unfolding view_last view_body view_branch view_case_row view_hcase_row view_part
view_last-Hcase at channel rows = ap view_last (sym (last.rolls-Hcase at channel rows)) ∙ fold-roll-Last b.Body b.Body (Ident × b.Body) (p.Pattern × b.Body) (Ident × b.Body) (b.Header × b.Body) last_layer body_layer branch_layer case_row_layer hcase_row_layer part_layer (Last-F.Hcase at channel rows)

pub view_last-Fork : (at : Place) (channel : Ident) (x y : Branch)
    → view_last (last.Fork at channel x y) ≡ b.Fork at channel (view_branch x).0 (view_branch x).1 (view_branch y).0 (view_branch y).1
unfolding view_last view_body view_branch view_case_row view_hcase_row view_part
view_last-Fork at channel x y = ap view_last (sym (last.rolls-Fork at channel x y)) ∙ fold-roll-Last b.Body b.Body (Ident × b.Body) (p.Pattern × b.Body) (Ident × b.Body) (b.Header × b.Body) last_layer body_layer branch_layer case_row_layer hcase_row_layer part_layer (Last-F.Fork at channel x y)

pub view_last-Plug : (at : Place) (links : List Link) (rows : List Part) → view_last (last.Plug at links rows) ≡ b.Plug at (map view_link links) (parts (map view_part rows))
unfolding view_last view_body view_branch view_case_row view_hcase_row view_part
view_last-Plug at links rows = ap view_last (sym (last.rolls-Plug at links rows)) ∙ fold-roll-Last b.Body b.Body (Ident × b.Body) (p.Pattern × b.Body) (Ident × b.Body) (b.Header × b.Body) last_layer body_layer branch_layer case_row_layer hcase_row_layer part_layer (Last-F.Plug at links rows)

pub view_last-Race : (at : Place) (rows : List Branch) → view_last (last.Race at rows) ≡ b.Race at (branches (map view_branch rows))
unfolding view_last view_body view_branch view_case_row view_hcase_row view_part
view_last-Race at rows = ap view_last (sym (last.rolls-Race at rows)) ∙ fold-roll-Last b.Body b.Body (Ident × b.Body) (p.Pattern × b.Body) (Ident × b.Body) (b.Header × b.Body) last_layer body_layer branch_layer case_row_layer hcase_row_layer part_layer (Last-F.Race at rows)

pub view_last-Case : (at : Place) (x : Expr) (rows : List CaseRow) → view_last (last.Case at x rows) ≡ b.Case at (view_expr x) (case_rows (map view_case_row rows))
unfolding view_last view_body view_branch view_case_row view_hcase_row view_part
view_last-Case at x rows = ap view_last (sym (last.rolls-Case at x rows)) ∙ fold-roll-Last b.Body b.Body (Ident × b.Body) (p.Pattern × b.Body) (Ident × b.Body) (b.Header × b.Body) last_layer body_layer branch_layer case_row_layer hcase_row_layer part_layer (Last-F.Case at x rows)

pub view_last-Identity : (at : Place) (x : Name) (negated : Bool) (y : Ident) → view_last (last.Identity at x negated y) ≡ b.Identity at x negated y
unfolding view_last view_body view_branch view_case_row view_hcase_row view_part
view_last-Identity at x negated y = ap view_last (sym (last.rolls-Identity at x negated y)) ∙ fold-roll-Last b.Body b.Body (Ident × b.Body) (p.Pattern × b.Body) (Ident × b.Body) (b.Header × b.Body) last_layer body_layer branch_layer case_row_layer hcase_row_layer part_layer (Last-F.Identity at x negated y)

pub view_last-Call : (at : Place) (x : Name) (all : List Expr) (inputs : List Ident) (outputs : List Ident) → view_last (last.Call at x all inputs outputs) ≡ b.Call at x (exprs (map view_expr all)) inputs outputs
unfolding view_last view_body view_branch view_case_row view_hcase_row view_part
view_last-Call at x all inputs outputs = ap view_last (sym (last.rolls-Call at x all inputs outputs)) ∙ fold-roll-Last b.Body b.Body (Ident × b.Body) (p.Pattern × b.Body) (Ident × b.Body) (b.Header × b.Body) last_layer body_layer branch_layer case_row_layer hcase_row_layer part_layer (Last-F.Call at x all inputs outputs)

pub view_body-out : (r : Body) → view_body r ≡ actions_then (map view_action (out-Body r).actions) (view_last (out-Body r).last)
unfolding view_last view_body view_branch view_case_row view_hcase_row view_part
view_body-out = fold_out-Body b.Body b.Body (Ident × b.Body) (p.Pattern × b.Body) (Ident × b.Body) (b.Header × b.Body) last_layer body_layer branch_layer case_row_layer hcase_row_layer part_layer

pub view_body-roll : (actions : List Action) (l : Last) → view_body (roll-Body (record { actions = actions; last = l })) ≡ actions_then (map view_action actions) (view_last l)
unfolding view_last view_body view_branch view_case_row view_hcase_row view_part
view_body-roll actions l = fold-roll-Body b.Body b.Body (Ident × b.Body) (p.Pattern × b.Body) (Ident × b.Body) (b.Header × b.Body) last_layer body_layer branch_layer case_row_layer hcase_row_layer part_layer (record { actions = actions; last = l })

pub view_branch-out : (r : Branch) → view_branch r ≡ ((out-Branch r).channel, view_body (out-Branch r).body)
unfolding view_last view_body view_branch view_case_row view_hcase_row view_part
view_branch-out = fold_out-Branch b.Body b.Body (Ident × b.Body) (p.Pattern × b.Body) (Ident × b.Body) (b.Header × b.Body) last_layer body_layer branch_layer case_row_layer hcase_row_layer part_layer

pub view_branch-roll : (x : Ident) (body : Body) → view_branch (roll-Branch (record { channel = x; body = body })) ≡ (x, view_body body)
unfolding view_last view_body view_branch view_case_row view_hcase_row view_part
view_branch-roll x body = fold-roll-Branch b.Body b.Body (Ident × b.Body) (p.Pattern × b.Body) (Ident × b.Body) (b.Header × b.Body) last_layer body_layer branch_layer case_row_layer hcase_row_layer part_layer (record { channel = x; body = body })

pub view_case_row-out : (r : CaseRow) → view_case_row r ≡ (view_pattern (out-CaseRow r).pattern, view_body (out-CaseRow r).body)
unfolding view_last view_body view_branch view_case_row view_hcase_row view_part
view_case_row-out = fold_out-CaseRow b.Body b.Body (Ident × b.Body) (p.Pattern × b.Body) (Ident × b.Body) (b.Header × b.Body) last_layer body_layer branch_layer case_row_layer hcase_row_layer part_layer

pub view_case_row-roll : (q : Pattern) (body : Body) → view_case_row (roll-CaseRow (record { pattern = q; body = body })) ≡ (view_pattern q, view_body body)
unfolding view_last view_body view_branch view_case_row view_hcase_row view_part
view_case_row-roll q body = fold-roll-CaseRow b.Body b.Body (Ident × b.Body) (p.Pattern × b.Body) (Ident × b.Body) (b.Header × b.Body) last_layer body_layer branch_layer case_row_layer hcase_row_layer part_layer (record { pattern = q; body = body })

pub view_hcase_row-out : (r : HcaseRow) → view_hcase_row r ≡ ((out-HcaseRow r).constructor, view_body (out-HcaseRow r).body)
unfolding view_last view_body view_branch view_case_row view_hcase_row view_part
view_hcase_row-out = fold_out-HcaseRow b.Body b.Body (Ident × b.Body) (p.Pattern × b.Body) (Ident × b.Body) (b.Header × b.Body) last_layer body_layer branch_layer case_row_layer hcase_row_layer part_layer

pub view_hcase_row-roll : (x : Ident) (body : Body) → view_hcase_row (roll-HcaseRow (record { constructor = x; body = body })) ≡ (x, view_body body)
unfolding view_last view_body view_branch view_case_row view_hcase_row view_part
view_hcase_row-roll x body = fold-roll-HcaseRow b.Body b.Body (Ident × b.Body) (p.Pattern × b.Body) (Ident × b.Body) (b.Header × b.Body) last_layer body_layer branch_layer case_row_layer hcase_row_layer part_layer (record { constructor = x; body = body })

pub view_part-out : (r : Part) → view_part r ≡ (record { place = (out-Part r).place; inputs = (out-Part r).inputs; outputs = (out-Part r).outputs }, view_body (out-Part r).body)
unfolding view_last view_body view_branch view_case_row view_hcase_row view_part
view_part-out = fold_out-Part b.Body b.Body (Ident × b.Body) (p.Pattern × b.Body) (Ident × b.Body) (b.Header × b.Body) last_layer body_layer branch_layer case_row_layer hcase_row_layer part_layer

pub view_part-roll : (at : Place) (ins outs : List Ident) (body : Body) → view_part (roll-Part (record { place = at; inputs = ins; outputs = outs; body = body })) ≡ (record { place = at; inputs = ins; outputs = outs }, view_body body)
unfolding view_last view_body view_branch view_case_row view_hcase_row view_part
view_part-roll at ins outs body = fold-roll-Part b.Body b.Body (Ident × b.Body) (p.Pattern × b.Body) (Ident × b.Body) (b.Header × b.Body) last_layer body_layer branch_layer case_row_layer hcase_row_layer part_layer (record { place = at; inputs = ins; outputs = outs; body = body })

-- those of one file of src/, and all of them
pub ruleset seq_views = (view_seq-Int, view_seq-Char, view_seq-Bool, view_seq-List, view_seq-Pair, view_seq-Named, view_seq-Variable)

pub ruleset chan_views = (view_chan-Put, view_chan-Get, view_chan-Tensor, view_chan-Par, view_chan-TopBot, view_chan-Neg, view_chan-Named)

pub ruleset pattern_views = (view_pattern-Wildcard, view_pattern-Variable, view_pattern-Number, view_pattern-Negative, view_pattern-Character, view_pattern-Text, view_pattern-True, view_pattern-False, view_pattern-Constructor, view_pattern-List, view_pattern-Pair, view_pattern-Cons)

pub ruleset expr_views = (view_expr-If, view_expr-Case, view_expr-Or, view_expr-And, view_expr-Compare, view_expr-Cons, view_expr-Append, view_expr-Calculate, view_expr-Negate, view_expr-Number, view_expr-Character, view_expr-Text, view_expr-True, view_expr-False, view_expr-Variable, view_expr-Call, view_expr-CodeOf, view_expr-CharOf, view_expr-Constructor, view_expr-List, view_expr-Pair, view_expr_row-out, view_expr_row-roll)

pub ruleset process_views = (view_last-Halt, view_last-Hcase, view_last-Fork, view_last-Plug, view_last-Race, view_last-Case, view_last-Identity, view_last-Call, view_body-out, view_body-roll, view_branch-out, view_branch-roll, view_case_row-out, view_case_row-roll, view_hcase_row-out, view_hcase_row-roll, view_part-out, view_part-roll)

pub ruleset views = (seq_views, chan_views, pattern_views, expr_views, process_views)
