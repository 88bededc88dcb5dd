-- The code that stands for an expression evaluates it.
use Rattle.std.proofs.Common.{◌≡◌, ◌∙◌, refl, sym, ap, subst, arith, ℕ, zero, suc, ◌+◌, ◌-◌, ◌≤◌, true, false, List, [], ◌∷◌, ◌++◌, Some, if◌then◌else◌, length, slice_get}
use Rattle.std.proofs.lemmas.List.{append-nil}
use Rattle.std.specs.Prelude.{◌&&◌, replicate}
use Rattle.campl_tree.specs.Plain.Expr as e
use Rattle.campl_tree.specs.Plain.Expr.{Expr, Exprs, ExprRows}
use Rattle.campl_tree.specs.Plain.Decl.{FunctionDecl, FunctionRow}
use Rattle.campl_value.specs.Tree.{Tree, Int, Char, Truth, Nil, Cell, Pair, built}
use Rattle.campl_value.specs.Text.{text_of}
use Rattle.campl_value.specs.List.{in_front, appended}
use Rattle.campl_value.specs.Compare.{compared}
use Rattle.campl_types.specs.Names.{Name, found}
use Rattle.campl_types.specs.Forms.{Form, form_of, part_forms, list_of}
use Rattle.campl_types.specs.Matching.{Bindings, first_match, number_of}
use Rattle.campl_types.specs.Patterns.{bound_in, bound_in_all}
use Rattle.campl_types.specs.Sequential.{expr_rows, function_rows}
use Rattle.campl_types.specs.World.{World, function_named}
use Rattle.campl_evaluation.specs.Evaluation.{Answer, Done, Deep, Wrong, More, and_then, given, made, truth, int, char, calculated, holds, Caller, value, values, row_value, body_value, calls, values_of}
use Rattle.campl_code.specs.Decisions.{StandsForRows, in_order, row_names}
use Rattle.campl_code.specs.Instructions.{Operation, Instr, Block, Code, blocks}
use Rattle.campl_code.specs.Instructions as i
use Rattle.campl_code.specs.Frames.{Frame, frame_size, frame_of, set_from}
use Rattle.campl_code.specs.Results.{Result, Value, perhaps, fitting, calculates, compares, appends, negates, codes, chars}
use Rattle.campl_code.specs.Machine.{Goes, Enters, pushes, builds, fetch, is_return, is_empty, below, entry, enters, enters_with, act, code_at, gives, is_command}
use Rattle.campl_code.specs.Runs.{Outcome, Gave, goes_on, run, Says, Follows, Arrives}
use Rattle.campl_code.specs.Numbers.{Numbers, numbered, Framed}
use Rattle.campl_code.specs.Stands.{functions_of, count, End, To, Ret, Jumps, here, by_jump, ends, at_end, stands, all_stand, rows_stand, is_called, loads, function_rows_stand, StandsForFunction, FunctionsStand}
use Rattle.campl_code.proofs.Bound.{name_order, found-row, row-bound, one-names, patterns-names, some-same}
use Rattle.campl_code.proofs.Frames.{get-front, agrees-found, frame-length, framed-set, framed-back}
use Rattle.campl_code.proofs.Reaches.{Reaches, Leads, then_leads, after, bind_reaches, widen, returned, answered, given-is, made-is, onto, onto-append, onto-length, onto-reverse, popped-is}
use Rattle.campl_code.proofs.Steps.{came_back, Fine, fr, aft, at_instr, one, jumps, no_return, finish, result_end, answer_end, unless_reaches, tested_end, match_reaches, room, built_up, built-is, conses_end}

-- the first instruction of an expression is no return
module _ (w : World) (code : Code) (is : List Instr) where
  mutual
    pub starts : (p : ℕ) (a : Expr) (ns : Numbers) (end : End) → stands w code is p a ns end → is_return (slice_get is p) ≡ false
    starts p (e.Number at x) ns end h = ap is_return h.0
    starts p (e.Character at x) ns end h = ap is_return h.0
    starts p (e.Text at x) ns end h = ap is_return h.0
    starts p (e.True at) ns end h = ap is_return h.0
    starts p (e.False at) ns end h = ap is_return h.0
    starts p (e.Variable at x) ns end h = ap is_return h.2.0
    starts p (e.List at items) ns end h = starts_all p items ns h.0 (ap is_return h.2) h.1
    starts p (e.Cons at a b) ns end h = starts p a ns (To h.0) h.2
    starts p (e.Append at a b) ns end h = starts p a ns (To h.0) h.2
    starts p (e.Pair at a b) ns end h = starts p a ns (To h.0) h.2
    starts p (e.Compare at a op b) ns end h = starts p a ns (To h.0) h.2
    starts p (e.Calculate at a op b) ns end h = starts p a ns (To h.0) h.2
    starts p (e.Negate at a) ns end h = starts p a ns (To h.0) h.1
    starts p (e.CodeOf at a) ns end h = starts p a ns (To h.0) h.1
    starts p (e.CharOf at a) ns end h = starts p a ns (To h.0) h.1
    starts p (e.If at a b c) ns end h = starts p a ns (To h.0) h.2
    starts p (e.And at a b) ns end h = starts p a ns (To h.0) h.3
    starts p (e.Or at a b) ns end h = starts p a ns (To h.0) h.4
    starts p (e.Call at x args) ns end h = starts_all p args ns h.0 (ap is_return h.4.0) h.2
    starts p (e.Constructor at x args) ns end h = starts_all p args ns h.0 (ap is_return h.4.0) h.2
    starts p (e.Case at a rows) ns end h = starts p a ns (To h.0) h.3

    pub starts_all : (p : ℕ) (all : Exprs) (ns : Numbers) (q : ℕ) → is_return (slice_get is q) ≡ false → all_stand w code is p all ns q → is_return (slice_get is p) ≡ false
    starts_all p e.no_exprs ns q z h = by h
      where
        by : {p : ℕ} → Jumps is q p → is_return (slice_get is p) ≡ false
        by (here _ k) = ap (λ n. is_return (slice_get is n)) k ∙ z
        by (by_jump _ r k rest) = ap is_return k
    starts_all p (e.expr_then a rest) ns q z h = starts p a ns (To h.0) h.1

module _ (w : World) (code : Code) (standing : FunctionsStand w code) where
  -- a call comes back with its value
  abbrev CallsRun : ℕ → Type 0
  CallsRun d =
      (g : ℕ) (x : Name) (fn : FunctionDecl) (b : Block) → function_named w x ≡ Some fn → slice_get (functions_of w) g ≡ Some fn → slice_get code.functions g ≡ Some b → StandsForFunction w code fn b
      → (args : List Tree) → length args ≡ length fn.parameters → (m : ℕ) → m ≤ d → (f : Frame) (gs fs : List Frame)
      → Reaches (λ j. goes_on (Enters (entry code g b args) fs) f gs (run code j) m) m (λ v vars. Unit {0}) (λ v vars k n. came_back v fs (run code k) n) (calls w d x args m)

  module _ (d : ℕ) (calls_run : CallsRun d) (blk : ℕ) (b : Block) (there : slice_get (blocks code) blk ≡ Some b) where
    abbrev call : Caller
    call = calls w d

    abbrev start : ℕ → List Tree → List Tree → List Frame → ℕ → ℕ → Outcome
    start p vars st fs m j = run code j (fr blk p vars st) fs m

    abbrev goal : List Tree → List Frame → End → Tree → List Tree → ℕ → ℕ → Outcome
    goal st fs end = aft w code blk st fs end

    abbrev Ok : Numbers → Bindings → Tree → List Tree → Type 0
    Ok ns env v vars = Framed (frame_size code.decisions b) ns env vars

    abbrev Alls : Exprs → Numbers → Bindings → List Tree → List Tree → Type 0
    Alls all ns env vs vars = Framed (frame_size code.decisions b) ns env vars × (length vs ≡ count all)

    abbrev Shown : Expr → Type 0
    Shown a = (p : ℕ) (ns : Numbers) (env : Bindings) (vars st : List Tree) (fs : List Frame) (m : ℕ) (end : End) → stands w code b.code p a ns end → Framed (frame_size code.decisions b) ns env vars → Fine b.code end st → m ≤ d
        → Reaches (start p vars st fs m) m (Ok ns env) (goal st fs end) (value w call a env m)

    -- two parts and an instruction that pushes a result of both
    two : (a c : Expr) → Shown a → Shown c → (x : Instr) (R : Tree → Tree → Result) (next : Tree → Tree → ℕ → Answer Tree) → ((v u : Tree) (k : ℕ) → next v u k ≡ answered (R v u) k)
        → ((p : ℕ) (vars st : List Tree) (fs : List Frame) (v u : Tree) → act code x (fr blk p vars (u ∷ v ∷ st)) fs ≡ pushes (fr blk p vars (u ∷ v ∷ st)) fs st (R v u)) → is_return (Some x) ≡ false
        → (p q r : ℕ) (ns : Numbers) (env : Bindings) (vars st : List Tree) (fs : List Frame) (m : ℕ) (end : End) → stands w code b.code p a ns (To q) → stands w code b.code q c ns (To r) → at_end w code b.code r x end → Framed (frame_size code.decisions b) ns env vars → Fine b.code end st → m ≤ d
        → Reaches (start p vars st fs m) m (Ok ns env) (goal st fs end) (and_then (value w call a env m) (λ v k. and_then (value w call c env k) (λ u n. next v u n)))
    two a c run_a run_c x R next same acts stays p q r ns env vars st fs m end ha hc hx f fine le =
        bind_reaches (start p vars st fs m) m (Ok ns env) (goal st fs (To q)) (Ok ns env) (goal st fs end) (value w call a env m) (λ v k. and_then (value w call c env k) (λ u n. next v u n))
        (run_a p ns env vars st fs m (To q) ha f (starts w code b.code q c ns (To r) hc) le)
        (λ v vars1 n le1 f1. bind_reaches (start q vars1 (v ∷ st) fs n) n (Ok ns env) (goal (v ∷ st) fs (To r)) (Ok ns env) (goal st fs end) (value w call c env n) (λ u k. next v u k)
        (run_c q ns env vars1 (v ∷ st) fs n (To r) hc f1 (ap is_return hx.0 ∙ stays) (omega arith))
        (λ u vars2 k le2 f2. answer_end w code blk b there r x end (R v u) ns env vars2 st (u ∷ v ∷ st) fs k (next v u k) (same v u k) hx (acts r vars2 st fs v u) fine f2))

    -- one part and an instruction that pushes a result of it
    single : (a : Expr) → Shown a → (x : Instr) (R : Tree → Result) (next : Tree → ℕ → Answer Tree) → ((v : Tree) (k : ℕ) → next v k ≡ answered (R v) k)
        → ((p : ℕ) (vars st : List Tree) (fs : List Frame) (v : Tree) → act code x (fr blk p vars (v ∷ st)) fs ≡ pushes (fr blk p vars (v ∷ st)) fs st (R v)) → is_return (Some x) ≡ false
        → (p q : ℕ) (ns : Numbers) (env : Bindings) (vars st : List Tree) (fs : List Frame) (m : ℕ) (end : End) → stands w code b.code p a ns (To q) → at_end w code b.code q x end → Framed (frame_size code.decisions b) ns env vars → Fine b.code end st → m ≤ d
        → Reaches (start p vars st fs m) m (Ok ns env) (goal st fs end) (and_then (value w call a env m) next)
    single a run_a x R next same acts stays p q ns env vars st fs m end ha hx f fine le =
        bind_reaches (start p vars st fs m) m (Ok ns env) (goal st fs (To q)) (Ok ns env) (goal st fs end) (value w call a env m) next
        (run_a p ns env vars st fs m (To q) ha f (ap is_return hx.0 ∙ stays) le)
        (λ v vars1 k le1 f1. answer_end w code blk b there q x end (R v) ns env vars1 st (v ∷ st) fs k (next v k) (same v k) hx (acts q vars1 st fs v) fine f1)

    -- below a call, by how the call ends
    back_leads : (q : ℕ) (end : End) (vars st : List Tree) (fs : List Frame) → ends w code b.code (q + 1) end → Fine b.code end st → (v : Tree) (left : ℕ)
        → Leads (λ k. came_back v (below code (fr blk (q + 1) vars st) fs) (run code k) left) (λ k. goal st fs end v vars k left)
    back_leads q end vars st fs en fine v left = go end en fine
      where
        f : Frame
        f = fr blk (q + 1) vars st

        fetched : fetch code (fr blk (q + 1) vars st) ≡ slice_get b.code (q + 1)
        fetched = ap (λ o. code_at o (q + 1)) there

        -- the frame is kept
        kept : (end : End) → ends w code b.code (q + 1) end → Fine b.code end st → is_return (slice_get b.code (q + 1)) ≡ false → Leads (λ k. came_back v (below code (fr blk (q + 1) vars st) fs) (run code k) left) (λ k. goal st fs end v vars k left)
        kept end en fine stays =
            let low : below code (fr blk (q + 1) vars st) fs ≡ fr blk (q + 1) vars st ∷ fs = ap (λ t. if t && is_empty st then fs else (fr blk (q + 1) vars st ∷ fs)) (ap is_return fetched ∙ stays) in
            then_leads (λ k. came_back v (below code (fr blk (q + 1) vars st) fs) (run code k) left) (start (q + 1) vars (v ∷ st) fs left) (λ k. goal st fs end v vars k left)
            (λ k. (k, omega arith, ap (λ (gs : List Frame). came_back v gs (run code k) left) low)) (finish w code blk b there (q + 1) end v vars st fs left en fine)

        by : {p : ℕ} → p ≡ q + 1 → (r : ℕ) → Jumps b.code r p → slice_get b.code r ≡ Some i.Return → st ≡ [] → Leads (λ k. came_back v (below code (fr blk (q + 1) vars st) fs) (run code k) left) (λ k. goal st fs Ret v vars k left)
        by same r (here p z) ret fine k =
            let yes : is_return (fetch code (fr blk (q + 1) vars st)) ≡ true = ap is_return (fetched ∙ ap (λ n. slice_get b.code n) (sym same ∙ z) ∙ ret) in
            let low : below code (fr blk (q + 1) vars st) fs ≡ fs = ap (λ t. if t && is_empty st then fs else (fr blk (q + 1) vars st ∷ fs)) yes ∙ ap (λ l. if is_empty l then fs else (fr blk (q + 1) vars st ∷ fs)) fine in
            (k, omega arith, ap (λ (gs : List Frame). came_back v gs (run code k) left) low)
        by same r (by_jump p s z rest) ret fine k =
            kept Ret (r, by_jump (q + 1) s (ap (λ n. slice_get b.code n) (sym same) ∙ z) rest, ret) fine (ap (λ n. is_return (slice_get b.code n)) (sym same) ∙ ap is_return z) k

        go : (end : End) → ends w code b.code (q + 1) end → Fine b.code end st → Leads (λ k. came_back v (below code (fr blk (q + 1) vars st) fs) (run code k) left) (λ k. goal st fs end v vars k left)
        go (To r) en fine = kept (To r) en fine (no_return w code blk b there (q + 1) r en fine)
        go Ret en fine = by refl en.0 en.1 en.2 fine

    call_end : (q g : ℕ) (x : Name) (n : ℕ) (end : End) (ns : Numbers) (env : Bindings) (args vars st : List Tree) (fs : List Frame) (m : ℕ) → at_end w code b.code q (i.Call g) end → is_called w code b.code x g n → length args ≡ n → Framed (frame_size code.decisions b) ns env vars → Fine b.code end st → m ≤ d
        → Reaches (start q vars (onto args st) fs m) m (Ok ns env) (goal st fs end) (call x args m)
    call_end q g x n end ns env args vars st fs m h known long f fine le =
        let s = standing g known.0 known.2 in
        let c = s.0 in
        let here_f = fr blk q vars (onto args st) in
        let low = below code (fr blk (q + 1) vars st) fs in
        let number : c.variables ≡ length args = s.2.variables ∙ known.3 ∙ sym long in
        let acts : act code (i.Call g) here_f fs ≡ Enters (entry code g c args) low =
        ap (λ o. enters code g o here_f fs) s.1 ∙ ap (λ o. enters_with code g c here_f fs o) (popped-is args st c.variables number) in
        let lead : Leads (start q vars (onto args st) fs m) (λ k. goes_on (Enters (entry code g c args) low) here_f fs (run code k) m) =
        λ k. (suc k, omega arith, at_instr w code blk b there q (i.Call g) h.0 vars (onto args st) fs k m ∙ ap (λ z. goes_on z here_f fs (run code k) m) acts) in
        after (start q vars (onto args st) fs m) (λ k. goes_on (Enters (entry code g c args) low) here_f fs (run code k) m) m m (Ok ns env) (goal st fs end) (call x args m) (omega arith) lead
        (returned (λ k. goes_on (Enters (entry code g c args) low) here_f fs (run code k) m) m (Ok ns env) (λ v k left. came_back v low (run code k) left) (goal st fs end) vars (call x args m) (λ v. f)
        (back_leads q end vars st fs h.1 fine)
        (calls_run g x known.0 c known.1 known.2 s.1 s.2 args (long ∙ sym known.3) m le here_f fs low))

    mutual
      pub runs : (a : Expr) → Shown a
      runs (e.Number at x) p ns env vars st fs m end h f fine le = result_end w code blk b there p (i.Int x) end (Value (Int x)) ns env vars st st fs m h refl fine f
      runs (e.Character at x) p ns env vars st fs m end h f fine le = result_end w code blk b there p (i.Char x) end (Value (Char x)) ns env vars st st fs m h refl fine f
      runs (e.Text at x) p ns env vars st fs m end h f fine le = answer_end w code blk b there p (i.Text x) end (fitting (text_of x)) ns env vars st st fs m (made (text_of x) m) (made-is (text_of x) m) h refl fine f
      runs (e.True at) p ns env vars st fs m end h f fine le = result_end w code blk b there p (i.Truth true) end (Value (Truth true)) ns env vars st st fs m h refl fine f
      runs (e.False at) p ns env vars st fs m end h f fine le = result_end w code blk b there p (i.Truth false) end (Value (Truth false)) ns env vars st st fs m h refl fine f
      runs (e.Variable at x) p ns env vars st fs m end h f fine le =
          let g = agrees-found x ns env vars h.0 f.holds h.1 in
          answer_end w code blk b there p (i.Load h.0) end (Value g.0) ns env vars st st fs m (given (found x env) m (λ v. Done v m)) (ap (λ o. given o m (λ v. Done v m)) g.1) h.2
          (ap (λ o. pushes (fr blk p vars st) fs st (perhaps o Value)) g.2) fine f
      runs (e.List at items) p ns env vars st fs m end h f fine le =
          bind_reaches (start p vars st fs m) m (Alls items ns env) (λ vs vars k n. start h.0 vars (onto vs st) fs n k) (Ok ns env) (goal st fs end) (values w call items env m) (λ vs k. made (in_front vs Nil) k)
          (runs_all items h.0 p ns env vars st fs m h.1 f (ap is_return h.2) le)
          (λ vs vars1 k le1 f1.
          let stack : onto vs st ≡ onto vs [] ++ st = onto-append vs [] st in
          let long : count items ≡ length (onto vs []) = sym f1.1 ∙ omega (arith, onto-length vs []) in
          let same : in_front vs Nil ≡ built_up (onto vs []) Nil = sym (built-is vs [] Nil) in
          after (start h.0 vars1 (onto vs st) fs k) (start (h.0 + 1) vars1 (Nil ∷ (onto vs [] ++ st)) fs k) k k (Ok ns env) (goal st fs end) (made (in_front vs Nil) k) (omega arith)
          (one w code blk b there h.0 i.Nil h.2 vars1 (onto vs st) fs k (fr blk (h.0 + 1) vars1 (Nil ∷ (onto vs [] ++ st))) (ap (λ (l : List Tree). Goes (fr blk (h.0 + 1) vars1 (Nil ∷ l)) fs) stack))
          (subst (λ (t : Tree). Reaches (start (h.0 + 1) vars1 (Nil ∷ (onto vs [] ++ st)) fs k) k (Ok ns env) (goal st fs end) (made t k)) (sym same)
          (conses_end w code blk b there (onto vs []) (h.0 + 1) (count items) end Nil ns env vars1 st fs k long h.3 (omega arith) fine f1.0)))
      runs (e.Cons at x y) p ns env vars st fs m end h f fine le =
          two x y (runs x) (runs y) i.Cons (λ v u. fitting (Cell v u)) (λ v u k. made (Cell v u) k) (λ v u k. made-is (Cell v u) k) (λ p vars st fs v u. refl) refl p h.0 h.1 ns env vars st fs m end h.2 h.3 h.4 f fine le
      runs (e.Append at x y) p ns env vars st fs m end h f fine le =
          two x y (runs x) (runs y) (i.Op i.Append) appends (λ v u k. given (appended v u) k (λ t. made t k)) (λ v u k. given-is (appended v u) k (λ t. made t k) fitting (λ t. made-is t k)) (λ p vars st fs v u. refl) refl p h.0 h.1 ns env vars st fs m end h.2 h.3 h.4 f fine le
      runs (e.Pair at x y) p ns env vars st fs m end h f fine le =
          two x y (runs x) (runs y) i.Pair (λ v u. fitting (Pair v u)) (λ v u k. made (Pair v u) k) (λ v u k. made-is (Pair v u) k) (λ p vars st fs v u. refl) refl p h.0 h.1 ns env vars st fs m end h.2 h.3 h.4 f fine le
      runs (e.Compare at x op y) p ns env vars st fs m end h f fine le =
          two x y (runs x) (runs y) (i.Op (i.Compare op)) (compares op) (λ v u k. given (compared v u) k (λ o. Done (Truth (holds op o)) k)) (λ v u k. given-is (compared v u) k (λ o. Done (Truth (holds op o)) k) (λ o. Value (Truth (holds op o))) (λ o. refl))
          (λ p vars st fs v u. refl) refl p h.0 h.1 ns env vars st fs m end h.2 h.3 h.4 f fine le
      runs (e.Calculate at x op y) p ns env vars st fs m end h f fine le =
          two x y (runs x) (runs y) (i.Op (i.Calculate op)) (calculates op) (λ v u k. given (int v) k (λ x. given (int u) k (λ y. Done (Int (calculated op x y)) k)))
          (λ v u k. given-is (int v) k (λ x. given (int u) k (λ y. Done (Int (calculated op x y)) k)) (λ x. perhaps (int u) (λ y. Value (Int (calculated op x y))))
          (λ x. given-is (int u) k (λ y. Done (Int (calculated op x y)) k) (λ y. Value (Int (calculated op x y))) (λ y. refl)))
          (λ p vars st fs v u. refl) refl p h.0 h.1 ns env vars st fs m end h.2 h.3 h.4 f fine le
      runs (e.Negate at x) p ns env vars st fs m end h f fine le =
          single x (runs x) (i.Op i.Negate) negates (λ v k. given (int v) k (λ x. _)) (λ v k. given-is (int v) k _ _ (λ x. refl)) (λ p vars st fs v. refl) refl p h.0 ns env vars st fs m end h.1 h.2 f fine le
      runs (e.CodeOf at x) p ns env vars st fs m end h f fine le =
          single x (runs x) (i.Op i.CodeOf) codes (λ v k. given (char v) k (λ x. _)) (λ v k. given-is (char v) k _ _ (λ x. refl)) (λ p vars st fs v. refl) refl p h.0 ns env vars st fs m end h.1 h.2 f fine le
      runs (e.CharOf at x) p ns env vars st fs m end h f fine le =
          single x (runs x) (i.Op i.CharOf) chars (λ v k. given (int v) k (λ x. _)) (λ v k. given-is (int v) k _ _ (λ x. refl)) (λ p vars st fs v. refl) refl p h.0 ns env vars st fs m end h.1 h.2 f fine le
      runs (e.If at x y z) p ns env vars st fs m end h f fine le =
          bind_reaches (start p vars st fs m) m (Ok ns env) (goal st fs (To h.0)) (Ok ns env) (goal st fs end) (value w call x env m) (λ v k. given (truth v) k (λ t. if t then value w call y env k else value w call z env k))
          (runs x p ns env vars st fs m (To h.0) h.2 f (ap is_return h.3) le)
          (λ v vars1 k le1 f1. unless_reaches w code blk b there h.0 h.1 v (λ t. if t then value w call y env k else value w call z env k) vars1 st fs k (Ok ns env) (goal st fs end) h.3
          (runs y (h.0 + 1) ns env vars1 st fs k end h.4 f1 fine (omega arith)) (runs z h.1 ns env vars1 st fs k end h.5 f1 fine (omega arith)))
      runs (e.And at x y) p ns env vars st fs m end h f fine le =
          bind_reaches (start p vars st fs m) m (Ok ns env) (goal st fs (To h.0)) (Ok ns env) (goal st fs end) (value w call x env m)
          (λ v k. given (truth v) k (λ t. if t then and_then (value w call y env k) (λ u n. given (truth u) n (λ s. Done (Truth s) n)) else Done (Truth false) k))
          (runs x p ns env vars st fs m (To h.0) h.3 f (ap is_return h.4) le)
          (λ v vars1 k le1 f1. unless_reaches w code blk b there h.0 h.1 v (λ t. if t then and_then (value w call y env k) (λ u n. given (truth u) n (λ s. Done (Truth s) n)) else Done (Truth false) k) vars1 st fs k (Ok ns env) (goal st fs end) h.4
          (bind_reaches (start (h.0 + 1) vars1 st fs k) k (Ok ns env) (goal st fs (To h.2)) (Ok ns env) (goal st fs end) (value w call y env k) (λ u n. given (truth u) n (λ s. Done (Truth s) n))
          (runs y (h.0 + 1) ns env vars1 st fs k (To h.2) h.5 f1 (ap is_return h.6.0) (omega arith))
          (λ u vars2 n le2 f2. tested_end w code blk b there h.2 h.1 end u ns env vars2 st fs n h.6 fine f2))
          (result_end w code blk b there h.1 (i.Truth false) end (Value (Truth false)) ns env vars1 st st fs k h.6.2 refl fine f1))
      runs (e.Or at x y) p ns env vars st fs m end h f fine le =
          bind_reaches (start p vars st fs m) m (Ok ns env) (goal st fs (To h.0)) (Ok ns env) (goal st fs end) (value w call x env m)
          (λ v k. given (truth v) k (λ t. if t then Done (Truth true) k else and_then (value w call y env k) (λ u n. given (truth u) n (λ s. Done (Truth s) n))))
          (runs x p ns env vars st fs m (To h.0) h.4 f (ap is_return h.5) le)
          (λ v vars1 k le1 f1. unless_reaches w code blk b there h.0 h.1 v (λ t. if t then Done (Truth true) k else and_then (value w call y env k) (λ u n. given (truth u) n (λ s. Done (Truth s) n))) vars1 st fs k (Ok ns env) (goal st fs end) h.5
          (result_end w code blk b there (h.0 + 1) (i.Truth true) end (Value (Truth true)) ns env vars1 st st fs k h.6 refl fine f1)
          (bind_reaches (start h.1 vars1 st fs k) k (Ok ns env) (goal st fs (To h.2)) (Ok ns env) (goal st fs end) (value w call y env k) (λ u n. given (truth u) n (λ s. Done (Truth s) n))
          (runs y h.1 ns env vars1 st fs k (To h.2) h.7 f1 (ap is_return h.8.0) (omega arith))
          (λ u vars2 n le2 f2. tested_end w code blk b there h.2 h.3 end u ns env vars2 st fs n h.8 fine f2)))
      runs (e.Call at x args) p ns env vars st fs m end h f fine le =
          bind_reaches (start p vars st fs m) m (Alls args ns env) (λ vs vars k n. start h.0 vars (onto vs st) fs n k) (Ok ns env) (goal st fs end) (values w call args env m) (λ vs k. call x vs k)
          (runs_all args h.0 p ns env vars st fs m h.2 f (ap is_return h.4.0) le)
          (λ vs vars1 k le1 f1. call_end h.0 h.1 x (count args) end ns env vs vars1 st fs k h.4 h.3 f1.1 f1.0 fine (omega arith))
      runs (e.Constructor at x args) p ns env vars st fs m end h f fine le =
          bind_reaches (start p vars st fs m) m (Alls args ns env) (λ vs vars k n. start h.0 vars (onto vs st) fs n k) (Ok ns env) (goal st fs end) (values w call args env m) (λ vs k. given (number_of w x) k (λ c. made (built c vs) k))
          (runs_all args h.0 p ns env vars st fs m h.2 f (ap is_return h.4.0) le)
          (λ vs vars1 k le1 f1. answer_end w code blk b there h.0 (i.Build h.1 (count args)) end (fitting (built h.1 vs)) ns env vars1 st (onto vs st) fs k (given (number_of w x) k (λ c. made (built c vs) k))
          (ap (λ o. given o k (λ c. made (built c vs) k)) h.3 ∙ made-is (built h.1 vs) k) h.4
          (ap (λ o. builds h.1 (fr blk h.0 vars1 (onto vs st)) fs o) (popped-is vs st (count args) (sym f1.1))) fine f1.0)
      runs (e.Case at x rows) p ns env vars st fs m end h f fine le =
          bind_reaches (start p vars st fs m) m (Ok ns env) (goal st fs (To h.0)) (Ok ns env) (goal st fs end) (value w call x env m) (λ v k. given (first_match w (expr_rows rows) (v ∷ [])) k (λ r. row_value w call rows r.0 (r.1 ++ env) k))
          (runs x p ns env vars st fs m (To h.0) h.3 f (ap is_return h.4.2) le)
          (λ v vars1 k le1 f1. match_reaches w code blk b there h.0 h.4.0 h.1 h.2 h.4.1 (expr_rows rows) (v ∷ []) (λ r. row_value w call rows r.0 (r.1 ++ env) k) vars1 st fs k (Ok ns env) (goal st fs end) h.4.2 h.4.3 h.4.4
          (λ j bs hit.
          let r = found-row w (expr_rows rows) (v ∷ []) j bs hit in
          runs_row rows h.2 h.1 ns env vars1 st fs k end j bs r.0 h.5 r.1 (row-bound w r.0 (v ∷ []) bs r.2) (room w code blk b there h.0 h.4.0 h.1 h.2 h.4.1 (expr_rows rows) 1 j r.0 h.4.2 h.4.3 h.4.4 r.1) f1 fine (omega arith)))

      pub runs_all : (all : Exprs) (q p : ℕ) (ns : Numbers) (env : Bindings) (vars st : List Tree) (fs : List Frame) (m : ℕ) → all_stand w code b.code p all ns q → Framed (frame_size code.decisions b) ns env vars → is_return (slice_get b.code q) ≡ false → m ≤ d
          → Reaches (start p vars st fs m) m (Alls all ns env) (λ vs vars k n. start q vars (onto vs st) fs n k) (values w call all env m)
      runs_all e.no_exprs q p ns env vars st fs m h f z le = (omega arith, vars, (f, refl), jumps w code blk b there q p h vars st fs m)
      runs_all (e.expr_then a rest) q p ns env vars st fs m h f z le =
          bind_reaches (start p vars st fs m) m (Ok ns env) (goal st fs (To h.0)) (Alls (e.expr_then a rest) ns env) (λ vs vars k n. start q vars (onto vs st) fs n k) (value w call a env m) (λ v k. and_then (values w call rest env k) (λ vs n. Done (v ∷ vs) n))
          (runs a p ns env vars st fs m (To h.0) h.1 f (starts_all w code b.code h.0 rest ns q z h.2) le)
          (λ v vars1 k le1 f1. bind_reaches (start h.0 vars1 (v ∷ st) fs k) k (Alls rest ns env) (λ vs vars j n. start q vars (onto vs (v ∷ st)) fs n j) (Alls (e.expr_then a rest) ns env) (λ vs vars j n. start q vars (onto vs st) fs n j) (values w call rest env k) (λ vs n. Done (v ∷ vs) n)
          (runs_all rest q h.0 ns env vars1 (v ∷ st) fs k h.2 f1 z (omega arith))
          (λ vs vars2 n le2 f2. (omega arith, vars2, (f2.0, ap suc f2.1), λ k. (k, omega arith, refl))))

      pub runs_row : (rows : ExprRows) (targets : List ℕ) (base : ℕ) (ns : Numbers) (env : Bindings) (vars st : List Tree) (fs : List Frame) (m : ℕ) (end : End) (j : ℕ) (bs : Bindings) (r : List Form) → rows_stand w code b.code targets rows base ns end → slice_get (expr_rows rows) j ≡ Some r
          → name_order bs ≡ row_names r → base + length (row_names r) ≤ frame_size code.decisions b → Framed (frame_size code.decisions b) ns env vars → Fine b.code end st → m ≤ d
          → (to : ℕ) × (slice_get targets j ≡ Some to) × Reaches (start to (set_from base (in_order bs) vars) st fs m) m (Ok ns env) (goal st fs end) (row_value w call rows j (bs ++ env) m)
      runs_row e.no_expr_rows targets base ns env vars st fs m end j bs r h at names space f fine le = absurd (cc at)
      runs_row (e.expr_row_then q a rows) targets base ns env vars st fs m end zero bs r h at names space f fine le =
          let form : form_of q ∷ [] ≡ r = some-same at in
          let xs : row_names r ≡ bound_in q = ap row_names (sym form) ∙ one-names q in
          let known : name_order bs ≡ bound_in q = names ∙ xs in
          let fits : h.0 + 0 ≡ h.0 = omega arith in (
            h.0,
            ap (λ l. slice_get l 0) h.2,
            widen (start h.0 (set_from base (in_order bs) vars) st fs m) m (Ok (numbered base (bound_in q) ns) (bs ++ env)) (Ok ns env) (goal st fs end) (value w call a (bs ++ env) m) (λ v vars2 f2. framed-back (frame_size code.decisions b) (bound_in q) bs base ns env vars2 known f2)
                (runs a h.0 (numbered base (bound_in q) ns) (bs ++ env) (set_from base (in_order bs) vars) st fs m end h.4 (framed-set (frame_size code.decisions b) (bound_in q) bs base ns env vars known (omega (arith, space, ap length xs)) h.3 f) fine le),
          )
      runs_row (e.expr_row_then q a rows) targets base ns env vars st fs m end (suc j) bs r h at names space f fine le =
          let x = runs_row rows h.1 base ns env vars st fs m end j bs r h.5 at names space f fine le in
          (x.0, ap (λ l. slice_get l (suc j)) h.2 ∙ x.1, x.2)

    -- Functions

    loads_run : (ts : List Tree) (n : ℕ) (vars st : List Tree) (fs : List Frame) (m : ℕ) → loads w code b.code n (length ts) → ((k : ℕ) (t : Tree) → slice_get ts k ≡ Some t → slice_get vars (n + k) ≡ Some t)
        → Leads (start n vars st fs m) (start (n + length ts) vars (onto ts st) fs m)
    loads_run [] n vars st fs m h has k = (k, omega arith, ap (λ i. start i vars st fs m k) (omega arith))
    loads_run (t ∷ ts) n vars st fs m h has k =
        let first : slice_get vars n ≡ Some t = ap (λ i. slice_get vars i) (omega arith) ∙ has 0 t refl in
        let next : n + 1 ≡ suc n = omega arith in
        let last : suc n + length ts ≡ n + suc (length ts) = omega arith in
        let rest = loads_run ts (suc n) vars (t ∷ st) fs m h.1 (λ i u at. let z : suc n + i ≡ n + suc i = omega arith in ap (λ i. slice_get vars i) z ∙ has (suc i) u at) in
        then_leads (start n vars st fs m) (start (suc n) vars (t ∷ st) fs m) (start (n + suc (length ts)) vars (onto ts (t ∷ st)) fs m)
        (one w code blk b there n (i.Load n) h.0 vars st fs m (fr blk (suc n) vars (t ∷ st))
        (ap (λ o. pushes (fr blk n vars st) fs st (perhaps o Value)) first ∙ ap (λ (i : ℕ). Goes (fr blk i vars (t ∷ st)) fs) next))
        (subst (λ (i : ℕ). Leads (start (suc n) vars (t ∷ st) fs m) (start i vars (onto ts (t ∷ st)) fs m)) last rest) k

    function_row : (rows : List FunctionRow) (targets : List ℕ) (base : ℕ) (vars : List Tree) (fs : List Frame) (m : ℕ) (j : ℕ) (bs : Bindings) (r : List Form) → function_rows_stand w code b.code targets rows base → slice_get (function_rows rows) j ≡ Some r
        → name_order bs ≡ row_names r → base + length (row_names r) ≤ frame_size code.decisions b → length vars ≡ frame_size code.decisions b → m ≤ d
        → (to : ℕ) × (slice_get targets j ≡ Some to) × Reaches (start to (set_from base (in_order bs) vars) [] fs m) m (λ v vars. Unit {0}) (goal [] fs Ret) (given (slice_get rows j) m (λ (row : FunctionRow). value w call row.value bs m))
    function_row [] targets base vars fs m j bs r h at names space long le = absurd (cc at)
    function_row (row ∷ rows) targets base vars fs m zero bs r h at names space long le =
        let form : list_of (part_forms row.patterns) ≡ r = some-same at in
        let xs : row_names r ≡ bound_in_all row.patterns = ap row_names (sym form) ∙ patterns-names row.patterns in
        let known : name_order bs ≡ bound_in_all row.patterns = names ∙ xs in
        let bare : bs ++ [] ≡ bs = append-nil bs in
        let f : Framed (frame_size code.decisions b) [] [] vars = record { holds = tt; long = long } in
        let set = framed-set (frame_size code.decisions b) (bound_in_all row.patterns) bs base [] [] vars known (omega (arith, space, ap length xs)) tt f in
        let set_bare = subst (λ (l : Bindings). Framed (frame_size code.decisions b) (numbered base (bound_in_all row.patterns) []) l (set_from base (in_order bs) vars)) bare set in (
          h.0,
          ap (λ l. slice_get l 0) h.2,
          widen (start h.0 (set_from base (in_order bs) vars) [] fs m) m (Ok (numbered base (bound_in_all row.patterns) []) bs) (λ v vars. Unit {0}) (goal [] fs Ret) (value w call row.value bs m) (λ v vars2 f2. tt)
              (runs row.value h.0 (numbered base (bound_in_all row.patterns) []) bs (set_from base (in_order bs) vars) [] fs m Ret h.3 set_bare refl le),
        )
    function_row (row ∷ rows) targets base vars fs m (suc j) bs r h at names space long le =
        let x = function_row rows h.1 base vars fs m j bs r h.4 at names space long le in
        (x.0, ap (λ l. slice_get l (suc j)) h.2 ∙ x.1, x.2)

    body_runs : (f : FunctionDecl) → StandsForFunction w code f b → (args : List Tree) → length args ≡ length f.parameters → (m : ℕ) → m ≤ d → (fs : List Frame)
        → Reaches (start 0 (frame_of code.decisions b args) [] fs m) m (λ v vars. Unit {0}) (goal [] fs Ret) (body_value w call f args m)
    body_runs f s args long m le fs =
        let vars = frame_of code.decisions b args in
        let n = length f.parameters in
        let size = frame-length code.decisions b args (long ∙ sym s.variables) in
        let loaded = subst (λ (k : ℕ). loads w code b.code 0 k) (sym long) s.loaded in
        let junk = replicate (frame_size code.decisions b - b.variables) Nil in
        let has = λ (k : ℕ) (t : Tree) (at : slice_get args k ≡ Some t). let z : 0 + k ≡ k = omega arith in ap (λ i. slice_get vars i) z ∙ get-front args junk k t at in
        let mt = s.matched in
        let rows_for = subst (λ (k : ℕ). StandsForRows w mt.1 (function_rows f.rows) k) (sym long) mt.4 in
        let place : 0 + length args ≡ n = omega (arith, long) in
        after (start 0 vars [] fs m) (start n vars (onto args []) fs m) m m (λ v vars. Unit {0}) (goal [] fs Ret) (body_value w call f args m) (omega arith)
        (subst (λ (i : ℕ). Leads (start 0 vars [] fs m) (start i vars (onto args []) fs m)) place (loads_run args 0 vars [] fs m loaded has))
        (match_reaches w code blk b there n mt.0 s.base s.targets mt.1 (function_rows f.rows) args (λ r. given (slice_get f.rows r.0) m (λ (row : FunctionRow). value w call row.value r.1 m)) vars [] fs m (λ v vars. Unit {0}) (goal [] fs Ret) mt.2 mt.3 rows_for
        (λ j bs hit.
        let r = found-row w (function_rows f.rows) args j bs hit in
        function_row f.rows s.targets s.base vars fs m j bs r.0 s.rows r.1 (row-bound w r.0 args bs r.2) (room w code blk b there n mt.0 s.base s.targets mt.1 (function_rows f.rows) (length args) j r.0 mt.2 mt.3 rows_for r.1) size le))

  calls_run : (d : ℕ) → CallsRun d
  calls_run d g x fn b known at block s args long zero le f gs fs = none d
    where
      none : (d : ℕ) → Reaches (λ j. goes_on (Enters (entry code g b args) fs) f gs (run code j) 0) 0 (λ v vars. Unit {0}) (λ v vars k n. came_back v fs (run code k) n) (calls w d x args 0)
      none zero = subst (λ o. Reaches (λ j. goes_on (Enters (entry code g b args) fs) f gs (run code j) 0) 0 (λ v vars. Unit {0}) (λ v vars k n. came_back v fs (run code k) n) (given o 0 (λ f. More))) (sym known) (0, f, gs, refl)
      none (suc d) = subst (λ o. Reaches (λ j. goes_on (Enters (entry code g b args) fs) f gs (run code j) 0) 0 (λ v vars. Unit {0}) (λ v vars k n. came_back v fs (run code k) n) (given o 0 (λ f. More))) (sym known) (0, f, gs, refl)
  calls_run zero g x fn b known at block s args long (suc m) le f gs fs = absurd (omega arith)
  calls_run (suc d) g x fn b known at block s args long (suc m) le f gs fs =
      let start' = λ (j : ℕ). run code j (entry code g b args) fs m in
      let goal' = λ (v : Tree) (vars : List Tree) (k n : ℕ). came_back v fs (run code k) n in
      let body = body_runs d (calls_run d) g b (get-front code.functions code.processes g b block) fn s args long m (omega arith) fs in
      subst (λ o. Reaches start' (suc m) (λ v vars. Unit {0}) goal' (given o (suc m) (λ f. body_value w (calls w d) f args m))) (sym known)
      (after start' start' (suc m) m (λ v vars. Unit {0}) goal' (body_value w (calls w d) fn args m) (omega arith) (λ k. (k, omega arith, refl)) body)

  gives_is : (x : Instr) (f : Frame) (fs : List Frame) → is_command x ≡ true → act code x f fs ≡ gives f fs
  gives_is (i.Case m v l) f fs h = refl
  gives_is (i.Put a) f fs h = refl
  gives_is (i.Get a v) f fs h = refl
  gives_is (i.Pick a c) f fs h = refl
  gives_is (i.Split a c d) f fs h = refl
  gives_is (i.Close a) f fs h = refl
  gives_is (i.Offer a l) f fs h = refl
  gives_is (i.Fork a c d l) f fs h = refl
  gives_is (i.Halt a) f fs h = refl
  gives_is (i.Link a c) f fs h = refl
  gives_is (i.LinkNeg a c) f fs h = refl
  gives_is (i.Peel a s l) f fs h = refl
  gives_is (i.Race l) f fs h = refl
  gives_is (i.Go p l) f fs h = refl
  gives_is x f fs h = absurd (cc h)

  -- a command's expressions, followed by its instruction
  pub arrives : (all : Exprs) (blk : ℕ) (b : Block) (p q : ℕ) (x : Instr) (ns : Numbers) (env : Bindings) (vars : List Tree) → slice_get (blocks code) blk ≡ Some b → all_stand w code b.code p all ns q → slice_get b.code q ≡ Some x → is_command x ≡ true → Framed (frame_size code.decisions b) ns env vars
      → (m : ℕ) → (k : ℕ) × Arrives (frame_size code.decisions b) (count all) ns env q (run code k (fr blk p vars []) [] m) (values_of w all env m)
  arrives all blk b p q x ns env vars there h at command f m =
      by (values_of w all env m) (runs_all m (calls_run m) blk b there all q p ns env vars [] [] m h f (ap is_return at ∙ commanded x command) (omega arith))
    where
      commanded : (x : Instr) → is_command x ≡ true → is_return (Some x) ≡ false
      commanded i.Return h = absurd (cc h)
      commanded x h = refl

      by : (a : Answer (List Tree)) → Reaches (λ j. run code j (fr blk p vars []) [] m) m (λ vs vars. Framed (frame_size code.decisions b) ns env vars × (length vs ≡ count all)) (λ vs vars k n. run code k (fr blk q vars (onto vs [])) [] n) a → (j : ℕ) × Arrives (frame_size code.decisions b) (count all) ns env q (run code j (fr blk p vars []) [] m) a
      by (Done vs left) r =
          let g = r.3 1 in
          let done = g.2 ∙ at_instr w code blk b there q x at r.1 (onto vs []) [] 0 left ∙ ap (λ n. goes_on n (fr blk q r.1 (onto vs [])) [] (run code 0) left) (gives_is x (fr blk q r.1 (onto vs [])) [] command) ∙ ap (λ (l : List Tree). Gave q r.1 l left) (onto-reverse vs) in
          (g.0, (r.1, done, r.2.0, r.2.1))
      by (Deep left) r = (r.0, r.1)
      by (Wrong left) r = (r.0, r.1)
      by More r = (r.0, (r.1, r.2, r.3))

  arrives-says : (places n : ℕ) (ns : Numbers) (env : Bindings) (q : ℕ) (o : Outcome) (a : Answer (List Tree)) → Arrives places n ns env q o a → Says o a
  arrives-says places n ns env q o (Done vs left) h = subst (λ o. Says o (Done vs left)) (sym h.1) refl
  arrives-says places n ns env q o (Deep left) h = subst (λ o. Says o (Deep left)) (sym h) refl
  arrives-says places n ns env q o (Wrong left) h = subst (λ o. Says o (Wrong left)) (sym h) refl
  arrives-says places n ns env q o More h = subst (λ o. Says o More) (sym h.2) refl

  pub follows : (all : Exprs) (blk : ℕ) (b : Block) (p q : ℕ) (x : Instr) (ns : Numbers) (env : Bindings) (vars : List Tree) → slice_get (blocks code) blk ≡ Some b → all_stand w code b.code p all ns q → slice_get b.code q ≡ Some x → is_command x ≡ true → Framed (frame_size code.decisions b) ns env vars
      → Follows code (fr blk p vars []) [] 0 (λ n. values_of w all env n)
  follows all blk b p q x ns env vars there h at command f m =
      let r = arrives all blk b p q x ns env vars there h at command f m in
      let z : m ≡ 0 + m = omega arith in
      (r.0, subst (λ (n : ℕ). Says (run code r.0 (fr blk p vars []) [] m) (values_of w all env n)) z (arrives-says (frame_size code.decisions b) (count all) ns env q (run code r.0 (fr blk p vars []) [] m) (values_of w all env m) r.1))
