-- Steps within a block, put together.
use Rattle.std.proofs.Common.{◌≡◌, ◌∙◌, ap, sym, subst, refl, arith, ℕ, ℤ, zero, suc, ◌+◌, ◌-◌, ◌*◌, ◌<◌, ◌≤◌, List, ◌∷◌, Option, Some, None, true, false, Result}
use Rattle.std.specs.Prelude.{slice_get, OnOk}
use Rattle.std.proofs.lemmas.Result.{on_ok_weaker}
use Rattle.std.specs.Ordering.{int_cmp}
use Rattle.campl_value.specs.Tree.{Tree, Int, Truth}
use Rattle.campl_evaluation.specs.Evaluation.{calculated, holds}
use Rattle.campl_code.specs.Instructions.{Instr, Block, Code, blocks}
use Rattle.campl_code.specs.Instructions as i
use Rattle.campl_code.specs.Frames.{Frame}
use Rattle.campl_code.specs.Results.{Value, perhaps}
use Rattle.campl_code.specs.Forward.{IsForward}
use Rattle.campl_code.specs.Machine.{Goes, Enters, code_at, pushes, act, does, step}
use Rattle.campl_eval.specs.Leaps.{Ahead, Comes, Within, put_by, put_at}
use Rattle.campl_eval.proofs.Kept.{Same, goes}
use Rattle.campl_eval.proofs.Size.{rest, rests, total, goes-falls, at_goes, at_enters}

-- what is behind some steps
pub onto : (code : Code) (n : ℕ) (f g h : Frame) → Ahead code n f g → Comes code g h → Comes code f h
onto code zero f g h a c = subst (λ (x : Frame). Comes code x h) (sym a) c
onto code (suc n) f g h (x, s, a) c = let d = onto code n x g h a c in (suc d.0, (x, s, d.1))

pub stays : (b : Block) (f g : Frame) → g ≡ f → Within b f g
stays b f g e = record { same = ap (λ (x : Frame). x.block) e; onward = let p : g.at ≡ f.at = ap (λ (x : Frame). x.at) e in omega (arith, p); comes = λ code here. (0, sym e) }

pub on : (b : Block) (f g h : Frame) → Within b f g → Within b g h → Within b f h
on b f g h p q = record {
  same = q.same ∙ p.same;
  onward = omega (arith, p.onward, q.onward);
  comes = λ code here. let c = p.comes code here in onto code c.0 f g h c.1 (q.comes code (ap (slice_get (blocks code)) p.same ∙ here));
}

-- one step, by the instruction that is there
pub one : (b : Block) (f g : Frame) (x : Instr) → slice_get b.code f.at ≡ Some x → g.block ≡ f.block → f.at ≤ g.at → ((code : Code) (fs : List Frame) → act code x f fs ≡ Goes g fs) → Within b f g
one b f g x there same onward acts = record {
  same = same;
  onward = onward;
  comes = λ code here. (1, (g, (λ fs. ap (λ o. does code (code_at o f.at) f fs) here ∙ ap (λ o. does code o f fs) there ∙ acts code fs), refl));
}

some-same : (t u : Tree) → ◌≡◌ {A = Option Tree} (Some t) (Some u) → u ≡ t
some-same t u e = cc

module _ (b : Block) (n at : ℕ) (vars stack : List Tree) (g : Frame) where
  abbrev here : ℕ → List Tree → Frame
  here at stack = record { block = n; at = at; vars = vars; stack = stack }

  pub by-int : (x : ℤ) → slice_get b.code at ≡ Some (i.Int x) → Within b (here (at + 1) (Int x ∷ stack)) g → Within b (here at stack) g
  by-int x there w = on b (here at stack) (here (at + 1) (Int x ∷ stack)) g (one b _ _ (i.Int x) there refl (omega arith) (λ code fs. refl)) w

  pub by-load : (v : ℕ) (t : Tree) → slice_get b.code at ≡ Some (i.Load v) → slice_get vars v ≡ Some t → Within b (here (at + 1) (t ∷ stack)) g → Within b (here at stack) g
  by-load v t there is w = on b (here at stack) (here (at + 1) (t ∷ stack)) g (one b _ _ (i.Load v) there refl (omega arith) (λ code fs. ap (λ o. pushes (here at stack) fs stack (perhaps o Value)) is)) w

  by-instr : (x : Instr) (t : Tree) → slice_get b.code at ≡ Some x → put_by x vars ≡ Some t → Within b (here (at + 1) (t ∷ stack)) g → Within b (here at stack) g
  by-instr (i.Int x) t there e w = by-int x there (subst (λ (y : Tree). Within b (here (at + 1) (y ∷ stack)) g) (some-same (Int x) t e) w)
  by-instr (i.Load v) t there e w = by-load v t there e w
  by-instr (i.Char c) t there e w = absurd cc
  by-instr (i.Truth p) t there e w = absurd cc
  by-instr i.Nil t there e w = absurd cc
  by-instr (i.Text s) t there e w = absurd cc
  by-instr i.Cons t there e w = absurd cc
  by-instr i.Pair t there e w = absurd cc
  by-instr (i.Build c n) t there e w = absurd cc
  by-instr (i.Op o) t there e w = absurd cc
  by-instr (i.Jump to) t there e w = absurd cc
  by-instr (i.Unless to) t there e w = absurd cc
  by-instr (i.Call g) t there e w = absurd cc
  by-instr (i.Match m v rows) t there e w = absurd cc
  by-instr i.Return t there e w = absurd cc
  by-instr (i.Case m v rows) t there e w = absurd cc
  by-instr (i.Put e0) t there e w = absurd cc
  by-instr (i.Get e0 v) t there e w = absurd cc
  by-instr (i.Pick e0 c) t there e w = absurd cc
  by-instr (i.Split e0 l r) t there e w = absurd cc
  by-instr (i.Close e0) t there e w = absurd cc
  by-instr (i.Offer e0 rows) t there e w = absurd cc
  by-instr (i.Fork e0 l r to) t there e w = absurd cc
  by-instr (i.Halt e0) t there e w = absurd cc
  by-instr (i.Link e0 f) t there e w = absurd cc
  by-instr (i.LinkNeg e0 f) t there e w = absurd cc
  by-instr (i.Peel e0 side to) t there e w = absurd cc
  by-instr (i.Race rows) t there e w = absurd cc
  by-instr (i.Go p cs) t there e w = absurd cc

  by-any : (o : Option Instr) (t : Tree) → slice_get b.code at ≡ o → put_at o vars ≡ Some t → Within b (here (at + 1) (t ∷ stack)) g → Within b (here at stack) g
  by-any None t there e w = absurd cc
  by-any (Some x) t there e w = by-instr x t there e w

  pub by-put : (t : Tree) → put_at (slice_get b.code at) vars ≡ Some t → Within b (here (at + 1) (t ∷ stack)) g → Within b (here at stack) g
  by-put t e w = by-any (slice_get b.code at) t refl e w

  pub by-jump : (to : ℕ) → slice_get b.code at ≡ Some (i.Jump to) → at < to → g ≡ here to stack → Within b (here at stack) g
  by-jump to there h e = on b (here at stack) (here to stack) g (one b _ _ (i.Jump to) there refl (omega (arith, h)) (λ code fs. refl)) (stays b _ _ e)

  pub by-calculate : (op : _) (x y : ℤ) → slice_get b.code at ≡ Some (i.Op (i.Calculate op)) → g ≡ here (at + 1) (Int (calculated op x y) ∷ stack) → Within b (here at (Int y ∷ Int x ∷ stack)) g
  by-calculate op x y there e = on b (here at (Int y ∷ Int x ∷ stack)) (here (at + 1) (Int (calculated op x y) ∷ stack)) g (one b _ _ (i.Op (i.Calculate op)) there refl (omega arith) (λ code fs. refl)) (stays b _ _ e)

  pub by-compare : (op : _) (x y : ℤ) → slice_get b.code at ≡ Some (i.Op (i.Compare op)) → Within b (here (at + 1) (Truth (holds op (int_cmp x y)) ∷ stack)) g → Within b (here at (Int y ∷ Int x ∷ stack)) g
  by-compare op x y there w = on b (here at (Int y ∷ Int x ∷ stack)) (here (at + 1) (Truth (holds op (int_cmp x y)) ∷ stack)) g (one b _ _ (i.Op (i.Compare op)) there refl (omega arith) (λ code fs. refl)) w

  module _ {T E : Type 0} (r : Result T E) where
    pub ok-put : (t : Tree) → put_at (slice_get b.code at) vars ≡ Some t → OnOk r (Within b (here (at + 1) (t ∷ stack)) g) → OnOk r (Within b (here at stack) g)
    ok-put t there = on_ok_weaker r (by-put t there)

    pub ok-compare : (op : _) (x y : ℤ) → slice_get b.code at ≡ Some (i.Op (i.Compare op)) → OnOk r (Within b (here (at + 1) (Truth (holds op (int_cmp x y)) ∷ stack)) g) → OnOk r (Within b (here at (Int y ∷ Int x ∷ stack)) g)
    ok-compare op x y there = on_ok_weaker r (by-compare op x y there)

  pub by-true : (to : ℕ) → slice_get b.code at ≡ Some (i.Unless to) → g ≡ here (at + 1) stack → Within b (here at (Truth true ∷ stack)) g
  by-true to there e = on b (here at (Truth true ∷ stack)) (here (at + 1) stack) g (one b _ _ (i.Unless to) there refl (omega arith) (λ code fs. refl)) (stays b _ _ e)

  pub by-false : (to : ℕ) → slice_get b.code at ≡ Some (i.Unless to) → at < to → g ≡ here to stack → Within b (here at (Truth false ∷ stack)) g
  by-false to there h e = on b (here at (Truth false ∷ stack)) (here to stack) g (one b _ _ (i.Unless to) there refl (omega (arith, h)) (λ code fs. refl)) (stays b _ _ e)

module _ (code : Code) (gs : List Frame) where
  same-on : (f : Frame) (fs : List Frame) (calls left n : ℕ) (g h : Frame) → Ahead code n g h → Same code f fs calls g gs left → Same code f fs calls h gs left
  same-on f fs calls left zero g h a s = subst (λ (x : Frame). Same code f fs calls x gs left) a s
  same-on f fs calls left (suc n) g h (x, e, a) s = same-on f fs calls left n x h a (goes code f fs calls g gs left s x gs (e gs))

  -- what is to come is the same behind some steps
  pub kept : (f : Frame) (fs : List Frame) (calls left : ℕ) (g h : Frame) → Comes code g h → Same code f fs calls g gs left → Same code f fs calls h gs left
  kept f fs calls left g h c s = same-on f fs calls left c.0 g h c.1 s

  module _ (forward : IsForward code) where
    shrinks : (n : ℕ) (g h : Frame) → Ahead code n g h → rest code h + rests code gs ≤ rest code g + rests code gs
    shrinks zero g h a = subst (λ (x : Frame). rest code x + rests code gs ≤ rest code g + rests code gs) a (omega arith)
    shrinks (suc n) g h (x, e, a) = omega (arith, shrinks n x h a, goes-falls code forward g gs x gs (e gs))

    -- less is left behind some steps and one more
    pub goes-less : (g h : Frame) → Comes code g h → (f' : Frame) (fs' : List Frame) (left : ℕ) → step code h gs ≡ Goes f' fs'
        → left * (total (blocks code) + 1) + (rest code f' + rests code fs') < left * (total (blocks code) + 1) + (rest code g + rests code gs)
    goes-less g h c f' fs' left e = omega (arith, shrinks c.0 g h c.1, at_goes code forward h gs f' fs' left e)

    pub enters-less : (g h : Frame) → Comes code g h → (f' : Frame) (fs' : List Frame) (left : ℕ) → 0 < left → step code h gs ≡ Enters f' fs'
        → (left - 1) * (total (blocks code) + 1) + (rest code f' + rests code fs') < left * (total (blocks code) + 1) + (rest code g + rests code gs)
    enters-less g h c f' fs' left p e = omega (arith, shrinks c.0 g h c.1, at_enters code forward h gs f' fs' left p e)

pub ruleset leaps = (stays, by-put, by-jump, by-calculate, by-compare, by-true, by-false, ok-put, ok-compare)
