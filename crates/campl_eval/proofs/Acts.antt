-- What the machine's step comes to, from what a function of the evaluator learns.
use Rattle.std.proofs.Common.{◌≡◌, ◌∙◌, ap, sym, refl, arith, ℕ, zero, suc, ◌+◌, ◌-◌, ◌<◌, ◌≤◌, Bool, true, false, List, [], ◌∷◌, ◌++◌, length, reverse, take, drop, Option, Some, None, replicate}
use Rattle.std.specs.Prelude.{slice_get, option_map, ◌&&◌, nat_le}
use Rattle.std.proofs.lemmas.Bool.{leb-true, leb-false}
use Rattle.campl_value.specs.Tree.{Tree, Nil}
use Rattle.campl_code.specs.Decisions.{Decision, chosen}
use Rattle.campl_code.specs.Instructions.{Block, Code}
use Rattle.campl_code.specs.Frames.{Frame, frame_size, set_from}
use Rattle.campl_code.specs.Results.{Faulty}
use Rattle.campl_code.specs.Machine.{Goes, Enters, Breaks, popped, is_empty, enters, enters_with, below, matches, decides, to_row, goes_to}
use Rattle.campl_eval.specs.Turn.{is_entry}
use Rattle.campl_operands.proofs.Tops.{popped-is, popped-short, take-all}
use mathlib.Core.Bool.{and-false}
use Rattle.campl_types.proofs.Truth.{and-second}

left : (n : ℕ) (st : List Tree) → n ≤ length st → (length st ≡ n → ⊥) → is_empty (drop n st) ≡ false
left zero [] h d = absurd (d refl)
left zero (v ∷ st) h d = refl
left (suc n) [] h d = absurd (omega (arith, h))
left (suc n) (v ∷ st) h d = let k : n ≤ length st = omega (arith, h) in left n st k (λ e. d (ap suc e))

pub not-last : (b : Bool) (n : ℕ) (st : List Tree) → n ≤ length st → (length st ≡ n → ⊥) → false ≡ (b && is_empty (drop n st))
not-last b n st h d = sym (ap (λ x. b && x) (left n st h d) ∙ and-false b)

all : (n : ℕ) (st : List Tree) → n ≤ length st → is_empty (drop n st) ≡ true → length st ≡ n
all zero [] h e = refl
all zero (v ∷ st) h e = absurd cc
all (suc n) [] h e = absurd (omega (arith, h))
all (suc n) (v ∷ st) h e = let k : n ≤ length st = omega (arith, h) in ap suc (all n st k e)

abbrev pub frame-of : ℕ → List Tree → Frame
frame-of g vs = record { block = g; at = 0; vars = vs; stack = [] }

pub last-frame : (b : Bool) (g n size : ℕ) (st : List Tree) → n ≤ length st → (b && is_empty (drop n st)) ≡ true
    → ◌≡◌ {A = Frame} (record { block = g; at = 0; vars = reverse st ++ replicate (size - length st) Nil; stack = [] }) (record { block = g; at = 0; vars = reverse (take n st) ++ replicate (size - n) Nil; stack = [] })
last-frame b g n size st h e =
    let len = all n st h (and-second b _ e) in
    let same : take n st ≡ st = ap (λ (k : ℕ). take k st) (sym len) ∙ take-all st in
    ap (λ (k : ℕ). frame-of g (reverse st ++ replicate (size - k) Nil)) len ∙ ap (λ s. frame-of g (reverse s ++ replicate (size - n) Nil)) (sym same)

-- what a program says of a function's entry
abbrev pub entry-of : Code → Option Block → Option (ℕ × ℕ)
entry-of code = option_map (λ b. (b.variables, frame_size code.decisions b))

module _ (code : Code) (g : ℕ) (o : Option Block) (b : Block) (f : Frame) (fs : List Frame) (there : o ≡ Some b) where
  pub enters-short : length f.stack < b.variables → enters code g o f fs ≡ Breaks Faulty
  enters-short h = ap (λ x. enters code g x f fs) there ∙ ap (enters_with code g b f fs) (popped-short b.variables f.stack h)

  pub enters-is : (size : ℕ) (f' : Frame) (fs' : List Frame) → size ≡ frame_size code.decisions b → b.variables ≤ length f.stack
      → f' ≡ frame-of g (reverse (take b.variables f.stack) ++ replicate (size - b.variables) Nil)
      → fs' ≡ below code (record f { at = f.at + 1; stack = drop b.variables f.stack }) fs → enters code g o f fs ≡ Enters f' fs'
  enters-is size f' fs' s h p q =
      ap (λ x. enters code g x f fs) there ∙ ap (enters_with code g b f fs) (popped-is b.variables f.stack h)
      ∙ ap (λ (k : ℕ). Enters (frame-of g (reverse (take b.variables f.stack) ++ replicate (k - b.variables) Nil)) (below code (record f { at = f.at + 1; stack = drop b.variables f.stack }) fs)) (sym s)
      ∙ ap (λ x. Enters x (below code (record f { at = f.at + 1; stack = drop b.variables f.stack }) fs)) (sym p) ∙ ap (Enters f') (sym q)

module _ (base : ℕ) (targets : List ℕ) (f : Frame) (fs : List Frame) where
  module _ (o : Option Decision) (d : Decision) (there : o ≡ Some d) where
    pub matches-short : length f.stack < d.width → matches o base targets f fs ≡ Breaks Faulty
    matches-short h = ap (λ x. matches x base targets f fs) there ∙ ap (decides d base targets f fs) (popped-short d.width f.stack h)

    pub matches-on : (vs : List Tree) (r : Option (ℕ × List Tree)) → d.width ≤ length f.stack → vs ≡ reverse (take d.width f.stack) → chosen d.tree vs ≡ r
        → matches o base targets f fs ≡ to_row base targets (drop d.width f.stack) f fs r
    matches-on vs r h e c =
        ap (λ x. matches x base targets f fs) there ∙ ap (decides d base targets f fs) (popped-is d.width f.stack h)
        ∙ ap (λ l. to_row base targets (drop d.width f.stack) f fs (chosen d.tree l)) (sym e) ∙ ap (to_row base targets (drop d.width f.stack) f fs) c

  pub row-untold : (row : ℕ) (stack : List Tree) (o : Option (List Tree)) → slice_get targets row ≡ None → to_row base targets stack f fs (option_map (λ ts. (row, ts)) o) ≡ Breaks Faulty
  row-untold row stack None e = refl
  row-untold row stack (Some ts) e = ap (goes_to base ts stack f fs) e

  pub row-missing : (row : ℕ) (stack : List Tree) (o : Option (List Tree)) → option_map (λ ts. set_from base ts f.vars) o ≡ None → to_row base targets stack f fs (option_map (λ ts. (row, ts)) o) ≡ Breaks Faulty
  row-missing row stack None e = refl
  row-missing row stack (Some ts) e = absurd cc

  pub row-goes : (row to : ℕ) (stack vars : List Tree) (o : Option (List Tree)) → option_map (λ ts. set_from base ts f.vars) o ≡ Some vars → slice_get targets row ≡ Some to
      → to_row base targets stack f fs (option_map (λ ts. (row, ts)) o) ≡ Goes (record f { at = to; vars = vars; stack = stack }) fs
  row-goes row to stack vars None e t = absurd cc
  row-goes row to stack vars (Some ts) e t =
      let s : set_from base ts f.vars ≡ vars = cc in
      ap (goes_to base ts stack f fs) t ∙ ap (λ vs. Goes (record f { at = to; vars = vs; stack = stack }) fs) s

pub entry-is : (code : Code) (g : ℕ) (o : Option Block) (b : Block) (f : Frame) (fs : List Frame) (h : ℕ) → o ≡ Some b → h ≡ length f.stack → nat_le b.variables h ≡ is_entry (enters code g o f fs)
entry-is code g o b f fs h there len = ap (nat_le b.variables) len ∙ by (nat_le b.variables (length f.stack)) refl ∙ sym (ap (λ x. is_entry (enters code g x f fs)) there)
  where
    by : (t : Bool) → nat_le b.variables (length f.stack) ≡ t → t ≡ is_entry (enters_with code g b f fs (popped b.variables [] f.stack))
    by true e = sym (ap (λ p. is_entry (enters_with code g b f fs p)) (popped-is b.variables f.stack (leb-true _ _ e)))
    by false e = sym (ap (λ p. is_entry (enters_with code g b f fs p)) (popped-short b.variables f.stack (leb-false _ _ e)))

same-pair : (p q : ℕ × ℕ) → ◌≡◌ {A = Option (ℕ × ℕ)} (Some p) (Some q) → p ≡ q
same-pair p q e = cc

module _ (code : Code) (g : ℕ) (f : Frame) (fs : List Frame) where
  pub no-entry : (o : Option Block) → None ≡ entry-of code o → enters code g o f fs ≡ Breaks Faulty
  no-entry None e = refl
  no-entry (Some b) e = absurd cc

  pub never-entered : (o : Option Block) → None ≡ entry-of code o → false ≡ is_entry (enters code g o f fs)
  never-entered None e = refl
  never-entered (Some b) e = absurd cc

  pub entry-short : (o : Option Block) (n size : ℕ) → Some (n, size) ≡ entry-of code o → length f.stack < n → enters code g o f fs ≡ Breaks Faulty
  entry-short None n size e h = absurd cc
  entry-short (Some b) n size e h = let p : n ≡ b.variables = ap (λ (x : ℕ × ℕ). x.0) (same-pair (n, size) (b.variables, frame_size code.decisions b) e) in enters-short code g (Some b) b f fs refl (rw p at h)

  pub entry-enters : (o : Option Block) (n size : ℕ) (f' : Frame) (fs' : List Frame) → Some (n, size) ≡ entry-of code o → n ≤ length f.stack
      → f' ≡ frame-of g (reverse (take n f.stack) ++ replicate (size - n) Nil) → fs' ≡ below code (record f { at = f.at + 1; stack = drop n f.stack }) fs → enters code g o f fs ≡ Enters f' fs'
  entry-enters None n size f' fs' e h p q = absurd cc
  entry-enters (Some b) n size f' fs' e h p q =
      let k : n ≡ b.variables = ap (λ (x : ℕ × ℕ). x.0) (same-pair (n, size) (b.variables, frame_size code.decisions b) e) in
      let s : size ≡ frame_size code.decisions b = ap (λ (x : ℕ × ℕ). x.1) (same-pair (n, size) (b.variables, frame_size code.decisions b) e) in
      enters-is code g (Some b) b f fs refl size f' fs' s (rw k at h) (rw k at p) (rw k at q)

  pub entry-can : (o : Option Block) (n size h : ℕ) → Some (n, size) ≡ entry-of code o → h ≡ length f.stack → nat_le n h ≡ is_entry (enters code g o f fs)
  entry-can None n size h e l = absurd cc
  entry-can (Some b) n size h e l = let k : n ≡ b.variables = ap (λ (x : ℕ × ℕ). x.0) (same-pair (n, size) (b.variables, frame_size code.decisions b) e) in ap (λ m. nat_le m h) k ∙ entry-is code g (Some b) b f fs h refl l
