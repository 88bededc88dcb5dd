-- What single instructions do in a block, and the ends of an expression's code.
use Rattle.std.proofs.Common.{◌≡◌, ◌∙◌, refl, sym, ap, subst, arith, ℕ, zero, suc, ◌+◌, ◌<◌, ◌≤◌, max, Bool, true, false, List, [], ◌∷◌, ◌++◌, Option, Some, None, if◌then◌else◌, length, slice_get}
use Rattle.std.specs.Prelude.{nat_le, option_map}
use Rattle.campl_value.specs.Tree.{Tree, Int, Char, Truth, Nil, Cell, Pair, Built, depth_of}
use Rattle.campl_value.specs.List.{in_front}
use Rattle.campl_value.specs.declared.value.TheConstants.{MAX_DEPTH}
use Rattle.campl_types.specs.Forms.{Form}
use Rattle.campl_types.specs.Matching.{Bindings, first_match}
use Rattle.campl_types.specs.World.{World}
use Rattle.campl_evaluation.specs.Evaluation.{Answer, Done, Deep, given, made, truth}
use Rattle.campl_code.specs.Decisions.{Decision, StandsForRows, in_order, row_names}
use Rattle.campl_code.specs.Instructions.{Operation, Instr, Block, Code, blocks}
use Rattle.campl_code.specs.Instructions as i
use Rattle.campl_code.specs.Frames.{Frame, frame_size, set_from, reach, greatest, named_in}
use Rattle.campl_code.specs.Results.{Break, TooDeep, Faulty, Result, Value, Broken}
use Rattle.campl_code.specs.Machine.{Goes, Breaks, popped, pushes, code_at, is_return, goes_to, to_row, decides, matches, returns, act, does}
use Rattle.campl_code.specs.Runs.{Outcome, Broke, Going, goes_on, run}
use Rattle.campl_code.specs.Numbers.{Numbers, Framed}
use Rattle.campl_code.specs.Stands.{End, To, Ret, Jumps, here, by_jump, ends, at_end, conses, tested}
use Rattle.campl_code.proofs.Frames.{named-at, greatest-at, map-at, max-right}
use Rattle.campl_code.proofs.Reaches.{Reaches, Leads, then_leads, after, answered, broken, onto, popped-is}

abbrev pub came_back : Tree → List Frame → Going → ℕ → Outcome
came_back v [] next m = Broke Faulty m
came_back v (f ∷ fs) next m = next (record f { stack = v ∷ f.stack }) fs m

-- where there is no return, for the end at a place; nothing more on the stack, for a return
abbrev pub Fine : List Instr → End → List Tree → Type 0
Fine is (To q) st = is_return (slice_get is q) ≡ false
Fine is Ret st = st ≡ []

abbrev pub fr : ℕ → ℕ → List Tree → List Tree → Frame
fr blk p vars st = record { block = blk; at = p; vars = vars; stack = st }

-- Lists

abbrev pub built_up : List Tree → Tree → Tree
built_up [] t = t
built_up (v ∷ vs) t = built_up vs (Cell v t)

pub built-is : (vs rs : List Tree) (t : Tree) → built_up (onto vs rs) t ≡ built_up rs (in_front vs t)
built-is [] rs t = refl
built-is (v ∷ vs) rs t = built-is vs (v ∷ rs) t

cell-deeper : (v t : Tree) → suc (depth_of t) ≤ depth_of (Cell v t)
cell-deeper v t = omega (arith, max-right (depth_of v) (depth_of t))

built-deeper : (vs : List Tree) (t : Tree) → depth_of t ≤ depth_of (built_up vs t)
built-deeper [] t = omega arith
built-deeper (v ∷ vs) t = omega (arith, cell-deeper v t, built-deeper vs (Cell v t))

le_false : (a b : ℕ) → b < a → nat_le a b ≡ false
le_false a b h = grind arith

false_lt : (a b : ℕ) → nat_le a b ≡ false → b < a
false_lt a b h = grind arith

le_true : (a b : ℕ) → a ≤ b → nat_le a b ≡ true
le_true a b h = grind arith

true_le : (a b : ℕ) → nat_le a b ≡ true → a ≤ b
true_le a b h = grind arith

module _ (w : World) (code : Code) where
  abbrev pub from : ℕ → ℕ → List Tree → List Tree → List Frame → ℕ → ℕ → Outcome
  from blk p vars st fs m j = run code j (fr blk p vars st) fs m

  -- where an expression's code comes to with its value
  abbrev pub aft : ℕ → List Tree → List Frame → End → Tree → List Tree → ℕ → ℕ → Outcome
  aft blk st fs (To q) v vars k m = run code k (fr blk q vars (v ∷ st)) fs m
  aft blk st fs Ret v vars k m = came_back v fs (run code k) m

  module _ (blk : ℕ) (b : Block) (there : slice_get (blocks code) blk ≡ Some b) where
    abbrev pub size : ℕ
    size = frame_size code.decisions b

    pub at_instr : (p : ℕ) (x : Instr) → slice_get b.code p ≡ Some x → (vars st : List Tree) (fs : List Frame) (k m : ℕ) → run code (suc k) (fr blk p vars st) fs m ≡ goes_on (act code x (fr blk p vars st) fs) (fr blk p vars st) fs (run code k) m
    at_instr p x e vars st fs k m =
        let f : code_at (slice_get (blocks code) blk) p ≡ Some x = ap (λ o. code_at o p) there ∙ e in
        ap (λ o. goes_on (does code o (fr blk p vars st) fs) (fr blk p vars st) fs (run code k) m) f

    -- an instruction that goes to another place
    pub one : (p : ℕ) (x : Instr) → slice_get b.code p ≡ Some x → (vars st : List Tree) (fs : List Frame) (m : ℕ) (g : Frame) → act code x (fr blk p vars st) fs ≡ Goes g fs → Leads (from blk p vars st fs m) (λ k. run code k g fs m)
    one p x e vars st fs m g h k = (suc k, omega arith, at_instr p x e vars st fs k m ∙ ap (λ n. goes_on n (fr blk p vars st) fs (run code k) m) h)

    -- jumps alone
    pub jumps : (q p : ℕ) → Jumps b.code q p → (vars st : List Tree) (fs : List Frame) (m : ℕ) → Leads (from blk p vars st fs m) (from blk q vars st fs m)
    jumps q p (here _ e) vars st fs m k = (k, omega arith, ap (λ n. from blk n vars st fs m k) e)
    jumps q p (by_jump _ r e rest) vars st fs m k =
        then_leads (from blk p vars st fs m) (from blk r vars st fs m) (from blk q vars st fs m) (one p (i.Jump r) e vars st fs m (fr blk r vars st) refl) (jumps q r rest vars st fs m) k

    pub no_return : (p q : ℕ) → Jumps b.code q p → is_return (slice_get b.code q) ≡ false → is_return (slice_get b.code p) ≡ false
    no_return p q (here _ e) h = ap (λ n. is_return (slice_get b.code n)) e ∙ h
    no_return p q (by_jump _ r e rest) h = ap is_return e

    pub came_is : (v : Tree) (fs : List Frame) (f : Frame) (gs : List Frame) (next : Going) (m : ℕ) → goes_on (returns (v ∷ []) fs) f gs next m ≡ came_back v fs next m
    came_is v [] f gs next m = refl
    came_is v (g ∷ fs) f gs next m = refl

    pub finish : (p : ℕ) (end : End) (v : Tree) (vars st : List Tree) (fs : List Frame) (m : ℕ) → ends w code b.code p end → Fine b.code end st → Leads (from blk p vars (v ∷ st) fs m) (λ k. aft blk st fs end v vars k m)
    finish p (To q) v vars st fs m e fine = jumps q p e vars (v ∷ st) fs m
    finish p Ret v vars st fs m e fine =
        then_leads (from blk p vars (v ∷ st) fs m) (from blk e.0 vars (v ∷ st) fs m) (λ k. came_back v fs (run code k) m) (jumps e.0 p e.1 vars (v ∷ st) fs m)
        (λ k. (suc k, omega arith, ap (λ l. run code (suc k) (fr blk e.0 vars (v ∷ l)) fs m) fine ∙ at_instr e.0 i.Return e.2 vars (v ∷ []) fs k m ∙ came_is v fs (fr blk e.0 vars (v ∷ [])) fs (run code k) m))

    abbrev pub Good : Numbers → Bindings → Tree → List Tree → Type 0
    Good ns env v vars = Framed size ns env vars

    -- an instruction that breaks
    pub breaks : {A : Type 0} (p : ℕ) (x : Instr) (c : Break) (vars st : List Tree) (fs : List Frame) (m : ℕ) (Ok : A → List Tree → Type 0) (goal : A → List Tree → ℕ → ℕ → Outcome) → slice_get b.code p ≡ Some x → act code x (fr blk p vars st) fs ≡ Breaks c → Reaches (from blk p vars st fs m) m Ok goal (broken c m)
    breaks p x TooDeep vars st fs m Ok goal e h = (1, at_instr p x e vars st fs 0 m ∙ ap (λ n. goes_on n (fr blk p vars st) fs (run code 0) m) h)
    breaks p x Faulty vars st fs m Ok goal e h = (1, at_instr p x e vars st fs 0 m ∙ ap (λ n. goes_on n (fr blk p vars st) fs (run code 0) m) h)

    -- an instruction that pushes a result, and the end
    pub result_end : (p : ℕ) (x : Instr) (end : End) (r : Result) (ns : Numbers) (env : Bindings) (vars st st' : List Tree) (fs : List Frame) (m : ℕ) → at_end w code b.code p x end → act code x (fr blk p vars st') fs ≡ pushes (fr blk p vars st') fs st r → Fine b.code end st → Framed size ns env vars
        → Reaches (from blk p vars st' fs m) m (Good ns env) (aft blk st fs end) (answered r m)
    result_end p x end (Value v) ns env vars st st' fs m e h fine a =
        (omega arith, vars, a, then_leads (from blk p vars st' fs m) (from blk (p + 1) vars (v ∷ st) fs m) (λ k. aft blk st fs end v vars k m) (one p x e.0 vars st' fs m (fr blk (p + 1) vars (v ∷ st)) h) (finish (p + 1) end v vars st fs m e.1 fine))
    result_end p x end (Broken c) ns env vars st st' fs m e h fine a = breaks p x c vars st' fs m (Good ns env) (aft blk st fs end) e.0 h

    -- the same, for an answer that is that result
    pub answer_end : (p : ℕ) (x : Instr) (end : End) (r : Result) (ns : Numbers) (env : Bindings) (vars st st' : List Tree) (fs : List Frame) (m : ℕ) (a : Answer Tree) → a ≡ answered r m → at_end w code b.code p x end → act code x (fr blk p vars st') fs ≡ pushes (fr blk p vars st') fs st r → Fine b.code end st → Framed size ns env vars
        → Reaches (from blk p vars st' fs m) m (Good ns env) (aft blk st fs end) a
    answer_end p x end r ns env vars st st' fs m a same e h fine f =
        subst (λ z. Reaches (from blk p vars st' fs m) m (Good ns env) (aft blk st fs end) z) (sym same) (result_end p x end r ns env vars st st' fs m e h fine f)

    -- a test of a truth
    pub unless_reaches : {A : Type 0} (q r : ℕ) (v : Tree) (next : Bool → Answer A) (vars st : List Tree) (fs : List Frame) (m : ℕ) (Ok : A → List Tree → Type 0) (goal : A → List Tree → ℕ → ℕ → Outcome) → slice_get b.code q ≡ Some (i.Unless r)
        → Reaches (from blk (q + 1) vars st fs m) m Ok goal (next true) → Reaches (from blk r vars st fs m) m Ok goal (next false) → Reaches (from blk q vars (v ∷ st) fs m) m Ok goal (given (truth v) m next)
    unless_reaches q r (Truth true) next vars st fs m Ok goal e x y =
        after (from blk q vars (Truth true ∷ st) fs m) (from blk (q + 1) vars st fs m) m m Ok goal (next true) (omega arith) (one q (i.Unless r) e vars (Truth true ∷ st) fs m (fr blk (q + 1) vars st) refl) x
    unless_reaches q r (Truth false) next vars st fs m Ok goal e x y =
        after (from blk q vars (Truth false ∷ st) fs m) (from blk r vars st fs m) m m Ok goal (next false) (omega arith) (one q (i.Unless r) e vars (Truth false ∷ st) fs m (fr blk r vars st) refl) y
    unless_reaches q r (Int n) next vars st fs m Ok goal e x y = breaks q (i.Unless r) Faulty vars (Int n ∷ st) fs m Ok goal e refl
    unless_reaches q r (Char n) next vars st fs m Ok goal e x y = breaks q (i.Unless r) Faulty vars (Char n ∷ st) fs m Ok goal e refl
    unless_reaches q r Nil next vars st fs m Ok goal e x y = breaks q (i.Unless r) Faulty vars (Nil ∷ st) fs m Ok goal e refl
    unless_reaches q r (Cell h t) next vars st fs m Ok goal e x y = breaks q (i.Unless r) Faulty vars (Cell h t ∷ st) fs m Ok goal e refl
    unless_reaches q r (Pair h t) next vars st fs m Ok goal e x y = breaks q (i.Unless r) Faulty vars (Pair h t ∷ st) fs m Ok goal e refl
    unless_reaches q r (Built h t) next vars st fs m Ok goal e x y = breaks q (i.Unless r) Faulty vars (Built h t ∷ st) fs m Ok goal e refl

    -- a truth that is tested is the value
    pub tested_end : (p r : ℕ) (end : End) (v : Tree) (ns : Numbers) (env : Bindings) (vars st : List Tree) (fs : List Frame) (m : ℕ) → tested w code b.code p r end → Fine b.code end st → Framed size ns env vars → Reaches (from blk p vars (v ∷ st) fs m) m (Good ns env) (aft blk st fs end) (given (truth v) m (λ t. Done (Truth t) m))
    tested_end p r end v ns env vars st fs m h fine a =
        unless_reaches p r v (λ t. Done (Truth t) m) vars st fs m (Good ns env) (aft blk st fs end) h.0
        (result_end (p + 1) (i.Truth true) end (Value (Truth true)) ns env vars st st fs m h.1 refl fine a)
        (result_end r (i.Truth false) end (Value (Truth false)) ns env vars st st fs m h.2 refl fine a)

    -- a match of values
    matches_is : (d : Decision) (rows : List (List Form)) (base : ℕ) (targets : List ℕ) (vs st : List Tree) (f : Frame) (fs : List Frame) (mn : ℕ) → slice_get code.decisions mn ≡ Some d → StandsForRows w d rows (length vs) → f.stack ≡ onto vs st
        → act code (i.Match mn base targets) f fs ≡ to_row base targets st f fs (option_map (λ (r : ℕ × Bindings). (r.0, in_order r.1)) (first_match w rows vs))
    matches_is d rows base targets vs st f fs mn e s h =
        ap (λ o. matches o base targets f fs) e
        ∙ ap (λ (l : List Tree). decides d base targets f fs (popped d.width [] l)) h
        ∙ ap (λ o. decides d base targets f fs o) (popped-is vs st d.width s.width)
        ∙ ap (λ o. to_row base targets st f fs o) (s.finds vs refl)

    pub match_reaches : {A : Type 0} (q mn base : ℕ) (targets : List ℕ) (d : Decision) (rows : List (List Form)) (vs : List Tree) (next : ℕ × Bindings → Answer A) (vars st : List Tree) (fs : List Frame) (m : ℕ) (Ok : A → List Tree → Type 0) (goal : A → List Tree → ℕ → ℕ → Outcome)
        → slice_get b.code q ≡ Some (i.Match mn base targets) → slice_get code.decisions mn ≡ Some d → StandsForRows w d rows (length vs)
        → ((j : ℕ) (bs : Bindings) → first_match w rows vs ≡ Some (j, bs) → (to : ℕ) × (slice_get targets j ≡ Some to) × Reaches (from blk to (set_from base (in_order bs) vars) st fs m) m Ok goal (next (j, bs)))
        → Reaches (from blk q vars (onto vs st) fs m) m Ok goal (given (first_match w rows vs) m next)
    match_reaches q mn base targets d rows vs next vars st fs m Ok goal e ed s rest =
        go (first_match w rows vs) (matches_is d rows base targets vs st (fr blk q vars (onto vs st)) fs mn ed s refl) rest
      where
        go : (o : Option (ℕ × Bindings)) → act code (i.Match mn base targets) (fr blk q vars (onto vs st)) fs ≡ to_row base targets st (fr blk q vars (onto vs st)) fs (option_map (λ (r : ℕ × Bindings). (r.0, in_order r.1)) o)
            → ((j : ℕ) (bs : Bindings) → o ≡ Some (j, bs) → (to : ℕ) × (slice_get targets j ≡ Some to) × Reaches (from blk to (set_from base (in_order bs) vars) st fs m) m Ok goal (next (j, bs)))
            → Reaches (from blk q vars (onto vs st) fs m) m Ok goal (given o m next)
        go None h rest = breaks q (i.Match mn base targets) Faulty vars (onto vs st) fs m Ok goal e h
        go (Some r) h rest =
            let x = rest r.0 r.1 refl in
            let to = fr blk x.0 (set_from base (in_order r.1) vars) st in
            after (from blk q vars (onto vs st) fs m) (λ j. run code j to fs m) m m Ok goal (next r) (omega arith)
            (one q (i.Match mn base targets) e vars (onto vs st) fs m to (h ∙ ap (λ o. goes_to base (in_order r.1) st (fr blk q vars (onto vs st)) fs o) x.1)) x.2

    -- there is room for what a row sets
    pub room : (q mn base : ℕ) (targets : List ℕ) (d : Decision) (rows : List (List Form)) (n j : ℕ) (r : List Form) → slice_get b.code q ≡ Some (i.Match mn base targets) → slice_get code.decisions mn ≡ Some d → StandsForRows w d rows n → slice_get rows j ≡ Some r → base + length (row_names r) ≤ size
    room q mn base targets d rows n j r e ed s er =
        let bound : slice_get d.bound j ≡ Some (length (row_names r)) = ap (λ (l : List ℕ). slice_get l j) s.bound ∙ map-at (λ (r : List Form). length (row_names r)) rows j r er in
        let most : length (row_names r) ≤ greatest d.bound = greatest-at d.bound j (length (row_names r)) bound in
        let named : reach base (slice_get code.decisions mn) ≤ named_in code.decisions b.code = named-at code.decisions b.code q (i.Match mn base targets) e in
        let reached : reach base (slice_get code.decisions mn) ≡ max (suc base) (base + greatest d.bound) = ap (λ o. reach base o) ed in
        omega (arith, most, named, reached, max-right (suc base) (base + greatest d.bound), max-right b.variables (named_in code.decisions b.code))

    pub conses_end : (vs : List Tree) (p n : ℕ) (end : End) (t : Tree) (ns : Numbers) (env : Bindings) (vars st : List Tree) (fs : List Frame) (m : ℕ) → n ≡ length vs → conses w code b.code p n end → depth_of t ≤ MAX_DEPTH → Fine b.code end st → Framed size ns env vars
        → Reaches (from blk p vars (t ∷ (vs ++ st)) fs m) m (Good ns env) (aft blk st fs end) (made (built_up vs t) m)
    conses_end [] p zero end t ns env vars st fs m l h low fine a =
        let same : made t m ≡ Done t m = ap (λ (c : Bool). if c then Done t m else Deep m) (le_true (depth_of t) MAX_DEPTH low) in
        subst (λ z. Reaches (from blk p vars (t ∷ st) fs m) m (Good ns env) (aft blk st fs end) z) (sym same) (omega arith, vars, a, finish p end t vars st fs m h fine)
    conses_end [] p (suc n) end t ns env vars st fs m l h low fine a = absurd (omega arith)
    conses_end (v ∷ vs) p zero end t ns env vars st fs m l h low fine a = absurd (omega arith)
    conses_end (v ∷ vs) p (suc n) end t ns env vars st fs m l h low fine a = go (nat_le (depth_of (Cell v t)) MAX_DEPTH) refl (λ k. conses_end vs (p + 1) n end (Cell v t) ns env vars st fs m (omega arith) h.1 k fine a)
      where
        go : (c : Bool) → nat_le (depth_of (Cell v t)) MAX_DEPTH ≡ c
            → (depth_of (Cell v t) ≤ MAX_DEPTH → Reaches (from blk (p + 1) vars (Cell v t ∷ (vs ++ st)) fs m) m (Good ns env) (aft blk st fs end) (made (built_up vs (Cell v t)) m))
            → Reaches (from blk p vars (t ∷ v ∷ (vs ++ st)) fs m) m (Good ns env) (aft blk st fs end) (made (built_up vs (Cell v t)) m)
        go true k next =
            after (from blk p vars (t ∷ v ∷ (vs ++ st)) fs m) (from blk (p + 1) vars (Cell v t ∷ (vs ++ st)) fs m) m m (Good ns env) (aft blk st fs end) (made (built_up vs (Cell v t)) m) (omega arith)
            (one p i.Cons h.0 vars (t ∷ v ∷ (vs ++ st)) fs m (fr blk (p + 1) vars (Cell v t ∷ (vs ++ st))) (ap (λ (c : Bool). pushes (fr blk p vars (t ∷ v ∷ (vs ++ st))) fs (vs ++ st) (if c then Value (Cell v t) else Broken TooDeep)) k))
            (next (true_le (depth_of (Cell v t)) MAX_DEPTH k))
        go false k next =
            let deep : MAX_DEPTH < depth_of (built_up vs (Cell v t)) = omega (arith, false_lt (depth_of (Cell v t)) MAX_DEPTH k, built-deeper vs (Cell v t)) in
            let same : made (built_up vs (Cell v t)) m ≡ Deep m = ap (λ (c : Bool). if c then Done (built_up vs (Cell v t)) m else Deep m) (le_false (depth_of (built_up vs (Cell v t))) MAX_DEPTH deep) in
            subst (λ z. Reaches (from blk p vars (t ∷ v ∷ (vs ++ st)) fs m) m (Good ns env) (aft blk st fs end) z) (sym same)
            (breaks p i.Cons TooDeep vars (t ∷ v ∷ (vs ++ st)) fs m (Good ns env) (aft blk st fs end) h.0 (ap (λ (c : Bool). pushes (fr blk p vars (t ∷ v ∷ (vs ++ st))) fs (vs ++ st) (if c then Value (Cell v t) else Broken TooDeep)) k))
