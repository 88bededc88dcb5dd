-- Variables in frames.
use Rattle.std.proofs.Common.{◌≡◌, ◌∙◌, refl, sym, ap, subst, arith, ℕ, zero, suc, ◌+◌, ◌-◌, ◌<◌, ◌≤◌, max, Bool, true, false, List, [], ◌∷◌, ◌++◌, Some, if◌then◌else◌, length, length-append, slice_get, map}
use Rattle.std.proofs.lemmas.List.{length-replicate}
use Rattle.std.specs.Prelude.{slice_set, replicate, ◌⊎◌}
use Rattle.std.proofs.Common.{inl, inr}
use Rattle.campl_value.specs.Tree.{Tree, Nil}
use Rattle.campl_types.specs.Names.{Name, same_name, found}
use Rattle.campl_types.specs.Matching.{Bindings}
use Rattle.campl_code.specs.Decisions.{Decision, in_order}
use Rattle.campl_code.specs.Instructions.{Instr, Block}
use Rattle.campl_code.specs.Frames.{greatest, named, named_in, frame_size, frame_of, set_from}
use Rattle.campl_code.specs.Numbers.{Numbers, numbered, Spares, Agrees, Framed}
use Rattle.campl_code.proofs.Bound.{name_order, same-length}

-- One place

pub get-front : {A : Type 0} (xs ys : List A) (n : ℕ) (x : A) → slice_get xs n ≡ Some x → slice_get (xs ++ ys) n ≡ Some x
get-front [] ys n x e = absurd (cc e)
get-front (y ∷ xs) ys zero x e = e
get-front (y ∷ xs) ys (suc n) x e = get-front xs ys n x e

get-same : (xs : List Tree) (n : ℕ) (t : Tree) → n < length xs → slice_get (slice_set xs n t) n ≡ Some t
get-same [] n t h = absurd (omega arith)
get-same (x ∷ xs) zero t h = refl
get-same (x ∷ xs) (suc n) t h = get-same xs n t (omega arith)

get-other : (xs : List Tree) (n m : ℕ) (t : Tree) → ((m < n) ⊎ (n < m)) → slice_get (slice_set xs n t) m ≡ slice_get xs m
get-other [] n m t h = refl
get-other (x ∷ xs) zero zero t (inl h) = absurd (omega arith)
get-other (x ∷ xs) zero zero t (inr h) = absurd (omega arith)
get-other (x ∷ xs) zero (suc m) t h = refl
get-other (x ∷ xs) (suc n) zero t h = refl
get-other (x ∷ xs) (suc n) (suc m) t (inl h) = get-other xs n m t (inl (omega arith))
get-other (x ∷ xs) (suc n) (suc m) t (inr h) = get-other xs n m t (inr (omega arith))

set-length : (xs : List Tree) (n : ℕ) (t : Tree) → length (slice_set xs n t) ≡ length xs
set-length [] n t = refl
set-length (x ∷ xs) zero t = refl
set-length (x ∷ xs) (suc n) t = ap suc (set-length xs n t)

pub set-from-length : (ts : List Tree) (n : ℕ) (xs : List Tree) → length (set_from n ts xs) ≡ length xs
set-from-length [] n xs = refl
set-from-length (t ∷ ts) n xs = set-from-length ts (suc n) (slice_set xs n t) ∙ set-length xs n t

-- Numbers

-- a known name's value stands at its number
pub agrees-found : (x : Name) (ns : Numbers) (vars : Bindings) (frame : List Tree) (m : ℕ) → Agrees ns vars frame → found x ns ≡ Some m → (t : Tree) × (found x vars ≡ Some t) × (slice_get frame m ≡ Some t)
agrees-found x [] [] frame m a h = absurd (cc h)
agrees-found x [] (b ∷ bs) frame m a h = absurd a
agrees-found x (e ∷ ns) [] frame m a h = absurd a
agrees-found x (e ∷ ns) (b ∷ bs) frame m a h = go (same_name x e.0) refl h (agrees-found x ns bs frame m a.2)
  where
    go : (c : Bool) → same_name x e.0 ≡ c → (if c then Some e.1 else found x ns) ≡ Some m → (found x ns ≡ Some m → (t : Tree) × (found x bs ≡ Some t) × (slice_get frame m ≡ Some t)) → (t : Tree) × (found x (b ∷ bs) ≡ Some t) × (slice_get frame m ≡ Some t)
    go true k h later =
        let same : same_name x b.0 ≡ true = subst (λ (y : Name). same_name x y ≡ true) a.0 k in
        let number : m ≡ e.1 = cc h in
        (b.1, ap (λ c. if c then Some b.1 else found x bs) same, ap (λ n. slice_get frame n) number ∙ a.1)
    go false k h later =
        let r = later h in
        let other : same_name x b.0 ≡ false = subst (λ (y : Name). same_name x y ≡ false) a.0 k in
        (r.0, ap (λ c. if c then Some b.1 else found x bs) other ∙ r.1, r.2)

agrees-spared : (n k : ℕ) (t : Tree) (ns : Numbers) (vars : Bindings) (frame : List Tree) → Spares n (suc k) ns → Agrees ns vars frame → Agrees ns vars (slice_set frame n t)
agrees-spared n k t [] [] frame s a = tt
agrees-spared n k t [] (b ∷ bs) frame s a = a
agrees-spared n k t (e ∷ ns) [] frame s a = a
agrees-spared n k t (e ∷ ns) (b ∷ bs) frame s a = (a.0, get-other frame n e.1 t (apart s.0) ∙ a.1, agrees-spared n k t ns bs frame s.1 a.2)
  where
    apart : ((e.1 < n) ⊎ (n + suc k ≤ e.1)) → (e.1 < n) ⊎ (n < e.1)
    apart (inl h) = inl h
    apart (inr h) = inr (omega arith)

spares-next : (n k : ℕ) (ns : Numbers) → Spares n (suc k) ns → Spares (suc n) k ns
spares-next n k [] s = tt
spares-next n k (e ∷ ns) s = (go s.0, spares-next n k ns s.1)
  where
    go : ((e.1 < n) ⊎ (n + suc k ≤ e.1)) → (e.1 < suc n) ⊎ (suc n + k ≤ e.1)
    go (inl h) = inl (omega arith)
    go (inr h) = inr (omega arith)

-- names in order with their values, in front of older ones
abbrev pub bind_from : List Name → List Tree → Bindings → Bindings
bind_from [] ts bs = bs
bind_from (x ∷ xs) [] bs = bs
bind_from (x ∷ xs) (t ∷ ts) bs = bind_from xs ts ((x, t) ∷ bs)

bind-last : (xs : List Name) (ts : List Tree) (x : Name) (t : Tree) (bs : Bindings) → length ts ≡ length xs → bind_from (xs ++ x ∷ []) (ts ++ t ∷ []) bs ≡ (x, t) ∷ bind_from xs ts bs
bind-last [] [] x t bs h = refl
bind-last [] (u ∷ ts) x t bs h = absurd (omega arith)
bind-last (y ∷ xs) [] x t bs h = absurd (omega arith)
bind-last (y ∷ xs) (u ∷ ts) x t bs h = bind-last xs ts x t ((y, u) ∷ bs) (omega arith)

pub bound-is : (bs vars : Bindings) → bind_from (name_order bs) (in_order bs) vars ≡ bs ++ vars
bound-is [] vars = refl
bound-is (b ∷ bs) vars = bind-last (name_order bs) (in_order bs) b.0 b.1 vars (same-length bs) ∙ ap (λ (l : Bindings). (b.0, b.1) ∷ l) (bound-is bs vars)

-- the variables of a row are set
pub agrees-set : (xs : List Name) (ts : List Tree) (n : ℕ) (ns : Numbers) (vars : Bindings) (frame : List Tree) → length ts ≡ length xs → n + length xs ≤ length frame → Spares n (length xs) ns → Agrees ns vars frame → Agrees (numbered n xs ns) (bind_from xs ts vars) (set_from n ts frame)
agrees-set [] [] n ns vars frame h l s a = a
agrees-set [] (t ∷ ts) n ns vars frame h l s a = absurd (omega arith)
agrees-set (x ∷ xs) [] n ns vars frame h l s a = absurd (omega arith)
agrees-set (x ∷ xs) (t ∷ ts) n ns vars frame h l s a =
    let k = length xs in
    let room : suc n + k ≤ length (slice_set frame n t) = omega (arith, set-length frame n t) in
    let here : slice_get (slice_set frame n t) n ≡ Some t = get-same frame n t (omega arith) in
    agrees-set xs ts (suc n) ((x, n) ∷ ns) ((x, t) ∷ vars) (slice_set frame n t) (omega arith) room (inl (omega arith), spares-next n k ns s) (refl, here, agrees-spared n k t ns vars frame s a)

-- and are no longer known
pub agrees-back : (xs : List Name) (ts : List Tree) (n : ℕ) (ns : Numbers) (vars : Bindings) (frame : List Tree) → length ts ≡ length xs → Agrees (numbered n xs ns) (bind_from xs ts vars) frame → Agrees ns vars frame
agrees-back [] ts n ns vars frame h a = a
agrees-back (x ∷ xs) [] n ns vars frame h a = absurd (omega arith)
agrees-back (x ∷ xs) (t ∷ ts) n ns vars frame h a = (agrees-back xs ts (suc n) ((x, n) ∷ ns) ((x, t) ∷ vars) frame (omega arith) a).2

-- Frames have room

pub max-left : (a b : ℕ) → a ≤ max a b
max-left a b = grind arith

pub max-right : (a b : ℕ) → b ≤ max a b
max-right a b = grind arith

pub named-at : (ds : List Decision) (code : List Instr) (p : ℕ) (x : Instr) → slice_get code p ≡ Some x → named ds x ≤ named_in ds code
named-at ds [] p x e = absurd (cc e)
named-at ds (y ∷ code) zero x e = let same : y ≡ x = cc e in subst (λ z. named ds z ≤ max (named ds y) (named_in ds code)) same (max-left (named ds y) (named_in ds code))
named-at ds (y ∷ code) (suc p) x e = omega (arith, named-at ds code p x e, max-right (named ds y) (named_in ds code))

pub greatest-at : (ns : List ℕ) (k n : ℕ) → slice_get ns k ≡ Some n → n ≤ greatest ns
greatest-at [] k n e = absurd (cc e)
greatest-at (m ∷ ns) zero n e = let same : m ≡ n = cc e in subst (λ z. z ≤ max m (greatest ns)) same (max-left m (greatest ns))
greatest-at (m ∷ ns) (suc k) n e = omega (arith, greatest-at ns k n e, max-right m (greatest ns))

pub map-at : {A B : Type 0} (f : A → B) (xs : List A) (k : ℕ) (x : A) → slice_get xs k ≡ Some x → slice_get (map f xs) k ≡ Some (f x)
map-at f [] k x e = absurd (cc e)
map-at f (y ∷ xs) zero x e = let same : y ≡ x = cc e in ap (λ z. Some (f z)) same
map-at f (y ∷ xs) (suc k) x e = map-at f xs k x e

pub frame-length : (ds : List Decision) (b : Block) (vs : List Tree) → length vs ≡ b.variables → length (frame_of ds b vs) ≡ frame_size ds b
frame-length ds b vs e =
    let n = frame_size ds b - b.variables in
    let rest : length (replicate n Nil) ≡ n = length-replicate n Nil in
    omega (arith, e, rest, length-append vs (replicate n Nil), max-left b.variables (named_in ds b.code))

-- a row's variables are set in a frame that has room
pub framed-set : (size : ℕ) (xs : List Name) (bs : Bindings) (base : ℕ) (ns : Numbers) (env : Bindings) (vars : List Tree) → name_order bs ≡ xs → base + length xs ≤ size → Spares base (length xs) ns → Framed size ns env vars
    → Framed size (numbered base xs ns) (bs ++ env) (set_from base (in_order bs) vars)
framed-set size xs bs base ns env vars e space s f =
    let ys = name_order bs in
    let l : length ys ≡ length xs = ap length e in
    let spared : Spares base (length ys) ns = subst (λ (k : ℕ). Spares base k ns) (sym l) s in
    let set = agrees-set ys (in_order bs) base ns env vars (same-length bs) (omega (arith, l, space, f.long)) spared f.holds in
    let whole = subst (λ (l : Bindings). Agrees (numbered base ys ns) l (set_from base (in_order bs) vars)) (bound-is bs env) set in
    record {
      holds = subst (λ (zs : List Name). Agrees (numbered base zs ns) (bs ++ env) (set_from base (in_order bs) vars)) e whole;
      long = set-from-length (in_order bs) base vars ∙ f.long;
    }

pub framed-back : (size : ℕ) (xs : List Name) (bs : Bindings) (base : ℕ) (ns : Numbers) (env : Bindings) (vars : List Tree) → name_order bs ≡ xs → Framed size (numbered base xs ns) (bs ++ env) vars → Framed size ns env vars
framed-back size xs bs base ns env vars e f =
    let ys = name_order bs in
    let there = subst (λ (zs : List Name). Agrees (numbered base zs ns) (bs ++ env) vars) (sym e) f.holds in
    let split = subst (λ (l : Bindings). Agrees (numbered base ys ns) l vars) (sym (bound-is bs env)) there in
    record { holds = agrees-back ys (in_order bs) base ns env vars (same-length bs) split; long = f.long }

-- one variable is set
pub framed-one : (size : ℕ) (x : Name) (t : Tree) (n : ℕ) (ns : Numbers) (env : Bindings) (vars : List Tree) → n < size → Spares n 1 ns → Framed size ns env vars → Framed size ((x, n) ∷ ns) ((x, t) ∷ env) (slice_set vars n t)
framed-one size x t n ns env vars l s f = record { holds = (refl, get-same vars n t (omega (arith, f.long)), agrees-spared n 0 t ns env vars s f.holds); long = set-length vars n t ∙ f.long }

-- a variable that nobody knows is set
pub framed-other : (size : ℕ) (t : Tree) (n : ℕ) (ns : Numbers) (env : Bindings) (vars : List Tree) → Spares n 1 ns → Framed size ns env vars → Framed size ns env (slice_set vars n t)
framed-other size t n ns env vars s f = record { holds = agrees-spared n 0 t ns env vars s f.holds; long = set-length vars n t ∙ f.long }
