-- Runs that come to where an evaluation's value is used.
use Rattle.std.proofs.Common.{◌≡◌, ◌∙◌, refl, ap, arith, ℕ, suc, ◌+◌, ◌≤◌, Bool, true, false, List, [], ◌∷◌, ◌++◌, Option, Some, None, if◌then◌else◌, length}
use Rattle.std.specs.Prelude.{reverse, nat_le}
use Rattle.std.proofs.lemmas.List.{append-nil, reverse-reverse}
use Rattle.campl_value.specs.Tree.{Tree, depth_of}
use Rattle.campl_value.specs.declared.value.TheConstants.{MAX_DEPTH}
use Rattle.campl_evaluation.specs.Evaluation.{Answer, Done, Deep, Wrong, More, and_then, given, made}
use Rattle.campl_code.specs.Frames.{Frame}
use Rattle.campl_code.specs.Results.{Break, TooDeep, Faulty, Result, Value, Broken, perhaps, fitting}
use Rattle.campl_code.specs.Machine.{popped}
use Rattle.campl_code.specs.Runs.{Outcome, Broke, Pauses}

-- A run from `start`, with m calls left, comes to `goal` with the value that the answer has, or ends as the answer says.
abbrev pub Reaches : {A : Type 0} → (ℕ → Outcome) → ℕ → (A → List Tree → Type 0) → (A → List Tree → ℕ → ℕ → Outcome) → Answer A → Type 0
Reaches start m Ok goal (Done v left) = (left ≤ m) × (vars : List Tree) × Ok v vars × ((k : ℕ) → (j : ℕ) × (k ≤ j) × (start j ≡ goal v vars k left))
Reaches start m Ok goal (Deep left) = (j : ℕ) × (start j ≡ Broke TooDeep left)
Reaches start m Ok goal (Wrong left) = (j : ℕ) × (start j ≡ Broke Faulty left)
Reaches start m Ok goal More = (j : ℕ) × (f : Frame) × (fs : List Frame) × (start j ≡ Pauses f fs)

abbrev pub Leads : (ℕ → Outcome) → (ℕ → Outcome) → Type 0
Leads start next = (k : ℕ) → (j : ℕ) × (k ≤ j) × (start j ≡ next k)

pub then_leads : (a b c : ℕ → Outcome) → Leads a b → Leads b c → Leads a c
then_leads a b c p q k = let y = q k in let x = p y.0 in (x.0, omega (arith, x.1, y.1), x.2 ∙ y.2)

pub after : {A : Type 0} (start next : ℕ → Outcome) (m n : ℕ) (Ok : A → List Tree → Type 0) (goal : A → List Tree → ℕ → ℕ → Outcome) (r : Answer A) → n ≤ m → Leads start next → Reaches next n Ok goal r → Reaches start m Ok goal r
after start next m n Ok goal (Done v left) le l r = (omega (arith, r.0), r.1, r.2, then_leads start next (λ k. goal v r.1 k left) l r.3)
after start next m n Ok goal (Deep left) le l r = let x = l r.0 in (x.0, x.2 ∙ r.1)
after start next m n Ok goal (Wrong left) le l r = let x = l r.0 in (x.0, x.2 ∙ r.1)
after start next m n Ok goal More le l r = let x = l r.0 in (x.0, r.1, r.2, x.2 ∙ r.3)

pub bind_reaches : {A B : Type 0} (start : ℕ → Outcome) (m : ℕ) (Mid : A → List Tree → Type 0) (mid : A → List Tree → ℕ → ℕ → Outcome) (Ok : B → List Tree → Type 0) (goal : B → List Tree → ℕ → ℕ → Outcome) (r : Answer A) (f : A → ℕ → Answer B) → Reaches start m Mid mid r
    → ((v : A) (vars : List Tree) (left : ℕ) → left ≤ m → Mid v vars → Reaches (λ j. mid v vars j left) left Ok goal (f v left)) → Reaches start m Ok goal (and_then r f)
bind_reaches start m Mid mid Ok goal (Done v left) f r next = after start (λ j. mid v r.1 j left) m left Ok goal (f v left) r.0 r.3 (next v r.1 left r.0 r.2)
bind_reaches start m Mid mid Ok goal (Deep left) f r next = r
bind_reaches start m Mid mid Ok goal (Wrong left) f r next = r
bind_reaches start m Mid mid Ok goal More f r next = r

pub widen : {A : Type 0} (start : ℕ → Outcome) (m : ℕ) (P Q : A → List Tree → Type 0) (goal : A → List Tree → ℕ → ℕ → Outcome) (r : Answer A) → ((v : A) (vars : List Tree) → P v vars → Q v vars) → Reaches start m P goal r → Reaches start m Q goal r
widen start m P Q goal (Done v left) h r = (r.0, r.1, h v r.1 r.2, r.3)
widen start m P Q goal (Deep left) h r = r
widen start m P Q goal (Wrong left) h r = r
widen start m P Q goal More h r = r

-- a call that comes back goes on with the variables that stood before it
pub returned : {A : Type 0} (start : ℕ → Outcome) (m : ℕ) (Ok : A → List Tree → Type 0) (back : A → ℕ → ℕ → Outcome) (goal : A → List Tree → ℕ → ℕ → Outcome) (frame : List Tree) (r : Answer A) → ((v : A) → Ok v frame)
    → ((v : A) (left : ℕ) → Leads (λ k. back v k left) (λ k. goal v frame k left)) → Reaches start m (λ v vars. Unit {0}) (λ v vars k n. back v k n) r → Reaches start m Ok goal r
returned start m Ok back goal frame (Done v left) ok l r = (r.0, frame, ok v, then_leads start (λ k. back v k left) (λ k. goal v frame k left) r.3 (l v left))
returned start m Ok back goal frame (Deep left) ok l r = r
returned start m Ok back goal frame (Wrong left) ok l r = r
returned start m Ok back goal frame More ok l r = r

-- Results

abbrev pub broken : {A : Type 0} → Break → ℕ → Answer A
broken TooDeep n = Deep n
broken Faulty n = Wrong n

abbrev pub answered : Result → ℕ → Answer Tree
answered (Value v) n = Done v n
answered (Broken b) n = broken b n

pub given-is : {A : Type 0} (o : Option A) (n : ℕ) (next : A → Answer Tree) (f : A → Result) → ((a : A) → next a ≡ answered (f a) n) → given o n next ≡ answered (perhaps o f) n
given-is None n next f h = refl
given-is (Some a) n next f h = h a

pub made-is : (t : Tree) (n : ℕ) → made t n ≡ answered (fitting t) n
made-is t n = go (nat_le (depth_of t) MAX_DEPTH)
  where
    go : (b : Bool) → (if b then Done t n else Deep n) ≡ answered (if b then Value t else Broken TooDeep) n
    go true = refl
    go false = refl

-- Operands

abbrev pub onto : List Tree → List Tree → List Tree
onto [] st = st
onto (v ∷ vs) st = onto vs (v ∷ st)

pub onto-append : (vs a st : List Tree) → onto vs (a ++ st) ≡ onto vs a ++ st
onto-append [] a st = refl
onto-append (v ∷ vs) a st = onto-append vs (v ∷ a) st

pub onto-reverse : (vs : List Tree) → reverse (onto vs []) ≡ vs
onto-reverse vs = let e : onto vs [] ≡ reverse vs = onto-append vs [] [] ∙ append-nil (reverse vs) in ap reverse e ∙ reverse-reverse vs

popped-onto : (vs acc st : List Tree) (n : ℕ) → popped (length vs + n) acc (onto vs st) ≡ popped n (vs ++ acc) st
popped-onto [] acc st n = ap (λ (k : ℕ). popped k acc st) (omega arith)
popped-onto (v ∷ vs) acc st n =
    let e : suc (length vs) + n ≡ length vs + suc n = omega arith in
    ap (λ (k : ℕ). popped k acc (onto vs (v ∷ st))) e ∙ popped-onto vs acc (v ∷ st) (suc n)

pub popped-is : (vs st : List Tree) (n : ℕ) → n ≡ length vs → popped n [] (onto vs st) ≡ Some (vs, st)
popped-is vs st n e =
    let z : n ≡ length vs + 0 = omega (arith, e) in
    ap (λ (k : ℕ). popped k [] (onto vs st)) z ∙ popped-onto vs [] st 0 ∙ ap (λ (l : List Tree). Some (l, st)) (append-nil vs)

pub onto-length : (vs st : List Tree) → length (onto vs st) ≡ length vs + length st
onto-length [] st = omega arith
onto-length (v ∷ vs) st = omega (arith, onto-length vs (v ∷ st))
