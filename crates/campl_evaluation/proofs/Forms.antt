-- What the values of a type look like.
use Rattle.std.proofs.Common.{◌≡◌, ◌∙◌, refl, sym, subst, ℕ, ℤ, Bool, true, false, List, [], ◌∷◌, Option, Some, None, if◌then◌else◌, nat_le}
use Rattle.std.specs.Cmp.Lexicographic.{slice_cmp}
use Rattle.std.specs.declared.cmp.Ordering.{Ordering}
use Rattle.std.specs.Ordering.{nat_cmp, int_cmp, bool_cmp}
use Rattle.campl_tree.specs.Plain.SeqType.{SeqType, SeqTypes}
use Rattle.campl_tree.specs.Plain.SeqType as s
use Rattle.campl_value.specs.Tree.{Tree, Int, Char, Truth, Nil, Cell, depth_of}
use Rattle.campl_value.specs.Text.{text_of}
use Rattle.campl_value.specs.List.{items_of, in_front, appended}
use Rattle.campl_value.specs.Compare.{compared}
use Rattle.campl_value.specs.declared.value.TheConstants.{MAX_DEPTH}
use Rattle.campl_value.proofs.Lists.{compared-text}
use Rattle.campl_types.specs.Substitution.{Filling, filled}
use Rattle.campl_types.specs.Sequential.{IsComparable}
use Rattle.campl_types.specs.World.{World}
use Rattle.campl_evaluation.specs.Evaluation.{Answer, Done, Deep, Wrong, More, and_then, made, given, truth, int, char}
use Rattle.campl_evaluation.specs.Typed.{Fine}
use Rattle.campl_types.specs.Values.{IsValue}

-- Answers

pub fine-then : {A B : Type 0} (P : A → Type 0) (Q : B → Type 0) (r : Answer A) (next : A → ℕ → Answer B) → Fine P r → ((a : A) (n : ℕ) → P a → Fine Q (next a n)) → Fine Q (and_then r next)
fine-then P Q (Done a n) next h k = k a n h
fine-then P Q (Deep n) next h k = tt
fine-then P Q (Wrong n) next h k = absurd h
fine-then P Q More next h k = tt

pub fine-given : {A B : Type 0} (Q : B → Type 0) (o : Option A) (a : A) (n : ℕ) (next : A → Answer B) → o ≡ Some a → Fine Q (next a) → Fine Q (given o n next)
fine-given Q o a n next i h = rw i h

pub fine-made : (P : Tree → Type 0) (t : Tree) (n : ℕ) → P t → Fine P (made t n)
fine-made P t n h = go (nat_le (depth_of t) MAX_DEPTH)
  where
    go : (b : Bool) → Fine P (if b then Done t n else Deep n)
    go true = h
    go false = tt

-- Kinds

pub is-truth : (w : World) (v : Tree) → IsValue w v s.Bool → (b : Bool) × (truth v ≡ Some b)
is-truth w (Truth b) h = (b, refl)
is-truth w v h = absurd h

pub is-int : (w : World) (v : Tree) → IsValue w v s.Int → (n : ℤ) × (int v ≡ Some n)
is-int w (Int n) h = (n, refl)
is-int w v h = absurd h

pub is-char : (w : World) (v : Tree) → IsValue w v s.Char → (c : ℕ) × (char v ≡ Some c)
is-char w (Char c) h = (c, refl)
is-char w v h = absurd h

pub text-is : (w : World) (text : List ℕ) → IsValue w (text_of text) (s.List s.Char)
text-is w [] = tt
text-is w (c ∷ cs) = (tt, text-is w cs)

-- Lists

pub append-is : (w : World) (v u : Tree) (t : SeqType) → IsValue w v (s.List t) → IsValue w u (s.List t) → (x : Tree) × (appended v u ≡ Some x) × IsValue w x (s.List t)
append-is w Nil u t h k = (u, refl, k)
append-is w (Cell a b) u t (h, i) k = go (items_of b) refl (append-is w b u t i k)
  where
    go : (o : Option (List Tree)) → items_of b ≡ o → ((x : Tree) × (appended b u ≡ Some x) × IsValue w x (s.List t)) → (x : Tree) × (appended (Cell a b) u ≡ Some x) × IsValue w x (s.List t)
    go (Some items) e (x, j, l) = let m : in_front items u ≡ x = cc (rw e at j) in (Cell a (in_front items u), rw e refl, (h, subst (λ y. IsValue w y (s.List t)) (sym m) l))
    go None e (x, j, l) = absurd (cc (rw e at j))
append-is w v u t h k = absurd h

abbrev pub AllOf : World → SeqType → List Tree → Type 0
AllOf w t [] = Unit {0}
AllOf w t (v ∷ vs) = IsValue w v t × AllOf w t vs

pub list-is : (w : World) (t : SeqType) (vs : List Tree) → AllOf w t vs → IsValue w (in_front vs Nil) (s.List t)
list-is w t [] h = tt
list-is w t (v ∷ vs) (h, k) = (h, list-is w t vs k)

-- Comparison

int-of : (w : World) (v : Tree) → IsValue w v s.Int → (n : ℤ) × (v ≡ Int n)
int-of w (Int n) h = (n, refl)
int-of w v h = absurd h

char-of : (w : World) (v : Tree) → IsValue w v s.Char → (c : ℕ) × (v ≡ Char c)
char-of w (Char c) h = (c, refl)
char-of w v h = absurd h

truth-of : (w : World) (v : Tree) → IsValue w v s.Bool → (b : Bool) × (v ≡ Truth b)
truth-of w (Truth b) h = (b, refl)
truth-of w v h = absurd h

text-of : (w : World) (v : Tree) → IsValue w v (s.List s.Char) → (cs : List ℕ) × (v ≡ text_of cs)
text-of w Nil h = ([], refl)
text-of w (Cell a v) (h, i) =
    let c = char-of w a h in
    let cs = text-of w v i in
    (c.0 ∷ cs.0, λ k. Cell (c.1 k) (cs.1 k))
text-of w v h = absurd h

pub compares : (w : World) (f : Filling) (t : SeqType) (v u : Tree) → IsComparable t → IsValue w v (filled f t) → IsValue w u (filled f t) → (o : Ordering) × (compared v u ≡ Some o)
compares w f s.Int v u c h k = let a = int-of w v h in let b = int-of w u k in (int_cmp a.0 b.0, λ i. compared (a.1 i) (b.1 i))
compares w f s.Char v u c h k = let a = char-of w v h in let b = char-of w u k in (nat_cmp a.0 b.0, λ i. compared (a.1 i) (b.1 i))
compares w f s.Bool v u c h k = let a = truth-of w v h in let b = truth-of w u k in (bool_cmp a.0 b.0, λ i. compared (a.1 i) (b.1 i))
compares w f (s.List s.Char) v u c h k =
    let a = text-of w v h in
    let b = text-of w u k in
    (slice_cmp nat_cmp a.0 b.0, (λ i. compared (a.1 i) (b.1 i)) ∙ compared-text a.0 b.0)
compares w f t v u c h k = absurd c
