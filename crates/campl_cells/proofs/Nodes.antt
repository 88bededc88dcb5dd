-- The processes by number and the machine's nodes: what stands for what, and whose names come from births.
use Rattle.std.proofs.Common.{◌≡◌, ◌≢◌, ◌≤◌, ◌⊎◌, inl, inr, ℕ, suc, List, [], ◌∷◌, ◌++◌, Option, Some, None, IsSome, IfSome, refl, sym, ap, subst, ◌∙◌, if◌then◌else◌, arith, le_refl}
use Rattle.std.specs.Option.{IsSomeAnd}
use Rattle.campl_machine.specs.Names.{Path, End, Who, Process, same_who}
use Rattle.campl_machine.specs.Machine.{update}
use Rattle.campl_machine.proofs.Same.{same_who-is, same_who-refl}
use Rattle.campl_code.specs.Instructions.{Code}
use Rattle.campl_code_bodies.specs.Commands.{CodeState}
use Rattle.campl_cells.specs.Parts.{Life, Proc, Tip, put}
use Rattle.campl_cells.specs.Steps.{goes_on}
use Rattle.campl_cells.specs.Stands.{Naming, IsNode, IsBorn, IsBorneBy, birth}
use Rattle.campl_cells.proofs.Puts.{split, put-both, put-here, if-then, if-here, is-there}

pub who-here : {V : Type 0} (e f : Who) (x : V) (es : List (Who × V)) (F : Who → V) → e ≡ f → update same_who ((e, x) ∷ es) F f ≡ x
who-here e f x es F q = ap (λ b. if b then x else update same_who es F f) (ap (same_who e) (sym q) ∙ same_who-refl e)

pub who-else : {V : Type 0} (e f : Who) (x : V) (es : List (Who × V)) (F : Who → V) → e ≢ f → update same_who ((e, x) ∷ es) F f ≡ update same_who es F f
who-else e f x es F q = elim (split (same_who e f)) [
  | inl t ↦ absurd (q (same_who-is e f t))
  | inr t ↦ ap (λ b. if b then x else update same_who es F f) t
]

-- each part stands for the node of its name, nothing else is there, and no name is used twice
pub record NodesStand (code : Code) (n : Naming) (process : ℕ → Option Proc) (nodes : Who → Option CodeState) : Type 0 where
  pub is : (i : ℕ) → IfSome (process i) (λ q. IsNode code n.end (n.who i) q.steps q.life (nodes (n.who i)))
  pub no_node : (w : Who) → ((i : ℕ) → IsSome (process i) → n.who i ≢ w) → nodes w ≡ None
  pub one : (i j : ℕ) → IsSome (process i) → IsSome (process j) → n.who i ≡ n.who j → i ≡ j

module _ (code : Code) (n : Naming) (process : ℕ → Option Proc) (nodes nodes2 : Who → Option CodeState) (z : NodesStand code n process nodes) (k : ℕ) (q : Proc)
    (new : (i : ℕ) → k ≢ i → IsSome (process i) → n.who k ≢ n.who i)
    (there : IsNode code n.end (n.who k) q.steps q.life (nodes2 (n.who k)))
    (others : (w : Who) → n.who k ≢ w → nodes2 w ≡ nodes w) where
  keeps : (i : ℕ) → IsSome (process i) → IsSome (put k (Some q) process i)
  keeps i h = put-both (λ i o. IsSome (process i) → IsSome o) k (Some q) process i (λ h. refl) (λ ne h. h) h

  -- one number gets another part, and its name another node
  pub node-written : NodesStand code n (put k (Some q) process) nodes2
  node-written = record {
    is = λ i. put-both (λ i o. IfSome o (λ q. IsNode code n.end (n.who i) q.steps q.life (nodes2 (n.who i)))) k (Some q) process i there
        (λ ne. if-then (λ q. IsNode code n.end (n.who i) q.steps q.life (nodes (n.who i))) (λ q. IsNode code n.end (n.who i) q.steps q.life (nodes2 (n.who i))) (process i)
        (λ r e h. subst (λ o. IsNode code n.end (n.who i) r.steps r.life o) (sym (others (n.who i) (new i ne (is-there (process i) r e)))) h)
        (z.is i));
    no_node = λ w h. others w (h k (subst IsSome (sym (put-here k (Some q) process)) refl)) ∙ z.no_node w (λ i there. h i (keeps i there));
    one = λ i j hi hj e. put-both (λ i o. IsSome o → (j : ℕ) → IsSome (put k (Some q) process j) → n.who i ≡ n.who j → i ≡ j) k (Some q) process i
        (λ hi j. put-both (λ j o. IsSome o → n.who k ≡ n.who j → k ≡ j) k (Some q) process j (λ h e. refl) (λ ne h e. absurd (new j ne h e)))
        (λ ni hi j. put-both (λ j o. IsSome o → n.who i ≡ n.who j → i ≡ j) k (Some q) process j (λ h e. absurd (new i ni hi (sym e))) (λ nj h e. z.one i j hi h e))
        hi j hj e;
  }

-- Births

abbrev pub HasMade : (ℕ → Option Proc) → (i step : ℕ) → Type 0
HasMade process i step = IsSomeAnd (process i) (λ r. step ≤ r.steps)

abbrev pub Grown : (process process2 : ℕ → Option Proc) → Type 0
Grown process process2 = (i step : ℕ) → HasMade process i step → HasMade process2 i step

abbrev pub Births : Naming → (ℕ → Option Proc) → Type 0
Births n process = (i : ℕ) → IfSome (process i) (λ q. (path : Path) → n.who i ≡ Process path → (path ≡ []) ⊎ IsBorn n process q path)

abbrev pub Bearers : Naming → (ℕ → Option Proc) → (ℕ → Option Tip) → Type 0
Bearers n process tip = (e : ℕ) → IsSome (tip e) → IsBorneBy n process (n.end e)

pub borne-grown : (n : Naming) (process process2 : ℕ → Option Proc) → Grown process process2 → (e : End) → IsBorneBy n process e → IsBorneBy n process2 e
borne-grown n process process2 g e b = record { number = b.number; named = b.named; made = g b.number e.step b.made }

-- the same parent and step of birth
born-grown : (n : Naming) (process process2 : ℕ → Option Proc) → Grown process process2 → (q r : Proc) (path : Path) → r.parent ≡ q.parent → r.born ≡ q.born →
    (path ≡ []) ⊎ IsBorn n process q path → (path ≡ []) ⊎ IsBorn n process2 r path
born-grown n process process2 g q r path ep eb (inl e) = inl e
born-grown n process process2 g q r path ep eb (inr b) = inr (record {
  parent = b.parent;
  named = ap n.who ep ∙ b.named;
  path_is = b.path_is ∙ ap (λ k. b.parent ++ birth k ∷ []) (sym eb);
  made = g r.parent r.born (subst (λ k. HasMade process k r.born) (sym ep) (subst (λ k. HasMade process q.parent k) (sym eb) b.made));
})

module _ (n : Naming) (process : ℕ → Option Proc) (p : ℕ) (q : Proc) (there : process p ≡ Some q) (life : Life) where
  abbrev process2 : ℕ → Option Proc
  process2 = put p (Some (goes_on q life)) process

  pub on-grown : Grown process process2
  on-grown i step h = put-both (λ i o. HasMade process i step → IsSomeAnd o (λ r. step ≤ r.steps)) p (Some (goes_on q life)) process i
      (λ h. let l : step ≤ q.steps = subst (λ o. IsSomeAnd o (λ r. step ≤ r.steps)) there h in omega (arith, l))
      (λ ne h. h) h

  pub on-made : HasMade process2 p (suc q.steps)
  on-made = subst (λ o. IsSomeAnd o (λ r. suc q.steps ≤ r.steps)) (sym (put-here p (Some (goes_on q life)) process)) (le_refl (suc q.steps))

  pub on-births : Births n process → Births n process2
  on-births z i = put-both (λ i o. IfSome o (λ q. (path : Path) → n.who i ≡ Process path → (path ≡ []) ⊎ IsBorn n process2 q path)) p (Some (goes_on q life)) process i
      (λ path w. born-grown n process process2 on-grown q (goes_on q life) path refl refl
      (if-here (λ q. (path : Path) → n.who p ≡ Process path → (path ≡ []) ⊎ IsBorn n process q path) (process p) q there (z p) path w))
      (λ ne. if-then (λ q. (path : Path) → n.who i ≡ Process path → (path ≡ []) ⊎ IsBorn n process q path) (λ q. (path : Path) → n.who i ≡ Process path → (path ≡ []) ⊎ IsBorn n process2 q path) (process i)
      (λ r e h path w. born-grown n process process2 on-grown r r path refl refl (h path w)) (z i))

-- a child of the process p gets a free number
module _ (n : Naming) (process : ℕ → Option Proc) (p k step : ℕ) (path : Path) (free : process k ≡ None) (made : HasMade process p step)
    (named : n.who p ≡ Process path) (child : n.who k ≡ Process (path ++ birth step ∷ [])) (r : Proc) (parent : r.parent ≡ p) (born : r.born ≡ step) where
  abbrev with-child : ℕ → Option Proc
  with-child = put k (Some r) process

  pub child-grown : Grown process with-child
  child-grown i s h = put-both (λ i o. HasMade process i s → IsSomeAnd o (λ r. s ≤ r.steps)) k (Some r) process i
      (λ h. absurd (subst (λ o. IsSomeAnd o (λ r. s ≤ r.steps)) free h))
      (λ ne h. h) h

  same-path : (a b : Path) → Process a ≡ Process b → a ≡ b
  same-path a b e = cc e

  pub child-births : Births n process → Births n with-child
  child-births z i = put-both (λ i o. IfSome o (λ q. (path : Path) → n.who i ≡ Process path → (path ≡ []) ⊎ IsBorn n with-child q path)) k (Some r) process i
      (λ path2 w. inr (record {
        parent = path;
        named = ap n.who parent ∙ named;
        path_is = same-path path2 (path ++ birth step ∷ []) (sym w ∙ child) ∙ ap (λ s. path ++ birth s ∷ []) (sym born);
        made = child-grown r.parent r.born (subst (λ i. HasMade process i r.born) (sym parent) (subst (λ s. HasMade process p s) (sym born) made));
      }))
      (λ ne. if-then (λ q. (path : Path) → n.who i ≡ Process path → (path ≡ []) ⊎ IsBorn n process q path) (λ q. (path : Path) → n.who i ≡ Process path → (path ≡ []) ⊎ IsBorn n with-child q path) (process i)
      (λ r e h path w. born-grown n process with-child child-grown r r path refl refl (h path w)) (z i))
