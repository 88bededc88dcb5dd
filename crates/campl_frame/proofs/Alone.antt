-- A step that changes the state of one node alone.
use Rattle.std.proofs.Common.{◌≡◌, ◌≢◌, ◌⊎◌, ◌∙◌, inl, inr, refl, sym, ap, ◌≤◌, arith, true≢false, [], ◌∷◌, Option, Some}
use Rattle.campl_machine.specs.Names.{Path, End, Who, Process, same_who}
use Rattle.campl_machine.specs.Machine.{update}
use Rattle.campl_machine.specs.Progress.{Within}
use Rattle.campl_machine.proofs.Same.{same_who-is, same_who-refl}
use Rattle.campl_machine.proofs.Updates.{split}
use Rattle.campl_tree.specs.Plain.Decl.{Program}
use Rattle.campl_meaning.specs.States.{Running, State, Runs}
use Rattle.campl_meaning.specs.Reductions.{Configuration}
use Rattle.campl_meaning.specs.Apart.{IsJoined, IsNamed, number_after, number_in_end}
use Rattle.campl_meaning.specs.Lawful.{Lawful}
use Rattle.campl_meaning.proofs.Named.{at-most-more}

-- the nodes behind it
abbrev pub alone : (Who → Option State) → Who → Option State → Who → Option State
alone f who next = update same_who ((who, next) ∷ []) f

-- what is there now is the node's own, or was there
abbrev pub IsOneOf : (Who → Option State) → Who → Option State → Who → State → Type 0
IsOneOf f who next v s = ((v ≡ who) × (next ≡ Some s)) ⊎ ((v ≢ who) × (f v ≡ Some s))

module _ (f : Who → Option State) (who : Who) (next : Option State) where
  pub alone-here : alone f who next who ≡ next
  alone-here = rw (same_who-refl who) refl

  pub alone-others : (v : Who) (s : State) → v ≢ who → f v ≡ Some s → alone f who next v ≡ Some s
  alone-others v s n i = elim (split (same_who who v)) [ inl a ↦ absurd (n (sym (same_who-is who v a))) | inr a ↦ rw a i ]

  pub alone-whose : (v : Who) (s : State) → alone f who next v ≡ Some s → IsOneOf f who next v s
  alone-whose v s i = elim (split (same_who who v)) [
    | inl a ↦ inl (sym (same_who-is who v a), rw a at i)
    | inr a ↦ inr ((λ e. true≢false (sym (same_who-refl who) ∙ (ap (same_who who) (sym e) ∙ a))), rw a at i)
  ]

module _ (c d : Configuration) (who : Who) (s : State) (next : Option State) (is : c.nodes who ≡ Some s) (whose : (v : Who) (t : State) → d.nodes v ≡ Some t → IsOneOf c.nodes who next v t) where
  -- each node was there
  pub alone-was : (v : Who) (t : State) → d.nodes v ≡ Some t → (o : State) × (c.nodes v ≡ Some o)
  alone-was v t i = elim (whose v t i) [ inl (k, j) ↦ (s, ap c.nodes k ∙ is) | inr (n, j) ↦ (t, j) ]

  pub alone-listed : (source : Program) (l : Lawful source c) (v : Who) (t : State) → d.nodes v ≡ Some t → Within l.nodes v
  alone-listed source l v t i = let (o, j) = alone-was v t i in l.listed v o j

  -- names stay new where a process that goes on doesn't step back, and no channel is born
  pub alone-named : IsNamed c → ((e : End) → IsJoined d e → IsJoined c e) → ((r : Running) → next ≡ Some (Runs r) → (o : Running) × (s ≡ Runs o) × (o.steps ≤ r.steps)) → IsNamed d
  alone-named l joined more = record {
    paths = λ p q r t i j. let (o, k, m) = before p r i in let (u, n) = alone-was (Process q) t j in at-most-more (number_after p q) o.steps r.steps m (l.paths p q o u k n);
    channels = λ p r e i j. let (o, k, m) = before p r i in at-most-more (number_in_end p e) o.steps r.steps m (l.channels p o e k (joined e j));
  }
    where
      before : (p : Path) (r : Running) → d.nodes (Process p) ≡ Some (Runs r) → (o : Running) × (c.nodes (Process p) ≡ Some (Runs o)) × (o.steps ≤ r.steps)
      before p r i = elim (whose (Process p) (Runs r) i) [
        | inl (k, j) ↦ let (o, e, m) = more r j in (o, ap c.nodes k ∙ (is ∙ ap Some e), m)
        | inr (n, j) ↦ (r, j, omega arith)
      ]
