-- The states behind any step of a process, whatever its command is.
use Rattle.std.proofs.Common.{◌≡◌, ℕ, Bool, true, false, [], ◌∷◌, ◌⊎◌, inl, inr, refl, subst, Option, Some, None, if◌then◌else◌, option_map}
use Rattle.campl_tree.specs.Plain.Process as b
use Rattle.campl_tree.specs.Plain.Process.{Body, Branches}
use Rattle.campl_machine.specs.Names.{Path, End, Who, Process}
use Rattle.campl_machine.specs.Machine.{Act}
use Rattle.campl_types.specs.Names.{Name, found}
use Rattle.campl_types.specs.World.{World, process_named}
use Rattle.campl_types.specs.Matching.{Bindings, first_match, number_of, row_picked}
use Rattle.campl_types.specs.Linear.{body_rows}
use Rattle.campl_value.specs.Tree.{Tree}
use Rattle.campl_evaluation.specs.Evaluation.{Answer, Done, Deep, Wrong, More, value_of, values_of}
use Rattle.campl_peel.specs.Numbered.{last_first}
use Rattle.campl_peel.specs.Peel.{Peel, peel_of}
use Rattle.campl_peel.specs.Terms.{Term, Doing, Plugging}
use Rattle.campl_meaning.specs.States.{Message, Word, Pick, EndPair, Ends, Running, State, Kind, Command}
use Rattle.campl_meaning.specs.Bodies.{row_at, branch_at, are_held, handed, both_ends, bind, without_end}
use Rattle.campl_meaning.specs.Wants.{child, with_found, with_answer, peels, chooses, next_command, term_command, on_word, on_pick, on_ends, onward, spends, newborn}
use Rattle.campl_meaning.proofs.Nodes.{AllNext}

-- the process goes on, or is a child
abbrev pub GoesOn : Path → Running → (State → Type 0) → (State → Type 0) → Who → State → Type 0
GoesOn p r P C v s = ((v ≡ Process p) × P s) ⊎ ((v ≡ child p r) × C s)

module _ (p : Path) (r : Running) (P C : State → Type 0) (on : (t : Term) (vs : Bindings) (es : Ends) → P (onward r t vs es)) (spent : P (spends r))
    (new : (body : Body) (es : Ends) → C (newborn r body es)) where
  abbrev Next : Act State Message → Type 0
  Next A = AllNext (GoesOn p r P C) (Process p) A

  goes : (t : Term) (vs : Bindings) (es : Ends) (s : State) → ◌≡◌ {A = Option State} (Some (onward r t vs es)) (Some s) → GoesOn p r P C (Process p) s
  goes t vs es s j = let q : onward r t vs es ≡ s = cc j in inl (refl, subst P q (on t vs es))

  spend : (s : State) → ◌≡◌ {A = Option State} (Some (spends r)) (Some s) → GoesOn p r P C (Process p) s
  spend s j = let q : spends r ≡ s = cc j in inl (refl, subst P q spent)

  looked-up : {A : Type 0} (kind : Kind) (o : Option A) (f : A → Command) → ((a : A) → Next (f a).act) → Next (with_found kind o f).act
  looked-up kind None f h = tt
  looked-up kind (Some a) f h = h a

  evaluated : {A : Type 0} (kind : Kind) (end : Option End) (o : Answer A) (f : A → Command) → ((a : A) → Next (f a).act) → Next (with_answer r kind end o f).act
  evaluated kind end (Done a rest) f h = h a
  evaluated kind end (Deep rest) f h = tt
  evaluated kind end (Wrong rest) f h = tt
  evaluated kind end More f h = ((λ s j. spend s j), tt)

  word-next : (t : Term) (vs : Tree → Bindings) (es : Ends) (m : Message) (s : State) → on_word (λ u. Some (onward r t (vs u) es)) m ≡ Some s → GoesOn p r P C (Process p) s
  word-next t vs es (Word u) s j = goes t (vs u) es s j
  word-next t vs es (Pick n) s j = absurd (cc j)
  word-next t vs es (EndPair f g) s j = absurd (cc j)

  ends-next : (t : Term) (vs : Bindings) (es : End → End → Ends) (m : Message) (s : State) → on_ends (λ f g. Some (onward r t vs (es f g))) m ≡ Some s → GoesOn p r P C (Process p) s
  ends-next t vs es (Word u) s j = absurd (cc j)
  ends-next t vs es (Pick n) s j = absurd (cc j)
  ends-next t vs es (EndPair f g) s j = goes t vs (es f g) s j

  row-next : (o : Option Body) (s : State) → option_map (λ body. onward r (Doing body) r.variables r.ends) o ≡ Some s → GoesOn p r P C (Process p) s
  row-next None s j = absurd (cc j)
  row-next (Some body) s j = goes (Doing body) r.variables r.ends s j

  pick-next : (rows : ℕ → Option Body) (m : Message) (s : State) → on_pick (λ n. option_map (λ body. onward r (Doing body) r.variables r.ends) (rows n)) m ≡ Some s → GoesOn p r P C (Process p) s
  pick-next rows (Word u) s j = absurd (cc j)
  pick-next rows (Pick n) s j = row-next (rows n) s j
  pick-next rows (EndPair f g) s j = absurd (cc j)

  peeled : (o : Option Peel) → Next (peels p r o).act
  peeled None = tt
  peeled (Some q) = ((λ s j. goes _ _ _ s j), (inr (refl, new _ _), tt))

  chosen : (i : ℕ) (o : Option (Name × Body)) → Next (chooses r i o).act
  chosen i None = tt
  chosen i (Some branch) = looked-up _ (found branch.0 r.ends) _ (λ e. λ m s j. goes _ _ _ s j)

  either : (t : Bool) (A B : Command) → Next A.act → Next B.act → Next (if t then A else B).act
  either true A B a c = a
  either false A B a c = c

  body-next : (w : World) (i : ℕ) (body : Body) → Next (next_command w p r i body).act
  body-next w i (b.Then (b.Put at a x) rest) =
      looked-up _ (found x.name r.ends) _ (λ e. evaluated _ (Some e) (value_of w a r.variables r.spent) _ (λ v. ((λ s j. goes _ _ _ s j), tt)))
  body-next w i (b.Then (b.Get at v x) rest) =
      looked-up _ (found x.name r.ends) _ (λ e. λ m s j. word-next (Doing rest) (λ u. bind v u r.variables) r.ends m s j)
  body-next w i (b.Then (b.Hput at c x) rest) =
      looked-up _ (found x.name r.ends) _ (λ e. looked-up _ (number_of w c.name) _ (λ n. ((λ s j. goes _ _ _ s j), tt)))
  body-next w i (b.Then (b.Split at x y z) rest) =
      looked-up _ (found x.name r.ends) _ (λ e. λ m s j. ends-next (Doing rest) r.variables (λ f g. (z.name, g) ∷ (y.name, f) ∷ without_end x.name r.ends) m s j)
  body-next w i (b.Then (b.Close at x) rest) = looked-up _ (found x.name r.ends) _ (λ e. ((λ s j. goes _ _ _ s j), tt))
  body-next w i (b.Halt at None) = ((λ s j. absurd (cc j)), tt)
  body-next w i (b.Halt at (Some x)) = looked-up _ (found x.name r.ends) _ (λ e. ((λ s j. absurd (cc j)), tt))
  body-next w i (b.Hcase at x rows) = looked-up _ (found x.name r.ends) _ (λ e. λ m s j. pick-next (λ n. row_picked w n rows) m s j)
  body-next w i (b.Fork at x y one z two) = looked-up _ (found x.name r.ends) _ (λ e. ((λ s j. goes _ _ _ s j), (inr (refl, new _ _), tt)))
  body-next w i (b.Plug at links parts) = peeled (peel_of links (last_first links parts))
  body-next w i (b.Race at rows) = either (are_held rows r.ends) _ _ (chosen i (branch_at rows i)) tt
  body-next w i (b.Case at a rows) =
      evaluated _ None (value_of w a r.variables r.spent) _ (λ v.
      looked-up _ (first_match w (body_rows rows) (v ∷ [])) _ (λ m. looked-up _ (row_at rows m.0) _ (λ body. ((λ s j. goes _ _ _ s j), tt))))
  body-next w i (b.Identity at x negated y) = looked-up _ (found x r.ends) _ (λ e. looked-up _ (found y.name r.ends) _ (λ f. tt))
  body-next w i (b.Call at x args inputs outputs) =
      looked-up _ (process_named w x) _ (λ d.
      looked-up _ (both_ends (handed d.row.inputs inputs r.ends) (handed d.row.outputs outputs r.ends)) _ (λ es.
      evaluated _ None (values_of w args r.variables r.spent) _ (λ vs. ((λ s j. goes _ _ _ s j), tt))))

  pub next-states : (w : World) (i : ℕ) (term : Term) → Next (term_command w p r i term).act
  next-states w i (Doing body) = body-next w i body
  next-states w i (Plugging links parts) = peeled (peel_of links parts)
