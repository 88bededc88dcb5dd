-- What the step of a process or service uses, and what it bears.
use Rattle.std.proofs.Common.{◌≡◌, ◌≢◌, ℕ, suc, Bool, true, false, [], ◌∷◌, ◌⊎◌, inl, inr, refl, sym, ap, ◌∙◌, Option, Some, None, if◌then◌else◌}
use Rattle.campl_tree.specs.Plain.Process as b
use Rattle.campl_tree.specs.Plain.Process.{Body, Branches}
use Rattle.campl_machine.specs.Names.{Path, Half, First, Second, End, Who, Process, Service}
use Rattle.campl_machine.specs.Machine.{Act, Looks, Links, Stands, Breaks, Lies, Uses, ends_born, nodes_born}
use Rattle.campl_types.specs.Names.{Name, found}
use Rattle.campl_types.specs.World.{World, process_named}
use Rattle.campl_types.specs.Matching.{first_match, number_of}
use Rattle.campl_types.specs.Linear.{body_rows}
use Rattle.campl_service.specs.declared.phase.Phase.{Phase}
use Rattle.campl_service.specs.declared.phase.Phase.TheVariants as phase
use Rattle.campl_service.specs.Scripts.{Lines}
use Rattle.campl_service.specs.Services.{Action, action, want, want_in}
use Rattle.campl_value.specs.declared.message.Message.TheVariants as m
use Rattle.campl_value.specs.declared.message.Message as of_service
use Rattle.campl_evaluation.specs.Evaluation.{Answer, Done, Deep, Wrong, More, value_of, values_of}
use Rattle.campl_peel.specs.Numbered.{last_first}
use Rattle.campl_peel.specs.Peel.{Peel, peel_of}
use Rattle.campl_peel.specs.Terms.{Term, Doing, Plugging}
use Rattle.campl_meaning.specs.States.{Message, Running, Attending, State, Kind, Command}
use Rattle.campl_meaning.specs.Bodies.{row_at, branch_at, are_held, handed, both_ends}
use Rattle.campl_meaning.specs.Wants.{born, child, quiet, sends, gone, with_found, with_answer, peels, chooses, next_command, term_command, said, says, serving_command}

-- the end of a message that is sent
first : (f g : End) (m n : Message) → ◌≡◌ {A = Option (End × Message)} (Some (f, m)) (Some (g, n)) → f ≡ g
first f g m n e =
    let q : ◌≡◌ {A = End × Message} (f, m) (g, n) = cc e in
    ap (λ (z : End × Message). z.0) q

-- a process's step uses ends that it holds, and bears what is named by its path and its next step
pub record KeepsTo (p : Path) (r : Running) (A : Act State Message) : Type 0 where
  pub uses : (e : End) → Uses A e → (x : Name) × (found x r.ends ≡ Some e)
  pub ends : (e : End) → Lies (ends_born A) e → (e.bearer ≡ p) × (e.step ≡ suc r.steps)
  pub nodes : (v : Who) → Lies (nodes_born (Process p) A) v → (Process p ≡ v) ⊎ (child p r ≡ v)

module _ (p : Path) (r : Running) where
  -- the node itself
  itself : {S : Type 0} (s : Option S) (v : Who) → Lies ((Process p, s) ∷ []) v → (Process p ≡ v) ⊎ (child p r ≡ v)
  itself s v (inl i) = inl i
  itself s v (inr l) = absurd l

  breaks : KeepsTo p r Breaks
  breaks = record { uses = λ e u. absurd u; ends = λ e l. absurd l; nodes = λ v l. itself {S = State} None v l }

  stands : KeepsTo p r Stands
  stands = record { uses = λ e u. absurd u; ends = λ e l. absurd l; nodes = λ v l. itself {S = State} None v l }

  goes-on : (s : State) → KeepsTo p r (quiet s)
  goes-on s = record { uses = λ e u. absurd (cc u.1); ends = λ e l. absurd l; nodes = λ v l. itself {S = State} (Some s) v l }

  goes : KeepsTo p r gone
  goes = record { uses = λ e u. absurd (cc u.1); ends = λ e l. absurd l; nodes = λ v l. itself {S = State} None v l }

  puts : (x : Name) (e : End) (m : Message) (s : State) → found x r.ends ≡ Some e → KeepsTo p r (sends e m s)
  puts x e m s is = record {
    uses = λ f u. (x, is ∙ ap Some (first e f m u.0 u.1));
    ends = λ f l. absurd l;
    nodes = λ v l. itself {S = State} (Some s) v l;
  }

  takes : (x : Name) (e : End) (takes : Bool) (f : Message → Option State) → found x r.ends ≡ Some e → KeepsTo p r (Looks takes e f)
  takes x e t f is = record {
    uses = λ g u. (x, is ∙ ap Some (sym u));
    ends = λ g l. absurd l;
    nodes = λ v l. itself {S = State} None v l;
  }

  joins : (x y : Name) (e f : End) → found x r.ends ≡ Some e → found y r.ends ≡ Some f → KeepsTo p r (Links e f)
  joins x y e f is js = record {
    uses = λ g u. elim u [ inl i ↦ (x, is ∙ ap Some (sym i)) | inr i ↦ (y, js ∙ ap Some (sym i)) ];
    ends = λ g l. absurd l;
    nodes = λ v l. itself {S = State} None v l;
  }

  -- what is looked up
  looked-up : {A : Type 0} (kind : Kind) (o : Option A) (f : A → Command) → ((a : A) → o ≡ Some a → KeepsTo p r (f a).act) → KeepsTo p r (with_found kind o f).act
  looked-up kind None f h = breaks
  looked-up kind (Some a) f h = h a refl

  -- what is evaluated
  evaluated : {A : Type 0} (kind : Kind) (end : Option End) (o : Answer A) (f : A → Command) → ((a : A) → KeepsTo p r (f a).act) → KeepsTo p r (with_answer r kind end o f).act
  evaluated kind end (Done a left) f h = h a
  evaluated kind end (Deep left) f h = breaks
  evaluated kind end (Wrong left) f h = breaks
  evaluated kind end More f h = goes-on _

  either : (t : Bool) (A B : Command) → KeepsTo p r A.act → KeepsTo p r B.act → KeepsTo p r (if t then A else B).act
  either true A B a b = a
  either false A B a b = b

  -- the name of a channel that is born
  named : (channel : ℕ) (half : Half) (e : End) → born p r channel half ≡ e → (e.bearer ≡ p) × (e.step ≡ suc r.steps)
  named channel half e is = (ap (λ (z : End). z.bearer) (sym is), ap (λ (z : End). z.step) (sym is))

  family : {S : Type 0} (s t : Option S) (v : Who) → Lies ((Process p, s) ∷ ((child p r, t) ∷ [])) v → (Process p ≡ v) ⊎ (child p r ≡ v)
  family s t v (inl i) = inl i
  family s t v (inr (inl i)) = inr i
  family s t v (inr (inr l)) = absurd l

  peeled : (o : Option Peel) → KeepsTo p r (peels p r o).act
  peeled None = breaks
  peeled (Some q) = record {
    uses = λ e u. absurd (cc u.1);
    ends = λ e l. elim l [ inl j ↦ named 1 First e j | inr (inl j) ↦ named 1 Second e j | inr (inr j) ↦ absurd j ];
    nodes = λ v l. family {S = State} None None v l;
  }

  chosen : (i : ℕ) (o : Option (Name × Body)) → KeepsTo p r (chooses r i o).act
  chosen i None = stands
  chosen i (Some branch) = looked-up _ (found branch.0 r.ends) _ (λ e is. takes branch.0 e false _ is)

  body-keeps : (w : World) (i : ℕ) (body : Body) → KeepsTo p r (next_command w p r i body).act
  body-keeps w i (b.Then (b.Put at a x) rest) =
      looked-up _ (found x.name r.ends) _ (λ e is. evaluated _ (Some e) (value_of w a r.variables r.spent) _ (λ v. puts x.name e _ _ is))
  body-keeps w i (b.Then (b.Get at v x) rest) = looked-up _ (found x.name r.ends) _ (λ e is. takes x.name e true _ is)
  body-keeps w i (b.Then (b.Hput at c x) rest) =
      looked-up _ (found x.name r.ends) _ (λ e is. looked-up _ (number_of w c.name) _ (λ n js. puts x.name e _ _ is))
  body-keeps w i (b.Then (b.Split at x y z) rest) = looked-up _ (found x.name r.ends) _ (λ e is. takes x.name e true _ is)
  body-keeps w i (b.Then (b.Close at x) rest) = looked-up _ (found x.name r.ends) _ (λ e is. goes-on _)
  body-keeps w i (b.Halt at None) = goes
  body-keeps w i (b.Halt at (Some x)) = looked-up _ (found x.name r.ends) _ (λ e is. goes)
  body-keeps w i (b.Hcase at x rows) = looked-up _ (found x.name r.ends) _ (λ e is. takes x.name e true _ is)
  body-keeps w i (b.Fork at x y left z right) = looked-up _ (found x.name r.ends) _ (λ e is. record {
    uses = λ f u. (x.name, is ∙ ap Some (first e f _ u.0 u.1));
    ends = λ f l. elim l [
      | inl j ↦ named 1 First f j
      | inr (inl j) ↦ named 1 Second f j
      | inr (inr (inl j)) ↦ named 2 First f j
      | inr (inr (inr (inl j))) ↦ named 2 Second f j
      | inr (inr (inr (inr j))) ↦ absurd j
    ];
    nodes = λ v l. family {S = State} None None v l;
  })
  body-keeps w i (b.Plug at links parts) = peeled (peel_of links (last_first links parts))
  body-keeps w i (b.Race at rows) = either (are_held rows r.ends) _ _ (chosen i (branch_at rows i)) breaks
  body-keeps w i (b.Case at a rows) =
      evaluated _ None (value_of w a r.variables r.spent) _ (λ v.
      looked-up _ (first_match w (body_rows rows) (v ∷ [])) _ (λ m is. looked-up _ (row_at rows m.0) _ (λ body js. goes-on _)))
  body-keeps w i (b.Identity at x negated y) =
      looked-up _ (found x r.ends) _ (λ e is. looked-up _ (found y.name r.ends) _ (λ f js. joins x y.name e f is js))
  body-keeps w i (b.Call at x args inputs outputs) =
      looked-up _ (process_named w x) _ (λ d is.
      looked-up _ (both_ends (handed d.row.inputs inputs r.ends) (handed d.row.outputs outputs r.ends)) _ (λ es js.
      evaluated _ None (values_of w args r.variables r.spent) _ (λ vs. goes-on _)))

  pub keeps-to : (w : World) (i : ℕ) (term : Term) → KeepsTo p r (term_command w p r i term).act
  keeps-to w i (Doing body) = body-keeps w i body
  keeps-to w i (Plugging links parts) = peeled (peel_of links parts)

-- a service's step uses its end where it isn't closed, and bears nothing
pub record ServesAlone (n : ℕ) (s : Attending) (A : Act State Message) : Type 0 where
  pub uses : (e : End) → Uses A e → (s.end ≡ e) × (s.serving.phase ≢ phase.Closed)
  pub ends : (e : End) → Lies (ends_born A) e → ⊥
  pub nodes : (v : Who) → Lies (nodes_born (Service n) A) v → Service n ≡ v

module _ (n : ℕ) (s : Attending) where
  alone : {S : Type 0} (t : Option S) (v : Who) → Lies ((Service n, t) ∷ []) v → Service n ≡ v
  alone t v (inl i) = i
  alone t v (inr l) = absurd l

  waits : (f : Message → Option State) → s.serving.phase ≢ phase.Closed → ServesAlone n s (Looks true s.end f)
  waits f not_closed = record { uses = λ e u. (sym u, not_closed); ends = λ e l. l; nodes = λ v l. alone {S = State} None v l }

  idles : ServesAlone n s Stands
  idles = record { uses = λ e u. absurd u; ends = λ e l. l; nodes = λ v l. alone {S = State} None v l }

  tells : (o : Option of_service.Message) (f : End) (g : Message) → said s.end o ≡ Some (f, g) → s.end ≡ f
  tells None f g i = absurd (cc i)
  tells (Some (m.Word v)) f g i = first s.end f _ g i
  tells (Some (m.Pick k)) f g i = first s.end f _ g i
  tells (Some (m.Ends a b)) f g i = absurd (cc i)

  speaks : (o : Option Action) → s.serving.phase ≢ phase.Closed → ServesAlone n s (says s.end o)
  speaks None not_closed = idles
  speaks (Some a) not_closed = record { uses = λ e u. (tells a.1 e u.0 u.1, not_closed); ends = λ e l. l; nodes = λ v l. alone {S = State} None v l }

  serves-in : (ph : Phase) (lines : Lines) → s.serving.phase ≡ ph → ServesAlone n s (serving_command s (want_in ph lines)).act
  serves-in phase.Pick lines is = waits _ (λ j. absurd (cc (is, j)))
  serves-in phase.Text lines is = waits _ (λ j. absurd (cc (is, j)))
  serves-in phase.Send [] is = idles
  serves-in phase.Send (line ∷ lines) is = speaks (action s.serving None) (λ j. absurd (cc (is, j)))
  serves-in phase.Closed lines is = idles

  pub serves-alone : ServesAlone n s (serving_command s (want s.serving)).act
  serves-alone = serves-in s.serving.phase s.serving.script refl
