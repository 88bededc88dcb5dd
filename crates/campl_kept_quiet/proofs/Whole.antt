-- Reductions that change no channel, and what is left for the others.
use Rattle.std.proofs.Common.{◌≡◌, ◌∙◌, refl, sym, ap, subst, ℕ, Bool, true, false, Option, Some, None, option_map, if◌then◌else◌}
use Rattle.campl_tree.specs.Plain.Decl.{Program}
use Rattle.campl_tree.specs.Plain.Process as b
use Rattle.campl_tree.specs.Plain.Process.{Body}
use Rattle.campl_machine.specs.Names.{Path, End, Who, Process, Service}
use Rattle.campl_machine.specs.Machine.{Does, performs}
use Rattle.campl_machine.proofs.Performs.{does_of}
use Rattle.campl_types.specs.Names.{Name, found}
use Rattle.campl_types.specs.World.{World, world_of, process_named}
use Rattle.campl_types.specs.Matching.{first_match, number_of}
use Rattle.campl_types.specs.Linear.{body_rows}
use Rattle.campl_evaluation.specs.Evaluation.{Answer, Done, Deep, Wrong, More, value_of, values_of}
use Rattle.campl_peel.specs.Numbered.{last_first}
use Rattle.campl_peel.specs.Peel.{Peel, peel_of}
use Rattle.campl_peel.specs.Terms.{Term, Doing, Plugging}
use Rattle.campl_meaning.specs.States as k
use Rattle.campl_meaning.specs.States.{Message, Running, Attending, State, Runs, Serves, Kind, Command}
use Rattle.campl_meaning.specs.Bodies.{row_at, branch_at, are_held, handed, both_ends}
use Rattle.campl_meaning.specs.Wants.{wants, with_found, with_answer, peels, chooses, next_command, term_command}
use Rattle.campl_meaning.specs.Reductions.{Configuration, Event, event_of, act_of, reduce_state, Reduces}
use Rattle.campl_meaning.specs.Lawful.{Lawful}
use Rattle.campl_meaning.specs.Kept.{Goes, IsKept}
use Rattle.campl_kept_quiet.specs.Quiet.{behind, Keeps}
use Rattle.campl_kept_quiet.specs.Others.{IsQuietBody, OthersKeep}
use Rattle.campl_kept_quiet.proofs.Acts.{spent_more}
use Rattle.campl_kept_quiet.proofs.Steps.{works, keeps-close, keeps-halt, keeps-case, keeps-race}
use Rattle.campl_kept_quiet.proofs.Calls.{keeps-call}
use Rattle.campl_kept_quiet.proofs.Begins.{begins}

-- Reductions as steps

inside : (o : Option Configuration) (x : Event) (d : Configuration) (f : Event) → option_map {U = Event × Configuration} (λ (e : Configuration). (f, e)) o ≡ Some (x, d) → (o ≡ Some d) × (f ≡ x)
inside None x d f i = absurd (cc i)
inside (Some e) x d f i =
    let q : ◌≡◌ {A = Event × Configuration} (f, e) (x, d) = cc i in
    (ap (λ (z : Event × Configuration). Some z.1) q, ap (λ (z : Event × Configuration). z.0) q)

-- what a reduction is
pub step-is : (w : World) (c : Configuration) (who : Who) (x : Event) (d : Configuration) → Reduces w c who x d
    → (i : ℕ) × (s : State) × (c.nodes who ≡ Some s) × Does c who (act_of w who s i) d × (event_of c (wants w who s i) ≡ x)
step-is w c who x d (i, r) = go (c.nodes who) refl r
  where
    go : (o : Option State) → c.nodes who ≡ o → reduce_state w c who i o ≡ Some (x, d) → (i : ℕ) × (s : State) × (c.nodes who ≡ Some s) × Does c who (act_of w who s i) d × (event_of c (wants w who s i) ≡ x)
    go None is f = absurd (cc f)
    go (Some s) is f =
        let (p, e) = inside (performs c who (act_of w who s i)) x d (event_of c (wants w who s i)) f in
        (i, s, is, does_of c who (act_of w who s i) d p, e)

-- Work

module _ (w : World) (c : Configuration) (p : Path) (r : Running) (i : ℕ) (d : Configuration) where
  -- if the command is Work, all that happens is that a call is spent
  abbrev OnlyWorks : Command → Type 0
  OnlyWorks a = a.kind ≡ k.Work → Does c (Process p) a.act d → d ≡ behind c p (Some (spent_more r))

  looked-up : {A : Type 0} (kind : Kind) (o : Option A) (f : A → Command) → ((a : A) → OnlyWorks (f a)) → OnlyWorks (with_found kind o f)
  looked-up kind None f h e z = absurd z
  looked-up kind (Some a) f h e z = h a e z

  evaluated : {A : Type 0} (kind : Kind) (end : Option End) (o : Answer A) (f : A → Command) → ((a : A) → OnlyWorks (f a)) → OnlyWorks (with_answer r kind end o f)
  evaluated kind end (Done a left) f h e z = h a e z
  evaluated kind end (Deep left) f h e z = absurd z
  evaluated kind end (Wrong left) f h e z = absurd z
  evaluated kind end More f h e z = z

  peeled : (o : Option Peel) → OnlyWorks (peels p r o)
  peeled None e z = absurd z
  peeled (Some q) e z = absurd (cc e)

  chosen : (o : Option (Name × Body)) → OnlyWorks (chooses r i o)
  chosen None e z = absurd z
  chosen (Some x) e z = looked-up _ (found x.0 r.ends) _ (λ a f y. absurd (cc f)) e z

  either : (t : Bool) (a e : Command) → OnlyWorks a → OnlyWorks e → OnlyWorks (if t then a else e)
  either true a e h g = h
  either false a e h g = g

  body-works : (body : Body) → OnlyWorks (next_command w p r i body)
  body-works (b.Then (b.Put at a x) rest) = looked-up _ (found x.name r.ends) _ (λ e. evaluated _ (Some e) (value_of w a r.variables r.spent) _ (λ v f z. absurd (cc f)))
  body-works (b.Then (b.Get at v x) rest) = looked-up _ (found x.name r.ends) _ (λ e f z. absurd (cc f))
  body-works (b.Then (b.Hput at y x) rest) = looked-up _ (found x.name r.ends) _ (λ e. looked-up _ (number_of w y.name) _ (λ n f z. absurd (cc f)))
  body-works (b.Then (b.Split at x y z) rest) = looked-up _ (found x.name r.ends) _ (λ e f u. absurd (cc f))
  body-works (b.Then (b.Close at x) rest) = looked-up _ (found x.name r.ends) _ (λ e f z. absurd (cc f))
  body-works (b.Halt at None) = λ f z. absurd (cc f)
  body-works (b.Halt at (Some x)) = looked-up _ (found x.name r.ends) _ (λ e f z. absurd (cc f))
  body-works (b.Hcase at x rows) = looked-up _ (found x.name r.ends) _ (λ e f z. absurd (cc f))
  body-works (b.Fork at x y left z right) = looked-up _ (found x.name r.ends) _ (λ e f u. absurd (cc f))
  body-works (b.Plug at links parts) = peeled (peel_of links (last_first links parts))
  body-works (b.Race at rows) = either (are_held rows r.ends) _ _ (chosen (branch_at rows i)) (λ f z. absurd z)
  body-works (b.Case at a rows) =
      evaluated _ None (value_of w a r.variables r.spent) _ (λ v.
      looked-up _ (first_match w (body_rows rows) _) _ (λ m. looked-up _ (row_at rows m.0) _ (λ body f z. absurd (cc f))))
  body-works (b.Identity at x negated y) = looked-up _ (found x r.ends) _ (λ e. looked-up _ (found y.name r.ends) _ (λ g f z. absurd (cc f)))
  body-works (b.Call at x args inputs outputs) =
      looked-up _ (process_named w x) _ (λ q.
      looked-up _ (both_ends (handed q.row.inputs inputs r.ends) (handed q.row.outputs outputs r.ends)) _ (λ es.
      evaluated _ None (values_of w args r.variables r.spent) _ (λ vs f z. absurd (cc f))))

  pub only-works : (term : Term) → OnlyWorks (term_command w p r i term)
  only-works (Doing body) = body-works body
  only-works (Plugging links parts) = peeled (peel_of links parts)

-- each reduction that is Work keeps a configuration lawful, whatever its command
pub keeps-work : (source : Program) (c d : Configuration) (p : Path) (x : Event) → Lawful source c → Reduces (world_of source) c (Process p) x d → x.kind ≡ k.Work → Lawful source d
keeps-work source c d p x l red e = go (step-is (world_of source) c (Process p) x d red)
  where
    go : ((i : ℕ) × (s : State) × (c.nodes (Process p) ≡ Some s) × Does c (Process p) (act_of (world_of source) (Process p) s i) d × (event_of c (wants (world_of source) (Process p) s i) ≡ x)) → Lawful source d
    go (i, Runs r, is, does, f) =
        let kind : (term_command (world_of source) p r i r.term).kind ≡ k.Work = ap (λ (z : Event). z.kind) f ∙ e in
        subst (Lawful source) (sym (only-works (world_of source) c p r i d r.term kind does)) (works source c p r l is)
    go (i, Serves s, is, does, f) = absurd does

-- Commands

quiet-body : (body : Body) → IsQuietBody body → Keeps body
quiet-body (b.Then (b.Put at a x) rest) q = absurd q
quiet-body (b.Then (b.Get at v x) rest) q = absurd q
quiet-body (b.Then (b.Hput at n x) rest) q = absurd q
quiet-body (b.Then (b.Split at x y z) rest) q = absurd q
quiet-body (b.Then (b.Close at x) rest) q = keeps-close at x rest
quiet-body (b.Halt at x) q = keeps-halt at x
quiet-body (b.Hcase at x rows) q = absurd q
quiet-body (b.Fork at x y left z right) q = absurd q
quiet-body (b.Plug at links parts) q = absurd q
quiet-body (b.Race at rows) q = keeps-race at rows
quiet-body (b.Case at a rows) q = keeps-case at a rows
quiet-body (b.Identity at x negated y) q = absurd q
quiet-body (b.Call at x args inputs outputs) q = keeps-call at x args inputs outputs

by-body : (body : Body) → Keeps body → (source : Program) (c d : Configuration) (p : Path) (r : Running) → Lawful source c → c.nodes (Process p) ≡ Some (Runs r) → r.term ≡ Doing body
    → (i : ℕ) → Does c (Process p) (term_command (world_of source) p r i r.term).act d → Lawful source d
by-body body keeps source c d p r l is t i does =
    keeps source c d p r i l is t (subst (λ z. Does c (Process p) (term_command (world_of source) p r i z).act d) t does)

-- each reduction of a process whose body begins with such a command keeps a configuration lawful
pub quiet-kept : (source : Program) (c d : Configuration) (p : Path) (r : Running) (body : Body) → Lawful source c → c.nodes (Process p) ≡ Some (Runs r) → r.term ≡ Doing body → IsQuietBody body
    → Goes (world_of source) c (Process p) d → Lawful source d
quiet-kept source c d p r body l is t q (x, red) = go (step-is (world_of source) c (Process p) x d red)
  where
    go : ((i : ℕ) × (s : State) × (c.nodes (Process p) ≡ Some s) × Does c (Process p) (act_of (world_of source) (Process p) s i) d × (event_of c (wants (world_of source) (Process p) s i) ≡ x)) → Lawful source d
    go (i, s, js, does, f) =
        let same : s ≡ Runs r = cc (sym js ∙ is) in
        by-body body (quiet-body body q) source c d p r l is t i (subst (λ z. Does c (Process p) (act_of (world_of source) (Process p) z i) d) same does)

-- All

each-body : OthersKeep → (body : Body) → Keeps body
each-body o (b.Then (b.Put at a x) rest) = o.put at a x rest
each-body o (b.Then (b.Get at v x) rest) = o.get at v x rest
each-body o (b.Then (b.Hput at n x) rest) = o.hput at n x rest
each-body o (b.Then (b.Split at x y z) rest) = o.split at x y z rest
each-body o (b.Then (b.Close at x) rest) = keeps-close at x rest
each-body o (b.Halt at x) = keeps-halt at x
each-body o (b.Hcase at x rows) = o.hcase at x rows
each-body o (b.Fork at x y left z right) = o.fork at x y left z right
each-body o (b.Plug at links parts) = o.plug at links parts
each-body o (b.Race at rows) = keeps-race at rows
each-body o (b.Case at a rows) = keeps-case at a rows
each-body o (b.Identity at x negated y) = o.identity at x negated y
each-body o (b.Call at x args inputs outputs) = keeps-call at x args inputs outputs

-- lawfulness is kept, if the steps that change channels keep it
pub kept : OthersKeep → (source : Program) → IsKept source
kept o source = record { begins = λ scripts accepted. begins source scripts accepted; goes_on = λ c d who l (x, red). go c d who l x (step-is (world_of source) c who x d red) }
  where
    process : (c d : Configuration) (p : Path) (r : Running) → Lawful source c → c.nodes (Process p) ≡ Some (Runs r) → (i : ℕ) → (term : Term) → r.term ≡ term
        → Does c (Process p) (term_command (world_of source) p r i term).act d → Lawful source d
    process c d p r l is i (Doing body) t does = each-body o body source c d p r i l is t does
    process c d p r l is i (Plugging links parts) t does = o.plugging source c d p r links parts l is t does

    go : (c d : Configuration) (who : Who) → Lawful source c → (x : Event)
        → ((i : ℕ) × (s : State) × (c.nodes who ≡ Some s) × Does c who (act_of (world_of source) who s i) d × (event_of c (wants (world_of source) who s i) ≡ x)) → Lawful source d
    go c d (Process p) l x (i, Runs r, is, does, f) = process c d p r l is i r.term refl does
    go c d (Process p) l x (i, Serves s, is, does, f) = absurd does
    go c d (Service n) l x (i, Serves s, is, does, f) = o.service source c d n s l is does
    go c d (Service n) l x (i, Runs r, is, does, f) = absurd does
