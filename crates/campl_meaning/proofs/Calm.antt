-- What has no race comes to none, and wants the same by every choice.
use Rattle.std.proofs.Common.{◌≡◌, ℕ, zero, suc, Bool, true, false, List, [], ◌∷◌, ◌++◌, refl, subst, Option, Some, None, if◌then◌else◌, option_map}
use Rattle.campl_tree.specs.Plain.Process as b
use Rattle.campl_tree.specs.Plain.Process.{Body, HcaseRows, CaseRows, Parts, Header}
use Rattle.campl_machine.specs.Names.{Path, End, Who, Process, Service}
use Rattle.campl_machine.specs.Machine.{Does}
use Rattle.campl_types.specs.Names.{found}
use Rattle.campl_types.specs.World.{World, process_named}
use Rattle.campl_types.specs.Matching.{first_match, number_of, is_number, row_picked}
use Rattle.campl_types.specs.Linear.{body_rows}
use Rattle.campl_service.specs.declared.phase.Want.{Want}
use Rattle.campl_service.specs.declared.phase.Want.TheVariants as want
use Rattle.campl_service.specs.Services.{Action, action}
use Rattle.campl_service.specs.Services as services
use Rattle.campl_evaluation.specs.Evaluation.{Answer, Done, Deep, Wrong, More, value_of, values_of}
use Rattle.campl_peel.specs.Numbered.{part_at, add_part, picked, last_first}
use Rattle.campl_peel.specs.Plugging.{links_to}
use Rattle.campl_peel.specs.Peel.{Peel, peel_of, peel_by}
use Rattle.campl_peel.specs.Terms.{Term, Doing, Plugging, left, left_behind}
use Rattle.campl_meaning.specs.States.{Message, Word, Pick, EndPair, Ends, Running, Attending, State, Runs, Serves, Kind, Command}
use Rattle.campl_meaning.specs.Bodies.{row_at, handed, both_ends, bind, without_end}
use Rattle.campl_meaning.specs.Wants.{with_found, with_answer, peels, next_command, term_command, on_word, on_pick, on_ends, onward, served, says, serving_command, wants}
use Rattle.campl_meaning.specs.Reductions.{Configuration, act_of}
use Rattle.campl_meaning.specs.Races.{HasNoRace, RowsHaveNoRace, CasesHaveNoRace, PartsHaveNoRace, WorldHasNoRace, TermHasNoRace, StateHasNoRace, IsWithoutRace}
use Rattle.std.specs.Prelude.{codes}
use Rattle.campl_tree.specs.Plain.Decl.{ProcessDecl}
use Rattle.campl_tree.specs.declared.service.ServiceName.{ServiceName}
use Rattle.campl_service.specs.Scripts.{Lines}
use Rattle.campl_types.specs.Run.{services_of}
use Rattle.campl_meaning.specs.Start.{start, running, holding, attending}
use Rattle.campl_meaning.proofs.Nodes.{AllNext, EachWritten, all-kept, all-written}

abbrev Calm : Who → State → Type 0
Calm who s = StateHasNoRace s

-- what holds of one of two equal ones
inside : {A : Type 0} (P : A → Type 0) (x y : A) → ◌≡◌ {A = Option A} (Some x) (Some y) → P x → P y
inside P x y i h = let q : x ≡ y = cc i in subst P q h

-- Parts of bodies

picked-row : (w : World) (n : ℕ) (rows : HcaseRows) (body : Body) → RowsHaveNoRace rows → row_picked w n rows ≡ Some body → HasNoRace body
picked-row w n b.no_hcase_rows body h i = absurd (cc i)
picked-row w n (b.hcase_row_then k first rows) body (h, hs) i = go (is_number (number_of w k.name) n) (picked-row w n rows body hs) i
  where
    go : (t : Bool) → (row_picked w n rows ≡ Some body → HasNoRace body) → (if t then Some first else row_picked w n rows) ≡ Some body → HasNoRace body
    go true later j = inside HasNoRace _ _ j h
    go false later j = later j

case-row : (rows : CaseRows) (n : ℕ) (body : Body) → CasesHaveNoRace rows → row_at rows n ≡ Some body → HasNoRace body
case-row b.no_case_rows n body h i = absurd (cc i)
case-row (b.case_row_then p first rows) zero body (h, hs) i = inside HasNoRace _ _ i h
case-row (b.case_row_then p first rows) (suc n) body (h, hs) i = case-row rows n body hs i

abbrev OneHasNone : Option (Header × Body) → Type 0
OneHasNone None = Unit {0}
OneHasNone (Some p) = HasNoRace p.1

part-at : (parts : Parts) (n : ℕ) → PartsHaveNoRace parts → OneHasNone (part_at parts n)
part-at b.no_parts n h = tt
part-at (b.part_then header body parts) zero h = tt
part-at (b.part_then header body parts) (suc zero) (h, hs) = h
part-at (b.part_then header body parts) (suc (suc n)) (h, hs) = part-at parts (suc n) hs

added : (p : Option (Header × Body)) (parts : Parts) → OneHasNone p → PartsHaveNoRace parts → PartsHaveNoRace (add_part p parts)
added None parts h hs = hs
added (Some p) parts h hs = (h, hs)

picked-parts : (parts : Parts) (ns : List ℕ) → PartsHaveNoRace parts → PartsHaveNoRace (picked parts ns)
picked-parts parts [] h = tt
picked-parts parts (n ∷ ns) h = added (part_at parts n) (picked parts ns) (part-at parts n h) (picked-parts parts ns h)

left-calm : (links : List b.Link) (parts : Parts) → PartsHaveNoRace parts → TermHasNoRace (left links parts)
left-calm links b.no_parts h = tt
left-calm links (b.part_then header body b.no_parts) (h, hs) = h
left-calm links (b.part_then header body (b.part_then g c parts)) h = h

-- a part that is peeled, and what is left
abbrev PeelHasNone : Option Peel → Type 0
PeelHasNone None = Unit {0}
PeelHasNone (Some q) = HasNoRace q.body × TermHasNoRace (left_behind q)

peel-by : (header : Header) (body : Body) (links : List b.Link) (parts : Parts) (found : List b.Link) → HasNoRace body → PartsHaveNoRace parts → PeelHasNone (peel_by header body links parts found)
peel-by header body links parts [] h hs = tt
peel-by header body links parts (l ∷ more) h hs = (h, left-calm _ parts hs)

peel-calm : (links : List b.Link) (parts : Parts) → PartsHaveNoRace parts → PeelHasNone (peel_of links parts)
peel-calm links b.no_parts h = tt
peel-calm links (b.part_then header body b.no_parts) h = tt
peel-calm links (b.part_then header body (b.part_then g c parts)) (h, hs) =
    peel-by header body links (b.part_then g c parts) (links_to (b.part_then g c parts) header links) h hs

-- Steps

module _ (p : Path) (r : Running) (calm : TermHasNoRace r.term) where
  looked-up : {A : Type 0} (kind : Kind) (o : Option A) (f : A → Command) → ((a : A) → o ≡ Some a → AllNext Calm (Process p) (f a).act) → AllNext Calm (Process p) (with_found kind o f).act
  looked-up kind None f h = tt
  looked-up kind (Some a) f h = h a refl

  evaluated : {A : Type 0} (kind : Kind) (end : Option End) (o : Answer A) (f : A → Command) → ((a : A) → AllNext Calm (Process p) (f a).act) → AllNext Calm (Process p) (with_answer r kind end o f).act
  evaluated kind end (Done a rest) f h = h a
  evaluated kind end (Deep rest) f h = tt
  evaluated kind end (Wrong rest) f h = tt
  evaluated kind end More f h = ((λ s i. inside StateHasNoRace _ _ i calm), tt)

  peeled : (o : Option Peel) → PeelHasNone o → AllNext Calm (Process p) (peels p r o).act
  peeled None h = tt
  peeled (Some q) (h, k) = ((λ s i. inside StateHasNoRace _ _ i k), (h, tt))

  body-calm : (w : World) → WorldHasNoRace w → (i : ℕ) (body : Body) → HasNoRace body → AllNext Calm (Process p) (next_command w p r i body).act
  body-calm w ww i (b.Then (b.Put at a x) rest) h =
      looked-up _ (found x.name r.ends) _ (λ e is. evaluated _ (Some e) (value_of w a r.variables r.spent) _ (λ v. ((λ s j. inside StateHasNoRace _ _ j h), tt)))
  body-calm w ww i (b.Then (b.Get at v x) rest) h = looked-up _ (found x.name r.ends) _ (λ e is. go)
    where
      go : (m : Message) (s : State) → on_word (λ u. Some (onward r (Doing rest) (bind v u r.variables) r.ends)) m ≡ Some s → StateHasNoRace s
      go (Word u) s j = inside StateHasNoRace _ _ j h
      go (Pick n) s j = absurd (cc j)
      go (EndPair f g) s j = absurd (cc j)
  body-calm w ww i (b.Then (b.Hput at c x) rest) h =
      looked-up _ (found x.name r.ends) _ (λ e is. looked-up _ (number_of w c.name) _ (λ n js. ((λ s j. inside StateHasNoRace _ _ j h), tt)))
  body-calm w ww i (b.Then (b.Split at x y z) rest) h = looked-up _ (found x.name r.ends) _ (λ e is. λ m s j. go m s j)
    where
      go : (m : Message) (s : State) → on_ends (λ f g. Some (onward r (Doing rest) r.variables ((z.name, g) ∷ (y.name, f) ∷ without_end x.name r.ends))) m ≡ Some s → StateHasNoRace s
      go (Word u) s j = absurd (cc j)
      go (Pick n) s j = absurd (cc j)
      go (EndPair f g) s j = inside StateHasNoRace _ _ j h
  body-calm w ww i (b.Then (b.Close at x) rest) h = looked-up _ (found x.name r.ends) _ (λ e is. ((λ s j. inside StateHasNoRace _ _ j h), tt))
  body-calm w ww i (b.Halt at None) h = ((λ s j. absurd (cc j)), tt)
  body-calm w ww i (b.Halt at (Some x)) h = looked-up _ (found x.name r.ends) _ (λ e is. ((λ s j. absurd (cc j)), tt))
  body-calm w ww i (b.Hcase at x rows) h = looked-up _ (found x.name r.ends) _ (λ e is. λ m s j. go m s j)
    where
      row : (o : Option Body) (s : State) → ((body : Body) → o ≡ Some body → HasNoRace body) → option_map (λ body. onward r (Doing body) r.variables r.ends) o ≡ Some s → StateHasNoRace s
      row None s k j = absurd (cc j)
      row (Some body) s k j = inside StateHasNoRace _ _ j (k body refl)

      go : (m : Message) (s : State) → on_pick (λ n. option_map (λ body. onward r (Doing body) r.variables r.ends) (row_picked w n rows)) m ≡ Some s → StateHasNoRace s
      go (Word u) s j = absurd (cc j)
      go (Pick n) s j = row (row_picked w n rows) s (λ body k. picked-row w n rows body h k) j
      go (EndPair f g) s j = absurd (cc j)
  body-calm w ww i (b.Fork at x y one z two) (h, k) = looked-up _ (found x.name r.ends) _ (λ e is. ((λ s j. inside StateHasNoRace _ _ j h), (k, tt)))
  body-calm w ww i (b.Plug at links parts) h = peeled (peel_of links (last_first links parts)) (peel-calm links (last_first links parts) (picked-parts parts _ h))
  body-calm w ww i (b.Race at rows) h = absurd h
  body-calm w ww i (b.Case at a rows) h =
      evaluated _ None (value_of w a r.variables r.spent) _ (λ v.
      looked-up _ (first_match w (body_rows rows) (v ∷ [])) _ (λ m is. looked-up _ (row_at rows m.0) _ (λ body js.
      ((λ s j. inside StateHasNoRace _ _ j (case-row rows m.0 body h js)), tt))))
  body-calm w ww i (b.Identity at x negated y) h =
      looked-up _ (found x r.ends) _ (λ e is. looked-up _ (found y.name r.ends) _ (λ f js. tt))
  body-calm w ww i (b.Call at x args inputs outputs) h =
      looked-up _ (process_named w x) _ (λ d is.
      looked-up _ (both_ends (handed d.row.inputs inputs r.ends) (handed d.row.outputs outputs r.ends)) _ (λ es js.
      evaluated _ None (values_of w args r.variables r.spent) _ (λ vs. ((λ s j. inside StateHasNoRace _ _ j (ww x d is)), tt))))

  term-calm : (w : World) → WorldHasNoRace w → (i : ℕ) (term : Term) → TermHasNoRace term → AllNext Calm (Process p) (term_command w p r i term).act
  term-calm w ww i (Doing body) h = body-calm w ww i body h
  term-calm w ww i (Plugging links parts) h = peeled (peel_of links parts) (peel-calm links parts h)

-- a service stays one
served-calm : (s : Attending) (o : Option Action) (t : State) → option_map (served s.end) o ≡ Some t → StateHasNoRace t
served-calm s None t i = absurd (cc i)
served-calm s (Some a) t i = inside StateHasNoRace _ _ i tt

says-calm : (n : ℕ) (e : End) (o : Option Action) → AllNext Calm (Service n) (says e o)
says-calm n e None = tt
says-calm n e (Some a) = ((λ t i. inside StateHasNoRace _ _ i tt), tt)

service-calm : (n : ℕ) (s : Attending) (x : Want) → AllNext Calm (Service n) (serving_command s x).act
service-calm n s want.Pick = λ m t i. served-calm s _ t i
service-calm n s want.Text = λ m t i. served-calm s _ t i
service-calm n s want.Send = says-calm n s.end (action s.serving None)
service-calm n s want.Spent = tt
service-calm n s want.Closed = tt

act-calm : (w : World) → WorldHasNoRace w → (who : Who) (s : State) (i : ℕ) → StateHasNoRace s → AllNext Calm who (act_of w who s i)
act-calm w ww (Process p) (Runs r) i h = term-calm p r h w ww i r.term h
act-calm w ww (Service n) (Serves s) i h = service-calm n s (services.want s.serving)
act-calm w ww (Process p) (Serves s) i h = tt
act-calm w ww (Service n) (Runs r) i h = tt

-- no step comes to a race
pub calm-kept : (w : World) → WorldHasNoRace w → (c d : Configuration) (who : Who) (s : State) (i : ℕ) → IsWithoutRace c → c.nodes who ≡ Some s → Does c who (act_of w who s i) d → IsWithoutRace d
calm-kept w ww c d who s i h is e = all-kept Calm c d who (act_of w who s i) h (act-calm w ww who s i (h who s is)) e

-- and the choice is nothing to it
one-choice-in : (w : World) (p : Path) (r : Running) (i : ℕ) (body : Body) → HasNoRace body → next_command w p r i body ≡ next_command w p r 0 body
one-choice-in w p r i (b.Then (b.Put at a x) rest) h = refl
one-choice-in w p r i (b.Then (b.Get at v x) rest) h = refl
one-choice-in w p r i (b.Then (b.Hput at c x) rest) h = refl
one-choice-in w p r i (b.Then (b.Split at x y z) rest) h = refl
one-choice-in w p r i (b.Then (b.Close at x) rest) h = refl
one-choice-in w p r i (b.Halt at None) h = refl
one-choice-in w p r i (b.Halt at (Some x)) h = refl
one-choice-in w p r i (b.Hcase at x rows) h = refl
one-choice-in w p r i (b.Fork at x y one z two) h = refl
one-choice-in w p r i (b.Plug at links parts) h = refl
one-choice-in w p r i (b.Race at rows) h = absurd h
one-choice-in w p r i (b.Case at a rows) h = refl
one-choice-in w p r i (b.Identity at x negated y) h = refl
one-choice-in w p r i (b.Call at x args inputs outputs) h = refl

one-choice-at : (w : World) (p : Path) (r : Running) (i : ℕ) (term : Term) → TermHasNoRace term → term_command w p r i term ≡ term_command w p r 0 term
one-choice-at w p r i (Doing body) h = one-choice-in w p r i body h
one-choice-at w p r i (Plugging links parts) h = refl

pub one-choice : (w : World) (who : Who) (s : State) (i : ℕ) → StateHasNoRace s → wants w who s i ≡ wants w who s 0
one-choice w (Process p) (Runs r) i h = one-choice-at w p r i r.term h
one-choice w (Service n) (Serves s) i h = refl
one-choice w (Process p) (Serves s) i h = refl
one-choice w (Service n) (Runs r) i h = refl

-- nor does the start
attending-calm : (n : ℕ) (xs : List ServiceName) (scripts : List Lines) → EachWritten Calm (attending n xs scripts)
attending-calm n [] scripts = tt
attending-calm n (x ∷ xs) scripts = ((λ s i. inside StateHasNoRace _ _ i tt), attending-calm (suc n) xs _)

start-written : (o : Option ProcessDecl) (ends : Ends) (more : List (Who × Option State)) → ((p : ProcessDecl) → o ≡ Some p → HasNoRace p.row.body) → EachWritten Calm more → EachWritten Calm (running o ends ++ more)
start-written None ends more h k = k
start-written (Some p) ends more h k = ((λ s i. inside StateHasNoRace _ _ i (h p refl)), k)

pub start-calm : (w : World) (scripts : List Lines) → WorldHasNoRace w → IsWithoutRace (start w scripts)
start-calm w scripts h who s i =
    all-written Calm (running (process_named w (codes "run")) (holding 0 (services_of w)) ++ attending 0 (services_of w) scripts)
    (start-written (process_named w (codes "run")) (holding 0 (services_of w)) (attending 0 (services_of w) scripts) (λ p j. h (codes "run") p j)
    (attending-calm 0 (services_of w) scripts)) who s i
