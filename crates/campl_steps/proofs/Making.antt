-- What was made ready and applied is the step of the definitions.
use Rattle.std.proofs.Common.{◌≡◌, ◌≢◌, ◌<◌, inl, inr, ℕ, ◌+◌, ◌*◌, Bool, true, false, List, [], ◌∷◌, ◌++◌, Option, Some, None, drop, length, option_map, if◌then◌else◌, eqb, ne_eqb, refl, sym, ap, ◌∙◌, arith}
use Rattle.campl_machine.specs.Machine.{Lies}
use Rattle.campl_meaning.specs.States.{Kind}
use Rattle.campl_code.specs.Instructions.{Code}
use Rattle.campl_cells.specs.Parts.{Life, Mail, Proc, Tip, written}
use Rattle.campl_cells.specs.Wants.{Drawn, Next, Start, wanted}
use Rattle.campl_cells.specs.Steps as steps
use Rattle.campl_cells.specs.Steps.{Change, IsChildOf, IsLifeOf, borne, by_want, change_of, child_number, first_of, linked, links_at, looked, looks_in, moved, peopled, second_of, sent, tips_joined}
use Rattle.campl_cells.proofs.Alike.{FewChannels}
use Rattle.campl_cells.proofs.Puts.{written-else}
use Rattle.campl_parts.specs.declared.part.Life as parts
use Rattle.campl_parts.specs.Plans.{IsFit}
use Rattle.campl_parts.specs.Tables.{procs, tips}
use Rattle.campl_parts.specs.Views.{entry_of, life_of}
use Rattle.campl_steps.specs.declared.config.Config.{Config}
use Rattle.campl_steps.specs.declared.made.Made.{Made}
use Rattle.campl_steps.specs.declared.plan.Borne.{Borne}
use Rattle.campl_steps.specs.declared.plan.Borne.TheVariants as b
use Rattle.campl_steps.specs.Configs.{IsAmong, IsMade, changed_ends, drawn, more}
use Rattle.campl_steps.specs.Doing.{owners}
use Rattle.campl_steps.specs.Readiness.{borne_channels, count_of, first_at}
use Rattle.campl_steps.proofs.Swapped.{none-born}

-- any change that the tables show
pub made-by : (code : Code) (p i : ℕ) (old new : Config) (q : Proc) → procs old.processes.items p ≡ Some q → (change : Change) (life : Life) (child : Option Life) (made : Made) →
    by_want (tips old.ends.items) (drawn old) p (wanted code (drawn old) q.life i) ≡ Some change → entry_of made.entry ≡ change.entry →
    IsLifeOf code change.next life → IsChildOf code change.child child →
    procs new.processes.items ≡ written (peopled (drawn old) p q life child) (procs old.processes.items) →
    tips new.ends.items ≡ written change.ends (tips old.ends.items) →
    length new.processes.items ≡ length old.processes.items + more change.entry.child 1 →
    length new.ends.items ≡ length old.ends.items + (more change.entry.channel 2 + more change.entry.channel2 2) →
    ((j : ℕ) → j < length old.ends.items → (IsAmong (changed_ends made.changed) j → ⊥) → Lies change.ends j → ⊥) →
    IsMade code p i old made new
made-by code p i old new q there change life child made changes named lives bears people ends count count2 none = record {
  steps = record {
    process = q;
    there = there;
    change = change;
    changes = changes;
    named = named;
    life = life;
    child = child;
    lives = lives;
    bears = bears;
    parts = λ i. record { process = people i; tip = ends i };
  };
  changed = λ j h n. ap (λ (f : ℕ → Option Tip). f j) ends ∙ written-else change.ends (tips old.ends.items) j (λ l. none j h n l);
  processes = count ∙ ap (λ (e : steps.Entry). length old.processes.items + more e.child 1) (sym named);
  ends = count2 ∙ ap (λ (e : steps.Entry). length old.ends.items + (more e.channel 2 + more e.channel2 2)) (sym named);
}

-- Moves

pub few-are : (d : Drawn) (channels : List ℕ) (o : Borne) → FewChannels d channels → length channels ≡ count_of o → channels ≡ borne_channels d o
few-are d [] b.None f e = refl
few-are d [] b.One f e = absurd (let z : ⊥ = omega (arith, e) in z)
few-are d [] b.Two f e = absurd (let z : ⊥ = omega (arith, e) in z)
few-are d (c ∷ []) b.None f e = absurd (let z : ⊥ = omega (arith, e) in z)
few-are d (c ∷ []) b.One f e = λ i. f i ∷ []
few-are d (c ∷ []) b.Two f e = absurd (let z : ⊥ = omega (arith, e) in z)
few-are d (c ∷ c2 ∷ []) b.None f e = absurd (let z : ⊥ = omega (arith, e) in z)
few-are d (c ∷ c2 ∷ []) b.One f e = absurd (let z : ⊥ = omega (arith, e) in z)
few-are d (c ∷ c2 ∷ []) b.Two f e = λ i. f.0 i ∷ f.1 i ∷ []
few-are d (c ∷ c2 ∷ c3 ∷ cs) o f e = absurd f

pub child-told : (code : Code) (d : Drawn) (o : Option Start) (child : Option parts.Life) → IsChildOf code o (option_map life_of child) → option_map (λ (l : parts.Life). d.child) child ≡ child_number d o
child-told code d None None h = refl
child-told code d None (Some l) h = absurd h
child-told code d (Some s) None h = absurd h
child-told code d (Some s) (Some l) h = refl

pub child-counted : (code : Code) (d : Drawn) (o : Option Start) (child : Option parts.Life) → IsChildOf code o (option_map life_of child) → more (option_map life_of child) 1 ≡ more (child_number d o) 1
child-counted code d None None h = refl
child-counted code d None (Some l) h = absurd h
child-counted code d (Some s) None h = absurd h
child-counted code d (Some s) (Some l) h = refl

pub channels-counted : (d : Drawn) (o : Borne) → 2 * count_of o ≡ more (first_of (borne_channels d o)) 2 + more (second_of (borne_channels d o)) 2
channels-counted d b.None = refl
channels-counted d b.One = refl
channels-counted d b.Two = refl

-- only the end that gets the message changes, but for new ones
pub moved-else : (c : Config) (o : Borne) (send : Option (ℕ × Mail)) (j : ℕ) → j < length c.ends.items → (IsAmong (owners (tips c.ends.items) send) j → ⊥) →
    Lies (sent send (tips c.ends.items) ++ borne (borne_channels (drawn c) o)) j → ⊥
moved-else c o None j h n l = none-born c o j h l
moved-else c o (Some s) j h n (inl q) = n (inl q)
moved-else c o (Some s) j h n (inr l) = none-born c o j h l

-- Looks

pub fit-some : (code : Code) (o : Option Next) (life : parts.Life) → IsFit code o (Some life) → (next : Next) × (o ≡ Some next) × IsLifeOf code next (life_of life)
fit-some code None life h = absurd h
fit-some code (Some next) life h = (next, refl, h)

pub looks-changed : (p : ℕ) (kind : Kind) (takes : Bool) (e : ℕ) (f : Mail → Option Next) (peer : Option ℕ) (inbox : List Mail) (mail : Mail) (next : Next) →
    first_at peer inbox ≡ Some mail → f mail ≡ Some next → looks_in p kind takes e f peer inbox ≡ Some (looked p kind takes e peer mail (drop 1 inbox) next)
looks-changed p kind takes e f None inbox mail next h g = absurd (let z : ⊥ = cc h in z)
looks-changed p kind takes e f (Some x) [] mail next h g = absurd (let z : ⊥ = cc h in z)
looks-changed p kind takes e f (Some x) (m ∷ rest) mail next h g =
    let s : m ≡ mail = cc h in
    ap (option_map (looked p kind takes e (Some x) m rest)) (ap f s ∙ g) ∙ (λ i. Some (looked p kind takes e (Some x) (s i) rest next))

pub looked-else : (takes : Bool) (e : ℕ) (t : Tip) (j : ℕ) → (IsAmong (if takes then e ∷ [] else []) j → ⊥) → Lies (if takes then (e, t) ∷ [] else []) j → ⊥
looked-else true e t j n (inl q) = n (inl q)
looked-else true e t j n (inr l) = l
looked-else false e t j n l = l

-- Identities

pub links-changed : (tip : ℕ → Option Tip) (p x y x2 y2 : ℕ) (o r : Option ℕ) → o ≡ Some x2 → r ≡ Some y2 → x ≢ y → x2 ≢ y → links_at tip p x y o r ≡ Some (linked tip p x y x2 y2)
links-changed tip p x y x2 y2 o r h g n m =
    (λ i. links_at tip p x y (h i) (g i))
    ∙ (ap (λ (t : Bool). if t then None else if eqb x2 y then None else Some (linked tip p x y x2 y2)) (ne_eqb x y n)
    ∙ ap (λ (t : Bool). if t then None else Some (linked tip p x y x2 y2)) (ne_eqb x2 y m))

pub linked-else : (tip : ℕ → Option Tip) (x y x2 y2 j : ℕ) → (IsAmong (x ∷ y ∷ x2 ∷ y2 ∷ []) j → ⊥) → Lies (tips_joined tip x y x2 y2) j → ⊥
linked-else tip x y x2 y2 j n (inl q) = n (inr (inr (inr (inl q))))
linked-else tip x y x2 y2 j n (inr (inl q)) = n (inr (inr (inl q)))
linked-else tip x y x2 y2 j n (inr (inr (inl q))) = n (inr (inl q))
linked-else tip x y x2 y2 j n (inr (inr (inr (inl q)))) = n (inl q)
linked-else tip x y x2 y2 j n (inr (inr (inr (inr l)))) = l
