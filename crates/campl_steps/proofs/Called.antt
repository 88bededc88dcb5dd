-- A call changes nothing but its process, which holds the same ends.
use Rattle.std.proofs.Common.{◌≡◌, ◌≤◌, ℕ, suc, ◌+◌, ◌/◌, true, [], Option, Some, None, IfSome, length, refl, sym, ap, subst, ◌∙◌, arith, true≢false}
use Rattle.campl_meaning.specs.States as k
use Rattle.campl_code.specs.Instructions.{Code}
use Rattle.campl_code_bodies.specs.Kept.{Kept, Values, AtCall, Broken}
use Rattle.campl_cells.specs.Parts.{Life, Ended, Held, Runs, Serves, Parts, Proc, Tip, put}
use Rattle.campl_cells.specs.Stands.{IsEnd, LifeWithin, Wired}
use Rattle.campl_cells.specs.Wants.{Drawn, Spends, kept_want, quiet, wanted}
use Rattle.campl_cells.specs.Steps as steps
use Rattle.campl_cells.specs.Steps.{Change, IsChildOf, Steps, after, by_want, goes_on, moved}
use Rattle.campl_cells.proofs.Puts.{if-here, put-both}
use Rattle.campl_parts.specs.Tables.{procs}
use Rattle.campl_parts.specs.Views.{entry_of}
use Rattle.campl_steps.specs.declared.config.Config.{Config}
use Rattle.campl_steps.specs.declared.made.Made.{Made}
use Rattle.campl_steps.specs.Configs.{IsMade, IsSame, drawn, more, parts as parts_in}
use Rattle.campl_steps.specs.Works.{Calls, HasCalled, is_at_call, is_call, is_calling, work}

-- what a call changes
abbrev spends : (ℕ → Option Tip) → Drawn → (p : ℕ) → Held → Change
spends tip d p h = moved tip d p k.Work None (record { send = None; channels = []; child = None; next = Spends h })

call-wanted : (code : Code) (d : Drawn) (h : Held) (i : ℕ) (kept : Kept) → is_call kept ≡ true → kept_want code d h i kept ≡ quiet k.Work None (Spends h)
call-wanted code d h i (AtCall f fs) e = refl
call-wanted code d h i (Values at vars values) e = absurd (true≢false (sym e))
call-wanted code d h i Broken e = absurd (true≢false (sym e))

-- one who stands before a call
record IsCall (tip : ℕ → Option Tip) (d : Drawn) (p : ℕ) (life : Life) (change : Change) : Type 0 where
  held : Held
  runs : life ≡ Runs held
  is : change ≡ spends tip d p held

is-call : (code : Code) (tip : ℕ → Option Tip) (d : Drawn) (p i : ℕ) (life : Life) (change : Change) → is_calling life ≡ true → by_want tip d p (wanted code d life i) ≡ Some change → IsCall tip d p life change
is-call code tip d p i Ended change t e = absurd (true≢false (sym t))
is-call code tip d p i (Serves x s) change t e = absurd (true≢false (sym t))
is-call code tip d p i (Runs h) change t e =
    let both : Some (spends tip d p h) ≡ Some change = sym (ap (by_want tip d p) (call-wanted code d h i h.kept t)) ∙ e in
    record { held = h; runs = refl; is = (let z : spends tip d p h ≡ change = cc both in sym z) }

no-child : (code : Code) (child : Option Life) → IsChildOf code None child → child ≡ None
no-child code None h = refl
no-child code (Some life) h = absurd h

-- what a call leaves
pub record AfterCall (p : ℕ) (entry : steps.Entry) (m m2 : Parts) : Type 0 where
  pub entry_is : entry ≡ work p 1
  pub tip : m2.tip ≡ m.tip
  pub wired : Wired m → Wired m2

-- a process holds the same ends
still-wired : (m : Parts) (p : ℕ) (q : Proc) (h : Held) (kept : Kept) (life : Life) → m.process p ≡ Some q → q.life ≡ Runs h → life ≡ Runs (record { block = h.block; ends = h.ends; kept = kept }) →
    Wired m → Wired (record { process = put p (Some (goes_on q life)) m.process; tip = m.tip })
still-wired m p q h kept life there runs is w = record {
  peers = w.peers;
  held = λ j. put-both (λ z (o : Option Proc). IfSome o (λ x. LifeWithin (IsEnd m.tip) x.life)) p (Some (goes_on q life)) m.process j own (λ n. w.held j);
  carried = w.carried;
}
  where
    own : LifeWithin (IsEnd m.tip) life
    own = subst (LifeWithin (IsEnd m.tip)) (sym is) (subst (LifeWithin (IsEnd m.tip)) runs (if-here (λ x. LifeWithin (IsEnd m.tip) x.life) (m.process p) q there (w.held p)))

pub after-call : (code : Code) (d : Drawn) (m : Parts) (p i : ℕ) (entry : steps.Entry) (m2 : Parts) → is_at_call (m.process p) ≡ true → Steps code d m p i entry m2 → AfterCall p entry m m2
after-call code d m p i entry m2 t s = go (is-call code m.tip d p i s.process.life s.change calling s.changes)
  where
    calling : is_calling s.process.life ≡ true
    calling = subst (λ (o : Option Proc). is_at_call o ≡ true) s.there t

    go : IsCall m.tip d p s.process.life s.change → AfterCall p entry m m2
    go c =
        let lives : (kept : Kept) × (s.life ≡ Runs (record { block = c.held.block; ends = c.held.ends; kept = kept })) × steps.KeptAfter code c.held.kept kept =
        subst (λ (x : Change). steps.IsLifeOf code x.next s.life) c.is s.lives in
        let alone : s.child ≡ None = no-child code s.child (subst (λ (x : Change). IsChildOf code x.child s.child) c.is s.bears) in
        let to : m2 ≡ record { process = put p (Some (goes_on s.process s.life)) m.process; tip = m.tip } =
        s.parts ∙ (λ j. after d m p s.process (c.is j) s.life (alone j)) in
        record {
          entry_is = s.named ∙ ap (λ (x : Change). x.entry) c.is;
          tip = ap (λ (x : Parts). x.tip) to;
          wired = λ w. subst Wired (sym to) (still-wired m p s.process c.held lives.0 s.life s.there c.runs lives.1 w);
        }

-- one call
pub called-once : (code : Code) (p i : ℕ) (old : Config) (made : Made) (new : Config) → Wired (parts_in old) → is_at_call (procs old.processes.items p) ≡ true → IsMade code p i old made new →
    HasCalled code p i 1 old new 1
called-once code p i old made new w t s =
    let a = after-call code (drawn old) (parts_in old) p i (entry_of made.entry) (parts_in new) t s.steps in
    record {
      few = omega arith;
      made = (parts_in old, refl, subst (λ e. Steps code (drawn old) (parts_in old) p i e (parts_in new)) a.entry_is s.steps);
      tip = a.tip;
      processes = s.processes ∙ ap (λ (e : steps.Entry). length old.processes.items + more e.child 1) a.entry_is ∙ omega arith;
      ends = s.ends ∙ ap (λ (e : steps.Entry). length old.ends.items + (more e.channel 2 + more e.channel2 2)) a.entry_is ∙ omega arith;
      wired = a.wired w;
    }

-- one more call
pub called-more : (code : Code) (p i most n : ℕ) (old mid new : Config) → n + 1 ≤ most → HasCalled code p i most old mid n → HasCalled code p i 1 mid new 1 → HasCalled code p i most old new (suc n)
called-more code p i most n old mid new few a b =
    let (m, same, s) = b.made in
    let same_drawn : drawn mid ≡ drawn old = λ j. record { child = a.processes j; channel = a.ends j / 2; channel2 = a.ends j / 2 + 1 } in
    record {
      few = omega (arith, few);
      made = (parts_in mid, a.made, subst (λ (d : Drawn). Steps code d (parts_in mid) p i (work p 1) (parts_in new)) same_drawn (subst (λ (x : Parts). Steps code (drawn mid) x p i (work p 1) (parts_in new)) same s));
      tip = b.tip ∙ a.tip;
      processes = b.processes ∙ a.processes;
      ends = b.ends ∙ a.ends;
      wired = b.wired;
    }

-- none yet
pub called-none : (code : Code) (p i most : ℕ) (old : Config) → Wired (parts_in old) → HasCalled code p i most old old 0
called-none code p i most old w = record {
  few = omega arith;
  made = refl;
  tip = refl;
  processes = refl;
  ends = refl;
  wired = w;
}

-- where nothing has changed since then
pub called-still : (code : Code) (p i most n : ℕ) (old mid new : Config) → HasCalled code p i most old mid n → IsSame mid new → HasCalled code p i most old new n
called-still code p i most n old mid new a s = record {
  few = a.few;
  made = subst (λ (m : Parts). Calls code (drawn old) p i n (parts_in old) m) (sym s.parts) a.made;
  tip = ap (λ (m : Parts). m.tip) s.parts ∙ a.tip;
  processes = s.processes ∙ a.processes;
  ends = s.ends ∙ a.ends;
  wired = subst Wired (sym s.parts) a.wired;
}
