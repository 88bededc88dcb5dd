-- What comes to a step has one.
use Rattle.std.proofs.Common.{◌≡◌, ◌<◌, ℕ, zero, suc, true, List, [], ◌∷◌, Option, Some, None, Ok, drop, length, option_map, refl, sym, ap, subst, ◌∙◌, arith}
use Rattle.campl_value.specs.declared.message.Message.TheVariants.{Word}
use Rattle.campl_meaning.specs.States as k
use Rattle.campl_code.specs.Instructions.{Code}
use Rattle.campl_cells.specs.Parts.{Ended, Life, Parts, Proc, Serves, Tip, or_bare}
use Rattle.campl_cells.specs.Wants.{Attends, Drawn, hears, wanted}
use Rattle.campl_cells.specs.Steps.{Change, Entry, IsChildOf, IsLifeOf, Steps, after, by_want, change_of, linked, looked, moved}
use Rattle.campl_parts.specs.declared.part.ProcPart.{ProcPart}
use Rattle.campl_parts.specs.Tables.{procs, tips}
use Rattle.campl_parts.specs.Views.{kind_of, life_of, proc_of}
use Rattle.campl_steps.specs.declared.config.Config.{Config}
use Rattle.campl_steps.specs.declared.plan.Ready.{Ready}
use Rattle.campl_steps.specs.declared.plan.Ready.TheVariants as r
use Rattle.campl_steps.specs.Configs.{CanStep, drawn, parts as parts_in}
use Rattle.campl_steps.specs.Stepping.{ComesTo, is_step}
use Rattle.campl_steps.proofs.Attending.{acts, hears-some, says-line, says-sent}
use Rattle.campl_steps.proofs.Making.{fit-some, looks-changed, links-changed}

-- a number below their count has a process
pub there-is : (ps : List ProcPart) (i : ℕ) → i < length ps → (q : Proc) × (procs ps i ≡ Some q)
there-is [] i h = absurd (let z : ⊥ = omega (arith, h) in z)
there-is (x ∷ ps) zero h = (proc_of x, refl)
there-is (x ∷ ps) (suc i) h = there-is ps i (omega (arith, h))

module _ (code : Code) (p i : ℕ) (old : Config) where
  abbrev d : Drawn
  d = drawn old

  abbrev tip : ℕ → Option Tip
  tip = tips old.ends.items

  by : (q : Proc) → procs old.processes.items p ≡ Some q → (change : Change) → by_want tip d p (wanted code d q.life i) ≡ Some change → (life : Life) (child : Option Life) →
      IsLifeOf code change.next life → IsChildOf code change.child child → (entry : Entry) × (m2 : Parts) × Steps code d (parts_in old) p i entry m2
  by q there change is life child lives bears = (
    change.entry,
    after d (parts_in old) p q change life child,
    record {
      process = q;
      there = there;
      change = change;
      changes = is;
      named = refl;
      life = life;
      child = child;
      lives = lives;
      bears = bears;
      parts = refl;
    },
  )

  pub able : (ready : Ready) → ComesTo code p i old ready → CanStep code d (parts_in old) p i (Ok (is_step ready))
  able r.Still z = λ q h. let e : Some z.process ≡ Some q = sym z.there ∙ h in let same : z.process ≡ q = cc e in subst (λ x. change_of code d (parts_in old) p x i ≡ None) same (z.ready d p)
  able (r.Moves kind end borne told planned) z =
      by z.process z.there (moved tip d p (kind_of kind) end z.ready.0) (ap (by_want tip d p) z.ready.1) (life_of planned.next) (option_map life_of planned.child) z.ready.2.2 z.ready.2.1
  able (r.Looks kind takes end told next) z =
      let f = z.ready.0 in
      let mail = z.ready.1 in
      let fit = fit-some code (f mail) next z.ready.4 in
      let t = or_bare (tip end) in
      by z.process z.there (looked p (kind_of kind) takes end t.peer mail (drop 1 t.inbox) fit.0)
      (ap (by_want tip d p) z.ready.2 ∙ looks-changed p (kind_of kind) takes end f t.peer t.inbox mail fit.0 z.ready.3 fit.1) (life_of next) None fit.2 tt
  able (r.Links end second first_peer second_peer) z =
      by z.process z.there (linked tip p end second first_peer second_peer)
      (ap (by_want tip d p) z.ready.0 ∙ links-changed tip p end second first_peer second_peer (or_bare (tip end)).peer (or_bare (tip second)).peer z.ready.1 z.ready.2 z.ready.3 z.ready.4)
      Ended None refl tt
  able (r.Hears kind end told message) z =
      let s = z.ready.0 in
      let a = acts s (Some message) z.ready.3 in
      let t = or_bare (tip end) in
      by z.process z.there (looked p (kind_of kind) true end t.peer message (drop 1 t.inbox) (Attends end a.0.0))
      (ap (by_want tip d p) z.ready.1 ∙ looks-changed p (kind_of kind) true end (hears end s) t.peer t.inbox message (Attends end a.0.0) z.ready.2 (hears-some end s message a.0 a.1))
      (Serves end a.0.0) None refl tt
  able (r.Says end told) z =
      let line = says-line z.ready.0 z.ready.2 in
      by z.process z.there (moved tip d p k.ServeLine (Some end) (record { send = Some (end, Word line.line); channels = []; child = None; next = Attends end line.after }))
      (ap (by_want tip d p) (z.ready.1 ∙ says-sent end z.ready.0 line)) (Serves end line.after) None refl tt
