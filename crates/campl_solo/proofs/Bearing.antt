-- The child of a step has the name and number that the tables want.
use Rattle.std.proofs.Common.{◌≡◌, ◌≢◌, ◌≤◌, ◌<◌, ◌⊎◌, inl, inr, ℕ, ◌+◌, ◌/◌, ◌^◌, true, [], ◌∷◌, ◌++◌, Option, Some, None, length, option_map, refl, sym, ap, subst, ◌∙◌, arith}
use Rattle.std.proofs.lemmas.Option.{slice_get_past}
use Rattle.campl_machine.specs.Names.{Path, Process, Service, Who}
use Rattle.campl_types.specs.World.{World}
use Rattle.campl_meaning.specs.Reductions.{Configuration}
use Rattle.campl_service.specs.Services as services
use Rattle.campl_service.specs.declared.phase.Want as phase
use Rattle.campl_service.specs.declared.phase.Want.TheVariants as want
use Rattle.campl_code.specs.Instructions.{Code}
use Rattle.campl_cells.specs.Parts.{Ended, Held, Life, Parts, Proc, Runs, Serves, far, near}
use Rattle.campl_cells.specs.Wants as w
use Rattle.campl_cells.specs.Wants.{Drawn, Start, Want, wanted}
use Rattle.campl_cells.specs.Steps.{child_number}
use Rattle.campl_cells.specs.Stands.{IsFresh, IsNode, Naming}
use Rattle.campl_cells.specs.Runs.{Turn}
use Rattle.campl_cells.proofs.Puts.{if-here, is-there}
use Rattle.campl_cells_laws.specs.Sources.{Represents}
use Rattle.campl_turns.specs.Meaning.{Means}
use Rattle.campl_turns.proofs.Uses.{Tells, start_of, tells}
use Rattle.campl_parts.specs.Tables.{tips}
use Rattle.campl_parts.specs.Views.{entry_of, proc_of, tip_of}
use Rattle.campl_steps.specs.declared.config.Config.{Config}
use Rattle.campl_steps.specs.declared.made.Made.{Made}
use Rattle.campl_steps.specs.Configs.{IsMade, drawn, parts, steps_of}
use Rattle.campl_steps.proofs.Able.{there-is}
use Rattle.campl_steps.proofs.Swapped.{paired-ends}
use Rattle.campl_order.specs.declared.order.Rank.{Rank}
use Rattle.campl_order.specs.declared.schedule.Schedule.{Schedule}
use Rattle.campl_order.specs.Orders.{IsProcessRank, IsServiceRank, rank, service_depth}
use Rattle.campl_order.specs.Boards.{is_flagged}
use Rattle.campl_solo.specs.Fits.{CanBear, Fits, MayBear}

-- Numbers that are drawn aren't in use

pub fresh : (c : Config) → IsFresh (drawn c) (parts c)
fresh c =
    let even = paired-ends c in
    let no-tip : (k : ℕ) → length c.ends.items ≤ k → tips c.ends.items k ≡ None = (λ k l. ap (option_map tip_of) (slice_get_past c.ends.items k l)) in
    record {
      child = ap (option_map proc_of) (slice_get_past c.processes.items (length c.processes.items) (omega arith));
      near_end = no-tip (near (length c.ends.items / 2)) (omega (arith, even));
      far_end = no-tip (far (length c.ends.items / 2)) (omega (arith, even));
      near_end2 = no-tip (near (length c.ends.items / 2 + 1)) (omega (arith, even));
      far_end2 = no-tip (far (length c.ends.items / 2 + 1)) (omega (arith, even));
      two_channels = λ e. let f : ⊥ = omega (arith, e) in f;
    }

-- Who bears is a process

not-said : (e : ℕ) (o : Option services.Action) → start_of (w.says e o) ≡ None
not-said e None = refl
not-said e (Some a) = refl

not-served : (e : ℕ) (s : services.Serving) (o : phase.Want) → start_of (w.serving_want e s o) ≡ None
not-served e s want.Pick = refl
not-served e s want.Text = refl
not-served e s want.Send = not-said e (services.action s None)
not-served e s want.Spent = refl
not-served e s want.Closed = refl

bearer-runs : (code : Code) (d : Drawn) (i : ℕ) (life : Life) (k : ℕ) → child_number d (start_of (wanted code d life i)) ≡ Some k → (h : Held) × (life ≡ Runs h)
bearer-runs code d i Ended k e = absurd (cc e)
bearer-runs code d i (Runs h) k e = (h, refl)
bearer-runs code d i (Serves x s) k e = let f : None ≡ Some k = sym (ap (child_number d) (not-served x s (services.want s))) ∙ e in absurd (cc f)

runner-named : (w : World) (code : Code) (n : Naming) (m : Parts) (c : Configuration) → Represents w code n m c → (p : ℕ) (q : Proc) → m.process p ≡ Some q → (h : Held) → q.life ≡ Runs h → (path : Path) × (n.who p ≡ Process path)
runner-named w code n m c z p q there h e =
    let is = subst (λ life. IsNode code n.end (n.who p) q.steps life (z.between.nodes (n.who p))) e (if-here (λ q. IsNode code n.end (n.who p) q.steps q.life (z.between.nodes (n.who p))) (m.process p) q there (z.by_number.shows.process p)) in
    (is.path, is.process)

drawn-number : (d : Drawn) (o : Option Start) (k : ℕ) → child_number d o ≡ Some k → k ≡ d.child
drawn-number d None k e = absurd (cc e)
drawn-number d (Some s) k e = let f : d.child ≡ k = cc e in sym f

not-service : (names : ℕ → Who) (p count : ℕ) (r : Rank) (path : Path) → p < count → count < 2 ^ 32 → names p ≡ Process path → IsServiceRank r (names p) ⊎ IsProcessRank names p r (names p) → r.depth ≢ service_depth
not-service names p count r path l few named (inl s) e = let f : Service r.born ≡ Process path = sym s.1 ∙ named in let x : ⊥ = cc f in x
not-service names p count r path l few named (inr z) e = let h = z.shallow in let f : ⊥ = omega (arith, h, l, few, e) in f

module _ (w : World) (code : Code) (n : Naming) (old new : Config) (c : Configuration) (z : Represents w code n (parts old) c) (t : Turn) (made : Made)
    (is : IsMade code t.process t.branch old made new) (means : Means w code n (parts old) c t (entry_of made.entry) (parts new)) (s : Schedule)
    (fits : Fits code (parts old) n.who (length old.processes.items) (length old.ends.items) [] s) (up : is_flagged s.board.flags.items t.process ≡ true)
    (born : ℕ) (count : born ≡ steps_of ((parts new).process t.process)) where
  tell : Tells t.process (drawn old) (wanted code (drawn old) is.steps.process.life t.branch) is.steps.change
  tell = tells (tips old.ends.items) (drawn old) t.process (wanted code (drawn old) is.steps.process.life t.branch) is.steps.change is.steps.changes

  -- every entry weighs 1
  pub weighs-one : made.entry.weight ≡ 1
  weighs-one = ap (λ e. e.weight) is.steps.named ∙ tell.weight

  steps-told : (o : Option Proc) (q : Proc) → o ≡ Some q → steps_of o ≡ q.steps
  steps-told o q e = ap steps_of e

  child-borne : (k : ℕ) → made.entry.child ≡ Some k → CanBear means.naming.who t.process born s
  child-borne k e =
      let number : child_number (drawn old) is.steps.change.child ≡ Some k = sym tell.child ∙ (sym (ap (λ e. e.child) is.steps.named) ∙ e) in
      let runs = bearer-runs code (drawn old) t.branch is.steps.process.life k (ap (child_number (drawn old)) (sym tell.start) ∙ number) in
      let named = runner-named w code n (parts old) c z t.process is.steps.process is.steps.there runs.0 runs.1 in
      let inside = fits.scheduled.within.flagged t.process up in
      let at : k ≡ length old.processes.items = drawn-number (drawn old) is.steps.change.child k number in
      let ranks = fits.processes_are in
      let here : k ≡ length s.order.ranks.items = at ∙ sym ranks in
      let is-child = means.child k e in
      let own = there-is new.processes.items t.process (let m = is.processes in omega (arith, inside, ranks, m)) in
      record {
        there = inside;
        process = not-service n.who t.process (length s.order.ranks.items) (rank s.order.ranks.items t.process) named.0 inside fits.scheduled.ranked.few named.1 (fits.scheduled.ranked.each t.process inside);
        child = (
          (λ above is-named. ap means.naming.who (sym here) ∙ (is-child.named own.0 own.1 above is-named ∙ ap (λ i. Process (above ++ record { step = i; place = 1 } ∷ [])) (sym (count ∙ steps-told ((parts new).process t.process) own.0 own.1)))),
          (λ i l e.
              let other = there-is new.processes.items i (let m = is.processes in omega (arith, l, ranks, m)) in
              is-child.alone i (is-there ((parts new).process i) other.0 other.1) (λ q. let f : ⊥ = omega (arith, q, here, l) in f) (e ∙ ap means.naming.who (sym here))),
        );
      }

  pub may-bear : MayBear means.naming.who t.process born made.entry.child s
  may-bear = go made.entry.child refl
    where
      go : (o : Option ℕ) → made.entry.child ≡ o → MayBear means.naming.who t.process born o s
      go None e = tt
      go (Some k) e = child-borne k e
