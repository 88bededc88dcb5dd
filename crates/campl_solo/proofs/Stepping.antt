-- A run stands where it stood, or the first of its flagged has made a step.
use Rattle.std.proofs.Common.{◌≡◌, ◌≤◌, ◌<◌, inl, inr, ℕ, suc, true, false, List, [], Option, Some, None, IsSome, Ok, length, set, option_map, refl, sym, ap, subst, ◌∙◌, arith, true≢false}
use Rattle.std.proofs.lemmas.Option.{slice_get_past}
use Rattle.campl_machine.specs.Names.{Service, Who}
use Rattle.campl_tree.specs.Plain.Decl.{Program}
use Rattle.campl_types.specs.World.{World, world_of}
use Rattle.campl_types.specs.Run.{services_of}
use Rattle.campl_meaning.specs.Reductions.{Configuration}
use Rattle.campl_meaning.specs.Ends.{IsEnabled}
use Rattle.campl_code.specs.Instructions.{Code}
use Rattle.campl_cells.specs.Parts.{Parts}
use Rattle.campl_cells.specs.Steps.{IsStill, peopled}
use Rattle.campl_cells.specs.Stands.{Naming, Wired, named_entry}
use Rattle.campl_cells.specs.Runs.{Turn}
use Rattle.campl_cells.proofs.Puts.{is-there, split, written-keeps}
use Rattle.campl_cells_laws.specs.Sources.{Represents}
use Rattle.campl_turns.specs.Meaning.{Means}
use Rattle.campl_turns.specs.Turns.{IsFirstTurn, Rests, WaitsOn}
use Rattle.campl_turns.proofs.Alone.{lonely}
use Rattle.campl_turns.proofs.Along.{may-reduce, met-on}
use Rattle.campl_turns.proofs.Turning.{turns}
use Rattle.campl_parts.specs.declared.entry.Entry.{Entry}
use Rattle.campl_parts.specs.Tables.{procs}
use Rattle.campl_parts.specs.Views.{entry_of, proc_of}
use Rattle.campl_steps.specs.declared.config.Config.{Config}
use Rattle.campl_steps.specs.declared.made.Made.{Made}
use Rattle.campl_steps.specs.Configs.{CanStep, IsSame, changed_ends, drawn, parts, steps_of}
use Rattle.campl_steps.proofs.Able.{there-is}
use Rattle.campl_order.specs.declared.order.Rank.{Rank}
use Rattle.campl_order.specs.declared.schedule.Schedule.{Schedule}
use Rattle.campl_order.specs.Boards.{IsFirstFlagged, earlier, is_flagged}
use Rattle.campl_order.specs.Waiting.{HasRoom, IsScheduled, waiter}
use Rattle.campl_order.proofs.Alike.{scheduled-alike}
use Rattle.campl_solo.specs.declared.solo.Solo.{Solo}
use Rattle.campl_solo.specs.Asking.{HasTurned, IsFirst, LiesDown, flags_up}
use Rattle.campl_solo.specs.Fits.{HasFlagFor, Fits, Grown, HasWaited, MayBear}
use Rattle.campl_solo.specs.Solos.{AreTables, HasStepped, IsRun, Rest, Stays}
use Rattle.campl_solo.proofs.Bearing.{fresh, may-bear, weighs-one}
use Rattle.campl_solo.proofs.Drawing.{HasBranches, below, rests-all, rests-gone}
use Rattle.campl_solo.proofs.Flags.{fewer-up, same-up}
use Rattle.campl_solo.proofs.Growing.{grown-fits, tip-below, waits-there}
use Rattle.campl_solo.proofs.Resting.{rested}

pub fits-of : (code : Code) (n : Naming) (changed : List ℕ) (solo : Solo) → AreTables code n changed solo →
    Fits code (parts solo.config) n.who (length solo.config.processes.items) (length solo.config.ends.items) changed solo.schedule
fits-of code n changed solo t = record { scheduled = t.scheduled; processes_are = t.processes; ends_are = t.ends; keeps = t.keeps }

tables-of : (code : Code) (n : Naming) (changed : List ℕ) (solo : Solo) →
    Fits code (parts solo.config) n.who (length solo.config.processes.items) (length solo.config.ends.items) changed solo.schedule → AreTables code n changed solo
tables-of code n changed solo t = record { scheduled = t.scheduled; processes = t.processes_are; ends = t.ends_are; keeps = t.keeps }

-- the tables of a run
abbrev pub FitsAs : Code → Naming → Config → Schedule → Type 0
FitsAs code n config s = Fits code (parts config) n.who (length config.processes.items) (length config.ends.items) [] s

-- tables with more room
roomier : (code : Code) (n : Naming) (config : Config) (s s2 : Schedule) → FitsAs code n config s → (IsScheduled n.who s → IsScheduled n.who s2) → s2.order.ranks.items ≡ s.order.ranks.items →
    s2.waiting.items ≡ s.waiting.items → ((i : ℕ) → is_flagged s2.board.flags.items i ≡ is_flagged s.board.flags.items i) → FitsAs code n config s2
roomier code n config s s2 fits scheduled ranks waiting flags = record {
  scheduled = scheduled fits.scheduled;
  processes_are = ap (λ (l : List Rank). length l) ranks ∙ fits.processes_are;
  ends_are = ap (λ (l : List (Option ℕ)). length l) waiting ∙ fits.ends_are;
  keeps = record {
    stuck = λ i l h none. fits.keeps.stuck i l (sym (flags i) ∙ h) none;
    known = λ i l h e w. ap (λ (l : List (Option ℕ)). waiter l e) waiting ∙ fits.keeps.known i l (sym (flags i) ∙ h) e w;
  };
}

-- a configuration that is the same
same-fits : (code : Code) (n : Naming) (old new : Config) (s : Schedule) → IsSame old new → FitsAs code n old s → FitsAs code n new s
same-fits code n old new s same fits =
    subst (λ m. Fits code m n.who (length new.processes.items) (length new.ends.items) [] s) (sym same.parts)
    (subst (λ k. Fits code (parts old) n.who k (length new.ends.items) [] s) (sym same.processes)
    (subst (λ k. Fits code (parts old) n.who (length old.processes.items) k [] s) (sym same.ends) fits))

pub is-same : (config : Config) → IsSame config config
is-same config = record { parts = refl; processes = refl; ends = refl }

module _ (source : Program) (code : Code) (n : Naming) (c : Configuration) (old : Solo) (run : IsRun source code n c old) where
  abbrev w : World
  w = world_of source

  pub stays : (new : Solo) → IsSame old.config new.config → FitsAs code n old.config new.schedule → Stays source code n c old new
  stays new same fits = record {
    run = record {
      met = run.met;
      stands = run.stands;
      represents = subst (λ m. Represents w code n m c) (sym same.parts) run.represents;
      tables = tables-of code n [] new (same-fits code n old.config new.config new.schedule same fits);
      services = λ k l. subst (λ (m : Parts). IsSome (m.process (suc k)) × (n.who (suc k) ≡ Service k)) (sym same.parts) (run.services k l);
    };
    same = same.parts;
  }

  -- the tables with more room
  pub roomy : (s : Schedule) → (IsScheduled n.who old.schedule → IsScheduled n.who s) → s.order.ranks.items ≡ old.schedule.order.ranks.items → s.waiting.items ≡ old.schedule.waiting.items →
      ((i : ℕ) → is_flagged s.board.flags.items i ≡ is_flagged old.schedule.board.flags.items i) → FitsAs code n old.config s
  roomy s = roomier code n old.config old.schedule s (fits-of code n [] old run.tables)

  pub wired : Wired (parts old.config)
  wired = run.represents.by_number.wired

  -- where no flag is up nobody has a step
  pub all-rest : IsFirstFlagged (earlier n.who) old.schedule.board.flags.items None → Rest code old
  all-rest none p = elim (below p (length old.config.processes.items)) [
    | inl l ↦ run.tables.keeps.stuck p l (none p) (λ e a w. a)
    | inr g ↦ rests-gone code (parts old.config) p (ap (option_map proc_of) (slice_get_past old.config.processes.items p g))
  ]

  module _ (p : ℕ) (first : IsFirst n old p) where
    pub inside : p < length old.config.processes.items
    inside = let l = run.tables.scheduled.within.flagged p first.0 in let k = run.tables.processes in omega (arith, l, k)

    module _ (s : Schedule) (fits : FitsAs code n old.config s) (flags : (i : ℕ) → is_flagged s.board.flags.items i ≡ is_flagged old.schedule.board.flags.items i) where
      up : is_flagged s.board.flags.items p ≡ true
      up = flags p ∙ first.0

      -- it has no step
      pub lies-down : (new : Solo) → IsSame old.config new.config → (count : ℕ) → 1 ≤ count → HasBranches code (parts old.config) p count → ((i : ℕ) → i < count → IsStill code (drawn old.config) (parts old.config) p i) →
          (IsScheduled n.who s → IsScheduled n.who new.schedule) → new.schedule.order ≡ s.order → new.schedule.board.flags.items ≡ set s.board.flags.items p false →
          HasWaited code (parts new.config) p count s.waiting.items new.schedule.waiting.items → LiesDown source code n c old new
      lies-down new same count some branches still scheduled order lowered waited =
          let there = there-is old.config.processes.items p inside in
          let rests = rests-all code (parts old.config) p count some branches (drawn old.config) still in
          let within : (e : ℕ) → WaitsOn code (parts old.config) p e → e < length old.config.ends.items = (λ e x. tip-below old.config.ends.items e (waits-there code (parts old.config) wired p e x)) in
          let waited2 : HasWaited code (parts old.config) p count s.waiting.items new.schedule.waiting.items = subst (λ m. HasWaited code m p count s.waiting.items new.schedule.waiting.items) same.parts waited in
          record {
            stays = stays new same
                (rested code (parts old.config) n.who (length old.config.processes.items) (length old.config.ends.items) s new.schedule p count fits there.0 there.1 rests
                (lonely source code n (parts old.config) c run.met run.stands run.represents) within some branches scheduled order lowered waited2);
            fewer =
                let l = fewer-up s.board.flags.items p up in
                let k = ap flags_up lowered in
                let h = same-up old.schedule.board.flags.items s.board.flags.items flags in
                omega (arith, l, k, h);
          }

      module _ (new : Config) (made : Made) (turned : HasTurned code p old.config made new) where
        abbrev turn : Turn
        turn = record { process = p; branch = turned.branch; drawn = drawn old.config }

        first-turn : IsFirstTurn code n.who (parts old.config) turn (entry_of made.entry) (parts new)
        first-turn = record { fresh = fresh old.config; steps = turned.is.steps; first = before; ready = turned.first }
          where
            before : (j : ℕ) → earlier n.who j p ≡ true → Rests code (parts old.config) j
            before j h = elim (below j (length old.config.processes.items)) [
              | inl l ↦ elim (split (is_flagged old.schedule.board.flags.items j)) [
                | inl t ↦ absurd (true≢false (sym h ∙ first.1 j t))
                | inr f ↦ run.tables.keeps.stuck j l f (λ e a w. a)
              ]
              | inr g ↦ rests-gone code (parts old.config) j (ap (option_map proc_of) (slice_get_past old.config.processes.items j g))
            ]

        abbrev means : Means w code n (parts old.config) c turn (entry_of made.entry) (parts new)
        means = turns w code n (parts old.config) c run.stands run.represents turn (entry_of made.entry) (parts new) first-turn

        module _ (born : ℕ) (count : born ≡ steps_of ((parts new).process p)) where
          bears : MayBear means.naming.who p born made.entry.child s
          bears = may-bear w code n old.config new c run.represents turn made turned.is means s fits up born count

          -- what it bore may be borne
          pub bearing : (names : ℕ → Who) × IsScheduled names s × MayBear names p born made.entry.child s
          bearing = (
            means.naming.who,
            scheduled-alike n.who means.naming.who s fits.scheduled (λ i h. let k = fits.processes_are in let t = there-is old.config.processes.items i (omega (arith, h, k)) in means.grows.who i (is-there (procs old.config.processes.items i) t.0 t.1)),
            bears,
          )

          -- it has made a step
          pub stepped : HasFlagFor made.entry.child s → (s2 : Schedule) → Grown p born made.entry.child made.entry.channel made.entry.channel2 s s2 → (last : Solo) → last.config ≡ new →
              ((code : Code) (m : Parts) (who : ℕ → Who) (ps es : ℕ) → Fits code m who ps es (changed_ends made.changed) s2 → Fits code m who ps es [] last.schedule) → HasStepped source code n c old made.entry last
          stepped room s2 grown last is woken =
              let fit : FitsAs code means.naming new last.schedule =
              woken code (parts new) means.naming.who (length new.processes.items) (length new.ends.items)
              (grown-fits code n means.naming old.config new p turned.branch made s s2 wired fits turned.is means.grows up room born grown bears) in
              subst (λ (x : Solo). HasStepped source code n c old made.entry x) (solo-is last is) (record {
                turn = turn;
                means = means;
                run = record {
                  met = met-on source c means.next (n.who p) turned.branch (named_entry means.naming (entry_of made.entry)) run.met means.first.reduces;
                  stands = run.stands;
                  represents = means.represents;
                  tables = tables-of code means.naming [] (record { config = new; schedule = last.schedule }) fit;
                  services = services;
                };
                one = weighs-one w code n old.config new c run.represents turn made turned.is means s fits up born count;
              })
            where
              solo-is : (last : Solo) → last.config ≡ new → record { config = new; schedule = last.schedule } ≡ last
              solo-is last e = sym (λ i. record { config = e i; schedule = last.schedule })

              services : (k : ℕ) → k < length (services_of w) → IsSome ((parts new).process (suc k)) × (means.naming.who (suc k) ≡ Service k)
              services k l =
                  let z = turned.is.steps in
                  let here = run.services k l in (
                    subst (λ (m : Parts). IsSome (m.process (suc k))) (sym z.parts) (written-keeps (peopled (drawn old.config) p z.process z.life z.child) (parts old.config).process (suc k) here.0),
                    means.grows.who (suc k) here.0 ∙ here.1,
                  )

-- where there is room for all, there is for a flag
pub flag-for : (child : Option ℕ) (s : Schedule) → HasRoom s → HasFlagFor child s
flag-for None s room = tt
flag-for (Some k) s room = let f = room.flag in omega (arith, f)

-- who has a step may reduce
pub enabled : (source : Program) (code : Code) (n : Naming) (c : Configuration) (old : Solo) → IsRun source code n c old → (p i : ℕ) → CanStep code (drawn old.config) (parts old.config) p i (Ok true) → IsEnabled (world_of source) c
enabled source code n c old run p i (entry, m2, s) =
    (n.who p, may-reduce (world_of source) code n (parts old.config) c run.stands run.represents (drawn old.config) (fresh old.config) p s.process s.there i s.change s.changes)

-- One after another

module _ (source : Program) (code : Code) (n : Naming) (c : Configuration) (a b : Solo) (s : Stays source code n c a b) where
  pub stays-on : (d : Solo) → Stays source code n c b d → Stays source code n c a d
  stays-on d t = record { run = t.run; same = t.same ∙ s.same }

  pub stepped-on : (d : Solo) (entry : Entry) → HasStepped source code n c b entry d → HasStepped source code n c a entry d
  stepped-on d entry h =
      let x = subst (λ m. (means : Means (world_of source) code n m c h.turn (entry_of entry) (parts d.config)) × IsRun source code means.naming means.next d) s.same (h.means, h.run) in
      record { turn = h.turn; means = x.0; run = x.1; one = h.one }
