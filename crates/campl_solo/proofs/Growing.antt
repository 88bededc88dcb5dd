-- Behind a step the tables fit, but for the ends where something has changed.
use Rattle.std.proofs.Common.{◌≡◌, ◌≢◌, ◌<◌, inl, inr, ℕ, ◌+◌, ◌++◌, Bool, true, false, List, [], ◌∷◌, Option, Some, None, IsSome, length, set, option_map, refl, sym, ap, subst, ◌∙◌, arith, get_or-set_other, get_or-set_same, length-append, true≢false}
use Rattle.std.proofs.lemmas.List.{get_or_append_left}
use Rattle.std.proofs.lemmas.Option.{slice_get_past}
use Rattle.campl_code.specs.Instructions.{Code}
use Rattle.campl_cells.specs.Parts.{Parts, Tip}
use Rattle.campl_cells.specs.Wants as w
use Rattle.campl_cells.specs.Wants.{Drawn, Want, wanted}
use Rattle.campl_cells.specs.Stands.{Grows, IsEnd, LifeWithin, Naming, Wired}
use Rattle.campl_cells.specs.Local.{Watches}
use Rattle.campl_cells.proofs.Nearby.{else-stays, still-waits}
use Rattle.campl_cells.proofs.Puts.{if-here, is-there, same}
use Rattle.campl_turns.specs.Turns.{Rests, WaitsOn}
use Rattle.campl_parts.specs.declared.inbox.EndPart.{EndPart}
use Rattle.campl_parts.specs.Tables.{procs, tips}
use Rattle.campl_parts.specs.Views.{tip_of}
use Rattle.campl_steps.specs.declared.config.Config.{Config}
use Rattle.campl_steps.specs.declared.made.Made.{Made}
use Rattle.campl_steps.specs.Configs as configs
use Rattle.campl_steps.specs.Configs.{IsMade, changed_ends, drawn, more, parts}
use Rattle.campl_steps.proofs.Able.{there-is}
use Rattle.campl_steps.proofs.Within.{WantWithin, want-within}
use Rattle.campl_order.specs.declared.schedule.Schedule.{Schedule}
use Rattle.campl_order.specs.Boards.{is_flagged}
use Rattle.campl_order.specs.Waiting.{IsAmong, waiter}
use Rattle.campl_order.proofs.Alike.{scheduled-alike}
use Rattle.campl_solo.specs.Fits.{HasFlagFor, Fits, Grown, MayBear, flags_borne, nobody}
use Rattle.campl_solo.proofs.Drawing.{below}

-- Ends that one waits on are there

watched-there : (There : ℕ → Type 0) (d : Drawn) (o : Want) (e : ℕ) → WantWithin There d o → Watches o e → There e
watched-there There d w.Rests e h l = absurd l
watched-there There d (w.Moves kind end v) e h l = absurd l
watched-there There d (w.Looks kind takes x f) e h l = subst There l h
watched-there There d (w.Links x y) e h (inl l) = subst There l h.0
watched-there There d (w.Links x y) e h (inr l) = subst There l h.1

pub waits-there : (code : Code) (m : Parts) → Wired m → (p e : ℕ) → WaitsOn code m p e → IsSome (m.tip e)
waits-there code m wired p e (q, there, (d, i, l)) =
    watched-there (IsEnd m.tip) d (wanted code d q.life i) e (want-within (IsEnd m.tip) d code q.life (if-here (λ q. LifeWithin (IsEnd m.tip) q.life) (m.process p) q there (wired.held p)) i) l

pub tip-below : (es : List EndPart) (e : ℕ) → IsSome (tips es e) → e < length es
tip-below es e h = elim (below e (length es)) [
  | inl l ↦ l
  | inr g ↦
      let gone : tips es e ≡ None = ap (option_map tip_of) (slice_get_past es e g) in
      let f : IsSome {T = Tip} None = subst IsSome gone h in
      absurd (cc f)
]

-- Who was there before

nobody-length : (o : Option ℕ) → length (nobody o) ≡ more o 2
nobody-length None = refl
nobody-length (Some c) = refl

-- who isn't flagged was there before, isn't the one that stepped, and wasn't flagged
old-unflagged : (child : Option ℕ) (p i : ℕ) (s : Schedule) → p < length s.order.ranks.items → HasFlagFor child s → is_flagged s.board.flags.items p ≡ true → i < length s.order.ranks.items + more child 1 →
    is_flagged (flags_borne child (length s.order.ranks.items) s.board.flags.items) i ≡ false → (i < length s.order.ranks.items) × (i ≢ p) × (is_flagged s.board.flags.items i ≡ false)
old-unflagged None p i s hp room up l h = (omega (arith, l), (λ e. true≢false (sym up ∙ (ap (is_flagged s.board.flags.items) (sym e) ∙ h))), h)
old-unflagged (Some k) p i s hp room up l h = let count = length s.order.ranks.items in let flags = s.board.flags.items in elim (same i count) [
  | inl e ↦ absurd (true≢false (sym (get_or-set_same flags count true false room) ∙ (ap (is_flagged (set flags count true)) (sym e) ∙ h)))
  | inr ne ↦
      let before : is_flagged flags i ≡ false = sym (get_or-set_other flags count i true false ne) ∙ h in
      (omega (arith, l, ne), (λ e. true≢false (sym up ∙ (ap (is_flagged flags) (sym e) ∙ before))), before)
]

among-same : (es : List ℕ) (e : ℕ) → configs.IsAmong es e → IsAmong es e
among-same [] e h = h
among-same (x ∷ es) e (inl h) = inl h
among-same (x ∷ es) e (inr h) = inr (among-same es e h)

module _ (code : Code) (n n2 : Naming) (old new : Config) (p b : ℕ) (made : Made) (s s2 : Schedule) (wired : Wired (parts old))
    (fits : Fits code (parts old) n.who (length old.processes.items) (length old.ends.items) [] s) (is : IsMade code p b old made new) (grows : Grows n n2 (parts old))
    (up : is_flagged s.board.flags.items p ≡ true) (room : HasFlagFor made.entry.child s)
    (born : ℕ) (grown : Grown p born made.entry.child made.entry.channel made.entry.channel2 s s2) (bears : MayBear n2.who p born made.entry.child s) where
  was : (i : ℕ) → i < length new.processes.items → is_flagged s2.board.flags.items i ≡ false →
      (i < length s.order.ranks.items) × (i ≢ p) × (is_flagged s.board.flags.items i ≡ false)
  was i l h =
      let count = fits.processes_are in
      let more = is.processes in
      let inside = fits.scheduled.within.flagged p up in
      old-unflagged made.entry.child p i s inside room up (omega (arith, l, count, more)) (sym (ap (λ (l : List Bool). is_flagged l i) grown.flags) ∙ h)

  stays : (i : ℕ) → i < length old.processes.items → i ≢ p → (parts new).process i ≡ (parts old).process i
  stays i l ne =
      let z = is.steps in
      ap (λ (m : Parts). m.process i) z.parts
      ∙ (else-stays code (drawn old) (parts old) p z.process b z.change z.life z.child z.changes).process i (λ e. ne (sym e)) (λ e. let f : ⊥ = omega (arith, l, e) in f)

  waited : (i e : ℕ) → i < length old.processes.items → i ≢ p → WaitsOn code (parts new) i e → WaitsOn code (parts old) i e
  waited i e l ne (q, there, x) = (q, sym (stays i l ne) ∙ there, x)

  pub grown-fits : Fits code (parts new) n2.who (length new.processes.items) (length new.ends.items) (changed_ends made.changed) s2
  grown-fits = record {
    scheduled = grown.scheduled n2.who (scheduled-alike n.who n2.who s fits.scheduled (λ i h. let c = fits.processes_are in let t = there-is old.processes.items i (omega (arith, h, c)) in grows.who i (is-there (procs old.processes.items i) t.0 t.1))) bears;
    processes_are = let a = grown.processes in let b = is.processes in let c = fits.processes_are in omega (arith, a, b, c);
    ends_are =
        let a = ap (λ (l : List (Option ℕ)). length l) grown.waiting in
        let b = length-append (s.waiting.items ++ nobody made.entry.channel) (nobody made.entry.channel2) in
        let c = length-append s.waiting.items (nobody made.entry.channel) in
        let d = nobody-length made.entry.channel in
        let e = nobody-length made.entry.channel2 in
        let f = is.ends in
        let g = fits.ends_are in
        omega (arith, a, b, c, d, e, f, g);
    keeps = record { stuck = stuck; known = known };
  }
    where
      stuck : (i : ℕ) → i < length new.processes.items → is_flagged s2.board.flags.items i ≡ false → ((e : ℕ) → IsAmong (changed_ends made.changed) e → WaitsOn code (parts new) i e → ⊥) → Rests code (parts new) i
      stuck i l h none d j q there =
          let a = was i l h in
          let count = fits.processes_are in
          let hi = a.0 in
          let inside : i < length old.processes.items = omega (arith, hi, count) in
          let before : (parts old).process i ≡ Some q = sym (stays i inside a.1) ∙ there in
          let rests = fits.keeps.stuck i inside a.2 (λ e f w. f) d j q before in
          still-waits code d (parts old) (parts new) i q j (λ k watches.
          let short = tip-below old.ends.items k (waits-there code (parts old) wired i k (q, before, (d, j, watches))) in
          is.changed k short (λ among. none k (among-same (changed_ends made.changed) k among) (q, there, (d, j, watches)))) rests

      known : (i : ℕ) → i < length new.processes.items → is_flagged s2.board.flags.items i ≡ false → (e : ℕ) → WaitsOn code (parts new) i e → waiter s2.waiting.items e ≡ Some i
      known i l h e waits =
          let a = was i l h in
          let count = fits.processes_are in
          let hi = a.0 in
          let inside : i < length old.processes.items = omega (arith, hi, count) in
          let before = waited i e inside a.1 waits in
          let short = tip-below old.ends.items e (waits-there code (parts old) wired i e before) in
          let long = fits.ends_are in
          let first : e < length s.waiting.items = omega (arith, short, long) in
          let c = length-append s.waiting.items (nobody made.entry.channel) in
          ap (λ (l : List (Option ℕ)). waiter l e) grown.waiting
          ∙ (get_or_append_left (s.waiting.items ++ nobody made.entry.channel) (nobody made.entry.channel2) None e (omega (arith, first, c))
          ∙ (get_or_append_left s.waiting.items (nobody made.entry.channel) None e first
          ∙ fits.keeps.known i inside a.2 e before))
