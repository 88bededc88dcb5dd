-- One is asked in place first, and else on copies.
use Rattle.std.proofs.Common.{◌≡◌, ◌<◌, ℕ, Bool, true, false, Option, Some, None, Result, Ok, Err, List, [], ◌∷◌, ◌++◌, length, append-nil, refl, sym, ap, subst, ◌∙◌, arith}
use Rattle.std.specs.declared.alloc.AllocError.{AllocError}
use Rattle.campl_tree.specs.Plain.Decl.{Program}
use Rattle.campl_meaning.specs.Reductions.{Configuration}
use Rattle.campl_code.specs.Instructions.{Code}
use Rattle.campl_cells.specs.Parts.{Parts}
use Rattle.campl_cells.specs.Stands.{Naming}
use Rattle.campl_machine.specs.Names.{Who}
use Rattle.campl_parts.specs.declared.entry.Entry.{Entry}
use Rattle.campl_parts.specs.Journal.{Recorded}
use Rattle.campl_steps.specs.declared.config.Config.{Config}
use Rattle.campl_steps.specs.declared.made.Changed.{Changed}
use Rattle.campl_steps.specs.Configs.{IsMade, IsSame, changed_ends, more, parts, steps_of}
use Rattle.campl_steps.specs.InPlace.{HasTold}
use Rattle.campl_order.specs.declared.schedule.Schedule.{Schedule}
use Rattle.campl_order.specs.Boards.{IsFirstFlagged, is_flagged}
use Rattle.campl_order.specs.Waiting.{IsScheduled}
use Rattle.campl_solo.specs.declared.solo.Solo.{Solo}
use Rattle.campl_solo.specs.Asking.{Asked, HasTurned, IsFirst, flags_up}
use Rattle.campl_solo.specs.Fits.{Fits, Grown, HasFlagFor, MayBear, nobody}
use Rattle.campl_solo.specs.Solos.{HasStepped, IsRun, Stays}
use Rattle.campl_solo.proofs.Stepping.{FitsAs, is-same, stays-on, stepped, stepped-on}

pub same-as : (old new : Config) → new ≡ old → IsSame old new
same-as old new e = subst (IsSame old) (sym e) (is-same old)

-- one more entry behind those that there were
pub appended-on : (first before after : List Entry) (entry : Entry) → before ≡ first → after ≡ before ++ entry ∷ [] → after ≡ first ++ entry ∷ []
appended-on first before after entry e f = f ∙ ap (λ (l : List Entry). l ++ entry ∷ []) e

-- with the same flags up it is the first still
pub first-alike : (n : Naming) (old mid : Solo) (p : ℕ) → ((i : ℕ) → is_flagged mid.schedule.board.flags.items i ≡ is_flagged old.schedule.board.flags.items i) → IsFirst n old p → IsFirst n mid p
first-alike n old mid p flags first = (flags p ∙ first.0, λ j h. first.1 j (sym (flags j) ∙ h))

-- what bears nothing lets no table grow
grown-bare : (p born : ℕ) (child channel channel2 : Option ℕ) (s : Schedule) → child ≡ None → channel ≡ None → channel2 ≡ None → Grown p born child channel channel2 s s
grown-bare p born child channel channel2 s e f g =
    subst (λ (k : Option ℕ). Grown p born k channel channel2 s s) (sym e)
    (subst (λ (k : Option ℕ). Grown p born None k channel2 s s) (sym f)
    (subst (λ (k : Option ℕ). Grown p born None None k s s) (sym g) (record {
      scheduled = λ names h may. h;
      flags = refl;
      processes = omega arith;
      waiting = sym (append-nil (s.waiting.items ++ []) ∙ append-nil s.waiting.items);
    })))

module _ (source : Program) (code : Code) (n : Naming) (c : Configuration) (old : Solo) where
  -- a step in place is one of the first
  pub told-stepped : (run : IsRun source code n c old) (p : ℕ) (first : IsFirst n old p) (s : Schedule) → FitsAs code n old.config s → ((i : ℕ) → is_flagged s.board.flags.items i ≡ is_flagged old.schedule.board.flags.items i)
      → (new : Config) (before after : Recorded) (changed : Changed) → HasTold code p 0 old.config new before after changed → (last : Solo) → last.config ≡ new
      → ((code : Code) (m : Parts) (who : ℕ → Who) (ps es : ℕ) → Fits code m who ps es (changed_ends changed) s → Fits code m who ps es [] last.schedule)
      → Asked source code n c old last before after (Ok true)
  told-stepped run p first s fits flags new before after changed told last is woken = (
    told.entry,
    told.appended,
    stepped source code n c old run p first s fits flags new (record { entry = told.entry; changed = changed })
        (record { branch = 0; is = told.made; first = λ i l. absurd (let z : ⊥ = omega (arith, l) in z) }) (steps_of ((parts new).process p)) refl
        (subst (λ (k : Option ℕ). HasFlagFor k s) (sym told.child) tt) s
        (grown-bare p (steps_of ((parts new).process p)) told.entry.child told.entry.channel told.entry.channel2 s told.child told.channel told.channel2) last is woken,
  )

  -- and where it stood still, what is asked then answers for it
  pub asked-on : (mid : Solo) → Stays source code n c old mid → flags_up mid.schedule.board.flags.items ≡ flags_up old.schedule.board.flags.items → (new : Solo) (first before after : Recorded) → before ≡ first → (r : Result Bool AllocError)
      → Asked source code n c mid new before after r → Asked source code n c old new first after r
  asked-on mid s up new first before after e (Ok true) h = (h.0, appended-on first.entries before.entries after.entries h.0 (ap (λ (j : Recorded). j.entries) e) h.1, stepped-on source code n c old mid s new h.0 h.2)
  asked-on mid s up new first before after e (Ok false) h = (record { stays = stays-on source code n c old mid s new h.0.stays; fewer = let f = h.0.fewer in omega (arith, f, up) }, h.1 ∙ e)
  asked-on mid s up new first before after e (Err error) h = (stays-on source code n c old mid s new h.0, h.1 ∙ e)
