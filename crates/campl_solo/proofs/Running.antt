-- A run and one more step at its end.
use Rattle.std.proofs.Common.{◌≡◌, ◌≤◌, ℕ, zero, suc, List, [], ◌∷◌, ◌++◌, Result, refl, sym, ap, subst, ◌∙◌, arith, append-nil, append_assoc}
use Rattle.std.proofs.lemmas.List.{map-append}
use Rattle.std.proofs.lemmas.List.Sums.{sum_by-append, sum_by-cons}
use Rattle.campl_machine.specs.Names.{Who}
use Rattle.campl_machine.specs.Runs.{Run}
use Rattle.campl_tree.specs.Plain.Decl.{Program}
use Rattle.campl_types.specs.World.{World, world_of}
use Rattle.campl_meaning.specs.Reductions.{Configuration, Event}
use Rattle.campl_meaning.specs.Journals as journals
use Rattle.campl_meaning.specs.Journals.{IsRunOf, IsWeighed, Says, Times}
use Rattle.campl_meaning.specs.OneAtATime.{FirstReduces}
use Rattle.campl_code.specs.Instructions.{Code}
use Rattle.campl_cells.specs.Stands.{Naming, named_entry}
use Rattle.campl_turns.specs.Turns.{told_entry, told_naming}
use Rattle.campl_parts.specs.declared.entry.Entry.{Entry}
use Rattle.campl_parts.specs.Journal.{weight_of}
use Rattle.campl_parts.specs.Views.{entry_of}
use Rattle.campl_steps.specs.Configs.{parts}
use Rattle.campl_solo.specs.declared.solo.Solo.{Solo}
use Rattle.campl_solo.specs.declared.solo.Stop.{Stop}
use Rattle.std.specs.declared.alloc.AllocError.{AllocError}
use Rattle.campl_solo.specs.Solos.{Grew, HasStepped, IsRun, Ran, Stays, Stopped, told}

-- one more at the end of a run
run-on : {C L : Type 0} (Red : C → L → C → Type 0) (n : ℕ) (a b c : C) (l : L) → Run Red n a b → Red b l c → Run Red (suc n) a c
run-on Red zero a b c l e r = (l, c, subst (λ b. Red b l c) (sym e) r, refl)
run-on Red (suc n) a b c l (k, d, first, run) r = (k, d, first, run-on Red n d b c l run r)

-- and of the entries that tell it
told-on : (w : World) (n : journals.Naming) (c : Configuration) (entries : List journals.Entry) (m : journals.Naming) (b : Configuration) (entry : journals.Entry) (who : Who) (event : Event) (next : journals.Naming) (d : Configuration) →
    IsRunOf w n c entries m b → IsWeighed entry → Says m entry who event next → Times w entry.weight b who event d → IsRunOf w n c (entries ++ entry ∷ []) next d
told-on w n c [] m b entry who event next d (e, f) weighed says times =
    (who, event, next, d, weighed, subst (λ x. Says x entry who event next) (sym e) says, subst (λ x. Times w entry.weight x who event d) (sym f) times, (refl, refl))
told-on w n c (x ∷ entries) m b entry who event next d (who2, event2, next2, b2, weighed2, says2, times2, more) weighed says times =
    (who2, event2, next2, b2, weighed2, says2, times2, told-on w next2 b2 entries m b entry who event next d more weighed says times)

-- the weight of one more entry
weight-on : (entries : List Entry) (entry : Entry) → entry.weight ≡ 1 → weight_of (entries ++ entry ∷ []) ≡ suc (weight_of entries)
weight-on entries entry one =
    let a = sum_by-append (λ (e : Entry). e.weight) entries (entry ∷ []) in
    let b = sum_by-cons (λ (e : Entry). e.weight) entry [] in
    omega (arith, a, b, one)

pub weight-written : (entries after : List Entry) (entry : Entry) → after ≡ entries ++ entry ∷ [] → entry.weight ≡ 1 → weight_of after ≡ suc (weight_of entries)
weight-written entries after entry e one = ap weight_of e ∙ weight-on entries entry one

module _ (source : Program) (code : Code) (n : Naming) (c : Configuration) (old : Solo) where
  abbrev w : World
  w = world_of source

  -- no step
  pub grew-none : IsRun source code n c old → (before : List Entry) → Grew source code n c old old before before
  grew-none run before = record {
    entries = [];
    appended = sym (append-nil before);
    goes = record { naming = n; last = c; journal = (refl, refl); run = refl; is = run };
  }

  -- one more
  grew-more : (mid new : Solo) (before during : List Entry) (entry : Entry) → (g : Grew source code n c old mid before during) → HasStepped source code g.goes.naming g.goes.last mid entry new →
      Grew source code n c old new before (during ++ entry ∷ [])
  grew-more mid new before during entry g s = record {
    entries = g.entries ++ entry ∷ [];
    appended = ap (λ l. l ++ entry ∷ []) g.appended ∙ append_assoc before g.entries (entry ∷ []);
    goes = record {
      naming = s.means.naming;
      last = s.means.next;
      journal = subst (λ l. IsRunOf w (told_naming n (parts old.config)) c l (told_naming s.means.naming (parts new.config)) s.means.next) (sym (map-append (λ (e : Entry). told_entry (entry_of e)) g.entries (entry ∷ [])))
          (told-on w (told_naming n (parts old.config)) c (told g.entries) (told_naming g.goes.naming (parts mid.config)) g.goes.last (told_entry (entry_of entry)) (g.goes.naming.who s.turn.process) (named_entry s.means.naming (entry_of entry))
          (told_naming s.means.naming (parts new.config)) s.means.next g.goes.journal s.means.weighed s.means.says
          (subst (λ k. Times w k g.goes.last (g.goes.naming.who s.turn.process) (named_entry s.means.naming (entry_of entry)) s.means.next) (sym s.one) (s.means.next, (s.turn.branch, s.means.first.reduces), refl)));
      run = subst (λ k. Run (FirstReduces w) k c s.means.next) (sym (weight-on g.entries entry s.one))
          (run-on (FirstReduces w) (weight_of g.entries) c g.goes.last s.means.next (g.goes.naming.who s.turn.process, s.turn.branch, named_entry s.means.naming (entry_of entry)) g.goes.run s.means.first);
      is = s.run;
    };
  }

  pub written-more : (mid new : Solo) (before during after : List Entry) (entry : Entry) → (g : Grew source code n c old mid before during) → after ≡ during ++ entry ∷ [] → HasStepped source code g.goes.naming g.goes.last mid entry new →
      Grew source code n c old new before after
  written-more mid new before during after entry g e s = subst (λ l. Grew source code n c old new before l) (sym e) (grew-more mid new before during entry g s)

  -- where it stands where it stood
  abbrev grew-stays : (mid new : Solo) (before during : List Entry) → (g : Grew source code n c old mid before during) → Stays source code g.goes.naming g.goes.last mid new → Grew source code n c old new before during
  grew-stays mid new before during g s = record {
    entries = g.entries;
    appended = g.appended;
    goes = record {
      naming = g.goes.naming;
      last = g.goes.last;
      journal = subst (λ m. IsRunOf w (told_naming n (parts old.config)) c (told g.entries) (told_naming g.goes.naming m) g.goes.last) (sym s.same) g.goes.journal;
      run = g.goes.run;
      is = s.run;
    };
  }

  -- how it stopped
  pub stopped-at : (mid new : Solo) (before during after : List Entry) (budget : ℕ) (result : Result Stop AllocError) → (g : Grew source code n c old mid before during) → after ≡ during → weight_of during ≤ budget → Stays source code g.goes.naming g.goes.last mid new →
      Stopped source code (weight_of during) budget g.goes.last new result → Ran source code budget n c old new before after result
  stopped-at mid new before during after budget result g e inside s stopped =
      let h = grew-stays mid new before during g s in
      subst (λ l. Ran source code budget n c old new before l result) (sym e) (record { entries = h.entries; appended = h.appended; within = inside; goes = h.goes; stopped = stopped })
