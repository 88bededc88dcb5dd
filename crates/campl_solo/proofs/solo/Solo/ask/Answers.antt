use Rattle.std.proofs.Common.{◌≡◌, ◌≤◌, ◌<◌, ◌+◌, ◌^◌, [], refl, subst, sym}
use Rattle.campl_cells.specs.Steps.{IsStill}
use Rattle.campl_eval.specs.View.{code_of}
use Rattle.campl_steps.specs.Configs.{IsSame, drawn, parts}
use Rattle.campl_steps.specs.InPlace.{HasTold}
use Rattle.campl_parts.specs.Journal.{Recorded, weight_of}
use Rattle.campl_solo.specs.declared.solo.Solo.{Solo}
use Rattle.campl_solo.proofs.Asking.{asked-on, first-alike, same-as, told-stepped}
use Rattle.campl_solo.proofs.Stepping.{fits-of, stays}
use Rattle.campl_solo.proofs.solo.Solo.ask.Goals as goal

pub wake_all-requires : goal.wake_all-requires
wake_all-requires c =
    let (source, n, x, run, first) = c.requires.run in
    (n.who, run.tables.scheduled)

pub turn-requires-clause-run : goal.turn-requires-clause-run
turn-requires-clause-run c =
    let (source, n, x, run, first) = c.requires.run in
    let old = c.args.self.now in
    let code = code_of c.args.program.now in
    let h : IsStill (code_of c.args.program.now) (drawn old.config) (parts old.config) c.args.number 0 × IsSame old.config c.step_in_place.new.self × (c.step_in_place.new.journal ≡ c.args.journal.now) = rw c.in-Still.is at (c.step_in_place.ensures 0) in
    let fits = fits-of code n [] old run.tables in
    let mid : Solo = record { config = c.step_in_place.new.self; schedule = old.schedule } in
    (source, n, x, (stays source code n x old run mid h.1 fits).run, first-alike n old mid c.args.number (λ i. refl) first)

pub turn-requires-clause-room : goal.turn-requires-clause-room
turn-requires-clause-room c =
    let old = c.args.self.now in
    let code = code_of c.args.program.now in
    let h : IsStill (code_of c.args.program.now) (drawn old.config) (parts old.config) c.args.number 0 × IsSame old.config c.step_in_place.new.self × (c.step_in_place.new.journal ≡ c.args.journal.now) = rw c.in-Still.is at (c.step_in_place.ensures 0) in
    subst (λ (j : Recorded). (1 ≤ j.spare) × (1 ≤ j.spare_full)) (sym h.2) c.requires.room

pub turn-requires-clause-within : goal.turn-requires-clause-within
turn-requires-clause-within c =
    let old = c.args.self.now in
    let code = code_of c.args.program.now in
    let h : IsStill (code_of c.args.program.now) (drawn old.config) (parts old.config) c.args.number 0 × IsSame old.config c.step_in_place.new.self × (c.step_in_place.new.journal ≡ c.args.journal.now) = rw c.in-Still.is at (c.step_in_place.ensures 0) in
    subst (λ (j : Recorded). weight_of j.entries + 1 < 2 ^ 64) (sym h.2) c.requires.within

pub turn-requires-in-Otherwise-clause-run : goal.turn-requires-in-Otherwise-clause-run
turn-requires-in-Otherwise-clause-run c =
    let (source, n, x, run, first) = c.requires.run in
    let old = c.args.self.now in
    let code = code_of c.args.program.now in
    let h : (c.step_in_place.new.self ≡ old.config) × (c.step_in_place.new.journal ≡ c.args.journal.now) = rw c.in-Otherwise.is at (c.step_in_place.ensures 0) in
    let fits = fits-of code n [] old run.tables in
    let mid : Solo = record { config = c.step_in_place.new.self; schedule = old.schedule } in
    (source, n, x, (stays source code n x old run mid (same-as old.config c.step_in_place.new.self h.0) fits).run, first-alike n old mid c.args.number (λ i. refl) first)

pub turn-requires-in-Otherwise-clause-room : goal.turn-requires-in-Otherwise-clause-room
turn-requires-in-Otherwise-clause-room c =
    let old = c.args.self.now in
    let code = code_of c.args.program.now in
    let h : (c.step_in_place.new.self ≡ old.config) × (c.step_in_place.new.journal ≡ c.args.journal.now) = rw c.in-Otherwise.is at (c.step_in_place.ensures 0) in
    subst (λ (j : Recorded). (1 ≤ j.spare) × (1 ≤ j.spare_full)) (sym h.1) c.requires.room

pub turn-requires-in-Otherwise-clause-within : goal.turn-requires-in-Otherwise-clause-within
turn-requires-in-Otherwise-clause-within c =
    let old = c.args.self.now in
    let code = code_of c.args.program.now in
    let h : (c.step_in_place.new.self ≡ old.config) × (c.step_in_place.new.journal ≡ c.args.journal.now) = rw c.in-Otherwise.is at (c.step_in_place.ensures 0) in
    subst (λ (j : Recorded). weight_of j.entries + 1 < 2 ^ 64) (sym h.1) c.requires.within

pub returns-in-Made : goal.returns-in-Made
returns-in-Made c source n x run first =
    let old = c.args.self.now in
    let code = code_of c.args.program.now in
    let fits = fits-of code n [] old run.tables in
    let told : HasTold code c.args.number 0 old.config c.step_in_place.new.self c.args.journal.now c.step_in_place.new.journal c.in-Made.changed = rw c.in-Made.is at (c.step_in_place.ensures 0) in
    told-stepped source code n x old run c.args.number first old.schedule fits (λ i. refl) c.step_in_place.new.self c.args.journal.now c.step_in_place.new.journal c.in-Made.changed told
    (record { config = c.step_in_place.new.self; schedule = c.wake_all.new.schedule }) refl c.wake_all.ensures

pub returns-in-OutOfMemory : goal.returns-in-OutOfMemory
returns-in-OutOfMemory c source n x run first =
    let old = c.args.self.now in
    let code = code_of c.args.program.now in
    let fits = fits-of code n [] old run.tables in
    let h : IsSame old.config c.step_in_place.new.self × (c.step_in_place.new.journal ≡ c.args.journal.now) = rw c.in-OutOfMemory.is at (c.step_in_place.ensures 0) in
    (stays source code n x old run (record { config = c.step_in_place.new.self; schedule = old.schedule }) h.0 fits, h.1)

pub returns-in-Still : goal.returns-in-Still
returns-in-Still c source n x run first =
    let old = c.args.self.now in
    let code = code_of c.args.program.now in
    let h : IsStill (code_of c.args.program.now) (drawn old.config) (parts old.config) c.args.number 0 × IsSame old.config c.step_in_place.new.self × (c.step_in_place.new.journal ≡ c.args.journal.now) = rw c.in-Still.is at (c.step_in_place.ensures 0) in
    let fits = fits-of code n [] old run.tables in
    let mid : Solo = record { config = c.step_in_place.new.self; schedule = old.schedule } in
    let s = stays source code n x old run mid h.1 fits in
    asked-on source code n x old mid s refl c.turn.new.self c.args.journal.now c.step_in_place.new.journal c.turn.new.journal h.2 c.turn.result
    (c.turn.ensures source n x s.run (first-alike n old mid c.args.number (λ i. refl) first))

pub returns-in-Otherwise : goal.returns-in-Otherwise
returns-in-Otherwise c source n x run first =
    let old = c.args.self.now in
    let code = code_of c.args.program.now in
    let h : (c.step_in_place.new.self ≡ old.config) × (c.step_in_place.new.journal ≡ c.args.journal.now) = rw c.in-Otherwise.is at (c.step_in_place.ensures 0) in
    let fits = fits-of code n [] old run.tables in
    let mid : Solo = record { config = c.step_in_place.new.self; schedule = old.schedule } in
    let s = stays source code n x old run mid (same-as old.config c.step_in_place.new.self h.0) fits in
    asked-on source code n x old mid s refl c.turn-in-Otherwise.new.self c.args.journal.now c.step_in_place.new.journal c.turn-in-Otherwise.new.journal h.1 c.turn-in-Otherwise.result
    (c.turn-in-Otherwise.ensures source n x s.run (first-alike n old mid c.args.number (λ i. refl) first))
