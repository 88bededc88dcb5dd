-- Steps in place are those of the definitions.
use Rattle.std.proofs.Common.{◌≡◌, ◌<◌, ◌^◌, refl, sym, ap, subst, ◌∙◌, inl, inr, ℕ, ◌+◌, Bool, true, List, [], ◌∷◌, ◌++◌, Option, Some, None, IfSome, arith, drop, length, option_map, slice_get, slice_set}
use Rattle.campl_value.specs.Tree.{Tree}
use Rattle.campl_value.specs.declared.message.Message.TheVariants.{Pick, Word}
use Rattle.campl_meaning.specs.States as k
use Rattle.campl_machine.specs.Machine.{Lies}
use Rattle.campl_code.specs.Decisions.{Decision, chosen}
use Rattle.campl_code.specs.Frames.{frame_at}
use Rattle.campl_code.specs.Instructions.{Block, Code, Instr, blocks}
use Rattle.campl_code.specs.Instructions as i
use Rattle.campl_code.specs.Machine.{code_at}
use Rattle.campl_code_bodies.specs.Kept as kept
use Rattle.campl_code_bodies.specs.Kept.{Values}
use Rattle.campl_kept.specs.Keeps.{Keeps}
use Rattle.campl_cells.specs.Parts.{Held, Life, Mail, Proc, Runs, Tip, or_bare, owner, put, written}
use Rattle.campl_cells.specs.Wants.{Begins, Drawn, Looks, Move, Moves, Next, after_get, after_offer, Start, Want, behind, in_block, kept_want, start_at, wanted, with_found, with_one, called}
use Rattle.campl_cells.specs.Steps as steps
use Rattle.campl_cells.specs.Steps.{IsLifeOf, arrives, by_want, goes_on, looked, moved, sent}
use Rattle.campl_parts.specs.declared.standing.Standing.{Standing}
use Rattle.campl_parts.specs.declared.entry.Entry.{Entry}
use Rattle.campl_parts.specs.declared.part.ProcPart.{ProcPart}
use Rattle.campl_parts.specs.Standing.{IsStanding, kept_by, reached_kept, turned}
use Rattle.campl_parts.specs.Tables.{procs, tips}
use Rattle.campl_parts.specs.declared.journal.Brief.TheVariants as brief
use Rattle.campl_parts.specs.Journal.{Recorded, brief_entry}
use Rattle.campl_parts.specs.Views.{entry_of, held_of, life_of, proc_of}
use Rattle.campl_value.specs.declared.message.Message.{Message}
use Rattle.campl_steps.specs.declared.config.Config.{Config}
use Rattle.campl_steps.specs.declared.made.Changed.{Changed}
use Rattle.campl_steps.specs.declared.made.Changed.TheVariants.{One}
use Rattle.campl_steps.specs.declared.in_place.Tried.{Tried}
use Rattle.campl_steps.specs.declared.in_place.Tried.TheVariants as t
use Rattle.campl_steps.specs.declared.plan.Borne.TheVariants as b
use Rattle.campl_steps.specs.Configs.{IsAmong, IsMade, drawn, parts}
use Rattle.campl_steps.specs.Doing.{Did, owners, taken}
use Rattle.campl_steps.specs.InPlace.{HasTold, IsAt, StandsAt, Tries, Went, instr_kept, instr_of, told_of}
use Rattle.campl_steps.specs.Readiness.{first_at, first_in}
use Rattle.campl_steps.proofs.Making.{looked-else, looks-changed, made-by, moved-else}

-- a list of less than one is empty
pub none-below : {A : Type 0} (xs : List A) → length xs < 1 → xs ≡ []
none-below [] h = refl
none-below (x ∷ xs) h = absurd (let z : ⊥ = omega (arith, h) in z)

-- What was made

-- the process goes on and the ends are written
went-on : (old new : Config) (p : ℕ) (life : Life → Life) (changes : List (ℕ × Tip)) → ((q : Proc) → procs old.processes.items p ≡ Some q → procs new.processes.items ≡ put p (Some (goes_on q (life q.life))) (procs old.processes.items))
    → tips new.ends.items ≡ written changes (tips old.ends.items) → length new.processes.items ≡ length old.processes.items → length new.ends.items ≡ length old.ends.items
    → (q : Proc) → procs old.processes.items p ≡ Some q → Did old new p (life q.life) None 0 changes
went-on old new p life changes goes ends count count2 q h = record {
  process = λ r g. let same : q ≡ r = cc (sym h ∙ g) in goes r g ∙ ap (λ (x : Proc). put p (Some (goes_on r (life x.life))) (procs old.processes.items)) (sym same);
  tip = ends;
  processes = count ∙ omega arith;
  ends = count2 ∙ omega arith;
}

pub sent-went : (old mid new : Config) (p : ℕ) (life : Life → Life) (told : Entry) (end to : ℕ) (message : Message) (before after : Recorded) → after.entries ≡ before.entries ++ told ∷ []
    → to ≡ owner (tips old.ends.items) end → mid.processes ≡ old.processes → tips mid.ends.items ≡ tips old.ends.items → length mid.ends.items ≡ length old.ends.items
    → ((q : Proc) → procs mid.processes.items p ≡ Some q → procs new.processes.items ≡ put p (Some (goes_on q (life q.life))) (procs mid.processes.items))
    → tips new.ends.items ≡ put to (Some (arrives message (or_bare (tips mid.ends.items to)))) (tips mid.ends.items)
    → length new.processes.items ≡ length mid.processes.items → length new.ends.items ≡ length mid.ends.items
    → Went old new p life told (owner (tips old.ends.items) end ∷ []) (sent (Some (end, message)) (tips old.ends.items)) before after (t.Made (One to))
sent-went old mid new p life told end to message before after appended place ps same count goes arrived count2 count3 =
    let went = went-on old new p life (sent (Some (end, message)) (tips old.ends.items))
    (λ q h. goes q ((λ i. procs (ps i).items p) ∙ h) ∙ (λ i. put p (Some (goes_on q (life q.life))) (procs (ps i).items)))
    (arrived ∙ (λ i. put (place i) (Some (arrives message (or_bare (same i (place i))))) (same i)))
    (count2 ∙ (λ i. length (ps i).items)) (count3 ∙ count) in
    (appended, (λ i. place i ∷ []), went)

-- a part that is there stands where it says
pub stands-some : (old : Config) (p : ℕ) (part : ProcPart) → procs old.processes.items p ≡ Some (proc_of part) → (o : Option Standing) → IfSome o (IsStanding (life_of part.life)) → IfSome o (StandsAt old p)
stands-some old p part there None h = tt
stands-some old p part there (Some s) h = record { process = proc_of part; there = there; stands = h }

module _ (code : Code) (old : Config) (p : ℕ) where
  abbrev tip : ℕ → Option Tip
  tip = tips old.ends.items

  -- what is told of it bore nothing
  has-told : (branch : ℕ) (kind : k.Kind) (end : Option ℕ) (message : Option Mail) (told : Entry) → entry_of told ≡ told_of p kind end message
      → (new : Config) (before after : Recorded) (changed : Changed) → after.entries ≡ before.entries ++ told ∷ [] → IsMade code p branch old (record { entry = told; changed = changed }) new → HasTold code p branch old new before after changed
  has-told branch kind end message told tells new before after changed appended made = record {
    entry = told;
    appended = appended;
    made = made;
    child = ap (λ (e : steps.Entry). e.child) tells;
    channel = ap (λ (e : steps.Entry). e.channel) tells;
    channel2 = ap (λ (e : steps.Entry). e.channel2) tells;
  }

  -- It moves

  sends-alone : (send : Option (ℕ × Mail)) → sent send tip ≡ sent send tip ++ []
  sends-alone None = refl
  sends-alone (Some s) = refl

  moved-tried : (q : Proc) → procs old.processes.items p ≡ Some q → (branch : ℕ) (kind : k.Kind) (end : Option ℕ) (send : Option (ℕ × Mail)) (start : Start) (life : Life → Life)
      → wanted code (drawn old) q.life branch ≡ Moves kind end (record { send = send; channels = []; child = None; next = Begins start })
      → IsLifeOf code (Begins start) (life q.life)
      → (told : Entry) → entry_of told ≡ told_of p kind end (option_map (λ s. s.1) send)
      → (new : Config) (before after : Recorded) (result : Tried) → Went old new p life told (owners tip send) (sent send tip) before after result → Tries code p branch old new before after result
  moved-tried q there branch kind end send start life wants lives told tells new before after (t.Made changed) went =
      let did = went.2 q there in
      let v : Move = record { send = send; channels = []; child = None; next = Begins start } in
      has-told branch kind end (option_map (λ s. s.1) send) told tells new before after changed went.0
      (made-by code p branch old new q there (moved tip (drawn old) p kind end v) (life q.life) None (record { entry = told; changed = changed })
      (ap (by_want tip (drawn old) p) wants) tells lives tt (did.process q there) (did.tip ∙ ap (λ (es : List (ℕ × Tip)). written es tip) (sends-alone send)) did.processes did.ends
      (λ j h n l. moved-else old b.None send j h (λ a. n (subst (λ (xs : List ℕ). IsAmong xs j) (sym went.1) a)) l))
  moved-tried q there branch kind end send start life wants lives told tells new before after t.Still went = absurd went
  moved-tried q there branch kind end send start life wants lives told tells new before after t.OutOfMemory went = went
  moved-tried q there branch kind end send start life wants lives told tells new before after t.Otherwise went = went

  -- It looks

  looked-tried : (q : Proc) → procs old.processes.items p ≡ Some q → (branch : ℕ) (kind : k.Kind) (e : ℕ) (f : Mail → Option Next) (mail : Mail) (start : Start) (life : Life → Life)
      → wanted code (drawn old) q.life branch ≡ Looks kind true e f → first_in tip e ≡ Some mail → f mail ≡ Some (Begins start) → IsLifeOf code (Begins start) (life q.life)
      → (told : Entry) → entry_of told ≡ told_of p kind (Some e) (Some mail)
      → (new : Config) (before after : Recorded) (result : Tried) → Went old new p life told (e ∷ []) (taken tip e) before after result → Tries code p branch old new before after result
  looked-tried q there branch kind e f mail start life wants first fits lives told tells new before after (t.Made changed) went =
      let did = went.2 q there in
      let tip-is = or_bare (tip e) in
      has-told branch kind (Some e) (Some mail) told tells new before after changed went.0
      (made-by code p branch old new q there (looked p kind true e tip-is.peer mail (drop 1 tip-is.inbox) (Begins start)) (life q.life) None (record { entry = told; changed = changed })
      (ap (by_want tip (drawn old) p) wants ∙ looks-changed p kind true e f tip-is.peer tip-is.inbox mail (Begins start) first fits)
      tells lives tt (did.process q there) did.tip did.processes did.ends
      (λ j h n l. looked-else true e (record { peer = tip-is.peer; inbox = drop 1 tip-is.inbox }) j (λ a. n (subst (λ (xs : List ℕ). IsAmong xs j) (sym went.1) a)) l))
  looked-tried q there branch kind e f mail start life wants first fits lives told tells new before after t.Still went = absurd went
  looked-tried q there branch kind e f mail start life wants first fits lives told tells new before after t.OutOfMemory went = went
  looked-tried q there branch kind e f mail start life wants first fits lives told tells new before after t.Otherwise went = went

  module _ (s : Standing) (stands : StandsAt old p s) where
    abbrev held : Held
    held = held_of s.running.now

    abbrev vars : List Tree
    vars = s.variables.now

    abbrev q : Proc
    q = stands.process

    -- the instruction is that of its place
    instr-there : (x : Instr) → IsAt code old p x → code_at (slice_get (blocks code) s.running.now.block) s.at ≡ Some x
    instr-there x is =
        let same : is.process ≡ q = cc (sym is.there ∙ stands.there) in
        let life : instr_of code is.process.life ≡ instr_kept code held.block held.kept = ap (λ (r : Proc). instr_of code r.life) same ∙ ap (instr_of code) stands.stands.0 in
        sym (ap (instr_kept code held.block) stands.stands.1) ∙ (sym life ∙ is.instr)

    in-block : (o : Option Block) (x : Instr) (branch at : ℕ) (values : List Tree) → code_at o at ≡ Some x
        → (is : List Instr) × (in_block code (drawn old) held branch at vars values o ≡ behind code (drawn old) held is branch at vars values x)
    in-block None x branch at values h = absurd (cc h)
    in-block (Some block) x branch at values h = (block.code, rw h refl)

    -- what it wants by that instruction
    wants : (x : Instr) → IsAt code old p x → (branch : ℕ) → (is : List Instr) × (wanted code (drawn old) q.life branch ≡ behind code (drawn old) held is branch s.at vars s.values.now x)
    wants x is branch =
        let there = in-block (slice_get (blocks code) s.running.now.block) x branch s.at s.values.now (instr-there x is) in
        (there.0, ap (λ (l : Life). wanted code (drawn old) l branch) stands.stands.0 ∙ (ap (kept_want code (drawn old) held branch) stands.stands.1 ∙ there.1))

    few : (x : Instr) → IsAt code old p x → q.steps < 2 ^ 62
    few x is = let same : is.process ≡ q = cc (sym is.there ∙ stands.there) in subst (λ (r : Proc). r.steps < 2 ^ 62) same is.few

    -- it lives on at a command that is reached, with these variables
    begins : (at to : ℕ) (env values : List Tree) → Keeps code (frame_at s.running.now.block at env) [] 0 (Values to env values)
        → IsLifeOf code (Begins (start_at held at env held.ends)) (kept_by (λ kept. Values to env values) q.life)
    begins at to env values keeps =
        (Values to env values, ap (kept_by (λ kept. Values to env values)) stands.stands.0, keeps)

    reaches : (at to : ℕ) (values : List Tree) → Keeps code (frame_at s.running.now.block at vars) [] 0 (Values to vars values)
        → IsLifeOf code (Begins (start_at held at vars held.ends)) (kept_by (reached_kept to values) q.life)
    reaches at to values keeps = (
      Values to vars values,
      ap (kept_by (reached_kept to values)) stands.stands.0 ∙ ap (λ (x : kept.Kept). Runs (record { block = held.block; ends = held.ends; kept = reached_kept to values x })) stands.stands.1,
      keeps,
    )

    -- The commands

    pub put-tried : (n e : ℕ) (v message told : Tree) → IsAt code old p (i.Put n) → held.ends n ≡ Some e → s.values.now ≡ v ∷ [] → message ≡ v → told ≡ v
        → (next : ℕ) → next ≡ s.at + 1 → (to : ℕ) (values : List Tree) → Keeps code (frame_at s.running.now.block next vars) [] 0 (Values to vars values)
        → (new : Config) (before after : Recorded) (result : Tried) → Went old new p (kept_by (reached_kept to values)) (brief_entry p (brief.Put e told)) (owners tip (Some (e, Word message))) (sent (Some (e, Word message)) tip) before after result
        → (branch : ℕ) → Tries code p branch old new before after result
    put-tried n e v message told is ends one copied copied2 next place to values keeps new before after result went branch =
        moved-tried q stands.there branch k.Put (Some e) (Some (e, Word v)) (start_at held (s.at + 1) vars held.ends) (kept_by (reached_kept to values))
        ((wants (i.Put n) is branch).1 ∙ rw (ends, one) refl) (reaches (s.at + 1) to values (subst (λ (at : ℕ). Keeps code (frame_at s.running.now.block at vars) [] 0 (Values to vars values)) place keeps)) (brief_entry p (brief.Put e v)) refl new before after result
        (subst (λ (m : Tree). Went old new p (kept_by (reached_kept to values)) (brief_entry p (brief.Put e v)) (owners tip (Some (e, Word m))) (sent (Some (e, Word m)) tip) before after result) copied
        (subst (λ (t : Tree). Went old new p (kept_by (reached_kept to values)) (brief_entry p (brief.Put e t)) (owners tip (Some (e, Word message))) (sent (Some (e, Word message)) tip) before after result) copied2 went))

    pub pick-tried : (n e c : ℕ) → IsAt code old p (i.Pick n c) → held.ends n ≡ Some e
        → (next : ℕ) → next ≡ s.at + 1 → (to : ℕ) (values : List Tree) → Keeps code (frame_at s.running.now.block next vars) [] 0 (Values to vars values)
        → (new : Config) (before after : Recorded) (result : Tried) → Went old new p (kept_by (reached_kept to values)) (brief_entry p (brief.Pick e c)) (owners tip (Some (e, Pick c))) (sent (Some (e, Pick c)) tip) before after result
        → (branch : ℕ) → Tries code p branch old new before after result
    pick-tried n e c is ends next place to values keeps new before after result went branch =
        moved-tried q stands.there branch k.Pick' (Some e) (Some (e, Pick c)) (start_at held (s.at + 1) vars held.ends) (kept_by (reached_kept to values))
        ((wants (i.Pick n c) is branch).1 ∙ rw ends refl) (reaches (s.at + 1) to values (subst (λ (at : ℕ). Keeps code (frame_at s.running.now.block at vars) [] 0 (Values to vars values)) place keeps)) (brief_entry p (brief.Pick e c)) refl new before after result went

    pub case-tried : (m base : ℕ) (targets : List ℕ) (d : Decision) (row at : ℕ) → IsAt code old p (i.Case m base targets)
        → slice_get code.decisions m ≡ Some d → chosen d.tree s.values.now ≡ Some (row, []) → slice_get targets row ≡ Some at
        → (to : ℕ) (values : List Tree) → Keeps code (frame_at s.running.now.block at vars) [] 0 (Values to vars values)
        → (new : Config) (before after : Recorded) (result : Tried) → Went old new p (kept_by (reached_kept to values)) (brief_entry p brief.Case) [] [] before after result
        → (branch : ℕ) → Tries code p branch old new before after result
    case-tried m base targets d row at is decides chooses target to values keeps new before after result went branch =
        moved-tried q stands.there branch k.Case None None (start_at held at vars held.ends) (kept_by (reached_kept to values))
        ((wants (i.Case m base targets) is branch).1 ∙ rw (decides, chooses, target) refl) (reaches at to values keeps) (brief_entry p brief.Case) refl new before after result went

    pub call-tried : (g : ℕ) (channels : List ℕ) (block : Block) → IsAt code old p (i.Go g channels) → slice_get code.processes g ≡ Some block
        → (h : Held) → IsLifeOf code (Begins (called code held g channels s.values.now block)) (Runs h)
        → (new : Config) (before after : Recorded) (result : Tried) → Went old new p (turned h) (brief_entry p brief.Call) [] [] before after result
        → (branch : ℕ) → Tries code p branch old new before after result
    call-tried g channels block is there h lives new before after result went branch =
        moved-tried q stands.there branch k.Call None None (called code held g channels s.values.now block) (turned h)
        ((wants (i.Go g channels) is branch).1 ∙ rw there refl)
        (subst (IsLifeOf code (Begins (called code held g channels s.values.now block))) (sym (ap (turned h) stands.stands.0)) lives) (brief_entry p brief.Call) refl new before after result went

    pub get-tried : (n e w : ℕ) (v told : Tree) (env : List Tree) → IsAt code old p (i.Get n w) → held.ends n ≡ Some e → first_in tip e ≡ Some (Word v) → told ≡ v → env ≡ slice_set vars w v
        → (next : ℕ) → next ≡ s.at + 1 → (to : ℕ) (values : List Tree) → Keeps code (frame_at s.running.now.block next env) [] 0 (Values to env values)
        → (new : Config) (before after : Recorded) (result : Tried) → Went old new p (kept_by (λ kept. Values to env values)) (brief_entry p (brief.Get e told)) (e ∷ []) (taken tip e) before after result
        → (branch : ℕ) → Tries code p branch old new before after result
    get-tried n e w v told env is ends first copied set next place to values keeps new before after result went branch =
        looked-tried q stands.there branch k.Get e (after_get held (s.at + 1) vars w) (Word v) (start_at held (s.at + 1) env held.ends) (kept_by (λ kept. Values to env values))
        ((wants (i.Get n w) is branch).1 ∙ rw ends refl) first (ap (λ (env : List Tree). Some (Begins (start_at held (s.at + 1) env held.ends))) (sym set)) (begins (s.at + 1) to env values (subst (λ (at : ℕ). Keeps code (frame_at s.running.now.block at env) [] 0 (Values to env values)) place keeps)) (brief_entry p (brief.Get e v)) refl new before after result
        (subst (λ (t : Tree). Went old new p (kept_by (λ kept. Values to env values)) (brief_entry p (brief.Get e t)) (e ∷ []) (taken tip e) before after result) copied went)

    pub offer-tried : (n e c at : ℕ) (targets : List ℕ) → IsAt code old p (i.Offer n targets) → held.ends n ≡ Some e → first_in tip e ≡ Some (Pick c) → slice_get targets c ≡ Some at
        → (to : ℕ) (values : List Tree) → Keeps code (frame_at s.running.now.block at vars) [] 0 (Values to vars values)
        → (new : Config) (before after : Recorded) (result : Tried) → Went old new p (kept_by (reached_kept to values)) (brief_entry p (brief.Offer e c)) (e ∷ []) (taken tip e) before after result
        → (branch : ℕ) → Tries code p branch old new before after result
    offer-tried n e c at targets is ends first target to values keeps new before after result went branch =
        looked-tried q stands.there branch k.Offer e (after_offer held vars targets) (Pick c) (start_at held at vars held.ends) (kept_by (reached_kept to values))
        ((wants (i.Offer n targets) is branch).1 ∙ rw ends refl) first (rw target refl) (reaches at to values keeps) (brief_entry p (brief.Offer e c)) refl new before after result went
