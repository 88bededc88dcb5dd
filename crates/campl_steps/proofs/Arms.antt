-- What each kind of step comes to, from what was made ready and what was applied.
use Rattle.std.proofs.Common.{◌≡◌, ◌≢◌, ◌<◌, inl, inr, ℕ, zero, suc, ◌+◌, ◌*◌, Bool, true, List, [], ◌∷◌, ◌++◌, Option, Some, None, IfSome, IfOk, OnOk, OnErr, Result, Ok, Err, drop, length, option_map, if◌then◌else◌, refl, sym, ap, subst, ◌∙◌, arith}
use Rattle.std.specs.declared.alloc.AllocError.{AllocError}
use Rattle.campl_value.specs.declared.message.Message.{Message}
use Rattle.campl_value.specs.declared.message.Message.TheVariants.{Word}
use Rattle.campl_meaning.specs.States as k
use Rattle.campl_code.specs.Instructions.{Code}
use Rattle.campl_machine.specs.Machine.{Lies}
use Rattle.campl_cells.specs.Parts.{Ended, Mail, Proc, Tip, or_bare, or_else, owner, written}
use Rattle.campl_cells.specs.Stands.{IsEnd, LifeWithin, Wired}
use Rattle.campl_cells.specs.Wants as w
use Rattle.campl_cells.specs.Wants.{Drawn, Move, Next, hears, says, wanted}
use Rattle.campl_cells.specs.Steps as steps
use Rattle.campl_cells.specs.Steps.{arrives, borne, by_want, first_of, goes_on, linked, looked, moved, peopled, second_of, sent, tips_joined}
use Rattle.campl_cells.proofs.Puts.{if-here}
use Rattle.campl_cells.proofs.Tips.{peer-there}
use Rattle.campl_parts.specs.declared.entry.Entry.{Entry}
use Rattle.campl_parts.specs.declared.entry.Kind.{Kind}
use Rattle.campl_parts.specs.declared.inbox.EndPart.{EndPart}
use Rattle.campl_parts.specs.declared.part.Life as parts
use Rattle.campl_parts.specs.declared.plan.Planned.{Planned}
use Rattle.campl_parts.specs.Serving.{Hears}
use Rattle.campl_parts.specs.Tables.{procs, tips}
use Rattle.campl_parts.specs.Views.{entry_of, kind_of, life_of}
use Rattle.campl_steps.specs.declared.config.Config.{Config}
use Rattle.campl_steps.specs.declared.made.Changed.{Changed}
use Rattle.campl_steps.specs.declared.plan.Borne.{Borne}
use Rattle.campl_steps.specs.declared.plan.Ready.TheVariants as r
use Rattle.campl_steps.specs.Configs.{IsAmong, IsSame, Stepped, changed_ends, drawn, more, parts as parts_in}
use Rattle.campl_steps.specs.Doing.{Did, DidAttend, DidSay, IsGiven, IsGivenAt, IsSendThere, on_end, owners, taken}
use Rattle.campl_steps.specs.Readiness.{borne_channels, count_of}
use Rattle.campl_steps.specs.Stepping.{ComesTo, made_of}
use Rattle.campl_steps.proofs.Attending.{GoesWith, SaysLine, SaysWith, hearing, line-sent, saying, says-line, says-sent}
use Rattle.campl_steps.proofs.Making.{made-by, few-are, child-told, child-counted, channels-counted, moved-else, fit-some, looks-changed, looked-else, links-changed, linked-else}
use Rattle.campl_steps.proofs.Within.{WantWithin, want-within}

-- an end that is there has a number below their count
pub end-below : (es : List EndPart) (e : ℕ) → IsEnd (tips es) e → e < length es
end-below [] e h = absurd (let z : ⊥ = cc h in z)
end-below (x ∷ es) zero h = omega arith
end-below (x ∷ es) (suc e) h = let l : e < length es = end-below es e h in omega arith

said-else : (e : ℕ) (t : Tip) (j : ℕ) → (IsAmong (e ∷ []) j → ⊥) → Lies ((e, t) ∷ []) j → ⊥
said-else e t j n (inl q) = n (inl q)
said-else e t j n (inr l) = l

module _ (old : Config) (wired : Wired (parts_in old)) where
  abbrev tip : ℕ → Option Tip
  tip = tips old.ends.items

  -- peers are there
  peer-below : (e f : ℕ) → (or_bare (tip e)).peer ≡ Some f → f < length old.ends.items
  peer-below e f h = end-below old.ends.items f (peer-there (tip f) e (wired.peers.back e f h))

  own-or-peer : (e : ℕ) (o : Option ℕ) → (or_bare (tip e)).peer ≡ o → IsEnd tip e → owner tip e < length old.ends.items
  own-or-peer e None h there = let q : owner tip e ≡ e = ap (λ (o : Option ℕ). or_else o e) h in let l = end-below old.ends.items e there in omega (arith, q, l)
  own-or-peer e (Some f) h there = let q : owner tip e ≡ f = ap (λ (o : Option ℕ). or_else o e) h in let l = peer-below e f h in omega (arith, q, l)

  owner-below : (e : ℕ) → IsEnd tip e → owner tip e < length old.ends.items
  owner-below e there = own-or-peer e (or_bare (tip e)).peer refl there

  send-there : (send : Option (ℕ × Mail)) → IfSome send (λ s. IsEnd tip s.0) → IsSendThere old.ends.items send
  send-there None h = tt
  send-there (Some s) h = owner-below s.0 h

  module _ (code : Code) (p i : ℕ) where
    abbrev d : Drawn
    d = drawn old

    -- what it is and what it wants stands at ends that are there
    life-within : (q : Proc) → procs old.processes.items p ≡ Some q → LifeWithin (IsEnd tip) q.life
    life-within q h = if-here (λ (q : Proc). LifeWithin (IsEnd tip) q.life) (procs old.processes.items p) q h (wired.held p)

    within : (q : Proc) → procs old.processes.items p ≡ Some q → (o : w.Want) → wanted code d q.life i ≡ o → WantWithin (IsEnd tip) d o
    within q h o e = subst (WantWithin (IsEnd tip) d) e (want-within (IsEnd tip) d code q.life (life-within q h) i)

    -- Moves
    module _ (kind : Kind) (end : Option ℕ) (channels : Borne) (told : Option Message) (planned : Planned) (z : ComesTo code p i old (r.Moves kind end channels told planned)) where
      pub move-send : IsSendThere old.ends.items planned.send
      move-send =
          let v = z.ready.0 in
          let h = within z.process z.there (w.Moves (kind_of kind) end v) z.ready.1 in
          subst (IsSendThere old.ends.items) (sym z.ready.2.0) (send-there v.send h.0)

      pub move-stepped : (new : Config) (entry : Entry) (result : Result Changed AllocError) →
          entry_of entry ≡ record {
            process = p;
            kind = kind_of kind;
            weight = 1;
            end = end;
            second = None;
            message = told;
            child = option_map (λ (l : parts.Life). d.child) planned.child;
            channel = first_of (borne_channels d channels);
            channel2 = second_of (borne_channels d channels);
          } →
          IfOk result (λ changed. changed_ends changed ≡ owners tip planned.send) →
          OnOk result (Did old new p (life_of planned.next) (option_map life_of planned.child) (count_of channels) (sent planned.send tip ++ borne (borne_channels d channels))) →
          OnErr result (IsSame old new) → Stepped code p i old new (made_of entry result)
      move-stepped new entry (Err error) named at did same = same
      move-stepped new entry (Ok changed) named at did same =
          let v = z.ready.0 in
          let plan = z.ready.2 in
          let few = (within z.process z.there (w.Moves (kind_of kind) end v) z.ready.1).1 in
          let born : borne_channels d channels ≡ v.channels = sym (few-are d v.channels channels few z.ready.3) in
          let ends : sent planned.send tip ++ borne (borne_channels d channels) ≡ sent v.send tip ++ borne v.channels = λ j. sent (plan.0 j) tip ++ borne (born j) in
          let child = child-told code d v.child planned.child plan.1 in
          let count : more (option_map life_of planned.child) 1 ≡ more (steps.child_number d v.child) 1 = child-counted code d v.child planned.child plan.1 in
          let count2 : 2 * count_of channels ≡ more (first_of v.channels) 2 + more (second_of v.channels) 2 =
          channels-counted d channels ∙ (λ j. more (first_of (born j)) 2 + more (second_of (born j)) 2) in
          made-by code p i old new z.process z.there (moved tip d p (kind_of kind) end v) (life_of planned.next) (option_map life_of planned.child) (record { entry = entry; changed = changed })
          (ap (by_want tip d p) z.ready.1)
          (named ∙ (λ j. record { process = p; kind = kind_of kind; weight = 1; end = end; second = None; message = z.ready.4 j; child = child j; channel = first_of (born j); channel2 = second_of (born j) }))
          plan.2 plan.1 (did.process z.process z.there) (did.tip ∙ ap (λ (es : List (ℕ × Tip)). written es tip) ends)
          (did.processes ∙ ap (λ n. length old.processes.items + n) count) (did.ends ∙ ap (λ n. length old.ends.items + n) count2)
          (λ j h n l. moved-else old channels planned.send j h (λ a. n (subst (λ (xs : List ℕ). IsAmong xs j) (sym at) a)) (subst (λ (es : List (ℕ × Tip)). Lies es j) (sym ends) l))

    -- Looks
    module _ (kind : Kind) (takes : Bool) (end : ℕ) (told : Option Message) (next : parts.Life) (z : ComesTo code p i old (r.Looks kind takes end told next)) where
      pub look-end : end < length old.ends.items
      look-end = end-below old.ends.items end (within z.process z.there (w.Looks (kind_of kind) takes end z.ready.0) z.ready.2)

      pub look-stepped : (new : Config) (entry : Entry) (changed : Changed) →
          entry_of entry ≡ record { process = p; kind = kind_of kind; weight = 1; end = Some end; second = None; message = told; child = None; channel = None; channel2 = None } →
          changed_ends changed ≡ (if takes then end ∷ [] else []) →
          Did old new p (life_of next) None 0 (if takes then taken tip end else []) →
          Stepped code p i old new (made_of entry (Ok changed))
      look-stepped new entry changed named at did =
          let f = z.ready.0 in
          let mail = z.ready.1 in
          let fit = fit-some code (f mail) next z.ready.4 in
          let t = or_bare (tip end) in
          made-by code p i old new z.process z.there (looked p (kind_of kind) takes end t.peer mail (drop 1 t.inbox) fit.0) (life_of next) None (record { entry = entry; changed = changed })
          (ap (by_want tip d p) z.ready.2 ∙ looks-changed p (kind_of kind) takes end f t.peer t.inbox mail fit.0 z.ready.3 fit.1)
          (named ∙ (λ j. record { process = p; kind = kind_of kind; weight = 1; end = Some end; second = None; message = z.ready.5 j; child = None; channel = None; channel2 = None }))
          fit.2 tt (did.process z.process z.there) did.tip did.processes did.ends
          (λ j h n l. looked-else takes end (record { peer = t.peer; inbox = drop 1 t.inbox }) j (λ a. n (subst (λ (xs : List ℕ). IsAmong xs j) (sym at) a)) l)

    -- Identities
    module _ (end second first_peer second_peer : ℕ) (z : ComesTo code p i old (r.Links end second first_peer second_peer)) where
      pub link-ends : (end < length old.ends.items) × (second < length old.ends.items) × (first_peer < length old.ends.items) × (second_peer < length old.ends.items)
      link-ends =
          let h = within z.process z.there (w.Links end second) z.ready.0 in
          (end-below old.ends.items end h.0, end-below old.ends.items second h.1, peer-below end first_peer z.ready.1, peer-below second second_peer z.ready.2)

      pub link-apart : (end ≢ second) × (first_peer ≢ end) × (first_peer ≢ second) × (second_peer ≢ end) × (second_peer ≢ second) × (first_peer ≢ second_peer)
      link-apart = (
        z.ready.3,
        λ e. wired.peers.other end (z.ready.1 ∙ ap Some e),
        z.ready.4,
        λ e. z.ready.4 (let q : Some first_peer ≡ Some second = sym z.ready.1 ∙ wired.peers.back second end (z.ready.2 ∙ ap Some e) in cc q),
        λ e. wired.peers.other second (z.ready.2 ∙ ap Some e),
        λ e. z.ready.3 (let q : Some end ≡ Some second = sym (wired.peers.back end first_peer z.ready.1) ∙ wired.peers.back second first_peer (z.ready.2 ∙ ap Some (sym e)) in cc q),
      )

      pub link-stepped : (new : Config) (entry : Entry) (result : Result Changed AllocError) →
          entry_of entry ≡ record { process = p; kind = k.Link; weight = 1; end = Some end; second = Some second; message = None; child = None; channel = None; channel2 = None } →
          IfOk result (λ changed. changed_ends changed ≡ end ∷ second ∷ first_peer ∷ second_peer ∷ []) →
          OnOk result (Did old new p Ended None 0 (tips_joined tip end second first_peer second_peer)) →
          OnErr result (IsSame old new) → Stepped code p i old new (made_of entry result)
      link-stepped new entry (Err error) named at did same = same
      link-stepped new entry (Ok changed) named at did same =
          made-by code p i old new z.process z.there (linked tip p end second first_peer second_peer) Ended None (record { entry = entry; changed = changed })
          (ap (by_want tip d p) z.ready.0 ∙ links-changed tip p end second first_peer second_peer (or_bare (tip end)).peer (or_bare (tip second)).peer z.ready.1 z.ready.2 z.ready.3 z.ready.4)
          named refl tt (did.process z.process z.there) did.tip did.processes did.ends
          (λ j h n l. linked-else tip end second first_peer second_peer j (λ a. n (subst (λ (xs : List ℕ). IsAmong xs j) (sym at) a)) l)

    given-at : (q : Proc) (given : Option Mail) → procs old.processes.items p ≡ Some q → IsGiven q.life given → IsGivenAt (procs old.processes.items p) given
    given-at q given h g = subst (λ o. IsGivenAt o given) (sym h) g

    -- Services that take a message
    module _ (kind : Kind) (end : ℕ) (told message : Message) (z : ComesTo code p i old (r.Hears kind end told message)) where
      goes : GoesWith code end z.ready.0 message z.process.life
      goes = hearing code d z.process.life (IsEnd tip) (life-within z.process z.there) i (kind_of kind) end z.ready.0 message z.ready.1 z.ready.3

      pub hear-end : end < length old.ends.items
      hear-end = end-below old.ends.items end (within z.process z.there (w.Looks (kind_of kind) true end (hears end z.ready.0)) z.ready.1)

      pub hear-given : IsGivenAt (procs old.processes.items p) (Some message)
      hear-given = given-at z.process (Some message) z.there goes.0

      pub hear-stepped : (new : Config) (entry : Entry) (result : Result Changed AllocError) →
          entry_of entry ≡ record { process = p; kind = kind_of kind; weight = 1; end = Some end; second = None; message = Some told; child = None; channel = None; channel2 = None } →
          IfOk result (λ changed. changed_ends changed ≡ end ∷ []) →
          OnOk result (DidAttend old new p (Hears message) (taken tip end)) →
          OnErr result (IsSame old new) → Stepped code p i old new (made_of entry result)
      hear-stepped new entry (Err error) named at did same = same
      hear-stepped new entry (Ok changed) named at did same =
          let q = z.process in
          let served = did.process q z.there in
          let f = hears end z.ready.0 in
          let n = goes.1 served.life served.goes in
          let t = or_bare (tip end) in
          made-by code p i old new q z.there (looked p (kind_of kind) true end t.peer message (drop 1 t.inbox) n.0) served.life None (record { entry = entry; changed = changed })
          (ap (by_want tip d p) z.ready.1 ∙ looks-changed p (kind_of kind) true end f t.peer t.inbox message n.0 z.ready.2 n.1)
          (named ∙ (λ j. record { process = p; kind = kind_of kind; weight = 1; end = Some end; second = None; message = Some (z.ready.4 j); child = None; channel = None; channel2 = None }))
          n.2 tt served.process did.tip (did.processes ∙ omega arith) (did.ends ∙ omega arith)
          (λ j h m l. looked-else true end (record { peer = t.peer; inbox = drop 1 t.inbox }) j (λ a. m (subst (λ (xs : List ℕ). IsAmong xs j) (sym at) a)) l)

    -- Services that send a line
    module _ (end : ℕ) (told : Message) (z : ComesTo code p i old (r.Says end told)) where
      line : SaysLine z.ready.0
      line = says-line z.ready.0 z.ready.2

      wants : wanted code d z.process.life i ≡ line-sent end line.after line.line
      wants = z.ready.1 ∙ says-sent end z.ready.0 line

      goes2 : SaysWith end line.after line.line z.process.life
      goes2 = saying code d z.process.life (IsEnd tip) (life-within z.process z.there) i end line.after line.line wants

      pub say-end : owner tip end < length old.ends.items
      say-end = owner-below end (within z.process z.there (line-sent end line.after line.line) wants).0

      pub say-given : IsGivenAt (procs old.processes.items p) None
      say-given = given-at z.process None z.there goes2.0

      pub say-stepped : (new : Config) (entry : Entry) (result : Result Changed AllocError) →
          entry_of entry ≡ record { process = p; kind = k.ServeLine; weight = 1; end = Some end; second = None; message = Some told; child = None; channel = None; channel2 = None } →
          IfOk result (λ changed. DidSay old new p end (changed_ends changed)) →
          OnErr result (IsSame old new) → Stepped code p i old new (made_of entry result)
      say-stepped new entry (Err error) named did same = same
      say-stepped new entry (Ok changed) named did same =
          let q = z.process in
          let served = did.did.process q z.there in
          let n = goes2.1 served.life did.said served.goes in
          let send : on_end end did.said ≡ Some (end, Word line.line) = n.1 in
          let text : Some told ≡ Some (Word line.line) = z.ready.3 ∙ ap (option_map Word) line.next in
          made-by code p i old new q z.there (moved tip d p k.ServeLine (Some end) (record { send = Some (end, Word line.line); channels = []; child = None; next = w.Attends end line.after }))
          served.life None (record { entry = entry; changed = changed })
          (ap (by_want tip d p) wants)
          (named ∙ (λ j. record { process = p; kind = k.ServeLine; weight = 1; end = Some end; second = None; message = text j; child = None; channel = None; channel2 = None }))
          n.0 tt served.process (did.did.tip ∙ (λ j. written (sent (send j) tip) tip)) (did.did.processes ∙ omega arith) (did.did.ends ∙ omega arith)
          (λ j h m l. said-else (owner tip end) (arrives (Word line.line) (or_bare (tip (owner tip end)))) j
          (λ a. m (subst (λ (xs : List ℕ). IsAmong xs j) (sym (did.at ∙ (λ i2. owners tip (send i2)))) a)) l)

pub ruleset kinds = (move-stepped, look-stepped, link-stepped, hear-stepped, say-stepped)
