-- A step by number is the machine's.
use Rattle.std.proofs.Common.{◌≡◌, ◌⊎◌, inl, inr, ℕ, suc, Bool, true, false, List, [], ◌∷◌, Option, Some, None, IsSome, IfSome, map, option_map, if◌then◌else◌, refl, sym, ap, subst, ◌∙◌, eq-eqb, ne_eqb}
use Rattle.std.specs.List.{AllByRecursion}
use Rattle.campl_machine.specs.Names.{Path, Who, same_end}
use Rattle.campl_machine.specs.Machine.{Looks, Links, Stands, Breaks, performs, at, goes, looks_at, links_at}
use Rattle.campl_machine.proofs.Same.{same_end-refl}
use Rattle.campl_machine.proofs.Ends.{apart}
use Rattle.campl_service.specs.declared.phase.Want as phase
use Rattle.campl_service.specs.declared.phase.Want.TheVariants as want
use Rattle.campl_service.specs.Services as services
use Rattle.campl_meaning.specs.States as kinds
use Rattle.campl_meaning.specs.Wants.{serving_command}
use Rattle.campl_meaning.specs.States.{Message, Kind}
use Rattle.campl_meaning.specs.Reductions.{Event}
use Rattle.campl_code.specs.Instructions.{Code}
use Rattle.campl_code.specs.Frames.{frame_at}
use Rattle.campl_code.specs.Runs.{Outcome, Gave, Broke, Pauses, Short, IsOver}
use Rattle.campl_code.proofs.Resume.{settled}
use Rattle.campl_code_bodies.specs.Commands as commands
use Rattle.campl_code_bodies.specs.Commands.{Cell, CodeState, RunsCode, Beside, CodeCommand, run_of}
use Rattle.campl_code_bodies.specs.Kept.{kept_of, kept_command}
use Rattle.campl_code_bodies.specs.Running.{CodeConfiguration, IsEnough, wants, oldest, oldest_in, event_of, command_beside, reduce_command, reduce_state, reduce_code}
use Rattle.campl_cells.specs.Parts.{Mail, Held, Life, Ended, Runs, Serves, Proc, Parts, or_bare, or_else}
use Rattle.campl_cells.specs.Wants as w
use Rattle.campl_cells.specs.Wants.{Drawn, Start, Next, Move, Want, Rests, wanted}
use Rattle.campl_cells.specs.Steps as steps
use Rattle.campl_cells.specs.Steps.{Entry, Change, moved, looked, looks_in, linked, by_want, change_of, after, first_of, second_of, child_number, IsLifeOf, IsChildOf}
use Rattle.campl_cells.specs.Stands.{Naming, StandsFor, Grows, IsFresh, IsNode, IsCell, IsServing, IsEnd, LifeWithin, MailWithin, StepsAlike, cell_of, named_mail, named_child, named_channels, named_entry, IsEntryOf}
use Rattle.campl_cells.proofs.Puts.{same, if-here, is-there}
use Rattle.campl_cells.proofs.Tips.{peer-there}
use Rattle.campl_cells.proofs.Together.{tips-of}
use Rattle.campl_cells.proofs.Renamed.{renamed, ends-same}
use Rattle.campl_cells.proofs.Alike.{ChildAs, FitsAs, FewChannels, MovesAs, WantAs, named_send, pairs}
use Rattle.campl_cells.proofs.Doing.{NamesDrawn, kept-as}
use Rattle.campl_cells.proofs.Serving.{serving-as}
use Rattle.campl_cells.proofs.Fresh.{drawn-naming, drawn-names, drawn-grows}
use Rattle.campl_cells.proofs.Moving.{BirthNames, Names, moves-stand, moves-entry}
use Rattle.campl_cells.proofs.Looking.{looks-stand, links-stand, looks-entry, links-entry}

-- Entries and events

sent-named : (n : Naming) (o : Option (ℕ × Mail)) → option_map (λ s. s.1) (named_send n.end o) ≡ option_map (named_mail n.end) (option_map (λ s. s.1) o)
sent-named n None = refl
sent-named n (Some s) = refl

child-named : (code : Code) (n : Naming) (There : ℕ → Type 0) (d : Drawn) (s : Option Start) (children : List (Who × CodeState)) → ChildAs code n There d s children →
    map (λ child. child.0) children ≡ named_child n (child_number d s)
child-named code n There d None [] h = refl
child-named code n There d (Some s) (x ∷ []) h = ap (λ w. w ∷ []) h.0
child-named code n There d None (x ∷ xs) h = absurd h
child-named code n There d (Some s) [] h = absurd h
child-named code n There d (Some s) (x ∷ y ∷ xs) h = absurd h

channels-named : (n : Naming) (d : Drawn) (cs : List ℕ) → FewChannels d cs → pairs n.end cs ≡ named_channels n (first_of cs) (second_of cs)
channels-named n d [] few = refl
channels-named n d (a ∷ []) few = refl
channels-named n d (a ∷ b ∷ []) few = refl
channels-named n d (a ∷ b ∷ x ∷ cs) few = absurd few

module _ (code : Code) (n : Naming) (m : Parts) (c : CodeConfiguration) (z : StandsFor code n m c) (d : Drawn) (fresh : IsFresh d m)
    (p : ℕ) (q : Proc) (there : m.process p ≡ Some q) where
  abbrev who : Who
  who = n.who p

  -- the event of the entry, and parts that stand under the same naming, and have the numbers of the entry
  abbrev Same : Option (Event × CodeConfiguration) → Option Change → Type 0
  Same None None = Unit {0}
  Same (Some r) (Some change) = (r.0 ≡ named_entry n change.entry) ×
      ((life : Life) (child : Option Life) → IsLifeOf code change.next life → IsChildOf code change.child child →
      StandsFor code n (after d m p q change life child) r.1 × IsEntryOf (after d m p q change life child) change.entry)
  Same (Some r) None = ⊥
  Same None (Some change) = ⊥

  abbrev reduces : CodeCommand → Option CodeConfiguration → Option (Event × CodeConfiguration)
  reduces command o = option_map (λ d. (event_of c command, d)) o

  rests : (command : CodeCommand) → (command.act ≡ Stands) ⊎ (command.act ≡ Breaks) → reduce_command c who command ≡ None
  rests command (inl e) = ap (λ a. reduces command (performs c who a)) e
  rests command (inr e) = ap (λ a. reduces command (performs c who a)) e

  moves : (kind : Kind) (end : Option ℕ) (v : Move) (command : CodeCommand) → Names n d p q.steps v.channels v.child → MovesAs code n m.tip d who q.steps kind end v command →
      Same (reduce_command c who command) (Some (moved m.tip d p kind end v))
  moves kind end v command names a = subst (λ x. Same (reduce_command c who x) (Some (moved m.tip d p kind end v))) (sym a.is) (
    (λ i. record {
      kind = kind;
      end = option_map n.end end;
      second = None;
      message = sent-named n v.send i;
      children = child-named code n _ d v.child a.children a.bears i;
      channels = channels-named n d v.channels a.few i;
    }),
    λ life child is born. (
      moves-stand code n m c z d fresh p q there kind end v names a.few a.sending a.state a.children a.goes a.bears life child is born,
      moves-entry code n m c z d fresh p q there kind end v names a.few a.sending a.end_there life child born,
    ),
  )

  -- Looks

  partner-at : (e f : ℕ) → (or_bare (m.tip e)).peer ≡ Some f → c.partner (n.end e) ≡ Some (n.end f)
  partner-at e f pf = (tips-of code n m c z).partner_is e (peer-there (m.tip e) f pf) ∙ ap (option_map n.end) pf

  owed-at : (e f : ℕ) → (or_bare (m.tip e)).peer ≡ Some f → c.owed (n.end f) ≡ map (named_mail n.end) (or_bare (m.tip e)).inbox
  owed-at e f pf = ap (λ o. c.owed (n.end (or_else o e))) (sym pf) ∙ (tips-of code n m c z).owed_is e (peer-there (m.tip e) f pf)

  module _ (kind : Kind) (takes : Bool) (e : ℕ) (g : Mail → Option Next) (look : Message → Option CodeState) where
    abbrev command : CodeCommand
    command = record { kind = kind; end = Some (n.end e); second = None; act = Looks takes (n.end e) look }

    module _ (f : ℕ) (pf : (or_bare (m.tip e)).peer ≡ Some f) (mail : Mail) (rest : List Mail) (il : (or_bare (m.tip e)).inbox ≡ mail ∷ rest) where
      within : MailWithin (IsEnd m.tip) mail
      within = (subst (AllByRecursion (MailWithin (IsEnd m.tip))) il ((tips-of code n m c z).carried e)).0

      owed-is : c.owed (n.end f) ≡ named_mail n.end mail ∷ map (named_mail n.end) rest
      owed-is = owed-at e f pf ∙ ap (map (named_mail n.end)) il

      message-is : (b : Bool) → (if b then oldest c (c.partner (n.end e)) else None) ≡ option_map (named_mail n.end) (if b then Some mail else None)
      message-is true = ap (oldest c) (partner-at e f pf) ∙ ap oldest_in owed-is
      message-is false = refl

      performs-is : performs c who (Looks takes (n.end e) look) ≡ goes c who takes (n.end f) (look (named_mail n.end mail))
      performs-is = ap (λ o. at o None (λ z. looks_at c who takes look z (c.owed z))) (partner-at e f pf) ∙ ap (looks_at c who takes look (n.end f)) owed-is

      fitting : (o : Option Next) (r : Option CodeState) → FitsAs code n (IsEnd m.tip) who (suc q.steps) o r →
          Same (reduces command (goes c who takes (n.end f) r)) (option_map (looked p kind takes e (Some f) mail rest) o)
      fitting None None h = tt
      fitting (Some next) (Some s) h = (
        (λ i. record { kind = kind; end = Some (n.end e); second = None; message = message-is takes i; children = []; channels = [] }),
        λ life child is born. (
          looks-stand code n m c z d fresh p q there takes kind e f pf mail rest il next s h life child is born,
          looks-entry code n m c z d fresh p q there takes kind e f pf mail rest within next life child,
        ),
      )
      fitting None (Some s) h = absurd h
      fitting (Some next) None h = absurd h

      found : FitsAs code n (IsEnd m.tip) who (suc q.steps) (g mail) (look (named_mail n.end mail)) → Same (reduce_command c who command) (looks_in p kind takes e g (Some f) (mail ∷ rest))
      found h = subst (λ o. Same (reduces command o) (looks_in p kind takes e g (Some f) (mail ∷ rest))) (sym performs-is) (fitting (g mail) (look (named_mail n.end mail)) h)

    looking : IsSome (m.tip e) → ((mail : Mail) → MailWithin (IsEnd m.tip) mail → FitsAs code n (IsEnd m.tip) who (suc q.steps) (g mail) (look (named_mail n.end mail))) →
        (o : Option ℕ) → (or_bare (m.tip e)).peer ≡ o → (l : List Mail) → (or_bare (m.tip e)).inbox ≡ l → Same (reduce_command c who command) (looks_in p kind takes e g o l)
    looking h fits None pf l il =
        let alone : c.partner (n.end e) ≡ None = (tips-of code n m c z).partner_is e h ∙ ap (option_map n.end) pf in
        subst (λ o. Same (reduces command o) None) (sym (ap (λ o. at o None (λ z. looks_at c who takes look z (c.owed z))) alone)) tt
    looking h fits (Some f) pf [] il =
        let nothing : c.owed (n.end f) ≡ [] = owed-at e f pf ∙ ap (map (named_mail n.end)) il in
        subst (λ o. Same (reduces command o) None) (sym (ap (λ o. at o None (λ z. looks_at c who takes look z (c.owed z))) (partner-at e f pf) ∙ ap (looks_at c who takes look (n.end f)) nothing)) tt
    looking h fits (Some f) pf (mail ∷ rest) il = found f pf mail rest il (fits mail (within f pf mail rest il))

  -- Identities

  module _ (x y : ℕ) where
    abbrev link : CodeCommand
    link = record { kind = kinds.Link; end = Some (n.end x); second = Some (n.end y); act = Links (n.end x) (n.end y) }

    linking-two : (x2 y2 : ℕ) → (or_bare (m.tip x)).peer ≡ Some x2 → (or_bare (m.tip y)).peer ≡ Some y2 →
        Same (reduces link (links_at c who (n.end x) (n.end y) (Some (n.end x2)) (Some (n.end y2)))) (steps.links_at m.tip p x y (Some x2) (Some y2))
    linking-two x2 y2 px py = elim (same x y) [
      | inl e ↦
          let a : same_end (n.end x) (n.end y) ≡ true = ap (λ k. same_end (n.end x) (n.end k)) (sym e) ∙ same_end-refl (n.end x) in
          rw (a, eq-eqb x y e) tt
      | inr e ↦
          let a : same_end (n.end x) (n.end y) ≡ false = apart (n.end x) (n.end y) (λ s. e (z.named.ends x y hx hy s)) in
          elim (same x2 y) [
            | inl r ↦
                let b : same_end (n.end x2) (n.end y) ≡ true = ap (λ k. same_end (n.end x2) (n.end k)) (sym r) ∙ same_end-refl (n.end x2) in
                rw (a, b, ne_eqb x y e, eq-eqb x2 y r) tt
            | inr r ↦
                let b : same_end (n.end x2) (n.end y) ≡ false = apart (n.end x2) (n.end y) (λ s. r (z.named.ends x2 y hx2 hy s)) in
                rw (a, b, ne_eqb x y e, ne_eqb x2 y r) (refl, λ life child is born. (links-stand code n m c z d fresh p q there x y x2 y2 px py e r life child is born, links-entry code n m c z d fresh p q there x y x2 y2 hx hy life child))
          ]
    ]
      where
        hx : IsSome (m.tip x)
        hx = peer-there (m.tip x) x2 px

        hy : IsSome (m.tip y)
        hy = peer-there (m.tip y) y2 py

        hx2 : IsSome (m.tip x2)
        hx2 = peer-there (m.tip x2) x (z.wired.peers.back x x2 px)

    linking-at : IsSome (m.tip x) → IsSome (m.tip y) → (o r : Option ℕ) → (or_bare (m.tip x)).peer ≡ o → (or_bare (m.tip y)).peer ≡ r →
        Same (reduces link (links_at c who (n.end x) (n.end y) (c.partner (n.end x)) (c.partner (n.end y)))) (steps.links_at m.tip p x y o r)
    linking-at tx ty o r px py =
        subst (λ a. Same (reduces link (links_at c who (n.end x) (n.end y) a (c.partner (n.end y)))) (steps.links_at m.tip p x y o r)) (sym ((tips-of code n m c z).partner_is x tx ∙ ap (option_map n.end) px))
        (subst (λ a. Same (reduces link (links_at c who (n.end x) (n.end y) (option_map n.end o) a)) (steps.links_at m.tip p x y o r)) (sym ((tips-of code n m c z).partner_is y ty ∙ ap (option_map n.end) py))
        (go o r px py))
      where
        go : (o r : Option ℕ) → (or_bare (m.tip x)).peer ≡ o → (or_bare (m.tip y)).peer ≡ r →
            Same (reduces link (links_at c who (n.end x) (n.end y) (option_map n.end o) (option_map n.end r))) (steps.links_at m.tip p x y o r)
        go None r px py = tt
        go (Some x2) None px py = tt
        go (Some x2) (Some y2) px py = linking-two x2 y2 px py

  -- Any want

  abbrev NamesOf : Want → Type 0
  NamesOf (w.Moves kind end v) = Names n d p q.steps v.channels v.child
  NamesOf Rests = Unit {0}
  NamesOf (w.Looks kind takes e g) = Unit {0}
  NamesOf (w.Links x y) = Unit {0}

  by-want : (o : Want) (x : CodeCommand) → NamesOf o → WantAs code n m.tip d who q.steps o x → Same (reduce_command c who x) (by_want m.tip d p o)
  by-want Rests x names a = subst (λ o. Same o None) (sym (rests x a)) tt
  by-want (w.Moves kind end v) x names a = moves kind end v x names a
  by-want (w.Looks kind takes e g) x names a =
      subst (λ x. Same (reduce_command c who x) (looks_in p kind takes e g (or_bare (m.tip e)).peer (or_bare (m.tip e)).inbox)) (sym a.is)
      (looking kind takes e g a.look a.there a.fits (or_bare (m.tip e)).peer refl (or_bare (m.tip e)).inbox refl)
  by-want (w.Links x y) o names a =
      subst (λ o. Same (reduce_command c who o) (steps.links_at m.tip p x y (or_bare (m.tip x)).peer (or_bare (m.tip y)).peer)) (sym a.is)
      (linking-at x y a.there_x a.there_y (or_bare (m.tip x)).peer (or_bare (m.tip y)).peer refl refl)

  names-any : BirthNames n d p q.steps → (o : Want) → NamesOf o
  names-any b Rests = tt
  names-any b (w.Moves kind end v) = inr b
  names-any b (w.Looks kind takes e g) = tt
  names-any b (w.Links x y) = tt

  says-names : (e : ℕ) (o : Option services.Action) → NamesOf (w.says e o)
  says-names e None = tt
  says-names e (Some a) = inl (refl, refl)

  -- a service bears nothing
  serving-names : (e : ℕ) (s : services.Serving) (o : phase.Want) → NamesOf (w.serving_want e s o)
  serving-names e s want.Pick = tt
  serving-names e s want.Text = tt
  serving-names e s want.Send = says-names e (services.action s None)
  serving-names e s want.Spent = tt
  serving-names e s want.Closed = tt

wanted-kept : (code : Code) (c : Cell) (path : Path) (branch : ℕ) (o : Outcome) → IsOver o → commands.wanted code c path branch o ≡ kept_command code c path branch (kept_of o)
wanted-kept code c path branch (Gave at vars vs left) over = refl
wanted-kept code c path branch (Broke reason left) over = refl
wanted-kept code c path branch (Pauses f fs) over = refl
wanted-kept code c path branch Short over = absurd over

module _ (code : Code) (n : Naming) (m : Parts) (c : CodeConfiguration) (z : StandsFor code n m c) (d : Drawn) (fresh : IsFresh d m)
    (p : ℕ) (q : Proc) (there : m.process p ≡ Some q) (i : ℕ) where
  -- the numbers of the entry are in use behind the change
  abbrev EntryThere : Option Change → Type 0
  EntryThere None = Unit {0}
  EntryThere (Some change) = (life : Life) (child : Option Life) → IsLifeOf code change.next life → IsChildOf code change.child child → IsEntryOf (after d m p q change life child) change.entry

  abbrev Both : Option (Event × CodeConfiguration) → Option Change → Type 0
  Both r o = StepsAlike code n d m p q r o × EntryThere o

  -- what stands under a naming that grew
  grown : (n2 : Naming) → Grows n n2 m → (r : Option (Event × CodeConfiguration)) (o : Option Change) → (z2 : StandsFor code n2 m c) → Same code n2 m c z2 d fresh p q there r o → Both r o
  grown n2 g None None z2 s = (tt, tt)
  grown n2 g (Some r) (Some change) z2 s = ((n2, g, s.0, λ life child is born. (s.1 life child is born).0), λ life child is born. (s.1 life child is born).1)
  grown n2 g (Some r) None z2 s = absurd s
  grown n2 g None (Some change) z2 s = absurd s

  -- the command of a process that runs
  module _ (n2 : Naming) (g : Grows n n2 m) (z2 : StandsFor code n2 m c) (h : Held) (is : IsCell code n2.end (n2.who p) q.steps h (c.nodes (n2.who p))) (drawn : NamesDrawn n2 d is.path (suc q.steps))
      (held : (x : ℕ) → IfSome (h.ends x) (IsEnd m.tip)) (k : ℕ) (enough : IsEnough code k (c.nodes (n2.who p))) where
    abbrev cell : Cell
    cell = cell_of n2.end h q.steps is.at is.vars is.spent

    over : IsOver (run_of code k cell)
    over = subst (IsEnough code k) is.runs enough

    command-is : reduce_code code k c (n2.who p) i ≡ reduce_command c (n2.who p) (kept_command code cell is.path i h.kept)
    command-is =
        let settles : run_of code k cell ≡ run_of code is.kept.0 cell = settled code k is.kept.0 (frame_at cell.block cell.at cell.vars) [] cell.spent over is.kept.1 in
        let kept : commands.wanted code cell is.path i (run_of code k cell) ≡ kept_command code cell is.path i h.kept =
        ap (commands.wanted code cell is.path i) settles ∙ (wanted-kept code cell is.path i (run_of code is.kept.0 cell) is.kept.1 ∙ ap (kept_command code cell is.path i) (sym is.kept.2)) in
        ap (reduce_state code k c (n2.who p) i) is.runs
        ∙ (ap (λ w. reduce_command c (n2.who p) (wants code k w (RunsCode cell) i)) is.process ∙ ap (reduce_command c (n2.who p)) kept)

    running : Same code n2 m c z2 d fresh p q there (reduce_code code k c (n2.who p) i) (by_want m.tip d p (w.kept_want code d h i h.kept))
    running =
        subst (λ r. Same code n2 m c z2 d fresh p q there r (by_want m.tip d p (w.kept_want code d h i h.kept))) (sym command-is)
        (by-want code n2 m c z2 d fresh p q there (w.kept_want code d h i h.kept) (kept_command code cell is.path i h.kept)
        (names-any code n2 m c z2 d fresh p q there (record { path = is.path; named = is.process; drawn = drawn }) (w.kept_want code d h i h.kept))
        (kept-as code n2 m.tip d (n2.who p) q.steps is.path is.process h is.at is.vars is.spent is.kept held drawn i h.kept))

  run-alike : (h : Held) → q.life ≡ Runs h → IsCell code n.end (n.who p) q.steps h (c.nodes (n.who p)) → (k : ℕ) → IsEnough code k (c.nodes (n.who p)) →
      Both (reduce_code code k c (n.who p) i) (by_want m.tip d p (w.kept_want code d h i h.kept))
  run-alike h life is k enough =
      let n2 = drawn-naming n m d fresh is.path (suc q.steps) in
      let g : Grows n n2 m = drawn-grows n m d fresh is.path (suc q.steps) in
      let z2 : StandsFor code n2 m c = renamed code n n2 m c z g in
      let same_who : n2.who p ≡ n.who p = g.who p (is-there (m.process p) q there) in
      let held : LifeWithin (IsEnd m.tip) (Runs h) = subst (LifeWithin (IsEnd m.tip)) life (if-here (λ q. LifeWithin (IsEnd m.tip) q.life) (m.process p) q there (z.wired.held p)) in
      let is2 : IsCell code n2.end (n2.who p) q.steps h (c.nodes (n2.who p)) = record {
        path = is.path;
        process = same_who ∙ is.process;
        at = is.at;
        vars = is.vars;
        spent = is.spent;
        runs = ap c.nodes same_who
            ∙ (is.runs ∙ ap (λ (ends : commands.Ends). Some (RunsCode (record { block = h.block; at = is.at; vars = is.vars; ends = ends; steps = q.steps; spent = is.spent }))) (ends-same n.end n2.end (IsEnd m.tip) g.end h.ends held));
        kept = is.kept;
      } in
      subst (λ v. Both (reduce_code code k c v i) (by_want m.tip d p (w.kept_want code d h i h.kept))) same_who
      (grown n2 g (reduce_code code k c (n2.who p) i) (by_want m.tip d p (w.kept_want code d h i h.kept)) z2
      (running n2 g z2 h
      is2 (drawn-names n m d fresh is.path (suc q.steps)) held k (subst (λ v. IsEnough code k (c.nodes v)) (sym same_who) enough)))

  serve-alike : (e : ℕ) (s : services.Serving) → q.life ≡ Serves e s → IsServing n.end (n.who p) e s (c.nodes (n.who p)) → (k : ℕ) →
      Both (reduce_code code k c (n.who p) i) (by_want m.tip d p (w.serving_want e s (services.want s)))
  serve-alike e s life is k =
      let held : LifeWithin (IsEnd m.tip) (Serves e s) = subst (LifeWithin (IsEnd m.tip)) life (if-here (λ q. LifeWithin (IsEnd m.tip) q.life) (m.process p) q there (z.wired.held p)) in
      let command : CodeCommand = command_beside (serving_command (record { end = n.end e; serving = s }) (services.want s)) in
      let command-is : reduce_code code k c (n.who p) i ≡ reduce_command c (n.who p) command =
      ap (reduce_state code k c (n.who p) i) is.serves ∙ ap (λ v. reduce_command c (n.who p) (wants code k v (Beside (kinds.Serves (record { end = n.end e; serving = s }))) i)) is.service in
      grown n (record { who = λ j h. refl; end = λ j h. refl }) (reduce_code code k c (n.who p) i) (by_want m.tip d p (w.serving_want e s (services.want s))) z
      (subst (λ r. Same code n m c z d fresh p q there r (by_want m.tip d p (w.serving_want e s (services.want s)))) (sym command-is)
      (by-want code n m c z d fresh p q there (w.serving_want e s (services.want s)) command
      (serving-names code n m c z d fresh p q there e s (services.want s))
      (serving-as code n m.tip d (n.who p) q.steps is.number is.service e held s (services.want s))))

  both-alike : (k : ℕ) → IsEnough code k (c.nodes (n.who p)) → Both (reduce_code code k c (n.who p) i) (change_of code d m p q i)
  both-alike k enough = go q.life refl (if-here (λ q. IsNode code n.end (n.who p) q.steps q.life (c.nodes (n.who p))) (m.process p) q there (z.shows.process p))
    where
      go : (life : Life) → q.life ≡ life → IsNode code n.end (n.who p) q.steps life (c.nodes (n.who p)) → Both (reduce_code code k c (n.who p) i) (by_want m.tip d p (wanted code d life i))
      go Ended life is = subst (λ o. Both (reduce_state code k c (n.who p) i o) None) (sym is) (tt, tt)
      go (Runs h) life is = run-alike h life is k enough
      go (Serves e s) life is = serve-alike e s life is k

  -- a step by number is the machine's
  pub step-alike : (k : ℕ) → IsEnough code k (c.nodes (n.who p)) → StepsAlike code n d m p q (reduce_code code k c (n.who p) i) (change_of code d m p q i)
  step-alike k enough = (both-alike k enough).0

  pub entry-there : (k : ℕ) → IsEnough code k (c.nodes (n.who p)) → (change : Change) → change_of code d m p q i ≡ Some change →
      (life : Life) (child : Option Life) → IsLifeOf code change.next life → IsChildOf code change.child child → IsEntryOf (after d m p q change life child) change.entry
  entry-there k enough change e = subst EntryThere e (both-alike k enough).1

-- there are enough instructions for the expressions of a process
pub enough-there : (code : Code) (n : Naming) (m : Parts) (c : CodeConfiguration) → StandsFor code n m c → (p : ℕ) (q : Proc) → m.process p ≡ Some q → (k : ℕ) × IsEnough code k (c.nodes (n.who p))
enough-there code n m c z p q there = go q.life (if-here (λ q. IsNode code n.end (n.who p) q.steps q.life (c.nodes (n.who p))) (m.process p) q there (z.shows.process p))
  where
    go : (life : Life) → IsNode code n.end (n.who p) q.steps life (c.nodes (n.who p)) → (k : ℕ) × IsEnough code k (c.nodes (n.who p))
    go Ended is = (0, subst (IsEnough code 0) (sym is) tt)
    go (Runs h) is = (is.kept.0, subst (IsEnough code is.kept.0) (sym is.runs) is.kept.1)
    go (Serves e s) is = (0, subst (IsEnough code 0) (sym is.serves) tt)
