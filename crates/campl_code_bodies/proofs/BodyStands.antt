-- The code that is generated for a body stands for it, wherever it stands.
use Rattle.std.proofs.Common.{◌≡◌, ◌∙◌, refl, sym, ap, subst, arith, ℕ, zero, suc, ◌+◌, ◌<◌, ◌≤◌, Bool, true, false, not, List, [], ◌∷◌, ◌++◌, Option, Some, None, if◌then◌else◌, length, length-append, slice_get, eq-eqb, eqb-true, true≢false}
use Rattle.std.specs.Prelude.{option_map}
use Rattle.std.proofs.lemmas.Option.{slice_get_past}
use Rattle.campl_tree.specs.declared.place.Ident.{Ident}
use Rattle.campl_tree.specs.declared.process.Binder.{Binder}
use Rattle.campl_tree.specs.declared.process.Binder.TheVariants as binder
use Rattle.campl_tree.specs.Plain.Expr as e
use Rattle.campl_tree.specs.Plain.Expr.{Expr, Exprs}
use Rattle.campl_tree.specs.Plain.Process as b
use Rattle.campl_tree.specs.Plain.Process.{Body, HcaseRows, Branches, CaseRows, Parts, Link, Header}
use Rattle.campl_tree.specs.Plain.Decl.{ProcessDecl, Data, Protocol, Coprotocol, Function, Process}
use Rattle.campl_types.specs.Names.{Name, same_name, found}
use Rattle.campl_types.proofs.Names.{same-is}
use Rattle.campl_types.specs.World.{World, process_named}
use Rattle.campl_types.specs.Matching.{number_of, is_number}
use Rattle.campl_types.specs.Patterns.{bound_in}
use Rattle.campl_types.specs.Free.{is_free}
use Rattle.campl_types.specs.Linear.{body_rows, receives_on}
use Rattle.campl_peel.specs.Numbered.{last_first}
use Rattle.campl_peel.specs.Plugging.{stands_in, side_in, links_to, without_link}
use Rattle.campl_peel.specs.Terms.{those}
use Rattle.campl_types.specs.Matching.{row_picked}
use Rattle.campl_code.specs.Instructions.{Instr, Block, Code}
use Rattle.campl_code.specs.Instructions as i
use Rattle.campl_code.specs.Numbers.{Numbers, numbered, names, AllBelow}
use Rattle.campl_code.specs.Compiled.{decision_for}
use Rattle.campl_code.specs.Stands.{here, all_stand}
use Rattle.campl_code.specs.Generated.{or_zero, code_of, code_of_all}
use Rattle.campl_code.specs.CaseDecisions.{cases_in, decisions_of}
use Rattle.campl_code.specs.Needs.{IsKnown}
use Rattle.campl_code.proofs.Standing.{HasAt, has_front, has_back, code_stands, all_of_stand, below-spares, below-more, below-numbered}
use Rattle.campl_code.proofs.Flattened.{decision-stands}
use Rattle.campl_code.proofs.Whole.{many, decided, decided_all}
use Rattle.campl_code_bodies.specs.Bodies.{Channels, without, IsSpare, only, are_numbered, binds, receives_at, processes_of, StandsBody, put, get, hput, split, close, halt, halt_at, hcase, fork, plug, race, case, link, link_neg, go, StandsHcase, no_rows, row, StandsRace, no_branches, branch as race_row, StandsCases, no_cases, case_row, StandsPeels, last, peel}
use Rattle.campl_code_bodies.specs.BodyCode.{Made, number, all_numbers, process_number, hcase_made, hcase_starts, start_of, listed, count_hcase, race_made, race_starts, case_made, case_starts, link_name, peels_made, body_made}
use Rattle.campl_code_bodies.specs.BodyNeeds.{AreHeld, HcaseNeeds, RaceNeeds, CaseNeeds, PeelsNeed, BodyNeeds}

-- Numbers

below-without : (x : Name) (n : ℕ) (cs : Channels) → AllBelow n cs → AllBelow n (without x cs)
below-without x n [] h = tt
below-without x n (c ∷ cs) h = go (same_name x c.0) (below-without x n cs h.1)
  where
    go : (b : Bool) → AllBelow n (without x cs) → AllBelow n (if b then without x cs else c ∷ without x cs)
    go true k = k
    go false k = (h.0, k)

below-those : (keep : Name → Bool) (n : ℕ) (cs : Channels) → AllBelow n cs → AllBelow n (those keep cs)
below-those keep n [] h = tt
below-those keep n (c ∷ cs) h = go (keep c.0) (below-those keep n cs h.1)
  where
    go : (b : Bool) → AllBelow n (those keep cs) → AllBelow n (if b then c ∷ those keep cs else those keep cs)
    go true k = (h.0, k)
    go false k = k

below-spare : (n m : ℕ) (cs : Channels) → n ≤ m → AllBelow n cs → IsSpare m cs
below-spare n m [] l h = tt
below-spare n m (c ∷ cs) l h = ((λ same. omega (arith, h.0, same)), below-spare n m cs l h.1)

numbered-held : (xs : List Ident) (cs : Channels) → AreHeld xs cs → are_numbered xs cs (all_numbers xs cs)
numbered-held [] cs h = refl
numbered-held (x ∷ xs) cs h =
    let r = numbered-held xs cs h.1 in
    (h.0.0, all_numbers xs cs, ap (λ (o : Option ℕ). or_zero o ∷ all_numbers xs cs) h.0.1, h.0.1, r)

-- a known process has its number
abbrev IsNumbered : World → Name → ProcessDecl → Type 0
IsNumbered w x d = (g : ℕ) × (process_number w x ≡ Some g) × (slice_get (processes_of w) g ≡ Some d)

pub process-numbered : (w : World) (x : Name) (d : ProcessDecl) → process_named w x ≡ Some d → IsNumbered w x d
process-numbered [] x d h = absurd (cc h)
process-numbered (Process q ∷ ds) x d h = go (same_name x q.name.name) refl (process-numbered ds x d)
  where
    go : (c : Bool) → same_name x q.name.name ≡ c → (process_named ds x ≡ Some d → IsNumbered ds x d) → IsNumbered (Process q ∷ ds) x d
    go true k later = (0, rw k refl, rw k at h)
    go false k later = let r = later (rw k at h) in (suc r.0, rw k (ap (option_map suc) r.1), r.2)
process-numbered (Data q ∷ ds) x d h = go (same_name x q.name.name) refl (process-numbered ds x d)
  where
    go : (c : Bool) → same_name x q.name.name ≡ c → (process_named ds x ≡ Some d → IsNumbered ds x d) → IsNumbered ds x d
    go true k later = later (rw k at h)
    go false k later = later (rw k at h)
process-numbered (Protocol q ∷ ds) x d h = go (same_name x q.name.name) refl (process-numbered ds x d)
  where
    go : (c : Bool) → same_name x q.name.name ≡ c → (process_named ds x ≡ Some d → IsNumbered ds x d) → IsNumbered ds x d
    go true k later = later (rw k at h)
    go false k later = later (rw k at h)
process-numbered (Coprotocol q ∷ ds) x d h = go (same_name x q.name.name) refl (process-numbered ds x d)
  where
    go : (c : Bool) → same_name x q.name.name ≡ c → (process_named ds x ≡ Some d → IsNumbered ds x d) → IsNumbered ds x d
    go true k later = later (rw k at h)
    go false k later = later (rw k at h)
process-numbered (Function q ∷ ds) x d h = go (same_name x q.name.name) refl (process-numbered ds x d)
  where
    go : (c : Bool) → same_name x q.name.name ≡ c → (process_named ds x ≡ Some d → IsNumbered ds x d) → IsNumbered ds x d
    go true k later = absurd (cc (rw k at h))
    go false k later = later (rw k at h)

-- Lists of targets

listed-at : (f : ℕ → ℕ) (n k m : ℕ) → m < k → slice_get (listed f n k) m ≡ Some (f (n + m))
listed-at f n zero m l = absurd (omega arith)
listed-at f n (suc k) zero l = ap (λ (j : ℕ). Some (f j)) (omega arith)
listed-at f n (suc k) (suc m) l = let up : suc n + m ≡ n + suc m = omega arith in listed-at f (suc n) k m (omega (arith, l)) ∙ ap (λ (j : ℕ). Some (f j)) up

listed-length : (f : ℕ → ℕ) (n k : ℕ) → length (listed f n k) ≡ k
listed-length f n zero = refl
listed-length f n (suc k) = ap suc (listed-length f (suc n) k)

module _ (w : World) (all : Code) (code : List Instr) where
  -- a body's code stands for it, where fewer than n commands are deep
  abbrev Shown : ℕ → Type 0
  Shown n = (body : Body) (base dec free : ℕ) (ns : Numbers) (next : ℕ) (cs : Channels) → BodyNeeds w n body free ns next cs → HasAt code base (body_made w n body base dec free ns next cs).code → HasAt all.decisions dec (body_made w n body base dec free ns next cs).decisions
      → AllBelow free ns → AllBelow next cs → StandsBody w all code base body ns cs

  nothing : (base : ℕ) (ns : Numbers) → all_stand w all code base e.no_exprs ns base
  nothing base ns = here base refl

  single : (a : Expr) (base dec free : ℕ) (ns : Numbers) → IsKnown w (names ns) a → HasAt all.decisions dec (decisions_of w a) → AllBelow free ns → HasAt code base (code_of w false a base dec free ns) → all_stand w all code base (only a) ns (base + length (code_of w false a base dec free ns))
  single a base dec free ns known ds below h =
      let q = base + length (code_of w false a base dec free ns) in
      (q, code_stands w all code a false base dec free ns known (decided w all.decisions a dec ds) below h, here q refl)

  -- rows of `hcase`

  row-number : (k : Ident) (body : Body) (rows : HcaseRows) (m : ℕ) → number_of w k.name ≡ Some m → row_picked w m (b.hcase_row_then k body rows) ≡ Some body
  row-number k body rows m h = ap (λ o. if is_number o m then Some body else row_picked w m rows) h ∙ ap (λ t. if t then Some body else row_picked w m rows) (eq-eqb m m refl)

  picked-below : (n most : ℕ) (rows : HcaseRows) (free : ℕ) (ns : Numbers) (next : ℕ) (cs : Channels) (m : ℕ) (body : Body) → HcaseNeeds w (BodyNeeds w n) most rows free ns next cs → row_picked w m rows ≡ Some body → m < most
  picked-below n most b.no_hcase_rows free ns next cs m body h i = absurd (cc i)
  picked-below n most (b.hcase_row_then k own rows) free ns next cs m body h i = go (is_number (number_of w k.name) m) refl i (picked-below n most rows free ns next cs m body h.5)
    where
      go : (t : Bool) → is_number (number_of w k.name) m ≡ t → (if t then Some own else row_picked w m rows) ≡ Some body → (row_picked w m rows ≡ Some body → m < most) → m < most
      go true k' i later = let same : h.0 ≡ m = eqb-true h.0 m (ap (λ o. is_number o m) (sym h.1) ∙ k') in omega (arith, same, h.2)
      go false k' i later = later i

  later-start : (k : Ident) (body : Body) (rows : HcaseRows) (base : ℕ) (starts : List (Name × ℕ)) (targets : List ℕ) (own : ℕ) → number_of w k.name ≡ Some own → row_picked w own rows ≡ None
      → ((m : ℕ) (body' : Body) → row_picked w m (b.hcase_row_then k body rows) ≡ Some body' → slice_get targets m ≡ Some (start_of w ((k.name, base) ∷ starts) m))
      → (m : ℕ) (body' : Body) → row_picked w m rows ≡ Some body' → slice_get targets m ≡ Some (start_of w starts m)
  later-start k body rows base starts targets own number none at m body' i = go (is_number (number_of w k.name) m) refl
    where
      go : (t : Bool) → is_number (number_of w k.name) m ≡ t → slice_get targets m ≡ Some (start_of w starts m)
      go true h =
          let same : own ≡ m = eqb-true own m (ap (λ o. is_number o m) (sym number) ∙ h) in
          absurd (cc (sym none ∙ ap (λ j. row_picked w j rows) same ∙ i))
      go false h =
          at m body' (ap (λ t. if t then Some body else row_picked w m rows) h ∙ i) ∙ ap (λ t. Some (if t then base else start_of w starts m)) h

  hcase-rows : (n most : ℕ) → Shown n → (rows : HcaseRows) (targets : List ℕ) (base dec free : ℕ) (ns : Numbers) (next : ℕ) (cs : Channels) → HcaseNeeds w (BodyNeeds w n) most rows free ns next cs
      → ((m : ℕ) (body : Body) → row_picked w m rows ≡ Some body → slice_get targets m ≡ Some (start_of w (hcase_starts (body_made w n) rows base dec free ns next cs) m))
      → HasAt code base (hcase_made (body_made w n) rows base dec free ns next cs).code → HasAt all.decisions dec (hcase_made (body_made w n) rows base dec free ns next cs).decisions → AllBelow free ns → AllBelow next cs
      → StandsHcase w all code targets rows ns cs
  hcase-rows n most again b.no_hcase_rows targets base dec free ns next cs need at h d bv bc = no_rows targets ns cs
  hcase-rows n most again (b.hcase_row_then k body rows) targets base dec free ns next cs need at h d bv bc =
      let m = body_made w n body base dec free ns next cs in
      let rest = hcase_made (body_made w n) rows (base + length m.code) (dec + length m.decisions) free ns next cs in
      let starts = hcase_starts (body_made w n) rows (base + length m.code) (dec + length m.decisions) free ns next cs in
      let own : start_of w ((k.name, base) ∷ starts) need.0 ≡ base = ap (λ o. if is_number o need.0 then base else start_of w starts need.0) need.1 ∙ ap (λ t. if t then base else start_of w starts need.0) (eq-eqb need.0 need.0 refl) in
      row targets k body rows ns cs need.0 base need.1 (at need.0 body (row-number k body rows need.0 need.1) ∙ ap (λ (j : ℕ). Some j) own)
      (again body base dec free ns next cs need.4 (has_front code base m.code rest.code h) (has_front all.decisions dec m.decisions rest.decisions d) bv bc)
      (hcase-rows n most again rows targets (base + length m.code) (dec + length m.decisions) free ns next cs need.5 (λ m' body' j. later-start k body rows base starts targets need.0 need.1 need.3 at m' body' j) (has_back code base m.code rest.code h) (has_back all.decisions dec m.decisions rest.decisions d) bv bc)

  -- a body that begins by receiving on a channel begins with that receipt
  receipt : (n : ℕ) (x : Ident) (body : Body) (m : ℕ) (base dec free : ℕ) (ns : Numbers) (next : ℕ) (cs : Channels) → BodyNeeds w n body free ns next cs → found x.name cs ≡ Some m → receives_on x.name body ≡ true
      → HasAt code base (body_made w n body base dec free ns next cs).code → receives_at (slice_get code base) ≡ Some m
  receipt zero x body m base dec free ns next cs need held on h = absurd need
  receipt (suc n) x (b.Then (b.Get at v y) rest) m base dec free ns next cs need held on h =
      ap receives_at h.0 ∙ ap Some (ap (λ y. number y cs) (sym (same-is x.name y.name on)) ∙ ap or_zero held)
  receipt (suc n) x (b.Then (b.Split at y z u) rest) m base dec free ns next cs need held on h =
      ap receives_at h.0 ∙ ap Some (ap (λ y. number y cs) (sym (same-is x.name y.name on)) ∙ ap or_zero held)
  receipt (suc n) x (b.Hcase at y rows) m base dec free ns next cs need held on h =
      ap receives_at h.0 ∙ ap Some (ap (λ y. number y cs) (sym (same-is x.name y.name on)) ∙ ap or_zero held)
  receipt (suc n) x body m base dec free ns next cs need held on h = absurd (true≢false (sym on))

  race-rows : (n : ℕ) → Shown n → (rows : Branches) (base dec free : ℕ) (ns : Numbers) (next : ℕ) (cs : Channels) → RaceNeeds (BodyNeeds w n) rows free ns next cs
      → HasAt code base (race_made (body_made w n) rows base dec free ns next cs).code → HasAt all.decisions dec (race_made (body_made w n) rows base dec free ns next cs).decisions → AllBelow free ns → AllBelow next cs
      → StandsRace w all code (race_starts (body_made w n) rows base dec free ns next cs) rows ns cs
  race-rows n again b.no_branches base dec free ns next cs need h d bv bc = no_branches ns cs
  race-rows n again (b.branch_then x body rows) base dec free ns next cs need h d bv bc =
      let m = body_made w n body base dec free ns next cs in
      let rest = race_made (body_made w n) rows (base + length m.code) (dec + length m.decisions) free ns next cs in
      race_row base (race_starts (body_made w n) rows (base + length m.code) (dec + length m.decisions) free ns next cs) x body rows ns cs need.0.0 need.0.1
      (receipt n x body need.0.0 base dec free ns next cs need.2 need.0.1 need.1 (has_front code base m.code rest.code h))
      (again body base dec free ns next cs need.2 (has_front code base m.code rest.code h) (has_front all.decisions dec m.decisions rest.decisions d) bv bc)
      (race-rows n again rows (base + length m.code) (dec + length m.decisions) free ns next cs need.3 (has_back code base m.code rest.code h) (has_back all.decisions dec m.decisions rest.decisions d) bv bc)

  case-rows : (n : ℕ) → Shown n → (rows : CaseRows) (base dec free : ℕ) (ns : Numbers) (next : ℕ) (cs : Channels) → CaseNeeds (BodyNeeds w n) rows free ns next cs
      → HasAt code base (case_made (body_made w n) rows base dec free ns next cs).code → HasAt all.decisions dec (case_made (body_made w n) rows base dec free ns next cs).decisions → AllBelow free ns → AllBelow next cs
      → StandsCases w all code (case_starts (body_made w n) rows base dec free ns next cs) rows free ns cs
  case-rows n again b.no_case_rows base dec free ns next cs need h d bv bc = no_cases free ns cs
  case-rows n again (b.case_row_then q body rows) base dec free ns next cs need h d bv bc =
      let xs = bound_in q in
      let m = body_made w n body base dec (free + length xs) (numbered free xs ns) next cs in
      let rest = case_made (body_made w n) rows (base + length m.code) (dec + length m.decisions) free ns next cs in
      case_row base (case_starts (body_made w n) rows (base + length m.code) (dec + length m.decisions) free ns next cs) q body rows free ns cs (below-spares free (length xs) ns bv)
      (again body base dec (free + length xs) (numbered free xs ns) next cs need.0 (has_front code base m.code rest.code h) (has_front all.decisions dec m.decisions rest.decisions d) (below-numbered xs free ns bv) bc)
      (case-rows n again rows (base + length m.code) (dec + length m.decisions) free ns next cs need.1 (has_back code base m.code rest.code h) (has_back all.decisions dec m.decisions rest.decisions d) bv bc)

  -- a plug, by the name of the link that is peeled
  abbrev peel_made : ℕ → List Link → (h g : Header) (body c : Body) (parts : Parts) (base dec free : ℕ) → Numbers → (next : ℕ) → Channels → Name → Made
  peel_made n links h g body c parts base dec free ns next cs l =
      let rest = peels_made (body_made w n) (without_link l links) (b.part_then g c parts) (base + 1) dec free ns (suc next) ((l, next) ∷ those (λ x. not (stands_in h x)) cs) in
      let to = base + 1 + length rest.code in
      let child = body_made w n body to (dec + length rest.decisions) free ns (suc next) ((l, next) ∷ those (stands_in h) cs) in
      record { code = i.Peel next (side_in h l) to ∷ (rest.code ++ child.code); decisions = rest.decisions ++ child.decisions }

  peels : (n : ℕ) → Shown n → (parts : Parts) (links : List Link) (base dec free : ℕ) (ns : Numbers) (next : ℕ) (cs : Channels) → PeelsNeed (BodyNeeds w n) links parts free ns next cs
      → HasAt code base (peels_made (body_made w n) links parts base dec free ns next cs).code → HasAt all.decisions dec (peels_made (body_made w n) links parts base dec free ns next cs).decisions → AllBelow free ns → AllBelow next cs
      → StandsPeels w all code base links parts ns cs
  peels n again b.no_parts links base dec free ns next cs need h d bv bc = absurd need
  peels n again (b.part_then hd body b.no_parts) links base dec free ns next cs need h d bv bc = last base links hd body ns cs (again body base dec free ns next cs need h d bv bc)
  peels n again (b.part_then hd body (b.part_then g c parts)) links base dec free ns next cs need h d bv bc =
      let l = need.0.name.name in
      let same : link_name (links_to (b.part_then g c parts) hd links) ≡ l = ap link_name need.2 in
      let h' = subst (λ (x : Name). HasAt code base (peel_made n links hd g body c parts base dec free ns next cs x).code) same h in
      let d' = subst (λ (x : Name). HasAt all.decisions dec (peel_made n links hd g body c parts base dec free ns next cs x).decisions) same d in
      let others = (l, next) ∷ those (λ x. not (stands_in hd x)) cs in
      let own = (l, next) ∷ those (stands_in hd) cs in
      let rest = peels_made (body_made w n) (without_link l links) (b.part_then g c parts) (base + 1) dec free ns (suc next) others in
      let to = base + 1 + length rest.code in
      let child = body_made w n body to (dec + length rest.decisions) free ns (suc next) own in
      let one_up : next < suc next = omega arith in
      let more = λ (keep : Name → Bool). below-more next (suc next) (those keep cs) (omega arith) (below-those keep next cs bc) in
      peel base base links hd g body c parts ns cs need.0 need.1 next to (nothing base ns) need.2 h'.0
      (below-spare next next (those (stands_in hd) cs) (omega arith) (below-those (stands_in hd) next cs bc)) (below-spare next next (those (λ x. not (stands_in hd x)) cs) (omega arith) (below-those (λ x. not (stands_in hd x)) next cs bc))
      (again body to (dec + length rest.decisions) free ns (suc next) own need.4 (has_back code (base + 1) rest.code child.code h'.1) (has_back all.decisions dec rest.decisions child.decisions d') bv (one_up, more (stands_in hd)))
      (peels n again (b.part_then g c parts) (without_link l links) (base + 1) dec free ns (suc next) others need.3 (has_front code (base + 1) rest.code child.code h'.1) (has_front all.decisions dec rest.decisions child.decisions d') bv (one_up, more (λ x. not (stands_in hd x))))

  -- one command more
  step : (n : ℕ) → Shown n → Shown (suc n)
  step n again (b.Then (b.Put at a x) rest) base dec free ns next cs need h d bv bc =
      let z = code_of w false a base dec free ns in
      let q = base + length z in
      let op = i.Put (number x.name cs) in
      let m = body_made w n rest (q + 1) (dec + cases_in a) free ns next cs in
      let front = has_front code base (z ++ op ∷ []) m.code h in
      let len : base + length (z ++ op ∷ []) ≡ q + 1 = omega (arith, length-append z (op ∷ [])) in
      let rest_at = subst (λ (k : ℕ). HasAt code k m.code) len (has_back code base (z ++ op ∷ []) m.code h) in
      let ds = subst (λ (k : ℕ). HasAt all.decisions (dec + k) m.decisions) (many w a) (has_back all.decisions dec (decisions_of w a) m.decisions d) in
      put base q at a x rest ns cs need.1.0 (single a base dec free ns need.0 (has_front all.decisions dec (decisions_of w a) m.decisions d) bv (has_front code base z (op ∷ []) front)) need.1.1
      ((has_back code base z (op ∷ []) front).0 ∙ ap (λ o. Some (i.Put (or_zero o))) need.1.1) (again rest (q + 1) (dec + cases_in a) free ns next cs need.2 rest_at ds bv bc)
  step n again (b.Then (b.Get at v x) rest) base dec free ns next cs need h d bv bc =
      get base base at v x rest ns cs need.0.0 free (nothing base ns) need.0.1 (h.0 ∙ ap (λ o. Some (i.Get (or_zero o) free)) need.0.1) (below-spares free 1 ns bv)
      (again rest (base + 1) dec (suc free) (binds v free ns) next cs need.1 h.1 d (bound v) bc)
    where
      bound : (v : Binder) → AllBelow (suc free) (binds v free ns)
      bound (binder.Variable at' y) = (omega arith, below-more free (suc free) ns (omega arith) bv)
      bound (binder.Wildcard at') = below-more free (suc free) ns (omega arith) bv
  step n again (b.Then (b.Hput at con x) rest) base dec free ns next cs need h d bv bc =
      hput base base at con x rest ns cs need.2.0 need.0 (nothing base ns) need.2.1 need.1 (h.0 ∙ ap (λ o. Some (i.Pick (or_zero o) (or_zero (number_of w con.name)))) need.2.1 ∙ ap (λ o. Some (i.Pick need.2.0 (or_zero o))) need.1)
      (again rest (base + 1) dec free ns next cs need.3 h.1 d bv bc)
  step n again (b.Then (b.Split at x y z) rest) base dec free ns next cs need h d bv bc =
      let less = below-without x.name next cs bc in
      split base base at x y z rest ns cs need.0.0 next (suc next) (nothing base ns) need.0.1 (h.0 ∙ ap (λ o. Some (i.Split (or_zero o) next (suc next))) need.0.1) (λ same. omega (arith, same))
      (below-spare next next (without x.name cs) (omega arith) less) (below-spare next (suc next) (without x.name cs) (omega arith) less)
      (again rest (base + 1) dec free ns (suc (suc next)) ((z.name, suc next) ∷ (y.name, next) ∷ without x.name cs) need.1 h.1 d bv (omega arith, (omega arith, below-more next (suc (suc next)) (without x.name cs) (omega arith) less)))
  step n again (b.Then (b.Close at x) rest) base dec free ns next cs need h d bv bc =
      close base base at x rest ns cs need.0.0 (nothing base ns) need.0.1 (h.0 ∙ ap (λ o. Some (i.Close (or_zero o))) need.0.1) (again rest (base + 1) dec free ns next (without x.name cs) need.1 h.1 d bv (below-without x.name next cs bc))
  step n again (b.Halt at None) base dec free ns next cs need h d bv bc = halt base base at ns cs (nothing base ns) h.0
  step n again (b.Halt at (Some x)) base dec free ns next cs need h d bv bc = halt_at base base at x ns cs need.0 (nothing base ns) need.1 (h.0 ∙ ap (λ o. Some (i.Halt (Some (or_zero o)))) need.1)
  step n again (b.Hcase at x rows) base dec free ns next cs need h d bv bc =
      let starts = hcase_starts (body_made w n) rows (base + 1) dec free ns next cs in
      let most = count_hcase w rows in
      let targets = listed (start_of w starts) 0 most in
      hcase base base at x rows ns cs need.0.0 targets (nothing base ns) need.0.1 (h.0 ∙ ap (λ o. Some (i.Offer (or_zero o) targets)) need.0.1)
      (λ m none. slice_get_past targets m (omega (arith, listed-length (start_of w starts) 0 most, need.1 m none)))
      (hcase-rows n most again rows targets (base + 1) dec free ns next cs need.2
      (λ m body at'. listed-at (start_of w starts) 0 most m (picked-below n most rows free ns next cs m body need.2 at') ∙ (let z : 0 + m ≡ m = omega arith in ap (λ (j : ℕ). Some (start_of w starts j)) z)) h.1 d bv bc)
  step n again (b.Fork at x y first z second) base dec free ns next cs need h d bv bc =
      let less = below-without x.name next cs bc in
      let keep = λ (c : Name). is_free c first in
      let others = λ (c : Name). not (is_free c first) in
      let cl = (y.name, next) ∷ those keep (without x.name cs) in
      let cr = (z.name, suc next) ∷ those others (without x.name cs) in
      let l = body_made w n first (base + 1) dec free ns (suc (suc next)) cl in
      let to = base + 1 + length l.code in
      let r = body_made w n second to (dec + length l.decisions) free ns (suc (suc next)) cr in
      let kept = below-those keep next (without x.name cs) less in
      let left_over = below-those others next (without x.name cs) less in
      fork base base at x y first z second ns cs need.0.0 next (suc next) to (nothing base ns) need.0.1 (h.0 ∙ ap (λ o. Some (i.Fork (or_zero o) next (suc next) to)) need.0.1)
      (below-spare next next (those keep (without x.name cs)) (omega arith) kept) (below-spare next (suc next) (those others (without x.name cs)) (omega arith) left_over)
      (again first (base + 1) dec free ns (suc (suc next)) cl need.1 (has_front code (base + 1) l.code r.code h.1) (has_front all.decisions dec l.decisions r.decisions d) bv (omega arith, below-more next (suc (suc next)) (those keep (without x.name cs)) (omega arith) kept))
      (again second to (dec + length l.decisions) free ns (suc (suc next)) cr need.2 (has_back code (base + 1) l.code r.code h.1) (has_back all.decisions dec l.decisions r.decisions d) bv (omega arith, below-more next (suc (suc next)) (those others (without x.name cs)) (omega arith) left_over))
  step n again (b.Plug at links parts) base dec free ns next cs need h d bv bc = plug base at links parts ns cs need.0 (peels n again (last_first links parts) links base dec free ns next cs need.1 h d bv bc)
  step n again (b.Race at rows) base dec free ns next cs need h d bv bc =
      race base base at rows ns cs (race_starts (body_made w n) rows (base + 1) dec free ns next cs) (nothing base ns) h.0 (race-rows n again rows (base + 1) dec free ns next cs need h.1 d bv bc)
  step n again (b.Case at a rows) base dec free ns next cs need h d bv bc =
      let z = code_of w false a base dec free ns in
      let q = base + length z in
      let m = dec + cases_in a in
      let op = i.Case m free (case_starts (body_made w n) rows (q + 1) (m + 1) free ns next cs) in
      let own = decision_for w 1 (body_rows rows) in
      let rest = case_made (body_made w n) rows (q + 1) (m + 1) free ns next cs in
      let front = has_front code base (z ++ op ∷ []) rest.code h in
      let len : base + length (z ++ op ∷ []) ≡ q + 1 = omega (arith, length-append z (op ∷ [])) in
      let rest_at = subst (λ (k : ℕ). HasAt code k rest.code) len (has_back code base (z ++ op ∷ []) rest.code h) in
      let before = decisions_of w a ++ own ∷ [] in
      let ds = has_front all.decisions dec before rest.decisions d in
      let long : dec + length before ≡ m + 1 = omega (arith, many w a, length-append (decisions_of w a) (own ∷ [])) in
      let rest_ds = subst (λ (k : ℕ). HasAt all.decisions k rest.decisions) long (has_back all.decisions dec before rest.decisions d) in
      let here_ds = subst (λ (k : ℕ). HasAt all.decisions (dec + k) (own ∷ [])) (many w a) (has_back all.decisions dec (decisions_of w a) (own ∷ []) ds) in
      case base q at a rows ns cs m free own (case_starts (body_made w n) rows (q + 1) (m + 1) free ns next cs)
      (single a base dec free ns need.0 (has_front all.decisions dec (decisions_of w a) (own ∷ []) ds) bv (has_front code base z (op ∷ []) front)) (has_back code base z (op ∷ []) front).0 here_ds.0 (decision-stands w 1 (body_rows rows))
      (case-rows n again rows (q + 1) (m + 1) free ns next cs need.1 rest_at rest_ds bv bc)
  step n again (b.Identity at x false y) base dec free ns next cs need h d bv bc =
      link base base at x y ns cs need.0.0 need.1.0 (nothing base ns) need.0.1 need.1.1 (h.0 ∙ ap (λ o. Some (i.Link (or_zero o) (number y.name cs))) need.0.1 ∙ ap (λ o. Some (i.Link need.0.0 (or_zero o))) need.1.1)
  step n again (b.Identity at x true y) base dec free ns next cs need h d bv bc =
      link_neg base base at x y ns cs need.0.0 need.1.0 (nothing base ns) need.0.1 need.1.1 (h.0 ∙ ap (λ o. Some (i.LinkNeg (or_zero o) (number y.name cs))) need.0.1 ∙ ap (λ o. Some (i.LinkNeg need.0.0 (or_zero o))) need.1.1)
  step n again (b.Call at x args inputs outputs) base dec free ns next cs need h d bv bc =
      let z = code_of_all w args base dec free ns in
      let q = base + length z in
      let channels = all_numbers inputs cs ++ all_numbers outputs cs in
      let op = i.Go (or_zero (process_number w x)) channels in
      let g = process-numbered w x need.0 need.1 in
      go base q at x args inputs outputs ns cs g.0 (all_numbers inputs cs) (all_numbers outputs cs)
      (all_of_stand w all code args base dec free ns need.5 (decided_all w all.decisions args dec d) bv (has_front code base z (op ∷ []) h))
      (record { process = need.0; named = need.1; numbered = g.2; arguments = need.2; inputs = need.3; outputs = need.4 })
      (numbered-held inputs cs need.6) (numbered-held outputs cs need.7) ((has_back code base z (op ∷ []) h).0 ∙ ap (λ o. Some (i.Go (or_zero o) channels)) g.1)

  pub body-stands : (n : ℕ) → Shown n
  body-stands zero = λ body base dec free ns next cs need h d bv bc. absurd need
  body-stands (suc n) = step n (body-stands n)
