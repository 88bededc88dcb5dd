-- Typing gives a body what its code needs.
use Rattle.std.proofs.Common.{◌≡◌, ◌∙◌, refl, sym, ap, subst, arith, inl, inr, ℕ, zero, suc, ◌+◌, ◌≤◌, Bool, true, false, not, List, [], ◌∷◌, ◌++◌, Option, Some, None, if◌then◌else◌, length, reverse, is_some, true≢false}
use Rattle.std.specs.Prelude.{IsTrue, ◌&&◌}
use Rattle.campl_tree.specs.declared.place.Ident.{Ident}
use Rattle.campl_tree.specs.declared.process.Binder.{Binder}
use Rattle.campl_tree.specs.declared.process.Binder.TheVariants as binder
use Rattle.campl_tree.specs.declared.service.Side.{Side}
use Rattle.campl_tree.specs.declared.service.Side.TheVariants.{Input, Output}
use Rattle.campl_tree.specs.Side.{opposite}
use Rattle.campl_tree.specs.Plain.SeqType.{SeqType}
use Rattle.campl_tree.specs.Plain.ChanType.{ChanType}
use Rattle.campl_tree.specs.Plain.Process as b
use Rattle.campl_tree.specs.Plain.Process.{Body, HcaseRows, Branches, CaseRows, Parts, Link, Header}
use Rattle.campl_tree.specs.Plain.Decl.{Program}
use Rattle.campl_types.specs.Names.{Name, same_name}
use Rattle.campl_types.proofs.Names.{same-is, same-itself}
use Rattle.campl_types.specs.World.{World, world_of}
use Rattle.campl_types.specs.Patterns.{bound_in}
use Rattle.campl_types.specs.Polarity.{Choices}
use Rattle.campl_types.specs.Fits.{Vars}
use Rattle.campl_types.specs.Free.{is_free}
use Rattle.campl_types.proofs.FreeNames.{names-held}
use Rattle.campl_types.specs.Held.{On, Held, Channel, with, only}
use Rattle.campl_types.specs.Held as hold
use Rattle.campl_types.specs.Headers.{count}
use Rattle.campl_types.specs.Linear.{HasEachOnce, IsWellFormed, RowsAreWellFormed, BranchesAreWellFormed, CasesAreWellFormed, AreHanded, bound, receives_on}
use Rattle.campl_types.specs.Sequential.{Checked, Found}
use Rattle.campl_types.specs.Typed.{IsTyped}
use Rattle.campl_peel.specs.Numbered.{part_at, add_part, picked, last_first, joined_parts}
use Rattle.campl_plug.specs.TreeOrder.{tree_order_of}
use Rattle.campl_peel.specs.Plugging.{stands_in, side_in, links_to, without_link, held_by_child, held_by_rest, PluggingIsWellFormed}
use Rattle.campl_peel.specs.Peel.{Peel, peel_by, PeelKeepsTyping}
use Rattle.campl_peel.specs.Trees.{PlugsAreTrees, RowsHaveTrees, BranchesHaveTrees, CasesHaveTrees, PartsHaveTrees}
use Rattle.campl_peel.specs.Terms.{those}
use Rattle.campl_peel.proofs.Steps.{plug-begins, count-kept, peeling-keeps-typing, last-part}
use Rattle.campl_code.specs.Numbers.{Numbers, numbered, names}
use Rattle.campl_code.specs.Needs.{behind, IsKnown, AreKnown}
use Rattle.campl_code.specs.Generated.{or_zero}
use Rattle.campl_types.specs.Matching.{number_of}
use Rattle.campl_code.proofs.Frames.{max-left, max-right}
use Rattle.campl_code.proofs.Standing.{names-numbered}
use Rattle.campl_code.proofs.Known.{var_names, names-append, fit-binds, typed-known, parts-known}
use Rattle.campl_code.proofs.Bound.{some-same}
use Rattle.campl_code_bodies.specs.Bodies.{Channels, without, binds, has_two}
use Rattle.campl_code_bodies.specs.BodyNeeds.{IsHeld, HcaseNeeds, RaceNeeds, CaseNeeds, PeelsNeed, BodyNeeds}
use Rattle.campl_code_bodies.specs.BodyCode.{count_hcase}
use Rattle.campl_code_bodies.specs.BodySizes.{body_size, hcase_size, race_size, cases_size, parts_size}
use Rattle.campl_types.proofs.Choices.{choices-of, AreChoices}
use Rattle.campl_code_laws.proofs.HcaseRows.{placed, later-none, none-above}
use Rattle.campl_code_laws.proofs.HeldNames.{HeldAs, held-again, held-without, held-new, held-only, held-kept, handed-held}
use Rattle.campl_types.proofs.Lowers.{process-typed}

and-later : (p q : Bool) → IsTrue (p && q) → IsTrue q
and-later true q h = h
and-later false q h = absurd (true≢false (sym h))

-- Sizes and trees of the parts that are picked

abbrev PartsAre : (Body → Type 0) → Parts → Type 0
PartsAre P b.no_parts = Unit {0}
PartsAre P (b.part_then h body parts) = P body × PartsAre P parts

part-is : (P : Body → Type 0) (parts : Parts) → PartsAre P parts → (p : ℕ) (h : Header) (c : Body) → part_at parts p ≡ Some (h, c) → P c
part-is P b.no_parts t p h c e = absurd (cc e)
part-is P (b.part_then g d parts) t zero h c e = absurd (cc e)
part-is P (b.part_then g d parts) t (suc zero) h c e = let pair : ◌≡◌ {A = Header × Body} (g, d) (h, c) = some-same e in subst P (ap (λ (q : Header × Body). q.1) pair) t.0
part-is P (b.part_then g d parts) t (suc (suc p)) h c e = part-is P parts t.1 (suc p) h c e

parts-picked : (P : Body → Type 0) (parts : Parts) → PartsAre P parts → (ps : List ℕ) → PartsAre P (picked parts ps)
parts-picked P parts t [] = tt
parts-picked P parts t (p ∷ ps) = added (part_at parts p) (parts-picked P parts t ps) (λ h c e. part-is P parts t p h c e)
  where
    added : (o : Option (Header × Body)) → PartsAre P (picked parts ps) → ((h : Header) (c : Body) → o ≡ Some (h, c) → P c) → PartsAre P (add_part o (picked parts ps))
    added None r f = r
    added (Some q) r f = (f q.0 q.1 refl, r)

-- each part's body is small, and its plugs are trees
abbrev IsFit : ℕ → Body → Type 0
IsFit n body = (body_size body ≤ n) × PlugsAreTrees body

parts-fit : (n : ℕ) (parts : Parts) → parts_size parts ≤ n → PartsHaveTrees parts → PartsAre (IsFit n) parts
parts-fit n b.no_parts l t = tt
parts-fit n (b.part_then h body parts) l t = ((omega (arith, l), t.0), parts-fit n parts (omega (arith, l)) t.1)

two-parts : (parts : Parts) → 2 ≤ count parts → has_two parts ≡ true
two-parts b.no_parts l = absurd (omega (arith, l))
two-parts (b.part_then h body b.no_parts) l = absurd (omega (arith, l))
two-parts (b.part_then h body (b.part_then g c parts)) l = refl

-- what a race's branch receives on is held
received : (w : World) (vs : Vars) (held : Held) (x : Name) (body : Body) → receives_on x body ≡ true → IsWellFormed w vs held body → (ch : Channel) × (held x ≡ Some ch)
received w vs held x (b.Then (b.Get at v y) rest) on well = (On well.0 well.1, subst (λ z. held z ≡ Some (On well.0 well.1)) (sym (same-is x y.name on)) well.4)
received w vs held x (b.Then (b.Split at y z u) rest) on well = (On well.0 well.1, subst (λ z. held z ≡ Some (On well.0 well.1)) (sym (same-is x y.name on)) well.4)
received w vs held x (b.Hcase at y rows) on well = (On well.0 well.1, subst (λ z. held z ≡ Some (On well.0 well.1)) (sym (same-is x y.name on)) well.3)
received w vs held x body on well = absurd (true≢false (sym on))

handed-long : (held : Held) (side : Side) (xs : List Ident) (ts : List ChanType) → AreHanded held side xs ts → length xs ≡ length ts
handed-long held side [] [] h = refl
handed-long held side (x ∷ xs) (t ∷ ts) h = ap suc (handed-long held side xs ts h.3)
handed-long held side [] (t ∷ ts) h = absurd h
handed-long held side (x ∷ xs) [] h = absurd h

names-bound : (v : Binder) (t : SeqType) (vs : Vars) (n : ℕ) (ns : Numbers) → names ns ≡ var_names vs → names (binds v n ns) ≡ var_names (bound v t vs)
names-bound (binder.Variable at x) t vs n ns h = ap (λ (l : List Name). x ∷ l) h
names-bound (binder.Wildcard at) t vs n ns h = h

-- Forks: the new channel, and those that are kept

with-other : (x y : Name) (c : Option Channel) (held : Held) → same_name x y ≡ false → with x c held y ≡ held y
with-other x y c held h = ap (λ t. if t then c else held y) h

only-held : (keep : Name → Bool) (held : Held) (y : Name) (ch : Channel) → only keep held y ≡ Some ch → held y ≡ Some ch
only-held keep held y ch h = go (keep y) h
  where
    go : (b : Bool) → (if b then held y else None) ≡ Some ch → held y ≡ Some ch
    go true k = k
    go false k = absurd (cc k)

held-fork : (x : Name) (c : Option Channel) (n : ℕ) (kept : Held) (keep : Name → Bool) (held : Held) (cs : Channels)
    → ((y : Name) (ch : Channel) → same_name x y ≡ false → kept y ≡ Some ch → (keep y ≡ true) × (held y ≡ Some ch)) → HeldAs held cs → HeldAs (with x c kept) ((x, n) ∷ those keep cs)
held-fork x c n kept keep held cs h all y ch i = go (same_name x y) refl i
  where
    go : (t : Bool) → same_name x y ≡ t → (if t then c else kept y) ≡ Some ch → IsHeld y ((x, n) ∷ those keep cs)
    go true j k = held-new x c n (λ z. None) (those keep cs) (λ z d e. absurd (cc e)) y ch (ap (λ t. if t then c else None) j ∙ k)
    go false j k =
        let r = h y ch j k in
        held-new x c n (λ z. if same_name y z then Some ch else None) (those keep cs) (held-kept keep held (λ z. if same_name y z then Some ch else None) cs (λ z d e. one z d e r) all) y ch
        (ap (λ t. if t then c else (if same_name y y then Some ch else None)) j ∙ ap (λ t. if t then Some ch else None) (same-itself y))
      where
        one : (z : Name) (d : Channel) → (if same_name y z then Some ch else None) ≡ Some d → (keep y ≡ true) × (held y ≡ Some ch) → (keep z ≡ true) × (held z ≡ Some d)
        one z d e r = by (same_name y z) refl e
          where
            by : (t : Bool) → same_name y z ≡ t → (if t then Some ch else None) ≡ Some d → (keep z ≡ true) × (held z ≡ Some d)
            by true j e = let s = same-is y z j in (ap keep (sym s) ∙ r.0, ap held (sym s) ∙ r.1 ∙ e)
            by false j e = absurd (cc e)

-- what the second body holds isn't free in the first
other-side : (keep : Name → Bool) (less : Held) (x : Name) (c : Option Channel) (v : Name) (ch : Channel) {t : Bool} → t ≡ is_some (with x c (only keep less) v) → less x ≡ None → only (λ z. not (keep z)) less v ≡ Some ch → not t ≡ true
other-side keep less x c v ch {t} free new h = ap not free ∙ go (keep v) refl h (same_name x v) refl
  where
    go : (b : Bool) → keep v ≡ b → (if not b then less v else None) ≡ Some ch → (d : Bool) → same_name x v ≡ d → not (is_some (if d then c else (if keep v then less v else None))) ≡ true
    go true k h d e = absurd (cc h)
    go false k h true e = absurd (cc (sym new ∙ ap less (same-is x v e) ∙ h))
    go false k h false e = ap (λ u. not (is_some (if u then less v else None))) k

no-size : (body : Body) → body_size body ≤ 0 → ⊥
no-size (b.Then a rest) l = omega (arith, l)
no-size (b.Halt at x) l = omega (arith, l)
no-size (b.Hcase at x rows) l = omega (arith, l)
no-size (b.Fork at x y left z right) l = omega (arith, l)
no-size (b.Plug at links parts) l = omega (arith, l)
no-size (b.Race at rows) l = omega (arith, l)
no-size (b.Case at a rows) l = omega (arith, l)
no-size (b.Identity at x negated y) l = omega (arith, l)
no-size (b.Call at x args inputs outputs) l = omega (arith, l)

module _ (source : Program) (typed : IsTyped source) where
  abbrev w : World
  w = world_of source

  abbrev Shown : ℕ → Type 0
  Shown n = (body : Body) (vs : Vars) (held : Held) (free : ℕ) (ns : Numbers) (next : ℕ) (cs : Channels) → body_size body ≤ n → IsWellFormed w vs held body → PlugsAreTrees body → names ns ≡ var_names vs → HeldAs held cs → BodyNeeds w n body free ns next cs

  hcase-needs : (n most : ℕ) → Shown n → (rows : HcaseRows) (vs : Vars) (held : Held) (x : Name) (ch : Channel) (s : Side) (choices : Choices) (free : ℕ) (ns : Numbers) (next : ℕ) (cs : Channels) → AreChoices w choices → held x ≡ Some ch
      → hcase_size rows ≤ n → count_hcase w rows ≤ most → RowsAreWellFormed w vs held x s choices rows → RowsHaveTrees rows → HasEachOnce rows [] → names ns ≡ var_names vs → HeldAs held cs
      → HcaseNeeds w (BodyNeeds w n) most rows free ns next cs
  hcase-needs n most again b.no_hcase_rows vs held x ch s choices free ns next cs are hx l below well trees once same all = tt
  hcase-needs n most again (b.hcase_row_then k body rows) vs held x ch s choices free ns next cs are hx l below well trees once same all =
      let p = placed source typed.declared choices are k.name well.0 well.1 in
      let number : or_zero (number_of w k.name) ≡ p.0 = ap or_zero p.2 in
      let left = max-left (suc (or_zero (number_of w k.name))) (count_hcase w rows) in
      let right = max-right (suc (or_zero (number_of w k.name))) (count_hcase w rows) in (
        p.0,
        p.2,
        omega (arith, number, left, below),
        later-none source typed.declared choices are vs held x s k body well.0 p.0 rows well.1 p.2 (once.0, refl) well.3,
        again body vs (with x (Some (On s well.0)) held) free ns next cs (omega (arith, l)) well.2 trees.0 same (held-again x (On s well.0) ch held cs hx all),
        hcase-needs n most again rows vs held x ch s choices free ns next cs are hx (omega (arith, l)) (omega (arith, right, below)) well.3 trees.1 (and-later _ _ once.0, refl) same all,
      )

  race-needs : (n : ℕ) → Shown n → (rows : Branches) (vs : Vars) (held : Held) (free : ℕ) (ns : Numbers) (next : ℕ) (cs : Channels) → race_size rows ≤ n → BranchesAreWellFormed w vs held rows → BranchesHaveTrees rows → names ns ≡ var_names vs → HeldAs held cs
      → RaceNeeds (BodyNeeds w n) rows free ns next cs
  race-needs n again b.no_branches vs held free ns next cs l well trees same all = tt
  race-needs n again (b.branch_then x body rows) vs held free ns next cs l well trees same all =
      let r = received w vs held x.name body well.0 well.1 in
      (all x.name r.0 r.1, well.0, again body vs held free ns next cs (omega (arith, l)) well.1 trees.0 same all, race-needs n again rows vs held free ns next cs (omega (arith, l)) well.2 trees.1 same all)

  case-needs : (n : ℕ) → Shown n → (rows : CaseRows) (vs : Vars) (held : Held) (t : SeqType) (free : ℕ) (ns : Numbers) (next : ℕ) (cs : Channels) → cases_size rows ≤ n → CasesAreWellFormed w vs held t rows → CasesHaveTrees rows → names ns ≡ var_names vs → HeldAs held cs
      → CaseNeeds (BodyNeeds w n) rows free ns next cs
  case-needs n again b.no_case_rows vs held t free ns next cs l well trees same all = tt
  case-needs n again (b.case_row_then q body rows) vs held t free ns next cs l well trees same all =
      let xs = bound_in q in
      let known : names (numbered free xs ns) ≡ var_names (well.0 ++ vs) =
      names-numbered xs free ns ∙ ap (behind xs) same ∙ sym (names-append well.0 vs ∙ fit-binds w q t well.0 well.1 (var_names vs)) in
      (again body (well.0 ++ vs) held (free + length xs) (numbered free xs ns) next cs (omega (arith, l)) well.3 trees.0 known all, case-needs n again rows vs held t free ns next cs (omega (arith, l)) well.4 trees.1 same all)

  peels-need : (n : ℕ) → Shown n → (parts : Parts) (links : List Link) (vs : Vars) (held : Held) (free : ℕ) (ns : Numbers) (next : ℕ) (cs : Channels) → PluggingIsWellFormed w vs held links parts → PartsAre (IsFit n) parts → names ns ≡ var_names vs → HeldAs held cs
      → PeelsNeed (BodyNeeds w n) links parts free ns next cs
  peels-need n again b.no_parts links vs held free ns next cs well fit same all = absurd (omega (arith, well.some))
  peels-need n again (b.part_then h body b.no_parts) links vs held free ns next cs well fit same all = again body vs held free ns next cs fit.0.0 (last-part w vs held links h body well) fit.0.1 same all
  peels-need n again (b.part_then h body (b.part_then g c parts)) links vs held free ns next cs well fit same all =
      let r = peeling-keeps-typing w vs held links (b.part_then h body (b.part_then g c parts)) well (omega arith) in
      go (links_to (b.part_then g c parts) h links) refl r.0 r.1 r.2
      (λ l held' well'. peels-need n again (b.part_then g c parts) (without_link l links) vs held' free ns (suc next) ((l, next) ∷ those (λ x. not (stands_in h x)) cs) well' fit.1 same)
    where
      go : (joins : List Link) → links_to (b.part_then g c parts) h links ≡ joins → (p : Peel) → peel_by h body links (b.part_then g c parts) joins ≡ Some p → PeelKeepsTyping w vs held p
          → ((l : Name) (held' : Held) → PluggingIsWellFormed w vs held' (without_link l links) (b.part_then g c parts) → HeldAs held' ((l, next) ∷ those (λ x. not (stands_in h x)) cs) → PeelsNeed (BodyNeeds w n) (without_link l links) (b.part_then g c parts) free ns (suc next) ((l, next) ∷ those (λ x. not (stands_in h x)) cs))
          → PeelsNeed (BodyNeeds w n) links (b.part_then h body (b.part_then g c parts)) free ns next cs
      go [] e p is keeps rest = absurd (cc is)
      go (l ∷ more) e p is keeps rest =
          let own : Peel = record { header = h; body = body; link = l; links = without_link l.name.name links; parts = b.part_then g c parts } in
          let k = subst (λ (p : Peel). PeelKeepsTyping w vs held p) (sym (some-same is)) keeps in
          let x = l.name.name in (
            l,
            more,
            e,
            rest x (held_by_rest h l held) k.rest (held-new x (Some (On (opposite (side_in h x)) l.channel_type)) next (only (λ x. not (stands_in h x)) held) (those (λ x. not (stands_in h x)) cs) (held-only (λ x. not (stands_in h x)) held cs all)),
            again body vs (held_by_child h l held) free ns (suc next) ((x, next) ∷ those (stands_in h) cs) fit.0.0 k.child fit.0.1 same
                (held-new x (Some (On (side_in h x) l.channel_type)) next (only (stands_in h) held) (those (stands_in h) cs) (held-only (stands_in h) held cs all)),
          )

  step : (n : ℕ) → Shown n → Shown (suc n)
  step n again (b.Then (b.Put at a x) rest) vs held free ns next cs l well trees same all = (
    subst (λ (ms : List Name). IsKnown w ms a) (sym same) (typed-known Checked w vs a well.2 well.6),
    all x.name (On well.0 well.1) well.4,
    again rest vs (with x.name (Some (On well.0 well.3)) held) free ns next cs (omega (arith, l)) well.7 trees same (held-again x.name (On well.0 well.3) (On well.0 well.1) held cs well.4 all),
  )
  step n again (b.Then (b.Get at v x) rest) vs held free ns next cs l well trees same all = (
    all x.name (On well.0 well.1) well.4,
    again rest (bound v well.2 vs) (with x.name (Some (On well.0 well.3)) held) (suc free) (binds v free ns) next cs (omega (arith, l)) well.6 trees (names-bound v well.2 vs free ns same) (held-again x.name (On well.0 well.3) (On well.0 well.1) held cs well.4 all),
  )
  step n again (b.Then (b.Hput at k x) rest) vs held free ns next cs l well trees same all =
      let p = placed source typed.declared well.2 (choices-of w well.0 well.1 well.2 (inl well.5)) k.name well.3 well.6 in (
        p.0,
        p.2,
        all x.name (On well.0 well.1) well.4,
        again rest vs (with x.name (Some (On well.0 well.3)) held) free ns next cs (omega (arith, l)) well.7 trees same (held-again x.name (On well.0 well.3) (On well.0 well.1) held cs well.4 all),
      )
  step n again (b.Then (b.Split at x y z) rest) vs held free ns next cs l well trees same all = (
    all x.name (On well.0 well.1) well.4,
    again rest vs (with z.name (Some (On well.0 well.3)) (with y.name (Some (On well.0 well.2)) (hold.without x.name held))) free ns (suc (suc next)) ((z.name, suc next) ∷ (y.name, next) ∷ without x.name cs) (omega (arith, l)) well.7 trees same
        (held-new z.name (Some (On well.0 well.3)) (suc next) (with y.name (Some (On well.0 well.2)) (hold.without x.name held)) ((y.name, next) ∷ without x.name cs)
        (held-new y.name (Some (On well.0 well.2)) next (hold.without x.name held) (without x.name cs) (held-without x.name held cs all))),
  )
  step n again (b.Then (b.Close at x) rest) vs held free ns next cs l well trees same all =
      (all x.name (On well.0 well.1) well.2, again rest vs (hold.without x.name held) free ns next (without x.name cs) (omega (arith, l)) well.4 trees same (held-without x.name held cs all))
  step n again (b.Halt at None) vs held free ns next cs l well trees same all = tt
  step n again (b.Halt at (Some x)) vs held free ns next cs l well trees same all = all x.name (On well.0 well.1) well.2
  step n again (b.Hcase at x rows) vs held free ns next cs l well trees same all =
      let are = choices-of w well.0 well.1 well.2 (inr well.4) in (
        all x.name (On well.0 well.1) well.3,
        none-above source typed.declared well.2 are vs held x.name well.0 rows well.5 well.6,
        hcase-needs n (count_hcase w rows) again rows vs held x.name (On well.0 well.1) well.0 well.2 free ns next cs are well.3 (omega (arith, l)) (omega arith) well.6 trees (well.5.0, refl) same all,
      )
  step n again (b.Fork at x y first z second) vs held free ns next cs l well trees same all =
      let keep = well.0 in
      let d = well.1 in
      let s = d.0 in
      let less = hold.without x.name held in
      let new = d.6 in
      let left_held = with y.name (Some (On s d.2)) (only keep less) in
      let free_first = names-held w vs left_held first d.7 in (
        all x.name (On s d.1) d.4,
        again first vs left_held free ns (suc (suc next)) ((y.name, next) ∷ those (λ c. is_free c first) (without x.name cs)) (omega (arith, l)) d.7 trees.0 same
            (held-fork y.name (Some (On s d.2)) next (only keep less) (λ c. is_free c first) less (without x.name cs) (λ v ch apart k. (free_first v ∙ ap is_some (with-other y.name v (Some (On s d.2)) (only keep less) apart ∙ k), only-held keep less v ch k)) (held-without x.name held cs all)),
        again second vs (with z.name (Some (On s d.3)) (only (λ c. not (keep c)) less)) free ns (suc (suc next)) ((z.name, suc next) ∷ those (λ c. not (is_free c first)) (without x.name cs)) (omega (arith, l)) d.8 trees.1 same
            (held-fork z.name (Some (On s d.3)) (suc next) (only (λ c. not (keep c)) less) (λ c. not (is_free c first)) less (without x.name cs)
            (λ v ch apart k. (other-side keep less y.name (Some (On s d.2)) v ch (free_first v) new.0 k, only-held (λ c. not (keep c)) less v ch k)) (held-without x.name held cs all)),
      )
  step n again (b.Plug at links parts) vs held free ns next cs l well trees same all =
      let order = reverse (tree_order_of (count parts) (joined_parts links parts)) in (
        two-parts (last_first links parts) (subst (λ (k : ℕ). 2 ≤ k) (sym (count-kept w vs held at links parts well trees.0)) well.0.0),
        peels-need n again (last_first links parts) links vs held free ns next cs (plug-begins w vs held at links parts well trees.0) (parts-picked (IsFit n) parts (parts-fit n parts (omega (arith, l)) trees.1) order) same all,
      )
  step n again (b.Race at rows) vs held free ns next cs l well trees same all = race-needs n again rows vs held free ns next cs (omega (arith, l)) well.2 trees same all
  step n again (b.Case at a rows) vs held free ns next cs l well trees same all =
      (subst (λ (ms : List Name). IsKnown w ms a) (sym same) (typed-known Found w vs a well.0 well.1), case-needs n again rows vs held well.0 free ns next cs (omega (arith, l)) well.2 trees same all)
  step n again (b.Identity at x negated y) vs held free ns next cs l well trees same all = (all x (On well.0 well.1) well.4, all y.name (On well.2 well.3) well.5)
  step n again (b.Call at x args inputs outputs) vs held free ns next cs l well trees same all =
      let p = well.0 in
      let heading = process-typed source typed x p well.1 in
      let known = parts-known w vs [] [] p.parameters args well.2 in (
        p,
        well.1,
        heading.1 ∙ known.1,
        heading.2 ∙ sym (handed-long held Input inputs p.inputs well.3),
        heading.3 ∙ sym (handed-long held Output outputs p.outputs well.4),
        subst (λ (ms : List Name). AreKnown w ms args) (sym same) known.0,
        handed-held held Input inputs p.inputs cs all well.3,
        handed-held held Output outputs p.outputs cs all well.4,
      )

  pub body-needs : (n : ℕ) → Shown n
  body-needs zero = λ body vs held free ns next cs l. absurd (no-size body l)
  body-needs (suc n) = step n (body-needs n)
