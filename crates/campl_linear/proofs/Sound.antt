-- A body that is judged to have no fault is well formed, and the parts of its plugs form trees.
use Rattle.std.proofs.Common.{◌≡◌, ◌∙◌, refl, ap, subst, Bool, true, false, not, if◌then◌else◌, List, [], ◌∷◌, ◌++◌, length, Option, Some, None}
use Rattle.std.proofs.lemmas.List.{append-nil}
use Rattle.campl_tree.specs.declared.place.Place.{Place}
use Rattle.campl_tree.specs.declared.place.Ident.{Ident}
use Rattle.campl_tree.specs.declared.service.Side.TheVariants.{Input, Output}
use Rattle.campl_tree.specs.Plain.SeqType.{SeqType}
use Rattle.campl_tree.specs.Plain.Expr.{Exprs}
use Rattle.campl_tree.specs.Plain.Process as b
use Rattle.campl_tree.specs.Plain.Process.{Body, HcaseRows, Branches, CaseRows, Parts, Link}
use Rattle.campl_tree.specs.Plain.Decl.{ProcessDecl}
use Rattle.campl_types.specs.Names.{Name, are_distinct, found}
use Rattle.campl_types.specs.World.{World, process_named, names_of}
use Rattle.campl_types.specs.Polarity.{Choices, deed}
use Rattle.campl_types.specs.Fits.{Vars}
use Rattle.campl_types.specs.Held.{Channel, On, Held, with, without, only, HoldsOnly}
use Rattle.campl_types.specs.Headers.{links_in}
use Rattle.campl_types.specs.Linear.{bound, body_rows, AreHanded, IsWellFormed, RowsAreWellFormed, BranchesAreWellFormed, CasesAreWellFormed, PartsAreWellFormed}
use Rattle.campl_types.specs.Free.{is_free}
use Rattle.campl_seqcheck.specs.Judged.{Fine, Is, and_then}
use Rattle.campl_seqcheck.specs.Fitting.{fit, counted}
use Rattle.campl_seqcheck.specs.Judging.{count_of}
use Rattle.campl_seqcheck.specs.Judging as values
use Rattle.campl_seqcheck.proofs.AgreesJudged.{counts}
use Rattle.campl_seqcheck.proofs.AgreesFit.{fit-fits}
use Rattle.campl_seqcheck.proofs.AgreesSound.{alone-is, at-wanted, judge-typed}
use Rattle.campl_linear.specs.Judged.{from_seq}
use Rattle.campl_linear.specs.Holding.{Holding, as_held, goes_on, those, given_up, comes}
use Rattle.campl_linear.specs.Channels.{held_at, Used, used, to_put, to_get, to_pick, to_split, to_fork, to_end, to_offer, two_new, none_left, joined}
use Rattle.campl_linear.specs.Rows.{some_row, row_names, row_type, rows_offered, each_has_row, branch_names, branch_count, branches_begin, patterns_fit}
use Rattle.campl_linear.specs.Plugs.{plug_stands, share_of}
use Rattle.campl_linear.specs.Calls.{values_fit, as_many, handed, called}
use Rattle.campl_linear.specs.Bodies.{judge, judge_rows, judge_branches, judge_cases, judge_parts}
use Rattle.campl_peel.specs.Trees.{PlugsAreTrees, RowsHaveTrees, BranchesHaveTrees, CasesHaveTrees, PartsHaveTrees}
use Rattle.campl_linear.proofs.Turns.{in-turn, is-seq}
use Rattle.campl_linear.proofs.Lists.{held-those, held-given-up, held-goes-on, held-comes, none-left, only-behind, all_given_up, all-only}
use Rattle.campl_linear.proofs.Named.{some-row, each-has-row, count-race}
use Rattle.campl_linear.proofs.Headings.{IsPlain}
use Rattle.campl_linear.proofs.Uses.{held-is, used-so, puts, gets, picks, splits, forks, ends, offers, TwoNew, two-are-new, are-new, is-joined}
use Rattle.campl_linear.proofs.Rowed.{type-found, rows-distinct, counted-so, AllReceive, branches-receive}
use Rattle.campl_linear.proofs.Called.{values-typed, many, behind-all, Handed, handed-so, turned-apart}
use Rattle.campl_linear.proofs.Headers.{LinksAreNew}
use Rattle.campl_linear.proofs.Plugged.{plug-so, stands-new, shares}
use Rattle.campl_types.proofs.Among.{distinct-append}
use Rattle.campl_types.specs.Values.{PartsAreKnown}
use Rattle.campl_seqcheck.specs.RowPatterns.{exhaustive}
use Rattle.campl_seqcheck.proofs.AgreesRows.{exhaustive-is}

-- what is held behind two new names
pub two-held : (x y z : Name) (c d : Channel) (held : Holding) → TwoNew y z (given_up x held)
    → as_held (comes z d (comes y c (given_up x held))) ≡ with z (Some d) (with y (Some c) (without x (as_held held)))
two-held x y z c d held n =
    held-comes z d (comes y c (given_up x held)) (ap (λ (h : Held). h z) one ∙ other)
    ∙ ap (with z (Some d)) one
    ∙ ap (λ h. with z (Some d) (with y (Some c) h)) (held-given-up x held)
  where
    one : as_held (comes y c (given_up x held)) ≡ with y (Some c) (as_held (given_up x held))
    one = held-comes y c (given_up x held) n.first

    other : with y (Some c) (as_held (given_up x held)) z ≡ None
    other = let e = n.differ in let f = n.second in rw (e, f) refl

-- what a body of a fork holds
pub kept-held : (x y : Name) (c : Channel) (keep : Name → Bool) (held : Holding) → as_held (given_up x held) y ≡ None
    → as_held (comes y c (those keep (given_up x held))) ≡ with y (Some c) (only keep (without x (as_held held)))
kept-held x y c keep held n =
    held-comes y c (those keep (given_up x held)) (ap (λ (h : Held). h y) kept ∙ none (keep y))
    ∙ ap (with y (Some c)) (kept ∙ ap (only keep) (held-given-up x held))
  where
    kept : as_held (those keep (given_up x held)) ≡ only keep (as_held (given_up x held))
    kept = held-those keep (given_up x held)

    none : (b : Bool) → (if b then as_held (given_up x held) y else None) ≡ None
    none true = n
    none false = refl

-- an identity
identity-sound : (w : World) (vs : Vars) (held : Holding) (at : Place) (x : Name) (negated : Bool) (y : Ident) (c d : Channel) → found x held ≡ Some c → found y.name held ≡ Some d
    → HoldsOnly [] (as_held (given_up y.name (given_up x held))) → (f : Fine) → joined at x negated y.name c d ≡ Is f → IsWellFormed w vs (as_held held) (b.Identity at x negated y)
identity-sound w vs held at x negated y (On s t) (On r u) p q none f i =
    let j = is-joined at x negated y.name s r t u f i in
    let e : as_held (given_up y.name (given_up x held)) ≡ without y.name (without x (as_held held)) = held-given-up y.name (given_up x held) ∙ ap (without y.name) (held-given-up x held) in
    let n = only-behind x (y.name ∷ []) (as_held held) (only-behind y.name [] (without x (as_held held)) (subst (λ g. HoldsOnly [] g) e none)) in
    (s, t, r, u, p, q, j.0, j.1, n)

-- all of a body: well formed, and with trees
abbrev Sound : World → Vars → Held → Body → Type 0
Sound w vs held body = IsWellFormed w vs held body × PlugsAreTrees body

-- the channels of a call
record HandedOver (held : Held) (inputs outputs : List Ident) (p : ProcessDecl) : Type 0 where
  pub ins : AreHanded held Input inputs p.inputs
  pub outs : AreHanded held Output outputs p.outputs
  pub distinct : are_distinct (names_of inputs ++ names_of outputs) ≡ true
  pub no_more : HoldsOnly (names_of inputs ++ names_of outputs) held

handed-over : (held : Holding) (inputs outputs : List Ident) (p : ProcessDecl) (mid last : Holding) → Handed Input inputs p.inputs held mid → Handed Output outputs p.outputs mid last → HoldsOnly [] (as_held last)
    → HandedOver (as_held held) inputs outputs p
handed-over held inputs outputs p mid last h k none =
    let m = behind-all Output (names_of inputs) held outputs p.outputs (subst (λ z. AreHanded (as_held z) Output outputs p.outputs) h.rest_is k.are) in
    let l : last ≡ all_given_up (names_of outputs) (all_given_up (names_of inputs) held) = k.rest_is ∙ ap (all_given_up (names_of outputs)) h.rest_is in
    let n = all-only (names_of outputs) [] (all_given_up (names_of inputs) held) (subst (λ z. HoldsOnly [] (as_held z)) l none) in
    let q = all-only (names_of inputs) (names_of outputs) held (subst (λ z. HoldsOnly z (as_held (all_given_up (names_of inputs) held))) (append-nil (names_of outputs)) n) in
    record { ins = h.are; outs = m.0; distinct = distinct-append (names_of inputs) (names_of outputs) h.distinct k.distinct (turned-apart (names_of inputs) (names_of outputs) m.1); no_more = q }

module _ (w : World) (known : PartsAreKnown w) (plain : (x : Name) (p : ProcessDecl) → process_named w x ≡ Some p → IsPlain p) where
  call-sound : (vs : Vars) (held : Holding) (at : Place) (x : Name) (args : Exprs) (inputs outputs : List Ident) (f : Fine)
      → judge w vs held (b.Call at x args inputs outputs) ≡ Is f → IsWellFormed w vs (as_held held) (b.Call at x args inputs outputs)
  call-sound vs held at x args inputs outputs f i = go (process_named w x) refl
    where
      go : (o : Option ProcessDecl) → process_named w x ≡ o → IsWellFormed w vs (as_held held) (b.Call at x args inputs outputs)
      go None e = absurd (cc (rw e at i))
      go (Some p) e =
          let i2 : called w vs held at (Some p) args inputs outputs ≡ Is f = rw e at i in
          let j1 = in-turn (from_seq (counted at (count_of args) (length p.parameters))) (λ z1. and_then (from_seq (values_fit w vs p.parameters args)) (λ z2. and_then (as_many at (length inputs) (length p.inputs)) (λ z3. and_then (as_many at (length outputs) (length p.outputs)) (λ z4. and_then (handed Input inputs p.inputs held) (λ rest. and_then (handed Output outputs p.outputs rest) (none_left at)))))) f i2 in
          let j2 = in-turn (from_seq (values_fit w vs p.parameters args)) (λ z2. and_then (as_many at (length inputs) (length p.inputs)) (λ z3. and_then (as_many at (length outputs) (length p.outputs)) (λ z4. and_then (handed Input inputs p.inputs held) (λ rest. and_then (handed Output outputs p.outputs rest) (none_left at))))) f j1.2 in
          let j3 = in-turn (as_many at (length inputs) (length p.inputs)) (λ z3. and_then (as_many at (length outputs) (length p.outputs)) (λ z4. and_then (handed Input inputs p.inputs held) (λ rest. and_then (handed Output outputs p.outputs rest) (none_left at)))) f j2.2 in
          let j4 = in-turn (as_many at (length outputs) (length p.outputs)) (λ z4. and_then (handed Input inputs p.inputs held) (λ rest. and_then (handed Output outputs p.outputs rest) (none_left at))) f j3.2 in
          let j5 = in-turn (handed Input inputs p.inputs held) (λ rest. and_then (handed Output outputs p.outputs rest) (none_left at)) f j4.2 in
          let j6 = in-turn (handed Output outputs p.outputs j5.0) (none_left at) f j5.2 in
          let n = counts at (count_of args) (length p.parameters) j1.0 (is-seq (counted at (count_of args) (length p.parameters)) j1.0 j1.1) in
          let v = values-typed w known vs [] p.parameters args j2.0 ((plain x p e).values) n (is-seq (values_fit w vs p.parameters args) j2.0 j2.1) in
          let h = handed-so Input inputs p.inputs held j5.0 (many at (length inputs) (length p.inputs) j3.0 j3.1) j5.1 in
          let k = handed-so Output outputs p.outputs j5.0 j6.0 (many at (length outputs) (length p.outputs) j4.0 j4.1) j6.1 in
          let r = handed-over held inputs outputs p j5.0 j6.0 h k (none-left at j6.0 f j6.2) in
          (p, e, v, r.ins, r.outs, r.distinct, r.no_more)

  mutual
    pub judge-sound : (vs : Vars) (held : Holding) (body : Body) (f : Fine) → judge w vs held body ≡ Is f → Sound w vs (as_held held) body
    judge-sound vs held (b.Then (b.Put at a x) rest) f i =
        let j = in-turn (used w at x to_put held) (λ u. and_then (from_seq (values.judge w vs a (Some u.may.0))) (λ z. judge w vs (goes_on x.name (On u.side u.may.1) held) rest)) f i in
        let u = j.0 in
        let k = in-turn (from_seq (values.judge w vs a (Some u.may.0))) (λ z. judge w vs (goes_on x.name (On u.side u.may.1) held) rest) f j.2 in
        let h = used-so w at x to_put held u j.1 in
        let t = at-wanted w vs a u.may.0 k.0 (judge-typed w known vs a (Some u.may.0) k.0 (is-seq (values.judge w vs a (Some u.may.0)) k.0 k.1)) in
        let r = judge-sound vs (goes_on x.name (On u.side u.may.1) held) rest f k.2 in
        let e = held-goes-on x.name (On u.side u.may.1) (On u.side u.held_type) held h.is_held in
        ((u.side, u.held_type, u.may.0, u.may.1, h.is_held, puts (deed w u.side u.held_type) u.may h.allows, t, subst (λ g. IsWellFormed w vs g rest) e r.0), r.1)
    judge-sound vs held (b.Then (b.Get at v x) rest) f i =
        let j = in-turn (used w at x to_get held) (λ u. judge w (bound v u.may.0 vs) (goes_on x.name (On u.side u.may.1) held) rest) f i in
        let u = j.0 in
        let h = used-so w at x to_get held u j.1 in
        let r = judge-sound (bound v u.may.0 vs) (goes_on x.name (On u.side u.may.1) held) rest f j.2 in
        let e = held-goes-on x.name (On u.side u.may.1) (On u.side u.held_type) held h.is_held in
        ((u.side, u.held_type, u.may.0, u.may.1, h.is_held, gets (deed w u.side u.held_type) u.may h.allows, subst (λ g. IsWellFormed w (bound v u.may.0 vs) g rest) e r.0), r.1)
    judge-sound vs held (b.Then (b.Hput at k x) rest) f i =
        let j = in-turn (used w at x (to_pick k.name) held) (λ u. judge w vs (goes_on x.name (On u.side u.may) held) rest) f i in
        let u = j.0 in
        let h = used-so w at x (to_pick k.name) held u j.1 in
        let p = picks k.name (deed w u.side u.held_type) u.may h.allows in
        let r = judge-sound vs (goes_on x.name (On u.side u.may) held) rest f j.2 in
        let e = held-goes-on x.name (On u.side u.may) (On u.side u.held_type) held h.is_held in
        ((u.side, u.held_type, p.0, u.may, h.is_held, p.1, p.2, subst (λ g. IsWellFormed w vs g rest) e r.0), r.1)
    judge-sound vs held (b.Then (b.Split at x y z) rest) f i =
        let j = in-turn (used w at x to_split held) (λ u. and_then (two_new y z (given_up x.name held)) (λ q. judge w vs (comes z.name (On u.side u.may.1) (comes y.name (On u.side u.may.0) (given_up x.name held))) rest)) f i in
        let u = j.0 in
        let k = in-turn (two_new y z (given_up x.name held)) (λ q. judge w vs (comes z.name (On u.side u.may.1) (comes y.name (On u.side u.may.0) (given_up x.name held))) rest) f j.2 in
        let h = used-so w at x to_split held u j.1 in
        let n = two-are-new y z (given_up x.name held) k.0 k.1 in
        let r = judge-sound vs (comes z.name (On u.side u.may.1) (comes y.name (On u.side u.may.0) (given_up x.name held))) rest f k.2 in
        let e = two-held x.name y.name z.name (On u.side u.may.0) (On u.side u.may.1) held n in
        ((u.side, u.held_type, u.may.0, u.may.1, h.is_held, splits (deed w u.side u.held_type) u.may h.allows, are-new x.name y z held n, subst (λ g. IsWellFormed w vs g rest) e r.0), r.1)
    judge-sound vs held (b.Then (b.Close at x) rest) f i =
        let j = in-turn (used w at x to_end held) (λ u. judge w vs (given_up x.name held) rest) f i in
        let u = j.0 in
        let h = used-so w at x to_end held u j.1 in
        let r = judge-sound vs (given_up x.name held) rest f j.2 in
        ((u.side, u.held_type, h.is_held, ends (deed w u.side u.held_type) u.may h.allows, subst (λ g. IsWellFormed w vs g rest) (held-given-up x.name held) r.0), r.1)
    judge-sound vs held (b.Halt at None) f i = (none-left at held f i, tt)
    judge-sound vs held (b.Halt at (Some x)) f i =
        let j = in-turn (used w at x to_end held) (λ u. none_left at (given_up x.name held)) f i in
        let u = j.0 in
        let h = used-so w at x to_end held u j.1 in
        let n = subst (λ g. HoldsOnly [] g) (held-given-up x.name held) (none-left at (given_up x.name held) f j.2) in
        ((u.side, u.held_type, h.is_held, ends (deed w u.side u.held_type) u.may h.allows, only-behind x.name [] (as_held held) n), tt)
    judge-sound vs held (b.Hcase at x rows) f i =
        let j = in-turn (used w at x to_offer held) (λ u. and_then (rows_offered x.name u [] rows) (λ z1. and_then (each_has_row at u.may (row_names rows)) (λ z2. and_then (some_row at x.name u rows) (λ z3. judge_rows w vs held x.name u rows)))) f i in
        let u = j.0 in
        let k = in-turn (rows_offered x.name u [] rows) (λ z1. and_then (each_has_row at u.may (row_names rows)) (λ z2. and_then (some_row at x.name u rows) (λ z3. judge_rows w vs held x.name u rows))) f j.2 in
        let l = in-turn (each_has_row at u.may (row_names rows)) (λ z2. and_then (some_row at x.name u rows) (λ z3. judge_rows w vs held x.name u rows)) f k.2 in
        let h = used-so w at x to_offer held u j.1 in
        let d = rows-distinct x.name u [] rows k.0 k.1 in
        let m = in-turn (some_row at x.name u rows) (λ z3. judge_rows w vs held x.name u rows) f l.2 in
        let r = rows-sound vs held x.name u h.is_held rows f m.2 in
        ((u.side, u.held_type, u.may, h.is_held, offers (deed w u.side u.held_type) u.may h.allows, each-has-row at rows u.may l.0 d.distinct l.1, r.0, some-row at x.name u rows m.0 m.1), r.1)
    judge-sound vs held (b.Fork at x y left z right) f i =
        let others = given_up x.name held in
        let j = in-turn (used w at x to_fork held) (λ u. and_then (two_new y z (given_up x.name held)) (λ q. and_then (judge w vs (comes y.name (On u.side u.may.0) (those (λ c. is_free c left) (given_up x.name held))) left) (λ q2. judge w vs (comes z.name (On u.side u.may.1) (those (λ c. not (is_free c left)) (given_up x.name held))) right))) f i in
        let u = j.0 in
        let k = in-turn (two_new y z (given_up x.name held)) (λ q. and_then (judge w vs (comes y.name (On u.side u.may.0) (those (λ c. is_free c left) (given_up x.name held))) left) (λ q2. judge w vs (comes z.name (On u.side u.may.1) (those (λ c. not (is_free c left)) (given_up x.name held))) right)) f j.2 in
        let l = in-turn (judge w vs (comes y.name (On u.side u.may.0) (those (λ c. is_free c left) (given_up x.name held))) left) (λ q2. judge w vs (comes z.name (On u.side u.may.1) (those (λ c. not (is_free c left)) (given_up x.name held))) right) f k.2 in
        let h = used-so w at x to_fork held u j.1 in
        let n = two-are-new y z (given_up x.name held) k.0 k.1 in
        let r = judge-sound vs (comes y.name (On u.side u.may.0) (those (λ c. is_free c left) (given_up x.name held))) left l.0 l.1 in
        let s = judge-sound vs (comes z.name (On u.side u.may.1) (those (λ c. not (is_free c left)) (given_up x.name held))) right f l.2 in
        let e = kept-held x.name y.name (On u.side u.may.0) (λ c. is_free c left) held n.first in
        let g = kept-held x.name z.name (On u.side u.may.1) (λ c. not (is_free c left)) held n.second in (
          (
            λ c. is_free c left,
            (
              u.side,
              u.held_type,
              u.may.0,
              u.may.1,
              h.is_held,
              forks (deed w u.side u.held_type) u.may h.allows,
              are-new x.name y z held n,
              subst (λ q. IsWellFormed w vs q left) e r.0,
              subst (λ q. IsWellFormed w vs q right) g s.0,
            ),
          ),
          (r.1, s.1),
        )
    judge-sound vs held (b.Plug at links parts) f i =
        let j = in-turn (plug_stands at links parts held) (λ z. judge_parts w vs links held parts) f i in
        let p = plug-so at links parts held j.0 j.1 in
        let r = parts-sound vs links held (stands-new links parts held p) parts f j.2 in
        ((p.size, p.distinct, p.divide, r.0), (p.tree, r.1))
    judge-sound vs held (b.Race at rows) f i =
        let j = in-turn (branch_count at (length (branch_names rows))) (λ z1. and_then (branches_begin w held [] rows) (λ z2. judge_branches w vs held rows)) f i in
        let k = in-turn (branches_begin w held [] rows) (λ z2. judge_branches w vs held rows) f j.2 in
        let m = branches-receive w held [] rows k.0 k.1 in
        let r = branches-sound vs held rows m.1 f k.2 in
        (count-race w vs (as_held held) at rows (counted-so at (length (branch_names rows)) j.0 j.1, m.0.distinct, r.0), r.1)
    judge-sound vs held (b.Case at a rows) f i =
        let j = in-turn (from_seq (values.judge w vs a None)) (λ t. and_then (from_seq (patterns_fit w rows t)) (λ z1. and_then (from_seq (exhaustive at w (body_rows rows) (t ∷ []))) (λ z2. judge_cases w vs held t rows))) f i in
        let t = j.0 in
        let k = in-turn (from_seq (patterns_fit w rows t)) (λ z1. and_then (from_seq (exhaustive at w (body_rows rows) (t ∷ []))) (λ z2. judge_cases w vs held t rows)) f j.2 in
        let l = in-turn (from_seq (exhaustive at w (body_rows rows) (t ∷ []))) (λ z2. judge_cases w vs held t rows) f k.2 in
        let h = judge-typed w known vs a None t (is-seq (values.judge w vs a None) t j.1) in
        let r = cases-sound vs held t rows f l.2 in
        ((t, h.0, r.0, exhaustive-is at w (body_rows rows) (t ∷ []) l.0 (is-seq (exhaustive at w (body_rows rows) (t ∷ [])) l.0 l.1)), r.1)
    judge-sound vs held (b.Identity at x negated y) f i =
        let own : Ident = record { place = at; name = x } in
        let j = in-turn (held_at own held) (λ c. and_then (held_at y held) (λ d. and_then (none_left at (given_up y.name (given_up x held))) (λ z. joined at x negated y.name c d))) f i in
        let k = in-turn (held_at y held) (λ d. and_then (none_left at (given_up y.name (given_up x held))) (λ z. joined at x negated y.name j.0 d)) f j.2 in
        let l = in-turn (none_left at (given_up y.name (given_up x held))) (λ z. joined at x negated y.name j.0 k.0) f k.2 in
        (identity-sound w vs held at x negated y j.0 k.0 (held-is own held j.0 j.1) (held-is y held k.0 k.1) (none-left at (given_up y.name (given_up x held)) l.0 l.1) f l.2, tt)
    judge-sound vs held (b.Call at x args inputs outputs) f i = (call-sound vs held at x args inputs outputs f i, tt)

    rows-sound : (vs : Vars) (held : Holding) (x : Name) (u : Used Choices) → found x held ≡ Some (On u.side u.held_type) → (rows : HcaseRows) (f : Fine) → judge_rows w vs held x u rows ≡ Is f
        → RowsAreWellFormed w vs (as_held held) x u.side u.may rows × RowsHaveTrees rows
    rows-sound vs held x u is b.no_hcase_rows f i = (tt, tt)
    rows-sound vs held x u is (b.hcase_row_then k body rows) f i =
        let j = in-turn (row_type k x u) (λ y. and_then (judge w vs (goes_on x (On u.side y) held) body) (λ z. judge_rows w vs held x u rows)) f i in
        let l = in-turn (judge w vs (goes_on x (On u.side j.0) held) body) (λ z. judge_rows w vs held x u rows) f j.2 in
        let r = judge-sound vs (goes_on x (On u.side j.0) held) body l.0 l.1 in
        let s = rows-sound vs held x u is rows f l.2 in
        let e = held-goes-on x (On u.side j.0) (On u.side u.held_type) held is in
        ((j.0, type-found k x u j.0 j.1, subst (λ g. IsWellFormed w vs g body) e r.0, s.0), (r.1, s.1))

    branches-sound : (vs : Vars) (held : Holding) (rows : Branches) → AllReceive rows → (f : Fine) → judge_branches w vs held rows ≡ Is f
        → BranchesAreWellFormed w vs (as_held held) rows × BranchesHaveTrees rows
    branches-sound vs held b.no_branches all f i = (tt, tt)
    branches-sound vs held (b.branch_then x body rows) all f i =
        let j = in-turn (judge w vs held body) (λ z. judge_branches w vs held rows) f i in
        let r = judge-sound vs held body j.0 j.1 in
        let s = branches-sound vs held rows all.1 f j.2 in
        ((all.0, r.0, s.0), (r.1, s.1))

    cases-sound : (vs : Vars) (held : Holding) (t : SeqType) (rows : CaseRows) (f : Fine) → judge_cases w vs held t rows ≡ Is f
        → CasesAreWellFormed w vs (as_held held) t rows × CasesHaveTrees rows
    cases-sound vs held t b.no_case_rows f i = (tt, tt)
    cases-sound vs held t (b.case_row_then p body rows) f i =
        let j = in-turn (from_seq (fit w [] p t)) (λ xs. and_then (judge w (xs ++ vs) held body) (λ z. judge_cases w vs held t rows)) f i in
        let k = in-turn (judge w (j.0 ++ vs) held body) (λ z. judge_cases w vs held t rows) f j.2 in
        let h = fit-fits w [] p t j.0 (is-seq (fit w [] p t) j.0 j.1) in
        let r = judge-sound (j.0 ++ vs) held body k.0 k.1 in
        let s = cases-sound vs held t rows f k.2 in
        ((j.0, alone-is h, h.distinct, r.0, s.0), (r.1, s.1))

    parts-sound : (vs : Vars) (links : List Link) (held : Holding) → LinksAreNew links held → (parts : Parts) (f : Fine) → judge_parts w vs links held parts ≡ Is f
        → PartsAreWellFormed w vs (links_in links) (as_held held) parts × PartsHaveTrees parts
    parts-sound vs links held new b.no_parts f i = (tt, tt)
    parts-sound vs links held new (b.part_then header body parts) f i =
        let j = in-turn (judge w vs (share_of links held header) body) (λ z. judge_parts w vs links held parts) f i in
        let r = judge-sound vs (share_of links held header) body j.0 j.1 in
        let s = parts-sound vs links held new parts f j.2 in
        ((subst (λ g. IsWellFormed w vs g body) (shares links held header new) r.0, s.0), (r.1, s.1))
