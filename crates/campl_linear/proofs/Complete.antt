-- A body that is well formed, and whose plugs' parts form trees, is judged to have no fault. The variables with
-- which it is judged may differ from those with which it is well formed in places of their types.
use Rattle.std.proofs.Common.{◌≡◌, ◌∙◌, refl, sym, ap, subst, true, not, List, [], ◌∷◌, ◌++◌, length, Some, None, eqb, eq-eqb}
use Rattle.std.proofs.lemmas.List.{append-nil}
use Rattle.campl_tree.specs.declared.place.Place.{Place}
use Rattle.campl_tree.specs.declared.place.Ident.{Ident}
use Rattle.campl_tree.specs.declared.process.Binder.{Binder}
use Rattle.campl_tree.specs.declared.process.Binder.TheVariants as binder
use Rattle.campl_tree.specs.declared.service.Side.TheVariants.{Input, Output}
use Rattle.campl_tree.specs.Plain.SeqType.{SeqType}
use Rattle.campl_tree.specs.Plain.Expr.{Exprs}
use Rattle.campl_tree.specs.Plain.Process as b
use Rattle.campl_tree.specs.Plain.Process.{Body, HcaseRows, Branches, CaseRows, Parts, Link}
use Rattle.campl_tree.specs.Plain.Decl.{ProcessDecl}
use Rattle.campl_types.specs.Names.{Name, found}
use Rattle.campl_types.specs.World.{World, process_named, names_of}
use Rattle.campl_types.specs.Polarity.{Choices}
use Rattle.campl_types.specs.Fits.{Vars}
use Rattle.campl_types.specs.Held.{On, without, HoldsOnly}
use Rattle.campl_types.specs.Headers.{links_in}
use Rattle.campl_types.specs.Missing.{missing}
use Rattle.campl_types.specs.SameType.{IsSame}
use Rattle.campl_types.specs.Linear.{bound, body_rows, IsWellFormed, RowsAreWellFormed, BranchesAreWellFormed, CasesAreWellFormed, PartsAreWellFormed}
use Rattle.campl_types.specs.Free.{is_free}
use Rattle.campl_types.proofs.Forked.{forks-by-names}
use Rattle.campl_seqcheck.specs.Judged.{fine, Is}
use Rattle.campl_seqcheck.specs.Judging.{count_of}
use Rattle.campl_seqcheck.proofs.AgreesAlike.{SameVars, same-vars-append}
use Rattle.campl_seqcheck.proofs.AgreesMissing.{missing-same}
use Rattle.campl_seqcheck.proofs.AgreesRefit.{fits-alone}
use Rattle.campl_seqcheck.proofs.AgreesComplete.{typed-judged}
use Rattle.campl_linear.specs.Holding.{Holding, as_held, goes_on, those, given_up, comes}
use Rattle.campl_linear.specs.Channels.{Used, to_put, to_get, to_pick, to_split, to_fork, to_end, to_offer}
use Rattle.campl_linear.specs.Rows.{row_names, branch_names}
use Rattle.campl_linear.specs.Plugs.{share_of}
use Rattle.campl_linear.specs.Bodies.{judge, judge_rows, judge_branches, judge_cases, judge_parts}
use Rattle.campl_peel.specs.Trees.{PlugsAreTrees, RowsHaveTrees, BranchesHaveTrees, CasesHaveTrees, PartsHaveTrees}
use Rattle.campl_linear.proofs.Lists.{held-given-up, held-goes-on, left-none, only-before, all_given_up, only-all}
use Rattle.campl_linear.proofs.Named.{once-distinct, has-each-row, row-some, race-count}
use Rattle.campl_linear.proofs.Headings.{IsPlain}
use Rattle.campl_linear.proofs.Uses.{is-used, two-new, new-are, joins}
use Rattle.campl_linear.proofs.Rowed.{distinct-rows, so-counted, receive-branches, fit-patterns}
use Rattle.campl_linear.proofs.Called.{typed-values, so-handed, before-all, turned-apart}
use Rattle.campl_linear.proofs.Headers.{LinksAreNew, left-distinct}
use Rattle.campl_linear.proofs.Plugged.{PlugStands, so-plug, stands-new, shares}
use Rattle.campl_linear.proofs.Sound.{two-held, kept-held}
use Rattle.campl_types.specs.Values.{PartsAreKnown}
use Rattle.campl_types.proofs.Among.{from-nothing}

bound-same : (v : Binder) (t : SeqType) (vs us : Vars) → SameVars vs us → SameVars (bound v t vs) (bound v t us)
bound-same (binder.Variable at x) t vs us alike = (refl, refl, alike)
bound-same (binder.Wildcard at) t vs us alike = alike

module _ (w : World) (known : PartsAreKnown w) (plain : (x : Name) (p : ProcessDecl) → process_named w x ≡ Some p → IsPlain p) where
  call-fine : (vs us : Vars) → SameVars vs us → (held : Holding) (at : Place) (x : Name) (args : Exprs) (inputs outputs : List Ident)
      → IsWellFormed w vs (as_held held) (b.Call at x args inputs outputs) → judge w us held (b.Call at x args inputs outputs) ≡ Is fine
  call-fine vs us alike held at x args inputs outputs (p, named, typed, ins, outs, distinct, only) =
      let v = typed-values w known vs us alike [] p.parameters args ((plain x p named).values) typed in
      let c : eqb (count_of args) (length p.parameters) ≡ true = eq-eqb (count_of args) (length p.parameters) v.0 in
      let d = left-distinct (names_of inputs) (names_of outputs) distinct in
      let h = so-handed Input inputs p.inputs held ins d.0 in
      let k = so-handed Output outputs p.outputs (all_given_up (names_of inputs) held)
      (before-all Output (names_of inputs) held outputs p.outputs outs (turned-apart (names_of outputs) (names_of inputs) d.2)) d.1 in
      let m : eqb (length inputs) (length p.inputs) ≡ true = eq-eqb (length inputs) (length p.inputs) h.0 in
      let n : eqb (length outputs) (length p.outputs) ≡ true = eq-eqb (length outputs) (length p.outputs) k.0 in
      let q = only-all (names_of inputs) (names_of outputs) held only in
      let r = only-all (names_of outputs) [] (all_given_up (names_of inputs) held)
      (subst (λ z. HoldsOnly z (as_held (all_given_up (names_of inputs) held))) (sym (append-nil (names_of outputs))) q) in
      rw (named, c, v.1, m, n, h.1, k.1) (left-none at (all_given_up (names_of outputs) (all_given_up (names_of inputs) held)) r)

  mutual
    pub judged-fine : (vs us : Vars) → SameVars vs us → (held : Holding) (body : Body) → IsWellFormed w vs (as_held held) body → PlugsAreTrees body → judge w us held body ≡ Is fine
    judged-fine vs us alike held (b.Then (b.Put at a x) rest) d t =
        let q = typed-judged w known vs us alike a d.2 (Some d.2) d.6 refl in
        let p = is-used w at x to_put held d.0 d.1 (d.2, d.3) d.4 (ap to_put d.5) in
        let e = held-goes-on x.name (On d.0 d.3) (On d.0 d.1) held d.4 in
        rw (p, q.1) (judged-fine vs us alike (goes_on x.name (On d.0 d.3) held) rest (subst (λ g. IsWellFormed w vs g rest) (sym e) d.7) t)
    judged-fine vs us alike held (b.Then (b.Get at v x) rest) d t =
        let p = is-used w at x to_get held d.0 d.1 (d.2, d.3) d.4 (ap to_get d.5) in
        let e = held-goes-on x.name (On d.0 d.3) (On d.0 d.1) held d.4 in
        rw p (judged-fine (bound v d.2 vs) (bound v d.2 us) (bound-same v d.2 vs us alike) (goes_on x.name (On d.0 d.3) held) rest (subst (λ g. IsWellFormed w (bound v d.2 vs) g rest) (sym e) d.6) t)
    judged-fine vs us alike held (b.Then (b.Hput at k x) rest) d t =
        let p = is-used w at x (to_pick k.name) held d.0 d.1 d.3 d.4 (ap (to_pick k.name) d.5 ∙ d.6) in
        let e = held-goes-on x.name (On d.0 d.3) (On d.0 d.1) held d.4 in
        rw p (judged-fine vs us alike (goes_on x.name (On d.0 d.3) held) rest (subst (λ g. IsWellFormed w vs g rest) (sym e) d.7) t)
    judged-fine vs us alike held (b.Then (b.Split at x y z) rest) d t =
        let p = is-used w at x to_split held d.0 d.1 (d.2, d.3) d.4 (ap to_split d.5) in
        let n = new-are x.name y z held d.6 in
        let q = two-new y z (given_up x.name held) n in
        let e = two-held x.name y.name z.name (On d.0 d.2) (On d.0 d.3) held n in
        rw (p, q) (judged-fine vs us alike (comes z.name (On d.0 d.3) (comes y.name (On d.0 d.2) (given_up x.name held))) rest (subst (λ g. IsWellFormed w vs g rest) (sym e) d.7) t)
    judged-fine vs us alike held (b.Then (b.Close at x) rest) d t =
        let p = is-used w at x to_end held d.0 d.1 fine d.2 (ap to_end d.3) in
        rw p (judged-fine vs us alike (given_up x.name held) rest (subst (λ g. IsWellFormed w vs g rest) (sym (held-given-up x.name held)) d.4) t)
    judged-fine vs us alike held (b.Halt at None) d t = left-none at held d
    judged-fine vs us alike held (b.Halt at (Some x)) d t =
        let p = is-used w at x to_end held d.0 d.1 fine d.2 (ap to_end d.3) in
        rw p (left-none at (given_up x.name held) (subst (λ g. HoldsOnly [] g) (sym (held-given-up x.name held)) (only-before x.name [] (as_held held) d.4)))
    judged-fine vs us alike held (b.Hcase at x rows) d t =
        let p = is-used w at x to_offer held d.0 d.1 d.2 d.3 (ap to_offer d.4) in
        let u : Used Choices = record { side = d.0; held_type = d.1; may = d.2 } in
        let q = distinct-rows w vs (as_held held) x.name u [] rows d.6 (from-nothing (row_names rows) (once-distinct rows d.2 d.5)) in
        let r = has-each-row at rows d.2 d.5 in
        let m = row-some at x.name u rows d.7 in
        rw (p, q, r, m) (rows-fine vs us alike held x.name u d.3 rows d.6 t)
    judged-fine vs us alike held (b.Fork at x y left z right) given t =
        let d = (forks-by-names w vs (as_held held) at x y left z right).0 given in
        let p = is-used w at x to_fork held d.0 d.1 (d.2, d.3) d.4 (ap to_fork d.5) in
        let n = new-are x.name y z held d.6 in
        let q = two-new y z (given_up x.name held) n in
        let e = kept-held x.name y.name (On d.0 d.2) (λ c. is_free c left) held n.first in
        let g = kept-held x.name z.name (On d.0 d.3) (λ c. not (is_free c left)) held n.second in
        let r = judged-fine vs us alike (comes y.name (On d.0 d.2) (those (λ c. is_free c left) (given_up x.name held))) left (subst (λ h. IsWellFormed w vs h left) (sym e) d.7) t.0 in
        let s = judged-fine vs us alike (comes z.name (On d.0 d.3) (those (λ c. not (is_free c left)) (given_up x.name held))) right (subst (λ h. IsWellFormed w vs h right) (sym g) d.8) t.1 in
        rw (p, q, r) s
    judged-fine vs us alike held (b.Plug at links parts) d t =
        let p : PlugStands links parts held = record { size = d.0; distinct = d.1; divide = d.2; tree = t.0 } in
        let q = so-plug at links parts held p in
        rw q (parts-fine vs us alike links held (stands-new links parts held p) parts d.3 t.1)
    judged-fine vs us alike held (b.Race at rows) d t =
        let c = race-count w vs (as_held held) at rows d in
        let p = so-counted at (length (branch_names rows)) c.0 in
        let q = receive-branches w vs held [] rows c.2 (from-nothing (branch_names rows) c.1) in
        rw (p, q) (branches-fine vs us alike held rows c.2 t)
    judged-fine vs us alike held (b.Case at a rows) d t =
        let q = typed-judged w known vs us alike a d.0 None d.1 tt in
        let r = fit-patterns w vs (as_held held) rows d.0 q.0 (sym q.2) d.2 in
        let m : missing w (body_rows rows) (q.0 ∷ []) ≡ None = missing-same w (body_rows rows) (q.0 ∷ []) (d.0 ∷ []) (q.2, tt) ∙ d.3 in
        rw (q.1, r, m) (cases-fine vs us alike held d.0 q.0 (sym q.2) rows d.2 t)
    judged-fine vs us alike held (b.Identity at x negated y) d t =
        let p : found x held ≡ Some (On d.0 d.1) = d.4 in
        let q : found y.name held ≡ Some (On d.2 d.3) = d.5 in
        let e : as_held (given_up y.name (given_up x held)) ≡ without y.name (without x (as_held held)) = held-given-up y.name (given_up x held) ∙ ap (without y.name) (held-given-up x held) in
        let n = only-before y.name [] (without x (as_held held)) (only-before x (y.name ∷ []) (as_held held) d.8) in
        let l = left-none at (given_up y.name (given_up x held)) (subst (λ g. HoldsOnly [] g) (sym e) n) in
        rw (p, q, l) (joins at x negated y.name d.0 d.2 d.1 d.3 d.6 d.7)
    judged-fine vs us alike held (b.Call at x args inputs outputs) d t = call-fine vs us alike held at x args inputs outputs d

    rows-fine : (vs us : Vars) → SameVars vs us → (held : Holding) (x : Name) (u : Used Choices) → found x held ≡ Some (On u.side u.held_type) → (rows : HcaseRows)
        → RowsAreWellFormed w vs (as_held held) x u.side u.may rows → RowsHaveTrees rows → judge_rows w us held x u rows ≡ Is fine
    rows-fine vs us alike held x u is b.no_hcase_rows h t = refl
    rows-fine vs us alike held x u is (b.hcase_row_then k body rows) h t =
        let e = held-goes-on x (On u.side h.0) (On u.side u.held_type) held is in
        let r = judged-fine vs us alike (goes_on x (On u.side h.0) held) body (subst (λ g. IsWellFormed w vs g body) (sym e) h.2) t.0 in
        rw (h.1, r) (rows-fine vs us alike held x u is rows h.3 t.1)

    branches-fine : (vs us : Vars) → SameVars vs us → (held : Holding) (rows : Branches) → BranchesAreWellFormed w vs (as_held held) rows → BranchesHaveTrees rows → judge_branches w us held rows ≡ Is fine
    branches-fine vs us alike held b.no_branches h t = refl
    branches-fine vs us alike held (b.branch_then x body rows) h t =
        let r = judged-fine vs us alike held body h.1 t.0 in rw r (branches-fine vs us alike held rows h.2 t.1)

    cases-fine : (vs us : Vars) → SameVars vs us → (held : Holding) (v u : SeqType) → IsSame v u → (rows : CaseRows) → CasesAreWellFormed w vs (as_held held) v rows → CasesHaveTrees rows
        → judge_cases w us held u rows ≡ Is fine
    cases-fine vs us alike held v u i b.no_case_rows h t = refl
    cases-fine vs us alike held v u i (b.case_row_then p body rows) h t =
        let m = fits-alone w p v u h.0 i h.1 h.2 in
        let r = judged-fine (h.0 ++ vs) (m.0 ++ us) (same-vars-append h.0 m.0 vs us m.2 alike) held body h.3 t.0 in
        rw (m.1, r) (cases-fine vs us alike held v u i rows h.4 t.1)

    parts-fine : (vs us : Vars) → SameVars vs us → (links : List Link) (held : Holding) → LinksAreNew links held → (parts : Parts) → PartsAreWellFormed w vs (links_in links) (as_held held) parts → PartsHaveTrees parts
        → judge_parts w us links held parts ≡ Is fine
    parts-fine vs us alike links held new b.no_parts h t = refl
    parts-fine vs us alike links held new (b.part_then header body parts) h t =
        let r = judged-fine vs us alike (share_of links held header) body (subst (λ g. IsWellFormed w vs g body) (sym (shares links held header new)) h.0) t.0 in
        rw r (parts-fine vs us alike links held new parts h.1 t.1)
