-- Processes are judged to be fine exactly where they are typed and the parts of their plugs form trees.
use Rattle.std.proofs.Common.{◌≡◌, ◌∙◌, ◌↔◌, refl, sym, ap, subst, Bool, true, false, List, [], ◌∷◌, ◌++◌, length, Some, eqb, eq-eqb}
use Rattle.std.proofs.lemmas.List.{append-nil}
use Rattle.campl_tree.specs.declared.place.Ident.{Ident}
use Rattle.campl_tree.specs.declared.process.Binder.{Binder}
use Rattle.campl_tree.specs.declared.process.Binder.TheVariants as binder
use Rattle.campl_tree.specs.declared.service.Side.{Side}
use Rattle.campl_tree.specs.declared.service.Side.TheVariants.{Input, Output}
use Rattle.campl_tree.specs.Plain.ChanType.{ChanType}
use Rattle.campl_tree.specs.Plain.Process.{Body}
use Rattle.campl_tree.specs.Plain.Decl.{Program, ProcessDecl, ProcessRow, Decl, Data, Protocol, Coprotocol, Function, Process}
use Rattle.campl_types.specs.Names.{Name, is_among, are_distinct}
use Rattle.campl_types.specs.Patterns.{bound_by_all}
use Rattle.campl_types.specs.WellDeclared.{IsWellDeclared}
use Rattle.campl_types.specs.World.{World, world_of, names_of, process_named}
use Rattle.campl_types.specs.Fits.{Vars}
use Rattle.campl_types.specs.Held.{On, with}
use Rattle.campl_types.specs.Linear.{hold, row_channels, row_variables, IsWellFormed, ProcessIsTyped, ProcessesAreTyped}
use Rattle.campl_seqcheck.specs.Judged as seq
use Rattle.campl_seqcheck.specs.Judged.{Fine, fine, Is, and_then}
use Rattle.campl_seqcheck.proofs.AgreesJudged.{counts}
use Rattle.campl_types.specs.Typed.{IsTyped}
use Rattle.campl_seqcheck.specs.Functions.{judge_functions}
use Rattle.campl_seqcheck.proofs.AgreesFunctions.{functions-agree}
use Rattle.campl_seqcheck.proofs.AgreesAlike.{same-vars-itself}
use Rattle.campl_linear.specs.Judged.{from_seq}
use Rattle.campl_linear.specs.Holding.{Holding, as_held}
use Rattle.campl_linear.specs.Calls.{as_many}
use Rattle.campl_linear.specs.Bodies.{judge}
use Rattle.campl_linear.specs.Processes.{variables_bound, idents_of, names_differ, entering, row_holding, judge_process, judge_processes}
use Rattle.campl_peel.specs.Trees.{PlugsAreTrees, ProcessesHaveTrees}
use Rattle.campl_linear.proofs.Turns.{in-turn, is-seq}
use Rattle.campl_linear.proofs.Lists.{held-first}
use Rattle.campl_linear.proofs.Headings.{IsPlain, ProcessesArePlain, source-plain, world-plain, called-plain}
use Rattle.campl_linear.proofs.Called.{many, so-many}
use Rattle.campl_linear.proofs.Sound.{judge-sound}
use Rattle.campl_linear.proofs.Complete.{judged-fine}
use Rattle.campl_seqcheck.specs.Fitting.{counted}
use Rattle.campl_types.specs.Values.{PartsAreKnown}
use Rattle.campl_types.proofs.PartsKnown.{parts-are-known}
use Rattle.campl_types.proofs.Among.{DistinctFrom, none-distinct, distinct-more, distinct-first, distinct-rest, from-nothing}

-- The names of a row

names-so : (before : List Name) (xs : List Ident) (f : Fine) → names_differ before xs ≡ Is f → DistinctFrom before (names_of xs)
names-so before [] f i = none-distinct before
names-so before (x ∷ xs) f i = go (is_among x.name before) refl (names-so (x.name ∷ before) xs f)
  where
    go : (b : Bool) → is_among x.name before ≡ b → (names_differ (x.name ∷ before) xs ≡ Is f → DistinctFrom (x.name ∷ before) (names_of xs)) → DistinctFrom before (names_of (x ∷ xs))
    go true e later = absurd (cc (rw e at i))
    go false e later = distinct-more before (names_of xs) x.name e (later (rw e at i))

so-names : (before : List Name) (xs : List Ident) → DistinctFrom before (names_of xs) → names_differ before xs ≡ Is fine
so-names before [] d = refl
so-names before (x ∷ xs) d =
    let e : is_among x.name before ≡ false = distinct-first before (names_of xs) x.name d in
    rw e (so-names (x.name ∷ before) xs (distinct-rest before (names_of xs) x.name d))

names-append : (xs ys : List Ident) → names_of (xs ++ ys) ≡ names_of xs ++ names_of ys
names-append [] ys = refl
names-append (x ∷ xs) ys = ap (λ ns. x.name ∷ ns) (names-append xs ys)

variables-named : (bs : List Binder) → names_of (variables_bound bs) ≡ bound_by_all bs
variables-named [] = refl
variables-named (binder.Variable at x ∷ bs) = ap (λ ns. x ∷ ns) (variables-named bs)
variables-named (binder.Wildcard at ∷ bs) = variables-named bs

row-named : (row : ProcessRow) → names_of (idents_of row) ≡ bound_by_all row.variables ++ names_of row.inputs ++ names_of row.outputs
row-named row =
    names-append (variables_bound row.variables ++ row.inputs) row.outputs
    ∙ ap (λ ns. ns ++ names_of row.outputs) (names-append (variables_bound row.variables) row.inputs ∙ ap (λ ns. ns ++ names_of row.inputs) (variables-named row.variables))

-- What it holds at first

entering-held : (s : Side) (xs : List Ident) (ts : List ChanType) (rest : Holding) → as_held (entering s xs ts ++ rest) ≡ hold s xs ts (as_held rest)
entering-held s [] ts rest = refl
entering-held s (x ∷ xs) [] rest = refl
entering-held s (x ∷ xs) (t ∷ ts) rest = held-first x.name (On s t) (entering s xs ts ++ rest) ∙ ap (with x.name (Some (On s t))) (entering-held s xs ts rest)

row-held : (p : ProcessDecl) → as_held (row_holding p) ≡ row_channels p
row-held p =
    entering-held Input p.row.inputs p.inputs (entering Output p.row.outputs p.outputs)
    ∙ ap (hold Input p.row.inputs p.inputs) (ap as_held (sym (append-nil (entering Output p.row.outputs p.outputs))) ∙ entering-held Output p.row.outputs p.outputs [])

-- One process

module _ (w : World) (known : PartsAreKnown w) (plain : (x : Name) (p : ProcessDecl) → process_named w x ≡ Some p → IsPlain p) where
  process-so : (p : ProcessDecl) (f : Fine) → IsPlain p → judge_process w p ≡ Is f → ProcessIsTyped w p × PlugsAreTrees p.row.body
  process-so p f own i =
      let vs = row_variables p.row.variables p.parameters in
      let j1 = in-turn (names_differ [] (idents_of p.row)) (λ z1. and_then (from_seq (counted p.row.place (length p.row.variables) (length p.parameters))) (λ z2. and_then (as_many p.row.place (length p.row.inputs) (length p.inputs)) (λ z3. and_then (as_many p.row.place (length p.row.outputs) (length p.outputs)) (λ z4. judge w (row_variables p.row.variables p.parameters) (row_holding p) p.row.body)))) f i in
      let j2 = in-turn (from_seq (counted p.row.place (length p.row.variables) (length p.parameters))) (λ z2. and_then (as_many p.row.place (length p.row.inputs) (length p.inputs)) (λ z3. and_then (as_many p.row.place (length p.row.outputs) (length p.outputs)) (λ z4. judge w (row_variables p.row.variables p.parameters) (row_holding p) p.row.body))) f j1.2 in
      let j3 = in-turn (as_many p.row.place (length p.row.inputs) (length p.inputs)) (λ z3. and_then (as_many p.row.place (length p.row.outputs) (length p.outputs)) (λ z4. judge w (row_variables p.row.variables p.parameters) (row_holding p) p.row.body)) f j2.2 in
      let j4 = in-turn (as_many p.row.place (length p.row.outputs) (length p.outputs)) (λ z4. judge w (row_variables p.row.variables p.parameters) (row_holding p) p.row.body) f j3.2 in
      let d = names-so [] (idents_of p.row) j1.0 j1.1 in
      let n = counts p.row.place (length p.row.variables) (length p.parameters) j2.0 (is-seq (counted p.row.place (length p.row.variables) (length p.parameters)) j2.0 j2.1) in
      let r = judge-sound w known plain (row_variables p.row.variables p.parameters) (row_holding p) p.row.body f j4.2 in (
        (
          subst (λ ns. are_distinct ns ≡ true) (row-named p.row) d.distinct,
          n,
          many p.row.place (length p.row.inputs) (length p.inputs) j3.0 j3.1,
          many p.row.place (length p.row.outputs) (length p.outputs) j4.0 j4.1,
          own.channels,
          subst (λ g. IsWellFormed w (row_variables p.row.variables p.parameters) g p.row.body) (row-held p) r.0,
        ),
        r.1,
      )

  so-process : (p : ProcessDecl) → ProcessIsTyped w p → PlugsAreTrees p.row.body → judge_process w p ≡ Is fine
  so-process p h t =
      let d = so-names [] (idents_of p.row) (from-nothing (names_of (idents_of p.row)) (subst (λ ns. are_distinct ns ≡ true) (sym (row-named p.row)) h.0)) in
      let n : eqb (length p.row.variables) (length p.parameters) ≡ true = eq-eqb (length p.row.variables) (length p.parameters) h.1 in
      let k = so-many p.row.place (length p.row.inputs) (length p.inputs) h.2 in
      let l = so-many p.row.place (length p.row.outputs) (length p.outputs) h.3 in
      let vs = row_variables p.row.variables p.parameters in
      let r = judged-fine w known plain vs vs (same-vars-itself vs) (row_holding p) p.row.body (subst (λ g. IsWellFormed w vs g p.row.body) (sym (row-held p)) h.5) t in
      rw (d, n, k, l) r

  all-so : (ds : List Decl) (f : Fine) → ProcessesArePlain ds → judge_processes w ds ≡ Is f → ProcessesAreTyped w ds × ProcessesHaveTrees ds
  all-so [] f own i = (tt, tt)
  all-so (Process p ∷ ds) f own i =
      let j = in-turn (judge_process w p) (λ z. judge_processes w ds) f i in
      let h = process-so p j.0 own.0 j.1 in
      let r = all-so ds f own.1 j.2 in
      ((h.0, r.0), (h.1, r.1))
  all-so (Data d ∷ ds) f own i = let r = all-so ds f own.1 i in ((tt, r.0), (tt, r.1))
  all-so (Protocol d ∷ ds) f own i = let r = all-so ds f own.1 i in ((tt, r.0), (tt, r.1))
  all-so (Coprotocol d ∷ ds) f own i = let r = all-so ds f own.1 i in ((tt, r.0), (tt, r.1))
  all-so (Function d ∷ ds) f own i = let r = all-so ds f own.1 i in ((tt, r.0), (tt, r.1))

  so-all : (ds : List Decl) → ProcessesAreTyped w ds → ProcessesHaveTrees ds → judge_processes w ds ≡ Is fine
  so-all [] h t = refl
  so-all (Process p ∷ ds) h t = let r = so-process p h.0 t.0 in rw r (so-all ds h.1 t.1)
  so-all (Data d ∷ ds) h t = so-all ds h.1 t.1
  so-all (Protocol d ∷ ds) h t = so-all ds h.1 t.1
  so-all (Coprotocol d ∷ ds) h t = so-all ds h.1 t.1
  so-all (Function d ∷ ds) h t = so-all ds h.1 t.1

-- In a well declared source

heads : (source : Program) → IsWellDeclared source → (x : Name) (p : ProcessDecl) → process_named (world_of source) x ≡ Some p → IsPlain p
heads source i x p e = called-plain (world_of source) x p (world-plain source (source-plain source i)) e

pub bodies-sound : (source : Program) → IsWellDeclared source → (vs : Vars) (held : Holding) (body : Body) → judge (world_of source) vs held body ≡ Is fine
    → IsWellFormed (world_of source) vs (as_held held) body × PlugsAreTrees body
bodies-sound source i vs held body j = judge-sound (world_of source) (parts-are-known source i) (heads source i) vs held body fine j

pub bodies-agree : (source : Program) → IsWellDeclared source → (vs : Vars) (held : Holding) (body : Body)
    → judge (world_of source) vs held body ≡ Is fine ↔ (IsWellFormed (world_of source) vs (as_held held) body × PlugsAreTrees body)
bodies-agree source i vs held body = (
  bodies-sound source i vs held body,
  λ h. judged-fine (world_of source) (parts-are-known source i) (heads source i) vs vs (same-vars-itself vs) held body h.0 h.1,
)

pub processes-sound : (source : Program) → IsWellDeclared source → judge_processes (world_of source) source ≡ Is fine → ProcessesAreTyped (world_of source) source × ProcessesHaveTrees source
processes-sound source i j = all-so (world_of source) (parts-are-known source i) (heads source i) source fine (source-plain source i) j

pub processes-agree : (source : Program) → IsWellDeclared source
    → judge_processes (world_of source) source ≡ Is fine ↔ (ProcessesAreTyped (world_of source) source × ProcessesHaveTrees source)
processes-agree source i = (processes-sound source i, λ h. so-all (world_of source) (parts-are-known source i) (heads source i) source h.0 h.1)

-- a source has no fault of any phase exactly where it is typed and has trees
pub sources-agree : (source : Program)
    → (IsWellDeclared source × (judge_functions (world_of source) source ≡ seq.Is fine) × (judge_processes (world_of source) source ≡ Is fine)) ↔ (IsTyped source × ProcessesHaveTrees source)
sources-agree source = (
  λ h. let r = processes-sound source h.0 h.2 in (record { declared = h.0; functions = (functions-agree source h.0).0 h.1; processes = r.0 }, r.1),
  λ h. (h.0.declared, (functions-agree source h.0.declared).1 h.0.functions, (processes-agree source h.0.declared).1 (h.0.processes, h.1)),
)
