-- Work, `case`, `close`, `halt` and the choice of a race's branch keep a configuration lawful.
use Rattle.std.proofs.Common.{◌≡◌, ◌∙◌, ◌⊎◌, inl, inr, refl, sym, ap, subst, ℕ, zero, suc, ◌≤◌, arith, true, false, not, IsTrue, List, [], ◌∷◌, ◌++◌, Option, Some, None, true≢false}
use Rattle.campl_tree.specs.declared.place.Ident.{Ident}
use Rattle.campl_tree.specs.declared.place.Place.{Place}
use Rattle.campl_tree.specs.Plain.Expr.{Expr}
use Rattle.campl_tree.specs.declared.service.Side.{Side}
use Rattle.campl_tree.specs.Plain.ChanType.{ChanType, TopBot}
use Rattle.campl_tree.specs.Plain.Decl.{Program}
use Rattle.campl_tree.specs.Plain.SeqType.{SeqType}
use Rattle.campl_tree.specs.Plain.Pattern.{Pattern}
use Rattle.campl_tree.specs.Plain.Process as b
use Rattle.campl_tree.specs.Plain.Process.{Body, CaseRows, Branches}
use Rattle.campl_value.specs.Tree.{Tree}
use Rattle.campl_machine.specs.Names.{Path, End, Process, same_end}
use Rattle.campl_machine.specs.Machine.{Does, looked}
use Rattle.campl_machine.proofs.Same.{same_end-is, same_end-refl}
use Rattle.campl_machine.proofs.Updates.{split}
use Rattle.campl_types.specs.Names.{Name, same_name, found, is_among, are_distinct}
use Rattle.campl_types.specs.World.{World, world_of}
use Rattle.campl_types.specs.Polarity.{Ends, deed}
use Rattle.campl_types.specs.Fits.{Vars}
use Rattle.campl_types.specs.Held.{On, Held, HoldsOnly}
use Rattle.campl_types.specs.Matching.{Bindings, first_match}
use Rattle.campl_types.specs.Linear.{IsWellFormed, BranchesAreWellFormed, CasesAreWellFormed, body_rows}
use Rattle.campl_types.specs.Sequential.{Found, AreExhaustive}
use Rattle.campl_types.proofs.Names.{same-itself, split-names}
use Rattle.campl_evaluation.specs.Evaluation.{value_of}
use Rattle.campl_evaluation.specs.Typed.{Fine, AreBound}
use Rattle.campl_evaluation.proofs.Declared.{typed-world}
use Rattle.campl_evaluation.proofs.Sources.{put-fine, case-goes, row_body}
use Rattle.campl_peel.specs.Trees.{PlugsAreTrees, CasesHaveTrees, BranchesHaveTrees}
use Rattle.campl_peel.specs.Terms.{Doing, held_ends, TermIsWellFormed}
use Rattle.campl_meaning.specs.States.{Running, Runs}
use Rattle.campl_meaning.specs.Bodies.{row_at, branch_at, are_held, without_end}
use Rattle.campl_meaning.specs.Wants.{chooses}
use Rattle.campl_meaning.specs.Reductions.{Configuration}
use Rattle.campl_meaning.specs.Apart.{end_names}
use Rattle.campl_meaning.specs.Lawful.{IsTypedAt, Lawful}
use Rattle.campl_kept_quiet.specs.Quiet.{behind, Keeps}
use Rattle.campl_kept_quiet.proofs.Alike.{alike-itself}
use Rattle.campl_kept_quiet.proofs.Frame.{frame}
use Rattle.campl_kept_quiet.proofs.Acts.{spent_more, found-does, answer-does, if-does}
use Rattle.campl_frame.proofs.Listed.{found-without, still-without, distinct-without}
use Rattle.campl_frame.proofs.Held.{held-without}
use Rattle.campl_types.specs.Values.{IsValue}
use Rattle.campl_types.proofs.Deeds.{ends-top}

-- Rows and branches

row-same : (rows : CaseRows) (i : ℕ) (q : Pattern × Body) (body : Body) → row_body rows i ≡ Some q → row_at rows i ≡ Some body → q.1 ≡ body
row-same b.no_case_rows i q body e f = absurd (cc f)
row-same (b.case_row_then p first rows) zero q body e f = let g : ◌≡◌ {A = Pattern × Body} (p, first) q = cc e in sym (ap (λ (z : Pattern × Body). z.1) g) ∙ cc f
row-same (b.case_row_then p first rows) (suc i) q body e f = row-same rows i q body e f

row-trees : (rows : CaseRows) (i : ℕ) (body : Body) → CasesHaveTrees rows → row_at rows i ≡ Some body → PlugsAreTrees body
row-trees b.no_case_rows i body h f = absurd (cc f)
row-trees (b.case_row_then p first rows) zero body (h, hs) f = let g : first ≡ body = cc f in subst PlugsAreTrees g h
row-trees (b.case_row_then p first rows) (suc i) body (h, hs) f = row-trees rows i body hs f

branch-good : (w : World) (vs : Vars) (held : Held) (rows : Branches) (i : ℕ) (x : Name × Body) → BranchesAreWellFormed w vs held rows → BranchesHaveTrees rows → branch_at rows i ≡ Some x
    → IsWellFormed w vs held x.1 × PlugsAreTrees x.1
branch-good w vs held b.no_branches i x h k f = absurd (cc f)
branch-good w vs held (b.branch_then y first rows) zero x (n, h, hs) (k, ks) f =
    let g : ◌≡◌ {A = Name × Body} (y.name, first) x = cc f in
    let j : first ≡ x.1 = ap (λ (z : Name × Body). z.1) g in
    (subst (IsWellFormed w vs held) j h, subst PlugsAreTrees j k)
branch-good w vs held (b.branch_then y first rows) (suc i) x (n, h, hs) (k, ks) f = branch-good w vs held rows i x hs ks f

module _ (source : Program) (c : Configuration) (p : Path) (r : Running) (l : Lawful source c) (is : c.nodes (Process p) ≡ Some (Runs r)) where
  abbrev w : World
  w = world_of source

  abbrev held : Held
  held = held_ends l.channel r.ends

  -- what the process holds
  pub held-at : (x : Name) (e : End) → found x r.ends ≡ Some e → held x ≡ l.channel e
  held-at x e f = rw f refl

  -- its term
  pub typed-body : (body : Body) → r.term ≡ Doing body → (vs : Vars) × AreBound w [] r.variables vs × IsWellFormed w vs held body × PlugsAreTrees body
  typed-body body i =
      let t : IsTypedAt w l.channel r = l.typed p r is in
      let h : IsWellFormed w t.vars held body × PlugsAreTrees body = subst (TermIsWellFormed w t.vars held) i t.term in
      (t.vars, t.bound, h.0, h.1)

  -- it goes on with all its ends
  pub going-on : (s : Running) → s.ends ≡ r.ends → r.steps ≤ s.steps → IsTypedAt w l.channel s → Lawful source (behind c p (Some s))
  going-on s same more typed = frame source c l p r (Some s) is (record {
    after = l.channel;
    kept = λ e. true;
    steps = λ t i. let j : s ≡ t = cc i in subst (λ (z : Running). r.steps ≤ z.steps) j more;
    names = λ t i. let j : s ≡ t = cc i in subst (λ z. IsTrue (are_distinct (end_names z))) (sym (ends-of t j)) (l.apart.placed.names p r is);
    ends = λ t x y e i f g. let j : s ≡ t = cc i in
        l.apart.placed.ends p r x y e is (subst (λ z. found x z ≡ Some e) (ends-of t j) f) (subst (λ z. found y z ≡ Some e) (ends-of t j) g);
    came = λ t x e i f. let j : s ≡ t = cc i in (refl, (x, subst (λ z. found x z ≡ Some e) (ends-of t j) f));
    stays = λ y e f i. (s, y, refl, subst (λ z. found y z ≡ Some e) (sym same) f);
    given = λ y e f i. absurd (true≢false i);
    alike = λ e. alike-itself (l.channel e);
    others = λ e n. refl;
    typed = λ t i. let j : s ≡ t = cc i in subst (IsTypedAt w l.channel) j typed;
  })
    where
      ends-of : (t : Running) → s ≡ t → t.ends ≡ r.ends
      ends-of t j = ap (λ (z : Running). z.ends) (sym j) ∙ same

  -- one more call is spent
  pub works : Lawful source (behind c p (Some (spent_more r)))
  works =
      let t : IsTypedAt w l.channel r = l.typed p r is in
      going-on (spent_more r) refl (omega arith) (record { vars = t.vars; bound = t.bound; term = t.term })

  -- one end is given up
  pub giving-up : (s : Running) (x : Name) (e : End) → found x r.ends ≡ Some e → s.ends ≡ without_end x r.ends → r.steps ≤ s.steps
      → ((z : Side) × (l.channel e ≡ Some (On z TopBot))) → IsTypedAt w l.channel s → Lawful source (behind c p (Some s))
  giving-up s x e fx same more top typed = frame source c l p r (Some s) is (record {
    after = l.channel;
    kept = λ a. not (same_end e a);
    steps = λ t i. let j : s ≡ t = cc i in subst (λ (z : Running). r.steps ≤ z.steps) j more;
    names = λ t i. let j : s ≡ t = cc i in subst (λ z. IsTrue (are_distinct (end_names z))) (sym (ends-of t j)) (distinct-without x r.ends (l.apart.placed.names p r is));
    ends = λ t y z a i f g. let j : s ≡ t = cc i in l.apart.placed.ends p r y z a is (was t y a j f).1 (was t z a j g).1;
    came = λ t y a i f. let j : s ≡ t = cc i in (other y a (was t y a j f).0 (was t y a j f).1, (y, (was t y a j f).1));
    stays = λ y a f i. (s, y, refl, subst (λ z. found y z ≡ Some a) (sym same) (still-without x r.ends y a (named y a f i) f));
    given = λ y a f i. inr (top.0, ap l.channel (sym (is-it a i)) ∙ top.1);
    alike = λ a. alike-itself (l.channel a);
    others = λ a n. refl;
    typed = λ t i. let j : s ≡ t = cc i in subst (IsTypedAt w l.channel) j typed;
  })
    where
      ends-of : (t : Running) → s ≡ t → t.ends ≡ without_end x r.ends
      ends-of t j = ap (λ (z : Running). z.ends) (sym j) ∙ same

      was : (t : Running) (y : Name) (a : End) → s ≡ t → found y t.ends ≡ Some a → (same_name x y ≡ false) × (found y r.ends ≡ Some a)
      was t y a j f = found-without x r.ends y a (subst (λ z. found y z ≡ Some a) (ends-of t j) f)

      -- another name has another end
      other : (y : Name) (a : End) → same_name x y ≡ false → found y r.ends ≡ Some a → not (same_end e a) ≡ true
      other y a n f = elim (split (same_end e a)) [
        | inr i ↦ rw i refl
        | inl i ↦
            let ea : e ≡ a = same_end-is e a i in
            let xy : x ≡ y = l.apart.placed.ends p r x y e is fx (f ∙ ap Some (sym ea)) in
            absurd (true≢false (sym (same-itself x) ∙ (ap (same_name x) xy ∙ n)))
      ]

      named : (y : Name) (a : End) → found y r.ends ≡ Some a → not (same_end e a) ≡ true → same_name x y ≡ false
      named y a f i = elim (split-names x y) [
        | inr n ↦ n
        | inl j ↦
            let ea : e ≡ a = cc (sym fx ∙ (ap (λ z. found z r.ends) j ∙ f)) in
            let h : same_end e a ≡ true = subst (λ z. same_end e z ≡ true) ea (same_end-refl e) in
            absurd (true≢false (sym (rw h at i)))
      ]

      is-it : (a : End) → not (same_end e a) ≡ false → e ≡ a
      is-it a i = elim (split (same_end e a)) [
        | inl j ↦ same_end-is e a j
        | inr j ↦ absurd (true≢false (rw j at i))
      ]

  -- all ends are given up
  pub giving-up-all : ((y : Name) (e : End) → found y r.ends ≡ Some e → (l.channel e ≡ None) ⊎ ((s : Side) × (l.channel e ≡ Some (On s TopBot)))) → Lawful source (behind c p None)
  giving-up-all given = frame source c l p r None is (record {
    after = l.channel;
    kept = λ a. false;
    steps = λ t i. absurd (cc i);
    names = λ t i. absurd (cc i);
    ends = λ t x y e i f g. absurd (cc i);
    came = λ t x e i f. absurd (cc i);
    stays = λ y e f i. absurd (true≢false (sym i));
    given = λ y e f i. given y e f;
    alike = λ e. alike-itself (l.channel e);
    others = λ e n. refl;
    typed = λ t i. absurd (cc i);
  })

  -- what is held alone
  pub none-else : (xs : List Name) → HoldsOnly xs held → (y : Name) (e : End) → found y r.ends ≡ Some e → is_among y xs ≡ false → l.channel e ≡ None
  none-else xs only y e f n = sym (held-at y e f) ∙ only y n

  pub top-at : (x : Name) (e : End) (s : Side) (u : ChanType) → found x r.ends ≡ Some e → held x ≡ Some (On s u) → deed w s u ≡ Ends → l.channel e ≡ Some (On s TopBot)
  top-at x e s u f h ends = sym (held-at x e f) ∙ (h ∙ ap (λ z. Some (On s z)) (ends-top w s u ends))

-- Commands

pub keeps-close : (at : Place) (x : Ident) (rest : Body) → Keeps (b.Then (b.Close at x) rest)
keeps-close at x rest source c d p r i l is t does =
    let (vs, bound, (s, u, h, ends, well), trees) = typed-body source c p r l is (b.Then (b.Close at x) rest) t in
    let (e, f, g) = found-does c p r d _ (found x.name r.ends) _ does in
    subst (Lawful source) (sym g) (giving-up source c p r l is
    (record { term = Doing rest; variables = r.variables; ends = without_end x.name r.ends; steps = suc r.steps; spent = 0 })
    x.name e f refl (omega arith) (s, top-at source c p r l is x.name e s u f h ends)
    (record { vars = vs; bound = bound; term = (subst (λ z. IsWellFormed (world_of source) vs z rest) (sym (held-without l.channel l.channel x.name r.ends (λ y a n f. refl))) well, trees) }))

pub keeps-halt : (at : Place) (x : Option Ident) → Keeps (b.Halt at x)
keeps-halt at None source c d p r i l is t does =
    let (vs, bound, only, trees) = typed-body source c p r l is (b.Halt at None) t in
    subst (Lawful source) (sym does) (giving-up-all source c p r l is (λ y e f. inl (none-else source c p r l is [] only y e f refl)))
keeps-halt at (Some x) source c d p r i l is t does =
    let (vs, bound, (s, u, h, ends, only), trees) = typed-body source c p r l is (b.Halt at (Some x)) t in
    let (e, f, g) = found-does c p r d _ (found x.name r.ends) _ does in
    subst (Lawful source) (sym g) (giving-up-all source c p r l is (λ y a k. elim (split-names y x.name) [
      | inl j ↦ inr (s, top-at source c p r l is x.name a s u (subst (λ z. found z r.ends ≡ Some a) j k) h ends)
      | inr n ↦ inl (none-else source c p r l is (x.name ∷ []) only y a k (rw n refl))
    ]))

goes-case : (source : Program) (c : Configuration) (p : Path) (r : Running) (l : Lawful source c) (is : c.nodes (Process p) ≡ Some (Runs r)) (at : Place) (a : Expr) (rows : CaseRows)
    (vs : Vars) (type : SeqType) (v : Tree) (m : ℕ × Bindings) (body : Body) → AreBound (world_of source) [] r.variables vs
    → CasesAreWellFormed (world_of source) vs (held_ends l.channel r.ends) type rows → AreExhaustive (world_of source) (body_rows rows) (type ∷ []) → CasesHaveTrees rows
    → IsValue (world_of source) v type → first_match (world_of source) (body_rows rows) (v ∷ []) ≡ Some m → row_at rows m.0 ≡ Some body
    → Lawful source (behind c p (Some (record { term = Doing body; variables = m.1 ++ r.variables; ends = r.ends; steps = suc r.steps; spent = 0 })))
goes-case source c p r l is at a rows vs type v m body bound cases all trees v-is first row =
    let (n, q, us, first2, place, bound2, well) = case-goes (world_of source) (typed-world source l.accepted.typed) vs (held_ends l.channel r.ends) type rows v r.variables cases all bound v-is in
    let same : n ≡ m = cc (sym first2 ∙ first) in
    let here : row_body rows m.0 ≡ Some q = subst (λ z. row_body rows z.0 ≡ Some q) same place in
    let one : q.1 ≡ body = row-same rows m.0 q body here row in
    going-on source c p r l is (record { term = Doing body; variables = m.1 ++ r.variables; ends = r.ends; steps = suc r.steps; spent = 0 }) refl (omega arith)
    (record {
      vars = us;
      bound = subst (λ z. AreBound (world_of source) [] (z.1 ++ r.variables) us) same bound2;
      term = (subst (IsWellFormed (world_of source) us (held_ends l.channel r.ends)) one well, row-trees rows m.0 body trees row);
    })

pub keeps-case : (at : Place) (a : Expr) (rows : CaseRows) → Keeps (b.Case at a rows)
keeps-case at a rows source c d p r i l is t does =
    let (vs, bound, (type, h, cases, all), trees) = typed-body source c p r l is (b.Case at a rows) t in
    let fine = put-fine (world_of source) (typed-world source l.accepted.typed) Found vs a type r.variables r.spent bound h in
    elim (answer-does c p r d _ None (value_of (world_of source) a r.variables r.spent) _ does) [
      | inr g ↦ subst (Lawful source) (sym g) (works source c p r l is)
      | inl (v, left, done, k) ↦
          let v-is : IsValue (world_of source) v type = subst (Fine (λ z. IsValue (world_of source) z type)) done fine in
          let (m, first, k2) = found-does c p r d _ (first_match (world_of source) (body_rows rows) (v ∷ [])) _ k in
          let (body, row, g) = found-does c p r d _ (row_at rows m.0) _ k2 in
          subst (Lawful source) (sym g) (goes-case source c p r l is at a rows vs type v m body bound cases all trees v-is first row)
    ]

pub keeps-race : (at : Place) (rows : Branches) → Keeps (b.Race at rows)
keeps-race at rows source c d p r i l is t does =
    let (vs, bound, (few, names, branches), trees) = typed-body source c p r l is (b.Race at rows) t in
    go vs bound branches trees (branch_at rows i) refl (if-does c p r d (are_held rows r.ends) _ _ does (λ z. z))
  where
    go : (vs : Vars) → AreBound (world_of source) [] r.variables vs → BranchesAreWellFormed (world_of source) vs (held_ends l.channel r.ends) rows → BranchesHaveTrees rows
        → (o : Option (Name × Body)) → branch_at rows i ≡ o → Does c (Process p) (chooses r i o).act d → Lawful source d
    go vs bound branches trees None f z = absurd z
    go vs bound branches trees (Some x) f z =
        let (e, g, (far, m, ms, s, pe, oe, fits, h)) = found-does c p r d _ (found x.0 r.ends) _ z in
        let (well, tree) = branch-good (world_of source) vs (held_ends l.channel r.ends) rows i x branches trees f in
        let next : Running = record { term = Doing x.1; variables = r.variables; ends = r.ends; steps = suc r.steps; spent = 0 } in
        let k : Runs next ≡ s = cc fits in
        let j : d ≡ looked c (Process p) false far (Runs next) = h ∙ ap (λ z. looked c (Process p) false far z) (sym k) in
        subst (Lawful source) (sym j) (going-on source c p r l is next refl (omega arith) (record { vars = vs; bound = bound; term = (well, tree) }))
