-- The call of a process keeps a configuration lawful.
use Rattle.std.proofs.Common.{◌≡◌, ◌∙◌, inl, inr, refl, sym, ap, ap₂, subst, suc, ◌≤◌, arith, false, IsTrue, List, [], ◌++◌, Some, None, map, length, true≢false, append_assoc}
use Rattle.campl_tree.specs.declared.place.Ident.{Ident}
use Rattle.campl_tree.specs.declared.place.Place.{Place}
use Rattle.campl_tree.specs.declared.service.Side.TheVariants.{Input, Output}
use Rattle.campl_tree.specs.Plain.Decl.{Program, ProcessDecl}
use Rattle.campl_tree.specs.Plain.Expr.{Exprs}
use Rattle.campl_tree.specs.Plain.Process as b
use Rattle.campl_tree.specs.Plain.Process.{Body}
use Rattle.campl_value.specs.Tree.{Tree}
use Rattle.campl_machine.specs.Names.{Path, End, Process}
use Rattle.campl_machine.proofs.Updates.{split}
use Rattle.campl_types.specs.Names.{Name, found, is_among, are_distinct}
use Rattle.campl_types.specs.World.{World, world_of, names_of, process_named}
use Rattle.campl_types.specs.Patterns.{bound_by_all}
use Rattle.campl_types.specs.Held.{Channel, On, HoldsOnly, nothing_held}
use Rattle.campl_types.specs.Linear.{IsWellFormed, AreHanded, ProcessIsTyped, row_channels, row_variables, hold}
use Rattle.campl_types.specs.Sequential.{PartsHaveTypes}
use Rattle.campl_evaluation.specs.Evaluation.{values_of}
use Rattle.campl_evaluation.specs.Typed.{Fine}
use Rattle.campl_evaluation.proofs.Declared.{typed-world}
use Rattle.campl_evaluation.proofs.Sources.{arguments-fine}
use Rattle.campl_peel.specs.Trees.{PlugsAreTrees}
use Rattle.campl_peel.specs.Terms.{Doing, held_ends}
use Rattle.campl_peel.proofs.Found.{found-trees}
use Rattle.campl_meaning.specs.States.{Ends, Running, Runs}
use Rattle.campl_meaning.specs.Bodies.{handed, both_ends, bind_all}
use Rattle.campl_meaning.specs.Reductions.{Configuration}
use Rattle.campl_meaning.specs.Apart.{At, end_names}
use Rattle.campl_meaning.specs.Lawful.{Channels, IsTypedAt, Lawful}
use Rattle.campl_kept_quiet.specs.Quiet.{behind, Keeps}
use Rattle.campl_kept_quiet.proofs.Alike.{alike-itself}
use Rattle.campl_kept_quiet.proofs.Frame.{frame}
use Rattle.campl_kept_quiet.proofs.Acts.{found-does, answer-does}
use Rattle.campl_kept_quiet.proofs.Steps.{typed-body, works, none-else}
use Rattle.campl_kept_quiet.proofs.Processes.{all-bound}
use Rattle.campl_kept_quiet.proofs.Handed.{distinct-right, names-append, Among, Differ, is_end, end-among, among-end, found-among, among-found, one-name, Are, are-append, handed-are, both-split, Fit, fit-append, handed-fit, retyped, retyped-alike, retyped-others, listed, hold-listed, listed-append, held-is, among-from, named-among, are-differ}
use Rattle.campl_types.specs.Values.{AllAreValues}
use Rattle.campl_types.proofs.Lowers.{process-typed}
use Rattle.std.proofs.lemmas.List.{length-map}

-- the types of a heading
abbrev pub heading : ProcessDecl → List Channel
heading d = map (On Input) d.inputs ++ map (On Output) d.outputs

-- what a process's body holds, by its names and types
pub channels-listed : (d : ProcessDecl) → length d.row.inputs ≡ length d.inputs → row_channels d ≡ listed (names_of d.row.inputs ++ names_of d.row.outputs) (heading d) nothing_held
channels-listed d long =
    let outs : hold Output d.row.outputs d.outputs nothing_held ≡ listed (names_of d.row.outputs) (map (On Output) d.outputs) nothing_held = hold-listed Output d.row.outputs d.outputs nothing_held in
    let ins : row_channels d ≡ listed (names_of d.row.inputs) (map (On Input) d.inputs) (hold Output d.row.outputs d.outputs nothing_held) = hold-listed Input d.row.inputs d.inputs (hold Output d.row.outputs d.outputs nothing_held) in
    let same : length (names_of d.row.inputs) ≡ length (map (On Input) d.inputs) = length-map d.row.inputs _ ∙ (long ∙ sym (length-map d.inputs (On Input))) in
    ins ∙ (ap (listed (names_of d.row.inputs) (map (On Input) d.inputs)) outs
    ∙ sym (listed-append (names_of d.row.inputs) (names_of d.row.outputs) (map (On Input) d.inputs) (map (On Output) d.outputs) nothing_held same))

module _ (source : Program) (c : Configuration) (p : Path) (r : Running) (l : Lawful source c) (is : c.nodes (Process p) ≡ Some (Runs r)) (d : ProcessDecl) (inputs outputs : List Ident) (es : Ends) where
  abbrev w : World
  w = world_of source

  abbrev xs : List Name
  xs = names_of inputs ++ names_of outputs

  once : (x y : Name) (e : End) → found x r.ends ≡ Some e → found y r.ends ≡ Some e → x ≡ y
  once x y e f g = l.apart.placed.ends p r x y e is f g

  abbrev Handing : Type 0
  Handing = Are r.ends xs es × (end_names es ≡ names_of d.row.inputs ++ names_of d.row.outputs) × Fit l.channel es (heading d)

  -- the ends that are handed over
  handing : both_ends (handed d.row.inputs inputs r.ends) (handed d.row.outputs outputs r.ends) ≡ Some es
      → AreHanded (held_ends l.channel r.ends) Input inputs d.inputs → AreHanded (held_ends l.channel r.ends) Output outputs d.outputs → Handing
  handing both ins outs =
      let (fs, gs, f, g, join) = both-split (handed d.row.inputs inputs r.ends) (handed d.row.outputs outputs r.ends) es both in
      let (h, n) = handed-are d.row.inputs inputs r.ends fs f in
      let (k, m) = handed-are d.row.outputs outputs r.ends gs g in (
        subst (Are r.ends xs) join (are-append r.ends (names_of inputs) (names_of outputs) fs gs h k),
        ap end_names (sym join) ∙ (names-append fs gs ∙ ap₂ ◌++◌ n m),
        subst (λ z. Fit l.channel z (heading d)) join (fit-append l.channel fs gs (map (On Input) d.inputs) (map (On Output) d.outputs)
            (handed-fit l.channel r.ends Input inputs d.inputs fs ins h) (handed-fit l.channel r.ends Output outputs d.outputs gs outs k)),
      )

  abbrev after : Channels
  after = retyped es (heading d) l.channel

  called : (vs : List Tree) → ProcessIsTyped w d → PlugsAreTrees d.row.body → AllAreValues w vs d.parameters → IsTrue (are_distinct xs) → HoldsOnly xs (held_ends l.channel r.ends)
      → Are r.ends xs es → end_names es ≡ names_of d.row.inputs ++ names_of d.row.outputs → Fit l.channel es (heading d)
      → Lawful source (behind c p (Some (record { term = Doing d.row.body; variables = bind_all d.row.variables vs; ends = es; steps = suc r.steps; spent = 0 })))
  called vs (distinct, long, longer, longest, closed, well) trees values differ only are names fit = frame source c l p r (Some next) is (record {
    after = after;
    kept = λ e. is_end e es;
    steps = λ t i. let j : next ≡ t = cc i in subst (λ (z : Running). r.steps ≤ z.steps) j (omega arith);
    names = λ t i. let j : next ≡ t = cc i in subst (λ (z : Running). IsTrue (are_distinct (end_names z.ends))) j own-names;
    ends = λ t x y e i f g. let j : next ≡ t = cc i in one-name es x y e apart (in-es t x e j f) (in-es t y e j g);
    came = λ t x e i f. let j : next ≡ t = cc i in
        let a : Among e es = found-among x es e (in-es t x e j f) in
        let (y, k, g) = among-from r.ends once xs es e are a in
        (among-end e es a, (y, g));
    stays = λ y e f i. let (x, g) = among-found es e own-names (end-among e es i) in (next, x, refl, g);
    given = λ y e f i. inl (none-else source c p r l is xs only y e f (unnamed y e f i));
    alike = λ e. retyped-alike l.channel (λ a. alike-itself (l.channel a)) es (heading d) e fit;
    others = λ e n. retyped-others l.channel es (heading d) e (λ a. n (mine e a));
    typed = λ t i. let j : next ≡ t = cc i in subst (IsTypedAt w after) j (record {
      vars = row_variables d.row.variables d.parameters;
      bound = all-bound w d.row.variables d.parameters vs values;
      term = (subst (λ z. IsWellFormed w (row_variables d.row.variables d.parameters) z d.row.body) held-same well, trees);
    });
  })
    where
      next : Running
      next = record { term = Doing d.row.body; variables = bind_all d.row.variables vs; ends = es; steps = suc r.steps; spent = 0 }

      in-es : (t : Running) (x : Name) (e : End) → next ≡ t → found x t.ends ≡ Some e → found x es ≡ Some e
      in-es t x e j f = subst (λ (z : Running). found x z.ends ≡ Some e) (sym j) f

      apart : Differ es
      apart = are-differ r.ends once xs es are differ

      own-names : IsTrue (are_distinct (end_names es))
      own-names = subst (λ z. IsTrue (are_distinct z)) (sym names) (distinct-right (bound_by_all d.row.variables) (names_of d.row.inputs ++ names_of d.row.outputs)
          (subst (λ z. IsTrue (are_distinct z)) (append_assoc (bound_by_all d.row.variables) (names_of d.row.inputs) (names_of d.row.outputs)) distinct))

      mine : (e : End) → Among e es → l.place e ≡ At (Process p)
      mine e a =
          let (y, k, g) = among-from r.ends once xs es e are a in
          (l.apart.placed.held p e (r, y, is, g)).0

      unnamed : (y : Name) (e : End) → found y r.ends ≡ Some e → is_end e es ≡ false → is_among y xs ≡ false
      unnamed y e f i = elim (split (is_among y xs)) [
        | inr k ↦ k
        | inl k ↦ absurd (true≢false (sym (among-end e es (named-among r.ends once xs es y e are k f)) ∙ i))
      ]

      held-same : row_channels d ≡ held_ends after es
      held-same =
          channels-listed d longer ∙ (ap (λ z. listed z (heading d) nothing_held) (sym names) ∙ sym (held-is l.channel es (heading d) apart fit))

pub keeps-call : (at : Place) (x : Name) (args : Exprs) (inputs outputs : List Ident) → Keeps (b.Call at x args inputs outputs)
keeps-call at x args inputs outputs source c d p r i l is t does =
    let (vs, bound, (q, named, parts, ins, outs, distinct, only), trees) = typed-body source c p r l is (b.Call at x args inputs outputs) t in
    let (f, f-named, k) = found-does c p r d _ (process_named (world_of source) x) _ does in
    let (es, both, k2) = found-does c p r d _ (both_ends (handed f.row.inputs inputs r.ends) (handed f.row.outputs outputs r.ends)) _ k in
    let same : q ≡ f = cc (sym named ∙ f-named) in
    let fine : Fine (λ us. AllAreValues (world_of source) us f.parameters) (values_of (world_of source) args r.variables r.spent) =
    arguments-fine (world_of source) (typed-world source l.accepted.typed) vs f.parameters args r.variables r.spent bound (subst (λ (z : ProcessDecl). PartsHaveTypes (world_of source) vs [] [] z.parameters args) same parts) in
    elim (answer-does c p r d _ None (values_of (world_of source) args r.variables r.spent) _ k2) [
      | inr g ↦ subst (Lawful source) (sym g) (works source c p r l is)
      | inl (us, left, done, g) ↦
          let values : AllAreValues (world_of source) us f.parameters = subst (Fine (λ z. AllAreValues (world_of source) z f.parameters)) done fine in
          let (are, names, fit) = handing source c p r l is f inputs outputs es both
          (subst (λ (z : ProcessDecl). AreHanded (held_ends l.channel r.ends) Input inputs z.inputs) same ins)
          (subst (λ (z : ProcessDecl). AreHanded (held_ends l.channel r.ends) Output outputs z.outputs) same outs) in
          subst (Lawful source) (sym g) (called source c p r l is f inputs outputs es us (process-typed source l.accepted.typed x f f-named) (found-trees source l.accepted.trees x f f-named) values distinct only are names fit)
    ]
