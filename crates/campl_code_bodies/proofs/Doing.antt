-- The code that stands for a process wants what the process wants.
use Rattle.std.proofs.Common.{◌≡◌, ◌∙◌, refl, sym, ap, subst, arith, inl, inr, ℕ, zero, suc, ◌+◌, ◌≤◌, max, Bool, true, false, not, List, [], ◌∷◌, ◌++◌, Option, Some, None, if◌then◌else◌, length, slice_get, true≢false, eqb-true}
use Rattle.std.specs.Prelude.{is_some, ◌&&◌, option_map, slice_set, replicate, ◌-◌}
use Rattle.campl_tree.specs.declared.place.Ident.{Ident}
use Rattle.campl_tree.specs.declared.process.Binder.{Binder}
use Rattle.campl_tree.specs.declared.process.Binder.TheVariants as binder
use Rattle.campl_tree.specs.Side.{opposite}
use Rattle.campl_tree.specs.Plain.Expr as e
use Rattle.campl_tree.specs.Plain.Expr.{Expr, Exprs}
use Rattle.campl_tree.specs.Plain.Process as b
use Rattle.campl_tree.specs.Plain.Process.{Body, HcaseRows, Branches, CaseRows, Parts, Link, Header}
use Rattle.campl_tree.specs.Plain.Decl.{ProcessDecl}
use Rattle.campl_value.specs.Tree.{Tree, Nil}
use Rattle.campl_machine.specs.Names.{Path, First, Second, End}
use Rattle.campl_machine.specs.Machine.{Moves, Looks, Links, Breaks}
use Rattle.campl_types.specs.Names.{Name, found}
use Rattle.campl_types.specs.Forms.{Form, form_of}
use Rattle.campl_types.specs.Matching.{Bindings, first_match, number_of, is_number}
use Rattle.campl_types.specs.Free.{is_free}
use Rattle.campl_types.specs.Patterns.{bound_in}
use Rattle.campl_types.specs.Linear.{body_rows}
use Rattle.campl_types.specs.World.{World}
use Rattle.campl_evaluation.specs.Evaluation.{Answer, Done, Deep, Wrong, More, and_then, value_of, values_of}
use Rattle.campl_peel.specs.Numbered.{last_first}
use Rattle.campl_peel.specs.Plugging.{stands_in, side_in, without_link}
use Rattle.campl_peel.specs.Peel.{peel_of, peel_by}
use Rattle.campl_peel.specs.Terms.{Term, Doing, Plugging, those, left as left_term}
use Rattle.campl_meaning.specs.States as k
use Rattle.campl_meaning.specs.States.{Message, Word, Pick, EndPair, Running, State, Runs, Serves, Kind, Command}
use Rattle.campl_meaning.specs.Bodies.{row_at, branch_at, without_end, are_held, handed, both_ends, bind, bind_all}
use Rattle.campl_types.specs.Matching.{row_picked}
use Rattle.campl_meaning.specs.Wants as t
use Rattle.campl_meaning.specs.Wants.{with_answer, next_command, term_command, peels, on_word, on_pick, on_ends, half_on}
use Rattle.campl_code.specs.Decisions.{Decision, StandsForRows, chosen, in_order, row_names}
use Rattle.campl_code.specs.Instructions.{Instr, Block, Code, blocks}
use Rattle.campl_code.specs.Instructions as i
use Rattle.campl_code.specs.Runs.{Outcome, Gave, IsOver, Arrives, run}
use Rattle.campl_code.specs.Machine.{is_command}
use Rattle.campl_code.specs.Frames.{frame_size, frame_of, set_from, reach, greatest, named, named_in}
use Rattle.campl_code.specs.Numbers.{Numbers, numbered, Framed}
use Rattle.campl_code.specs.Stands.{count, all_stand}
use Rattle.campl_code.proofs.Bound.{name_order, found-row, row-bound, one-names, some-same}
use Rattle.campl_code.proofs.Frames.{get-front, named-at, greatest-at, map-at, max-right, frame-length, framed-set, framed-one, framed-other}
use Rattle.campl_code.proofs.Runs.{arrives}
use Rattle.campl_code_bodies.specs.Bodies.{Channels, without, only, are_numbered, binds, has_two, StandsBody, put, get, hput, split, close, halt, halt_at, hcase, fork, plug, race, case, link, link_neg, go, StandsHcase, no_rows, row, StandsRace, no_branches, branch as race_row, StandsCases, no_cases, case_row, StandsPeels, last, peel, StandsTerm, parameter_numbers, channel_numbers, StandsForProcess, StandsFor}
use Rattle.campl_code_bodies.specs.Commands as on
use Rattle.campl_code_bodies.specs.Commands.{Ends, Cell, CodeState, RunsCode, Beside, CodeCommand, set_end, onward, spends, newborn, end_at, called, are_set, channel_at, chooses, behind, at_instruction, in_block, wanted, run_of, with_found, with_one, command}
use Rattle.campl_code_bodies.specs.Alike.{Channeled, CellStands, StandsState, OptionAlike, CommandsAlike}
use Rattle.campl_code_bodies.proofs.Ends.{channeled-found, channeled-without, channeled-those, set-same, set-other, channeled-set, channeled-append, channeled-handed, numbered-length, agrees-parameters, get-behind}

-- a command's one expression
abbrev one_of : (Tree → Command) → List Tree → Command
one_of f [] = t.command k.Work None Breaks
one_of f (v ∷ []) = f v
one_of f (v ∷ u ∷ vs) = t.command k.Work None Breaks

module _ (w : World) (code : Code) (standing : StandsFor w code) (p : Path) (branch : ℕ) (c : Cell) (blk : Block) (there : slice_get (blocks code) c.block ≡ Some blk) where
  abbrev size : ℕ
  size = frame_size code.decisions blk

  -- the process, with the cell's steps and calls
  abbrev as_running : Term → Bindings → k.Ends → Running
  as_running term env es = record { term = term; variables = env; ends = es; steps = c.steps; spent = c.spent }

  abbrev Res : Command → Type 0
  Res d = (n : ℕ) × (IsOver (run_of code n c) × CommandsAlike w code (wanted code c p branch (run_of code n c)) d)

  abbrev Alike : CodeCommand → Command → Type 0
  Alike x d = CommandsAlike w code x d

  stands-onward : (at : ℕ) (term : Term) (ns : Numbers) (cs : Channels) (env : Bindings) (es : k.Ends) (vars : List Tree) (ends : Ends) (old : Term) (env' : Bindings) (es' : k.Ends) → StandsTerm w code blk.code at term ns cs → Framed size ns env vars → Channeled cs es ends
      → StandsState w code (onward c at vars ends) (t.onward (as_running old env' es') term env es)
  stands-onward at term ns cs env es vars ends old env' es' s f h = record { block = blk; there = there; numbers = ns; channels = cs; term = s; variables = f; ends = h; steps = refl; spent = refl }

  stands-newborn : (at : ℕ) (body : Body) (ns : Numbers) (cs : Channels) (env : Bindings) (es : k.Ends) (vars : List Tree) (ends : Ends) (old : Term) (es' : k.Ends) → StandsBody w code blk.code at body ns cs → Framed size ns env vars → Channeled cs es ends
      → StandsState w code (newborn c at vars ends) (t.newborn (as_running old env es') body es)
  stands-newborn at body ns cs env es vars ends old es' s f h = record { block = blk; there = there; numbers = ns; channels = cs; term = s; variables = f; ends = h; steps = refl; spent = refl }

  -- the instruction that the expressions lead to
  wanted-is : (q : ℕ) (vars vs : List Tree) (left : ℕ) (x : Instr) → slice_get blk.code q ≡ Some x → wanted code c p branch (Gave q vars vs left) ≡ behind code c blk.code p branch q vars vs x
  wanted-is q vars vs left x e = ap (in_block code c p branch q vars vs) there ∙ ap (at_instruction code c blk.code p branch q vars vs) e

  -- a command with expressions
  through-values : (all : Exprs) (q : ℕ) (x : Instr) (ns : Numbers) (cs : Channels) (env : Bindings) (es : k.Ends) (term : Term) (kind : Kind) (end : Option End) (f : List Tree → Command) → StandsTerm w code blk.code c.at term ns cs → Channeled cs es c.ends
      → all_stand w code blk.code c.at all ns q → slice_get blk.code q ≡ Some x → is_command x ≡ true → Framed size ns env c.vars
      → ((vs vars : List Tree) → length vs ≡ count all → Framed size ns env vars → Alike (behind code c blk.code p branch q vars vs x) (f vs))
      → Res (with_answer (as_running term env es) kind end (values_of w all env c.spent) f)
  through-values all q x ns cs env es term kind end f s ch h e x-command framed next =
      let a = arrives w code standing.functions all c.block blk c.at q x ns env c.vars there h e x-command framed c.spent in
      (a.0, by (run_of code a.0 c) (values_of w all env c.spent) a.1)
    where
      by : (o : Outcome) (r : Answer (List Tree)) → Arrives size (count all) ns env q o r → IsOver o × Alike (wanted code c p branch o) (with_answer (as_running term env es) kind end r f)
      by o (Done vs left) r =
          subst (λ o. IsOver o × Alike (wanted code c p branch o) (f vs)) (sym r.1)
          (tt, subst (λ d. Alike d (f vs)) (sym (wanted-is q r.0 vs left x e)) (next vs r.0 r.3 r.2))
      by o (Deep left) r = subst (λ o. IsOver o × Alike (wanted code c p branch o) (t.command kind end Breaks)) (sym r) (tt, (tt, inl tt))
      by o (Wrong left) r = subst (λ o. IsOver o × Alike (wanted code c p branch o) (t.command kind end Breaks)) (sym r) (tt, (tt, inl tt))
      by o More r =
          subst (λ o. IsOver o × Alike (wanted code c p branch o) (t.command k.Work None (t.quiet (t.spends (as_running term env es))))) (sym r.2)
          (tt, ((refl, refl, tt, record { block = blk; there = there; numbers = ns; channels = cs; term = s; variables = framed; ends = ch; steps = refl; spent = refl }), inr (refl, refl, refl)))

  -- a command without
  through : (q : ℕ) (x : Instr) (ns : Numbers) (env : Bindings) (d : Command) → all_stand w code blk.code c.at e.no_exprs ns q → slice_get blk.code q ≡ Some x → is_command x ≡ true → Framed size ns env c.vars
      → ((vars : List Tree) → Framed size ns env vars → Alike (behind code c blk.code p branch q vars [] x) d) → Res d
  through q x ns env d h at x-command framed next =
      let a = arrives w code standing.functions e.no_exprs c.block blk c.at q x ns env c.vars there h at x-command framed c.spent in
      let vars = a.1.0 in
      (a.0, subst (λ o. IsOver o × Alike (wanted code c p branch o) d) (sym a.1.1) (tt, subst (λ x. Alike x d) (sym (wanted-is q vars [] c.spent x at)) (next vars a.1.2)))

  -- a command with one expression
  single-answer : (r : Running) (kind : Kind) (end : Option End) (a : Expr) (env : Bindings) (m : ℕ) (f : Tree → Command) → with_answer r kind end (values_of w (only a) env m) (one_of f) ≡ with_answer r kind end (value_of w a env m) f
  single-answer r kind end a env m f = go (value_of w a env m)
    where
      go : (x : Answer Tree) → with_answer r kind end (and_then x (λ v n. and_then (Done [] n) (λ vs k. Done (v ∷ vs) k))) (one_of f) ≡ with_answer r kind end x f
      go (Done v left) = refl
      go (Deep left) = refl
      go (Wrong left) = refl
      go More = refl

  through-one : (a : Expr) (q : ℕ) (x : Instr) (ns : Numbers) (cs : Channels) (env : Bindings) (es : k.Ends) (term : Term) (kind : Kind) (end : Option End) (f : Tree → Command) → StandsTerm w code blk.code c.at term ns cs → Channeled cs es c.ends
      → all_stand w code blk.code c.at (only a) ns q → slice_get blk.code q ≡ Some x → is_command x ≡ true → Framed size ns env c.vars
      → ((v : Tree) (vars : List Tree) → Framed size ns env vars → Alike (behind code c blk.code p branch q vars (v ∷ []) x) (f v))
      → Res (with_answer (as_running term env es) kind end (value_of w a env c.spent) f)
  through-one a q x ns cs env es term kind end f s ch h e x-command framed next =
      subst Res (single-answer (as_running term env es) kind end a env c.spent f) (through-values (only a) q x ns cs env es term kind end (one_of f) s ch h e x-command framed each)
    where
      each : (vs vars : List Tree) → length vs ≡ 1 → Framed size ns env vars → Alike (behind code c blk.code p branch q vars vs x) (one_of f vs)
      each [] vars l fr = absurd (omega (arith, l))
      each (v ∷ []) vars l fr = next v vars fr
      each (v ∷ u ∷ vs) vars l fr = absurd (omega (arith, l))

  -- a channel that is held
  with-held : (kind : Kind) (x : Name) (cs : Channels) (es : k.Ends) (n : ℕ) (F : End → Command) → Channeled cs es c.ends → found x cs ≡ Some n → ((e : End) → c.ends n ≡ Some e → Res (F e)) → Res (t.with_found kind (found x es) F)
  with-held kind x cs es n F h i next =
      let g = channeled-found x cs es c.ends n h i in
      subst (λ o. Res (t.with_found kind o F)) (sym g.1) (next g.0 g.2)

  with-end : (d : Command) (kind : Kind) (n : ℕ) (G : End → CodeCommand) (f : End) → c.ends n ≡ Some f → Alike (G f) d → Alike (with_found kind (c.ends n) G) d
  with-end d kind n G f i a = subst (λ o. Alike (with_found kind o G) d) (sym i) a

  -- the rows of `hcase`
  hcase-row : (rows : HcaseRows) (targets : List ℕ) (ns : Numbers) (cs : Channels) (m : ℕ) (body : Body) → StandsHcase w code blk.code targets rows ns cs → row_picked w m rows ≡ Some body → (to : ℕ) × (slice_get targets m ≡ Some to) × StandsBody w code blk.code to body ns cs
  hcase-row rows targets ns cs m body (no_rows _ _ _) i = absurd (cc i)
  hcase-row rows targets ns cs m body (row _ x own more _ _ n to e at s rest) i = go (is_number (number_of w x.name) m) refl i (λ j. hcase-row more targets ns cs m body rest j)
    where
      go : (b : Bool) → is_number (number_of w x.name) m ≡ b → (if b then Some own else row_picked w m more) ≡ Some body → (row_picked w m more ≡ Some body → (to : ℕ) × (slice_get targets m ≡ Some to) × StandsBody w code blk.code to body ns cs) → (to : ℕ) × (slice_get targets m ≡ Some to) × StandsBody w code blk.code to body ns cs
      go true k i later =
          let same : own ≡ body = cc i in
          let number : n ≡ m = eqb-true n m (ap (λ o. is_number o m) (sym e) ∙ k) in
          (to, ap (slice_get targets) (sym number) ∙ at, subst (λ (b : Body). StandsBody w code blk.code to b ns cs) same s)
      go false k i later = later i

  hcase-alike : (rows : HcaseRows) (targets : List ℕ) (ns : Numbers) (cs : Channels) (env : Bindings) (es : k.Ends) (vars : List Tree) (old : Term) (m : ℕ) → ((m : ℕ) → row_picked w m rows ≡ None → slice_get targets m ≡ None) → StandsHcase w code blk.code targets rows ns cs → Framed size ns env vars → Channeled cs es c.ends
      → OptionAlike (StandsState w code) (option_map (λ (to : ℕ). onward c to vars c.ends) (slice_get targets m)) (option_map (λ (body : Body). t.onward (as_running old env es) (Doing body) env es) (row_picked w m rows))
  hcase-alike rows targets ns cs env es vars old m none s f ch = go (row_picked w m rows) refl
    where
      go : (o : Option Body) → row_picked w m rows ≡ o → OptionAlike (StandsState w code) (option_map (λ (to : ℕ). onward c to vars c.ends) (slice_get targets m)) (option_map (λ (body : Body). t.onward (as_running old env es) (Doing body) env es) o)
      go None h = subst (λ o. OptionAlike (StandsState w code) (option_map (λ (to : ℕ). onward c to vars c.ends) o) None) (sym (none m h)) tt
      go (Some body) h =
          let r = hcase-row rows targets ns cs m body s h in
          subst (λ o. OptionAlike (StandsState w code) (option_map (λ (to : ℕ). onward c to vars c.ends) o) (Some (t.onward (as_running old env es) (Doing body) env es))) (sym r.1)
          (stands-onward r.0 (Doing body) ns cs env es vars c.ends old env es r.2 f ch)

  -- the branches of a race
  race-held : (rows : Branches) (targets : List ℕ) (ns : Numbers) (cs : Channels) (es : k.Ends) → StandsRace w code blk.code targets rows ns cs → Channeled cs es c.ends → (are_held rows es ≡ true) × (are_set blk.code c.ends targets ≡ true)
  race-held rows targets ns cs es (no_branches _ _) ch = (refl, refl)
  race-held rows targets ns cs es (race_row to more x body others _ _ n e at s rest) ch =
      let g = channeled-found x.name cs es c.ends n ch e in
      let r = race-held others more ns cs es rest ch in
      (ap (λ o. is_some o && are_held others es) g.1 ∙ r.0, ap (λ o. is_some (end_at c.ends o) && are_set blk.code c.ends more) at ∙ ap (λ o. is_some o && are_set blk.code c.ends more) g.2 ∙ r.1)

  race-alike : (rows : Branches) (targets : List ℕ) (ns : Numbers) (cs : Channels) (env : Bindings) (es : k.Ends) (vars : List Tree) (old : Term) (j : ℕ) → StandsRace w code blk.code targets rows ns cs → Framed size ns env vars → Channeled cs es c.ends
      → Alike (chooses c blk.code vars branch (slice_get targets j)) (t.chooses (as_running old env es) branch (branch_at rows j))
  race-alike rows targets ns cs env es vars old j (no_branches _ _) f ch = (tt, inr (refl, refl, refl))
  race-alike rows targets ns cs env es vars old zero (race_row to more x body others _ _ n e at s rest) f ch =
      let g = channeled-found x.name cs es c.ends n ch e in
      let d = t.with_found (k.Choose branch) (Some g.0) (λ e. t.command (k.Choose branch) (Some e) (Looks false e (λ m. Some (t.onward (as_running old env es) (Doing body) env es)))) in
      let held : channel_at blk.code to ≡ Some n = at in
      subst (λ o. Alike (with_found (k.Choose branch) (end_at c.ends (channel_at blk.code to)) (λ e. command (k.Choose branch) (Some e) (Looks false e (λ m. Some (onward c to vars c.ends)))))
      (t.with_found (k.Choose branch) o (λ e. t.command (k.Choose branch) (Some e) (Looks false e (λ m. Some (t.onward (as_running old env es) (Doing body) env es)))))) (sym g.1)
      (subst (λ o. Alike (with_found (k.Choose branch) (end_at c.ends o) (λ e. command (k.Choose branch) (Some e) (Looks false e (λ m. Some (onward c to vars c.ends))))) d) (sym held)
      (with-end d (k.Choose branch) n (λ e. command (k.Choose branch) (Some e) (Looks false e (λ m. Some (onward c to vars c.ends)))) g.0 g.2
      ((refl, refl, λ m. stands-onward to (Doing body) ns cs env es vars c.ends old env es s f ch), inr (refl, refl, refl))))
  race-alike rows targets ns cs env es vars old (suc j) (race_row to more x body others _ _ n e at s rest) f ch = race-alike others more ns cs env es vars old j rest f ch

  -- the rows of `case`
  case-row : (rows : CaseRows) (targets : List ℕ) (base : ℕ) (ns : Numbers) (cs : Channels) (env : Bindings) (vars : List Tree) (j : ℕ) (bs : Bindings) (r : List Form) → StandsCases w code blk.code targets rows base ns cs → slice_get (body_rows rows) j ≡ Some r → name_order bs ≡ row_names r → base + length (row_names r) ≤ size → Framed size ns env vars
      → (to : ℕ) × (body : Body) × (ms : Numbers) × (slice_get targets j ≡ Some to) × (row_at rows j ≡ Some body) × StandsBody w code blk.code to body ms cs × Framed size ms (bs ++ env) (set_from base (in_order bs) vars)
  case-row rows targets base ns cs env vars j bs r (no_cases _ _ _) at names space f = absurd (cc at)
  case-row rows targets base ns cs env vars zero bs r (case_row to more q body others _ _ _ spare s rest) at names space f =
      let form : form_of q ∷ [] ≡ r = some-same at in
      let xs : row_names r ≡ bound_in q = ap row_names (sym form) ∙ one-names q in
      (to, body, numbered base (bound_in q) ns, refl, refl, s, framed-set size (bound_in q) bs base ns env vars (names ∙ xs) (omega (arith, space, ap length xs)) spare f)
  case-row rows targets base ns cs env vars (suc j) bs r (case_row to more q body others _ _ _ spare s rest) at names space f = case-row others more base ns cs env vars j bs r rest at names space f

  -- there is room for a variable that an instruction names
  named-room : (q n : ℕ) (x : Instr) → slice_get blk.code q ≡ Some x → n ≤ named code.decisions x → n ≤ size
  named-room q n x at l = omega (arith, l, named-at code.decisions blk.code q x at, max-right blk.variables (named_in code.decisions blk.code))

  case-room : (q m base : ℕ) (targets : List ℕ) (d : Decision) (rows : List (List Form)) (n j : ℕ) (r : List Form) → slice_get blk.code q ≡ Some (i.Case m base targets) → slice_get code.decisions m ≡ Some d → StandsForRows w d rows n → slice_get rows j ≡ Some r → base + length (row_names r) ≤ size
  case-room q m base targets d rows n j r e ed s er =
      let bound : slice_get d.bound j ≡ Some (length (row_names r)) = ap (λ (l : List ℕ). slice_get l j) s.bound ∙ map-at (λ (r : List Form). length (row_names r)) rows j r er in
      let most : length (row_names r) ≤ greatest d.bound = greatest-at d.bound j (length (row_names r)) bound in
      let reached : reach base (slice_get code.decisions m) ≡ max (suc base) (base + greatest d.bound) = ap (λ o. reach base o) ed in
      named-room q (base + length (row_names r)) (i.Case m base targets) e (omega (arith, most, reached, max-right (suc base) (base + greatest d.bound)))

  case-alike : (rows : CaseRows) (q m base : ℕ) (d : Decision) (targets : List ℕ) (ns : Numbers) (cs : Channels) (env : Bindings) (es : k.Ends) (vars : List Tree) (v : Tree) (old : Term) → slice_get blk.code q ≡ Some (i.Case m base targets) → slice_get code.decisions m ≡ Some d → StandsForRows w d (body_rows rows) 1
      → StandsCases w code blk.code targets rows base ns cs → Framed size ns env vars → Channeled cs es c.ends
      → Alike (behind code c blk.code p branch q vars (v ∷ []) (i.Case m base targets))
      (t.with_found k.Case (first_match w (body_rows rows) (v ∷ [])) (λ m. t.with_found k.Case (row_at rows m.0) (λ body. t.command k.Case None (t.quiet (t.onward (as_running old env es) (Doing body) (m.1 ++ env) es)))))
  case-alike rows q m base d targets ns cs env es vars v old at ed s cases f ch =
      subst (λ o. Alike (with_found k.Case o (λ d. with_found k.Case (chosen d.tree (v ∷ [])) (λ r. with_found k.Case (slice_get targets r.0) (λ to. command k.Case None (on.quiet (onward c to (set_from base r.1 vars) c.ends))))))
      (t.with_found k.Case (first_match w (body_rows rows) (v ∷ [])) F)) (sym ed)
      (subst (λ o. Alike (with_found k.Case o G) (t.with_found k.Case (first_match w (body_rows rows) (v ∷ [])) F)) (sym (s.finds (v ∷ []) refl)) (by (first_match w (body_rows rows) (v ∷ [])) refl))
    where
      F : ℕ × Bindings → Command
      F m = t.with_found k.Case (row_at rows m.0) (λ body. t.command k.Case None (t.quiet (t.onward (as_running old env es) (Doing body) (m.1 ++ env) es)))

      G : ℕ × List Tree → CodeCommand
      G r = with_found k.Case (slice_get targets r.0) (λ to. command k.Case None (on.quiet (onward c to (set_from base r.1 vars) c.ends)))

      by : (o : Option (ℕ × Bindings)) → first_match w (body_rows rows) (v ∷ []) ≡ o → Alike (with_found k.Case (option_map (λ (r : ℕ × Bindings). (r.0, in_order r.1)) o) G) (t.with_found k.Case o F)
      by None e = (tt, inl tt)
      by (Some m') e =
          let r = found-row w (body_rows rows) (v ∷ []) m'.0 m'.1 e in
          let x = case-row rows targets base ns cs env vars m'.0 m'.1 r.0 cases r.1 (row-bound w r.0 (v ∷ []) m'.1 r.2) (case-room q m base targets d (body_rows rows) 1 m'.0 r.0 at ed s r.1) f in
          subst (λ o. Alike (with_found k.Case o (λ to. command k.Case None (on.quiet (onward c to (set_from base (in_order m'.1) vars) c.ends)))) (F m')) (sym x.3)
          (subst (λ o. Alike (command k.Case None (on.quiet (onward c x.0 (set_from base (in_order m'.1) vars) c.ends)))
          (t.with_found k.Case o (λ body. t.command k.Case None (t.quiet (t.onward (as_running old env es) (Doing body) (m'.1 ++ env) es))))) (sym x.4)
          ((refl, refl, tt, stands-onward x.0 (Doing x.1) x.2 cs (m'.1 ++ env) es (set_from base (in_order m'.1) vars) c.ends old env es x.5 x.6 ch), inr (refl, refl, refl)))

  -- Plugs

  left-stands : (q : ℕ) (links : List Link) (g : Header) (body : Body) (parts : Parts) (ns : Numbers) (cs : Channels) → StandsPeels w code blk.code q links (b.part_then g body parts) ns cs → StandsTerm w code blk.code q (left_term links (b.part_then g body parts)) ns cs
  left-stands q links g body b.no_parts ns cs (last _ _ _ _ _ _ s) = s
  left-stands q links g body (b.part_then h other parts) ns cs s = (refl, s)

  peeling : (links : List Link) (parts : Parts) (ns : Numbers) (cs : Channels) (env : Bindings) (es : k.Ends) (old : Term) → has_two parts ≡ true → StandsPeels w code blk.code c.at links parts ns cs → Framed size ns env c.vars → Channeled cs es c.ends
      → Res (peels p (as_running old env es) (peel_of links parts))
  peeling links parts ns cs env es old two (last _ _ h body _ _ s) f ch = absurd (true≢false (sym two))
  peeling links parts ns cs env es old two (peel _ q _ h g body next more _ _ l others n to run joins at spare spare' child rest) f ch =
      subst (λ o. Res (peels p (as_running old env es) o)) (ap (peel_by h body links (b.part_then g next more)) (sym joins))
      (through q (i.Peel n (side_in h l.name.name) to) ns env (peels p (as_running old env es) (peel_by h body links (b.part_then g next more) (l ∷ others))) run at refl f
      (λ vars fr. let e1 = t.born p (as_running old env es) 1 (half_on (side_in h l.name.name)) in
      let e2 = t.born p (as_running old env es) 1 (half_on (opposite (side_in h l.name.name))) in (
        (
          refl,
          refl,
          (refl, stands-newborn to body ns ((l.name.name, n) ∷ those (stands_in h) cs) env ((l.name.name, e1) ∷ those (stands_in h) es) vars (set_end n e1 c.ends) old es child fr (refl, set-same n e1 c.ends, channeled-set n e1 (those (stands_in h) cs) (those (stands_in h) es) c.ends spare (channeled-those (stands_in h) cs es c.ends ch)), tt),
          stands-onward (q + 1) (left_term (without_link l.name.name links) (b.part_then g next more)) ns ((l.name.name, n) ∷ those (λ x. not (stands_in h x)) cs) env ((l.name.name, e2) ∷ those (λ x. not (stands_in h x)) es) vars (set_end n e2 c.ends) old env es
              (left-stands (q + 1) (without_link l.name.name links) g next more ns ((l.name.name, n) ∷ those (λ x. not (stands_in h x)) cs) rest) fr
              (refl, set-same n e2 c.ends, channeled-set n e2 (those (λ x. not (stands_in h x)) cs) (those (λ x. not (stands_in h x)) es) c.ends spare' (channeled-those (λ x. not (stands_in h x)) cs es c.ends ch)),
        ),
        inr (refl, refl, refl),
      )))

  -- Calls

  abbrev handed_to : List ℕ → Ends
  handed_to ns n = end_at c.ends (slice_get ns n)

  hands-over : (xs ys : List Ident) (d : ProcessDecl) (cs : Channels) (es : k.Ends) (ins outs : List ℕ) → are_numbered xs cs ins → are_numbered ys cs outs → length d.row.inputs ≡ length xs → length d.row.outputs ≡ length ys → Channeled cs es c.ends
      → (fs : k.Ends) × (both_ends (handed d.row.inputs xs es) (handed d.row.outputs ys es) ≡ Some fs) × Channeled (channel_numbers 0 d.row.inputs ++ channel_numbers (length d.row.inputs) d.row.outputs) fs (handed_to (ins ++ outs))
  hands-over xs ys d cs es ins outs hin hout lin lout ch =
      let a = channeled-handed xs d.row.inputs cs es c.ends (handed_to (ins ++ outs)) ins 0 hin lin ch
      (λ j m k. let z : 0 + j ≡ j = omega arith in ap (handed_to (ins ++ outs)) z ∙ ap (end_at c.ends) (get-front ins outs j m k)) in
      let same : length d.row.inputs ≡ length ins = lin ∙ sym (numbered-length xs cs ins hin) in
      let b = channeled-handed ys d.row.outputs cs es c.ends (handed_to (ins ++ outs)) outs (length d.row.inputs) hout lout ch
      (λ j m k. ap (λ (n : ℕ). end_at c.ends (slice_get (ins ++ outs) (n + j))) same ∙ ap (end_at c.ends) (get-behind ins outs j ∙ k)) in (
        a.0 ++ b.0,
        ap (λ o. both_ends o (handed d.row.outputs ys es)) a.1 ∙ ap (λ o. both_ends (Some a.0) o) b.1,
        channeled-append (channel_numbers 0 d.row.inputs) (channel_numbers (length d.row.inputs) d.row.outputs) a.0 b.0 (handed_to (ins ++ outs)) a.2 b.2,
      )

  stands-called : (d : ProcessDecl) (g : ℕ) (b : Block) (vs : List Tree) (fs : k.Ends) (ends : Ends) (old : Term) (env : Bindings) (es : k.Ends) → slice_get code.processes g ≡ Some b → StandsForProcess w code d b → length vs ≡ length d.row.variables
      → Channeled (channel_numbers 0 d.row.inputs ++ channel_numbers (length d.row.inputs) d.row.outputs) fs ends
      → CellStands w code (record { block = length code.functions + g; at = 0; vars = frame_of code.decisions b vs; ends = ends; steps = suc c.steps; spent = 0 }) (record { term = Doing d.row.body; variables = bind_all d.row.variables vs; ends = fs; steps = suc c.steps; spent = 0 })
  stands-called d g b vs fs ends old env es at s l ch =
      let junk = replicate (frame_size code.decisions b - b.variables) Nil in
      record {
        block = b;
        there = get-behind code.functions code.processes g ∙ at;
        numbers = parameter_numbers 0 d.row.variables;
        channels = channel_numbers 0 d.row.inputs ++ channel_numbers (length d.row.inputs) d.row.outputs;
        term = s.body;
        variables = record {
          holds = agrees-parameters d.row.variables vs 0 (frame_of code.decisions b vs) l (λ j t k. let z : 0 + j ≡ j = omega arith in ap (slice_get (frame_of code.decisions b vs)) z ∙ get-front vs junk j t k);
          long = frame-length code.decisions b vs (l ∙ sym s.variables);
        };
        ends = ch;
        steps = refl;
        spent = refl;
      }

  -- Bodies

  doing : (body : Body) (ns : Numbers) (cs : Channels) (env : Bindings) (es : k.Ends) → StandsBody w code blk.code c.at body ns cs → Framed size ns env c.vars → Channeled cs es c.ends → Res (next_command w p (as_running (Doing body) env es) branch body)
  doing body ns cs env es (put _ q at a x rest _ _ n run held instr next) f ch =
      with-held k.Put x.name cs es n (λ e. with_answer (as_running (Doing body) env es) k.Put (Some e) (value_of w a env c.spent) (λ v. t.command k.Put (Some e) (t.sends e (Word v) (t.onward (as_running (Doing body) env es) (Doing rest) env es)))) ch held
      (λ e own. through-one a q (i.Put n) ns cs env es (Doing body) k.Put (Some e) (λ v. t.command k.Put (Some e) (t.sends e (Word v) (t.onward (as_running (Doing body) env es) (Doing rest) env es))) (put c.at q at a x rest ns cs n run held instr next) ch run instr refl f
      (λ v vars fr. with-end (t.command k.Put (Some e) (t.sends e (Word v) (t.onward (as_running (Doing body) env es) (Doing rest) env es))) k.Put n
      (λ e. with_one k.Put (v ∷ []) (λ v. command k.Put (Some e) (on.sends e (Word v) (onward c (q + 1) vars c.ends)))) e own
      ((refl, refl, tt, stands-onward (q + 1) (Doing rest) ns cs env es vars c.ends (Doing body) env es next fr ch), inr (refl, refl, refl))))
  doing body ns cs env es (get _ q at v x rest _ _ n m run held instr spare next) f ch =
      with-held k.Get x.name cs es n (λ e. t.command k.Get (Some e) (Looks true e (on_word (λ u. Some (t.onward (as_running (Doing body) env es) (Doing rest) (bind v u env) es))))) ch held
      (λ e own. through q (i.Get n m) ns env (t.command k.Get (Some e) (Looks true e (on_word (λ u. Some (t.onward (as_running (Doing body) env es) (Doing rest) (bind v u env) es))))) run instr refl f
      (λ vars fr. with-end (t.command k.Get (Some e) (Looks true e (on_word (λ u. Some (t.onward (as_running (Doing body) env es) (Doing rest) (bind v u env) es))))) k.Get n
      (λ e. command k.Get (Some e) (Looks true e (on.word_to (λ u. Some (onward c (q + 1) (slice_set vars m u) c.ends))))) e own
      ((refl, refl, looked vars fr), inr (refl, refl, refl))))
    where
      set : (v : Binder) (u : Tree) (vars : List Tree) → Framed size ns env vars → Framed size (binds v m ns) (bind v u env) (slice_set vars m u)
      set (binder.Variable at' y) u vars fr = framed-one size y u m ns env vars (named-room q (suc m) (i.Get n m) instr (omega arith)) spare fr
      set (binder.Wildcard at') u vars fr = framed-other size u m ns env vars spare fr

      looked : (vars : List Tree) → Framed size ns env vars → (m' : Message)
          → OptionAlike (StandsState w code) (on.word_to (λ u. Some (onward c (q + 1) (slice_set vars m u) c.ends)) m') (on_word (λ u. Some (t.onward (as_running (Doing body) env es) (Doing rest) (bind v u env) es)) m')
      looked vars fr (Word u) = stands-onward (q + 1) (Doing rest) (binds v m ns) cs (bind v u env) es (slice_set vars m u) c.ends (Doing body) env es next (set v u vars fr) ch
      looked vars fr (Pick j) = tt
      looked vars fr (EndPair g h) = tt
  doing body ns cs env es (hput _ q at con x rest _ _ n m run held number instr next) f ch =
      with-held k.Pick' x.name cs es n (λ e. t.with_found k.Pick' (number_of w con.name) (λ m. t.command k.Pick' (Some e) (t.sends e (Pick m) (t.onward (as_running (Doing body) env es) (Doing rest) env es)))) ch held
      (λ e own. subst (λ o. Res (t.with_found k.Pick' o (λ m. t.command k.Pick' (Some e) (t.sends e (Pick m) (t.onward (as_running (Doing body) env es) (Doing rest) env es))))) (sym number)
      (through q (i.Pick n m) ns env (t.command k.Pick' (Some e) (t.sends e (Pick m) (t.onward (as_running (Doing body) env es) (Doing rest) env es))) run instr refl f
      (λ vars fr. with-end (t.command k.Pick' (Some e) (t.sends e (Pick m) (t.onward (as_running (Doing body) env es) (Doing rest) env es))) k.Pick' n
      (λ e. command k.Pick' (Some e) (on.sends e (Pick m) (onward c (q + 1) vars c.ends))) e own
      ((refl, refl, tt, stands-onward (q + 1) (Doing rest) ns cs env es vars c.ends (Doing body) env es next fr ch), inr (refl, refl, refl)))))
  doing body ns cs env es (split _ q at x y z rest _ _ n l r run held instr apart spare spare' next) f ch =
      with-held k.Split x.name cs es n (λ e. t.command k.Split (Some e) (Looks true e (on_ends (λ f g. Some (t.onward (as_running (Doing body) env es) (Doing rest) env ((z.name, g) ∷ (y.name, f) ∷ without_end x.name es)))))) ch held
      (λ e own. through q (i.Split n l r) ns env (t.command k.Split (Some e) (Looks true e (on_ends (λ f g. Some (t.onward (as_running (Doing body) env es) (Doing rest) env ((z.name, g) ∷ (y.name, f) ∷ without_end x.name es)))))) run instr refl f
      (λ vars fr. with-end (t.command k.Split (Some e) (Looks true e (on_ends (λ f g. Some (t.onward (as_running (Doing body) env es) (Doing rest) env ((z.name, g) ∷ (y.name, f) ∷ without_end x.name es)))))) k.Split n
      (λ e. command k.Split (Some e) (Looks true e (on.ends_to (λ f g. Some (onward c (q + 1) vars (set_end r g (set_end l f c.ends))))))) e own
      ((refl, refl, looked vars fr), inr (refl, refl, refl))))
    where
      looked : (vars : List Tree) → Framed size ns env vars → (m : Message)
          → OptionAlike (StandsState w code) (on.ends_to (λ f g. Some (onward c (q + 1) vars (set_end r g (set_end l f c.ends)))) m) (on_ends (λ f g. Some (t.onward (as_running (Doing body) env es) (Doing rest) env ((z.name, g) ∷ (y.name, f) ∷ without_end x.name es))) m)
      looked vars fr (Word u) = tt
      looked vars fr (Pick j) = tt
      looked vars fr (EndPair g h) =
          let less = channeled-without x.name cs es c.ends ch in
          stands-onward (q + 1) (Doing rest) ns ((z.name, r) ∷ (y.name, l) ∷ without x.name cs) env ((z.name, h) ∷ (y.name, g) ∷ without_end x.name es) vars (set_end r h (set_end l g c.ends)) (Doing body) env es next fr (
            refl,
            set-same r h (set_end l g c.ends),
            (
              refl,
              set-other r l h (set_end l g c.ends) (λ same. apart (sym same)) ∙ set-same l g c.ends,
              channeled-set r h (without x.name cs) (without_end x.name es) (set_end l g c.ends) spare' (channeled-set l g (without x.name cs) (without_end x.name es) c.ends spare less),
            ),
          )
  doing body ns cs env es (close _ q at x rest _ _ n run held instr next) f ch =
      with-held k.Close x.name cs es n (λ e. t.command k.Close (Some e) (t.quiet (t.onward (as_running (Doing body) env es) (Doing rest) env (without_end x.name es)))) ch held
      (λ e own. through q (i.Close n) ns env (t.command k.Close (Some e) (t.quiet (t.onward (as_running (Doing body) env es) (Doing rest) env (without_end x.name es)))) run instr refl f
      (λ vars fr. with-end (t.command k.Close (Some e) (t.quiet (t.onward (as_running (Doing body) env es) (Doing rest) env (without_end x.name es)))) k.Close n
      (λ e. command k.Close (Some e) (on.quiet (onward c (q + 1) vars c.ends))) e own
      ((refl, refl, tt, stands-onward (q + 1) (Doing rest) ns (without x.name cs) env (without_end x.name es) vars c.ends (Doing body) env es next fr (channeled-without x.name cs es c.ends ch)), inr (refl, refl, refl))))
  doing body ns cs env es (halt _ q at _ _ run instr) f ch =
      through q (i.Halt None) ns env (t.command k.Halt None t.gone) run instr refl f (λ vars fr. ((refl, refl, tt, tt), inr (refl, refl, refl)))
  doing body ns cs env es (halt_at _ q at x _ _ n run held instr) f ch =
      with-held k.Halt x.name cs es n (λ e. t.command k.Halt (Some e) t.gone) ch held
      (λ e own. through q (i.Halt (Some n)) ns env (t.command k.Halt (Some e) t.gone) run instr refl f
      (λ vars fr. with-end (t.command k.Halt (Some e) t.gone) k.Halt n (λ e. command k.Halt (Some e) on.gone) e own ((refl, refl, tt, tt), inr (refl, refl, refl))))
  doing body ns cs env es (hcase _ q at x rows _ _ n targets run held instr none s) f ch =
      with-held k.Offer x.name cs es n (λ e. t.command k.Offer (Some e) (Looks true e (on_pick (λ n. option_map (λ b. t.onward (as_running (Doing body) env es) (Doing b) env es) (row_picked w n rows))))) ch held
      (λ e own. through q (i.Offer n targets) ns env (t.command k.Offer (Some e) (Looks true e (on_pick (λ n. option_map (λ b. t.onward (as_running (Doing body) env es) (Doing b) env es) (row_picked w n rows))))) run instr refl f
      (λ vars fr. with-end (t.command k.Offer (Some e) (Looks true e (on_pick (λ n. option_map (λ b. t.onward (as_running (Doing body) env es) (Doing b) env es) (row_picked w n rows))))) k.Offer n
      (λ e. command k.Offer (Some e) (Looks true e (on.pick_to (λ m. option_map (λ to. onward c to vars c.ends) (slice_get targets m))))) e own
      ((refl, refl, looked vars fr), inr (refl, refl, refl))))
    where
      looked : (vars : List Tree) → Framed size ns env vars → (m : Message)
          → OptionAlike (StandsState w code) (on.pick_to (λ m. option_map (λ to. onward c to vars c.ends) (slice_get targets m)) m) (on_pick (λ n. option_map (λ b. t.onward (as_running (Doing body) env es) (Doing b) env es) (row_picked w n rows)) m)
      looked vars fr (Word u) = tt
      looked vars fr (Pick j) = hcase-alike rows targets ns cs env es vars (Doing body) j none s fr ch
      looked vars fr (EndPair g h) = tt
  doing body ns cs env es (fork _ q at x y first z second _ _ n l r to run held instr spare spare' next child) f ch =
      let r0 = as_running (Doing body) env es in
      let keep = λ (c : Name). is_free c first in
      let others = λ (c : Name). not (is_free c first) in
      let F = λ (e : End). t.command k.Fork (Some e) (Moves (record {
        send = Some (e, EndPair (t.born p r0 1 Second) (t.born p r0 2 Second));
        channels = (t.born p r0 1 First, t.born p r0 1 Second) ∷ (t.born p r0 2 First, t.born p r0 2 Second) ∷ [];
        children = (t.child p r0, t.newborn r0 second ((z.name, t.born p r0 2 First) ∷ those others (without_end x.name es))) ∷ [];
        next = Some (t.onward r0 (Doing first) env ((y.name, t.born p r0 1 First) ∷ those keep (without_end x.name es)));
      })) in
      with-held k.Fork x.name cs es n F ch held
      (λ e own. through q (i.Fork n l r to) ns env (F e) run instr refl f
      (λ vars fr.
      let e1 = t.born p r0 1 First in
      let e2 = t.born p r0 2 First in
      let less = channeled-without x.name cs es c.ends ch in
      let G = λ (e : End). on.command k.Fork (Some e) (Moves (record {
        send = Some (e, EndPair (on.born p c 1 Second) (on.born p c 2 Second));
        channels = (on.born p c 1 First, on.born p c 1 Second) ∷ (on.born p c 2 First, on.born p c 2 Second) ∷ [];
        children = (on.child p c, newborn c to vars (set_end r (on.born p c 2 First) c.ends)) ∷ [];
        next = Some (onward c (q + 1) vars (set_end l (on.born p c 1 First) c.ends));
      })) in
      with-end (F e) k.Fork n G e own (
        (
          refl,
          refl,
          (
            refl,
            stands-newborn to second ns ((z.name, r) ∷ those others (without x.name cs)) env ((z.name, e2) ∷ those others (without_end x.name es)) vars (set_end r e2 c.ends) (Doing body) es child fr
                (refl, set-same r e2 c.ends, channeled-set r e2 (those others (without x.name cs)) (those others (without_end x.name es)) c.ends spare' (channeled-those others (without x.name cs) (without_end x.name es) c.ends less)),
            tt,
          ),
          stands-onward (q + 1) (Doing first) ns ((y.name, l) ∷ those keep (without x.name cs)) env ((y.name, e1) ∷ those keep (without_end x.name es)) vars (set_end l e1 c.ends) (Doing body) env es next fr
              (refl, set-same l e1 c.ends, channeled-set l e1 (those keep (without x.name cs)) (those keep (without_end x.name es)) c.ends spare (channeled-those keep (without x.name cs) (without_end x.name es) c.ends less)),
        ),
        inr (refl, refl, refl),
      )))
  doing body ns cs env es (plug _ at links parts _ _ two s) f ch = peeling links (last_first links parts) ns cs env es (Doing body) two s f ch
  doing body ns cs env es (race _ q at rows _ _ targets run instr s) f ch =
      let h = race-held rows targets ns cs es s ch in
      let r0 = as_running (Doing body) env es in
      subst (λ (o : Bool). Res (if o then t.chooses r0 branch (branch_at rows branch) else t.command (k.Choose branch) None Breaks)) (sym h.0)
      (through q (i.Race targets) ns env (t.chooses r0 branch (branch_at rows branch)) run instr refl f
      (λ vars fr. subst (λ (o : Bool). Alike (if o then chooses c blk.code vars branch (slice_get targets branch) else command (k.Choose branch) None Breaks) (t.chooses r0 branch (branch_at rows branch))) (sym h.1)
      (race-alike rows targets ns cs env es vars (Doing body) branch s fr ch)))
  doing body ns cs env es (case _ q at a rows _ _ m base d targets run instr ed s cases) f ch =
      through-one a q (i.Case m base targets) ns cs env es (Doing body) k.Case None
      (λ v. t.with_found k.Case (first_match w (body_rows rows) (v ∷ [])) (λ m. t.with_found k.Case (row_at rows m.0) (λ b. t.command k.Case None (t.quiet (t.onward (as_running (Doing body) env es) (Doing b) (m.1 ++ env) es)))))
      (case c.at q at a rows ns cs m base d targets run instr ed s cases) ch run instr refl f
      (λ v vars fr. case-alike rows q m base d targets ns cs env es vars v (Doing body) instr ed s cases fr ch)
  doing body ns cs env es (link _ q at x y _ _ n m run held held' instr) f ch =
      with-held k.Link x cs es n (λ e. t.with_found k.Link (found y.name es) (λ f. record { kind = k.Link; end = Some e; second = Some f; act = Links e f })) ch held
      (λ e own. with-held k.Link y.name cs es m (λ f. record { kind = k.Link; end = Some e; second = Some f; act = Links e f }) ch held'
      (λ e' own'. through q (i.Link n m) ns env (record { kind = k.Link; end = Some e; second = Some e'; act = Links e e' }) run instr refl f
      (λ vars fr. linked n m e e' own own')))
    where
      linked : (n m : ℕ) (e e' : End) → c.ends n ≡ Some e → c.ends m ≡ Some e' → Alike (with_found k.Link (c.ends n) (λ e. with_found k.Link (c.ends m) (λ f. record { kind = k.Link; end = Some e; second = Some f; act = Links e f }))) (record { kind = k.Link; end = Some e; second = Some e'; act = Links e e' })
      linked n m e e' h i =
          with-end (record { kind = k.Link; end = Some e; second = Some e'; act = Links e e' }) k.Link n (λ e. with_found k.Link (c.ends m) (λ f. record { kind = k.Link; end = Some e; second = Some f; act = Links e f })) e h
          (with-end (record { kind = k.Link; end = Some e; second = Some e'; act = Links e e' }) k.Link m (λ f. record { kind = k.Link; end = Some e; second = Some f; act = Links e f }) e' i ((refl, refl), inr (refl, refl, refl)))
  doing body ns cs env es (link_neg _ q at x y _ _ n m run held held' instr) f ch =
      with-held k.Link x cs es n (λ e. t.with_found k.Link (found y.name es) (λ f. record { kind = k.Link; end = Some e; second = Some f; act = Links e f })) ch held
      (λ e own. with-held k.Link y.name cs es m (λ f. record { kind = k.Link; end = Some e; second = Some f; act = Links e f }) ch held'
      (λ e' own'. through q (i.LinkNeg n m) ns env (record { kind = k.Link; end = Some e; second = Some e'; act = Links e e' }) run instr refl f
      (λ vars fr. linked n m e e' own own')))
    where
      linked : (n m : ℕ) (e e' : End) → c.ends n ≡ Some e → c.ends m ≡ Some e' → Alike (with_found k.Link (c.ends n) (λ e. with_found k.Link (c.ends m) (λ f. record { kind = k.Link; end = Some e; second = Some f; act = Links e f }))) (record { kind = k.Link; end = Some e; second = Some e'; act = Links e e' })
      linked n m e e' h i =
          with-end (record { kind = k.Link; end = Some e; second = Some e'; act = Links e e' }) k.Link n (λ e. with_found k.Link (c.ends m) (λ f. record { kind = k.Link; end = Some e; second = Some f; act = Links e f })) e h
          (with-end (record { kind = k.Link; end = Some e; second = Some e'; act = Links e e' }) k.Link m (λ f. record { kind = k.Link; end = Some e; second = Some f; act = Links e f }) e' i ((refl, refl), inr (refl, refl, refl)))
  doing body ns cs env es (go _ q at x args inputs outputs _ _ g ins outs run known hin hout instr) f ch =
      let d = known.process in
      let r0 = as_running (Doing body) env es in
      let s = standing.processes g d known.numbered in
      let h = hands-over inputs outputs d cs es ins outs hin hout known.inputs known.outputs ch in
      let K = λ (fs : k.Ends) (vs : List Tree). t.command k.Call None (t.quiet (t.onward r0 (Doing d.row.body) (bind_all d.row.variables vs) fs)) in
      let H = λ (d : ProcessDecl). t.with_found k.Call (both_ends (handed d.row.inputs inputs es) (handed d.row.outputs outputs es)) (λ fs. with_answer r0 k.Call None (values_of w args env c.spent) (λ vs. t.command k.Call None (t.quiet (t.onward r0 (Doing d.row.body) (bind_all d.row.variables vs) fs)))) in
      subst (λ o. Res (t.with_found k.Call o H)) (sym known.named)
      (subst (λ o. Res (t.with_found k.Call o (λ fs. with_answer r0 k.Call None (values_of w args env c.spent) (K fs)))) (sym h.1)
      (through-values args q (i.Go g (ins ++ outs)) ns cs env es (Doing body) k.Call None (K h.0) (go c.at q at x args inputs outputs ns cs g ins outs run known hin hout instr) ch run instr refl f
      (λ vs vars l fr. subst (λ o. Alike (with_found k.Call o (λ b. called code c g (ins ++ outs) vs b)) (K h.0 vs)) (sym s.1)
      ((refl, refl, tt, stands-called d g s.0 vs h.0 (handed_to (ins ++ outs)) (Doing body) env es s.1 s.2 (l ∙ sym known.arguments) h.2), inr (refl, refl, refl)))))

  -- also in the middle of a plug
  pub termed : (term : Term) (ns : Numbers) (cs : Channels) (env : Bindings) (es : k.Ends) → StandsTerm w code blk.code c.at term ns cs → Framed size ns env c.vars → Channeled cs es c.ends → Res (term_command w p (as_running term env es) branch term)
  termed (Doing body) ns cs env es s f ch = doing body ns cs env es s f ch
  termed (Plugging links parts) ns cs env es s f ch = peeling links parts ns cs env es (Plugging links parts) s.0 s.1 f ch

-- The cell that stands for a process wants what the process wants.
pub wants-alike : (w : World) (code : Code) → StandsFor w code → (p : Path) (branch : ℕ) (c : Cell) (r : Running) → CellStands w code c r
    → (n : ℕ) × (IsOver (run_of code n c) × CommandsAlike w code (wanted code c p branch (run_of code n c)) (term_command w p r branch r.term))
wants-alike w code standing p branch c r s =
    let r' : Running = record { term = r.term; variables = r.variables; ends = r.ends; steps = c.steps; spent = c.spent } in
    let same : r' ≡ r = ap (λ (n : ℕ). record r { steps = n; spent = c.spent }) s.steps ∙ ap (λ (n : ℕ). record r { spent = n }) s.spent in
    subst (λ (r : Running). (n : ℕ) × (IsOver (run_of code n c) × CommandsAlike w code (wanted code c p branch (run_of code n c)) (term_command w p r branch r.term))) same
    (termed w code standing p branch c s.block s.there r.term s.numbers s.channels r.variables r.ends s.term s.variables s.ends)
