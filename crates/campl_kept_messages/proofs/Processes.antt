-- `put`, `get`, `hput` and `hcase` keep a lawful configuration lawful.
use Rattle.std.proofs.Common.{◌≡◌, ℕ, suc, arith, Bool, true, false, List, [], ◌∷◌, inl, inr, refl, sym, ap, subst, ◌∙◌, Option, Some, None, if◌then◌else◌, option_map, eqb-true, true≢false}
use Rattle.campl_tree.specs.declared.place.Place.{Place}
use Rattle.campl_tree.specs.declared.place.Ident.{Ident}
use Rattle.campl_tree.specs.declared.process.Binder.{Binder}
use Rattle.campl_tree.specs.declared.process.Binder.TheVariants as binder
use Rattle.campl_tree.specs.declared.service.Side.{Side}
use Rattle.campl_tree.specs.Plain.SeqType.{SeqType}
use Rattle.campl_tree.specs.Plain.ChanType.{ChanType, TopBot}
use Rattle.campl_tree.specs.Plain.Expr.{Expr}
use Rattle.campl_tree.specs.Plain.Process as b
use Rattle.campl_tree.specs.Plain.Process.{Body, HcaseRows}
use Rattle.campl_tree.specs.Plain.Decl.{Program}
use Rattle.campl_value.specs.Tree.{Tree}
use Rattle.campl_machine.specs.Names.{Path, End, Process}
use Rattle.campl_machine.specs.Machine.{Looks, Does, taken}
use Rattle.campl_types.specs.Names.{Name, found}
use Rattle.campl_types.specs.Fits.{Vars}
use Rattle.campl_types.specs.Matching.{Bindings, number_of, is_number, row_picked}
use Rattle.campl_types.specs.World.{World, world_of}
use Rattle.campl_types.specs.Polarity.{Choices}
use Rattle.campl_types.specs.Held.{Channel, On, Held, with}
use Rattle.campl_types.specs.Linear.{bound, IsWellFormed, RowsAreWellFormed}
use Rattle.campl_types.specs.Views.{View}
use Rattle.campl_evaluation.specs.Evaluation.{Answer, Done, value_of}
use Rattle.campl_evaluation.specs.Typed.{AreBound, Fine}
use Rattle.campl_evaluation.proofs.Declared.{typed-world}
use Rattle.campl_evaluation.proofs.Sources.{put-fine}
use Rattle.campl_types.proofs.Compose.{filled-nothing}
use Rattle.campl_peel.specs.Terms.{Doing, TermIsWellFormed, held_ends}
use Rattle.campl_peel.specs.Trees.{PlugsAreTrees, RowsHaveTrees}
use Rattle.campl_meaning.specs.States as k
use Rattle.campl_meaning.specs.States.{Message, Word, Pick, EndPair, Ends, Running, Attending, State, Runs, Serves, Kind, Command}
use Rattle.campl_meaning.specs.Bodies.{bind}
use Rattle.campl_meaning.specs.Wants.{onward, sends, with_found, with_answer, next_command, term_command, on_word, on_pick}
use Rattle.campl_meaning.specs.Reductions.{Configuration, act_of}
use Rattle.campl_meaning.specs.Views.{view_of, view_in, Takes, TakesAll}
use Rattle.campl_meaning.specs.Apart.{At, IsJoined}
use Rattle.campl_meaning.specs.Lawful.{Channels, seen, IsTypedAt, Agree, Lawful}
use Rattle.campl_kept_quiet.proofs.Acts.{found-does, answer-does}
use Rattle.campl_kept_quiet.proofs.Steps.{works}
use Rattle.campl_kept_messages.proofs.Continues.{gone_on}
use Rattle.campl_kept_messages.proofs.Frame.{renewed, held-here}
use Rattle.campl_kept_messages.proofs.Passing.{MayTake, second-of, may-put, may-pick, may-get, may-offer, send-lawful, take-lawful}
use Rattle.campl_types.specs.Values.{IsValue}
use Rattle.campl_types.proofs.DeclaredOnce.{protocols-are-known, coprotocols-are-known}
use Rattle.campl_types.proofs.Choices.{choices-of, numbered-choice}

-- what is held under a name is the channel of the end there
pub held-found : (channel : Channels) (es : Ends) (x : Name) (e : End) → found x es ≡ Some e → held_ends channel es x ≡ channel e
held-found channel es x e h = rw h refl

-- a process isn't closed
not-closed : (new : Channel) → true ≡ false → (t : Side) × (new ≡ On t TopBot)
not-closed new o = absurd (true≢false o)

-- a value under a binder
bind-bound : (w : World) (v : Binder) (a : Tree) (t : SeqType) (bs : Bindings) (vs : Vars) → IsValue w a t → AreBound w [] bs vs → AreBound w [] (bind v a bs) (bound v t vs)
bind-bound w (binder.Variable at x) a t bs vs h i = (refl, subst (λ u. IsValue w a u) (sym (filled-nothing t)) h, i)
bind-bound w (binder.Wildcard at) a t bs vs h i = i

-- the row of a constructor with this number
is-number : (o : Option ℕ) (n : ℕ) → is_number o n ≡ true → o ≡ Some n
is-number None n e = absurd (cc e)
is-number (Some m) n e = ap Some (eqb-true m n e)

pub row-typed : (w : World) (vs : Vars) (held : Held) (x : Name) (s : Side) (cs : Choices) (n : ℕ) (rows : HcaseRows) (body : Body) → RowsAreWellFormed w vs held x s cs rows → RowsHaveTrees rows → row_picked w n rows ≡ Some body
    → (name : Name) × (y : ChanType) × (found name cs ≡ Some y) × (number_of w name ≡ Some n) × IsWellFormed w vs (with x (Some (On s y)) held) body × PlugsAreTrees body
row-typed w vs held x s cs n b.no_hcase_rows body h trees e = absurd (cc e)
row-typed w vs held x s cs n (b.hcase_row_then k first rows) body (y, i, well, h) (tree, trees) e = go (is_number (number_of w k.name) n) refl e (row-typed w vs held x s cs n rows body h trees)
  where
    go : (t : Bool) → is_number (number_of w k.name) n ≡ t → (if t then Some first else row_picked w n rows) ≡ Some body
        → (row_picked w n rows ≡ Some body → (name : Name) × (y : ChanType) × (found name cs ≡ Some y) × (number_of w name ≡ Some n) × IsWellFormed w vs (with x (Some (On s y)) held) body × PlugsAreTrees body)
        → (name : Name) × (y : ChanType) × (found name cs ≡ Some y) × (number_of w name ≡ Some n) × IsWellFormed w vs (with x (Some (On s y)) held) body × PlugsAreTrees body
    go true q j later =
        let same : first ≡ body = cc j in
        (k.name, y, i, is-number (number_of w k.name) n q, subst (IsWellFormed w vs (with x (Some (On s y)) held)) same well, subst PlugsAreTrees same tree)
    go false q j later = later j

module _ (source : Program) (c : Configuration) (l : Lawful source c) (p : Path) (r : Running) (is : c.nodes (Process p) ≡ Some (Runs r)) where
  abbrev w : World
  w = world_of source

  pub typed-now : IsTypedAt w l.channel r
  typed-now = l.typed p r is

  -- where the end e stands under the name x
  module _ (x : Name) (e : End) (he : found x r.ends ≡ Some e) where
    pub stands : (l.place e ≡ At (Process p)) × IsJoined c e
    stands = l.apart.placed.held p e (r, x, is, he)

    pub channel-of : (ch : Channel) → held_ends l.channel r.ends x ≡ Some ch → l.channel e ≡ Some ch
    channel-of ch h = sym (held-found l.channel r.ends x e he) ∙ h

    -- what it then holds
    typed-on : (new : Channel) (vs : Vars) (bs : Bindings) (body : Body) → AreBound w [] bs vs → IsWellFormed w vs (with x (Some new) (held_ends l.channel r.ends)) body → PlugsAreTrees body
        → (o : Running) → onward r (Doing body) bs r.ends ≡ Runs o → IsTypedAt w (renewed e new l.channel) o
    typed-on new vs bs body bound well trees o j =
        let same : record { term = Doing body; variables = bs; ends = r.ends; steps = suc r.steps; spent = 0 } ≡ o = cc j in
        subst (IsTypedAt w (renewed e new l.channel)) same (record {
          vars = vs;
          bound = bound;
          term = (
            subst (λ h. IsWellFormed w vs h body)
                (sym (held-here e new l.channel r.ends x he (λ y a h q. l.apart.placed.ends p r x y e is he (subst (λ t. found y r.ends ≡ Some t) q h)))) well,
            trees,
          );
        })

  pub well-now : (body : Body) → r.term ≡ Doing body → IsWellFormed w typed-now.vars (held_ends l.channel r.ends) body × PlugsAreTrees body
  well-now body e = subst (λ t. TermIsWellFormed w typed-now.vars (held_ends l.channel r.ends) t) e typed-now.term

  module _ (d : Configuration) where
    on-found : {A : Type 0} (kind : Kind) (o : Option A) (F : A → Command) → ((a : A) → o ≡ Some a → Does c (Process p) (F a).act d → Lawful source d) → Does c (Process p) (with_found kind o F).act d → Lawful source d
    on-found kind o F h e = let (a, i, k) = found-does c p r d kind o F e in h a i k

    on-answer : {A : Type 0} (kind : Kind) (end : Option End) (o : Answer A) (F : A → Command) → ((a : A) (n : ℕ) → o ≡ Done a n → Does c (Process p) (F a).act d → Lawful source d)
        → Does c (Process p) (with_answer r kind end o F).act d → Lawful source d
    on-answer kind end o F h e = elim (answer-does c p r d kind end o F e) [
      | inl (a, n, i, k) ↦ h a n i k
      | inr g ↦ subst (Lawful source) (sym g) (works source c p r l is)
    ]

    command : (i : ℕ) (body : Body) → r.term ≡ Doing body → Does c (Process p) (act_of w (Process p) (Runs r) i) d → Does c (Process p) (next_command w p r i body).act d
    command i body e = subst (λ t. Does c (Process p) (act_of w (Process p) (Runs r) i) d → Does c (Process p) (term_command w p r i t).act d) e (λ h. h)

    pub put-lawful : (i : ℕ) (at : Place) (a : Expr) (x : Ident) (rest : Body) → r.term ≡ Doing (b.Then (b.Put at a x) rest)
        → Does c (Process p) (act_of w (Process p) (Runs r) i) d → Lawful source d
    put-lawful i at a x rest term does = on-found k.Put (found x.name r.ends) _ (λ e he. on-answer k.Put (Some e) (value_of w a r.variables r.spent) _ (go e he)) (command i _ term does)
      where
        go : (e : End) → found x.name r.ends ≡ Some e → (v : Tree) (n : ℕ) → value_of w a r.variables r.spent ≡ Done v n
            → Does c (Process p) (sends e (Word v) (onward r (Doing rest) r.variables r.ends)) d → Lawful source d
        go e he v n hv is_sent =
            let ((s, u, t, y, hx, puts, has, well), trees) = well-now (b.Then (b.Put at a x) rest) term in
            let (stood, (f, joined)) = stands x.name e he in
            let fine : IsValue w v t = subst (Fine (λ v. IsValue w v t)) hv (put-fine w (typed-world source l.accepted.typed) _ typed-now.vars a t r.variables r.spent typed-now.bound has) in
            subst (Lawful source) (sym is_sent)
            (send-lawful source c l (Process p) (Runs r) (onward r (Doing rest) r.variables r.ends) e f s u y (Word v) is stood joined (channel-of x.name e he (On s u) hx) (may-put w s u t y v puts fine)
            (refl, omega arith) (not-closed (On s y)) (typed-on x.name e he (On s y) typed-now.vars r.variables rest typed-now.bound well trees) (λ b k. absurd (cc k)))

    pub hput-lawful : (i : ℕ) (at : Place) (q : Ident) (x : Ident) (rest : Body) → r.term ≡ Doing (b.Then (b.Hput at q x) rest)
        → Does c (Process p) (act_of w (Process p) (Runs r) i) d → Lawful source d
    hput-lawful i at q x rest term does = on-found k.Pick' (found x.name r.ends) _ (λ e he. on-found k.Pick' (number_of w q.name) _ (go e he)) (command i _ term does)
      where
        go : (e : End) → found x.name r.ends ≡ Some e → (n : ℕ) → number_of w q.name ≡ Some n
            → Does c (Process p) (sends e (Pick n) (onward r (Doing rest) r.variables r.ends)) d → Lawful source d
        go e he n number is_sent =
            let ((s, u, cs, y, hx, picks, named, well), trees) = well-now (b.Then (b.Hput at q x) rest) term in
            let (stood, (f, joined)) = stands x.name e he in
            let (z, choice) = numbered-choice w (protocols-are-known source l.accepted.typed.declared) (coprotocols-are-known source l.accepted.typed.declared) cs (choices-of w s u cs (inl picks)) q.name y n named number in
            subst (Lawful source) (sym is_sent)
            (send-lawful source c l (Process p) (Runs r) (onward r (Doing rest) r.variables r.ends) e f s u y (Pick n) is stood joined (channel-of x.name e he (On s u) hx) (may-pick w s u cs n z y picks choice)
            (refl, omega arith) (not-closed (On s y)) (typed-on x.name e he (On s y) typed-now.vars r.variables rest typed-now.bound well trees) (λ b k. absurd (cc k)))

    -- the oldest message is one that the view takes
    pub first-taken : (e z : End) (s : Side) (u : ChanType) (m : Message) (ms : List Message) → l.channel e ≡ Some (On s u) → c.partner e ≡ Some z → c.owed z ≡ m ∷ ms → (n : View) × Takes w (view_of s u) m n
    first-taken e z s u m ms ce pz first =
        let a : Agree w c l.channel e z = l.agree e z pz in
        let mine : TakesAll w (view_of s u) (m ∷ ms) a.left = subst (λ v. TakesAll w v (m ∷ ms) a.left) (ap view_in ce) (subst (λ ns. TakesAll w (seen l.channel e) ns a.left) first a.mine) in
        (mine.0, mine.1)

    pub get-lawful : (i : ℕ) (at : Place) (v : Binder) (x : Ident) (rest : Body) → r.term ≡ Doing (b.Then (b.Get at v x) rest)
        → Does c (Process p) (act_of w (Process p) (Runs r) i) d → Lawful source d
    get-lawful i at v x rest term does = on-found k.Get (found x.name r.ends) _ go (command i _ term does)
      where
        go : (e : End) → found x.name r.ends ≡ Some e → Does c (Process p) (Looks true e (on_word (λ u. Some (onward r (Doing rest) (bind v u r.variables) r.ends)))) d → Lawful source d
        go e he (z, m, ms, st, pz, first, fits, looked) =
            let ((s, u, t, y, hx, gets, well), trees) = well-now (b.Then (b.Get at v x) rest) term in
            let ce : l.channel e ≡ Some (On s u) = channel-of x.name e he (On s u) hx in
            let (n, takes) = first-taken e z s u m ms ce pz first in
            let (a, word, value, may) = may-get w s u t y m n gets takes in
            let went : Some (onward r (Doing rest) (bind v a r.variables) r.ends) ≡ Some st = sym (ap (on_word (λ u. Some (onward r (Doing rest) (bind v u r.variables) r.ends))) word) ∙ fits in
            let same : onward r (Doing rest) (bind v a r.variables) r.ends ≡ st = cc went in
            let lawful : Lawful source (gone_on c (Process p) (onward r (Doing rest) (bind v a r.variables) r.ends) (taken true z c.owed)) =
            take-lawful source c l (Process p) (Runs r) (onward r (Doing rest) (bind v a r.variables) r.ends) e z s u y m is (stands x.name e he).0 pz ce ms first may
            (refl, omega arith) (not-closed (On s y))
            (typed-on x.name e he (On s y) (bound v t typed-now.vars) (bind v a r.variables) rest (bind-bound w v a t r.variables typed-now.vars value typed-now.bound) well trees) (λ b k. absurd (cc k)) in
            subst (Lawful source) (sym looked) (subst (λ t. Lawful source (gone_on c (Process p) t (taken true z c.owed))) same lawful)

    pub hcase-lawful : (i : ℕ) (at : Place) (x : Ident) (rows : HcaseRows) → r.term ≡ Doing (b.Hcase at x rows) → Does c (Process p) (act_of w (Process p) (Runs r) i) d → Lawful source d
    hcase-lawful i at x rows term does = on-found k.Offer (found x.name r.ends) _ go (command i _ term does)
      where
        row : (n : ℕ) → Option State
        row n = option_map (λ body. onward r (Doing body) r.variables r.ends) (row_picked w n rows)

        chosen : (o : Option Body) (st : State) → option_map (λ body. onward r (Doing body) r.variables r.ends) o ≡ Some st → (body : Body) × (o ≡ Some body) × (onward r (Doing body) r.variables r.ends ≡ st)
        chosen None st j = absurd (cc j)
        chosen (Some body) st j = (body, refl, cc j)

        go : (e : End) → found x.name r.ends ≡ Some e → Does c (Process p) (Looks true e (on_pick (λ n. option_map (λ body. onward r (Doing body) r.variables r.ends) (row_picked w n rows)))) d → Lawful source d
        go e he (z, m, ms, st, pz, first, fits, looked) =
            let ((s, u, cs, hx, offers, each, rowed, some), trees) = well-now (b.Hcase at x rows) term in
            let ce : l.channel e ≡ Some (On s u) = channel-of x.name e he (On s u) hx in
            let (n, takes) = first-taken e z s u m ms ce pz first in
            let (j, name, y, pick, choice, may) = may-offer w s u cs m n offers takes in
            let went : option_map (λ body. onward r (Doing body) r.variables r.ends) (row_picked w j rows) ≡ Some st = sym (ap (on_pick (λ n. option_map (λ body. onward r (Doing body) r.variables r.ends) (row_picked w n rows))) pick) ∙ fits in
            let (body, picked, same) = chosen (row_picked w j rows) st went in
            let (own, y2, named, number, well, tree) = row-typed w typed-now.vars (held_ends l.channel r.ends) x.name s cs j rows body rowed trees picked in
            let (z2, choice2) = numbered-choice w (protocols-are-known source l.accepted.typed.declared) (coprotocols-are-known source l.accepted.typed.declared) cs (choices-of w s u cs (inr offers)) own y2 j named number in
            let may2 : MayTake w s u m y2 = subst (MayTake w s u m) (second-of cs j name z2 y y2 choice choice2) may in
            let lawful : Lawful source (gone_on c (Process p) (onward r (Doing body) r.variables r.ends) (taken true z c.owed)) =
            take-lawful source c l (Process p) (Runs r) (onward r (Doing body) r.variables r.ends) e z s u y2 m is (stands x.name e he).0 pz ce ms first may2
            (refl, omega arith) (not-closed (On s y2))
            (typed-on x.name e he (On s y2) typed-now.vars r.variables body typed-now.bound well tree) (λ b k. absurd (cc k)) in
            subst (Lawful source) (sym looked) (subst (λ t. Lawful source (gone_on c (Process p) t (taken true z c.owed))) same lawful)
