-- A set of names in scope knows what the list of the variables knows.
use Rattle.std.proofs.Common.{◌≡◌, ◌∙◌, ◌⊎◌, inl, inr, refl, sym, ap, Bool, true, false, ◌||◌, List, [], ◌∷◌, ◌++◌, Option, append_assoc, append-nil, if◌then◌else◌, length, take}
use Rattle.std.proofs.Math.Path.{fun_ext}
use Rattle.std.proofs.lemmas.List.{take_at}
use Rattle.campl_tree.specs.View.{actions_then}
use Rattle.campl_tree.specs.Plain.SeqType as s
use Rattle.campl_tree.specs.Plain.ChanType as c
use Rattle.campl_tree.specs.Plain.Expr as e
use Rattle.campl_tree.specs.Plain.Process as b
use Rattle.campl_types.specs.declared.fault.NameFault.{NameFault}
use Rattle.campl_types.specs.Names.{Name, same_name, is_among, once, without}
use Rattle.campl_names.specs.NameSet.{with_name, HaveSame}
use Rattle.campl_types.specs.World.{World}
use Rattle.campl_types.specs.Patterns.{bound_in}
use Rattle.campl_types.specs.Known.{in_seq, in_seqs, in_chan, in_expr, in_exprs, in_expr_rows, in_action, bound_by_action, in_body, in_hcase_rows, in_branches, in_case_rows, in_parts}
use Rattle.campl_names.specs.Scope.{with_names, heading, behind_actions, in_actions}
use Rattle.campl_types.proofs.Names.{same-itself, split-names, among-append}
use Rattle.campl_names.proofs.Declared.{among-behind, both}

-- Sets

pub with-append : (xs ys zs : List Name) → with_names xs (ys ++ zs) ≡ with_names (with_names xs ys) zs
with-append xs [] zs = refl
with-append xs (y ∷ ys) zs = with-append (with_name y xs) ys zs

extended : (vs us : List Name) → (more : List Name) × (with_names vs us ≡ vs ++ more)
extended vs [] = ([], sym (append-nil vs))
extended vs (y ∷ us) = go (is_among y vs) (extended (with_name y vs) us)
  where
    go : (b : Bool) → ((more : List Name) × (with_names (with_name y vs) us ≡ (if b then vs else vs ++ y ∷ []) ++ more)) → (more : List Name) × (with_names (with_name y vs) us ≡ vs ++ more)
    go true r = r
    go false r = (y ∷ r.0, r.1 ∙ append_assoc vs (y ∷ []) r.0)

-- the names that were there stand first
pub kept-under : (vs us : List Name) → take (length vs) (with_names vs us) ≡ vs
kept-under vs us =
    let r = extended vs us in
    ap (take (length vs)) r.1 ∙ take_at vs r.0 (length vs) refl

or-turn : (a b c : Bool) → (a || (b || c)) ≡ (b || (a || c))
or-turn true true c = refl
or-turn true false c = refl
or-turn false true c = refl
or-turn false false c = refl

among-with : (x y : Name) (vs : List Name) → is_among x (with_name y vs) ≡ (same_name x y || is_among x vs)
among-with x y vs = go (is_among y vs) refl
  where
    there : (x ≡ y) ⊎ (same_name x y ≡ false) → is_among y vs ≡ true → is_among x vs ≡ (same_name x y || is_among x vs)
    there (inl e) i = rw e (rw (same-itself y) i)
    there (inr n) i = rw n refl

    go : (b : Bool) → is_among y vs ≡ b → is_among x (if b then vs else vs ++ y ∷ []) ≡ (same_name x y || is_among x vs)
    go true i = there (split-names x y) i
    go false i = among-behind x y vs

under-same : (vs us : List Name) → HaveSame (with_names vs us) (us ++ vs)
under-same vs [] x = refl
under-same vs (y ∷ us) x =
    under-same (with_name y vs) us x ∙ among-append x us (with_name y vs)
    ∙ ap (λ b. is_among x us || b) (among-with x y vs)
    ∙ or-turn (is_among x us) (same_name x y) (is_among x vs)
    ∙ ap (λ b. same_name x y || b) (sym (among-append x us vs))

append-same : (zs xs ys : List Name) → HaveSame xs ys → HaveSame (zs ++ xs) (zs ++ ys)
append-same zs xs ys h x = among-append x zs xs ∙ ap (λ b. is_among x zs || b) (h x) ∙ sym (among-append x zs ys)

three : {a b c d e f : List NameFault} → a ≡ b → c ≡ d → e ≡ f → a ++ c ++ e ≡ b ++ d ++ f
three i j k = both (both i j) k

-- Types

mutual
  seq-same : (w : World) (xs ys : List Name) (l : Option Name) → HaveSame xs ys → (t : s.SeqType) → in_seq w (heading xs l) t ≡ in_seq w (heading ys l) t
  seq-same w xs ys l h s.Int = refl
  seq-same w xs ys l h s.Char = refl
  seq-same w xs ys l h s.Bool = refl
  seq-same w xs ys l h (s.List t) = seq-same w xs ys l h t
  seq-same w xs ys l h (s.Pair t u) = both (seq-same w xs ys l h t) (seq-same w xs ys l h u)
  seq-same w xs ys l h (s.Named at x ts) = both refl (seqs-same w xs ys l h ts)
  seq-same w xs ys l h (s.Variable at x) = rw (h x) refl

  seqs-same : (w : World) (xs ys : List Name) (l : Option Name) → HaveSame xs ys → (ts : s.SeqTypes) → in_seqs w (heading xs l) ts ≡ in_seqs w (heading ys l) ts
  seqs-same w xs ys l h s.no_types = refl
  seqs-same w xs ys l h (s.type_then t ts) = both (seq-same w xs ys l h t) (seqs-same w xs ys l h ts)

chan-same : (w : World) (xs ys : List Name) (l : Option Name) → HaveSame xs ys → (t : c.ChanType) → in_chan w (heading xs l) t ≡ in_chan w (heading ys l) t
chan-same w xs ys l h (c.Put t x) = both (seq-same w xs ys l h t) (chan-same w xs ys l h x)
chan-same w xs ys l h (c.Get t x) = both (seq-same w xs ys l h t) (chan-same w xs ys l h x)
chan-same w xs ys l h (c.Tensor x y) = both (chan-same w xs ys l h x) (chan-same w xs ys l h y)
chan-same w xs ys l h (c.Par x y) = both (chan-same w xs ys l h x) (chan-same w xs ys l h y)
chan-same w xs ys l h c.TopBot = refl
chan-same w xs ys l h (c.Neg x) = chan-same w xs ys l h x
chan-same w xs ys l h (c.Named at x ts) = both refl (seqs-same w xs ys l h ts)

alone : (xs : List Name) → HaveSame (with_names [] xs) xs
alone xs x = under-same [] xs x ∙ ap (is_among x) (append-nil xs)

-- a heading by the set of its parameters
pub seq-heading : (w : World) (xs : List Name) (l : Option Name) → in_seq w (heading (with_names [] xs) l) ≡ in_seq w (heading xs l)
seq-heading w xs l = fun_ext (λ t. seq-same w (with_names [] xs) xs l (alone xs) t)

pub chan-heading : (w : World) (xs : List Name) (l : Option Name) → in_chan w (heading (with_names [] xs) l) ≡ in_chan w (heading xs l)
chan-heading w xs l = fun_ext (λ t. chan-same w (with_names [] xs) xs l (alone xs) t)

among-without : (x y : Name) (xs : List Name) → (same_name x y || is_among x (without y xs)) ≡ (same_name x y || is_among x xs)
among-without x y [] = refl
among-without x y (z ∷ xs) = go (split-names y z) (among-without x y xs)
  where
    drops : (a b : Bool) → (a || b) ≡ (a || (a || b))
    drops true b = refl
    drops false b = refl

    go : (y ≡ z) ⊎ (same_name y z ≡ false) → (same_name x y || is_among x (without y xs)) ≡ (same_name x y || is_among x xs) → (same_name x y || is_among x (without y (z ∷ xs))) ≡ (same_name x y || (same_name x z || is_among x xs))
    go (inl i) j = rw (sym i) (rw (same-itself y) (j ∙ drops (same_name x y) (is_among x xs)))
    go (inr i) j = rw i (or-turn (same_name x y) (same_name x z) (is_among x (without y xs)) ∙ ap (λ b. same_name x z || b) j ∙ or-turn (same_name x z) (same_name x y) (is_among x xs))

among-once : (x : Name) (xs : List Name) → is_among x (once xs) ≡ is_among x xs
among-once x [] = refl
among-once x (y ∷ xs) = among-without x y (once xs) ∙ ap (λ b. same_name x y || b) (among-once x xs)

-- and of a function's type variables
pub seq-variables : (w : World) (xs : List Name) (l : Option Name) → in_seq w (heading (with_names [] xs) l) ≡ in_seq w (heading (once xs) l)
seq-variables w xs l = fun_ext (λ t. seq-same w (with_names [] xs) (once xs) l (λ x. alone xs x ∙ sym (among-once x xs)) t)

-- Expressions

mutual
  expr-same : (w : World) (xs ys : List Name) → HaveSame xs ys → (a : e.Expr) → in_expr w xs a ≡ in_expr w ys a
  expr-same w xs ys h (e.If at a b c) = three (expr-same w xs ys h a) (expr-same w xs ys h b) (expr-same w xs ys h c)
  expr-same w xs ys h (e.Case at a rows) = both (expr-same w xs ys h a) (expr-rows-same w xs ys h rows)
  expr-same w xs ys h (e.Or at a b) = both (expr-same w xs ys h a) (expr-same w xs ys h b)
  expr-same w xs ys h (e.And at a b) = both (expr-same w xs ys h a) (expr-same w xs ys h b)
  expr-same w xs ys h (e.Compare at a op b) = both (expr-same w xs ys h a) (expr-same w xs ys h b)
  expr-same w xs ys h (e.Cons at a b) = both (expr-same w xs ys h a) (expr-same w xs ys h b)
  expr-same w xs ys h (e.Append at a b) = both (expr-same w xs ys h a) (expr-same w xs ys h b)
  expr-same w xs ys h (e.Calculate at a op b) = both (expr-same w xs ys h a) (expr-same w xs ys h b)
  expr-same w xs ys h (e.Negate at a) = expr-same w xs ys h a
  expr-same w xs ys h (e.Number at n) = refl
  expr-same w xs ys h (e.Character at n) = refl
  expr-same w xs ys h (e.Text at text) = refl
  expr-same w xs ys h (e.True at) = refl
  expr-same w xs ys h (e.False at) = refl
  expr-same w xs ys h (e.Variable at x) = rw (h x) refl
  expr-same w xs ys h (e.Call at x args) = both refl (exprs-same w xs ys h args)
  expr-same w xs ys h (e.CodeOf at a) = expr-same w xs ys h a
  expr-same w xs ys h (e.CharOf at a) = expr-same w xs ys h a
  expr-same w xs ys h (e.Constructor at x args) = both refl (exprs-same w xs ys h args)
  expr-same w xs ys h (e.List at args) = exprs-same w xs ys h args
  expr-same w xs ys h (e.Pair at a b) = both (expr-same w xs ys h a) (expr-same w xs ys h b)

  exprs-same : (w : World) (xs ys : List Name) → HaveSame xs ys → (all : e.Exprs) → in_exprs w xs all ≡ in_exprs w ys all
  exprs-same w xs ys h e.no_exprs = refl
  exprs-same w xs ys h (e.expr_then a rest) = both (expr-same w xs ys h a) (exprs-same w xs ys h rest)

  expr-rows-same : (w : World) (xs ys : List Name) → HaveSame xs ys → (rows : e.ExprRows) → in_expr_rows w xs rows ≡ in_expr_rows w ys rows
  expr-rows-same w xs ys h e.no_expr_rows = refl
  expr-rows-same w xs ys h (e.expr_row_then p a rows) =
      three refl (expr-same w (bound_in p ++ xs) (bound_in p ++ ys) (append-same (bound_in p) xs ys h) a) (expr-rows-same w xs ys h rows)

pub expr-under : (w : World) (vs us : List Name) (a : e.Expr) → in_expr w (with_names vs us) a ≡ in_expr w (us ++ vs) a
expr-under w vs us a = expr-same w (with_names vs us) (us ++ vs) (under-same vs us) a

-- of nothing but a row's own patterns
pub expr-alone : (w : World) (us : List Name) (a : e.Expr) → in_expr w (with_names [] us) a ≡ in_expr w us a
expr-alone w us a = expr-same w (with_names [] us) us (alone us) a

-- Processes

action-same : (w : World) (xs ys : List Name) → HaveSame xs ys → (a : b.Action) → in_action w xs a ≡ in_action w ys a
action-same w xs ys h (b.Put at a channel) = expr-same w xs ys h a
action-same w xs ys h (b.Get at v channel) = refl
action-same w xs ys h (b.Hput at k channel) = refl
action-same w xs ys h (b.Split at channel x y) = refl
action-same w xs ys h (b.Close at channel) = refl

mutual
  body-same : (w : World) (xs ys : List Name) → HaveSame xs ys → (t : b.Body) → in_body w xs t ≡ in_body w ys t
  body-same w xs ys h (b.Then a rest) =
      both (action-same w xs ys h a) (body-same w (bound_by_action a ++ xs) (bound_by_action a ++ ys) (append-same (bound_by_action a) xs ys h) rest)
  body-same w xs ys h (b.Halt at channel) = refl
  body-same w xs ys h (b.Hcase at channel rows) = hcase-rows-same w xs ys h rows
  body-same w xs ys h (b.Fork at channel x left y right) = both (body-same w xs ys h left) (body-same w xs ys h right)
  body-same w xs ys h (b.Plug at links parts) = both refl (parts-same w xs ys h parts)
  body-same w xs ys h (b.Race at rows) = branches-same w xs ys h rows
  body-same w xs ys h (b.Case at a rows) = both (expr-same w xs ys h a) (case-rows-same w xs ys h rows)
  body-same w xs ys h (b.Identity at x negated y) = refl
  body-same w xs ys h (b.Call at x args inputs outputs) = both refl (exprs-same w xs ys h args)

  hcase-rows-same : (w : World) (xs ys : List Name) → HaveSame xs ys → (rows : b.HcaseRows) → in_hcase_rows w xs rows ≡ in_hcase_rows w ys rows
  hcase-rows-same w xs ys h b.no_hcase_rows = refl
  hcase-rows-same w xs ys h (b.hcase_row_then k body rows) = three refl (body-same w xs ys h body) (hcase-rows-same w xs ys h rows)

  branches-same : (w : World) (xs ys : List Name) → HaveSame xs ys → (rows : b.Branches) → in_branches w xs rows ≡ in_branches w ys rows
  branches-same w xs ys h b.no_branches = refl
  branches-same w xs ys h (b.branch_then channel body rows) = both (body-same w xs ys h body) (branches-same w xs ys h rows)

  case-rows-same : (w : World) (xs ys : List Name) → HaveSame xs ys → (rows : b.CaseRows) → in_case_rows w xs rows ≡ in_case_rows w ys rows
  case-rows-same w xs ys h b.no_case_rows = refl
  case-rows-same w xs ys h (b.case_row_then p body rows) =
      three refl (body-same w (bound_in p ++ xs) (bound_in p ++ ys) (append-same (bound_in p) xs ys h) body) (case-rows-same w xs ys h rows)

  parts-same : (w : World) (xs ys : List Name) → HaveSame xs ys → (parts : b.Parts) → in_parts w xs parts ≡ in_parts w ys parts
  parts-same w xs ys h b.no_parts = refl
  parts-same w xs ys h (b.part_then header body parts) = both (body-same w xs ys h body) (parts-same w xs ys h parts)

pub body-under : (w : World) (vs us : List Name) (t : b.Body) → in_body w (with_names vs us) t ≡ in_body w (us ++ vs) t
body-under w vs us t = body-same w (with_names vs us) (us ++ vs) (under-same vs us) t

pub body-alone : (w : World) (us : List Name) (t : b.Body) → in_body w (with_names [] us) t ≡ in_body w us t
body-alone w us t = body-same w (with_names [] us) us (alone us) t

-- Actions

pub body-behind : (w : World) (vs : List Name) (as' : List b.Action) (rest : b.Body) → in_body w vs (actions_then as' rest) ≡ in_actions w vs as' ++ in_body w (behind_actions vs as') rest
body-behind w vs [] rest = refl
body-behind w vs (a ∷ more) rest =
    let us : List Name = bound_by_action a in
    both refl (sym (body-under w vs us (actions_then more rest)) ∙ body-behind w (with_names vs us) more rest)
    ∙ sym (append_assoc (in_action w vs a) (in_actions w (with_names vs us) more) (in_body w (behind_actions (with_names vs us) more) rest))

extended-behind : (vs : List Name) (as' : List b.Action) → (more : List Name) × (behind_actions vs as' ≡ vs ++ more)
extended-behind vs [] = ([], sym (append-nil vs))
extended-behind vs (a ∷ as') =
    let r = extended vs (bound_by_action a) in
    let q = extended-behind (with_names vs (bound_by_action a)) as' in
    (r.0 ++ q.0, q.1 ∙ ap (λ x. x ++ q.0) r.1 ∙ append_assoc vs r.0 q.0)

pub kept-behind : (vs : List Name) (as' : List b.Action) → take (length vs) (behind_actions vs as') ≡ vs
kept-behind vs as' =
    let r = extended-behind vs as' in
    ap (take (length vs)) r.1 ∙ take_at vs r.0 (length vs) refl
