-- Rows before their bodies.
use Rattle.std.proofs.Common.{◌≡◌, ◌∙◌, refl, sym, ap, ℕ, Bool, true, false, if◌then◌else◌, List, ◌∷◌, Option, Some, None, true≢false}
use Rattle.campl_tree.specs.declared.place.Place.{Place}
use Rattle.campl_tree.specs.declared.place.Ident.{Ident}
use Rattle.campl_tree.specs.Plain.SeqType.{SeqType}
use Rattle.campl_tree.specs.Plain.ChanType.{ChanType}
use Rattle.campl_tree.specs.Plain.Process as b
use Rattle.campl_tree.specs.Plain.Process.{Body, HcaseRows, Branches, CaseRows}
use Rattle.campl_types.specs.Names.{Name, is_among, found}
use Rattle.campl_types.specs.SameType.{IsSame}
use Rattle.campl_types.specs.World.{World}
use Rattle.campl_types.specs.Polarity.{Choices, Deed, Gets, Splits, Offers, deed}
use Rattle.campl_types.specs.Fits.{Vars}
use Rattle.campl_types.specs.Held.{Channel, On, Held}
use Rattle.campl_types.specs.Linear.{most_branches, between, receives_on, IsWellFormed, RowsAreWellFormed, BranchesAreWellFormed, CasesAreWellFormed}
use Rattle.campl_types.proofs.Names.{same-is}
use Rattle.campl_seqcheck.specs.Judged as seq
use Rattle.campl_seqcheck.specs.Judged.{Fine, fine, Is, Fails, and_then}
use Rattle.campl_seqcheck.proofs.AgreesRefit.{fits-alone}
use Rattle.campl_linear.specs.Faults.{LinFault, CaseTwice}
use Rattle.campl_linear.specs.Holding.{Holding, as_held}
use Rattle.campl_linear.specs.Channels.{held_at, Used}
use Rattle.campl_linear.specs.Rows.{row_names, row_type, first_row, rows_offered, is_between, branch_names, branch_count, begins_with, deed_of, begins, branches_begin, patterns_fit}
use Rattle.campl_linear.proofs.Turns.{in-turn, is-between, between-is}
use Rattle.campl_types.proofs.Among.{DistinctFrom, none-distinct, distinct-more, distinct-first, distinct-rest}

-- `hcase`

pub type-found : (k : Ident) (x : Name) (u : Used Choices) (y : ChanType) → row_type k x u ≡ Is y → found k.name u.may ≡ Some y
type-found k x u y i = go (found k.name u.may) refl
  where
    go : (o : Option ChanType) → found k.name u.may ≡ o → found k.name u.may ≡ Some y
    go None e = absurd (cc (rw e at i))
    go (Some z) e = let d : Is z ≡ Is y = rw e at i in let c : z ≡ y = cc d in e ∙ ap (λ a. Some a) c

tested : (b : Bool) (fault : LinFault) (f : Fine) → (if b then Fails fault else Is fine) ≡ Is f → b ≡ false
tested true fault f i = absurd (cc i)
tested false fault f i = refl

pub rows-distinct : (x : Name) (u : Used Choices) (before : List Name) (rows : HcaseRows) (f : Fine) → rows_offered x u before rows ≡ Is f → DistinctFrom before (row_names rows)
rows-distinct x u before b.no_hcase_rows f i = none-distinct before
rows-distinct x u before (b.hcase_row_then k body rows) f i =
    let j = in-turn (row_type k x u) (λ y. and_then (first_row k before) (λ z. rows_offered x u (k.name ∷ before) rows)) f i in
    let l = in-turn (first_row k before) (λ z. rows_offered x u (k.name ∷ before) rows) f j.2 in
    distinct-more before (row_names rows) k.name (tested (is_among k.name before) (CaseTwice k.place k.name) l.0 l.1) (rows-distinct x u (k.name ∷ before) rows f l.2)

pub distinct-rows : (w : World) (vs : Vars) (held : Held) (x : Name) (u : Used Choices) (before : List Name) (rows : HcaseRows)
    → RowsAreWellFormed w vs held x u.side u.may rows → DistinctFrom before (row_names rows) → rows_offered x u before rows ≡ Is fine
distinct-rows w vs held x u before b.no_hcase_rows h d = refl
distinct-rows w vs held x u before (b.hcase_row_then k body rows) h d =
    let p : is_among k.name before ≡ false = distinct-first before (row_names rows) k.name d in
    rw (h.1, p) (distinct-rows w vs held x u (k.name ∷ before) rows h.3 (distinct-rest before (row_names rows) k.name d))

-- `race`

pub counted-so : (at : Place) (n : ℕ) (f : Fine) → branch_count at n ≡ Is f → between 2 n most_branches
counted-so at n f i = go (is_between 2 n most_branches) refl
  where
    go : (p : Bool) → is_between 2 n most_branches ≡ p → between 2 n most_branches
    go true e = is-between 2 n most_branches e
    go false e = absurd (cc (rw e at i))

pub so-counted : (at : Place) (n : ℕ) → between 2 n most_branches → branch_count at n ≡ Is fine
so-counted at n h = let e : is_between 2 n most_branches ≡ true = between-is 2 n most_branches h in rw e refl

receives : (d : Deed) (x : Name) (body : Body) → begins_with d x body ≡ true → receives_on x body ≡ true
receives (Gets t y) x (b.Then (b.Get at v c) rest) i = i
receives (Splits t r) x (b.Then (b.Split at c y z) rest) i = i
receives (Offers cs) x (b.Hcase at c rows) i = i
receives _ x _ i = absurd (true≢false (sym i))

-- each branch begins by receiving
abbrev pub AllReceive : Branches → Type 0
AllReceive b.no_branches = Unit {0}
AllReceive (b.branch_then x body rows) = (receives_on x.name body ≡ true) × AllReceive rows

begun : (w : World) (x : Ident) (body : Body) (before : List Name) (c : Channel) (f : Fine) → begins w x body before c ≡ Is f
    → (is_among x.name before ≡ false) × (receives_on x.name body ≡ true)
begun w x body before c f i = go (is_among x.name before) refl
  where
    go : (p : Bool) → is_among x.name before ≡ p → (is_among x.name before ≡ false) × (receives_on x.name body ≡ true)
    go true e = absurd (cc (rw e at i))
    go false e = (e, receives (deed_of w c) x.name body (more (begins_with (deed_of w c) x.name body) refl))
      where
        more : (q : Bool) → begins_with (deed_of w c) x.name body ≡ q → begins_with (deed_of w c) x.name body ≡ true
        more true k = k
        more false k = absurd (cc (rw (e, k) at i))

pub branches-receive : (w : World) (held : Holding) (before : List Name) (rows : Branches) (f : Fine) → branches_begin w held before rows ≡ Is f
    → DistinctFrom before (branch_names rows) × AllReceive rows
branches-receive w held before b.no_branches f i = (none-distinct before, tt)
branches-receive w held before (b.branch_then x body rows) f i =
    let j = in-turn (held_at x held) (λ c. and_then (begins w x body before c) (λ z. branches_begin w held (x.name ∷ before) rows)) f i in
    let k = in-turn (begins w x body before j.0) (λ z. branches_begin w held (x.name ∷ before) rows) f j.2 in
    let l = begun w x body before j.0 k.0 k.1 in
    let m = branches-receive w held (x.name ∷ before) rows f k.2 in
    (distinct-more before (branch_names rows) x.name l.0 m.0, (l.1, m.1))

-- a body that begins by receiving on x and is well formed holds x at that receipt
abbrev Ready : World → Held → Name → Body → Type 0
Ready w held x body = (c : Channel) × (held x ≡ Some c) × (begins_with (deed_of w c) x body ≡ true)

ready : (w : World) (vs : Vars) (held : Held) (x : Name) (body : Body) → receives_on x body ≡ true → IsWellFormed w vs held body → Ready w held x body
ready w vs held x (b.Then (b.Get at v c) rest) i d = let e : deed w d.0 d.1 ≡ Gets d.2 d.3 = d.5 in (On d.0 d.1, ap held (same-is x c.name i) ∙ d.4, rw e i)
ready w vs held x (b.Then (b.Split at c y z) rest) i d = let e : deed w d.0 d.1 ≡ Splits d.2 d.3 = d.5 in (On d.0 d.1, ap held (same-is x c.name i) ∙ d.4, rw e i)
ready w vs held x (b.Hcase at c rows) i d = let e : deed w d.0 d.1 ≡ Offers d.2 = d.4 in (On d.0 d.1, ap held (same-is x c.name i) ∙ d.3, rw e i)
ready w vs held x _ i d = absurd (true≢false (sym i))

pub receive-branches : (w : World) (vs : Vars) (held : Holding) (before : List Name) (rows : Branches) → BranchesAreWellFormed w vs (as_held held) rows → DistinctFrom before (branch_names rows)
    → branches_begin w held before rows ≡ Is fine
receive-branches w vs held before b.no_branches h d = refl
receive-branches w vs held before (b.branch_then x body rows) h d =
    let p : is_among x.name before ≡ false = distinct-first before (branch_names rows) x.name d in
    let r = ready w vs (as_held held) x.name body h.0 h.1 in
    rw (r.1, p, r.2) (receive-branches w vs held (x.name ∷ before) rows h.2 (distinct-rest before (branch_names rows) x.name d))

-- `case`

pub fit-patterns : (w : World) (vs : Vars) (held : Held) (rows : CaseRows) (t u : SeqType) → IsSame t u → CasesAreWellFormed w vs held t rows → patterns_fit w rows u ≡ seq.Is fine
fit-patterns w vs held b.no_case_rows t u i h = refl
fit-patterns w vs held (b.case_row_then p body rows) t u i h =
    let m = fits-alone w p t u h.0 i h.1 h.2 in rw m.1 (fit-patterns w vs held rows t u i h.4)
