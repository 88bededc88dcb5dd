-- The tree of rows by what the first row asks, and trees that grow.
use Rattle.std.proofs.Common.{◌≡◌, ◌∙◌, refl, sym, ap, arith, ℕ, zero, suc, ◌+◌, ◌*◌, ◌<◌, ◌≤◌, Bool, true, false, List, [], ◌∷◌, ◌++◌, if◌then◌else◌, Option, Some, None, slice_get, drop, length, map, reverse}
use Rattle.std.proofs.lemmas.List.{reverse-append}
use Rattle.campl_code.specs.Decisions.{Choice, Head, Row, Test, Fail, Spot}
use Rattle.campl_code.specs.Compiled.{Asked, Flat, same_asked, is_asked, where_holds, where_fails, first_test, first_row, tree_of, weight}
use Rattle.campl_code.proofs.Deciding.{asked-itself, fails-less, first-less}
use Rattle.campl_instructions.specs.View.{tree_at, node_tree, node_trees, root, view_head}
use Rattle.campl_instructions.specs.declared.decision.Head as declared
use Rattle.campl_instructions.specs.declared.decision.Node.{Node}
use Rattle.campl_instructions.specs.declared.decision.Node.TheVariants as node
use Rattle.campl_instructions.proofs.Views.{root-drop}
use Rattle.std.specs.Borrow.{Bor}
use Rattle.campl_match.specs.declared.asked.Asked as a
use Rattle.campl_match.specs.declared.open.Open.{Open}
use Rattle.campl_match.specs.declared.task.Task as t
use Rattle.campl_match.specs.View.{view_asked_at, view_open, view_rows}
use Rattle.campl_match.specs.Growing.{Asks, NoRow, ARow, ATest, asks, row_asks, Task, Rows, Join, finish, newest, nodes_in, seen, tree, trees_in, view_task, work}

-- Trees of rows

tree-nil : (n : ℕ) → tree_of n [] ≡ Fail
tree-nil zero = refl
tree-nil (suc n) = refl

tree-done : (n : ℕ) (r : Flat) (rows : List Flat) → r.tests ≡ [] → tree_of n (r ∷ rows) ≡ Row r.number r.spots
tree-done zero r rows e = ap (first_test (λ rows. Fail) r rows) e
tree-done (suc n) r rows e = ap (first_test (tree_of n) r rows) e

-- with enough tests one behind another, more change nothing
tree-same : (n m : ℕ) (rows : List Flat) → weight rows ≤ n → weight rows ≤ m → tree_of n rows ≡ tree_of m rows
tree-same n m [] l k = tree-nil n ∙ sym (tree-nil m)
tree-same zero m (r ∷ rows) l k = go r.tests refl
  where
    go : (ts : List Asked) → r.tests ≡ ts → tree_of zero (r ∷ rows) ≡ tree_of m (r ∷ rows)
    go [] e = tree-done zero r rows e ∙ sym (tree-done m r rows e)
    go (a ∷ ts) e = absurd (omega (arith, l, ap length e))
tree-same (suc n) zero (r ∷ rows) l k = go r.tests refl
  where
    go : (ts : List Asked) → r.tests ≡ ts → tree_of (suc n) (r ∷ rows) ≡ tree_of zero (r ∷ rows)
    go [] e = tree-done (suc n) r rows e ∙ sym (tree-done zero r rows e)
    go (a ∷ ts) e = absurd (omega (arith, k, ap length e))
tree-same (suc n) (suc m) (r ∷ rows) l k = go r.tests refl (λ rows l k. tree-same n m rows l k)
  where
    go : (ts : List Asked) → r.tests ≡ ts → ((rows : List Flat) → weight rows ≤ n → weight rows ≤ m → tree_of n rows ≡ tree_of m rows) → tree_of (suc n) (r ∷ rows) ≡ tree_of (suc m) (r ∷ rows)
    go [] e next = tree-done (suc n) r rows e ∙ sym (tree-done (suc m) r rows e)
    go (a ∷ ts) e next =
        let less : suc (weight (where_holds a (r ∷ rows))) ≤ weight (r ∷ rows) = first-less a ts r rows e in
        let fewer : weight (where_fails a rows) ≤ weight rows = fails-less a rows in
        ap (first_test (tree_of n) r rows) e
        ∙ ap (λ c. Test a.0 a.1 c (tree_of n (where_fails a rows))) (next (where_holds a (r ∷ rows)) (omega (arith, l, less)) (omega (arith, k, less)))
        ∙ ap (λ c. Test a.0 a.1 (tree_of m (where_holds a (r ∷ rows))) c) (next (where_fails a rows) (omega (arith, l, ap length e, fewer)) (omega (arith, k, ap length e, fewer)))
        ∙ sym (ap (first_test (tree_of m) r rows) e)

pub tree-fail : (rows : List Flat) → NoRow ≡ asks rows → tree rows ≡ Fail
unfolding tree
tree-fail [] e = refl
tree-fail (r ∷ rows) e = go r.tests e
  where
    go : (ts : List Asked) → NoRow ≡ row_asks r ts → tree_of (weight (r ∷ rows)) (r ∷ rows) ≡ Fail
    go [] e = absurd (cc e)
    go (a ∷ ts) e = absurd (cc e)

pub tree-row : (rows : List Flat) (n : ℕ) (spots : List Spot) → ARow n spots ≡ asks rows → tree rows ≡ Row n spots
unfolding tree
tree-row [] n spots e = absurd (cc e)
tree-row (r ∷ rows) n spots e = go r.tests refl e
  where
    go : (ts : List Asked) → r.tests ≡ ts → ARow n spots ≡ row_asks r ts → tree_of (weight (r ∷ rows)) (r ∷ rows) ≡ Row n spots
    go [] e is =
        let m : r.number ≡ n = cc is in
        let s : r.spots ≡ spots = cc is in
        tree-done (weight (r ∷ rows)) r rows e ∙ ap (λ k. Row k r.spots) m ∙ ap (Row n) s
    go (a ∷ ts) e is = absurd (cc is)

fails-first : (a : Asked) (ts : List Asked) (r : Flat) (rows : List Flat) → r.tests ≡ a ∷ ts → where_fails a (r ∷ rows) ≡ where_fails a rows
fails-first a ts r rows e =
    ap (λ (b : Bool). if b then where_fails a rows else r ∷ where_fails a rows) (ap (is_asked a) e ∙ ap (λ (b : Bool). if b then true else is_asked a ts) (asked-itself a))

pub tree-test : (rows : List Flat) (a : Asked) → ATest a ≡ asks rows → tree rows ≡ Test a.0 a.1 (tree (where_holds a rows)) (tree (where_fails a rows))
unfolding tree
tree-test [] a e = absurd (cc e)
tree-test (r ∷ rows) a e = go r.tests refl e
  where
    go : (ts : List Asked) → r.tests ≡ ts → ATest a ≡ row_asks r ts
        → tree_of (weight (r ∷ rows)) (r ∷ rows) ≡ Test a.0 a.1 (tree_of (weight (where_holds a (r ∷ rows))) (where_holds a (r ∷ rows))) (tree_of (weight (where_fails a (r ∷ rows))) (where_fails a (r ∷ rows)))
    go [] e is = absurd (cc is)
    go (b ∷ ts) e is =
        let same : b ≡ a = cc is in
        let begins : r.tests ≡ a ∷ ts = e ∙ ap (λ x. x ∷ ts) same in
        let n : weight (r ∷ rows) ≡ suc (length ts + weight rows) = omega (arith, ap length begins) in
        let less : suc (weight (where_holds a (r ∷ rows))) ≤ weight (r ∷ rows) = first-less a ts r rows begins in
        let fewer : weight (where_fails a rows) ≤ weight rows = fails-less a rows in
        ap (λ k. tree_of k (r ∷ rows)) n
        ∙ ap (first_test (tree_of (length ts + weight rows)) r rows) begins
        ∙ ap (λ c. Test a.0 a.1 c (tree_of (length ts + weight rows) (where_fails a rows)))
        (tree-same (length ts + weight rows) (weight (where_holds a (r ∷ rows))) (where_holds a (r ∷ rows)) (omega (arith, n, less)) (omega arith))
        ∙ ap (λ c. Test a.0 a.1 (tree_of (weight (where_holds a (r ∷ rows))) (where_holds a (r ∷ rows))) c)
        (tree-same (length ts + weight rows) (weight (where_fails a rows)) (where_fails a rows) (omega (arith, fewer)) (omega arith)
        ∙ ap (λ rs. tree_of (weight rs) rs) (sym (fails-first a ts r rows begins)))

-- Trees in nodes

pub reverse-push : {A : Type 0} → (xs : List A) (x : A) → reverse (xs ++ x ∷ []) ≡ x ∷ reverse xs
reverse-push xs x = reverse-append xs (x ∷ [])

drop-nil : {A : Type 0} → (n : ℕ) → drop {A = A} n [] ≡ []
drop-nil zero = refl
drop-nil (suc n) = refl

drop-twice : {A : Type 0} → (m k : ℕ) (xs : List A) → drop (m + k) xs ≡ drop k (drop m xs)
drop-twice m k [] = drop-nil (m + k) ∙ sym (ap (drop k) (drop-nil m) ∙ drop-nil k)
drop-twice zero k (x ∷ xs) = ap (λ n. drop n (x ∷ xs)) (omega arith)
drop-twice (suc m) k (x ∷ xs) = ap (λ n. drop n (x ∷ xs)) (add m k) ∙ drop-twice m k xs
  where
    add : (m k : ℕ) → suc m + k ≡ suc (m + k)
    add m k = omega arith

pub ruleset pushing = (reverse-push)

pub grown-leaf : (nodes new : List Node) (sizes counts : List ℕ) (x : Node) → new ≡ nodes ++ x ∷ [] → counts ≡ sizes ++ 1 ∷ []
    → trees_in (reverse new) (reverse counts) ≡ node_tree (node_trees (reverse nodes)) x ∷ trees_in (reverse nodes) (reverse sizes)
grown-leaf nodes new sizes counts x e k =
    ap (λ xs. trees_in xs (reverse counts)) (ap reverse e ∙ reverse-push nodes x) ∙ ap (trees_in (x ∷ reverse nodes)) (ap reverse k ∙ reverse-push sizes 1)

joined : (ns : List Node) (ss : List ℕ) (s : Spot) (h : declared.Head) (fit other : Choice) (more : List Choice) → trees_in ns ss ≡ fit ∷ other ∷ more
    → trees_in (node.Test s h 0 (newest ss) ∷ ns) (suc (newest ss + newest (drop 1 ss)) ∷ drop 1 (drop 1 ss)) ≡ Test s (view_head h) fit other ∷ more
joined ns [] s h fit other more e = absurd (cc e)
joined ns (m ∷ []) s h fit other more e = absurd (cc e)
joined ns (m ∷ k ∷ ss) s h fit other more e =
    let first : root ns ≡ fit = cc e in
    let second : root (drop m ns) ≡ other = cc e in
    let left : trees_in (drop k (drop m ns)) ss ≡ more = cc e in
    ap (λ c. Test s (view_head h) c (tree_at (node_trees ns) m) ∷ trees_in (drop (m + k) ns) ss) first
    ∙ ap (λ c. Test s (view_head h) fit c ∷ trees_in (drop (m + k) ns) ss) (sym (root-drop ns m) ∙ second)
    ∙ ap (λ xs. Test s (view_head h) fit other ∷ trees_in xs ss) (drop-twice m k ns)
    ∙ ap (λ cs. Test s (view_head h) fit other ∷ cs) left

pub grown-join : (nodes mid new : List Node) (sizes left counts : List ℕ) (s t : Spot) (h : declared.Head) (n m k : ℕ) (fit other : Choice) (more : List Choice)
    → mid ≡ nodes → t ≡ s → m ≡ newest (reverse sizes) → k ≡ newest (drop 1 (reverse sizes)) → reverse left ≡ drop 1 (drop 1 (reverse sizes)) → n ≡ suc (m + k)
    → new ≡ mid ++ node.Test t h 0 m ∷ [] → counts ≡ left ++ n ∷ [] → trees_in (reverse nodes) (reverse sizes) ≡ fit ∷ other ∷ more
    → trees_in (reverse new) (reverse counts) ≡ Test s (view_head h) fit other ∷ more
grown-join nodes mid new sizes left counts s t h n m k fit other more ei et em ek el en ex ec e =
    ap (λ xs. trees_in xs (reverse counts)) (ap reverse ex ∙ reverse-push mid (node.Test t h 0 m) ∙ ap (λ xs. node.Test t h 0 m ∷ reverse xs) ei ∙ ap (λ x. node.Test x h 0 m ∷ reverse nodes) et)
    ∙ ap (trees_in (node.Test s h 0 m ∷ reverse nodes)) (ap reverse ec ∙ reverse-push left n ∙ ap (λ xs. n ∷ xs) el ∙ ap (λ x. x ∷ drop 1 (drop 1 (reverse sizes))) en)
    ∙ ap (λ x. trees_in (node.Test s h 0 x ∷ reverse nodes) (suc (x + k) ∷ drop 1 (drop 1 (reverse sizes)))) em
    ∙ ap (λ x. trees_in (node.Test s h 0 (newest (reverse sizes)) ∷ reverse nodes) (suc (newest (reverse sizes) + x) ∷ drop 1 (drop 1 (reverse sizes)))) ek
    ∙ joined (reverse nodes) (reverse sizes) s h fit other more e

pub only-root : (ns : List Node) (ss : List ℕ) (c : Choice) → trees_in ns ss ≡ c ∷ [] → root ns ≡ c
only-root ns [] c e = absurd (cc e)
only-root ns (n ∷ ss) c e = cc e

-- What is still to be made

pub wants-none : (r : Flat) (ts : List (Bor a.Asked)) → None ≡ slice_get ts 0 → ARow r.number r.spots ≡ row_asks r (map view_asked_at ts)
wants-none r [] e = refl
wants-none r (x ∷ ts) e = absurd (cc e)

pub wants-some : (r : Flat) (ts : List (Bor a.Asked)) (x : Bor a.Asked) → Some x ≡ slice_get ts 0 → ATest (view_asked_at x) ≡ row_asks r (map view_asked_at ts)
wants-some r [] x e = absurd (cc e)
wants-some r (y ∷ ts) x e = ap (λ z. ATest (view_asked_at z)) (let is : x ≡ y = cc e in is)

pub first-wants : (rows : List Open) (r : Open) → Some r ≡ slice_get rows 0 → row_asks (view_open r) (view_open r).tests ≡ asks (view_rows rows)
first-wants [] r e = absurd (cc e)
first-wants (x ∷ rows) r e = ap (λ y. row_asks (view_open y) (view_open y).tests) (let is : r ≡ x = cc e in is)

pub seen-push : (tasks new : List t.Task) (x : t.Task) → new ≡ tasks ++ x ∷ [] → seen new ≡ view_task x ∷ seen tasks
seen-push tasks new x e = ap (λ ts. map view_task ts) (ap reverse e ∙ reverse-push tasks x)

some-nodes : (c : Choice) → 1 ≤ nodes_in c
some-nodes (Row n spots) = omega arith
some-nodes (Test s h fit other) = omega arith
some-nodes Fail = omega arith

pub join-done : (a : Asked) (ts : List Task) (cs new : List Choice) → ((fit other : Choice) (more : List Choice) → cs ≡ fit ∷ other ∷ more → new ≡ Test a.0 a.1 fit other ∷ more)
    → (c : Choice) → finish (Join a ∷ ts) cs ≡ c ∷ [] → finish ts new ≡ c ∷ []
join-done a ts [] new k c e = absurd (cc e)
join-done a ts (fit ∷ []) new k c e = absurd (cc e)
join-done a ts (fit ∷ other ∷ more) new k c e = ap (finish ts) (k fit other more refl) ∙ e

-- one tree more, and less to do
pub leaf-done : (rows : List Flat) (ts new : List Task) (cs grown : List Choice) (c : Choice) → tree rows ≡ c → new ≡ ts → grown ≡ c ∷ cs → finish new grown ≡ finish ts (tree rows ∷ cs)
leaf-done rows ts new cs grown c e n g = ap (λ x. finish x grown) n ∙ ap (finish ts) (g ∙ ap (λ x. x ∷ cs) (sym e))

pub leaf-less : (rows : List Flat) (ts new : List Task) → new ≡ ts → work new < nodes_in (tree rows) * 2 + work ts
leaf-less rows ts new n = let s : 1 ≤ nodes_in (tree rows) = some-nodes (tree rows) in let w : work new ≡ work ts = ap work n in omega (arith, s, w)

pub split-done : (rows : List Flat) (a : Asked) (ts new : List Task) (cs grown : List Choice) → ATest a ≡ asks rows
    → new ≡ Rows (where_fails a rows) ∷ Rows (where_holds a rows) ∷ Join a ∷ ts → grown ≡ cs → finish new grown ≡ finish ts (tree rows ∷ cs)
split-done rows a ts new cs grown e n g = ap (λ x. finish x grown) n ∙ ap (finish (Rows (where_fails a rows) ∷ Rows (where_holds a rows) ∷ Join a ∷ ts)) g ∙ ap (λ c. finish ts (c ∷ cs)) (sym (tree-test rows a e))

pub split-less : (rows : List Flat) (a : Asked) (ts new : List Task) → ATest a ≡ asks rows
    → new ≡ Rows (where_fails a rows) ∷ Rows (where_holds a rows) ∷ Join a ∷ ts → work new < nodes_in (tree rows) * 2 + work ts
split-less rows a ts new e n =
    let w : work new ≡ nodes_in (tree (where_fails a rows)) * 2 + (nodes_in (tree (where_holds a rows)) * 2 + (1 + work ts)) = ap work n in
    let k : nodes_in (tree rows) ≡ 1 + nodes_in (tree (where_holds a rows)) + nodes_in (tree (where_fails a rows)) = ap nodes_in (tree-test rows a e) in
    omega (arith, w, k)
