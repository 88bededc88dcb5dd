-- The code that is generated for an expression stands for it, wherever it stands.
use Rattle.std.proofs.Common.{◌≡◌, ◌∙◌, refl, sym, ap, subst, arith, ℕ, zero, suc, ◌+◌, ◌≤◌, Bool, true, false, List, [], ◌∷◌, ◌++◌, Some, if◌then◌else◌, length, length-append, append_assoc, slice_get, inl}
use Rattle.std.specs.Prelude.{◌||◌, option_map}
use Rattle.campl_tree.specs.Plain.Expr as e
use Rattle.campl_tree.specs.Plain.Expr.{Expr, Exprs, ExprRows}
use Rattle.campl_tree.specs.Plain.Decl.{FunctionDecl, FunctionRow, Data, Protocol, Coprotocol, Function, Process}
use Rattle.campl_types.specs.Names.{Name, same_name, found, is_among}
use Rattle.campl_types.specs.World.{World, function_named}
use Rattle.campl_types.specs.Matching.{number_of}
use Rattle.campl_types.specs.Patterns.{bound_in, bound_in_all}
use Rattle.campl_code.specs.Instructions.{Operation, Instr, Block, Code}
use Rattle.campl_code.specs.Instructions as i
use Rattle.campl_code.specs.Numbers.{Numbers, numbered, Spares, names, AllBelow}
use Rattle.campl_code.specs.Stands.{functions_of, count, End, To, Ret, Jumps, here, by_jump, ends, at_end, conses, tested, stands, all_stand, rows_stand, loads, function_rows_stand, StandsForFunction, FunctionsStand}
use Rattle.campl_code.specs.Generated.{or_zero, function_number, last, past, leave, two_code, conses_code, tested_code, code_of, code_of_all, code_of_rows, places_of, function_rows_code, function_places, loads_code, function_code, function_block, function_blocks}
use Rattle.campl_code.specs.CaseDecisions.{cases_in, cases_in_function}
use Rattle.campl_code.specs.Needs.{behind, IsKnown, AreKnown, RowsAreKnown, Decided, AllDecided, RowsDecided, FunctionRowsKnown, FunctionRowsDecided, FunctionDecided, FunctionsDecided, FunctionsKnown}

-- Places

-- these stand at this place
abbrev pub HasAt : {A : Type 0} → List A → ℕ → List A → Type 0
HasAt code p [] = Unit {0}
HasAt code p (x ∷ is) = (slice_get code p ≡ Some x) × HasAt code (p + 1) is

pub has_front : {A : Type 0} (code : List A) (p : ℕ) (x y : List A) → HasAt code p (x ++ y) → HasAt code p x
has_front code p [] y h = tt
has_front code p (i ∷ x) y h = (h.0, has_front code (p + 1) x y h.1)

pub has_back : {A : Type 0} (code : List A) (p : ℕ) (x y : List A) → HasAt code p (x ++ y) → HasAt code (p + length x) y
has_back code p [] y h = let e : p ≡ p + 0 = omega arith in subst (λ (n : ℕ). HasAt code n y) e h
has_back code p (i ∷ x) y h = let e : p + 1 + length x ≡ p + suc (length x) = omega arith in subst (λ (n : ℕ). HasAt code n y) e (has_back code (p + 1) x y h.1)

get_here : {A : Type 0} (pre x : List A) (i : A) → slice_get (pre ++ i ∷ x) (length pre) ≡ Some i
get_here [] x i = refl
get_here (j ∷ pre) x i = get_here pre x i

has_behind : {A : Type 0} (pre x : List A) → HasAt (pre ++ x) (length pre) x
has_behind pre [] = tt
has_behind pre (i ∷ x) =
    let whole : (pre ++ i ∷ []) ++ x ≡ pre ++ i ∷ x = append_assoc pre (i ∷ []) x in
    let len : length (pre ++ i ∷ []) ≡ length pre + 1 = length-append pre (i ∷ []) in
    (get_here pre x i, subst (λ (n : ℕ). HasAt (pre ++ i ∷ x) n x) len (subst (λ l. HasAt l (length (pre ++ i ∷ [])) x) whole (has_behind (pre ++ i ∷ []) x)))

pub has_all : {A : Type 0} (x : List A) → HasAt x 0 x
has_all x = has_behind [] x

-- Names

pub names-numbered : (xs : List Name) (n : ℕ) (ns : Numbers) → names (numbered n xs ns) ≡ behind xs (names ns)
names-numbered [] n ns = refl
names-numbered (x ∷ xs) n ns = names-numbered xs (suc n) ((x, n) ∷ ns)

known-number : (x : Name) (ns : Numbers) → is_among x (names ns) ≡ true → (v : ℕ) × (found x ns ≡ Some v)
known-number x [] h = absurd (cc h)
known-number x (e ∷ ns) h = go (same_name x e.0) h (known-number x ns)
  where
    go : (c : Bool) → (c || is_among x (names ns)) ≡ true → (is_among x (names ns) ≡ true → (v : ℕ) × (found x ns ≡ Some v)) → (v : ℕ) × ((if c then Some e.1 else found x ns) ≡ Some v)
    go true h later = (e.1, refl)
    go false h later = later h

pub below-spares : (n k : ℕ) (ns : Numbers) → AllBelow n ns → Spares n k ns
below-spares n k [] h = tt
below-spares n k (e ∷ ns) h = (inl h.0, below-spares n k ns h.1)

pub below-more : (n m : ℕ) (ns : Numbers) → n ≤ m → AllBelow n ns → AllBelow m ns
below-more n m [] le h = tt
below-more n m (e ∷ ns) le h = (omega (arith, h.0), below-more n m ns le h.1)

pub below-numbered : (xs : List Name) (n : ℕ) (ns : Numbers) → AllBelow n ns → AllBelow (n + length xs) (numbered n xs ns)
below-numbered [] n ns h = below-more n (n + 0) ns (omega arith) h
below-numbered (x ∷ xs) n ns h =
    let e : suc n + length xs ≡ n + suc (length xs) = omega arith in
    subst (λ (k : ℕ). AllBelow k (numbered (suc n) xs ((x, n) ∷ ns))) e (below-numbered xs (suc n) ((x, n) ∷ ns) (omega arith, below-more n (suc n) ns (omega arith) h))

-- a known function has its number
abbrev IsNumbered : World → Name → FunctionDecl → Type 0
IsNumbered w x f = (g : ℕ) × (function_number w x ≡ Some g) × (slice_get (functions_of w) g ≡ Some f)

pub function-numbered : (w : World) (x : Name) (f : FunctionDecl) → function_named w x ≡ Some f → IsNumbered w x f
function-numbered [] x f h = absurd (cc h)
function-numbered (Function d ∷ ds) x f h = go (same_name x d.name.name) refl (function-numbered ds x f)
  where
    go : (c : Bool) → same_name x d.name.name ≡ c → (function_named ds x ≡ Some f → IsNumbered ds x f) → IsNumbered (Function d ∷ ds) x f
    go true k later = (0, rw k refl, rw k at h)
    go false k later = let r = later (rw k at h) in (suc r.0, rw k (ap (option_map suc) r.1), r.2)
function-numbered (Data d ∷ ds) x f h = go (same_name x d.name.name) refl (function-numbered ds x f)
  where
    go : (c : Bool) → same_name x d.name.name ≡ c → (function_named ds x ≡ Some f → IsNumbered ds x f) → IsNumbered ds x f
    go true k later = later (rw k at h)
    go false k later = later (rw k at h)
function-numbered (Protocol d ∷ ds) x f h = go (same_name x d.name.name) refl (function-numbered ds x f)
  where
    go : (c : Bool) → same_name x d.name.name ≡ c → (function_named ds x ≡ Some f → IsNumbered ds x f) → IsNumbered ds x f
    go true k later = later (rw k at h)
    go false k later = later (rw k at h)
function-numbered (Coprotocol d ∷ ds) x f h = go (same_name x d.name.name) refl (function-numbered ds x f)
  where
    go : (c : Bool) → same_name x d.name.name ≡ c → (function_named ds x ≡ Some f → IsNumbered ds x f) → IsNumbered ds x f
    go true k later = later (rw k at h)
    go false k later = later (rw k at h)
function-numbered (Process d ∷ ds) x f h = go (same_name x d.name.name) refl (function-numbered ds x f)
  where
    go : (c : Bool) → same_name x d.name.name ≡ c → (function_named ds x ≡ Some f → IsNumbered ds x f) → IsNumbered ds x f
    go true k later = absurd (cc (rw k at h))
    go false k later = later (rw k at h)

module _ (w : World) (all : Code) (code : List Instr) where
  -- Ends

  jumps-on : (q r p : ℕ) → Jumps code r p → Jumps code q r → Jumps code q p
  jumps-on q r p (here _ k) h = subst (λ (n : ℕ). Jumps code q n) (sym k) h
  jumps-on q r p (by_jump _ s k rest) h = by_jump p s k (jumps-on q r s rest h)

  onward-tested : (p s r q : ℕ) → Jumps code q r → tested w all code p s (To r) → tested w all code p s (To q)
  onward-tested p s r q j h = (h.0, (h.1.0, jumps-on q r (p + 1 + 1) h.1.1 j), (h.2.0, jumps-on q r (s + 1) h.2.1 j))

  onward-conses : (n p r q : ℕ) → Jumps code q r → conses w all code p n (To r) → conses w all code p n (To q)
  onward-conses zero p r q j h = jumps-on q r p h j
  onward-conses (suc n) p r q j h = (h.0, onward-conses n (p + 1) r q j h.1)

  mutual
    -- what comes to a place from which jumps lead on comes to where they lead
    pub onward : (a : Expr) (p r q : ℕ) (ns : Numbers) → Jumps code q r → stands w all code p a ns (To r) → stands w all code p a ns (To q)
    onward (e.Number at x) p r q ns j h = (h.0, jumps-on q r (p + 1) h.1 j)
    onward (e.Character at x) p r q ns j h = (h.0, jumps-on q r (p + 1) h.1 j)
    onward (e.Text at x) p r q ns j h = (h.0, jumps-on q r (p + 1) h.1 j)
    onward (e.True at) p r q ns j h = (h.0, jumps-on q r (p + 1) h.1 j)
    onward (e.False at) p r q ns j h = (h.0, jumps-on q r (p + 1) h.1 j)
    onward (e.Variable at x) p r q ns j h = (h.0, h.1, (h.2.0, jumps-on q r (p + 1) h.2.1 j))
    onward (e.List at items) p r q ns j h = (h.0, h.1, h.2, onward-conses (count items) (h.0 + 1) r q j h.3)
    onward (e.Cons at a b) p r q ns j h = (h.0, h.1, h.2, h.3, (h.4.0, jumps-on q r (h.1 + 1) h.4.1 j))
    onward (e.Append at a b) p r q ns j h = (h.0, h.1, h.2, h.3, (h.4.0, jumps-on q r (h.1 + 1) h.4.1 j))
    onward (e.Pair at a b) p r q ns j h = (h.0, h.1, h.2, h.3, (h.4.0, jumps-on q r (h.1 + 1) h.4.1 j))
    onward (e.Compare at a op b) p r q ns j h = (h.0, h.1, h.2, h.3, (h.4.0, jumps-on q r (h.1 + 1) h.4.1 j))
    onward (e.Calculate at a op b) p r q ns j h = (h.0, h.1, h.2, h.3, (h.4.0, jumps-on q r (h.1 + 1) h.4.1 j))
    onward (e.Negate at a) p r q ns j h = (h.0, h.1, (h.2.0, jumps-on q r (h.0 + 1) h.2.1 j))
    onward (e.CodeOf at a) p r q ns j h = (h.0, h.1, (h.2.0, jumps-on q r (h.0 + 1) h.2.1 j))
    onward (e.CharOf at a) p r q ns j h = (h.0, h.1, (h.2.0, jumps-on q r (h.0 + 1) h.2.1 j))
    onward (e.If at a b c) p r q ns j h = (h.0, h.1, h.2, h.3, onward b (h.0 + 1) r q ns j h.4, onward c h.1 r q ns j h.5)
    onward (e.And at a b) p r q ns j h = (h.0, h.1, h.2, h.3, h.4, h.5, onward-tested h.2 h.1 r q j h.6)
    onward (e.Or at a b) p r q ns j h = (h.0, h.1, h.2, h.3, h.4, h.5, (h.6.0, jumps-on q r (h.0 + 1 + 1) h.6.1 j), h.7, onward-tested h.2 h.3 r q j h.8)
    onward (e.Call at x args) p r q ns j h = (h.0, h.1, h.2, h.3, (h.4.0, jumps-on q r (h.0 + 1) h.4.1 j))
    onward (e.Constructor at x args) p r q ns j h = (h.0, h.1, h.2, h.3, (h.4.0, jumps-on q r (h.0 + 1) h.4.1 j))
    onward (e.Case at a rows) p r q ns j h = (h.0, h.1, h.2, h.3, h.4, onward-rows rows h.2 h.1 r q ns j h.5)

    onward-rows : (rows : ExprRows) (targets : List ℕ) (base r q : ℕ) (ns : Numbers) → Jumps code q r → rows_stand w all code targets rows base ns (To r) → rows_stand w all code targets rows base ns (To q)
    onward-rows e.no_expr_rows targets base r q ns j h = h
    onward-rows (e.expr_row_then p a rows) targets base r q ns j h = (h.0, h.1, h.2, h.3, onward a h.0 r q (numbered base (bound_in p) ns) j h.4, onward-rows rows h.1 base r q ns j h.5)

  abbrev pub end_of : Bool → ℕ → End
  end_of true q = Ret
  end_of false q = To q

  -- a branch that is followed by a jump, where it doesn't return
  past-stands : (tail : Bool) (a : Expr) (p r q to : ℕ) (ns : Numbers) → to ≡ q → HasAt code r (past tail to) → stands w all code p a ns (end_of tail r) → stands w all code p a ns (end_of tail q)
  past-stands true a p r q to ns e h s = s
  past-stands false a p r q to ns e h s = onward a p r q ns (by_jump r to h.0 (here to e)) s

  last_ends : (tail : Bool) (p q : ℕ) → p + length (last tail) ≡ q → HasAt code p (last tail) → ends w all code p (end_of tail q)
  last_ends true p q e h = (p, here p refl, h.0)
  last_ends false p q e h = here p (omega (arith, e))

  plainly : (tail : Bool) (p q : ℕ) → p + length (last tail) ≡ q → tail ≡ false → p ≡ q
  plainly true p q e k = absurd (cc k)
  plainly false p q e k = omega (arith, e)

  leave_ends : (tail : Bool) (p q to : ℕ) → (tail ≡ false → to ≡ q) → slice_get code p ≡ Some (leave tail to) → ends w all code p (end_of tail q)
  leave_ends true p q to e h = (p, here p refl, h)
  leave_ends false p q to e h = by_jump p to h (here to (e refl))

  pub past_length : (tail : Bool) (m n : ℕ) → length (past tail m) ≡ length (past tail n)
  past_length true m n = refl
  past_length false m n = refl

  conses_length : (n : ℕ) (tail : Bool) → length (conses_code n tail) ≡ n + length (last tail)
  conses_length zero tail = omega arith
  conses_length (suc n) tail = omega (arith, conses_length n tail)

  conses_stand : (n p q : ℕ) (tail : Bool) → p + length (conses_code n tail) ≡ q → HasAt code p (conses_code n tail) → conses w all code p n (end_of tail q)
  conses_stand zero p q tail e h = last_ends tail p q e h
  conses_stand (suc n) p q tail e h = (h.0, conses_stand n (p + 1) q tail (omega (arith, e)) h.1)

  tested_stands : (p s q : ℕ) (tail : Bool) → s ≡ p + 3 → p + 4 + length (last tail) ≡ q → HasAt code p (tested_code p tail) → tested w all code p s (end_of tail q)
  tested_stands p s q tail es eq h =
      let at : p + 1 + 1 + 1 ≡ s = omega arith in
      let at_last : p + 1 + 1 + 1 + 1 ≡ s + 1 = omega arith in
      let at_end : s + 1 + length (last tail) ≡ q = omega arith in (
        h.0 ∙ ap (λ (n : ℕ). Some (i.Unless n)) (sym es),
        (h.1.0, leave_ends tail (p + 1 + 1) q (p + 4) (plainly tail (p + 4) q eq) h.1.1.0),
        (subst (λ (n : ℕ). slice_get code n ≡ Some (i.Truth false)) at h.1.1.1.0, last_ends tail (s + 1) q at_end (subst (λ (n : ℕ). HasAt code n (last tail)) at_last h.1.1.1.1)),
      )

  record Two (p : ℕ) (x y : List Instr) (op : Instr) (tail : Bool) : Type 0 where
    first : HasAt code p x
    second : HasAt code (p + length x) y
    at : at_end w all code (p + length x + length y) op (end_of tail (p + length (two_code x y op tail)))

  two_parts : (p : ℕ) (x y : List Instr) (op : Instr) (tail : Bool) → HasAt code p (two_code x y op tail) → Two p x y op tail
  two_parts p x y op tail h =
      let r = has_back code p x (y ++ (op ∷ last tail)) h in
      let z = has_back code (p + length x) y (op ∷ last tail) r in
      let len : p + length x + length y + 1 + length (last tail) ≡ p + length (x ++ (y ++ (op ∷ last tail))) = omega (arith, length-append x (y ++ (op ∷ last tail)), length-append y (op ∷ last tail)) in
      record {
        first = has_front code p x (y ++ (op ∷ last tail)) h;
        second = has_front code (p + length x) y (op ∷ last tail) r;
        at = (z.0, last_ends tail (p + length x + length y + 1) (p + length (x ++ (y ++ (op ∷ last tail)))) len z.1);
      }

  record One (p : ℕ) (x : List Instr) (op : Instr) (tail : Bool) : Type 0 where
    first : HasAt code p x
    at : at_end w all code (p + length x) op (end_of tail (p + length (x ++ (op ∷ last tail))))

  one_part : (p : ℕ) (x : List Instr) (op : Instr) (tail : Bool) → HasAt code p (x ++ (op ∷ last tail)) → One p x op tail
  one_part p x op tail h =
      let z = has_back code p x (op ∷ last tail) h in
      let len : p + length x + 1 + length (last tail) ≡ p + length (x ++ (op ∷ last tail)) = omega (arith, length-append x (op ∷ last tail)) in
      record {
        first = has_front code p x (op ∷ last tail) h;
        at = (z.0, last_ends tail (p + length x + 1) (p + length (x ++ (op ∷ last tail))) len z.1);
      }

  leaf : (p : ℕ) (op : Instr) (tail : Bool) → HasAt code p (op ∷ last tail) → at_end w all code p op (end_of tail (p + length (op ∷ last tail)))
  leaf p op tail h = (h.0, last_ends tail (p + 1) (p + length (op ∷ last tail)) (omega arith) h.1)

  pub rows_length : (tail : Bool) (rows : ExprRows) (p dec free : ℕ) (ns : Numbers) (m n : ℕ) → length (code_of_rows w tail rows p dec free ns m) ≡ length (code_of_rows w tail rows p dec free ns n)
  rows_length tail e.no_expr_rows p dec free ns m n = refl
  rows_length tail (e.expr_row_then q a rows) p dec free ns m n =
      let x = code_of w tail a p dec (free + length (bound_in q)) (numbered free (bound_in q) ns) in
      let p' = p + length x + length (past tail 0) in
      let y = λ (k : ℕ). code_of_rows w tail rows p' (dec + cases_in a) free ns k in
      omega (arith, length-append x (past tail m ++ y m), length-append x (past tail n ++ y n), length-append (past tail m) (y m), length-append (past tail n) (y n), past_length tail m n, rows_length tail rows p' (dec + cases_in a) free ns m n)

  mutual
    pub code_stands : (a : Expr) (tail : Bool) (p dec free : ℕ) (ns : Numbers) → IsKnown w (names ns) a → Decided w all.decisions dec a → AllBelow free ns → HasAt code p (code_of w tail a p dec free ns)
        → stands w all code p a ns (end_of tail (p + length (code_of w tail a p dec free ns)))
    code_stands (e.Number at x) tail p dec free ns k d b h = leaf p (i.Int x) tail h
    code_stands (e.Character at x) tail p dec free ns k d b h = leaf p (i.Char x) tail h
    code_stands (e.Text at x) tail p dec free ns k d b h = leaf p (i.Text x) tail h
    code_stands (e.True at) tail p dec free ns k d b h = leaf p (i.Truth true) tail h
    code_stands (e.False at) tail p dec free ns k d b h = leaf p (i.Truth false) tail h
    code_stands (e.Variable at x) tail p dec free ns k d b h =
        let v = known-number x ns k in
        let z = leaf p (i.Load (or_zero (found x ns))) tail h in
        (v.0, v.1, (z.0 ∙ ap (λ o. Some (i.Load (or_zero o))) v.1, z.1))
    code_stands (e.List at items) tail p dec free ns k d b h =
        let x = code_of_all w items p dec free ns in
        let r = has_back code p x (i.Nil ∷ conses_code (count items) tail) h in
        let len : p + length x + 1 + length (conses_code (count items) tail) ≡ p + length (x ++ (i.Nil ∷ conses_code (count items) tail)) = omega (arith, length-append x (i.Nil ∷ conses_code (count items) tail)) in
        (p + length x, all_of_stand items p dec free ns k d b (has_front code p x (i.Nil ∷ conses_code (count items) tail) h), r.0, conses_stand (count items) (p + length x + 1) (p + length (x ++ (i.Nil ∷ conses_code (count items) tail))) tail len r.1)
    code_stands (e.Cons at a c) tail p dec free ns k d b h =
        let x = code_of w false a p dec free ns in
        let y = code_of w false c (p + length x) (dec + cases_in a) free ns in
        let t = two_parts p x y i.Cons tail h in
        (p + length x, p + length x + length y, code_stands a false p dec free ns k.0 d.0 b t.first, code_stands c false (p + length x) (dec + cases_in a) free ns k.1 d.1 b t.second, t.at)
    code_stands (e.Append at a c) tail p dec free ns k d b h =
        let x = code_of w false a p dec free ns in
        let y = code_of w false c (p + length x) (dec + cases_in a) free ns in
        let t = two_parts p x y (i.Op i.Append) tail h in
        (p + length x, p + length x + length y, code_stands a false p dec free ns k.0 d.0 b t.first, code_stands c false (p + length x) (dec + cases_in a) free ns k.1 d.1 b t.second, t.at)
    code_stands (e.Pair at a c) tail p dec free ns k d b h =
        let x = code_of w false a p dec free ns in
        let y = code_of w false c (p + length x) (dec + cases_in a) free ns in
        let t = two_parts p x y i.Pair tail h in
        (p + length x, p + length x + length y, code_stands a false p dec free ns k.0 d.0 b t.first, code_stands c false (p + length x) (dec + cases_in a) free ns k.1 d.1 b t.second, t.at)
    code_stands (e.Compare at a op c) tail p dec free ns k d b h =
        let x = code_of w false a p dec free ns in
        let y = code_of w false c (p + length x) (dec + cases_in a) free ns in
        let t = two_parts p x y (i.Op (i.Compare op)) tail h in
        (p + length x, p + length x + length y, code_stands a false p dec free ns k.0 d.0 b t.first, code_stands c false (p + length x) (dec + cases_in a) free ns k.1 d.1 b t.second, t.at)
    code_stands (e.Calculate at a op c) tail p dec free ns k d b h =
        let x = code_of w false a p dec free ns in
        let y = code_of w false c (p + length x) (dec + cases_in a) free ns in
        let t = two_parts p x y (i.Op (i.Calculate op)) tail h in
        (p + length x, p + length x + length y, code_stands a false p dec free ns k.0 d.0 b t.first, code_stands c false (p + length x) (dec + cases_in a) free ns k.1 d.1 b t.second, t.at)
    code_stands (e.Negate at a) tail p dec free ns k d b h =
        let t = one_part p (code_of w false a p dec free ns) (i.Op i.Negate) tail h in
        (p + length (code_of w false a p dec free ns), code_stands a false p dec free ns k d b t.first, t.at)
    code_stands (e.CodeOf at a) tail p dec free ns k d b h =
        let t = one_part p (code_of w false a p dec free ns) (i.Op i.CodeOf) tail h in
        (p + length (code_of w false a p dec free ns), code_stands a false p dec free ns k d b t.first, t.at)
    code_stands (e.CharOf at a) tail p dec free ns k d b h =
        let t = one_part p (code_of w false a p dec free ns) (i.Op i.CharOf) tail h in
        (p + length (code_of w false a p dec free ns), code_stands a false p dec free ns k d b t.first, t.at)
    code_stands (e.If at a c f) tail p dec free ns k d b h =
        let z = code_of w false a p dec free ns in
        let q = p + length z in
        let x = code_of w tail c (q + 1) (dec + cases_in a) free ns in
        let r = q + 1 + length x + length (past tail 0) in
        let y = code_of w tail f r (dec + cases_in a + cases_in c) free ns in
        let end = r + length y in
        let whole = z ++ (i.Unless r ∷ (x ++ (past tail end ++ y))) in
        let len : end ≡ p + length whole = omega (arith, length-append z (i.Unless r ∷ (x ++ (past tail end ++ y))), length-append x (past tail end ++ y), length-append (past tail end) y, past_length tail end 0) in
        let g = has_back code p z (i.Unless r ∷ (x ++ (past tail end ++ y))) h in
        let rest = has_back code (q + 1) x (past tail end ++ y) g.1 in
        let at_r : q + 1 + length x + length (past tail end) ≡ r = omega (arith, past_length tail end 0) in
        let second = subst (λ (n : ℕ). HasAt code n y) at_r (has_back code (q + 1 + length x) (past tail end) y rest) in (
          q,
          r,
          code_stands a false p dec free ns k.0 d.0 b (has_front code p z (i.Unless r ∷ (x ++ (past tail end ++ y))) h),
          g.0,
          past-stands tail c (q + 1) (q + 1 + length x) (p + length whole) end ns len (has_front code (q + 1 + length x) (past tail end) y rest)
              (code_stands c tail (q + 1) (dec + cases_in a) free ns k.1 d.1 b (has_front code (q + 1) x (past tail end ++ y) g.1)),
          subst (λ (n : ℕ). stands w all code r f ns (end_of tail n)) len (code_stands f tail r (dec + cases_in a + cases_in c) free ns k.2 d.2 b second),
        )
    code_stands (e.And at a c) tail p dec free ns k d b h =
        let z = code_of w false a p dec free ns in
        let q = p + length z in
        let x = code_of w false c (q + 1) (dec + cases_in a) free ns in
        let s = q + 1 + length x in
        let whole = z ++ (i.Unless (s + 3) ∷ (x ++ tested_code s tail)) in
        let len : s + 4 + length (last tail) ≡ p + length whole = omega (arith, length-append z (i.Unless (s + 3) ∷ (x ++ tested_code s tail)), length-append x (tested_code s tail)) in
        let g = has_back code p z (i.Unless (s + 3) ∷ (x ++ tested_code s tail)) h in (
          q,
          s + 3,
          s,
          code_stands a false p dec free ns k.0 d.0 b (has_front code p z (i.Unless (s + 3) ∷ (x ++ tested_code s tail)) h),
          g.0,
          code_stands c false (q + 1) (dec + cases_in a) free ns k.1 d.1 b (has_front code (q + 1) x (tested_code s tail) g.1),
          tested_stands s (s + 3) (p + length whole) tail refl len (has_back code (q + 1) x (tested_code s tail) g.1),
        )
    code_stands (e.Or at a c) tail p dec free ns k d b h =
        let z = code_of w false a p dec free ns in
        let q = p + length z in
        let x = code_of w false c (q + 3) (dec + cases_in a) free ns in
        let s = q + 3 + length x in
        let rest = x ++ tested_code s tail in
        let whole = z ++ (i.Unless (q + 3) ∷ i.Truth true ∷ leave tail (s + 4) ∷ rest) in
        let len : s + 4 + length (last tail) ≡ p + length whole = omega (arith, length-append z (i.Unless (q + 3) ∷ i.Truth true ∷ leave tail (s + 4) ∷ rest), length-append x (tested_code s tail)) in
        let g = has_back code p z (i.Unless (q + 3) ∷ i.Truth true ∷ leave tail (s + 4) ∷ rest) h in
        let at_r : q + 1 + 1 + 1 ≡ q + 3 = omega arith in
        let r = subst (λ (n : ℕ). HasAt code n rest) at_r g.1.1.1 in (
          q,
          q + 3,
          s,
          s + 3,
          code_stands a false p dec free ns k.0 d.0 b (has_front code p z (i.Unless (q + 3) ∷ i.Truth true ∷ leave tail (s + 4) ∷ rest) h),
          g.0,
          (g.1.0, leave_ends tail (q + 1 + 1) (p + length whole) (s + 4) (plainly tail (s + 4) (p + length whole) len) g.1.1.0),
          code_stands c false (q + 3) (dec + cases_in a) free ns k.1 d.1 b (has_front code (q + 3) x (tested_code s tail) r),
          tested_stands s (s + 3) (p + length whole) tail refl len (has_back code (q + 3) x (tested_code s tail) r),
        )
    code_stands (e.Call at x args) tail p dec free ns k d b h =
        let y = code_of_all w args p dec free ns in
        let t = one_part p y (i.Call (or_zero (function_number w x))) tail h in
        let g = function-numbered w x k.0 k.1 in
        (p + length y, g.0, all_of_stand args p dec free ns k.3 d b t.first, (k.0, k.1, g.2, k.2), (t.at.0 ∙ ap (λ o. Some (i.Call (or_zero o))) g.1, t.at.1))
    code_stands (e.Constructor at x args) tail p dec free ns k d b h =
        let y = code_of_all w args p dec free ns in
        let t = one_part p y (i.Build (or_zero (number_of w x)) (count args)) tail h in
        (p + length y, k.0, all_of_stand args p dec free ns k.2 d b t.first, k.1, (t.at.0 ∙ ap (λ o. Some (i.Build (or_zero o) (count args))) k.1, t.at.1))
    code_stands (e.Case at a rows) tail p dec free ns k d b h =
        let z = code_of w false a p dec free ns in
        let q = p + length z in
        let m = dec + cases_in a in
        let end = q + 1 + length (code_of_rows w tail rows (q + 1) (m + 1) free ns 0) in
        let y = code_of_rows w tail rows (q + 1) (m + 1) free ns end in
        let targets = places_of w tail rows (q + 1) (m + 1) free ns in
        let whole = z ++ (i.Match m free targets ∷ y) in
        let len : end ≡ p + length whole = omega (arith, length-append z (i.Match m free targets ∷ y), rows_length tail rows (q + 1) (m + 1) free ns 0 end) in
        let g = has_back code p z (i.Match m free targets ∷ y) h in (
          q,
          free,
          targets,
          code_stands a false p dec free ns k.0 d.0 b (has_front code p z (i.Match m free targets ∷ y) h),
          (m, d.1.0, g.0, d.1.1, d.1.2),
          rows_of_stand rows tail (q + 1) (m + 1) free ns end (p + length whole) len k.1 d.2 b g.1,
        )

    pub all_of_stand : (args : Exprs) (p dec free : ℕ) (ns : Numbers) → AreKnown w (names ns) args → AllDecided w all.decisions dec args → AllBelow free ns → HasAt code p (code_of_all w args p dec free ns)
        → all_stand w all code p args ns (p + length (code_of_all w args p dec free ns))
    all_of_stand e.no_exprs p dec free ns k d b h = here p (omega arith)
    all_of_stand (e.expr_then a rest) p dec free ns k d b h =
        let x = code_of w false a p dec free ns in
        let y = code_of_all w rest (p + length x) (dec + cases_in a) free ns in
        let len : p + length x + length y ≡ p + length (x ++ y) = omega (arith, length-append x y) in (
          p + length x,
          code_stands a false p dec free ns k.0 d.0 b (has_front code p x y h),
          subst (λ (n : ℕ). all_stand w all code (p + length x) rest ns n) len (all_of_stand rest (p + length x) (dec + cases_in a) free ns k.1 d.1 b (has_back code p x y h)),
        )

    rows_of_stand : (rows : ExprRows) (tail : Bool) (p dec free : ℕ) (ns : Numbers) (to q : ℕ) → to ≡ q → RowsAreKnown w (names ns) rows → RowsDecided w all.decisions dec rows → AllBelow free ns → HasAt code p (code_of_rows w tail rows p dec free ns to)
        → rows_stand w all code (places_of w tail rows p dec free ns) rows free ns (end_of tail q)
    rows_of_stand e.no_expr_rows tail p dec free ns to q e k d b h = refl
    rows_of_stand (e.expr_row_then c a rows) tail p dec free ns to q same k d b h =
        let xs = bound_in c in
        let ms = numbered free xs ns in
        let x = code_of w tail a p dec (free + length xs) ms in
        let p' = p + length x + length (past tail 0) in
        let y = code_of_rows w tail rows p' (dec + cases_in a) free ns to in
        let rest = has_back code p x (past tail to ++ y) h in
        let at : p + length x + length (past tail to) ≡ p' = omega (arith, past_length tail to 0) in
        let known = subst (λ (l : List Name). IsKnown w l a) (sym (names-numbered xs free ns)) k.0 in (
          p,
          places_of w tail rows p' (dec + cases_in a) free ns,
          refl,
          below-spares free (length xs) ns b,
          past-stands tail a p (p + length x) q to ms same (has_front code (p + length x) (past tail to) y rest) (code_stands a tail p dec (free + length xs) ms known d.0 (below-numbered xs free ns b) (has_front code p x (past tail to ++ y) h)),
          rows_of_stand rows tail p' (dec + cases_in a) free ns to q same k.1 d.1 b (subst (λ (n : ℕ). HasAt code n y) at (has_back code (p + length x) (past tail to) y rest)),
        )

  -- Functions

  loads_stand : (p n : ℕ) → HasAt code p (loads_code p n) → loads w all code p n
  loads_stand p zero h = tt
  loads_stand p (suc n) h = let e : p + 1 ≡ suc p = omega arith in (h.0, loads_stand (suc p) n (subst (λ (i : ℕ). HasAt code i (loads_code (suc p) n)) e h.1))

  function_rows_of_stand : (rows : List FunctionRow) (p dec : ℕ) → FunctionRowsKnown w rows → FunctionRowsDecided w all.decisions dec rows → HasAt code p (function_rows_code w rows p dec) → function_rows_stand w all code (function_places w rows p dec) rows 0
  function_rows_of_stand [] p dec k d h = refl
  function_rows_of_stand (r ∷ rows) p dec k d h =
      let xs = bound_in_all r.patterns in
      let ns = numbered 0 xs [] in
      let x = code_of w true r.value p dec (length xs) ns in
      let y = function_rows_code w rows (p + length x) (dec + cases_in r.value) in
      let known = subst (λ (l : List Name). IsKnown w l r.value) (sym (names-numbered xs 0 [])) k.0 in
      let all_below : 0 + length xs ≡ length xs = omega arith in
      let below = subst (λ (n : ℕ). AllBelow n ns) all_below (below-numbered xs 0 [] tt) in (
        p,
        function_places w rows (p + length x) (dec + cases_in r.value),
        refl,
        code_stands r.value true p dec (length xs) ns known d.0 below (has_front code p x y h),
        function_rows_of_stand rows (p + length x) (dec + cases_in r.value) k.1 d.1 (has_back code p x y h),
      )

pub loads_length : (p n : ℕ) → length (loads_code p n) ≡ n
loads_length p zero = refl
loads_length p (suc n) = ap suc (loads_length (suc p) n)

pub function_stands : (w : World) (all : Code) (f : FunctionDecl) (dec : ℕ) → FunctionRowsKnown w f.rows → FunctionDecided w all.decisions dec f → StandsForFunction w all f (function_block w f dec)
function_stands w all f dec k d =
    let n = length f.parameters in
    let rows = function_rows_code w f.rows (n + 1) (dec + 1) in
    let x = i.Match dec 0 (function_places w f.rows (n + 1) (dec + 1)) in
    let code = function_code w f dec in
    let h : HasAt code 0 code = has_all code in
    let at : 0 + length (loads_code 0 n) ≡ n = omega (arith, loads_length 0 n) in
    let r = subst (λ (i : ℕ). HasAt code i (x ∷ rows)) at (has_back code 0 (loads_code 0 n) (x ∷ rows) h) in
    record {
      name = refl;
      variables = refl;
      inputs = refl;
      outputs = refl;
      base = 0;
      targets = function_places w f.rows (n + 1) (dec + 1);
      loaded = loads_stand w all code 0 n (has_front code 0 (loads_code 0 n) (x ∷ rows) h);
      matched = (dec, d.0.0, r.0, d.0.1, d.0.2);
      rows = function_rows_of_stand w all code f.rows (n + 1) (dec + 1) k d.1 r.1;
    }

blocks_stand : (w : World) (all : Code) (fs : List FunctionDecl) (dec : ℕ) → FunctionsKnown w fs → FunctionsDecided w all.decisions dec fs → (g : ℕ) (f : FunctionDecl) → slice_get fs g ≡ Some f → (b : Block) × (slice_get (function_blocks w fs dec) g ≡ Some b) × StandsForFunction w all f b
blocks_stand w all [] dec k d g f at = absurd (cc at)
blocks_stand w all (h ∷ fs) dec k d zero f at =
    let same : h ≡ f = cc at in
    (function_block w h dec, refl, subst (λ (f : FunctionDecl). StandsForFunction w all f (function_block w h dec)) same (function_stands w all h dec k.0 d.0))
blocks_stand w all (h ∷ fs) dec k d (suc g) f at = blocks_stand w all fs (dec + cases_in_function h) k.1 d.1 g f at

-- code whose functions are the generated blocks
pub functions_stand : (w : World) (all : Code) (dec : ℕ) → all.functions ≡ function_blocks w (functions_of w) dec → FunctionsKnown w (functions_of w) → FunctionsDecided w all.decisions dec (functions_of w) → FunctionsStand w all
functions_stand w all dec e k d g f at =
    let r = blocks_stand w all (functions_of w) dec k d g f at in
    (r.0, ap (λ (l : List Block). slice_get l g) e ∙ r.1, r.2)
