-- Layout's braces are balanced, and it puts few tokens.
use Rattle.std.proofs.Common.{◌≡◌, ℕ, zero, suc, ◌+◌, ◌*◌, ◌<◌, ◌≤◌, Bool, true, false, cond, ◌&&◌, ◌||◌, eqb, nat_lt, nat_le, List, [], ◌∷◌, ◌++◌}
use Rattle.std.proofs.Common.{length, drop, replicate, Option, Some, None, Result, Ok, Err, IfOk, refl, sym, ap, ◌∙◌, subst, arith, one-add, zero-add}
use Rattle.std.proofs.Common.{length-append, append_assoc}
use Rattle.std.specs.List.{prefix_len, All}
use Rattle.std.proofs.lemmas.List.{length-replicate}
use Rattle.std.specs.Prelude.{Vec}
use Rattle.std.proofs.lemmas.Bool.Decides.{nat_tests}
use Rattle.campl_tree.specs.declared.place.Place.{Place}
use Rattle.campl_lex.specs.declared.token.Token.{Token}
use Rattle.campl_lex.specs.declared.token.TokenKind.{TokenKind}
use Rattle.campl_lex.specs.declared.token.TokenKind.TheVariants as kind
use Rattle.campl_lex.specs.declared.fault.LexFault.{LexFault}
use Rattle.campl_lex.specs.declared.fault.LexFault.TheVariants.{BadColumn}
use Rattle.campl_lex.specs.declared.stack.Enclosure.{Enclosure}
use Rattle.campl_lex.specs.declared.stack.Enclosure.TheVariants.{Block, Bracket}
use Rattle.campl_lex.specs.Kinds.{same}
use Rattle.campl_lex.specs.Enclosure.{is_block_from, has_bracket, nearest, block_count}
use Rattle.campl_lex.specs.Layout.{Put, onto, and_then, block_opened, bracket_closed, separated, aligned, closing, before, behind, follow, adds, laid}
use Rattle.campl_lex.specs.Layout.{laid_out, first_brace, inserted, IsWritten, is_opening, is_closing, is_inserted, opens_block, is_closing_bracket}
use Rattle.campl_lex.specs.Layout.{is_opening_bracket, opens_last, level, is_enclosed, IsWhole, Answers}

-- the source's own block is at the bottom
abbrev pub Grounded : List Enclosure → Type 0
Grounded stack = (upper : List Enclosure) × (stack ≡ upper ++ Block 1 ∷ [])

ground_count : (upper : List Enclosure) → block_count (upper ++ Block 1 ∷ []) ≡ suc (block_count upper)
ground_count [] = refl
ground_count (Block c ∷ upper) = ap suc (ground_count upper)
ground_count (Bracket c ∷ upper) = ground_count upper

-- closing blocks of greater columns leaves the ground
ground_kept : (c : ℕ) (upper : List Enclosure) → 2 ≤ c → Grounded (drop (prefix_len (is_block_from c) (upper ++ Block 1 ∷ [])) (upper ++ Block 1 ∷ []))
ground_kept c [] h = ([], ap (λ b. drop (cond b 1 0) (Block 1 ∷ [])) (let e : nat_le c 1 ≡ false = grind (arith, nat_tests) in e))
ground_kept c (Bracket d ∷ upper) h = (Bracket d ∷ upper, refl)
ground_kept c (Block d ∷ upper) h = by (nat_le c d) (ground_kept c upper h)
  where
    by : (b : Bool) → Grounded (drop (prefix_len (is_block_from c) (upper ++ Block 1 ∷ [])) (upper ++ Block 1 ∷ []))
        → Grounded (drop (cond b (1 + prefix_len (is_block_from c) (upper ++ Block 1 ∷ [])) 0) (Block d ∷ (upper ++ Block 1 ∷ [])))
    by true g = subst (λ n. Grounded (drop n (Block d ∷ (upper ++ Block 1 ∷ [])))) (sym (one-add (prefix_len (is_block_from c) (upper ++ Block 1 ∷ [])))) g
    by false g = (Block d ∷ upper, refl)

abbrev Kept : ℕ → List Enclosure → Type 0
Kept n s = Grounded (drop 1 (drop n s)) × (block_count (drop 1 (drop n s)) ≡ block_count (drop n s))

-- closing a bracket leaves the ground, and as many blocks as stand below
bracket_kept : (upper : List Enclosure) → has_bracket (upper ++ Block 1 ∷ []) ≡ true
    → Grounded (drop 1 (drop (prefix_len (is_block_from 0) (upper ++ Block 1 ∷ [])) (upper ++ Block 1 ∷ [])))
    × (block_count (drop 1 (drop (prefix_len (is_block_from 0) (upper ++ Block 1 ∷ [])) (upper ++ Block 1 ∷ [])))
    ≡ block_count (drop (prefix_len (is_block_from 0) (upper ++ Block 1 ∷ [])) (upper ++ Block 1 ∷ [])))
bracket_kept [] h = cc
bracket_kept (Bracket d ∷ upper) h = ((upper, refl), refl)
bracket_kept (Block d ∷ upper) h =
    let s = upper ++ Block 1 ∷ [] in
    let n = prefix_len (is_block_from 0) s in
    let low : nat_le 0 d ≡ true = grind (arith, nat_tests) in
    subst (λ b. Kept (cond b (1 + n) 0) (Block d ∷ s)) (sym low) (subst (λ m. Kept m (Block d ∷ s)) (sym (one-add n)) (bracket_kept upper h))

closed_count : (c : ℕ) (stack : List Enclosure) → block_count stack ≡ prefix_len (is_block_from c) stack + block_count (drop (prefix_len (is_block_from c) stack) stack)
closed_count c [] = refl
closed_count c (Bracket d ∷ stack) = sym (zero-add (block_count stack))
closed_count c (Block d ∷ stack) = by (nat_le c d) (closed_count c stack)
  where
    by : (b : Bool) → block_count stack ≡ prefix_len (is_block_from c) stack + block_count (drop (prefix_len (is_block_from c) stack) stack)
        → suc (block_count stack) ≡ cond b (1 + prefix_len (is_block_from c) stack) 0 + block_count (drop (cond b (1 + prefix_len (is_block_from c) stack) 0) (Block d ∷ stack))
    by true e =
        subst (λ m. suc (block_count stack) ≡ m + block_count (drop m (Block d ∷ stack))) (sym (one-add (prefix_len (is_block_from c) stack))) (omega arith)
    by false e = omega arith

-- so many `}` close so many braces
closes : (n m at : ℕ) (p : Place) (rest : List Token) → is_enclosed (n + m) (replicate n (inserted kind.RightBrace at p) ++ rest) ≡ is_enclosed m rest
unfolding same
closes zero m at p rest = ap (λ k. is_enclosed k rest) (zero-add m)
closes (suc n) m at p rest =
    ap (λ k. is_enclosed k (inserted kind.RightBrace at p ∷ (replicate n (inserted kind.RightBrace at p) ++ rest))) (let e : suc n + m ≡ suc (n + m) = omega arith in e)
    ∙ closes n m at p rest

level_kept : (k : TokenKind) (n : ℕ) → is_inserted k ≡ false → level k n ≡ suc n
level_kept k n h = by (is_opening k) (is_closing k) (same k kind.Semicolon) h
  where
    by : (a b c : Bool) → (a || b || c) ≡ false → cond a (suc (suc n)) (cond b n (suc n)) ≡ suc n
    by true b c h = by_true b c h
      where
        by_true : (b c : Bool) → (true || b || c) ≡ false → suc (suc n) ≡ suc n
        by_true true c h = cc
        by_true false true h = cc
        by_true false false h = cc
    by false true true h = cc
    by false true false h = cc
    by false false c h = refl

-- what is put before a token keeps the ground, the count of braces, and puts few tokens
abbrev pub Good : List Enclosure → ℕ → Put → Type 0
Good stack k (Ok (put, after)) =
    Grounded after × ((rest : List Token) → is_enclosed (block_count stack) (put ++ rest) ≡ is_enclosed (block_count after) rest) × (length put + block_count after ≤ block_count stack + k)
Good stack k (Err fault) = Unit {0}

good_none : (stack : List Enclosure) → Grounded stack → Good stack 0 (Ok ([], stack))
good_none stack g = (g, λ rest. refl, omega arith)

good_more : (stack : List Enclosure) (k m : ℕ) (r : Put) → k ≤ m → Good stack k r → Good stack m r
good_more stack k m (Ok (put, after)) l (g, e, s) = (g, e, omega arith)
good_more stack k m (Err fault) l h = tt

good_opened : (t : Token) (stack : List Enclosure) → Grounded stack → Good stack 2 (block_opened t stack)
unfolding same
good_opened t stack (upper, e) = by (nat_lt (nearest stack) t.place.column)
  where
    by : (b : Bool) → Good stack 2 (cond b (Ok (inserted kind.LeftBrace t.start t.place ∷ [], Block t.place.column ∷ stack)) (Err (BadColumn t.place)))
    by true = (
      (Block t.place.column ∷ upper, ap (λ s. Block t.place.column ∷ s) e),
      λ rest. opens (block_count stack) (ap block_count e ∙ ground_count upper) rest,
      omega arith,
    )
      where
        opens : (n : ℕ) → n ≡ suc (block_count upper) → (rest : List Token) → is_enclosed n (inserted kind.LeftBrace t.start t.place ∷ rest) ≡ is_enclosed (suc n) rest
        opens zero f rest = absurd (omega arith)
        opens (suc n) f rest = refl
    by false = tt

good_bracket : (t : Token) (stack : List Enclosure) → Grounded stack → has_bracket stack ≡ true → Good stack 0 (bracket_closed t stack)
good_bracket t stack (upper, e) h = subst (λ s. has_bracket s ≡ true → Good s 0 (bracket_closed t s)) (sym e) by h
  where
    by : has_bracket (upper ++ Block 1 ∷ []) ≡ true → Good (upper ++ Block 1 ∷ []) 0 (bracket_closed t (upper ++ Block 1 ∷ []))
    by h =
        let s = upper ++ Block 1 ∷ [] in
        let n = prefix_len (is_block_from 0) s in
        let k = bracket_kept upper h in
        let total : block_count s ≡ n + block_count (drop n s) = closed_count 0 s in
        let size : length (replicate n (inserted kind.RightBrace t.start t.place)) ≡ n = length-replicate n (inserted kind.RightBrace t.start t.place) in (
          k.0,
          λ rest.
              ap (λ m. is_enclosed m (replicate n (inserted kind.RightBrace t.start t.place) ++ rest)) total
              ∙ closes n (block_count (drop n s)) t.start t.place rest
              ∙ ap (λ m. is_enclosed m rest) (sym k.1),
          omega (arith, k.1),
        )

good_separated : (t : Token) (stack : List Enclosure) (closed : List Token) (s : List Enclosure) → Grounded s
    → ((rest : List Token) → is_enclosed (block_count stack) (closed ++ rest) ≡ is_enclosed (block_count s) rest)
    → length closed + block_count s ≤ block_count stack → Good stack 1 (separated t closed s)
unfolding same
good_separated t stack closed [] g e l = (g, e, omega arith)
good_separated t stack closed (Bracket c ∷ s) g e l = (g, e, omega arith)
good_separated t stack closed (Block c ∷ s) g e l = by (eqb c t.place.column) (eqb (length closed) 0)
  where
    by : (a b : Bool) → Good stack 1 (cond a (Ok (closed ++ inserted kind.Semicolon t.start t.place ∷ [], Block c ∷ s)) (cond b (Ok (closed, Block c ∷ s)) (Err (BadColumn t.place))))
    by true b = (
      g,
      λ rest. ap (is_enclosed (block_count stack)) (append_assoc closed (inserted kind.Semicolon t.start t.place ∷ []) rest) ∙ e (inserted kind.Semicolon t.start t.place ∷ rest),
      omega (arith, length-append closed (inserted kind.Semicolon t.start t.place ∷ [])),
    )
    by false true = (g, e, omega arith)
    by false false = tt

good_aligned : (t : Token) (stack : List Enclosure) → Grounded stack → 0 < t.place.column → Good stack 1 (aligned t stack)
good_aligned t stack (upper, e) h = subst (λ s. Good s 1 (aligned t s)) (sym e) by
  where
    by : Good (upper ++ Block 1 ∷ []) 1 (aligned t (upper ++ Block 1 ∷ []))
    by =
        let s = upper ++ Block 1 ∷ [] in
        let n = prefix_len (is_block_from (suc t.place.column)) s in
        let total : block_count s ≡ n + block_count (drop n s) = closed_count (suc t.place.column) s in
        let size : length (replicate n (inserted kind.RightBrace t.start t.place)) ≡ n = length-replicate n (inserted kind.RightBrace t.start t.place) in
        good_separated t s (replicate n (inserted kind.RightBrace t.start t.place)) (drop n s) (ground_kept (suc t.place.column) upper (omega arith))
        (λ rest. ap (λ m. is_enclosed m (replicate n (inserted kind.RightBrace t.start t.place) ++ rest)) total ∙ closes n (block_count (drop n s)) t.start t.place rest)
        (omega arith)

good_closing : (t : Token) (other : List Enclosure → Put) (stack : List Enclosure) (k : ℕ) → Grounded stack → Good stack k (other stack) → Good stack k (closing t other stack)
good_closing t other stack k g h = by (is_closing_bracket t.kind) (has_bracket stack) refl
  where
    by : (a b : Bool) → has_bracket stack ≡ b → Good stack k (cond (a && b) (bracket_closed t stack) (other stack))
    by true true e = good_more stack 0 k (bracket_closed t stack) (omega arith) (good_bracket t stack g e)
    by true false e = h
    by false b e = h

good_then : (stack : List Enclosure) (a b : ℕ) (r : Put) (next : List Enclosure → Put) → Good stack a r → ((s : List Enclosure) → Grounded s → Good s b (next s)) → Good stack (a + b) (and_then r next)
good_then stack a b (Err fault) next h k = tt
good_then stack a b (Ok (put, s)) next (g, e, l) k = joined (next s) (k s g)
  where
    joined : (r : Put) → Good s b r → Good stack (a + b) (onto put r)
    joined (Err fault) m = tt
    joined (Ok (more, after)) (g', e', l') = (
      g',
      λ rest. ap (is_enclosed (block_count stack)) (append_assoc put more rest) ∙ e (more ++ rest) ∙ e' rest,
      omega (arith, length-append put more),
    )

pub good_before : (last : Option Token) (t : Token) (stack : List Enclosure) → Grounded stack → 0 < t.place.column → Good stack 3 (before last t stack)
good_before None t stack g h = by (eqb t.place.column 1)
  where
    by : (b : Bool) → Good stack 3 (cond b (Ok ([], stack)) (Err (BadColumn t.place)))
    by true = good_more stack 0 3 (Ok ([], stack)) (omega arith) (good_none stack g)
    by false = tt
good_before (Some last) t stack g h = by (opens_block last.kind) (eqb t.place.line last.place.line)
  where
    line : (b : Bool) (s : List Enclosure) → Grounded s → Good s 1 (cond b (Ok ([], s)) (aligned t s))
    line true s g = good_more s 0 1 (Ok ([], s)) (omega arith) (good_none s g)
    line false s g = good_aligned t s g h

    by : (a b : Bool) → Good stack 3 (cond a (and_then (block_opened t stack) (closing t (λ s. Ok ([], s)))) (closing t (λ s. cond b (Ok ([], s)) (aligned t s)) stack))
    by true b =
        good_then stack 2 1 (block_opened t stack) (closing t (λ s. Ok ([], s))) (good_opened t stack g)
        (λ s k. good_closing t (λ s. Ok ([], s)) s 1 k (good_more s 0 1 (Ok ([], s)) (omega arith) (good_none s k)))
    by false b =
        good_more stack 1 3 (closing t (λ s. cond b (Ok ([], s)) (aligned t s)) stack) (omega arith)
        (good_closing t (λ s. cond b (Ok ([], s)) (aligned t s)) stack 1 g (line b stack g))

behind_ground : (t : Token) (stack : List Enclosure) → Grounded stack → Grounded (behind t stack) × (block_count (behind t stack) ≡ block_count stack)
behind_ground t stack (upper, e) = by (is_opening_bracket t.kind)
  where
    by : (b : Bool) → Grounded (cond b (Bracket (nearest stack) ∷ stack) stack) × (block_count (cond b (Bracket (nearest stack) ∷ stack) stack) ≡ block_count stack)
    by true = ((Bracket (nearest stack) ∷ upper, ap (λ s. Bracket (nearest stack) ∷ s) e), refl)
    by false = ((upper, e), refl)

-- the braces of a list are closed, and it is short
abbrev pub Closed : ℕ → ℕ → Result (List Token) LexFault → Type 0
Closed open_ n r = IfOk r (λ ts. (is_enclosed open_ ts ≡ true) × (length ts ≤ open_ + 4 * n))

own_token : (n : ℕ) (t : Token) (rest : List Token) → 0 < n → is_inserted t.kind ≡ false → is_enclosed n (t ∷ rest) ≡ is_enclosed n rest
own_token zero t rest h k = absurd (omega arith)
own_token (suc n) t rest h k = ap (λ m. is_enclosed m rest) (level_kept t.kind n k)

grounded_some : (stack : List Enclosure) → Grounded stack → 0 < block_count stack
grounded_some stack (upper, e) = let h : block_count stack ≡ suc (block_count upper) = ap block_count e ∙ ground_count upper in omega arith

closed_end : (n at : ℕ) (p : Place) → is_enclosed n (replicate n (inserted kind.RightBrace at p)) ≡ true
unfolding same
closed_end zero at p = refl
closed_end (suc n) at p = closed_end n at p

pub laid_closed : (text : List ℕ) (end : Place) (stack : List Enclosure) (last : Option Token) (ts : List Token) → Grounded stack → All (IsWritten text) ts
    → Closed (block_count stack) (length ts) (laid text end stack last ts)
unfolding laid
laid_closed text end stack last [] g w = by (opens_last last)
  where
    by : (b : Bool) → Closed (block_count stack) 0 (cond b (Err (BadColumn end)) (Ok (replicate (block_count stack) (inserted kind.RightBrace (length text) end))))
    by true = tt
    by false =
        let size : length (replicate (block_count stack) (inserted kind.RightBrace (length text) end)) ≡ block_count stack = length-replicate (block_count stack) (inserted kind.RightBrace (length text) end) in
        (closed_end (block_count stack) (length text) end, omega arith)
laid_closed text end stack last (t ∷ ts) g w =
    joined (before last t stack) (good_before last t stack g (here.column))
    (λ s k. laid_closed text end (behind t s) (Some t) ts (behind_ground t s k).0 (λ i d l. w (suc i) d (omega arith)))
  where
    here : IsWritten text t
    here = w 0 t (omega arith)

    joined : (r : Put) → Good stack 3 r
        → ((s : List Enclosure) → Grounded s → Closed (block_count (behind t s)) (length ts) (laid text end (behind t s) (Some t) ts))
        → Closed (block_count stack) (suc (length ts)) (follow r t (λ s. laid text end (behind t s) (Some t) ts))
    joined (Err fault) h more = tt
    joined (Ok (put, s)) (k, e, l) more = after (laid text end (behind t s) (Some t) ts) (more s k)
      where
        same : block_count (behind t s) ≡ block_count s
        same = (behind_ground t s k).1

        after : (r : Result (List Token) LexFault) → Closed (block_count (behind t s)) (length ts) r → Closed (block_count stack) (suc (length ts)) (adds (put ++ t ∷ []) r)
        after (Err fault) h = tt
        after (Ok rest) (c, m) = (
          ap (is_enclosed (block_count stack)) (append_assoc put (t ∷ []) rest)
              ∙ e (t ∷ rest)
              ∙ own_token (block_count s) t rest (grounded_some s k) here.kind
              ∙ ap (λ n. is_enclosed n rest) (sym same)
              ∙ c,
          omega (arith, length-append put (t ∷ []), length-append (put ++ t ∷ []) rest, same),
        )

first_opens : (text : List ℕ) (end : Place) (tokens : List Token) → (first_brace text end tokens).kind ≡ kind.LeftBrace
first_opens text end [] = refl
first_opens text end (t ∷ ts) = refl

-- a layout's braces are balanced, and it is short
pub laid_whole : (text : List ℕ) (end : Place) (tokens : List Token) → All (IsWritten text) tokens
    → IfOk (laid_out text end tokens) (λ ts. IsWhole ts × (length ts ≤ 4 * length tokens + 2))
unfolding same
laid_whole text end tokens w = by (laid text end (Block 1 ∷ []) None tokens) (laid_closed text end (Block 1 ∷ []) None tokens ([], refl) w)
  where
    by : (r : Result (List Token) LexFault) → Closed 1 (length tokens) r → IfOk (adds (first_brace text end tokens ∷ []) r) (λ ts. IsWhole ts × (length ts ≤ 4 * length tokens + 2))
    by (Err fault) h = tt
    by (Ok ts) (c, l) = ((ap is_opening (first_opens text end tokens), c), omega arith)

module _ {Z : Type 0} (text : List ℕ) (end : Place) (tokens : List Token) (w : All (IsWritten text) tokens) where
  pub is_whole : (r : Result (Vec Token Z) LexFault) → Answers (laid_out text end tokens) r → IfOk r (λ v. IsWhole v.items)
  is_whole (Err fault) e = tt
  is_whole (Ok v) e = (subst (λ l. IfOk l (λ ts. IsWhole ts × (length ts ≤ 4 * length tokens + 2))) e (laid_whole text end tokens w)).0

  pub is_short : (r : Result (Vec Token Z) LexFault) → Answers (laid_out text end tokens) r → IfOk r (λ v. length v.items ≤ 4 * length tokens + 2)
  is_short (Err fault) e = tt
  is_short (Ok v) e = (subst (λ l. IfOk l (λ ts. IsWhole ts × (length ts ≤ 4 * length tokens + 2))) e (laid_whole text end tokens w)).1
