-- What layout answers on the tokens of a text is cut out of it between characters.
use Rattle.std.proofs.Common.{◌≡◌, ℕ, suc, ◌+◌, ◌≤◌, Bool, true, false, cond, ◌&&◌, eqb, nat_lt, List, [], ◌∷◌, ◌++◌, length, drop, replicate, Option}
use Rattle.std.proofs.Common.{Some, None, Result, Ok, Err, IfOk, IsUtf8, IsCharBoundary, chars, encode_utf8_all, refl, sym, ap, ◌∙◌, subst, arith}
use Rattle.std.proofs.Common.{length-drop, drop-drop}
use Rattle.std.specs.List.{All, prefix_len}
use lib.Utf8.{scalar, scalars}
use Rattle.std.proofs.lemmas.List.{drop_at}
use Rattle.std.proofs.lemmas.List.Elements.{All-nil, All-cons, All-head, All-tail, All-append, All-replicate, All-push}
use Rattle.std.proofs.lemmas.Str.{encodes-append, IsCharBoundary-from_drop, IsCharBoundary-end, encodes-chars, scalars-chars}
use Rattle.campl_tree.specs.declared.place.Place.{Place}
use Rattle.campl_lex.specs.declared.token.Token.{Token}
use Rattle.campl_lex.specs.declared.token.TokenKind.{TokenKind}
use Rattle.campl_lex.specs.declared.token.TokenKind.TheVariants as kind
use Rattle.campl_lex.specs.declared.fault.LexFault.{LexFault}
use Rattle.campl_lex.specs.declared.fault.LexFault.TheVariants.{BadColumn}
use Rattle.campl_lex.specs.declared.spot.Spot.{Spot}
use Rattle.campl_lex.specs.declared.stack.Enclosure.{Enclosure}
use Rattle.campl_lex.specs.declared.stack.Enclosure.TheVariants.{Block, Bracket}
use Rattle.campl_lex.specs.Enclosure.{is_block_from, has_bracket, nearest, block_count}
use Rattle.campl_lex.specs.Spot.{bytes, first_spot}
use Rattle.campl_lex.specs.Tokens.{Lexes, token}
use Rattle.campl_lex.specs.Tokens as says
use Rattle.campl_lex.specs.Layout.{Put, onto, and_then, block_opened, blocks_closed, bracket_closed, separated, aligned, closing, before, behind}
use Rattle.campl_lex.specs.Layout.{follow, adds, laid, laid_out, first_brace, inserted, opens_block, is_closing_bracket, opens_last}
use Rattle.campl_lex.proofs.Spots.{bytes-encodes, bytes-append}
use Rattle.campl_terminals.specs.Terminals.{IsCut}

-- ---- tokens that are read

last_scalars : (w rest : List ℕ) → scalars (w ++ rest) ≡ true → scalars rest ≡ true
last_scalars [] rest h = h
last_scalars (c ∷ w) rest h = last_scalars w rest (by (scalar c) h)
  where
    by : (b : Bool) → (b && scalars (w ++ rest)) ≡ true → scalars (w ++ rest) ≡ true
    by true e = e
    by false e = cc

module _ (source : List ℕ) where
  joined : (t : Token) (r : Result (List Token) LexFault) (ts : List Token) → IsCut source t → adds (t ∷ []) r ≡ Ok ts
      → ((us : List Token) → r ≡ Ok us → All (IsCut source) us) → All (IsCut source) ts
  joined t (Ok us) ts here e more = let h : t ∷ us ≡ ts = cc in subst (All (IsCut source)) h (All-cons (IsCut source) t us here (more us refl))
  joined t (Err fault) ts here e more = cc

  -- what follows some characters of a text
  rest_is : (at : ℕ) (w rest : List ℕ) → drop at source ≡ encode_utf8_all (w ++ rest) → drop (at + bytes w) source ≡ encode_utf8_all rest
  rest_is at w rest here =
      sym (drop-drop (bytes w) at source)
      ∙ ap (drop (bytes w)) (here ∙ encodes-append w rest)
      ∙ drop_at (encode_utf8_all w) (encode_utf8_all rest) (bytes w) (sym (bytes-encodes w))

  within : (at : ℕ) (w rest : List ℕ) → at ≤ length source → drop at source ≡ encode_utf8_all (w ++ rest) → at + bytes w ≤ length source
  within at w rest l here =
      let left : length (drop at source) ≡ bytes (w ++ rest) = ap length here ∙ sym (bytes-encodes (w ++ rest)) in
      let parts : bytes (w ++ rest) ≡ bytes w + bytes rest = bytes-append w rest in
      omega (arith, length-drop at source)

  edge : (at : ℕ) (text : List ℕ) → at ≤ length source → drop at source ≡ encode_utf8_all text → scalars text ≡ true → IsCharBoundary source at
  edge at text l here valid = IsCharBoundary-from_drop source at l (text, (valid, sym here))

  lexed_cut : {s : Spot} {text : List ℕ} {r : Result (List Token) LexFault} → Lexes s text r → s.at ≤ length source → drop s.at source ≡ encode_utf8_all text
      → scalars text ≡ true → (ts : List Token) → r ≡ Ok ts → All (IsCut source) ts
  lexed_cut says.ends l here valid ts e = subst (All (IsCut source)) (let f : [] ≡ ts = cc in f) (All-nil (IsCut source))
  lexed_cut (says.skips {s} w rest {r} b d) l here valid ts e = lexed_cut d (within s.at w rest l here) (rest_is s.at w rest here) (last_scalars w rest valid) ts e
  lexed_cut (says.takes {s} w rest {r} t d) l here valid ts e =
      let own : IsCut source (token s w) = record {
        ordered = omega arith;
        starts = edge s.at (w ++ rest) l here valid;
        stops = edge (s.at + bytes w) rest (within s.at w rest l here) (rest_is s.at w rest here) (last_scalars w rest valid);
      } in
      joined (token s w) r ts own e (lexed_cut d (within s.at w rest l here) (rest_is s.at w rest here) (last_scalars w rest valid))
  lexed_cut (says.fails o) l here valid ts e = cc

-- ---- tokens that layout puts

module _ (text : List ℕ) where
  inserted_cut : (k : TokenKind) (at : ℕ) (place : Place) → IsCharBoundary text at → IsCut text (inserted k at place)
  inserted_cut k at place h = record { ordered = omega arith; starts = h; stops = h }

  -- all that is put is cut
  abbrev Cuts : Put → Type 0
  Cuts r = IfOk r (λ p. All (IsCut text) p.0)

  onto_cut : (front : List Token) (r : Put) → All (IsCut text) front → Cuts r → Cuts (onto front r)
  onto_cut front (Ok (put, stack)) f h = All-append (IsCut text) front put f h
  onto_cut front (Err fault) f h = tt

  then_cut : (r : Put) (next : List Enclosure → Put) → Cuts r → ((s : List Enclosure) → Cuts (next s)) → Cuts (and_then r next)
  then_cut (Ok (put, stack)) next h more = onto_cut put (next stack) h (more stack)
  then_cut (Err fault) next h more = tt

  separated_cut : (t : Token) → IsCharBoundary text t.start → (closed : List Token) (stack : List Enclosure) → All (IsCut text) closed → Cuts (separated t closed stack)
  separated_cut t h closed [] c = c
  separated_cut t h closed (Bracket column ∷ stack) c = c
  separated_cut t h closed (Block column ∷ stack) c = by (eqb column t.place.column) (eqb (length closed) 0)
    where
      by : (a b : Bool)
          → Cuts (cond a (Ok (closed ++ inserted kind.Semicolon t.start t.place ∷ [], Block column ∷ stack)) (cond b (Ok (closed, Block column ∷ stack)) (Err (BadColumn t.place))))
      by true b = All-push (IsCut text) closed (inserted kind.Semicolon t.start t.place) c (inserted_cut kind.Semicolon t.start t.place h)
      by false true = c
      by false false = tt

  module _ (t : Token) (h : IsCharBoundary text t.start) where
    opened_cut : (stack : List Enclosure) → Cuts (block_opened t stack)
    opened_cut stack = by (nat_lt (nearest stack) t.place.column)
      where
        by : (b : Bool) → Cuts (cond b (Ok (inserted kind.LeftBrace t.start t.place ∷ [], Block t.place.column ∷ stack)) (Err (BadColumn t.place)))
        by true = All-cons (IsCut text) (inserted kind.LeftBrace t.start t.place) [] (inserted_cut kind.LeftBrace t.start t.place h) (All-nil (IsCut text))
        by false = tt

    braces_cut : (n : ℕ) → All (IsCut text) (replicate n (inserted kind.RightBrace t.start t.place))
    braces_cut n = All-replicate (IsCut text) n (inserted kind.RightBrace t.start t.place) (inserted_cut kind.RightBrace t.start t.place h)

    aligned_cut : (stack : List Enclosure) → Cuts (aligned t stack)
    aligned_cut stack = let p = blocks_closed (suc t.place.column) t stack in separated_cut t h p.0 p.1 (braces_cut (prefix_len (is_block_from (suc t.place.column)) stack))

    closing_cut : (other : List Enclosure → Put) → ((s : List Enclosure) → Cuts (other s)) → (stack : List Enclosure) → Cuts (closing t other stack)
    closing_cut other more stack = by (is_closing_bracket t.kind) (has_bracket stack)
      where
        by : (a b : Bool) → Cuts (cond (a && b) (bracket_closed t stack) (other stack))
        by true true = braces_cut (prefix_len (is_block_from 0) stack)
        by true false = more stack
        by false b = more stack

    before_cut : (last : Option Token) (stack : List Enclosure) → Cuts (before last t stack)
    before_cut None stack = by (eqb t.place.column 1)
      where
        by : (b : Bool) → Cuts (cond b (Ok ([], stack)) (Err (BadColumn t.place)))
        by true = All-nil (IsCut text)
        by false = tt
    before_cut (Some last) stack = by (opens_block last.kind) (eqb t.place.line last.place.line)
      where
        line : (b : Bool) (s : List Enclosure) → Cuts (cond b (Ok ([], s)) (aligned t s))
        line true s = All-nil (IsCut text)
        line false s = aligned_cut s

        by : (a b : Bool) → Cuts (cond a (and_then (block_opened t stack) (closing t (λ s. Ok ([], s)))) (closing t (λ s. cond b (Ok ([], s)) (aligned t s)) stack))
        by true b = then_cut (block_opened t stack) (closing t (λ s. Ok ([], s))) (opened_cut stack) (closing_cut (λ s. Ok ([], s)) (λ s. All-nil (IsCut text)))
        by false b = closing_cut (λ s. cond b (Ok ([], s)) (aligned t s)) (line b) stack

  module _ (end : Place) where
    tokens_cut : (stack : List Enclosure) (last : Option Token) (ts : List Token) → All (IsCut text) ts → IfOk (laid text end stack last ts) (All (IsCut text))
    unfolding laid
    tokens_cut stack last [] w = by (opens_last last)
      where
        by : (b : Bool) → IfOk (cond b (Err (BadColumn end)) (Ok (replicate (block_count stack) (inserted kind.RightBrace (length text) end)))) (All (IsCut text))
        by true = tt
        by false =
            All-replicate (IsCut text) (block_count stack) (inserted kind.RightBrace (length text) end) (inserted_cut kind.RightBrace (length text) end (IsCharBoundary-end text))
    tokens_cut stack last (t ∷ ts) w =
        by (before last t stack) (before_cut t own.starts last stack) (λ s. tokens_cut (behind t s) (Some t) ts (All-tail (IsCut text) t ts w))
      where
        own : IsCut text t
        own = All-head (IsCut text) t ts w

        after : (put : List Token) (r : Result (List Token) LexFault) → All (IsCut text) put → IfOk r (All (IsCut text)) → IfOk (adds (put ++ t ∷ []) r) (All (IsCut text))
        after put (Ok rest) p h = All-append (IsCut text) (put ++ t ∷ []) rest (All-push (IsCut text) put t p own) h
        after put (Err fault) p h = tt

        by : (r : Put) → Cuts r → ((s : List Enclosure) → IfOk (laid text end (behind t s) (Some t) ts) (All (IsCut text)))
            → IfOk (follow r t (λ s. laid text end (behind t s) (Some t) ts)) (All (IsCut text))
        by (Err fault) h more = tt
        by (Ok (put, s)) h more = after put (laid text end (behind t s) (Some t) ts) h (more s)

    first_cut : (tokens : List Token) → IsUtf8 text → All (IsCut text) tokens → IsCut text (first_brace text end tokens)
    first_cut [] u w = inserted_cut kind.LeftBrace (length text) end (IsCharBoundary-end text)
    first_cut (t ∷ ts) u w = let own : IsCut text t = All-head (IsCut text) t ts w in inserted_cut kind.LeftBrace t.start t.place own.starts

-- All that layout answers on the tokens of a text is cut out of it.
pub laid_cut : (text : List ℕ) (end : Place) (tokens found : List Token) → IsUtf8 text → Lexes first_spot (chars text) (Ok tokens) → laid_out text end tokens ≡ Ok found
    → All (IsCut text) found
laid_cut text end tokens found u d e =
    let w : All (IsCut text) tokens = lexed_cut text d (omega arith) (sym (encodes-chars text u)) (scalars-chars text u) tokens refl in
    joined text (first_brace text end tokens) (laid text end (Block 1 ∷ []) None tokens) found (first_cut text end tokens u w) e
    (λ us is. subst (λ r. IfOk r (All (IsCut text))) is (tokens_cut text end (Block 1 ∷ []) None tokens w))
