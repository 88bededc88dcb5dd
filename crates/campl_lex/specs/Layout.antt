-- Where layout puts `{`, `}` and `;`, by its rules: a function from tokens and the end's place to a list of tokens or the first bad column.
use Rattle.std.specs.Prelude.{◌≡◌, ℕ, zero, suc, ◌≤◌, Bool, true, false, ◌&&◌, ◌||◌, ◌==◌, nat_lt, ◌<◌, if◌then◌else◌, List, [], ◌∷◌, ◌++◌, length}
use Rattle.std.specs.Prelude.{drop, replicate, slice_range, Option, Some, None, Result, Ok, Err, MatchResult, ◌≢◌, Vec}
use Rattle.std.specs.List.{prefix_len}
use Rattle.campl_tree.specs.declared.place.Place.{Place}
use Rattle.campl_lex.specs.declared.token.Token.{Token}
use Rattle.campl_lex.specs.declared.token.TokenKind.{TokenKind}
use Rattle.campl_lex.specs.declared.token.TokenKind.TheVariants as k
use Rattle.campl_lex.specs.declared.fault.LexFault.{LexFault}
use Rattle.campl_lex.specs.declared.fault.LexFault.TheVariants.{BadColumn, OutOfMemory}
use Rattle.campl_lex.specs.declared.stack.Enclosure.{Enclosure}
use Rattle.campl_lex.specs.declared.stack.Enclosure.TheVariants.{Block, Bracket}
use Rattle.campl_lex.specs.Kinds.{same}
use Rattle.campl_lex.specs.Enclosure.{block_count, is_block_from, has_bracket, nearest}

-- a token's lexeme: the source's bytes from its start to before its stop
abbrev pub lexeme_of : List ℕ → Token → List ℕ
lexeme_of text t = slice_range text t.start t.stop

-- the braces that layout inserts, and all kinds that it does
abbrev pub is_opening : TokenKind → Bool
is_opening kind = same kind k.LeftBrace

abbrev pub is_closing : TokenKind → Bool
is_closing kind = same kind k.RightBrace

abbrev pub is_inserted : TokenKind → Bool
is_inserted kind = is_opening kind || is_closing kind || same kind k.Semicolon

-- the words behind which a block begins
abbrev pub opens_block : TokenKind → Bool
opens_block k.Where = true
opens_block k.Of = true
opens_block k.Do = true
opens_block k.As = true
opens_block k.Race = true
opens_block kind = false

-- the brackets that enclose lines
abbrev pub is_opening_bracket : TokenKind → Bool
is_opening_bracket k.LeftParen = true
is_opening_bracket k.LeftBracket = true
is_opening_bracket kind = false

abbrev pub is_closing_bracket : TokenKind → Bool
is_closing_bracket k.RightParen = true
is_closing_bracket k.RightBracket = true
is_closing_bracket kind = false

-- a token as layout takes it: it lies in the text, columns count from 1, and it isn't one that layout inserts
pub record IsWritten (text : List ℕ) (t : Token) : Type 0 where
  pub ordered : t.start ≤ t.stop
  pub within : t.stop ≤ length text
  pub column : 0 < t.place.column
  pub kind : is_inserted t.kind ≡ false

-- an inserted token: it has no text, and the place of the token, or of the end, before which it stands
abbrev pub inserted : TokenKind → ℕ → Place → Token
inserted kind at place = record { kind = kind; start = at; stop = at; place = place }

-- the tokens that are put before a token, and what is open then; or a bad column
abbrev pub Put : Type 0
Put = Result (List Token × List Enclosure) LexFault

-- the same with tokens put before
abbrev pub onto : List Token → Put → Put
onto before (Ok (put, stack)) = Ok (before ++ put, stack)
onto before (Err fault) = Err fault

-- first the one, then what the other puts where that is open
abbrev pub and_then : Put → (List Enclosure → Put) → Put
and_then (Ok (put, stack)) next = onto put (next stack)
and_then (Err fault) next = Err fault

-- the token behind a word that opens a block: `{` before it, and a block of its column, which must be greater than the nearest block's
abbrev pub block_opened : Token → List Enclosure → Put
block_opened t stack =
    if nat_lt (nearest stack) t.place.column
    then Ok (inserted k.LeftBrace t.start t.place ∷ [], Block t.place.column ∷ stack)
    else Err (BadColumn t.place)

-- `}` for the topmost blocks of this column or a greater one
abbrev pub blocks_closed : ℕ → Token → List Enclosure → List Token × List Enclosure
blocks_closed column t stack =
    let n = prefix_len (is_block_from column) stack in
    (replicate n (inserted k.RightBrace t.start t.place), drop n stack)

-- a closing bracket: blocks above the topmost bracket are closed, and that bracket
abbrev pub bracket_closed : Token → List Enclosure → Put
bracket_closed t stack = let p = blocks_closed 0 t stack in Ok (p.0, drop 1 p.1)

-- the first token of a line, where blocks of greater columns are closed: `;` in the column of a block
abbrev pub separated : Token → List Token → List Enclosure → Put
separated t closed (Block column ∷ stack) =
    if column == t.place.column then Ok (closed ++ inserted k.Semicolon t.start t.place ∷ [], Block column ∷ stack)
    else (if length closed == 0 then Ok (closed, Block column ∷ stack) else Err (BadColumn t.place))
separated t closed stack = Ok (closed, stack)

-- the first token of a line
abbrev pub aligned : Token → List Enclosure → Put
aligned t stack = let p = blocks_closed (suc t.place.column) t stack in separated t p.0 p.1

-- a closing bracket closes what a bracket on the stack allows; another token is judged by `other`
abbrev pub closing : Token → (List Enclosure → Put) → List Enclosure → Put
closing t other stack = if is_closing_bracket t.kind && has_bracket stack then bracket_closed t stack else other stack

-- what is put before a token behind another one; the first token of all must stand in column 1
abbrev pub before : Option Token → Token → List Enclosure → Put
before None t stack = if t.place.column == 1 then Ok ([], stack) else Err (BadColumn t.place)
before (Some last) t stack =
    if opens_block last.kind
    then and_then (block_opened t stack) (closing t (λ s. Ok ([], s)))
    else closing t (λ s. if t.place.line == last.place.line then Ok ([], s) else aligned t s) stack

-- what is open behind a token
abbrev pub behind : Token → List Enclosure → List Enclosure
behind t stack = if is_opening_bracket t.kind then Bracket (nearest stack) ∷ stack else stack

-- a list with tokens put before
abbrev pub adds : List Token → Result (List Token) LexFault → Result (List Token) LexFault
adds front (Ok rest) = Ok (front ++ rest)
adds front (Err fault) = Err fault

-- the token before, if there is one, opens a block
abbrev pub opens_last : Option Token → Bool
opens_last None = false
opens_last (Some t) = opens_block t.kind

-- the end: no block is still to open, and all blocks are closed
abbrev pub ended : List ℕ → Place → List Enclosure → Option Token → Result (List Token) LexFault
ended text end stack last =
    if opens_last last then Err (BadColumn end)
    else Ok (replicate (block_count stack) (inserted k.RightBrace (length text) end))

-- what is put before a token, the token, and what follows where that is open
abbrev pub follow : Put → Token → (List Enclosure → Result (List Token) LexFault) → Result (List Token) LexFault
follow (Ok (put, stack)) t rest = adds (put ++ t ∷ []) (rest stack)
follow (Err fault) t rest = Err fault

-- the tokens with what layout puts between them, where `stack` is open and `last` is the token before
unfoldable pub laid : List ℕ → Place → List Enclosure → Option Token → List Token → Result (List Token) LexFault
laid text end stack last [] = ended text end stack last
laid text end stack last (t ∷ ts) = follow (before last t stack) t (λ s. laid text end (behind t s) (Some t) ts)

-- the source's own `{`, before the first token or the end
abbrev pub first_brace : List ℕ → Place → List Token → Token
first_brace text end [] = inserted k.LeftBrace (length text) end
first_brace text end (t ∷ ts) = inserted k.LeftBrace t.start t.place

-- the layout of a source: its own block has column 1
abbrev pub laid_out : List ℕ → Place → List Token → Result (List Token) LexFault
laid_out text end tokens = adds (first_brace text end tokens ∷ []) (laid text end (Block 1 ∷ []) None tokens)

-- the list that is wanted, or the fault; want of memory is always allowed
abbrev pub Answers : {Z : Type 0} → Result (List Token) LexFault → Result (Vec Token Z) LexFault → Type 0
Answers wanted result = MatchResult result (λ tokens. wanted ≡ Ok tokens.items) (λ fault. fault ≢ OutOfMemory → wanted ≡ Err fault)

-- what a step of layout leaves: its tokens and what is open; want of memory is always allowed
abbrev pub Puts : Put → List Token → Result (Unit {0}) LexFault → List Token → List Enclosure → Type 0
Puts put out result new stack = MatchResult result (λ _. onto out put ≡ Ok (new, stack)) (λ fault. fault ≢ OutOfMemory → put ≡ Err fault)

-- how many braces are open behind a token, where n + 1 were
abbrev pub level : TokenKind → ℕ → ℕ
level kind n = if is_opening kind then suc (suc n) else (if is_closing kind then n else suc n)

-- n braces are open before these tokens, which close them all, the outermost with their last
abbrev pub is_enclosed : ℕ → List Token → Bool
is_enclosed zero [] = true
is_enclosed zero (t ∷ ts) = false
is_enclosed (suc n) [] = false
is_enclosed (suc n) (t ∷ ts) = is_enclosed (level t.kind n) ts

-- the tokens begin with `{`, their braces are balanced, and the last closes the first
abbrev pub IsWhole : List Token → Type 0
IsWhole [] = ⊥
IsWhole (t ∷ ts) = (is_opening t.kind ≡ true) × (is_enclosed 1 ts ≡ true)
