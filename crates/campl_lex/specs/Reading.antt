-- What stands at the front of a text and which tokens follow, as functions: the way from a text to what `Tokens` says of it.
use Rattle.std.specs.Prelude.{ℕ, zero, suc, ◌+◌, ◌-◌, not, ◌&&◌, ◌==◌, nat_lt, nat_le, if◌then◌else◌, List, [], ◌∷◌, length, take, Option, Some, None}
use Rattle.std.specs.Prelude.{slice_index_or, Result, Ok, Err}
use Rattle.std.specs.List.{prefix_len}
use Rattle.std.specs.Char.{is_ascii_digit}
use Rattle.campl_tree.specs.declared.place.Place.{Place}
use Rattle.campl_lex.specs.Limits.{longest_name, longest_text, greatest_number}
use Rattle.campl_lex.specs.declared.token.Token.{Token}
use Rattle.campl_lex.specs.declared.token.TokenKind.{TokenKind}
use Rattle.campl_lex.specs.declared.token.TokenKind.TheVariants.{Number, Text, Character}
use Rattle.campl_lex.specs.declared.spot.Spot.{Spot}
use Rattle.campl_lex.specs.declared.literal.Stop.{Stop}
use Rattle.campl_lex.specs.declared.literal.Stop.TheVariants as stop
use Rattle.campl_lex.specs.declared.literal.Body.{Body}
use Rattle.campl_lex.specs.declared.piece.Piece.{Piece}
use Rattle.campl_lex.specs.declared.fault.LexFault.{LexFault}
use Rattle.campl_lex.specs.declared.fault.LexFault.TheVariants.{BadCharacter, OpenString, BadEscape, NumberTooLarge, NameTooLong, Tab, TextTooLong}
use Rattle.campl_lex.specs.Spot.{past}
use Rattle.campl_lex.specs.Spelling.{begins_name, goes_on, number_of, is_single, is_double, is_triple, name_kind, symbol_kind}
use Rattle.campl_lex.specs.Meaning.{escape}
use Rattle.campl_lex.specs.Tokens.{begins_comment, is_white, is_quote}
use Rattle.campl_lex.specs.Layout.{adds}

-- the character at an index, 0 past the end
abbrev pub peek : ℕ → List ℕ → ℕ
peek i cs = slice_index_or cs i 0

-- how many characters an escape has, if there is one
abbrev pub length_of : Option (ℕ × ℕ) → ℕ
length_of None = 0
length_of (Some e) = e.1

-- the length of the escape behind a backslash; 0 where it is none
abbrev pub escape_len : List ℕ → ℕ
escape_len cs = length_of (escape cs)

-- why a literal stops before these characters, if it does
abbrev pub stop_of : ℕ → List ℕ → Option Stop
stop_of quote [] = Some stop.LineEnd
stop_of quote (c ∷ cs) =
    if c == 9 then Some stop.Tab
    else (if c == 10 then Some stop.LineEnd
    else (if c == quote then Some stop.Quote
    else (if c == 92 && escape_len cs == 0 then Some stop.Backslash else None)))

-- how many characters behind c belong to its escape
abbrev pub tail_len : ℕ → List ℕ → ℕ
tail_len c cs = if c == 92 then escape_len cs else 0

-- how many characters spell the next one of a literal
abbrev pub item_len : List ℕ → ℕ
item_len [] = 1
item_len (c ∷ cs) = tail_len c cs + 1

abbrev pub longer : ℕ → ℕ → Body → Body
longer length count body = record { stop = body.stop; length = length + body.length; count = count + body.count }

abbrev pub stopped : Option Stop → Body → Body
stopped (Some why) body = record { stop = why; length = 0; count = 0 }
stopped None body = body

-- what stands in a literal up to where it stops, with some characters still to skip
abbrev pub scan : ℕ → ℕ → List ℕ → Body
scan quote skip [] = record { stop = stop.LineEnd; length = 0; count = 0 }
scan quote (suc n) (c ∷ cs) = longer 1 0 (scan quote n cs)
scan quote zero (c ∷ cs) = stopped (stop_of quote (c ∷ cs)) (longer 1 1 (scan quote (tail_len c cs) cs))

abbrev pub right : Place → ℕ → Place
right p n = record { line = p.line; column = p.column + n }

abbrev pub closed_literal : Place → ℕ → Body → Result Piece LexFault
closed_literal p quote body =
    if quote == 39
    then (if body.count == 1 then Ok (record { kind = Some Character; length = body.length + 2 }) else Err (OpenString p))
    else (if nat_lt longest_text body.count then Err (TextTooLong p) else Ok (record { kind = Some Text; length = body.length + 2 }))

abbrev pub literal_by : Stop → Place → ℕ → Body → Result Piece LexFault
literal_by stop.Tab p quote body = Err (Tab (right p (body.length + 1)))
literal_by stop.Backslash p quote body = Err (BadEscape (right p (body.length + 1)))
literal_by stop.LineEnd p quote body = Err (OpenString p)
literal_by stop.Quote p quote body = closed_literal p quote body

-- the literal behind a quote
abbrev pub literal : Place → ℕ → List ℕ → Result Piece LexFault
literal p quote cs = let body = scan quote 0 cs in literal_by body.stop p quote body

-- a word that is a name, or digits
abbrev pub name_piece : Place → List ℕ → Result Piece LexFault
name_piece p w = if nat_lt longest_name (length w) then Err (NameTooLong p) else Ok (record { kind = Some (name_kind w); length = length w })

abbrev pub number_piece : Place → List ℕ → Result Piece LexFault
number_piece p w = if nat_le (number_of w) greatest_number then Ok (record { kind = Some Number; length = length w }) else Err (NumberTooLarge p)

-- the length of the longest symbol; 0 where it is none
abbrev pub symbol_len : ℕ → List ℕ → ℕ
symbol_len a cs = if is_triple a (peek 0 cs) (peek 1 cs) then 3 else (if is_double a (peek 0 cs) then 2 else (if is_single a then 1 else 0))

abbrev pub symbol_piece : Place → List ℕ → Result Piece LexFault
symbol_piece p [] = Err (BadCharacter p)
symbol_piece p (c ∷ cs) = let n = symbol_len c cs in if n == 0 then Err (BadCharacter p) else Ok (record { kind = Some (symbol_kind (take n (c ∷ cs))); length = n })

abbrev pub blank : ℕ → Piece
blank n = record { kind = None; length = n }

-- what stands at the front of a text: white space or a comment, without a kind; a token; or a fault
unfoldable pub piece : Place → List ℕ → Result Piece LexFault
piece p [] = Err (BadCharacter p)
piece p (c ∷ cs) =
    if c == 9 then Err (Tab p)
    else (if is_white c cs then Ok (blank 1)
    else (if begins_comment (c ∷ cs) then Ok (blank (prefix_len (λ x. not (x == 10)) cs + 1))
    else (if begins_name c then name_piece p (c ∷ take (prefix_len goes_on cs) cs)
    else (if is_ascii_digit c then number_piece p (c ∷ take (prefix_len is_ascii_digit cs) cs)
    else (if is_quote c then literal p c cs
    else symbol_piece p (c ∷ cs))))))

-- the token of a piece, if it is one
abbrev pub tokens_of : Option TokenKind → Spot → Spot → List Token
tokens_of None s t = []
tokens_of (Some kind) s t = record { kind = kind; start = s.at; stop = t.at; place = s.place } ∷ []

abbrev pub reads : Result Piece LexFault → Spot → List ℕ → (ℕ → Spot → Result (List Token) LexFault) → Result (List Token) LexFault
reads (Ok piece) s text next = let t = past s (take piece.length text) in adds (tokens_of piece.kind s t) (next (piece.length - 1) t)
reads (Err fault) s text next = Err fault

-- the tokens of a text, with some characters still to skip before its spot
unfoldable pub lexed : ℕ → Spot → List ℕ → Result (List Token) LexFault
lexed skip s [] = Ok []
lexed (suc n) s (c ∷ cs) = lexed n s cs
lexed zero s (c ∷ cs) = reads (piece s.place (c ∷ cs)) s (c ∷ cs) (λ n t. lexed n t cs)
