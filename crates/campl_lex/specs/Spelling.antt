-- How names, numbers, reserved words and symbols are spelled, and what kinds of tokens they are.
-- A character is its code: 34 is ", 39 ', 48 to 57 the digits, 65 A, 90 Z, 95 _.
use Rattle.std.specs.Prelude.{ℕ, ◌+◌, ◌-◌, ◌*◌, Bool, false, ◌||◌, ◌&&◌, ◌==◌, if◌then◌else◌, List, [], ◌∷◌, codes, Option, Some, None, is_some}
use Rattle.std.specs.List.{list_all, fold}
use Rattle.std.specs.Option.{unwrap_or}
use Rattle.std.specs.Str.{bytes_eq}
use Rattle.std.specs.Char.{is_ascii_digit, is_ascii_uppercase}
use Rattle.unicode_ident.specs.Ident.{is_xid_start, is_xid_continue}
use Rattle.campl_lex.specs.declared.token.TokenKind.{TokenKind}
use Rattle.campl_lex.specs.declared.token.TokenKind.TheVariants as k

-- a name may begin with the character
abbrev pub begins_name : ℕ → Bool
begins_name c = is_xid_start c || c == 95

-- a name may go on with the character
abbrev pub goes_on : ℕ → Bool
goes_on c = is_xid_continue c || c == 39

-- the characters are a name
abbrev pub is_name : List ℕ → Bool
is_name [] = false
is_name (c ∷ cs) = begins_name c && list_all goes_on cs

-- the characters are digits
abbrev pub is_number : List ℕ → Bool
is_number [] = false
is_number (c ∷ cs) = is_ascii_digit c && list_all is_ascii_digit cs

-- the number that digits are
abbrev pub number_of : List ℕ → ℕ
number_of w = fold (λ n d. n * 10 + (d - 48)) 0 w

-- ---- reserved words and symbols, each with its kind

-- the reserved words of declarations and of blocks
abbrev pub declaration_words : List (List ℕ × TokenKind)
declaration_words =
    (codes "data", k.Data) ∷ (codes "protocol", k.Protocol) ∷ (codes "coprotocol", k.Coprotocol)
    ∷ (codes "fun", k.Fun) ∷ (codes "proc", k.Proc) ∷ (codes "where", k.Where) ∷ (codes "of", k.Of)
    ∷ (codes "do", k.Do) ∷ (codes "as", k.As) ∷ (codes "race", k.Race) ∷ []

-- those of actions
abbrev pub action_words : List (List ℕ × TokenKind)
action_words =
    (codes "plug", k.Plug) ∷ (codes "put", k.Put) ∷ (codes "get", k.Get) ∷ (codes "hput", k.Hput)
    ∷ (codes "hcase", k.Hcase) ∷ (codes "split", k.Split) ∷ (codes "into", k.Into) ∷ (codes "fork", k.Fork)
    ∷ (codes "close", k.Close) ∷ (codes "halt", k.Halt) ∷ (codes "on", k.On) ∷ (codes "neg", k.Neg) ∷ []

-- those of expressions
abbrev pub expression_words : List (List ℕ × TokenKind)
expression_words =
    (codes "case", k.Case) ∷ (codes "if", k.If) ∷ (codes "then", k.Then) ∷ (codes "else", k.Else)
    ∷ (codes "div", k.Div) ∷ (codes "mod", k.Mod) ∷ (codes "code", k.Code) ∷ (codes "char", k.Char)
    ∷ (codes "True", k.True) ∷ (codes "False", k.False) ∷ []

-- those of types
abbrev pub type_words : List (List ℕ × TokenKind)
type_words =
    (codes "Int", k.IntType) ∷ (codes "Char", k.CharType) ∷ (codes "Bool", k.BoolType) ∷ (codes "Put", k.PutType)
    ∷ (codes "Get", k.GetType) ∷ (codes "Neg", k.NegType) ∷ (codes "TopBot", k.TopBot) ∷ []

-- the symbols of one character
abbrev pub singles : List (List ℕ × TokenKind)
singles =
    (codes "(", k.LeftParen) ∷ (codes ")", k.RightParen) ∷ (codes "[", k.LeftBracket) ∷ (codes "]", k.RightBracket)
    ∷ (codes ",", k.Comma) ∷ (codes "|", k.Bar) ∷ (codes "=", k.SingleEquals) ∷ (codes "<", k.Less)
    ∷ (codes ">", k.Greater) ∷ (codes "+", k.Plus) ∷ (codes "-", k.Minus) ∷ (codes "*", k.Star) ∷ (codes ":", k.Colon) ∷ []

-- those of two
abbrev pub doubles : List (List ℕ × TokenKind)
doubles =
    (codes "::", k.DoubleColon) ∷ (codes "=>", k.FatArrow) ∷ (codes "->", k.Arrow) ∷ (codes "==", k.Equal)
    ∷ (codes "/=", k.Different) ∷ (codes "<=", k.AtMost) ∷ (codes ">=", k.AtLeast) ∷ (codes "&&", k.And)
    ∷ (codes "||", k.Or) ∷ (codes "++", k.Append) ∷ []

-- those of three
abbrev pub triples : List (List ℕ × TokenKind)
triples =
    (codes "|=|", k.Identity) ∷ (codes "(*)", k.Tensor) ∷ (codes "(+)", k.Par) ∷ []

-- the kind that a spelling has in a table, if it stands there
abbrev pub kind_in : List (List ℕ × TokenKind) → List ℕ → Option TokenKind
kind_in [] w = None
kind_in (e ∷ table) w = if bytes_eq w e.0 then Some e.1 else kind_in table w

-- the one, or else the other
abbrev pub or_else : Option TokenKind → Option TokenKind → Option TokenKind
or_else (Some kind) other = Some kind
or_else None other = other

-- the kind of a reserved word, if it is one
unfoldable pub reserved : List ℕ → Option TokenKind
reserved w = or_else (kind_in declaration_words w) (or_else (kind_in action_words w) (or_else (kind_in expression_words w) (kind_in type_words w)))

-- the kind of a symbol, if it is one
abbrev pub symbol : List ℕ → Option TokenKind
symbol (a ∷ []) = kind_in singles (a ∷ [])
symbol (a ∷ b ∷ []) = kind_in doubles (a ∷ b ∷ [])
symbol (a ∷ b ∷ c ∷ []) = kind_in triples (a ∷ b ∷ c ∷ [])
symbol w = None

-- the same as tests: of a symbol of one character, of two and of three
abbrev pub is_single : ℕ → Bool
is_single a = is_some (kind_in singles (a ∷ []))

abbrev pub is_double : ℕ → ℕ → Bool
is_double a b = is_some (kind_in doubles (a ∷ b ∷ []))

abbrev pub is_triple : ℕ → ℕ → ℕ → Bool
is_triple a b c = is_some (kind_in triples (a ∷ b ∷ c ∷ []))

-- the characters are a symbol
abbrev pub is_symbol : List ℕ → Bool
is_symbol w = is_some (symbol w)

-- ---- kinds

-- the kind of a name, by its spelling
abbrev pub name_kind : List ℕ → TokenKind
name_kind [] = k.Lower
name_kind (c ∷ cs) =
    if bytes_eq (c ∷ cs) (codes "_") then k.Wildcard
    else unwrap_or (reserved (c ∷ cs)) (if is_ascii_uppercase c then k.Upper else k.Lower)

-- the kind of a symbol; what is none isn't asked for
abbrev pub symbol_kind : List ℕ → TokenKind
symbol_kind w = unwrap_or (symbol w) k.SingleEquals

-- the kind of a token, by its spelling
abbrev pub kind_of : List ℕ → TokenKind
kind_of [] = k.SingleEquals
kind_of (c ∷ cs) =
    if c == 34 then k.Text
    else (if c == 39 then k.Character
    else (if is_ascii_digit c then k.Number
    else (if begins_name c then name_kind (c ∷ cs) else symbol_kind (c ∷ cs))))
