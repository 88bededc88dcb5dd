-- The tokens that are read lie in the text.
use Rattle.std.proofs.Common.{◌≡◌, ℕ, zero, suc, ◌+◌, ◌<◌, ◌≤◌, Bool, true, false, cond, not, ◌&&◌, eqb, List, [], ◌∷◌, ◌++◌, length, Option, Some}
use Rattle.std.proofs.Common.{None, IfSome, Result, Ok, Err, refl, sym, ap, ◌∙◌, subst, arith}
use Rattle.std.specs.List.{All, list_all}
use Rattle.std.specs.Option.{unwrap_or}
use Rattle.std.specs.Char.{is_ascii_digit, is_ascii_uppercase}
use Rattle.std.specs.Str.{bytes_eq}
use Rattle.std.proofs.Common.{codes}
use Rattle.campl_tree.specs.declared.place.Place.{Place}
use Rattle.campl_lex.specs.declared.token.Token.{Token}
use Rattle.campl_lex.specs.declared.token.TokenKind.{TokenKind}
use Rattle.campl_lex.specs.declared.token.TokenKind.TheVariants as kind
use Rattle.campl_lex.specs.declared.spot.Spot.{Spot}
use Rattle.campl_lex.specs.declared.fault.LexFault.{LexFault}
use Rattle.campl_lex.specs.Spot.{place_past, after, bytes}
use Rattle.campl_lex.specs.Spelling.{begins_name, declaration_words, action_words, expression_words, type_words, singles, doubles, triples, kind_in}
use Rattle.campl_lex.specs.Spelling.{or_else, reserved, symbol, name_kind, symbol_kind, kind_of}
use Rattle.campl_lex.specs.Kinds.{same}
use Rattle.campl_lex.specs.Tokens.{Lexes, token}
use Rattle.campl_lex.specs.Tokens as says
use Rattle.campl_lex.specs.Layout.{adds, IsWritten, is_inserted}
use Rattle.campl_lex.proofs.Spots.{bytes-append}

-- no spelling of a table is one of those that layout inserts
kept_in : (table : List (List ℕ × TokenKind)) (w : List ℕ) → list_all (λ e. not (is_inserted e.1)) table ≡ true → (o : Option TokenKind) → kind_in table w ≡ o
    → IfSome o (λ kind. is_inserted kind ≡ false)
kept_in table w h None e = tt
kept_in [] w h (Some found) e = cc
kept_in (row ∷ table) w h (Some found) e = by (bytes_eq w row.0) (is_inserted row.1) refl h e (λ k f. kept_in table w k (Some found) f)
  where
    by : (b i : Bool) → is_inserted row.1 ≡ i → (not i && list_all (λ e. not (is_inserted e.1)) table) ≡ true → cond b (Some row.1) (kind_in table w) ≡ Some found
        → (list_all (λ e. not (is_inserted e.1)) table ≡ true → kind_in table w ≡ Some found → is_inserted found ≡ false) → is_inserted found ≡ false
    by true false i h e more = let same : row.1 ≡ found = cc in ap is_inserted (sym same) ∙ i
    by false false i h e more = more h e
    by b true i h e more = cc

kept_else : (a b : Option TokenKind) → IfSome a (λ kind. is_inserted kind ≡ false) → IfSome b (λ kind. is_inserted kind ≡ false) → IfSome (or_else a b) (λ kind. is_inserted kind ≡ false)
kept_else (Some kind) b h k = h
kept_else None b h k = k

kept_or : (o : Option TokenKind) (last : TokenKind) → IfSome o (λ kind. is_inserted kind ≡ false) → is_inserted last ≡ false → is_inserted (unwrap_or o last) ≡ false
kept_or (Some kind) last h k = h
kept_or None last h k = k

reserved_kept : (w : List ℕ) → IfSome (reserved w) (λ kind. is_inserted kind ≡ false)
unfolding reserved same
reserved_kept w =
    kept_else (kind_in declaration_words w) (or_else (kind_in action_words w) (or_else (kind_in expression_words w) (kind_in type_words w)))
    (kept_in declaration_words w refl (kind_in declaration_words w) refl)
    (kept_else (kind_in action_words w) (or_else (kind_in expression_words w) (kind_in type_words w)) (kept_in action_words w refl (kind_in action_words w) refl)
    (kept_else (kind_in expression_words w) (kind_in type_words w) (kept_in expression_words w refl (kind_in expression_words w) refl)
    (kept_in type_words w refl (kind_in type_words w) refl)))

name_kept : (w : List ℕ) → is_inserted (name_kind w) ≡ false
unfolding same
name_kept [] = refl
name_kept (c ∷ w) = by (bytes_eq (c ∷ w) (codes "_"))
  where
    letter : (d : Bool) → is_inserted (cond d kind.Upper kind.Lower) ≡ false
    letter true = refl
    letter false = refl

    by : (a : Bool) → is_inserted (cond a kind.Wildcard (unwrap_or (reserved (c ∷ w)) (cond (is_ascii_uppercase c) kind.Upper kind.Lower))) ≡ false
    by true = refl
    by false = kept_or (reserved (c ∷ w)) (cond (is_ascii_uppercase c) kind.Upper kind.Lower) (reserved_kept (c ∷ w)) (letter (is_ascii_uppercase c))

symbol_kept : (w : List ℕ) → IfSome (symbol w) (λ kind. is_inserted kind ≡ false)
unfolding same
symbol_kept [] = tt
symbol_kept (a ∷ []) = kept_in singles (a ∷ []) refl (kind_in singles (a ∷ [])) refl
symbol_kept (a ∷ b ∷ []) = kept_in doubles (a ∷ b ∷ []) refl (kind_in doubles (a ∷ b ∷ [])) refl
symbol_kept (a ∷ b ∷ c ∷ []) = kept_in triples (a ∷ b ∷ c ∷ []) refl (kind_in triples (a ∷ b ∷ c ∷ [])) refl
symbol_kept (a ∷ b ∷ c ∷ d ∷ w) = tt

kept : (w : List ℕ) → is_inserted (kind_of w) ≡ false
unfolding same
kept [] = refl
kept (c ∷ w) = by (eqb c 34) (eqb c 39) (is_ascii_digit c) (begins_name c)
  where
    by : (a b d n : Bool) → is_inserted (cond a kind.Text (cond b kind.Character (cond d kind.Number (cond n (name_kind (c ∷ w)) (symbol_kind (c ∷ w)))))) ≡ false
    by true b d n = refl
    by false true d n = refl
    by false false true n = refl
    by false false false true = name_kept (c ∷ w)
    by false false false false = kept_or (symbol (c ∷ w)) kind.SingleEquals (symbol_kept (c ∷ w)) refl

column_after : (p : Place) (c : ℕ) → 0 < p.column → 0 < (after p c).column
column_after p c h = by (eqb c 10)
  where
    by : (b : Bool) → 0 < (cond {A = Place} b (record { line = p.line + 1; column = 1 }) (record { line = p.line; column = p.column + 1 })).column
    by true = omega arith
    by false = omega arith

column_past : (p : Place) (cs : List ℕ) → 0 < p.column → 0 < (place_past p cs).column
column_past p [] h = h
column_past p (c ∷ cs) h = column_past (after p c) cs (column_after p c h)

pub all_more : (P : Token → Type 0) (t : Token) (ts : List Token) → P t → All P ts → All P (t ∷ ts)
all_more P t ts h k zero d l = h
all_more P t ts h k (suc i) d l = k i d (omega arith)

pub all_none : (P : Token → Type 0) → All P []
all_none P i d l = absurd (omega arith)

joined : (source : List ℕ) (t : Token) (r : Result (List Token) LexFault) (ts : List Token) → IsWritten source t → adds (t ∷ []) r ≡ Ok ts
    → ((us : List Token) → r ≡ Ok us → All (IsWritten source) us) → All (IsWritten source) ts
joined source t (Ok us) ts here e more = let h : t ∷ us ≡ ts = cc in subst (All (IsWritten source)) h (all_more (IsWritten source) t us here (more us refl))
joined source t (Err fault) ts here e more = cc

-- all tokens of a text that lies in the source do
pub lies : (source : List ℕ) {s : Spot} {text : List ℕ} {r : Result (List Token) LexFault} → Lexes s text r → 0 < s.place.column → s.at + bytes text ≤ length source
    → (ts : List Token) → r ≡ Ok ts → All (IsWritten source) ts
lies source says.ends c l ts e = subst (All (IsWritten source)) (let f : [] ≡ ts = cc in f) (all_none (IsWritten source))
lies source (says.skips {s} w rest {r} b d) c l ts e =
    let size : bytes (w ++ rest) ≡ bytes w + bytes rest = bytes-append w rest in
    lies source d (column_past s.place w c) (omega arith) ts e
lies source (says.takes {s} w rest {r} t d) c l ts e =
    let size : bytes (w ++ rest) ≡ bytes w + bytes rest = bytes-append w rest in
    let here : IsWritten source (token s w) = record { ordered = omega arith; within = omega arith; column = c; kind = kept w } in
    joined source (token s w) r ts here e (lies source d (column_past s.place w c) (omega arith))
lies source (says.fails o) c l ts e = cc
