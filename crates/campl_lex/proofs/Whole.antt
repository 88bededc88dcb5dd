-- A text's tokens, or its first fault, are those that are read; and no others.
use Rattle.std.proofs.Common.{◌≡◌, ℕ, zero, suc, ◌+◌, ◌<◌, ◌≤◌, List, [], ◌∷◌, ◌++◌, length, drop, Option, Some, None, Result, Ok, Err, refl, sym, ap}
use Rattle.std.proofs.Common.{◌∙◌, subst, arith, length-append}
use Rattle.std.proofs.lemmas.List.{take_at, drop_at}
use Rattle.campl_tree.specs.declared.place.Place.{Place}
use Rattle.campl_lex.specs.declared.token.Token.{Token}
use Rattle.campl_lex.specs.declared.token.TokenKind.{TokenKind}
use Rattle.campl_lex.specs.declared.spot.Spot.{Spot}
use Rattle.campl_lex.specs.declared.piece.Piece.{Piece}
use Rattle.campl_lex.specs.declared.fault.LexFault.{LexFault}
use Rattle.campl_lex.specs.Spot.{past}
use Rattle.campl_lex.specs.Spelling.{kind_of}
use Rattle.campl_lex.specs.Tokens.{IsBlank, IsToken, Offends, Lexes, token}
use Rattle.campl_lex.specs.Tokens as says
use Rattle.campl_lex.specs.Reading.{piece, tokens_of, lexed}
use Rattle.campl_lex.specs.Layout.{adds}
use Rattle.campl_lex.proofs.Families.{some_spelled}
use Rattle.campl_lex.proofs.Lexing.{adds_none, lexed_step, lexed_fault, lexed_end}
use Rattle.campl_lex.proofs.Stands.{Front, Stands}
use Rattle.campl_lex.proofs.Sound.{sound}
use Rattle.campl_lex.proofs.Only.{blank_only, token_only, offends_only}

blank_some : (w rest : List ℕ) → IsBlank w rest → 0 < length w
blank_some w rest (says.white c r h) = omega arith
blank_some w rest (says.comment x r a e) = omega arith

token_some : (w rest : List ℕ) → IsToken w rest → 0 < length w
token_some [] rest t = absurd (some_spelled t.longest.spelled)
token_some (c ∷ w) rest t = omega arith

offends_some : {p : Place} (text : List ℕ) (fault : LexFault) → Offends p text fault → 0 < length text
offends_some text fault (says.bad_character c rest t q w m none) = omega arith
offends_some text fault (says.tab rest) = omega arith
offends_some text fault (says.tab_within q w cs rest h s) = omega arith
offends_some text fault (says.bad_escape q w cs rest h s none) = omega arith
offends_some text fault (says.open_literal q w cs rest h s e) = omega arith
offends_some text fault (says.not_one_character w cs rest s h) = omega arith
offends_some text fault (says.long_text w cs rest s h) = omega arith
offends_some text fault (says.large_number [] rest a long h) = cc
offends_some text fault (says.large_number (c ∷ w) rest a long h) = omega arith
offends_some text fault (says.long_name [] rest a long h) = cc
offends_some text fault (says.long_name (c ∷ w) rest a long h) = omega arith

-- a piece, and what is read behind it
lexed_piece : (s : Spot) (w rest : List ℕ) (k : Option TokenKind) → 0 < length w → piece s.place (w ++ rest) ≡ Ok (record { kind = k; length = length w })
    → lexed 0 s (w ++ rest) ≡ adds (tokens_of k s (past s w)) (lexed 0 (past s w) rest)
lexed_piece s w rest k some e =
    lexed_step s (w ++ rest) (record { kind = k; length = length w }) (omega (arith, length-append w rest)) some e
    ∙ ap (λ x. adds (tokens_of k s (past s x)) (lexed 0 (past s x) (drop (length w) (w ++ rest)))) (take_at w rest (length w) refl)
    ∙ ap (λ x. adds (tokens_of k s (past s w)) (lexed 0 (past s w) x)) (drop_at w rest (length w) refl)

-- what a text has is what is read
pub only : {s : Spot} {text : List ℕ} {r : Result (List Token) LexFault} → Lexes s text r → r ≡ lexed 0 s text
only (says.ends {s}) = sym (lexed_end s [] refl)
only (says.skips {s} w rest {r} b d) =
    only d ∙ adds_none (lexed 0 (past s w) rest) ∙ sym (lexed_piece s w rest None (blank_some w rest b) (blank_only s.place w rest b))
only (says.takes {s} w rest {r} t d) =
    ap (adds (token s w ∷ [])) (only d) ∙ sym (lexed_piece s w rest (Some (kind_of w)) (token_some w rest t) (token_only s.place w rest t))
only (says.fails {s} {text} {fault} o) = sym (lexed_fault s text fault (offends_some text fault o) (offends_only s.place text fault o))

-- what is read is what a text has
reads : (n : ℕ) (s : Spot) (text : List ℕ) → length text ≤ n → Lexes s text (lexed 0 s text)
reads n s [] l = subst (Lexes s []) (sym (lexed_end s [] refl)) says.ends
reads zero s (c ∷ cs) l = absurd (omega arith)
reads (suc n) s (c ∷ cs) l = by (piece s.place (c ∷ cs)) refl (sound s.place c cs) (reads n)
  where
    shorter : (w rest : List ℕ) → c ∷ cs ≡ w ++ rest → 0 < length w → length rest ≤ n
    shorter w rest e some = let size : suc (length cs) ≡ length w + length rest = ap length e ∙ length-append w rest in omega arith

    found : (k : Option TokenKind) (m : ℕ) → piece s.place (c ∷ cs) ≡ Ok (record { kind = k; length = m }) → Front (c ∷ cs) k m
        → ((t : Spot) (rest : List ℕ) → length rest ≤ n → Lexes t rest (lexed 0 t rest)) → Lexes s (c ∷ cs) (lexed 0 s (c ∷ cs))
    found None m e (w, rest, split, size, b) more =
        let some : 0 < length w = blank_some w rest b in
        let read : lexed 0 s (w ++ rest) ≡ adds [] (lexed 0 (past s w) rest) =
        lexed_piece s w rest None some (ap (piece s.place) (sym split) ∙ e ∙ ap (λ j. Ok (record { kind = None; length = j })) (sym size)) in
        subst (λ x. Lexes s x (lexed 0 s x)) (sym split)
        (subst (Lexes s (w ++ rest)) (adds_none (lexed 0 (past s w) rest) ∙ sym read) (says.skips w rest b (more (past s w) rest (shorter w rest split some))))
    found (Some k) m e (w, rest, split, size, t, same) more =
        let some : 0 < length w = token_some w rest t in
        let read : lexed 0 s (w ++ rest) ≡ adds (token s w ∷ []) (lexed 0 (past s w) rest) =
        lexed_piece s w rest (Some (kind_of w)) some
        (ap (piece s.place) (sym split) ∙ e ∙ ap (λ j. Ok (record { kind = Some k; length = j })) (sym size) ∙ ap (λ j. Ok (record { kind = Some j; length = length w })) same) in
        subst (λ x. Lexes s x (lexed 0 s x)) (sym split)
        (subst (Lexes s (w ++ rest)) (sym read) (says.takes w rest t (more (past s w) rest (shorter w rest split some))))

    by : (r : Result Piece LexFault) → piece s.place (c ∷ cs) ≡ r → Stands s.place (c ∷ cs) r
        → ((t : Spot) (rest : List ℕ) → length rest ≤ n → Lexes t rest (lexed 0 t rest)) → Lexes s (c ∷ cs) (lexed 0 s (c ∷ cs))
    by (Ok q) e front more = found q.kind q.length e front more
    by (Err fault) e o more = subst (Lexes s (c ∷ cs)) (sym (lexed_fault s (c ∷ cs) fault (omega arith) e)) (says.fails o)

-- each text has its list of tokens, or its first fault
pub some : (s : Spot) (text : List ℕ) → Lexes s text (lexed 0 s text)
some s text = reads (length text) s text (omega arith)

-- and no other
pub one : {s : Spot} {text : List ℕ} {x y : Result (List Token) LexFault} → Lexes s text x → Lexes s text y → x ≡ y
one a b = only a ∙ sym (only b)
