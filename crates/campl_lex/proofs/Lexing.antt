-- The tokens of a text, piece by piece.
use Rattle.std.proofs.Common.{◌≡◌, ℕ, zero, suc, ◌-◌, ◌<◌, List, [], ◌∷◌, ◌++◌, length, take, drop, Result, Ok, Err, refl, sym, ap, ◌∙◌, arith}
use Rattle.std.proofs.Common.{append-nil}
use Rattle.campl_lex.specs.declared.token.Token.{Token}
use Rattle.campl_lex.specs.declared.spot.Spot.{Spot}
use Rattle.campl_lex.specs.declared.piece.Piece.{Piece}
use Rattle.campl_lex.specs.declared.fault.LexFault.{LexFault}
use Rattle.campl_lex.specs.Spot.{past}
use Rattle.campl_lex.specs.Reading.{piece, reads, tokens_of, lexed}
use Rattle.campl_lex.specs.Layout.{adds}
use Rattle.campl_lex.proofs.Follows.{adds_adds}

lexed_skip : (n : ℕ) (s : Spot) (cs : List ℕ) → lexed n s cs ≡ lexed 0 s (drop n cs)
unfolding lexed
lexed_skip zero s cs = refl
lexed_skip (suc n) s [] = refl
lexed_skip (suc n) s (c ∷ cs) = lexed_skip n s cs

less_one : (n c : ℕ) (cs : List ℕ) → 0 < n → drop (n - 1) cs ≡ drop n (c ∷ cs)
less_one zero c cs h = absurd (omega arith)
less_one (suc n) c cs h = let e : suc n - 1 ≡ n = omega arith in ap (λ m. drop m cs) e

pub lexed_step : (s : Spot) (text : List ℕ) (found : Piece) → 0 < length text → 0 < found.length → piece s.place text ≡ Ok found
    → lexed 0 s text ≡ adds (tokens_of found.kind s (past s (take found.length text))) (lexed 0 (past s (take found.length text)) (drop found.length text))
unfolding lexed
lexed_step s [] found h k e = absurd (omega arith)
lexed_step s (c ∷ cs) found h k e =
    let t = past s (take found.length (c ∷ cs)) in
    ap (λ r. reads r s (c ∷ cs) (λ n t. lexed n t cs)) e
    ∙ ap (adds (tokens_of found.kind s t)) (lexed_skip (found.length - 1) t cs ∙ ap (lexed 0 t) (less_one found.length c cs k))

pub lexed_fault : (s : Spot) (text : List ℕ) (fault : LexFault) → 0 < length text → piece s.place text ≡ Err fault → lexed 0 s text ≡ Err fault
unfolding lexed
lexed_fault s [] fault h e = absurd (omega arith)
lexed_fault s (c ∷ cs) fault h e = ap (λ r. reads r s (c ∷ cs) (λ n t. lexed n t cs)) e

pub lexed_end : (s : Spot) (text : List ℕ) → length text ≡ 0 → lexed 0 s text ≡ Ok []
unfolding lexed
lexed_end s [] h = refl
lexed_end s (c ∷ cs) h = absurd (omega arith)

pub adds_none : (r : Result (List Token) LexFault) → r ≡ adds [] r
adds_none (Ok ts) = refl
adds_none (Err fault) = refl

module _ (out : List Token) (s : Spot) (text : List ℕ) (whole : Result (List Token) LexFault) (some : 0 < length text) (wanted : adds out (lexed 0 s text) ≡ whole) where
  -- one piece more
  pub goes_on : (found : Piece) → 0 < found.length → piece s.place text ≡ Ok found
      → adds (out ++ tokens_of found.kind s (past s (take found.length text))) (lexed 0 (past s (take found.length text)) (drop found.length text)) ≡ whole
  goes_on found k e =
      sym (adds_adds out (tokens_of found.kind s (past s (take found.length text))) (lexed 0 (past s (take found.length text)) (drop found.length text)))
      ∙ ap (adds out) (sym (lexed_step s text found some k e))
      ∙ wanted

  pub fails_here : (fault : LexFault) → piece s.place text ≡ Err fault → whole ≡ Err fault
  fails_here fault e = sym wanted ∙ ap (adds out) (lexed_fault s text fault some e)

pub ends_here : (out : List Token) (s : Spot) (text : List ℕ) (whole : Result (List Token) LexFault) → length text ≡ 0 → adds out (lexed 0 s text) ≡ whole → whole ≡ Ok out
ends_here out s text whole h wanted = sym wanted ∙ ap (adds out) (lexed_end s text h) ∙ ap (λ l. Ok l) (append-nil out)
