-- Tokens put one step after another.
use Rattle.std.proofs.Common.{◌≡◌, List, [], ◌∷◌, ◌++◌, Option, Some, Result, Ok, Err, refl, sym, ap, ◌∙◌, append_assoc}
use Rattle.campl_tree.specs.declared.place.Place.{Place}
use Rattle.campl_lex.specs.declared.token.Token.{Token}
use Rattle.campl_lex.specs.declared.fault.LexFault.{LexFault}
use Rattle.campl_lex.specs.declared.stack.Enclosure.{Enclosure}
use Rattle.campl_lex.specs.Layout.{Put, onto, follow, adds, laid, before, behind, ended, Answers}
use Rattle.std.specs.Prelude.{IsErr, IsErrAnd, Vec, ℕ, ◌+◌, ◌<◌, ◌≤◌, length, get_or, drop}
use Rattle.std.proofs.lemmas.List.{drop_more, drop_all}

pub adds_adds : (front more : List Token) (rest : Result (List Token) LexFault) → adds front (adds more rest) ≡ adds (front ++ more) rest
adds_adds front more (Ok ts) = ap (λ l. Ok l) (sym (append_assoc front more ts))
adds_adds front more (Err fault) = refl

adds_two : (front put : List Token) (t : Token) (rest : Result (List Token) LexFault) → adds front (adds (put ++ t ∷ []) rest) ≡ adds ((front ++ put) ++ t ∷ []) rest
adds_two front put t rest = adds_adds front (put ++ t ∷ []) rest ∙ ap (λ l. adds l rest) (sym (append_assoc front put (t ∷ [])))

follow_onto : (out : List Token) (put : Put) (t : Token) (rest : List Enclosure → Result (List Token) LexFault) (out' : List Token) (stack' : List Enclosure)
    → onto out put ≡ Ok (out', stack') → adds out (follow put t rest) ≡ adds (out' ++ t ∷ []) (rest stack')
follow_onto out (Ok (put, stack)) t rest out' stack' e =
    let pair : ◌≡◌ {A = List Token × List Enclosure} (out ++ put, stack) (out', stack') = cc in
    adds_two out put t (rest stack) ∙ ap (λ p. adds (p.0 ++ t ∷ []) (rest p.1)) pair
follow_onto out (Err fault) t rest out' stack' e = cc

-- one token of the layout
pub laid_step : (text : List ℕ) (end : Place) (stack : List Enclosure) (last : Option Token) (t : Token) (ts : List Token) (out out' : List Token) (stack' : List Enclosure)
    → onto out (before last t stack) ≡ Ok (out', stack')
    → adds out (laid text end stack last (t ∷ ts)) ≡ adds (out' ++ t ∷ []) (laid text end (behind t stack') (Some t) ts)
unfolding laid
laid_step text end stack last t ts out out' stack' e = follow_onto out (before last t stack) t (λ s. laid text end (behind t s) (Some t) ts) out' stack' e

-- a token at which the layout fails
pub laid_stop : (text : List ℕ) (end : Place) (stack : List Enclosure) (last : Option Token) (t : Token) (ts : List Token) (fault : LexFault)
    → before last t stack ≡ Err fault → laid text end stack last (t ∷ ts) ≡ Err fault
unfolding laid
laid_stop text end stack last t ts fault e = ap (λ p. follow p t (λ s. laid text end (behind t s) (Some t) ts)) e

pub adds_fails : (front : List Token) (rest : Result (List Token) LexFault) (fault : LexFault) → adds front rest ≡ Err fault → rest ≡ Err fault
adds_fails front (Ok ts) fault e = cc
adds_fails front (Err f) fault e = e

module _ (text : List ℕ) (tokens : List Token) (i : ℕ) (d : Token) (here : i < length tokens) (stack : List Enclosure) (last : Option Token) (out : List Token) where
  -- what is wanted of all tokens, behind one more of them
  pub goes_on : (end : Place) (out' : List Token) (stack' : List Enclosure)
      → onto out (before last (get_or tokens i d) stack) ≡ Ok (out', stack')
      → adds (out' ++ get_or tokens i d ∷ []) (laid text end (behind (get_or tokens i d) stack') (Some (get_or tokens i d)) (drop (i + 1) tokens))
      ≡ adds out (laid text end stack last (drop i tokens))
  goes_on end out' stack' e =
      sym (laid_step text end stack last (get_or tokens i d) (drop (i + 1) tokens) out out' stack' e)
      ∙ ap (λ ts. adds out (laid text end stack last ts)) (sym (drop_more tokens i d here))

  -- the fault of all tokens is that of this one
  pub fails_here : (end : Place) (front : List Token) (whole : Result (List Token) LexFault) (fault : LexFault)
      → before last (get_or tokens i d) stack ≡ Err fault
      → adds out (laid text end stack last (drop i tokens)) ≡ adds front whole
      → whole ≡ Err fault
  fails_here end front whole fault e same =
      adds_fails front whole fault
      (sym same
      ∙ ap (λ ts. adds out (laid text end stack last ts)) (drop_more tokens i d here)
      ∙ ap (adds out) (laid_stop text end stack last (get_or tokens i d) (drop (i + 1) tokens) fault e))

-- at the end of the tokens
pub ends_here : (text : List ℕ) (end : Place) (stack : List Enclosure) (last : Option Token) (tokens : List Token) (i : ℕ) → length tokens ≤ i
    → laid text end stack last (drop i tokens) ≡ ended text end stack last
unfolding laid
ends_here text end stack last tokens i h = ap (laid text end stack last) (drop_all i tokens h)

pub answers_from : {Z : Type 0} (wanted : Result (List Token) LexFault) (result : Result (Vec Token Z) LexFault) (P : LexFault → Type 0) → IsErr result × IsErrAnd result P
    → ((fault : LexFault) → P fault → wanted ≡ Err fault) → Answers wanted result
answers_from wanted (Ok tokens) P h k = absurd (h.1)
answers_from wanted (Err fault) P h k = λ _. k fault h.1
