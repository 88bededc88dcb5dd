-- What is answered is what the relation says.
use Rattle.std.proofs.Common.{◌≡◌, ℕ, ◌≤◌, List, length, Result, Ok, Err, IfOk, Vec, refl, sym, subst, arith}
use Rattle.std.specs.List.{All}
use Rattle.std.specs.Str.{encode_utf8_all}
use Rattle.campl_lex.specs.declared.token.Token.{Token}
use Rattle.campl_lex.specs.declared.fault.LexFault.{LexFault}
use Rattle.campl_lex.specs.Spot.{first_spot, bytes}
use Rattle.campl_lex.specs.Tokens.{Lexes, Tells, IsSlice}
use Rattle.campl_lex.specs.Reading.{lexed}
use Rattle.campl_lex.specs.Layout.{Answers, IsWritten}
use Rattle.campl_lex.proofs.Whole.{some, only}
use Rattle.campl_lex.proofs.Written.{lies}
use Rattle.campl_lex.proofs.Slices.{cut}

pub told : {Z : Type 0} (cs : List ℕ) (r : Result (Vec Token Z) LexFault) → Answers (lexed 0 first_spot cs) r → Tells cs r
told cs (Ok tokens) e = subst (Lexes first_spot cs) e (some first_spot cs)
told cs (Err fault) e = λ n. subst (Lexes first_spot cs) (e n) (some first_spot cs)

pub wanted_is : {Z : Type 0} (cs : List ℕ) (r : Result (Vec Token Z) LexFault) → Answers (lexed 0 first_spot cs) r
    → (wanted : Result (List Token) LexFault) → Lexes first_spot cs wanted → Answers wanted r
wanted_is cs r e wanted d = subst (λ w. Answers w r) (sym (only d)) e

pub written : {Z : Type 0} (source cs : List ℕ) (r : Result (Vec Token Z) LexFault) → bytes cs ≤ length source → Answers (lexed 0 first_spot cs) r
    → IfOk r (λ tokens. All (IsWritten source) tokens.items)
written source cs (Ok tokens) l e = lies source (subst (Lexes first_spot cs) e (some first_spot cs)) (omega arith) (omega arith) tokens.items refl
written source cs (Err fault) l e = tt

pub slices : {Z : Type 0} (source cs : List ℕ) (r : Result (Vec Token Z) LexFault) → source ≡ encode_utf8_all cs → Answers (lexed 0 first_spot cs) r
    → IfOk r (λ tokens. All (IsSlice source) tokens.items)
slices source cs (Ok tokens) l e = cut source (subst (Lexes first_spot cs) e (some first_spot cs)) l tokens.items refl
slices source cs (Err fault) l e = tt
