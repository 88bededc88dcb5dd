-- `case` words that are read one after another, and ended from the last one on.
use Rattle.std.proofs.Common.{◌≡◌, ℕ, true, false, List, [], ◌∷◌, ◌++◌, Ok, Err, refl, ap, sym, ◌∙◌}
use Rattle.campl_tree.specs.declared.place.Place.{Place}
use Rattle.campl_tree.specs.declared.expr.Expr.{Expr}
use Rattle.campl_tree.specs.declared.expr.Expr.TheVariants as e
use Rattle.campl_tree.specs.declared.expr.ExprRow.{ExprRow}
use Rattle.campl_gram.specs.declared.fault.Fault.{Fault}
use Rattle.campl_gram.specs.Grammar.{nt}
use Rattle.campl_gram.specs.Reading.{Outcome, and_then, next_in, expect}
use Rattle.campl_lex.specs.declared.token.TokenKind.TheVariants as k
use Rattle.campl_grammar.specs.Terminal.{Terminal, terminals}
use Rattle.campl_grammar.specs.Trees as t
use Rattle.campl_grammar.specs.Names.{expr, erows}
use Rattle.campl_grammar.specs.Rules.{read, piece, limit, in_braces}
use Rattle.campl_grammar.proofs.ByRule.{reads_expr}
use Rattle.campl_parse_terms.specs.declared.error.ParseError.{ParseError}
use Rattle.campl_parse_terms.specs.declared.error.ParseError.TheVariants.{OutOfMemory, Refused}
use Rattle.campl_parse_terms.specs.Reads.{Fails}
use Rattle.campl_parse_terms.specs.Expressions.{without_case, ends_case, ends_cases}

-- one more `case` is ended before the others
pub ends_last : (ats : List Place) (at : Place) (d : ℕ) (o : Outcome Terminal Expr) → ends_cases (ats ++ at ∷ []) d o ≡ ends_cases ats d (ends_case at d o)
ends_last [] at d o = refl
ends_last (a ∷ ats) at d o = ap (λ o. ends_case a d o) (ends_last ats at d o)

-- a fault stays the same through all that are open
pub ends_err : (ats : List Place) (d : ℕ) (f : Fault) (r : List Terminal) → ends_cases ats d (Err f, r) ≡ (Err f, r)
ends_err [] d f r = refl
ends_err (a ∷ ats) d f r = ap (λ o. ends_case a d o) (ends_err ats d f r)

-- the rule's reading behind `case`, and what ends it, for what the rows are
rows_end : (w : Terminal) (x : Expr) (o : Outcome Terminal (List ExprRow))
    → and_then {A = Terminal → Expr} (and_then o (λ rs s. (Ok (λ v. t.case_expr_of v x rs), s))) (λ f s. (Ok (f w), s)) ≡ and_then (and_then o (λ rs s. (Ok rs, s))) (λ rs s. (Ok (e.Case w.place x rs), s))
rows_end w x (Ok rs, s) = refl
rows_end w x (Err f, s) = refl

of_ends : (w : Terminal) (x : Expr) (o : Outcome Terminal Terminal) (rows : List Terminal → Outcome Terminal (List ExprRow))
    → and_then {A = Terminal → Expr} (and_then (and_then o (λ _ s. (Ok x, s))) (λ y r. and_then (rows r) (λ rs s. (Ok (λ v. t.case_expr_of v y rs), s)))) (λ f s. (Ok (f w), s))
    ≡ and_then (and_then o (λ _ r. and_then (rows r) (λ rs s. (Ok rs, s)))) (λ rs s. (Ok (e.Case w.place x rs), s))
of_ends w x (Ok v, r) rows = rows_end w x (rows r)
of_ends w x (Err f, r) rows = refl

scrutinee_ends : (w : Terminal) (o : Outcome Terminal Expr) (mark : List Terminal → Outcome Terminal Terminal) (rows : List Terminal → Outcome Terminal (List ExprRow))
    → and_then {A = Terminal → Expr} (and_then (and_then o (λ x r. and_then (mark r) (λ _ s. (Ok x, s)))) (λ y r. and_then (rows r) (λ rs s. (Ok (λ v. t.case_expr_of v y rs), s)))) (λ f s. (Ok (f w), s))
    ≡ and_then o (λ x q. and_then (and_then (mark q) (λ _ r. and_then (rows r) (λ rs s. (Ok rs, s)))) (λ rs s. (Ok (e.Case w.place x rs), s)))
scrutinee_ends w (Ok x, r) mark rows = of_ends w x (mark r) rows
scrutinee_ends w (Err f, r) mark rows = refl

-- an expression that begins with `case` ends that one behind its scrutinee
pub begins_case : (d : ℕ) (ts us : List Terminal) (w : Terminal) → next_in terminals (k.Case ∷ []) ts ≡ true → expect terminals limit k.Case d ts ≡ (Ok w, us)
    → read expr d ts ≡ ends_case w.place d (read expr d us)
begins_case d ts us w h e = rw (reads_expr d ts, h, e) (scrutinee_ends w (read expr d us) (λ r. expect terminals limit k.Of d r) (λ r. piece (in_braces (nt erows)) d r))

-- where the word `case` is refused, the expression is
pub refuses_case : (d : ℕ) (ts us : List Terminal) (f : Fault) → next_in terminals (k.Case ∷ []) ts ≡ true → expect terminals limit k.Case d ts ≡ (Err f, us)
    → read expr d ts ≡ (Err f, us)
refuses_case d ts us f h e = rw (reads_expr d ts, h, e) refl

-- any other expression is one without `case` in front
pub begins_otherwise : (d : ℕ) (ts : List Terminal) → next_in terminals (k.Case ∷ []) ts ≡ false → read expr d ts ≡ piece without_case d ts
begins_otherwise d ts h = rw (reads_expr d ts, h) refl

-- where the word `case` is refused behind others, the whole expression is
pub case_fails : (ats : List Place) (d : ℕ) (ts us : List Terminal) (old : Outcome Terminal Expr) (x : ParseError) → next_in terminals (k.Case ∷ []) ts ≡ true
    → Fails (expect terminals limit k.Case d ts) x us → ends_cases ats d (read expr d ts) ≡ old → Fails old x us
case_fails ats d ts us old OutOfMemory h e is = tt
case_fails ats d ts us old (Refused f) h e is = sym is ∙ ap (λ o. ends_cases ats d o) (refuses_case d ts us f h e) ∙ ends_err ats d f us

-- when the last `case` that is open is ended, the others are still to end
pub case_ended : (ats front : List Place) (at : Place) (d : ℕ) (o p old : Outcome Terminal Expr) → ats ≡ front ++ at ∷ [] → ends_case at d o ≡ p → ends_cases ats d o ≡ old → ends_cases front d p ≡ old
case_ended ats front at d o p old split e is = ap (λ q. ends_cases front d q) (sym e) ∙ sym (ends_last front at d o) ∙ ap (λ l. ends_cases l d o) (sym split) ∙ is

-- where it isn't ended, no other is
pub end_fails : (ats front : List Place) (at : Place) (d : ℕ) (o old : Outcome Terminal Expr) (us : List Terminal) (x : ParseError) → ats ≡ front ++ at ∷ []
    → Fails (ends_case at d o) x us → ends_cases ats d o ≡ old → Fails old x us
end_fails ats front at d o old us OutOfMemory split e is = tt
end_fails ats front at d o old us (Refused f) split e is = sym is ∙ ap (λ l. ends_cases l d o) split ∙ ends_last front at d o ∙ ap (λ q. ends_cases front d q) e ∙ ends_err front d f us
