-- A text has one tree or a fault, and never both.
use Rattle.std.proofs.Common.{◌≡◌, ℕ, true, false, List, [], ◌∷◌, ◌++◌, Ok, Err, refl, sym, ◌∙◌, ap, subst}
use Rattle.std.specs.Prelude.{Result, chars, nat_le}
use Rattle.campl_tree.specs.declared.place.Place.{Place}
use Rattle.campl_tree.specs.declared.decl.Program.{Program}
use Rattle.campl_gram.specs.Grammar.{Nested, bare, Shallow}
use Rattle.campl_gram.specs.Verdicts.{Stops, Sinks}
use Rattle.campl_lex.specs.declared.token.Token.{Token}
use Rattle.campl_lex.specs.declared.fault.LexFault.{LexFault}
use Rattle.campl_lex.specs.Spot.{first_spot}
use Rattle.campl_lex.specs.Tokens.{Lexes}
use Rattle.campl_lex.proofs.Whole.{one}
use Rattle.campl_grammar.specs.Terminal.{Terminal}
use Rattle.campl_grammar.specs.Rules.{IsProgram, limit}
use Rattle.campl_grammar.proofs.Exactness.{one_tree}
use Rattle.campl_terminals.specs.Terminals.{terminals_of}
use Rattle.campl_parse.specs.Parsing as parsing
use Rattle.campl_cli.specs.declared.kind.TextKind.{TextKind}
use Rattle.campl_cli.specs.declared.kind.TextKind.TheVariants.{BadCharacter, OpenString, BadEscape, NumberTooLarge, NameTooLong, Tab, BadColumn, TextTooLong, Unexpected, TooDeep}
use Rattle.campl_cli.specs.Source.{HasTokens, HasLayout, HasTree, IsTextFault}

-- ---- tokens and layout

pub same_tokens : (text : List ℕ) (these those : List Token) → HasTokens text these → HasTokens text those → these ≡ those
same_tokens text these those h k = let e : ◌≡◌ {A = Result (List Token) LexFault} (Ok these) (Ok those) = one h k in cc

pub no_fault : (text : List ℕ) (tokens : List Token) (fault : LexFault) → HasTokens text tokens → Lexes first_spot (chars text) (Err fault) → ⊥
no_fault text tokens fault h k = let e : ◌≡◌ {A = Result (List Token) LexFault} (Ok tokens) (Err fault) = one h k in cc

pub same_layout : (text : List ℕ) (this that : List Token) → HasLayout text this → HasLayout text that → this ≡ that
same_layout text this that (tokens, has, laid) (others, have, lie) = let e = same_tokens text tokens others has have in cc

no_bad_column : (text : List ℕ) (laid : List Token) (at : Place) → HasLayout text laid → IsTextFault text BadColumn at → ⊥
no_bad_column text laid at (tokens, has, is) (others, have, fails) = let e = same_tokens text tokens others has have in cc

-- ---- terminals

-- a word among nested ones, none of which is too deep
pub record Among (nested : List (Nested Terminal)) (before : List Terminal) (word : Terminal) : Type 0 where
  pub front : List (Nested Terminal)
  pub depth : ℕ
  pub more : List (Nested Terminal)
  pub split : nested ≡ front ++ (word, depth) ∷ more
  pub is : bare front ≡ before
  pub within : nat_le depth limit ≡ true

behind_one : (nested : List (Nested Terminal)) (before : List Terminal) (word x y : Terminal) (n : ℕ) → y ≡ x → Among nested before word → Among ((y, n) ∷ nested) (x ∷ before) word
behind_one nested before word x y n same a = record {
  front = (y, n) ∷ a.front;
  depth = a.depth;
  more = a.more;
  split = ap (λ l. (y, n) ∷ l) a.split;
  is = ap (λ l. y ∷ l) a.is ∙ ap (λ z. z ∷ before) same;
  within = a.within;
}

pub among : (nested : List (Nested Terminal)) (before : List Terminal) (word : Terminal) (behind : List Terminal) → bare nested ≡ before ++ word ∷ behind → Shallow limit nested → Among nested before word
among [] [] word behind e h = absurd cc
among [] (x ∷ before) word behind e h = absurd cc
among ((y, n) ∷ nested) [] word behind e h = record {
  front = [];
  depth = n;
  more = nested;
  split = let same : y ≡ word = cc in ap (λ z. (z, n) ∷ nested) same;
  is = refl;
  within = h.0;
}
among ((y, n) ∷ nested) (x ∷ before) word behind e h =
    let rest : bare nested ≡ before ++ word ∷ behind = cc in
    behind_one nested before word x y n (cc) (among nested before word behind rest h.1)

never_stops : (these : List Terminal) (program : Program) (at : Place) → parsing.HasTree these program → parsing.StandsAt (Stops limit IsProgram) these at → ⊥
never_stops these program at has stands = stands.fault has.0 stands.behind program has.3 (has.1 ∙ stands.split)

never_sinks : (these : List Terminal) (program : Program) (at : Place) → parsing.HasTree these program → parsing.StandsAt (Sinks limit IsProgram) these at → ⊥
never_sinks these program at has stands =
    let a = among has.0 stands.before stands.word stands.behind (has.1 ∙ stands.split) has.2 in
    let deep = stands.fault.1 a.front a.depth a.more program (subst (λ (l : List (Nested Terminal)). IsProgram l program) a.split has.3) a.is in
    let far : nat_le a.depth limit ≡ false = deep.1 in
    let near : nat_le a.depth limit ≡ true = a.within in
    cc

-- ---- texts

-- terminals of one layout
along : (text : List ℕ) (this that : List Token) (P : List Terminal → Type 0) → HasLayout text this → HasLayout text that → P (terminals_of text that) → P (terminals_of text this)
along text this that P h k p = subst (λ (l : List Token). P (terminals_of text l)) (sym (same_layout text this that h k)) p

pub tree_without_fault : (text : List ℕ) (program : Program) (kind : TextKind) (at : Place) → HasTree text program → IsTextFault text kind at → ⊥
tree_without_fault text program BadCharacter at (laid, (tokens, lexed, is), has) fault = no_fault text tokens _ lexed fault
tree_without_fault text program OpenString at (laid, (tokens, lexed, is), has) fault = no_fault text tokens _ lexed fault
tree_without_fault text program BadEscape at (laid, (tokens, lexed, is), has) fault = no_fault text tokens _ lexed fault
tree_without_fault text program NumberTooLarge at (laid, (tokens, lexed, is), has) fault = no_fault text tokens _ lexed fault
tree_without_fault text program NameTooLong at (laid, (tokens, lexed, is), has) fault = no_fault text tokens _ lexed fault
tree_without_fault text program Tab at (laid, (tokens, lexed, is), has) fault = no_fault text tokens _ lexed fault
tree_without_fault text program TextTooLong at (laid, (tokens, lexed, is), has) fault = no_fault text tokens _ lexed fault
tree_without_fault text program BadColumn at (laid, layout, has) fault = no_bad_column text laid at layout fault
tree_without_fault text program Unexpected at (laid, layout, has) (others, lie, stands) =
    never_stops (terminals_of text laid) program at has (along text laid others (λ l. parsing.StandsAt (Stops limit IsProgram) l at) layout lie stands)
tree_without_fault text program TooDeep at (laid, layout, has) (others, lie, stands) =
    never_sinks (terminals_of text laid) program at has (along text laid others (λ l. parsing.StandsAt (Sinks limit IsProgram) l at) layout lie stands)

pub same_tree : (text : List ℕ) (this that : Program) → HasTree text this → HasTree text that → this ≡ that
same_tree text this that (laid, layout, has) (others, lie, have) =
    let here : parsing.HasTree (terminals_of text laid) that = along text laid others (λ l. parsing.HasTree l that) layout lie have in
    one_tree has.0 here.0 this that has.3 here.3 (has.1 ∙ sym here.1)
