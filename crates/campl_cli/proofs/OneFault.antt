-- A text has one first fault of tokens, layout or grammar.
use Rattle.std.proofs.Common.{◌≡◌, ℕ, true, false, List, [], ◌∷◌, ◌++◌, Err, refl, sym, ◌∙◌, ap, subst, append_assoc}
use Rattle.std.specs.Prelude.{Result, chars, nat_le}
use Rattle.campl_tree.specs.declared.place.Place.{Place}
use Rattle.campl_gram.specs.Grammar.{Nested, bare}
use Rattle.campl_gram.specs.Verdicts.{Begins, Stops, Sinks}
use Rattle.campl_gram.proofs.Found.{bare-append}
use Rattle.campl_lex.specs.declared.token.Token.{Token}
use Rattle.campl_lex.specs.declared.fault.LexFault.{LexFault}
use Rattle.campl_lex.specs.declared.fault.LexFault.TheVariants as lexing
use Rattle.campl_lex.specs.Spot.{first_spot}
use Rattle.campl_lex.specs.Tokens.{Lexes}
use Rattle.campl_lex.specs.Layout.{laid_out}
use Rattle.campl_lex.proofs.Whole.{one}
use Rattle.campl_grammar.specs.Terminal.{Terminal}
use Rattle.campl_grammar.specs.Rules.{IsProgram, limit}
use Rattle.campl_terminals.specs.Terminals.{terminals_of}
use Rattle.campl_parse.specs.Parsing.{StandsAt}
use Rattle.campl_cli.specs.declared.kind.TextKind.{TextKind}
use Rattle.campl_cli.specs.declared.kind.TextKind.TheVariants.{BadCharacter, OpenString, BadEscape, NumberTooLarge, NameTooLong, Tab, BadColumn, TextTooLong, Unexpected, TooDeep}
use Rattle.campl_cli.specs.Source.{HasTokens, HasLayout, IsTextFault, end_of}
use Rattle.campl_cli.proofs.OneAnswer.{among, same_tokens, same_layout, no_fault}

-- ---- terminals

-- of two places in a list, the one, the other, or none is the earlier
data Compared (a : List Terminal) (x : Terminal) (b : List Terminal) (y : Terminal) : Type 0 where
  same : a ≡ b → x ≡ y → Compared a x b y
  earlier : (m : List Terminal) → b ≡ a ++ x ∷ m → Compared a x b y
  later : (m : List Terminal) → a ≡ b ++ y ∷ m → Compared a x b y

one_more : (z w : Terminal) (a b : List Terminal) (x y : Terminal) → z ≡ w → Compared a x b y → Compared (z ∷ a) x (w ∷ b) y
one_more z w a b x y e (same p q) = let r : z ∷ a ≡ w ∷ b = cc in same r q
one_more z w a b x y e (earlier m p) = let r : w ∷ b ≡ z ∷ (a ++ x ∷ m) = cc in earlier m r
one_more z w a b x y e (later m p) = let r : z ∷ a ≡ w ∷ (b ++ y ∷ m) = cc in later m r

compared : (a : List Terminal) (x : Terminal) (p b : List Terminal) (y : Terminal) (q : List Terminal) → a ++ x ∷ p ≡ b ++ y ∷ q → Compared a x b y
compared [] x p [] y q e = same refl (cc)
compared [] x p (w ∷ b) y q e = let r : w ∷ b ≡ x ∷ b = cc in earlier b r
compared (z ∷ a) x p [] y q e = let r : z ∷ a ≡ y ∷ a = cc in later a r
compared (z ∷ a) x p (w ∷ b) y q e =
    let rest : a ++ x ∷ p ≡ b ++ y ∷ q = cc in
    one_more z w a b x y (cc) (compared a x p b y q rest)

-- no program begins with terminals behind a fault
stopped : (a : List Terminal) (x : Terminal) (m p : List Terminal) → Stops limit IsProgram a (x ∷ p) → Begins limit IsProgram (a ++ x ∷ m) → ⊥
stopped a x m p stops (w, more, z, is, shallow, program) =
    stops (w ++ more) (m ++ bare more) z program (bare-append w more ∙ ap (λ l. l ++ bare more) is ∙ append_assoc a (x ∷ m) (bare more))

sunk : (a : List Terminal) (x : Terminal) (m p : List Terminal) → Sinks limit IsProgram a (x ∷ p) → Begins limit IsProgram (a ++ x ∷ m) → ⊥
sunk a x m p sinks (w, more, z, is, shallow, program) =
    let s = among w a x m is shallow in
    let split : w ++ more ≡ s.front ++ (x, s.depth) ∷ (s.more ++ more) = ap (λ l. l ++ more) s.split ∙ append_assoc s.front ((x, s.depth) ∷ s.more) more in
    let deep = sinks.1 s.front s.depth (s.more ++ more) z (subst (λ (l : List (Nested Terminal)). IsProgram l z) split program) s.is in
    let far : nat_le s.depth limit ≡ false = deep.1 in
    let near : nat_le s.depth limit ≡ true = s.within in
    cc

-- where some program goes on, none is stopped
both : (a : List Terminal) (x : Terminal) (p q : List Terminal) → Stops limit IsProgram a (x ∷ p) → Sinks limit IsProgram a (x ∷ q) → ⊥
both a x p q stops ((w, n, more, z, is, program), deep) =
    stops (w ++ (x, n) ∷ more) (bare more) z program (bare-append w ((x, n) ∷ more) ∙ ap (λ l. l ++ x ∷ bare more) is)

-- two faults that no program goes behind stand at one word
record Agree (this that : List Terminal) (one other : Terminal) (at there : Place) : Type 0 where
  before : this ≡ that
  word : one ≡ other
  place : at ≡ there

agree : (P Q : List Terminal → List Terminal → Type 0) → ((a : List Terminal) (x : Terminal) (m p : List Terminal) → P a (x ∷ p) → Begins limit IsProgram (a ++ x ∷ m) → ⊥)
    → ((a : List Terminal) (x : Terminal) (m p : List Terminal) → Q a (x ∷ p) → Begins limit IsProgram (a ++ x ∷ m) → ⊥)
    → (these : List Terminal) (at there : Place) (this : StandsAt P these at) (that : StandsAt Q these there) → Agree this.before that.before this.word that.word at there
agree P Q h k these at there this that = by (compared this.before this.word this.behind that.before that.word that.behind (sym this.split ∙ that.split))
  where
    by : Compared this.before this.word that.before that.word → Agree this.before that.before this.word that.word at there
    by (same p q) = record { before = p; word = q; place = this.there ∙ ap (λ w. w.place) q ∙ sym that.there }
    by (earlier m p) = absurd (h this.before this.word m this.behind this.fault (subst (λ l. Begins limit IsProgram l) p that.begins))
    by (later m p) = absurd (k that.before that.word m that.behind that.fault (subst (λ l. Begins limit IsProgram l) p this.begins))

-- a fault of terminals
data Wrong (kind : TextKind) (these : List Terminal) (at : Place) : Type 0 where
  stops : kind ≡ Unexpected → StandsAt (Stops limit IsProgram) these at → Wrong kind these at
  sinks : kind ≡ TooDeep → StandsAt (Sinks limit IsProgram) these at → Wrong kind these at

never_both : (these : List Terminal) (at there : Place) → StandsAt (Stops limit IsProgram) these at → StandsAt (Sinks limit IsProgram) these there → ⊥
never_both these at there this that =
    let e = agree (Stops limit IsProgram) (Sinks limit IsProgram) stopped sunk these at there this that in
    let fault = subst (λ l. Sinks limit IsProgram l (that.word ∷ that.behind)) (sym e.before) that.fault in
    both this.before this.word this.behind that.behind this.fault (subst (λ x. Sinks limit IsProgram this.before (x ∷ that.behind)) (sym e.word) fault)

-- ---- texts

record Same (kind other : TextKind) (at there : Place) : Type 0 where
  kinds : kind ≡ other
  places : at ≡ there

same_wrong : (kind other : TextKind) (these : List Terminal) (at there : Place) → Wrong kind these at → Wrong other these there → Same kind other at there
same_wrong kind other these at there (stops k h) (stops l j) =
    record { kinds = k ∙ sym l; places = (agree (Stops limit IsProgram) (Stops limit IsProgram) stopped stopped these at there h j).place }
same_wrong kind other these at there (stops k h) (sinks l j) = absurd (never_both these at there h j)
same_wrong kind other these at there (sinks k h) (stops l j) = absurd (never_both these there at j h)
same_wrong kind other these at there (sinks k h) (sinks l j) =
    record { kinds = k ∙ sym l; places = (agree (Sinks limit IsProgram) (Sinks limit IsProgram) sunk sunk these at there h j).place }

-- how a fault of tokens is told
abbrev Told : LexFault → TextKind → Place → Type 0
Told (lexing.BadCharacter p) kind at = (kind ≡ BadCharacter) × (at ≡ p)
Told (lexing.OpenString p) kind at = (kind ≡ OpenString) × (at ≡ p)
Told (lexing.BadEscape p) kind at = (kind ≡ BadEscape) × (at ≡ p)
Told (lexing.NumberTooLarge p) kind at = (kind ≡ NumberTooLarge) × (at ≡ p)
Told (lexing.NameTooLong p) kind at = (kind ≡ NameTooLong) × (at ≡ p)
Told (lexing.Tab p) kind at = (kind ≡ Tab) × (at ≡ p)
Told (lexing.BadColumn p) kind at = (kind ≡ BadColumn) × (at ≡ p)
Told (lexing.TextTooLong p) kind at = (kind ≡ TextTooLong) × (at ≡ p)
Told lexing.OutOfMemory kind at = ⊥

same_told : (fault : LexFault) (kind other : TextKind) (at there : Place) → Told fault kind at → Told fault other there → Same kind other at there
same_told (lexing.BadCharacter p) kind other at there h k = record { kinds = h.0 ∙ sym k.0; places = h.1 ∙ sym k.1 }
same_told (lexing.OpenString p) kind other at there h k = record { kinds = h.0 ∙ sym k.0; places = h.1 ∙ sym k.1 }
same_told (lexing.BadEscape p) kind other at there h k = record { kinds = h.0 ∙ sym k.0; places = h.1 ∙ sym k.1 }
same_told (lexing.NumberTooLarge p) kind other at there h k = record { kinds = h.0 ∙ sym k.0; places = h.1 ∙ sym k.1 }
same_told (lexing.NameTooLong p) kind other at there h k = record { kinds = h.0 ∙ sym k.0; places = h.1 ∙ sym k.1 }
same_told (lexing.Tab p) kind other at there h k = record { kinds = h.0 ∙ sym k.0; places = h.1 ∙ sym k.1 }
same_told (lexing.BadColumn p) kind other at there h k = record { kinds = h.0 ∙ sym k.0; places = h.1 ∙ sym k.1 }
same_told (lexing.TextTooLong p) kind other at there h k = record { kinds = h.0 ∙ sym k.0; places = h.1 ∙ sym k.1 }
same_told lexing.OutOfMemory kind other at there h k = absurd h

-- where in a text its fault is found
data Found (text : List ℕ) (kind : TextKind) (at : Place) : Type 0 where
  in_tokens : (fault : LexFault) → Lexes first_spot (chars text) (Err fault) → Told fault kind at → Found text kind at
  in_layout : (tokens : List Token) (fault : LexFault) → HasTokens text tokens → laid_out text (end_of text) tokens ≡ Err fault → Told fault kind at → Found text kind at
  in_terminals : (laid : List Token) → HasLayout text laid → Wrong kind (terminals_of text laid) at → Found text kind at

found : (text : List ℕ) (kind : TextKind) (at : Place) → IsTextFault text kind at → Found text kind at
found text BadCharacter at h = in_tokens (lexing.BadCharacter at) h (refl, refl)
found text OpenString at h = in_tokens (lexing.OpenString at) h (refl, refl)
found text BadEscape at h = in_tokens (lexing.BadEscape at) h (refl, refl)
found text NumberTooLarge at h = in_tokens (lexing.NumberTooLarge at) h (refl, refl)
found text NameTooLong at h = in_tokens (lexing.NameTooLong at) h (refl, refl)
found text Tab at h = in_tokens (lexing.Tab at) h (refl, refl)
found text TextTooLong at h = in_tokens (lexing.TextTooLong at) h (refl, refl)
found text BadColumn at (tokens, has, fails) = in_layout tokens (lexing.BadColumn at) has fails (refl, refl)
found text Unexpected at (laid, layout, stands) = in_terminals laid layout (stops refl stands)
found text TooDeep at (laid, layout, stands) = in_terminals laid layout (sinks refl stands)

same_fault_of_tokens : (text : List ℕ) (these those : LexFault) → Lexes first_spot (chars text) (Err these) → Lexes first_spot (chars text) (Err those) → these ≡ those
same_fault_of_tokens text these those h k = let e : ◌≡◌ {A = Result (List Token) LexFault} (Err these) (Err those) = one h k in cc

same_fault_of_layout : (text : List ℕ) (these those : List Token) (f g : LexFault) → HasTokens text these → HasTokens text those → laid_out text (end_of text) these ≡ Err f → laid_out text (end_of text) those ≡ Err g → f ≡ g
same_fault_of_layout text these those f g h k p q = let e = same_tokens text these those h k in cc

laid_or_not : (text : List ℕ) (tokens laid : List Token) (f : LexFault) → HasTokens text tokens → laid_out text (end_of text) tokens ≡ Err f → HasLayout text laid → ⊥
laid_or_not text tokens laid f h p (others, k, q) = let e = same_tokens text tokens others h k in cc

same_found : (text : List ℕ) (kind other : TextKind) (at there : Place) → Found text kind at → Found text other there → Same kind other at there
same_found text kind other at there (in_tokens f h t) (in_tokens g k u) =
    same_told f kind other at there t (subst (λ l. Told l other there) (sym (same_fault_of_tokens text f g h k)) u)
same_found text kind other at there (in_tokens f h t) (in_layout ts g k p u) = absurd (no_fault text ts f k h)
same_found text kind other at there (in_tokens f h t) (in_terminals laid (ts, k, p) u) = absurd (no_fault text ts f k h)
same_found text kind other at there (in_layout ts f h p t) (in_tokens g k u) = absurd (no_fault text ts g h k)
same_found text kind other at there (in_layout ts f h p t) (in_layout us g k q u) =
    same_told f kind other at there t (subst (λ l. Told l other there) (sym (same_fault_of_layout text ts us f g h k p q)) u)
same_found text kind other at there (in_layout ts f h p t) (in_terminals laid k u) = absurd (laid_or_not text ts laid f h p k)
same_found text kind other at there (in_terminals laid (ts, h, p) t) (in_tokens g k u) = absurd (no_fault text ts g h k)
same_found text kind other at there (in_terminals laid h t) (in_layout ts g k p u) = absurd (laid_or_not text ts laid g k p h)
same_found text kind other at there (in_terminals laid h t) (in_terminals others k u) =
    same_wrong kind other (terminals_of text laid) at there t (subst (λ l. Wrong other (terminals_of text l) there) (sym (same_layout text laid others h k)) u)

pub one_fault : (text : List ℕ) (kind other : TextKind) (at there : Place) → IsTextFault text kind at → IsTextFault text other there → (kind ≡ other) × (at ≡ there)
one_fault text kind other at there h k = let s = same_found text kind other at there (found text kind at h) (found text other there k) in (s.kinds, s.places)
