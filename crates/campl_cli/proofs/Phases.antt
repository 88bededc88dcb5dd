-- A fault of tokens or of layout is the text's first fault.
use Rattle.std.proofs.Common.{refl, ◌≡◌, ◌≢◌, ℕ, Bool, true, false, if◌then◌else◌, List, [], ◌∷◌, length, Option, Some, None, Ok, Err, subst}
use Rattle.std.specs.Prelude.{chars, Result, ◌&&◌, ◌==◌, nat_lt}
use Rattle.campl_tree.specs.declared.place.Place.{Place}
use Rattle.campl_lex.specs.declared.token.Token.{Token}
use Rattle.campl_lex.specs.declared.spot.Spot.{Spot}
use Rattle.campl_lex.specs.declared.fault.LexFault.{LexFault}
use Rattle.campl_lex.specs.declared.fault.LexFault.TheVariants as lexing
use Rattle.campl_lex.specs.Spot.{first_spot}
use Rattle.campl_lex.specs.Tokens.{Lexes, Offends}
use Rattle.campl_lex.specs.Tokens as says
use Rattle.campl_lex.specs.declared.stack.Enclosure.{Enclosure}
use Rattle.campl_lex.specs.declared.stack.Enclosure.TheVariants.{Block, Bracket}
use Rattle.campl_lex.specs.Enclosure.{has_bracket, nearest}
use Rattle.campl_lex.specs.Layout.{laid_out, laid, adds, Put, onto, and_then, separated, closing, is_closing_bracket, opens_block, before, block_opened, aligned, follow, behind, opens_last, first_brace}
use Rattle.campl_tree.specs.Plain.Decl as d
use Rattle.campl_types.specs.declared.fault.NameFault.{NameFault}
use Rattle.campl_types.specs.declared.fault.NameFault.TheVariants as naming
use Rattle.campl_names.specs.Judges.{Judges}
use Rattle.campl_names.specs.Judges as judge
use Rattle.campl_types.specs.WellDeclared.{name_faults}
use Rattle.campl_cli.specs.Source.{HasTokens, end_of, tree_fault_of, IsTreeRefusal, refusal_of_naming, IsRefusedFor, IsToldOfNames}

-- a fault that tokens have
abbrev IsOfTokens : LexFault → Type 0
IsOfTokens (lexing.BadCharacter at) = Unit {0}
IsOfTokens (lexing.OpenString at) = Unit {0}
IsOfTokens (lexing.BadEscape at) = Unit {0}
IsOfTokens (lexing.NumberTooLarge at) = Unit {0}
IsOfTokens (lexing.NameTooLong at) = Unit {0}
IsOfTokens (lexing.Tab at) = Unit {0}
IsOfTokens (lexing.BadColumn at) = ⊥
IsOfTokens (lexing.TextTooLong at) = Unit {0}
IsOfTokens lexing.OutOfMemory = ⊥

abbrev Fine : Result (List Token) LexFault → Type 0
Fine (Ok tokens) = Unit {0}
Fine (Err fault) = IsOfTokens fault

fine_adds : (front : List Token) (r : Result (List Token) LexFault) → Fine r → Fine (adds front r)
fine_adds front (Ok ts) h = tt
fine_adds front (Err f) h = h

fine_offends : {p : Place} {text : List ℕ} {f : LexFault} → Offends p text f → IsOfTokens f
fine_offends (says.bad_character c rest a b d e g) = tt
fine_offends (says.tab rest) = tt
fine_offends (says.tab_within q w cs rest a b) = tt
fine_offends (says.bad_escape q w cs rest a b e) = tt
fine_offends (says.open_literal q w cs rest a b e) = tt
fine_offends (says.not_one_character w cs rest a b) = tt
fine_offends (says.long_text w cs rest a b) = tt
fine_offends (says.large_number w rest a b e) = tt
fine_offends (says.long_name w rest a b e) = tt

-- no column is bad before layout
fine_lexes : {s : Spot} {text : List ℕ} {r : Result (List Token) LexFault} → Lexes s text r → Fine r
fine_lexes says.ends = tt
fine_lexes (says.skips w rest b h) = fine_lexes h
fine_lexes (says.takes {s} w rest {r} t h) = fine_adds (says.token s w ∷ []) r (fine_lexes h)
fine_lexes (says.fails o) = fine_offends o

pub lexing_refuses : (text : List ℕ) (f : LexFault) → (f ≢ lexing.OutOfMemory → Lexes first_spot (chars text) (Err f)) → IsTreeRefusal text (tree_fault_of f)
lexing_refuses text (lexing.BadCharacter at) h = h (λ e. cc)
lexing_refuses text (lexing.OpenString at) h = h (λ e. cc)
lexing_refuses text (lexing.BadEscape at) h = h (λ e. cc)
lexing_refuses text (lexing.NumberTooLarge at) h = h (λ e. cc)
lexing_refuses text (lexing.NameTooLong at) h = h (λ e. cc)
lexing_refuses text (lexing.Tab at) h = h (λ e. cc)
lexing_refuses text (lexing.BadColumn at) h = absurd (fine_lexes (h (λ e. cc)))
lexing_refuses text (lexing.TextTooLong at) h = h (λ e. cc)
lexing_refuses text lexing.OutOfMemory h = tt

-- ---- layout

-- no other fault than a bad column
abbrev OnlyColumn : {A : Type 0} → Result A LexFault → Type 0
OnlyColumn (Ok x) = Unit {0}
OnlyColumn (Err (lexing.BadCharacter at)) = ⊥
OnlyColumn (Err (lexing.OpenString at)) = ⊥
OnlyColumn (Err (lexing.BadEscape at)) = ⊥
OnlyColumn (Err (lexing.NumberTooLarge at)) = ⊥
OnlyColumn (Err (lexing.NameTooLong at)) = ⊥
OnlyColumn (Err (lexing.Tab at)) = ⊥
OnlyColumn (Err (lexing.BadColumn at)) = Unit {0}
OnlyColumn (Err (lexing.TextTooLong at)) = ⊥
OnlyColumn (Err lexing.OutOfMemory) = ⊥

column_if : {A : Type 0} (b : Bool) (x y : Result A LexFault) → OnlyColumn x → OnlyColumn y → OnlyColumn (if b then x else y)
column_if true x y h k = h
column_if false x y h k = k

column_onto : (front : List Token) (p : Put) → OnlyColumn p → OnlyColumn (onto front p)
column_onto front (Ok q) h = tt
column_onto front (Err f) h = h

column_then : (p : Put) (next : List Enclosure → Put) → OnlyColumn p → ((s : List Enclosure) → OnlyColumn (next s)) → OnlyColumn (and_then p next)
column_then (Ok q) next h k = column_onto q.0 (next q.1) (k q.1)
column_then (Err f) next h k = h

column_separated : (t : Token) (closed : List Token) (stack : List Enclosure) → OnlyColumn (separated t closed stack)
column_separated t closed [] = tt
column_separated t closed (Block c ∷ stack) = column_if (c == t.place.column) _ _ tt (column_if (length closed == 0) _ _ tt tt)
column_separated t closed (Bracket c ∷ stack) = tt

column_closing : (t : Token) (other : List Enclosure → Put) (stack : List Enclosure) → OnlyColumn (other stack) → OnlyColumn (closing t other stack)
column_closing t other stack h = column_if (is_closing_bracket t.kind && has_bracket stack) _ _ tt h

column_before : (last : Option Token) (t : Token) (stack : List Enclosure) → OnlyColumn (before last t stack)
column_before None t stack = column_if (t.place.column == 1) _ _ tt tt
column_before (Some last) t stack =
    column_if (opens_block last.kind) _ _
    (column_then (block_opened t stack) (closing t (λ s. Ok ([], s))) (column_if (nat_lt (nearest stack) t.place.column) _ _ tt tt) (λ s. column_closing t (λ s. Ok ([], s)) s tt))
    (column_closing t (λ s. if t.place.line == last.place.line then Ok ([], s) else aligned t s) stack
    (column_if (t.place.line == last.place.line) _ _ tt (column_separated t _ _)))

column_adds : (front : List Token) (r : Result (List Token) LexFault) → OnlyColumn r → OnlyColumn (adds front r)
column_adds front (Ok ts) h = tt
column_adds front (Err f) h = h

column_follow : (p : Put) (t : Token) (rest : List Enclosure → Result (List Token) LexFault) → OnlyColumn p → ((s : List Enclosure) → OnlyColumn (rest s)) → OnlyColumn (follow p t rest)
column_follow (Ok q) t rest h k = column_adds _ (rest q.1) (k q.1)
column_follow (Err f) t rest h k = h

column_laid : (text : List ℕ) (end : Place) (stack : List Enclosure) (last : Option Token) (tokens : List Token) → OnlyColumn (laid text end stack last tokens)
unfolding laid
column_laid text end stack last [] = column_if (opens_last last) _ _ tt tt
column_laid text end stack last (t ∷ ts) =
    column_follow (before last t stack) t (λ s. laid text end (behind t s) (Some t) ts) (column_before last t stack) (λ s. column_laid text end (behind t s) (Some t) ts)

column_only : (text : List ℕ) (end : Place) (tokens : List Token) → OnlyColumn (laid_out text end tokens)
column_only text end tokens = column_adds (first_brace text end tokens ∷ []) (laid text end (Block 1 ∷ []) None tokens) (column_laid text end (Block 1 ∷ []) None tokens)

-- a bad column is the first fault of a text with tokens
pub layout_refuses : (text : List ℕ) (tokens : List Token) (f : LexFault) → HasTokens text tokens
    → (f ≢ lexing.OutOfMemory → laid_out text (end_of text) tokens ≡ Err f) → IsTreeRefusal text (tree_fault_of f)
layout_refuses text tokens f has h = by f h (λ e. subst OnlyColumn (h e) (column_only text (end_of text) tokens))
  where
    by : (f : LexFault) → (f ≢ lexing.OutOfMemory → laid_out text (end_of text) tokens ≡ Err f) → (f ≢ lexing.OutOfMemory → OnlyColumn (let r : Result (List Token) LexFault = Err f in r))
        → IsTreeRefusal text (tree_fault_of f)
    by (lexing.BadCharacter at) h k = absurd (k (λ e. cc))
    by (lexing.OpenString at) h k = absurd (k (λ e. cc))
    by (lexing.BadEscape at) h k = absurd (k (λ e. cc))
    by (lexing.NumberTooLarge at) h k = absurd (k (λ e. cc))
    by (lexing.NameTooLong at) h k = absurd (k (λ e. cc))
    by (lexing.Tab at) h k = absurd (k (λ e. cc))
    by (lexing.BadColumn at) h k = (tokens, has, h (λ e. cc))
    by (lexing.TextTooLong at) h k = absurd (k (λ e. cc))
    by lexing.OutOfMemory h k = tt

-- ---- names

-- the first of these faults, where it isn't want of memory
abbrev pub Judged : List NameFault → NameFault → Type 0
Judged faults (naming.Twice at x) = (more : List NameFault) × (faults ≡ naming.Twice at x ∷ more)
Judged faults (naming.Unknown at x) = (more : List NameFault) × (faults ≡ naming.Unknown at x ∷ more)
Judged faults (naming.WrongKind at x) = (more : List NameFault) × (faults ≡ naming.WrongKind at x ∷ more)
Judged faults (naming.TypeArguments at found wanted) = (more : List NameFault) × (faults ≡ naming.TypeArguments at found wanted ∷ more)
Judged faults (naming.NoRun at) = (more : List NameFault) × (faults ≡ naming.NoRun at ∷ more)
Judged faults (naming.RunNotService at) = (more : List NameFault) × (faults ≡ naming.RunNotService at ∷ more)
Judged faults naming.OutOfMemory = Unit {0}

-- a judgement that refuses has the first fault
judged_of : (faults : List NameFault) (fault : NameFault) → (more : List NameFault) → faults ≡ fault ∷ more → Judged faults fault
judged_of faults (naming.Twice at x) more e = (more, e)
judged_of faults (naming.Unknown at x) more e = (more, e)
judged_of faults (naming.WrongKind at x) more e = (more, e)
judged_of faults (naming.TypeArguments at found wanted) more e = (more, e)
judged_of faults (naming.NoRun at) more e = (more, e)
judged_of faults (naming.RunNotService at) more e = (more, e)
judged_of faults naming.OutOfMemory more e = tt

abbrev Refused : {A : Type 0} → List NameFault → Result A NameFault → Type 0
Refused faults (Ok x) = faults ≡ []
Refused faults (Err fault) = Judged faults fault

refused : {A : Type 0} (faults : List NameFault) (r : Result A NameFault) → Judges faults r → Refused faults r
refused [] (Ok x) judge.passes = refl
refused {A = A} (fault ∷ more) (Ok x) h = elim h [ ]
refused (fault ∷ more) (Err fault2) judge.refuses = judged_of (fault ∷ more) fault more refl
refused faults (Err naming.OutOfMemory) judge.starves = tt

-- a judgement that passes finds no fault
pub passed : {A : Type 0} (faults : List NameFault) (x : A) → Judges faults (let r : Result A NameFault = Ok x in r) → faults ≡ []
passed faults x h = refused faults (Ok x) h

pub refuses : {A : Type 0} (faults : List NameFault) (fault : NameFault) → Judges faults (let r : Result A NameFault = Err fault in r) → Judged faults fault
refuses faults fault h = refused faults (Err fault) h

-- what is told of names is their first fault
pub naming_refuses : (program : d.Program) (fault : NameFault) → Judged (name_faults program) fault → IsRefusedFor (IsToldOfNames program) (refusal_of_naming fault)
naming_refuses program (naming.Twice at x) h = (naming.Twice at x, h, refl)
naming_refuses program (naming.Unknown at x) h = (naming.Unknown at x, h, refl)
naming_refuses program (naming.WrongKind at x) h = (naming.WrongKind at x, h, refl)
naming_refuses program (naming.TypeArguments at found wanted) h = (naming.TypeArguments at found wanted, h, refl)
naming_refuses program (naming.NoRun at) h = (naming.NoRun at, h, refl)
naming_refuses program (naming.RunNotService at) h = (naming.RunNotService at, h, refl)
naming_refuses program naming.OutOfMemory h = tt
