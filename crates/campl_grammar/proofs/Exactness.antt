-- What holds of the grammar since it passes the test.
use Rattle.std.proofs.Common.{◌≡◌, ℕ, ◌+◌, ◌≤◌, List, [], length, Ok}
use Rattle.campl_tree.specs.declared.decl.Program.{Program}
use Rattle.campl_gram.specs.Grammar.{Nested, bare, Shallow}
use Rattle.campl_gram.specs.Reading.{expect}
use Rattle.campl_gram.specs.Verdicts.{finish, Answers}
use Rattle.campl_gram.proofs.Exact as exact
use Rattle.campl_gram.proofs.Fuel.{need}
use Rattle.campl_gram.proofs.Lists.{leaves-found, leaves-token}
use Rattle.campl_lex.specs.declared.token.TokenKind.{TokenKind}
use Rattle.campl_lex.specs.Kinds.{same}
use Rattle.campl_grammar.specs.Terminal.{Terminal, terminals}
use Rattle.campl_grammar.specs.Names.{Name, program}
use Rattle.campl_grammar.specs.Tables.{tables}
use Rattle.campl_grammar.specs.Rules.{Value, rule, limit, IsProgram, read, piece}
use Rattle.campl_grammar.proofs.Passing.{distinct_kinds, passes}

-- a name is read as its rule is
pub reads : (m : Name) (d : ℕ) (ts : List Terminal) → read m d ts ≡ piece (rule m) d ts
unfolding read
reads = exact.reads terminals Name Value rule tables same distinct_kinds passes limit

-- what is read of the terminals of a whole text is the answer for them
pub answers : (ts : List Terminal) → Answers limit IsProgram ts (finish (read program 0 ts))
unfolding read IsProgram
answers = exact.exact terminals Name Value rule tables same distinct_kinds passes limit program

-- a program within the limit is read as its tree
pub finds : (w : List (Nested Terminal)) (x : Program) → IsProgram w x → Shallow limit w → finish (read program 0 (bare w)) ≡ (Ok x, [])
unfolding read IsProgram
finds = exact.whole terminals Name Value rule tables same distinct_kinds passes limit program

-- no terminals have two trees
pub one_tree : (w v : List (Nested Terminal)) (x y : Program) → IsProgram w x → IsProgram v y → bare w ≡ bare v → x ≡ y
unfolding IsProgram
one_tree = exact.one_tree terminals Name Value rule tables same distinct_kinds passes program

-- a name that was read has taken a terminal, unless it may have none
pub leaves : (m : Name) (d : ℕ) (ts us : List Terminal) (x : Value m) → read m d ts ≡ (Ok x, us) → length us + need (tables.nul m) ≤ length ts
unfolding read
leaves m d ts us x e = leaves-found (tables.nul m) ts us x (read m d ts) (exact.leaves terminals Name Value rule tables same distinct_kinds passes limit m d ts) e

-- a terminal that was found has been taken
pub leaves-word : (i : TokenKind) (d : ℕ) (ts us : List Terminal) (x : Terminal) → expect terminals limit i d ts ≡ (Ok x, us) → length us + 1 ≤ length ts
leaves-word i d ts us x e = leaves-token terminals limit i d ts us x e
