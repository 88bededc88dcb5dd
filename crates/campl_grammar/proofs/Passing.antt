-- The grammar passes the test, so its laws hold.
use Rattle.std.proofs.Common.{◌≡◌, true, [], refl, rules}
use denote.Enum.Bare.{same_true}
use Rattle.campl_gram.specs.Tests.{Distinct, Passes}
use Rattle.campl_gram.specs.OneKind.{distinct}
use Rattle.campl_lex.specs.contracts.token.TokenKind.{the_type}
use Rattle.campl_lex.specs.declared.token.TokenKind.{TokenKind}
use Rattle.campl_lex.specs.declared.token.TokenKind.TheVariants as k
use Rattle.campl_lex.specs.Kinds.{same}
use Rattle.campl_grammar.specs.Terminal.{terminals, nowhere}
use Rattle.campl_grammar.specs.Names.{program, decls, decl, data_decl, protocol_decl, coprotocol_decl, fun_decl, proc_decl, parameters, cons}
use Rattle.campl_grammar.specs.Names.{con, pcons, pcon, qcons, qcon, rows, row, prow, vars, var, names, idents, stypes, stype, grouped_type}
use Rattle.campl_grammar.specs.Names.{type_arguments, ctypes, ctype, catom, named_type, grouped_ctype, put_type, get_type, neg_type, body, actions}
use Rattle.campl_grammar.specs.Names.{action, put, get, hput, split, close, last, halt, hcase, fork, plug, race, choice, named, identity}
use Rattle.campl_grammar.specs.Names.{process_call, hrows, hrow, branches, branch, links, link, parts, part, crows, crow, patterns, pattern, patom}
use Rattle.campl_grammar.specs.Names.{constructor_pattern, list_pattern, simple_pattern, grouped_pattern, exprs, expr, if_expr, erows, erow}
use Rattle.campl_grammar.specs.Names.{disjunction, conjunction, cmp, comparison, joined, sum, terms, addition, prod, factors, multiplication, unary}
use Rattle.campl_grammar.specs.Names.{atom, code, character, constructor, listed, simple, variable, grouped}
use Rattle.campl_grammar.specs.Tables.{tables}
use Rattle.campl_grammar.specs.Rules.{rule}

-- kinds that pass the test are equal
same_is : (i j : TokenKind) → same i j ≡ true → i ≡ j
unfolding same
same_is i j e = same_true the_type (search rules) i j e

-- a kind is the same as itself
same_refl : (i : TokenKind) → same i i ≡ true
unfolding same
same_refl k.Lower = refl
same_refl k.Upper = refl
same_refl k.Wildcard = refl
same_refl k.Number = refl
same_refl k.Text = refl
same_refl k.Character = refl
same_refl k.LeftBrace = refl
same_refl k.RightBrace = refl
same_refl k.Semicolon = refl
same_refl k.Data = refl
same_refl k.Protocol = refl
same_refl k.Coprotocol = refl
same_refl k.Fun = refl
same_refl k.Proc = refl
same_refl k.Where = refl
same_refl k.Of = refl
same_refl k.Do = refl
same_refl k.As = refl
same_refl k.Race = refl
same_refl k.Plug = refl
same_refl k.Put = refl
same_refl k.Get = refl
same_refl k.Hput = refl
same_refl k.Hcase = refl
same_refl k.Split = refl
same_refl k.Into = refl
same_refl k.Fork = refl
same_refl k.Close = refl
same_refl k.Halt = refl
same_refl k.On = refl
same_refl k.Neg = refl
same_refl k.Case = refl
same_refl k.If = refl
same_refl k.Then = refl
same_refl k.Else = refl
same_refl k.Div = refl
same_refl k.Mod = refl
same_refl k.Code = refl
same_refl k.Char = refl
same_refl k.True = refl
same_refl k.False = refl
same_refl k.IntType = refl
same_refl k.CharType = refl
same_refl k.BoolType = refl
same_refl k.PutType = refl
same_refl k.GetType = refl
same_refl k.NegType = refl
same_refl k.TopBot = refl
same_refl k.DoubleColon = refl
same_refl k.FatArrow = refl
same_refl k.Arrow = refl
same_refl k.Identity = refl
same_refl k.Tensor = refl
same_refl k.Par = refl
same_refl k.Equal = refl
same_refl k.Different = refl
same_refl k.AtMost = refl
same_refl k.AtLeast = refl
same_refl k.And = refl
same_refl k.Or = refl
same_refl k.Append = refl
same_refl k.LeftParen = refl
same_refl k.RightParen = refl
same_refl k.LeftBracket = refl
same_refl k.RightBracket = refl
same_refl k.Comma = refl
same_refl k.Bar = refl
same_refl k.Less = refl
same_refl k.Greater = refl
same_refl k.Plus = refl
same_refl k.Minus = refl
same_refl k.Star = refl
same_refl k.Colon = refl
same_refl k.SingleEquals = refl

-- the kinds are distinct
pub distinct_kinds : Distinct terminals same
unfolding terminals
distinct_kinds = distinct same (λ w. w.kind) (λ w. w.place) nowhere same_refl same_is (λ i. record { kind = i; text = []; place = nowhere }) (λ i. refl)

-- the grammar passes
pub passes : Passes same tables rule
unfolding same
passes program = refl
passes decls = refl
passes decl = refl
passes data_decl = refl
passes protocol_decl = refl
passes coprotocol_decl = refl
passes fun_decl = refl
passes proc_decl = refl
passes parameters = refl
passes cons = refl
passes con = refl
passes pcons = refl
passes pcon = refl
passes qcons = refl
passes qcon = refl
passes rows = refl
passes row = refl
passes prow = refl
passes vars = refl
passes var = refl
passes names = refl
passes idents = refl
passes stypes = refl
passes stype = refl
passes grouped_type = refl
passes type_arguments = refl
passes ctypes = refl
passes ctype = refl
passes catom = refl
passes named_type = refl
passes grouped_ctype = refl
passes put_type = refl
passes get_type = refl
passes neg_type = refl
passes body = refl
passes actions = refl
passes action = refl
passes put = refl
passes get = refl
passes hput = refl
passes split = refl
passes close = refl
passes last = refl
passes halt = refl
passes hcase = refl
passes fork = refl
passes plug = refl
passes race = refl
passes choice = refl
passes named = refl
passes identity = refl
passes process_call = refl
passes hrows = refl
passes hrow = refl
passes branches = refl
passes branch = refl
passes links = refl
passes link = refl
passes parts = refl
passes part = refl
passes crows = refl
passes crow = refl
passes patterns = refl
passes pattern = refl
passes patom = refl
passes constructor_pattern = refl
passes list_pattern = refl
passes simple_pattern = refl
passes grouped_pattern = refl
passes exprs = refl
passes expr = refl
passes if_expr = refl
passes erows = refl
passes erow = refl
passes disjunction = refl
passes conjunction = refl
passes cmp = refl
passes comparison = refl
passes joined = refl
passes sum = refl
passes terms = refl
passes addition = refl
passes prod = refl
passes factors = refl
passes multiplication = refl
passes unary = refl
passes atom = refl
passes code = refl
passes character = refl
passes constructor = refl
passes listed = refl
passes simple = refl
passes variable = refl
passes grouped = refl
