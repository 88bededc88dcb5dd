-- The rules are balanced in braces, and a program stands in braces.
use Rattle.std.proofs.Common.{refl}
use Rattle.campl_gram.specs.Brackets.{RulesBalanced, Encloses}
use Rattle.campl_lex.specs.declared.token.TokenKind.TheVariants as k
use Rattle.campl_lex.specs.Kinds.{same}
use Rattle.campl_grammar.specs.Names.{program, decls, decl, data_decl, protocol_decl, coprotocol_decl, fun_decl, proc_decl, parameters, cons}
use Rattle.campl_grammar.specs.Names.{con, pcons, pcon, qcons, qcon, rows, row, prow, vars, var, names, idents, stypes, stype, grouped_type}
use Rattle.campl_grammar.specs.Names.{type_arguments, ctypes, ctype, catom, named_type, grouped_ctype, put_type, get_type, neg_type, body, actions}
use Rattle.campl_grammar.specs.Names.{action, put, get, hput, split, close, last, halt, hcase, fork, plug, race, choice, named, identity}
use Rattle.campl_grammar.specs.Names.{process_call, hrows, hrow, branches, branch, links, link, parts, part, crows, crow, patterns, pattern, patom}
use Rattle.campl_grammar.specs.Names.{constructor_pattern, list_pattern, simple_pattern, grouped_pattern, exprs, expr, if_expr, erows, erow}
use Rattle.campl_grammar.specs.Names.{disjunction, conjunction, cmp, comparison, joined, sum, terms, addition, prod, factors, multiplication, unary}
use Rattle.campl_grammar.specs.Names.{atom, code, character, constructor, listed, simple, variable, grouped}
use Rattle.campl_grammar.specs.Rules.{rule}

pub balanced : RulesBalanced same k.LeftBrace k.RightBrace rule
unfolding same
balanced program = refl
balanced decls = refl
balanced decl = refl
balanced data_decl = refl
balanced protocol_decl = refl
balanced coprotocol_decl = refl
balanced fun_decl = refl
balanced proc_decl = refl
balanced parameters = refl
balanced cons = refl
balanced con = refl
balanced pcons = refl
balanced pcon = refl
balanced qcons = refl
balanced qcon = refl
balanced rows = refl
balanced row = refl
balanced prow = refl
balanced vars = refl
balanced var = refl
balanced names = refl
balanced idents = refl
balanced stypes = refl
balanced stype = refl
balanced grouped_type = refl
balanced type_arguments = refl
balanced ctypes = refl
balanced ctype = refl
balanced catom = refl
balanced named_type = refl
balanced grouped_ctype = refl
balanced put_type = refl
balanced get_type = refl
balanced neg_type = refl
balanced body = refl
balanced actions = refl
balanced action = refl
balanced put = refl
balanced get = refl
balanced hput = refl
balanced split = refl
balanced close = refl
balanced last = refl
balanced halt = refl
balanced hcase = refl
balanced fork = refl
balanced plug = refl
balanced race = refl
balanced choice = refl
balanced named = refl
balanced identity = refl
balanced process_call = refl
balanced hrows = refl
balanced hrow = refl
balanced branches = refl
balanced branch = refl
balanced links = refl
balanced link = refl
balanced parts = refl
balanced part = refl
balanced crows = refl
balanced crow = refl
balanced patterns = refl
balanced pattern = refl
balanced patom = refl
balanced constructor_pattern = refl
balanced list_pattern = refl
balanced simple_pattern = refl
balanced grouped_pattern = refl
balanced exprs = refl
balanced expr = refl
balanced if_expr = refl
balanced erows = refl
balanced erow = refl
balanced disjunction = refl
balanced conjunction = refl
balanced cmp = refl
balanced comparison = refl
balanced joined = refl
balanced sum = refl
balanced terms = refl
balanced addition = refl
balanced prod = refl
balanced factors = refl
balanced multiplication = refl
balanced unary = refl
balanced atom = refl
balanced code = refl
balanced character = refl
balanced constructor = refl
balanced listed = refl
balanced simple = refl
balanced variable = refl
balanced grouped = refl

pub encloses : Encloses same k.LeftBrace k.RightBrace (rule program)
unfolding same
encloses = refl
