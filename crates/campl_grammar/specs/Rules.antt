-- The grammar of the language. Over each rule stands what it says in the usual notation: [ x ] for x or nothing.
use Rattle.std.specs.Prelude.{ℕ, true, false, List, [], Some, None}
use Rattle.campl_tree.specs.declared.place.Place.{Place}
use Rattle.campl_tree.specs.declared.place.Ident.{Ident}
use Rattle.campl_tree.specs.declared.types.SeqType.{SeqType}
use Rattle.campl_tree.specs.declared.types.SeqType.TheVariants as s
use Rattle.campl_tree.specs.declared.types.ChanType.{ChanType}
use Rattle.campl_tree.specs.declared.types.ChanType.TheVariants as c
use Rattle.campl_tree.specs.declared.pattern.Pattern.{Pattern}
use Rattle.campl_tree.specs.declared.expr.Comparison.{Comparison}
use Rattle.campl_tree.specs.declared.expr.Comparison.TheVariants as comparing
use Rattle.campl_tree.specs.declared.expr.Arithmetic.{Arithmetic}
use Rattle.campl_tree.specs.declared.expr.Arithmetic.TheVariants as calculating
use Rattle.campl_tree.specs.declared.expr.Expr.{Expr}
use Rattle.campl_tree.specs.declared.expr.ExprRow.{ExprRow}
use Rattle.campl_tree.specs.declared.process.Binder.{Binder}
use Rattle.campl_tree.specs.declared.process.Action.{Action}
use Rattle.campl_tree.specs.declared.process.Body.{Body}
use Rattle.campl_tree.specs.declared.process.Last.{Last}
use Rattle.campl_tree.specs.declared.process.HcaseRow.{HcaseRow}
use Rattle.campl_tree.specs.declared.process.Branch.{Branch}
use Rattle.campl_tree.specs.declared.process.CaseRow.{CaseRow}
use Rattle.campl_tree.specs.declared.process.Part as parts_of
use Rattle.campl_tree.specs.declared.process.Link.{Link}
use Rattle.campl_tree.specs.declared.decl.DataConstructor.{DataConstructor}
use Rattle.campl_tree.specs.declared.decl.DataDecl.{DataDecl}
use Rattle.campl_tree.specs.declared.decl.ProtocolConstructor.{ProtocolConstructor}
use Rattle.campl_tree.specs.declared.decl.ProtocolDecl.{ProtocolDecl}
use Rattle.campl_tree.specs.declared.decl.CoprotocolConstructor.{CoprotocolConstructor}
use Rattle.campl_tree.specs.declared.decl.CoprotocolDecl.{CoprotocolDecl}
use Rattle.campl_tree.specs.declared.decl.FunctionRow.{FunctionRow}
use Rattle.campl_tree.specs.declared.decl.FunctionDecl.{FunctionDecl}
use Rattle.campl_tree.specs.declared.decl.ProcessRow.{ProcessRow}
use Rattle.campl_tree.specs.declared.decl.ProcessDecl.{ProcessDecl}
use Rattle.campl_tree.specs.declared.decl.Decl.{Decl}
use Rattle.campl_tree.specs.declared.decl.Decl.TheVariants as d
use Rattle.campl_tree.specs.declared.decl.Program.{Program}
use Rattle.campl_gram.specs.Grammar.{Piece, Nested, tok, pure, seq, alt, deeper, at, nt, ◌▸◌, ◌◂◌, ◌<$>◌, into}
use Rattle.campl_gram.specs.Grammar as grammar
use Rattle.campl_gram.specs.Reading.{Outcome}
use Rattle.campl_gram.specs.Reading as reading
use Rattle.campl_lex.specs.declared.token.TokenKind.{TokenKind}
use Rattle.campl_lex.specs.declared.token.TokenKind.TheVariants as k
use Rattle.campl_grammar.specs.Terminal.{Terminal, ident_of, terminals}
use Rattle.campl_grammar.specs.Trees as t
use Rattle.campl_grammar.specs.Tables.{tables}
use Rattle.campl_grammar.specs.Names.{Name, program, decls, decl, data_decl, protocol_decl, coprotocol_decl, fun_decl, proc_decl, parameters, cons}
use Rattle.campl_grammar.specs.Names.{con, pcons, pcon, qcons, qcon, rows, row, prow, vars, var, names, idents, stypes, stype, grouped_type}
use Rattle.campl_grammar.specs.Names.{type_arguments, ctypes, ctype, catom, named_type, grouped_ctype, put_type, get_type, neg_type, body, actions}
use Rattle.campl_grammar.specs.Names.{action, put, get, hput, split, close, last, halt, hcase, fork, plug, race, choice, named, identity}
use Rattle.campl_grammar.specs.Names.{process_call, hrows, hrow, branches, branch, links, link, parts, part, crows, crow, patterns, pattern, patom}
use Rattle.campl_grammar.specs.Names.{constructor_pattern, list_pattern, simple_pattern, grouped_pattern, exprs, expr, if_expr, erows, erow}
use Rattle.campl_grammar.specs.Names.{disjunction, conjunction, cmp, comparison, joined, sum, terms, addition, prod, factors, multiplication, unary}
use Rattle.campl_grammar.specs.Names.{atom, code, character, constructor, listed, simple, variable, grouped}

-- what the value of each name is
abbrev pub Value : Name → Type 0
Value program = Program
Value decls = List Decl
Value decl = Decl
Value data_decl = DataDecl
Value protocol_decl = ProtocolDecl
Value coprotocol_decl = CoprotocolDecl
Value fun_decl = FunctionDecl
Value proc_decl = ProcessDecl
Value parameters = List Ident
Value cons = List DataConstructor
Value con = DataConstructor
Value pcons = List ProtocolConstructor
Value pcon = ProtocolConstructor
Value qcons = List CoprotocolConstructor
Value qcon = CoprotocolConstructor
Value rows = List FunctionRow
Value row = FunctionRow
Value prow = ProcessRow
Value vars = List Binder
Value var = Binder
Value names = List Ident
Value idents = List Ident
Value stypes = List SeqType
Value stype = SeqType
Value grouped_type = SeqType
Value type_arguments = List SeqType
Value ctypes = List ChanType
Value ctype = ChanType
Value catom = ChanType
Value named_type = ChanType
Value grouped_ctype = ChanType
Value put_type = ChanType
Value get_type = ChanType
Value neg_type = ChanType
Value body = Body
Value actions = List Action
Value action = Action
Value put = Action
Value get = Action
Value hput = Action
Value split = Action
Value close = Action
Value last = Last
Value halt = Last
Value hcase = Last
Value fork = Last
Value plug = Last
Value race = Last
Value choice = Last
Value named = Last
Value identity = Terminal → Last
Value process_call = Terminal → Last
Value hrows = List HcaseRow
Value hrow = HcaseRow
Value branches = List Branch
Value branch = Branch
Value links = List Link
Value link = Link
Value parts = List parts_of.Part
Value part = parts_of.Part
Value crows = List CaseRow
Value crow = CaseRow
Value patterns = List Pattern
Value pattern = Pattern
Value patom = Pattern
Value constructor_pattern = Pattern
Value list_pattern = Pattern
Value simple_pattern = Pattern
Value grouped_pattern = Pattern
Value exprs = List Expr
Value expr = Expr
Value if_expr = Expr
Value erows = List ExprRow
Value erow = ExprRow
Value disjunction = Expr
Value conjunction = Expr
Value cmp = Expr
Value comparison = Comparison
Value joined = Expr
Value sum = Expr
Value terms = List t.Term
Value addition = Arithmetic
Value prod = Expr
Value factors = List t.Term
Value multiplication = Arithmetic
Value unary = Expr
Value atom = Expr
Value code = Expr
Value character = Expr
Value constructor = Expr
Value listed = Expr
Value simple = Expr
Value variable = Expr
Value grouped = Expr

-- pieces of this grammar
abbrev pub Part : Type 0 → Type 1
Part = Piece Terminal TokenKind Place Name Value

-- ---- how one writes them

-- three pieces, one after another, and more
abbrev pub seq3 : {A B C D : Type 0} → (A → B → C → D) → Part A → Part B → Part C → Part D
seq3 f a b c = into a (seq (λ y z x. f x y z) b c)

abbrev pub seq4 : {A B C D E : Type 0} → (A → B → C → D → E) → Part A → Part B → Part C → Part D → Part E
seq4 f a b c d = into a (seq3 (λ y z u x. f x y z u) b c d)

abbrev pub seq5 : {A B C D E F : Type 0} → (A → B → C → D → E → F) → Part A → Part B → Part C → Part D → Part E → Part F
seq5 f a b c d e = into a (seq4 (λ y z u v x. f x y z u v) b c d e)

abbrev pub seq6 : {A B C D E F G : Type 0} → (A → B → C → D → E → F → G) → Part A → Part B → Part C → Part D → Part E → Part F → Part G
seq6 f a b c d e g = into a (seq5 (λ y z u v w x. f x y z u v w) b c d e g)

-- the value of a terminal of this kind
abbrev pub gives : {A : Type 0} → TokenKind → A → Part A
gives key x = (λ _. x) <$> tok key

-- a list, or nothing
abbrev pub some_or_none : {A : Type 0} → Part (List A) → Part (List A)
some_or_none a = alt a (pure [])

-- in brackets all is nested one deeper, with the bracket that closes
abbrev pub in_braces : {A : Type 0} → Part A → Part A
in_braces a = k.LeftBrace ▸ deeper (a ◂ k.RightBrace)

abbrev pub in_parens : {A : Type 0} → Part A → Part A
in_parens a = k.LeftParen ▸ deeper (a ◂ k.RightParen)

abbrev pub in_brackets : {A : Type 0} → Part A → Part A
in_brackets a = k.LeftBracket ▸ deeper (a ◂ k.RightBracket)

-- what stands behind a line: ";" and the lines `more`, or nothing
abbrev pub behind : {A : Type 0} → Part (List A) → Part (List A)
behind more = alt (k.Semicolon ▸ more) (pure [])

-- a { ";" a }, where `more` is the name of this list; nothing is nested
abbrev pub in_lines : {A : Type 0} → Part A → Part (List A) → Part (List A)
in_lines a more = grammar.list a (behind more)

-- a { "," a }; what stands behind a comma is nested one deeper
abbrev pub in_commas : {A : Type 0} → Part A → Part (List A) → Part (List A)
in_commas a more = grammar.list a (alt (k.Comma ▸ deeper more) (pure []))

-- a [ OPERATOR b ], where b is nested one deeper
abbrev pub chained : {A B : Type 0} → Part A → TokenKind → (B → A → Place → A) → Part B → Part A
chained a key f b = at (into a (alt (f <$> key ▸ deeper b) (pure t.alone)))

-- lower, Upper
abbrev pub lower : Part Ident
lower = ident_of <$> tok k.Lower

abbrev pub upper : Part Ident
upper = ident_of <$> tok k.Upper

-- ---- lists that may be empty

abbrev pub some_stypes : Part (List SeqType)
some_stypes = some_or_none (nt stypes)

abbrev pub some_ctypes : Part (List ChanType)
some_ctypes = some_or_none (nt ctypes)

abbrev pub some_vars : Part (List Binder)
some_vars = some_or_none (nt vars)

abbrev pub some_patterns : Part (List Pattern)
some_patterns = some_or_none (nt patterns)

abbrev pub some_exprs : Part (List Expr)
some_exprs = some_or_none (nt exprs)

-- ---- the rules

abbrev pub rule : (m : Name) → Part (Value m)
-- program = "{" [ decl { ";" decl } ] "}"
rule program = t.program_of <$> in_braces (some_or_none (nt decls))
rule decls = in_lines (nt decl) (nt decls)
-- decl = data_decl | protocol_decl | coprotocol_decl | fun_decl | proc_decl
rule decl = alt (d.Data <$> nt data_decl) (alt (d.Protocol <$> nt protocol_decl) (alt (d.Coprotocol <$> nt coprotocol_decl) (alt (d.Function <$> nt fun_decl) (d.Process <$> nt proc_decl))))
-- data_decl = "data" Upper [ "(" lower { "," lower } ")" ] "where" "{" con { ";" con } "}"
rule data_decl = seq4 t.data_of (tok k.Data) upper (nt parameters) (k.Where ▸ in_braces (nt cons))
-- protocol_decl = "protocol" Upper [ "(" lower { "," lower } ")" ] "=>" Upper "where" "{" pcon { ";" pcon } "}"
rule protocol_decl = seq5 t.protocol_of (tok k.Protocol) upper (nt parameters) (k.FatArrow ▸ upper) (k.Where ▸ in_braces (nt pcons))
-- coprotocol_decl = "coprotocol" Upper "=>" Upper [ "(" lower { "," lower } ")" ] "where" "{" qcon { ";" qcon } "}"
rule coprotocol_decl = seq5 t.coprotocol_of (tok k.Coprotocol) upper (k.FatArrow ▸ upper) (nt parameters) (k.Where ▸ in_braces (nt qcons))
-- fun_decl = "fun" lower "::" [ stype { "," stype } ] "->" stype "where" "{" row { ";" row } "}"
rule fun_decl = seq5 t.function_of (tok k.Fun) (lower ◂ k.DoubleColon) some_stypes (k.Arrow ▸ nt stype) (k.Where ▸ in_braces (nt rows))
-- proc_decl = "proc" lower "::" [ stype { "," stype } ] "|" [ ctype { "," ctype } ] "=>" [ ctype { "," ctype } ] "where" "{" prow "}"
rule proc_decl = seq6 t.process_of (tok k.Proc) (lower ◂ k.DoubleColon) some_stypes (k.Bar ▸ some_ctypes) (k.FatArrow ▸ some_ctypes) (k.Where ▸ in_braces (nt prow))
rule parameters = some_or_none (in_parens (nt idents))
rule cons = in_lines (nt con) (nt cons)
-- con = Upper [ "(" stype { "," stype } ")" ]
rule con = seq t.con_of upper (nt type_arguments)
rule pcons = in_lines (nt pcon) (nt pcons)
-- pcon = Upper "::" ctype "=>" Upper
rule pcon = seq3 t.pcon_of (upper ◂ k.DoubleColon) (nt ctype) (k.FatArrow ▸ upper)
rule qcons = in_lines (nt qcon) (nt qcons)
-- qcon = Upper "::" Upper "=>" ctype
rule qcon = seq3 t.qcon_of (upper ◂ k.DoubleColon) (upper ◂ k.FatArrow) (nt ctype)
rule rows = in_lines (nt row) (nt rows)
-- row = [ pattern { "," pattern } ] "->" expr
rule row = at (seq t.row_of some_patterns (k.Arrow ▸ nt expr))
-- prow = [ var { "," var } ] "|" names "=>" names "->" body
rule prow = at (seq4 t.prow_of some_vars (k.Bar ▸ nt names) (k.FatArrow ▸ nt names) (k.Arrow ▸ nt body))
rule vars = in_commas (nt var) (nt vars)
-- var = lower | "_"
rule var = alt (t.variable_of <$> tok k.Lower) (t.wildcard_of <$> tok k.Wildcard)
-- names = [ lower { "," lower } ]
rule names = some_or_none (nt idents)
rule idents = in_commas lower (nt idents)
rule stypes = in_commas (nt stype) (nt stypes)
-- stype = "Int" | "Char" | "Bool" | "[" stype "]" | lower | Upper [ "(" stype { "," stype } ")" ] | "(" stype [ "," stype ] ")"
rule stype =
    alt (gives k.IntType s.Int)
    (alt (gives k.CharType s.Char)
    (alt (gives k.BoolType s.Bool)
    (alt (s.List <$> in_brackets (nt stype))
    (alt (t.type_variable_of <$> tok k.Lower)
    (alt (seq t.named_type_of (tok k.Upper) (nt type_arguments))
    (nt grouped_type))))))
rule grouped_type = in_parens (into (nt stype) (alt ((λ y x. s.Pair x y) <$> k.Comma ▸ deeper (nt stype)) (pure (λ x. x))))
rule type_arguments = some_or_none (in_parens (nt stypes))
rule ctypes = in_commas (nt ctype) (nt ctypes)
-- ctype = catom [ ( "(*)" | "(+)" ) catom ]
rule ctype =
    into (nt catom)
    (alt ((λ y x. c.Tensor x y) <$> k.Tensor ▸ deeper (nt catom))
    (alt ((λ y x. c.Par x y) <$> k.Par ▸ deeper (nt catom))
    (pure (λ x. x))))
-- catom = ( "Put" | "Get" ) "(" stype "|" ctype ")" | "Neg" "(" ctype ")" | "TopBot" | Upper [ "(" stype { "," stype } ")" ] | "(" ctype ")"
rule catom =
    alt (nt put_type)
    (alt (nt get_type)
    (alt (nt neg_type)
    (alt (gives k.TopBot c.TopBot)
    (alt (nt named_type)
    (nt grouped_ctype)))))
rule named_type = seq t.named_channel_of (tok k.Upper) (nt type_arguments)
rule grouped_ctype = in_parens (nt ctype)
rule put_type = k.PutType ▸ in_parens (seq c.Put (nt stype) (k.Bar ▸ nt ctype))
rule get_type = k.GetType ▸ in_parens (seq c.Get (nt stype) (k.Bar ▸ nt ctype))
rule neg_type = c.Neg <$> k.NegType ▸ in_parens (nt ctype)
-- body = "do" "{" { action ";" } last "}" | last
rule body = alt (k.Do ▸ in_braces (seq t.body_of (nt actions) (nt last))) (t.body_of [] <$> nt last)
rule actions = some_or_none (grammar.list (nt action ◂ k.Semicolon) (nt actions))
-- action = "put" expr "on" lower | "get" var "on" lower | "hput" Upper "on" lower | "split" lower "into" lower "," lower | "close" lower
rule action = alt (nt put) (alt (nt get) (alt (nt hput) (alt (nt split) (nt close))))
rule put = seq3 t.put_of (tok k.Put) (nt expr) (k.On ▸ lower)
rule get = seq3 t.get_of (tok k.Get) (nt var) (k.On ▸ lower)
rule hput = seq3 t.hput_of (tok k.Hput) upper (k.On ▸ lower)
rule split = seq4 t.split_of (tok k.Split) (lower ◂ k.Into) (lower ◂ k.Comma) lower
rule close = seq t.close_of (tok k.Close) lower
-- last = "halt" [ lower ] | "hcase" lower "of" "{" hrow { ";" hrow } "}" | "fork" lower "as" "{" branch ";" branch "}"
--      | "plug" link { "," link } "of" "{" part { ";" part } "}" | "race" "{" branch { ";" branch } "}"
--      | "case" expr "of" "{" crow { ";" crow } "}" | named
rule last = alt (nt halt) (alt (nt hcase) (alt (nt fork) (alt (nt plug) (alt (nt race) (alt (nt choice) (nt named))))))
rule halt = seq t.halt_of (tok k.Halt) (alt (Some <$> lower) (pure None))
rule hcase = seq3 t.hcase_of (tok k.Hcase) (lower ◂ k.Of) (in_braces (nt hrows))
rule fork = seq3 t.fork_of (tok k.Fork) (lower ◂ k.As) (in_braces (seq (λ x y. (x, y)) (nt branch) (k.Semicolon ▸ nt branch)))
rule plug = seq3 t.plug_of (tok k.Plug) (nt links ◂ k.Of) (in_braces (nt parts))
rule race = seq t.race_of (tok k.Race) (in_braces (nt branches))
rule choice = seq3 t.case_of (tok k.Case) (nt expr ◂ k.Of) (in_braces (nt crows))
-- named = lower "|=|" [ "neg" ] lower | lower "(" [ expr { "," expr } ] "|" names "=>" names ")"
rule named = into (tok k.Lower) (alt (nt identity) (nt process_call))
rule identity = k.Identity ▸ alt (t.identity_of true <$> k.Neg ▸ lower) (t.identity_of false <$> lower)
rule process_call = in_parens (seq3 t.process_call_of some_exprs (k.Bar ▸ nt names) (k.FatArrow ▸ nt names))
rule hrows = in_lines (nt hrow) (nt hrows)
-- hrow = Upper "->" body
rule hrow = seq t.hrow_of (upper ◂ k.Arrow) (nt body)
rule branches = in_lines (nt branch) (nt branches)
-- branch = lower "->" body
rule branch = seq t.branch_of (lower ◂ k.Arrow) (nt body)
rule links = in_commas (nt link) (nt links)
-- link = lower "::" ctype
rule link = seq t.link_of (lower ◂ k.DoubleColon) (nt ctype)
rule parts = in_lines (nt part) (nt parts)
-- part = names "=>" names "->" body
rule part = at (seq3 t.part_of (nt names) (k.FatArrow ▸ nt names) (k.Arrow ▸ nt body))
rule crows = in_lines (nt crow) (nt crows)
-- crow = pattern "->" body
rule crow = seq t.crow_of (nt pattern ◂ k.Arrow) (nt body)
rule patterns = in_commas (nt pattern) (nt patterns)
-- pattern = patom [ ":" pattern ]
rule pattern = chained (nt patom) k.Colon t.cons_pattern_of (nt pattern)
-- patom = "_" | lower | number | "-" number | char | text | "True" | "False" | Upper [ "(" pattern { "," pattern } ")" ]
--       | "[" [ pattern { "," pattern } ] "]" | "(" pattern [ "," pattern ] ")"
rule patom = alt (nt simple_pattern) (alt (nt constructor_pattern) (alt (nt list_pattern) (nt grouped_pattern)))
rule simple_pattern =
    alt (t.wildcard_pattern_of <$> tok k.Wildcard)
    (alt (t.variable_pattern_of <$> tok k.Lower)
    (alt (t.number_pattern_of <$> tok k.Number)
    (alt (seq t.negative_pattern_of (tok k.Minus) (tok k.Number))
    (alt (t.character_pattern_of <$> tok k.Character)
    (alt (t.text_pattern_of <$> tok k.Text)
    (alt (t.true_pattern_of <$> tok k.True)
    (t.false_pattern_of <$> tok k.False)))))))
rule constructor_pattern = seq t.constructor_pattern_of (tok k.Upper) (some_or_none (in_parens (nt patterns)))
rule list_pattern = at (t.list_pattern_of <$> in_brackets some_patterns)
rule grouped_pattern = at (in_parens (into (nt pattern) (alt (t.pair_pattern_of <$> k.Comma ▸ deeper (nt pattern)) (pure t.alone))))
rule exprs = in_commas (nt expr) (nt exprs)
-- expr = "if" expr "then" expr "else" expr | "case" expr "of" "{" erow { ";" erow } "}" | disjunction
rule expr =
    alt (seq3 t.case_expr_of (tok k.Case) (nt expr ◂ k.Of) (in_braces (nt erows)))
    (alt (nt if_expr)
    (nt disjunction))
rule if_expr = into (tok k.If) (deeper (seq3 t.if_of (nt expr) (k.Then ▸ nt expr) (k.Else ▸ nt expr)))
rule erows = in_lines (nt erow) (nt erows)
-- erow = pattern "->" expr
rule erow = seq t.erow_of (nt pattern ◂ k.Arrow) (nt expr)
-- disjunction = conjunction [ "||" disjunction ]
rule disjunction = chained (nt conjunction) k.Or t.or_of (nt disjunction)
-- conjunction = cmp [ "&&" conjunction ]
rule conjunction = chained (nt cmp) k.And t.and_of (nt conjunction)
-- cmp = joined [ comparison joined ]
rule cmp = at (into (nt joined) (alt (seq t.compare_of (nt comparison) (deeper (nt joined))) (pure t.alone)))
-- comparison = "==" | "/=" | "<" | "<=" | ">" | ">="
rule comparison =
    alt (gives k.Equal comparing.Equal)
    (alt (gives k.Different comparing.Different)
    (alt (gives k.Less comparing.Less)
    (alt (gives k.AtMost comparing.AtMost)
    (alt (gives k.Greater comparing.Greater)
    (gives k.AtLeast comparing.AtLeast)))))
-- joined = sum [ ( ":" | "++" ) joined ]
rule joined =
    at (into (nt sum)
    (alt (t.cons_of <$> k.Colon ▸ deeper (nt joined))
    (alt (t.append_of <$> k.Append ▸ deeper (nt joined))
    (pure t.alone))))
-- sum = prod { ( "+" | "-" ) prod }
rule sum = at (seq t.chain_of (nt prod) (nt terms))
rule terms = some_or_none (into (nt addition) (deeper (seq t.terms_of (nt prod) (nt terms))))
rule addition = alt (gives k.Plus calculating.Add) (gives k.Minus calculating.Subtract)
-- prod = unary { ( "*" | "div" | "mod" ) unary }
rule prod = at (seq t.chain_of (nt unary) (nt factors))
rule factors = some_or_none (into (nt multiplication) (deeper (seq t.terms_of (nt unary) (nt factors))))
rule multiplication =
    alt (gives k.Star calculating.Multiply)
    (alt (gives k.Div calculating.Divide)
    (gives k.Mod calculating.Remainder))
-- unary = "-" unary | atom
rule unary = alt (seq t.negate_of (tok k.Minus) (deeper (nt unary))) (nt atom)
-- atom = number | char | text | "True" | "False" | lower [ "(" [ expr { "," expr } ] ")" ] | ( "code" | "char" ) "(" expr ")"
--      | Upper [ "(" expr { "," expr } ")" ] | "[" [ expr { "," expr } ] "]" | "(" expr [ "," expr ] ")"
rule atom = alt (nt simple) (alt (nt variable) (alt (nt code) (alt (nt character) (alt (nt constructor) (alt (nt listed) (nt grouped))))))
rule simple =
    alt (t.number_expr_of <$> tok k.Number)
    (alt (t.character_expr_of <$> tok k.Character)
    (alt (t.text_expr_of <$> tok k.Text)
    (alt (t.true_of <$> tok k.True)
    (t.false_of <$> tok k.False))))
rule variable = into (tok k.Lower) (alt (t.call_of <$> in_parens some_exprs) (pure t.variable_expr_of))
rule code = seq t.code_of (tok k.Code) (in_parens (nt expr))
rule character = seq t.char_of (tok k.Char) (in_parens (nt expr))
rule constructor = seq t.constructor_of (tok k.Upper) (some_or_none (in_parens (nt exprs)))
rule listed = at (t.list_of <$> in_brackets some_exprs)
rule grouped = at (in_parens (into (nt expr) (alt (t.pair_of <$> k.Comma ▸ deeper (nt expr)) (pure t.alone))))

-- ---- what the rules say

-- the greatest nesting that is no fault
abbrev pub limit : ℕ
limit = 200

-- the terminals, with their nesting, have this tree
unfoldable pub IsProgram : List (Nested Terminal) → Program → Type 0
IsProgram = grammar.IsProgram terminals Name Value rule program

-- reads a name, nested so deep
unfoldable pub read : (m : Name) → ℕ → List Terminal → Outcome Terminal (Value m)
read = reading.read terminals Name Value tables limit rule

-- reads a piece
abbrev pub piece : {A : Type 0} → Part A → ℕ → List Terminal → Outcome Terminal A
piece = reading.read_by terminals Name Value tables limit read
