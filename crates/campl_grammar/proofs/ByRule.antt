-- Each name is read as its rule is: what proves the parser's function for it.
use Rattle.std.proofs.Common.{◌≡◌, ℕ, List}
use Rattle.campl_grammar.specs.Terminal.{Terminal}
use Rattle.campl_grammar.specs.Names.{program, decls, decl, data_decl, protocol_decl, coprotocol_decl, fun_decl, proc_decl, parameters, cons, con}
use Rattle.campl_grammar.specs.Names.{pcons, pcon, qcons, qcon, rows, row, prow, vars, var, names, idents, stypes, stype, grouped_type}
use Rattle.campl_grammar.specs.Names.{type_arguments, ctypes, ctype, catom, named_type, grouped_ctype, put_type, get_type, neg_type, body, actions}
use Rattle.campl_grammar.specs.Names.{action, put, get, hput, split, close, last, halt, hcase, fork, plug, race, choice, named, identity}
use Rattle.campl_grammar.specs.Names.{process_call, hrows, hrow, branches, branch, links, link, parts, part, crows, crow, patterns, pattern, patom}
use Rattle.campl_grammar.specs.Names.{constructor_pattern, list_pattern, simple_pattern, grouped_pattern, exprs, expr, if_expr, erows, erow}
use Rattle.campl_grammar.specs.Names.{disjunction, conjunction, cmp, comparison, joined, sum, terms, addition, prod, factors, multiplication, unary}
use Rattle.campl_grammar.specs.Names.{atom, code, character, constructor, listed, simple, variable, grouped}
use Rattle.campl_grammar.specs.Rules.{rule, read, piece}
use Rattle.campl_grammar.proofs.Exactness.{reads}

pub reads_program : (d : ℕ) (ts : List Terminal) → read program d ts ≡ piece (rule program) d ts
reads_program = reads program

pub reads_decls : (d : ℕ) (ts : List Terminal) → read decls d ts ≡ piece (rule decls) d ts
reads_decls = reads decls

pub reads_decl : (d : ℕ) (ts : List Terminal) → read decl d ts ≡ piece (rule decl) d ts
reads_decl = reads decl

pub reads_data_decl : (d : ℕ) (ts : List Terminal) → read data_decl d ts ≡ piece (rule data_decl) d ts
reads_data_decl = reads data_decl

pub reads_protocol_decl : (d : ℕ) (ts : List Terminal) → read protocol_decl d ts ≡ piece (rule protocol_decl) d ts
reads_protocol_decl = reads protocol_decl

pub reads_coprotocol_decl : (d : ℕ) (ts : List Terminal) → read coprotocol_decl d ts ≡ piece (rule coprotocol_decl) d ts
reads_coprotocol_decl = reads coprotocol_decl

pub reads_fun_decl : (d : ℕ) (ts : List Terminal) → read fun_decl d ts ≡ piece (rule fun_decl) d ts
reads_fun_decl = reads fun_decl

pub reads_proc_decl : (d : ℕ) (ts : List Terminal) → read proc_decl d ts ≡ piece (rule proc_decl) d ts
reads_proc_decl = reads proc_decl

pub reads_parameters : (d : ℕ) (ts : List Terminal) → read parameters d ts ≡ piece (rule parameters) d ts
reads_parameters = reads parameters

pub reads_cons : (d : ℕ) (ts : List Terminal) → read cons d ts ≡ piece (rule cons) d ts
reads_cons = reads cons

pub reads_con : (d : ℕ) (ts : List Terminal) → read con d ts ≡ piece (rule con) d ts
reads_con = reads con

pub reads_pcons : (d : ℕ) (ts : List Terminal) → read pcons d ts ≡ piece (rule pcons) d ts
reads_pcons = reads pcons

pub reads_pcon : (d : ℕ) (ts : List Terminal) → read pcon d ts ≡ piece (rule pcon) d ts
reads_pcon = reads pcon

pub reads_qcons : (d : ℕ) (ts : List Terminal) → read qcons d ts ≡ piece (rule qcons) d ts
reads_qcons = reads qcons

pub reads_qcon : (d : ℕ) (ts : List Terminal) → read qcon d ts ≡ piece (rule qcon) d ts
reads_qcon = reads qcon

pub reads_rows : (d : ℕ) (ts : List Terminal) → read rows d ts ≡ piece (rule rows) d ts
reads_rows = reads rows

pub reads_row : (d : ℕ) (ts : List Terminal) → read row d ts ≡ piece (rule row) d ts
reads_row = reads row

pub reads_prow : (d : ℕ) (ts : List Terminal) → read prow d ts ≡ piece (rule prow) d ts
reads_prow = reads prow

pub reads_vars : (d : ℕ) (ts : List Terminal) → read vars d ts ≡ piece (rule vars) d ts
reads_vars = reads vars

pub reads_var : (d : ℕ) (ts : List Terminal) → read var d ts ≡ piece (rule var) d ts
reads_var = reads var

pub reads_names : (d : ℕ) (ts : List Terminal) → read names d ts ≡ piece (rule names) d ts
reads_names = reads names

pub reads_idents : (d : ℕ) (ts : List Terminal) → read idents d ts ≡ piece (rule idents) d ts
reads_idents = reads idents

pub reads_stypes : (d : ℕ) (ts : List Terminal) → read stypes d ts ≡ piece (rule stypes) d ts
reads_stypes = reads stypes

pub reads_stype : (d : ℕ) (ts : List Terminal) → read stype d ts ≡ piece (rule stype) d ts
reads_stype = reads stype

pub reads_grouped_type : (d : ℕ) (ts : List Terminal) → read grouped_type d ts ≡ piece (rule grouped_type) d ts
reads_grouped_type = reads grouped_type

pub reads_type_arguments : (d : ℕ) (ts : List Terminal) → read type_arguments d ts ≡ piece (rule type_arguments) d ts
reads_type_arguments = reads type_arguments

pub reads_ctypes : (d : ℕ) (ts : List Terminal) → read ctypes d ts ≡ piece (rule ctypes) d ts
reads_ctypes = reads ctypes

pub reads_ctype : (d : ℕ) (ts : List Terminal) → read ctype d ts ≡ piece (rule ctype) d ts
reads_ctype = reads ctype

pub reads_catom : (d : ℕ) (ts : List Terminal) → read catom d ts ≡ piece (rule catom) d ts
reads_catom = reads catom

pub reads_named_type : (d : ℕ) (ts : List Terminal) → read named_type d ts ≡ piece (rule named_type) d ts
reads_named_type = reads named_type

pub reads_grouped_ctype : (d : ℕ) (ts : List Terminal) → read grouped_ctype d ts ≡ piece (rule grouped_ctype) d ts
reads_grouped_ctype = reads grouped_ctype

pub reads_put_type : (d : ℕ) (ts : List Terminal) → read put_type d ts ≡ piece (rule put_type) d ts
reads_put_type = reads put_type

pub reads_get_type : (d : ℕ) (ts : List Terminal) → read get_type d ts ≡ piece (rule get_type) d ts
reads_get_type = reads get_type

pub reads_neg_type : (d : ℕ) (ts : List Terminal) → read neg_type d ts ≡ piece (rule neg_type) d ts
reads_neg_type = reads neg_type

pub reads_body : (d : ℕ) (ts : List Terminal) → read body d ts ≡ piece (rule body) d ts
reads_body = reads body

pub reads_actions : (d : ℕ) (ts : List Terminal) → read actions d ts ≡ piece (rule actions) d ts
reads_actions = reads actions

pub reads_action : (d : ℕ) (ts : List Terminal) → read action d ts ≡ piece (rule action) d ts
reads_action = reads action

pub reads_put : (d : ℕ) (ts : List Terminal) → read put d ts ≡ piece (rule put) d ts
reads_put = reads put

pub reads_get : (d : ℕ) (ts : List Terminal) → read get d ts ≡ piece (rule get) d ts
reads_get = reads get

pub reads_hput : (d : ℕ) (ts : List Terminal) → read hput d ts ≡ piece (rule hput) d ts
reads_hput = reads hput

pub reads_split : (d : ℕ) (ts : List Terminal) → read split d ts ≡ piece (rule split) d ts
reads_split = reads split

pub reads_close : (d : ℕ) (ts : List Terminal) → read close d ts ≡ piece (rule close) d ts
reads_close = reads close

pub reads_last : (d : ℕ) (ts : List Terminal) → read last d ts ≡ piece (rule last) d ts
reads_last = reads last

pub reads_halt : (d : ℕ) (ts : List Terminal) → read halt d ts ≡ piece (rule halt) d ts
reads_halt = reads halt

pub reads_hcase : (d : ℕ) (ts : List Terminal) → read hcase d ts ≡ piece (rule hcase) d ts
reads_hcase = reads hcase

pub reads_fork : (d : ℕ) (ts : List Terminal) → read fork d ts ≡ piece (rule fork) d ts
reads_fork = reads fork

pub reads_plug : (d : ℕ) (ts : List Terminal) → read plug d ts ≡ piece (rule plug) d ts
reads_plug = reads plug

pub reads_race : (d : ℕ) (ts : List Terminal) → read race d ts ≡ piece (rule race) d ts
reads_race = reads race

pub reads_choice : (d : ℕ) (ts : List Terminal) → read choice d ts ≡ piece (rule choice) d ts
reads_choice = reads choice

pub reads_named : (d : ℕ) (ts : List Terminal) → read named d ts ≡ piece (rule named) d ts
reads_named = reads named

pub reads_identity : (d : ℕ) (ts : List Terminal) → read identity d ts ≡ piece (rule identity) d ts
reads_identity = reads identity

pub reads_process_call : (d : ℕ) (ts : List Terminal) → read process_call d ts ≡ piece (rule process_call) d ts
reads_process_call = reads process_call

pub reads_hrows : (d : ℕ) (ts : List Terminal) → read hrows d ts ≡ piece (rule hrows) d ts
reads_hrows = reads hrows

pub reads_hrow : (d : ℕ) (ts : List Terminal) → read hrow d ts ≡ piece (rule hrow) d ts
reads_hrow = reads hrow

pub reads_branches : (d : ℕ) (ts : List Terminal) → read branches d ts ≡ piece (rule branches) d ts
reads_branches = reads branches

pub reads_branch : (d : ℕ) (ts : List Terminal) → read branch d ts ≡ piece (rule branch) d ts
reads_branch = reads branch

pub reads_links : (d : ℕ) (ts : List Terminal) → read links d ts ≡ piece (rule links) d ts
reads_links = reads links

pub reads_link : (d : ℕ) (ts : List Terminal) → read link d ts ≡ piece (rule link) d ts
reads_link = reads link

pub reads_parts : (d : ℕ) (ts : List Terminal) → read parts d ts ≡ piece (rule parts) d ts
reads_parts = reads parts

pub reads_part : (d : ℕ) (ts : List Terminal) → read part d ts ≡ piece (rule part) d ts
reads_part = reads part

pub reads_crows : (d : ℕ) (ts : List Terminal) → read crows d ts ≡ piece (rule crows) d ts
reads_crows = reads crows

pub reads_crow : (d : ℕ) (ts : List Terminal) → read crow d ts ≡ piece (rule crow) d ts
reads_crow = reads crow

pub reads_patterns : (d : ℕ) (ts : List Terminal) → read patterns d ts ≡ piece (rule patterns) d ts
reads_patterns = reads patterns

pub reads_pattern : (d : ℕ) (ts : List Terminal) → read pattern d ts ≡ piece (rule pattern) d ts
reads_pattern = reads pattern

pub reads_patom : (d : ℕ) (ts : List Terminal) → read patom d ts ≡ piece (rule patom) d ts
reads_patom = reads patom

pub reads_constructor_pattern : (d : ℕ) (ts : List Terminal) → read constructor_pattern d ts ≡ piece (rule constructor_pattern) d ts
reads_constructor_pattern = reads constructor_pattern

pub reads_list_pattern : (d : ℕ) (ts : List Terminal) → read list_pattern d ts ≡ piece (rule list_pattern) d ts
reads_list_pattern = reads list_pattern

pub reads_simple_pattern : (d : ℕ) (ts : List Terminal) → read simple_pattern d ts ≡ piece (rule simple_pattern) d ts
reads_simple_pattern = reads simple_pattern

pub reads_grouped_pattern : (d : ℕ) (ts : List Terminal) → read grouped_pattern d ts ≡ piece (rule grouped_pattern) d ts
reads_grouped_pattern = reads grouped_pattern

pub reads_exprs : (d : ℕ) (ts : List Terminal) → read exprs d ts ≡ piece (rule exprs) d ts
reads_exprs = reads exprs

pub reads_expr : (d : ℕ) (ts : List Terminal) → read expr d ts ≡ piece (rule expr) d ts
reads_expr = reads expr

pub reads_if_expr : (d : ℕ) (ts : List Terminal) → read if_expr d ts ≡ piece (rule if_expr) d ts
reads_if_expr = reads if_expr

pub reads_erows : (d : ℕ) (ts : List Terminal) → read erows d ts ≡ piece (rule erows) d ts
reads_erows = reads erows

pub reads_erow : (d : ℕ) (ts : List Terminal) → read erow d ts ≡ piece (rule erow) d ts
reads_erow = reads erow

pub reads_disjunction : (d : ℕ) (ts : List Terminal) → read disjunction d ts ≡ piece (rule disjunction) d ts
reads_disjunction = reads disjunction

pub reads_conjunction : (d : ℕ) (ts : List Terminal) → read conjunction d ts ≡ piece (rule conjunction) d ts
reads_conjunction = reads conjunction

pub reads_cmp : (d : ℕ) (ts : List Terminal) → read cmp d ts ≡ piece (rule cmp) d ts
reads_cmp = reads cmp

pub reads_comparison : (d : ℕ) (ts : List Terminal) → read comparison d ts ≡ piece (rule comparison) d ts
reads_comparison = reads comparison

pub reads_joined : (d : ℕ) (ts : List Terminal) → read joined d ts ≡ piece (rule joined) d ts
reads_joined = reads joined

pub reads_sum : (d : ℕ) (ts : List Terminal) → read sum d ts ≡ piece (rule sum) d ts
reads_sum = reads sum

pub reads_terms : (d : ℕ) (ts : List Terminal) → read terms d ts ≡ piece (rule terms) d ts
reads_terms = reads terms

pub reads_addition : (d : ℕ) (ts : List Terminal) → read addition d ts ≡ piece (rule addition) d ts
reads_addition = reads addition

pub reads_prod : (d : ℕ) (ts : List Terminal) → read prod d ts ≡ piece (rule prod) d ts
reads_prod = reads prod

pub reads_factors : (d : ℕ) (ts : List Terminal) → read factors d ts ≡ piece (rule factors) d ts
reads_factors = reads factors

pub reads_multiplication : (d : ℕ) (ts : List Terminal) → read multiplication d ts ≡ piece (rule multiplication) d ts
reads_multiplication = reads multiplication

pub reads_unary : (d : ℕ) (ts : List Terminal) → read unary d ts ≡ piece (rule unary) d ts
reads_unary = reads unary

pub reads_atom : (d : ℕ) (ts : List Terminal) → read atom d ts ≡ piece (rule atom) d ts
reads_atom = reads atom

pub reads_code : (d : ℕ) (ts : List Terminal) → read code d ts ≡ piece (rule code) d ts
reads_code = reads code

pub reads_character : (d : ℕ) (ts : List Terminal) → read character d ts ≡ piece (rule character) d ts
reads_character = reads character

pub reads_constructor : (d : ℕ) (ts : List Terminal) → read constructor d ts ≡ piece (rule constructor) d ts
reads_constructor = reads constructor

pub reads_listed : (d : ℕ) (ts : List Terminal) → read listed d ts ≡ piece (rule listed) d ts
reads_listed = reads listed

pub reads_simple : (d : ℕ) (ts : List Terminal) → read simple d ts ≡ piece (rule simple) d ts
reads_simple = reads simple

pub reads_variable : (d : ℕ) (ts : List Terminal) → read variable d ts ≡ piece (rule variable) d ts
reads_variable = reads variable

pub reads_grouped : (d : ℕ) (ts : List Terminal) → read grouped d ts ≡ piece (rule grouped) d ts
reads_grouped = reads grouped
