-- The words of a listing are spelled by their letters.
use Rattle.std.proofs.Common.{◌≡◌, refl}
use Rattle.std.specs.Prelude.{codes}
use Rattle.std.specs.Str.{chars}

pub spelled-add : chars (codes "add") ≡ codes "add"
unfolding chars
spelled-add = refl

pub spelled-sub : chars (codes "sub") ≡ codes "sub"
unfolding chars
spelled-sub = refl

pub spelled-mul : chars (codes "mul") ≡ codes "mul"
unfolding chars
spelled-mul = refl

pub spelled-div : chars (codes "div") ≡ codes "div"
unfolding chars
spelled-div = refl

pub spelled-mod : chars (codes "mod") ≡ codes "mod"
unfolding chars
spelled-mod = refl

pub spelled-eq : chars (codes "eq") ≡ codes "eq"
unfolding chars
spelled-eq = refl

pub spelled-ne : chars (codes "ne") ≡ codes "ne"
unfolding chars
spelled-ne = refl

pub spelled-lt : chars (codes "lt") ≡ codes "lt"
unfolding chars
spelled-lt = refl

pub spelled-le : chars (codes "le") ≡ codes "le"
unfolding chars
spelled-le = refl

pub spelled-gt : chars (codes "gt") ≡ codes "gt"
unfolding chars
spelled-gt = refl

pub spelled-ge : chars (codes "ge") ≡ codes "ge"
unfolding chars
spelled-ge = refl

pub ruleset operators = (spelled-add, spelled-sub, spelled-mul, spelled-div, spelled-mod, spelled-eq, spelled-ne, spelled-lt, spelled-le, spelled-gt, spelled-ge)

pub spelled-neg : chars (codes "neg") ≡ codes "neg"
unfolding chars
spelled-neg = refl

pub spelled-append : chars (codes "append") ≡ codes "append"
unfolding chars
spelled-append = refl

pub spelled-code : chars (codes "code") ≡ codes "code"
unfolding chars
spelled-code = refl

pub spelled-char : chars (codes "char") ≡ codes "char"
unfolding chars
spelled-char = refl

pub spelled-true : chars (codes "True") ≡ codes "True"
unfolding chars
spelled-true = refl

pub spelled-false : chars (codes "False") ≡ codes "False"
unfolding chars
spelled-false = refl

pub spelled-in : chars (codes "in") ≡ codes "in"
unfolding chars
spelled-in = refl

pub spelled-out : chars (codes "out") ≡ codes "out"
unfolding chars
spelled-out = refl

pub ruleset operands = (spelled-neg, spelled-append, spelled-code, spelled-char, spelled-true, spelled-false, spelled-in, spelled-out)

pub spelled-bool : chars (codes "bool") ≡ codes "bool"
unfolding chars
spelled-bool = refl

pub spelled-nil : chars (codes "nil") ≡ codes "nil"
unfolding chars
spelled-nil = refl

pub spelled-load : chars (codes "load") ≡ codes "load"
unfolding chars
spelled-load = refl

pub spelled-cons : chars (codes "cons") ≡ codes "cons"
unfolding chars
spelled-cons = refl

pub spelled-pair : chars (codes "pair") ≡ codes "pair"
unfolding chars
spelled-pair = refl

pub spelled-build : chars (codes "build") ≡ codes "build"
unfolding chars
spelled-build = refl

pub spelled-op : chars (codes "op") ≡ codes "op"
unfolding chars
spelled-op = refl

pub spelled-jump : chars (codes "jump") ≡ codes "jump"
unfolding chars
spelled-jump = refl

pub spelled-unless : chars (codes "unless") ≡ codes "unless"
unfolding chars
spelled-unless = refl

pub spelled-call : chars (codes "call") ≡ codes "call"
unfolding chars
spelled-call = refl

pub spelled-match : chars (codes "match") ≡ codes "match"
unfolding chars
spelled-match = refl

pub spelled-return : chars (codes "return") ≡ codes "return"
unfolding chars
spelled-return = refl

pub spelled-case : chars (codes "case") ≡ codes "case"
unfolding chars
spelled-case = refl

pub spelled-put : chars (codes "put") ≡ codes "put"
unfolding chars
spelled-put = refl

pub spelled-get : chars (codes "get") ≡ codes "get"
unfolding chars
spelled-get = refl

pub spelled-pick : chars (codes "pick") ≡ codes "pick"
unfolding chars
spelled-pick = refl

pub spelled-split : chars (codes "split") ≡ codes "split"
unfolding chars
spelled-split = refl

pub spelled-close : chars (codes "close") ≡ codes "close"
unfolding chars
spelled-close = refl

pub spelled-offer : chars (codes "offer") ≡ codes "offer"
unfolding chars
spelled-offer = refl

pub spelled-fork : chars (codes "fork") ≡ codes "fork"
unfolding chars
spelled-fork = refl

pub spelled-halt : chars (codes "halt") ≡ codes "halt"
unfolding chars
spelled-halt = refl

pub spelled-link : chars (codes "link") ≡ codes "link"
unfolding chars
spelled-link = refl

pub spelled-linkneg : chars (codes "linkneg") ≡ codes "linkneg"
unfolding chars
spelled-linkneg = refl

pub spelled-peel : chars (codes "peel") ≡ codes "peel"
unfolding chars
spelled-peel = refl

pub spelled-race : chars (codes "race") ≡ codes "race"
unfolding chars
spelled-race = refl

pub spelled-go : chars (codes "go") ≡ codes "go"
unfolding chars
spelled-go = refl

pub spelled-int : chars (codes "int") ≡ codes "int"
unfolding chars
spelled-int = refl

pub spelled-text : chars (codes "text") ≡ codes "text"
unfolding chars
spelled-text = refl

pub ruleset instructions = (spelled-bool, spelled-nil, spelled-load, spelled-cons, spelled-pair, spelled-build, spelled-op, spelled-jump, spelled-unless, spelled-call, spelled-match, spelled-return, spelled-case, spelled-put, spelled-get, spelled-pick, spelled-split, spelled-close, spelled-offer, spelled-fork, spelled-halt, spelled-link, spelled-linkneg, spelled-peel, spelled-race, spelled-go, spelled-int, spelled-text, spelled-char)

pub spelled-quote : chars (codes "\\\"") ≡ codes "\\\""
unfolding chars
spelled-quote = refl

pub spelled-backslash : chars (codes "\\\\") ≡ codes "\\\\"
unfolding chars
spelled-backslash = refl

pub spelled-line : chars (codes "\\n") ≡ codes "\\n"
unfolding chars
spelled-line = refl

pub spelled-end : chars (codes "\\r") ≡ codes "\\r"
unfolding chars
spelled-end = refl

pub spelled-tab : chars (codes "\\t") ≡ codes "\\t"
unfolding chars
spelled-tab = refl

pub ruleset escapes = (spelled-quote, spelled-backslash, spelled-line, spelled-end, spelled-tab)

pub spelled-function : chars (codes "function") ≡ codes "function"
unfolding chars
spelled-function = refl

pub spelled-process : chars (codes "process") ≡ codes "process"
unfolding chars
spelled-process = refl

pub spelled-decision : chars (codes "decision") ≡ codes "decision"
unfolding chars
spelled-decision = refl

pub spelled-rows : chars (codes "rows") ≡ codes "rows"
unfolding chars
spelled-rows = refl

pub spelled-indent : chars (codes "  ") ≡ codes "  "
unfolding chars
spelled-indent = refl

pub spelled-nothing : chars (codes "") ≡ codes ""
unfolding chars
spelled-nothing = refl

pub ruleset headings = (spelled-function, spelled-process, spelled-decision, spelled-rows, spelled-indent, spelled-nothing)
