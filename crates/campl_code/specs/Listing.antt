-- The listing of code: a line for each block, with a line for each of its instructions, and a line for each decision.
use Rattle.std.specs.Prelude.{ℕ, suc, Bool, true, false, List, [], ◌∷◌, ◌++◌, Some, None, codes, flat_map, if◌then◌else◌, ◌==◌, length, encode_utf8_all}
use Rattle.std.specs.Fmt.{decimal, signed_decimal}
use Rattle.campl_tree.specs.declared.expr.Arithmetic.{Arithmetic}
use Rattle.campl_tree.specs.declared.expr.Arithmetic.TheVariants as a
use Rattle.campl_tree.specs.declared.expr.Comparison.{Comparison}
use Rattle.campl_tree.specs.declared.expr.Comparison.TheVariants as c
use Rattle.campl_tree.specs.declared.service.Side.{Side}
use Rattle.campl_tree.specs.declared.service.Side.TheVariants.{Input, Output}
use Rattle.campl_value.specs.Shown.{shown_character}
use Rattle.campl_code.specs.Decisions.{Decision}
use Rattle.campl_code.specs.Instructions.{Operation, Instr, Block, Code}
use Rattle.campl_code.specs.Instructions as i

-- Operands

abbrev pub arithmetic_word : Arithmetic → List ℕ
arithmetic_word a.Add = codes "add"
arithmetic_word a.Subtract = codes "sub"
arithmetic_word a.Multiply = codes "mul"
arithmetic_word a.Divide = codes "div"
arithmetic_word a.Remainder = codes "mod"

abbrev pub comparison_word : Comparison → List ℕ
comparison_word c.Equal = codes "eq"
comparison_word c.Different = codes "ne"
comparison_word c.Less = codes "lt"
comparison_word c.AtMost = codes "le"
comparison_word c.Greater = codes "gt"
comparison_word c.AtLeast = codes "ge"

abbrev pub operation_word : Operation → List ℕ
operation_word (i.Calculate op) = arithmetic_word op
operation_word (i.Compare op) = comparison_word op
operation_word i.Negate = codes "neg"
operation_word i.Append = codes "append"
operation_word i.CodeOf = codes "code"
operation_word i.CharOf = codes "char"

abbrev pub truth_word : Bool → List ℕ
truth_word true = codes "True"
truth_word false = codes "False"

abbrev pub side_word : Side → List ℕ
side_word Input = codes "in"
side_word Output = codes "out"

-- a character within quotes
abbrev pub quoted_character : ℕ → List ℕ
quoted_character c = if c == 34 then codes "\\\"" else shown_character c

abbrev pub quoted : List ℕ → List ℕ
quoted text = codes "\"" ++ (flat_map quoted_character text ++ codes "\"")

-- numbers joined by commas
abbrev pub number_list : List ℕ → List ℕ
number_list [] = codes "-"
number_list (n ∷ ns) = decimal n ++ flat_map (λ m. codes "," ++ decimal m) ns

-- Lines

-- a word, and each operand behind a space
abbrev pub with_operands : List ℕ → List (List ℕ) → List ℕ
with_operands word operands = word ++ flat_map (λ x. codes " " ++ x) operands

abbrev pub with_numbers : List ℕ → List ℕ → List ℕ
with_numbers word numbers = word ++ flat_map (λ n. codes " " ++ decimal n) numbers

abbrev pub instruction_text : Instr → List ℕ
instruction_text (i.Int n) = with_operands (codes "int") (signed_decimal n ∷ [])
instruction_text (i.Char n) = with_numbers (codes "char") (n ∷ [])
instruction_text (i.Truth b) = with_operands (codes "bool") (truth_word b ∷ [])
instruction_text i.Nil = codes "nil"
instruction_text (i.Text text) = with_operands (codes "text") (quoted text ∷ [])
instruction_text (i.Load v) = with_numbers (codes "load") (v ∷ [])
instruction_text i.Cons = codes "cons"
instruction_text i.Pair = codes "pair"
instruction_text (i.Build k parts) = with_numbers (codes "build") (k ∷ parts ∷ [])
instruction_text (i.Op op) = with_operands (codes "op") (operation_word op ∷ [])
instruction_text (i.Jump to) = with_numbers (codes "jump") (to ∷ [])
instruction_text (i.Unless to) = with_numbers (codes "unless") (to ∷ [])
instruction_text (i.Call f) = with_numbers (codes "call") (f ∷ [])
instruction_text (i.Match m v places) = with_operands (codes "match") (decimal m ∷ decimal v ∷ number_list places ∷ [])
instruction_text i.Return = codes "return"
instruction_text (i.Case m v places) = with_operands (codes "case") (decimal m ∷ decimal v ∷ number_list places ∷ [])
instruction_text (i.Put e) = with_numbers (codes "put") (e ∷ [])
instruction_text (i.Get e v) = with_numbers (codes "get") (e ∷ v ∷ [])
instruction_text (i.Pick e k) = with_numbers (codes "pick") (e ∷ k ∷ [])
instruction_text (i.Split e l r) = with_numbers (codes "split") (e ∷ l ∷ r ∷ [])
instruction_text (i.Close e) = with_numbers (codes "close") (e ∷ [])
instruction_text (i.Offer e places) = with_operands (codes "offer") (decimal e ∷ number_list places ∷ [])
instruction_text (i.Fork e l r to) = with_numbers (codes "fork") (e ∷ l ∷ r ∷ to ∷ [])
instruction_text (i.Halt None) = codes "halt"
instruction_text (i.Halt (Some e)) = with_numbers (codes "halt") (e ∷ [])
instruction_text (i.Link e f) = with_numbers (codes "link") (e ∷ f ∷ [])
instruction_text (i.LinkNeg e f) = with_numbers (codes "linkneg") (e ∷ f ∷ [])
instruction_text (i.Peel e side to) = with_operands (codes "peel") (decimal e ∷ side_word side ∷ decimal to ∷ [])
instruction_text (i.Race places) = with_operands (codes "race") (number_list places ∷ [])
instruction_text (i.Go p channels) = with_operands (codes "go") (decimal p ∷ number_list channels ∷ [])

abbrev pub in_line : List ℕ → List ℕ
in_line text = text ++ 10 ∷ []

-- the instructions from a place on, each with its place
abbrev pub instruction_lines : ℕ → List Instr → List ℕ
instruction_lines at [] = []
instruction_lines at (x ∷ code) = in_line (codes "  " ++ (decimal at ++ (codes " " ++ instruction_text x))) ++ instruction_lines (suc at) code

abbrev pub function_lines : Block → List ℕ
function_lines b = in_line (with_operands (codes "function") (b.name ∷ decimal b.variables ∷ [])) ++ instruction_lines 0 b.code

abbrev pub process_lines : Block → List ℕ
process_lines b = in_line (with_operands (codes "process") (b.name ∷ decimal b.variables ∷ decimal b.inputs ∷ decimal b.outputs ∷ [])) ++ instruction_lines 0 b.code

-- the decisions from a number on, each with the number of its rows
abbrev pub decision_lines : ℕ → List Decision → List ℕ
decision_lines m [] = []
decision_lines m (d ∷ ds) = in_line (with_operands (codes "decision") (decimal m ∷ codes "rows" ∷ decimal (length d.bound) ∷ [])) ++ decision_lines (suc m) ds

-- functions, processes and decisions, in UTF-8
abbrev pub listing : Code → List ℕ
listing code = encode_utf8_all (flat_map function_lines code.functions ++ (flat_map process_lines code.processes ++ decision_lines 0 code.decisions))
