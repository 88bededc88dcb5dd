-- What an operation makes of its operands: a value, or a break.
use Rattle.std.specs.Prelude.{pos, nat_le, Option, Some, None, if◌then◌else◌}
use Rattle.std.specs.Int.{w64, int_wrapping_neg}
use Rattle.campl_tree.specs.declared.expr.Comparison.{Comparison}
use Rattle.campl_tree.specs.declared.expr.Arithmetic.{Arithmetic}
use Rattle.campl_value.specs.Tree.{Tree, Int, Char, Truth, depth_of}
use Rattle.campl_value.specs.List.{appended}
use Rattle.campl_value.specs.Compare.{compared}
use Rattle.campl_value.specs.declared.value.TheConstants.{MAX_DEPTH}
use Rattle.campl_evaluation.specs.Evaluation.{int, char, calculated, holds, char_of}

pub data Break : Type 0 where
  TooDeep : Break
  Faulty : Break

pub data Result : Type 0 where
  Value : Tree → Result
  Broken : Break → Result

abbrev pub perhaps : {A : Type 0} → Option A → (A → Result) → Result
perhaps None next = Broken Faulty
perhaps (Some a) next = next a

abbrev pub fitting : Tree → Result
fitting t = if nat_le (depth_of t) MAX_DEPTH then Value t else Broken TooDeep

abbrev pub calculates : Arithmetic → Tree → Tree → Result
calculates op v u = perhaps (int v) (λ x. perhaps (int u) (λ y. Value (Int (calculated op x y))))

abbrev pub compares : Comparison → Tree → Tree → Result
compares op v u = perhaps (compared v u) (λ o. Value (Truth (holds op o)))

abbrev pub appends : Tree → Tree → Result
appends v u = perhaps (appended v u) fitting

abbrev pub negates : Tree → Result
negates v = perhaps (int v) (λ x. Value (Int (int_wrapping_neg w64 x)))

abbrev pub codes : Tree → Result
codes v = perhaps (char v) (λ c. Value (Int (pos c)))

abbrev pub chars : Tree → Result
chars v = perhaps (int v) (λ x. Value (Char (char_of x)))
