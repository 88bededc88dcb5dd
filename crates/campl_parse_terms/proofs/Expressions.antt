-- What is read after a left operand, one term more.
use Rattle.std.proofs.Common.{◌≡◌, List, Ok, Err, refl}
use Rattle.campl_tree.specs.declared.place.Place.{Place}
use Rattle.campl_tree.specs.declared.expr.Expr.{Expr}
use Rattle.campl_tree.specs.declared.expr.Expr.TheVariants as e
use Rattle.campl_tree.specs.declared.expr.Arithmetic.{Arithmetic}
use Rattle.campl_gram.specs.Reading.{Outcome, and_then}
use Rattle.campl_grammar.specs.Terminal.{Terminal}
use Rattle.campl_grammar.specs.Trees as t
use Rattle.campl_parse_terms.specs.Expressions.{calculates}

-- the first term belongs to the left operand of the others
pub calculates_one : (at : Place) (left y : Expr) (op : Arithmetic) (o : Outcome Terminal (List t.Term))
    → calculates at (e.Calculate at left op y) o ≡ calculates at left (and_then (and_then o (λ ts r. (Ok (t.terms_of y ts), r))) (λ f r. (Ok (f op), r)))
calculates_one at left y op (Ok ts, r) = refl
calculates_one at left y op (Err f, r) = refl
