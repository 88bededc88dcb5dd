use Rattle.std.proofs.Common.{Some, rules}
use Rattle.campl_value.proofs.Lists.{order_of_texts}
use Rattle.campl_value.proofs.value.Value.compare.Goals as goal

pub returns-in-Int-Int-clause-texts : goal.returns-in-Int-Int-clause-texts
returns-in-Int-Int-clause-texts c = order_of_texts (Some c.cmp.result) c.args.self.now c.args.other.now (search rules)

pub returns-in-Char-Char-clause-texts : goal.returns-in-Char-Char-clause-texts
returns-in-Char-Char-clause-texts c = order_of_texts (Some c.cmp-in-Char-Char.result) c.args.self.now c.args.other.now (search rules)

pub returns-in-Truth-Truth-clause-texts : goal.returns-in-Truth-Truth-clause-texts
returns-in-Truth-Truth-clause-texts c = order_of_texts (Some c.cmp-in-Truth-Truth.result) c.args.self.now c.args.other.now (search rules)

pub returns-in_default-clause-texts : goal.returns-in_default-clause-texts
returns-in_default-clause-texts c = order_of_texts c.compare_texts.result c.args.self.now c.args.other.now (search rules)
