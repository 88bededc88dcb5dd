use Rattle.campl_names.proofs.Unlike.{not-Int, not-Char, not-Bool, not-List, not-Pair, not-Named, not-Variable, not-as-long}
use Rattle.campl_names.proofs.same.+same.Goals as goal

pub same_seq-returns-in_default : goal.same_seq-returns-in_default
same_seq-returns-in_default t c = not-Int _ _ c.in_default.is-0 c.in_default.not-Int-1

pub same_seq-returns-in_default-2 : goal.same_seq-returns-in_default-2
same_seq-returns-in_default-2 t c = not-Char _ _ c.in_default.is-0 c.in_default.not-Char-1

pub same_seq-returns-in_default-3 : goal.same_seq-returns-in_default-3
same_seq-returns-in_default-3 t c = not-Bool _ _ c.in_default.is-0 c.in_default.not-Bool-1

pub same_seq-returns-in_default-4 : goal.same_seq-returns-in_default-4
same_seq-returns-in_default-4 t c = not-List _ _ _ c.in_default.is-0 c.in_default.not-List-1

pub same_seq-returns-in_default-5 : goal.same_seq-returns-in_default-5
same_seq-returns-in_default-5 t c = not-Pair _ _ _ _ c.in_default.is-0 c.in_default.not-Pair-1

pub same_seq-returns-in_default-6 : goal.same_seq-returns-in_default-6
same_seq-returns-in_default-6 t c = not-Named _ _ _ _ _ c.in_default.is-0 c.in_default.not-Named-1

pub same_seq-returns-in_default-7 : goal.same_seq-returns-in_default-7
same_seq-returns-in_default-7 t c = not-Variable _ _ _ _ c.in_default.is-0 c.in_default.not-Variable-1

pub same_seqs-returns-then-ts-us : goal.same_seqs-returns-then-ts-us
same_seqs-returns-then-ts-us t c = not-as-long _ _ c.if-ts-us.true
