use Rattle.std.proofs.Common.{subst}
use Rattle.campl_tree.specs.View.{view_seq}
use Rattle.campl_seqcheck.specs.Answered.{IsVerdict}
use Rattle.campl_seqcheck.specs.Fitting.{of_type}
use Rattle.campl_seqcheck.proofs.fitting.is_text.Goals as goal

pub returns : goal.returns
returns c xs =
    subst (λ own. IsVerdict (λ _. xs) (of_type c.args.at own (view_seq c.args.t.now) xs) c.of_type.result) c.in_ok-own.ensures (c.of_type.ensures xs)
