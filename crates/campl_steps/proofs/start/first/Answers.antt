use Rattle.std.proofs.Common.{ap, ◌∙◌, arith, ◌++◌, ◌-◌, length, IfOk, Result, Ok, Err}
use Rattle.std.specs.Prelude.{replicate}
use Rattle.campl_value.specs.Tree.{Nil}
use Rattle.campl_eval.specs.View.{code_of}
use Rattle.campl_parts.specs.Ends.{ends_of}
use Rattle.campl_parts.specs.Views.{life_of}
use Rattle.campl_steps.proofs.Starting.{first_life}
use Rattle.campl_steps.proofs.start.first.Goals as goal

then : {A E : Type 0} (P Q : A → Type 0) (r : Result A E) → ((a : A) → P a → Q a) → IfOk r P → IfOk r Q
then P Q (Ok a) f h = f a h
then P Q (Err e) f h = tt

pub returns : goal.returns
returns c = then _ _ c.begin.result (λ life h.
    first_life (code_of c.args.program.now) c.args.number c.args.count c.block_of.result c.missing.result c.pad.new.self (ends_of c.in_ok-ends.ends) (life_of life)
    c.missing.ensures
    (c.in_ok-pad.ensures ∙ ap (λ l. l ++ replicate (c.missing.result - length l) Nil) c.new-variables.ensures ∙ ap (λ k. replicate k Nil) (omega arith))
    c.block_of.ensures c.in_ok-ends.ensures h) c.begin.ensures
