use Rattle.std.proofs.Common.{◌≡◌, ◌≢◌, ℕ, List, None, Err, ap, sym, ◌∙◌, arith, rules}
use Rattle.std.proofs.lemmas.Grind.{common_steps}
use Rattle.campl_tree.specs.declared.place.Place.{Place}
use Rattle.campl_lex.specs.Layout.{laid, adds}
use Rattle.campl_lex.specs.declared.fault.LexFault.TheVariants.{OutOfMemory}
use Rattle.campl_lex.proofs.Follows.{goes_on, fails_here, ends_here}
use Rattle.campl_lex.proofs.blocks.Progress.put_all.Goals as goal

pub returns-in_err-put_before-clause-err : goal.returns-in_err-put_before-clause-err
returns-in_err-put_before-clause-err c =
    let fault = c.in_err-put_before.field-0.0 in
    let h : fault ≢ OutOfMemory → (text : List ℕ) (end : Place) → laid text end c.args.self.now.stack None c.args.tokens.now ≡ Err fault =
    λ some text end.
    fails_here text c.args.tokens.now c.loop-token.token-index _ (c.loop-token-test.true) c.loop-token.self.stack c.loop-token.last c.loop-token.self.tokens.items
    end c.args.self.now.tokens.items _ fault (c.in_err-put_before.ensures some) (c.loop-token.invariant text end) in
    first_of (search rules, grind (arith, common_steps))

pub loop-token-preserved : goal.loop-token-preserved
loop-token-preserved c =
    λ text end.
    rw (c.in_ok-put.ensures.ok, c.in_ok-put.ensures.stack)
    (goes_on text c.args.tokens.now c.loop-token.token-index _ c.loop-token-test.true c.loop-token.self.stack c.loop-token.last c.loop-token.self.tokens.items
    end _ _ c.in_ok-put_before.ensures
    ∙ c.loop-token.invariant text end)

pub returns-clause-ok : goal.returns-clause-ok
returns-clause-ok c =
    λ text end.
    sym (c.loop-token.invariant text end)
    ∙ ap (adds c.loop-token.self.tokens.items) (ends_here text end c.loop-token.self.stack c.loop-token.last c.args.tokens.now c.loop-token.token-index c.loop-token-test.false)
