use Rattle.std.proofs.Common.{◌≡◌, sym, ap, ◌∙◌, true, false}
use Rattle.campl_run.specs.Left.{has_some, is_broken, is_running}
use Rattle.campl_run.proofs.Leaving.{left-broken, left-running, none-broken, none-running}
use Rattle.campl_run.proofs.ended.ended_at_rest.Goals as goal

pub returns-then-has_broken : goal.returns-then-has_broken
returns-then-has_broken c =
    let ps = c.args.config.now.processes.items in
    let broken : has_some is_broken ps ≡ true = ap (has_some is_broken) (sym c.as_slice.ensures.value) ∙ (sym c.has_broken.ensures ∙ c.if-has_broken.true) in
    left-broken ps c.args.config.now.ends.items broken

pub returns-then-has_running : goal.returns-then-has_running
returns-then-has_running c =
    let ps = c.args.config.now.processes.items in
    let broken : has_some is_broken ps ≡ false = ap (has_some is_broken) (sym c.as_slice.ensures.value) ∙ (sym c.has_broken.ensures ∙ c.if-has_broken.false) in
    let running : has_some is_running ps ≡ true = ap (has_some is_running) (sym c.as_slice-2.ensures.value) ∙ (sym c.has_running.ensures ∙ c.if-has_running.true) in
    (left-running ps c.args.config.now.ends.items running, none-broken ps c.args.config.now.ends.items broken)

pub returns : goal.returns
returns c =
    let ps = c.args.config.now.processes.items in
    let running : has_some is_running ps ≡ false = ap (has_some is_running) (sym c.as_slice-2.ensures.value) ∙ (sym c.has_running.ensures ∙ c.if-has_running.false) in
    none-running ps c.args.config.now.ends.items running
